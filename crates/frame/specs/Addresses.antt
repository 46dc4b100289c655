-- Addresses of MMDs: which ones a frame can name, and when two are one.
use Rattle.std.specs.Prelude.{Bool, ◌&&◌, ◌==◌, nat_le}
use Rattle.frame.specs.declared.address.MmdAddress.{MmdAddress}

abbrev pub addressable : MmdAddress → Bool
addressable address = nat_le address.port 31 && nat_le address.device 31

abbrev pub same_address : MmdAddress → MmdAddress → Bool
same_address a b = a.port == b.port && a.device == b.device
