-- Two addresses that pass the test are one.
use Rattle.std.proofs.Common.{◌≡◌, ℕ, true, ap₂, arith}
use Rattle.std.proofs.lemmas.Bool.Decides.{nat_tests}
use Rattle.frame.specs.Addresses.{same_address}
use Rattle.frame.specs.declared.address.MmdAddress.{MmdAddress}

pub one_address : (a b : MmdAddress) → same_address a b ≡ true → a ≡ b
one_address a b same =
    let port : a.port ≡ b.port = grind (arith, nat_tests) in
    let device : a.device ≡ b.device = grind (arith, nat_tests) in
    ap₂ (λ (p d : ℕ). record { port = p; device = d }) port device
