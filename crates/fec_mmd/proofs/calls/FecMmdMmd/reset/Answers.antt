use Rattle.fec_mmd.proofs.After.{after_reset_is}
use Rattle.fec_mmd.proofs.calls.FecMmdMmd.reset.Goals as goal

pub returns : goal.returns
returns c = let e = after_reset_is c.args.self.now in cc
