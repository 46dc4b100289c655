use Rattle.fec_mmd.proofs.After.{after_line_is}
use Rattle.fec_mmd.proofs.calls.FecMmdMmd.line.Goals as goal

pub returns : goal.returns
returns c =
    let e = after_line_is c.args.self.now c.args.number c.args.up c.with_bit-self.result c.with_bit-self.ensures in cc
