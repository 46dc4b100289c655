use Rattle.fec_mmd.proofs.After.{after_read_is}
use Rattle.fec_mmd.proofs.calls.FecMmdMmd.read.Goals as goal

pub returns : goal.returns
returns c = record { word = c.word-word.ensures; after = let e = after_read_is c.args.self.now c.args.register in cc }
