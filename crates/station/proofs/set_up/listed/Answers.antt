use Rattle.std.proofs.Common.{vec_items, sym}
use Rattle.station.proofs.Named.{named_checked}
use Rattle.station.proofs.set_up.listed.Goals as goal

pub returns-clause-named : goal.returns-clause-named
returns-clause-named c = named_checked c.args.entries.now (vec_items c.in_ok-new_watch.field-0) (sym c.in_ok-check.ensures.answer) c.in_ok-new_watch.ensures
