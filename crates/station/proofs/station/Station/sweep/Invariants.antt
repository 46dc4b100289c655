use Rattle.std.proofs.Common.{◌≡◌, true}
use Rattle.promise.specs.Rules.{swept}
use Rattle.station.specs.Named.{all_named}
use Rattle.station.specs.Stations.{state_of, state_over}
use Rattle.station.proofs.station.Station.sweep.Given as goal

-- the list so far is `watched-items`, beside the bus that the loop has borrowed of `self`
abbrev pub invariant-loop-watched : goal.invariant-loop-watched
invariant-loop-watched g l =
    (state_over g.B.Bank.slots l.self.1.0 l.watched-items ≡ swept l.address l.watched-index (state_of g.B.Bank.slots l.fn.self))
    × (all_named l.watched-items ≡ true)
