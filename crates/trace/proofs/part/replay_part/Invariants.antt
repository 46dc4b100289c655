use Rattle.std.proofs.Common.{length}
use Rattle.station.specs.Stations.{state_of}
use Rattle.trace.proofs.Worked.{Working}
use Rattle.trace.proofs.part.replay_part.Given as goal

abbrev pub invariant-loop-station : goal.invariant-loop-station
invariant-loop-station g l = Working (state_of g.B.Bank.slots l.initial.station) l.input l.last (state_of g.B.Bank.slots l.station) l.rest l.lines l.written

abbrev pub decreases-loop-station : goal.decreases-loop-station
decreases-loop-station g l = length l.rest
