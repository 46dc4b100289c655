-- The number of each refusal of a frame word, as the card's manual lists them.
use Rattle.std.specs.Prelude.{ℕ}
use Rattle.frame.specs.declared.refusal.FrameRefusal.{FrameRefusal}
use Rattle.frame.specs.declared.refusal.FrameRefusal.TheVariants.{Start, Turnaround, Address}

abbrev pub number_of : FrameRefusal → ℕ
number_of Start = 1
number_of Turnaround = 2
number_of Address = 5
