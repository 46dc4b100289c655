-- The number of each refusal, as the card's manual lists them.
use Rattle.std.specs.Prelude.{ℕ}
use Rattle.trace_format.specs.declared.refusal.BufferRefusal.{BufferRefusal}
use Rattle.trace_format.specs.declared.refusal.BufferRefusal.TheVariants.{Short}
use Rattle.trace_format.specs.declared.refusal.TraceRefusal.{TraceRefusal}
use Rattle.trace_format.specs.declared.refusal.TraceRefusal.TheVariants.{UnlistedMap, CutRecord}

abbrev pub trace_number : TraceRefusal → ℕ
trace_number UnlistedMap = 30
trace_number CutRecord = 31

abbrev pub buffer_number : BufferRefusal → ℕ
buffer_number Short = 32
