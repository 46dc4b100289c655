-- What the station gets when it reads an entry's registers: the words of both, or why there is nothing to read.
use Rattle.std.specs.Prelude.{ℕ, List, None, Option, Result}
use Rattle.bank.specs.Slots.{SlotMeaning}
use Rattle.bus.specs.Places.{Place, no_port, no_device, found}
use Rattle.call.specs.declared.answer.CallRefusal.{CallRefusal}
use Rattle.promise.specs.Rules.{State, data_of, entry_frames, entry_read, first_word, more_frames, place_of, place_verdict, second_word}
use Rattle.watch_list.specs.Entries.{fed_by}
use Rattle.watch_list.specs.Watches.{entry_of}
use Rattle.watch_list.specs.declared.entry.Entry.{Entry}
use Rattle.watch_list.specs.declared.watch.Watched.{Watched}
use Rattle.station.specs.Outcomes.{result_under}

-- 3 or 4 where the entry's MMD is absent
abbrev pub entry_verdict : Entry → List SlotMeaning → Option CallRefusal
entry_verdict e slots = place_verdict (λ _. None) (place_of e slots)

abbrev pub words_at : Entry → Place → ℕ × ℕ
words_at e no_port = (0, 0)
words_at e no_device = (0, 0)
words_at e (found m) = (first_word m e, second_word m e)

-- the station after an entry's registers were read, and before its words took that in
abbrev pub registers_read : Entry → State → State
registers_read e m =
    record { slots = entry_read e m.slots; frames = more_frames (entry_frames e) m.frames; watched = m.watched }

-- what is answered where an entry is taken: the word of its first register
abbrev pub take_answer : Watched → List SlotMeaning → Result ℕ CallRefusal
take_answer w slots = result_under (entry_verdict (entry_of w) slots) (data_of (fed_by (entry_of w)) (place_of (entry_of w) slots))
