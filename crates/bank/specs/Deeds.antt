-- What a deed does to the slot that it names, and what it answers.
use Rattle.std.specs.Prelude.{ℕ, zero, suc, ◌+◌, min, if◌then◌else◌, List, [], ◌∷◌, is_ok, Some, None, Ok, Err, Option, Result}
use Rattle.frame.specs.declared.frame.Operation.TheVariants.{Address, Write, Read, PostReadIncrement}
use Rattle.mmd.specs.Events.{after_read, after_write, after_line, after_count, after_finish, after_reset}
use Rattle.mmd.specs.Meaning.{Meaning, read_word}
use Rattle.mmd.specs.Refusals.{count_answer, finish_answer}
use Rattle.mmd.specs.declared.event.Event.TheVariants.{Line, Count, Finish, Reset}
use Rattle.mmd.specs.declared.refusal.MmdRefusal.{MmdRefusal}
use Rattle.bank.specs.Slots.{SlotMeaning}
use Rattle.bank.specs.declared.deed.Deed.{Deed}
use Rattle.bank.specs.declared.deed.Deed.TheVariants.{Frame, Event}

-- the data of a read, none where the deed is taken, or why the MMD refuses
abbrev pub Done : Type 0
Done = Result (Option ℕ) MmdRefusal

abbrev pub taken_as : Result (Unit {0}) MmdRefusal → Done
taken_as (Ok u) = Ok None
taken_as (Err e) = Err e

abbrev pub done : Deed → SlotMeaning → Done
done (Frame (Address register)) s = Ok None
done (Frame (Write w)) s = Ok None
done (Frame Read) s = Ok (Some (read_word s.mmd s.register))
done (Frame PostReadIncrement) s = Ok (Some (read_word s.mmd s.register))
done (Event (Line n up)) s = Ok None
done (Event (Count k n)) s = taken_as (count_answer s.mmd k)
done (Event (Finish r b)) s = taken_as (finish_answer s.mmd r b)
done (Event Reset) s = Ok None

abbrev pub with_mmd : SlotMeaning → Meaning → SlotMeaning
with_mmd s m = record { address = s.address; register = s.register; mmd = m }

abbrev pub with_register : SlotMeaning → ℕ → SlotMeaning
with_register s r = record { address = s.address; register = r; mmd = s.mmd }

-- the address register steps by one, and stays at 65535
abbrev pub stepped : ℕ → ℕ
stepped r = min 65535 (r + 1)

abbrev pub after_deed : Deed → SlotMeaning → SlotMeaning
after_deed (Frame (Address register)) s = with_register s register
after_deed (Frame (Write w)) s = with_mmd s (after_write s.mmd s.register w)
after_deed (Frame Read) s = with_mmd s (after_read s.mmd s.register)
after_deed (Frame PostReadIncrement) s = with_register (with_mmd s (after_read s.mmd s.register)) (stepped s.register)
after_deed (Event (Line n up)) s = with_mmd s (after_line s.mmd n up)
after_deed (Event (Count k n)) s = with_mmd s (if is_ok (count_answer s.mmd k) then after_count s.mmd k n else s.mmd)
after_deed (Event (Finish r b)) s = with_mmd s (if is_ok (finish_answer s.mmd r b) then after_finish s.mmd r b else s.mmd)
after_deed (Event Reset) s = with_mmd s (after_reset s.mmd)

-- at a slot's number; none for a slot that is not there
abbrev pub done_at : ℕ → Deed → List SlotMeaning → Option Done
done_at n d [] = None
done_at zero d (s ∷ ss) = Some (done d s)
done_at (suc n) d (s ∷ ss) = done_at n d ss

abbrev pub after_at : ℕ → Deed → List SlotMeaning → List SlotMeaning
after_at n d [] = []
after_at zero d (s ∷ ss) = after_deed d s ∷ ss
after_at (suc n) d (s ∷ ss) = s ∷ after_at n d ss
