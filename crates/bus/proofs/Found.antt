-- Where a deed leaves the search and the other slots: below the laws by address.
use Rattle.std.proofs.Common.{◌≡◌, ℕ, zero, suc, ◌<◌, Bool, true, false, if◌then◌else◌, List, [], ◌∷◌, map, length, is_ok, Some, None, Option, refl, ap, subst, arith}
use Rattle.std.proofs.lemmas.Bool.Decides.{nat_tests}
use Rattle.std.specs.List.{AllByRecursion}
use Rattle.bank.proofs.Sides.{Below, earliest_below}
use Rattle.bank.specs.Deeds.{after_at, after_deed, done, done_at}
use Rattle.bank.specs.Searches.{is_wanted, suits}
use Rattle.bank.specs.Slots.{SlotMeaning, earliest, next_place, numbered}
use Rattle.bank.specs.declared.deed.Deed.{Deed}
use Rattle.bank.specs.declared.deed.Deed.TheVariants.{Frame, Event}
use Rattle.bank.specs.declared.wanted.Wanted.{Wanted}
use Rattle.bank.specs.declared.wanted.Wanted.TheVariants.{Port as PortWanted, Mmd as MmdWanted}
use Rattle.frame.specs.Addresses.{same_address}
use Rattle.frame.specs.declared.address.MmdAddress.{MmdAddress}
use Rattle.frame.specs.declared.frame.Operation.TheVariants.{Address, Write, Read, PostReadIncrement}
use Rattle.mmd.proofs.Kept.{read_keeps, write_keeps, line_keeps, count_keeps, finish_keeps, reset_keeps}
use Rattle.mmd.specs.Events.{after_count, after_finish}
use Rattle.mmd.specs.Invariant.{Keeps}
use Rattle.mmd.specs.Meaning.{Meaning}
use Rattle.mmd.specs.Refusals.{count_answer, finish_answer}
use Rattle.mmd.specs.declared.event.Event.TheVariants.{Line, Count, Finish, Reset}
use Rattle.bus.specs.Answers.{after_found, port_at, slot_at}
use Rattle.bus.specs.Places.{found, mmd_at, on_found}

-- ---- a deed keeps where a slot stands

pub stays_at_address : (deed : Deed) (s : SlotMeaning) → (after_deed deed s).address ≡ s.address
stays_at_address (Frame (Address register)) s = refl
stays_at_address (Frame (Write w)) s = refl
stays_at_address (Frame Read) s = refl
stays_at_address (Frame PostReadIncrement) s = refl
stays_at_address (Event (Line n up)) s = refl
stays_at_address (Event (Count k n)) s = refl
stays_at_address (Event (Finish r b)) s = refl
stays_at_address (Event Reset) s = refl

earliest_after : (deed : Deed) (test : SlotMeaning → Bool) → ((s : SlotMeaning) → test (after_deed deed s) ≡ test s)
    → (n : ℕ) (slots : List SlotMeaning) → earliest test (after_at n deed slots) ≡ earliest test slots
earliest_after deed test same n [] = refl
earliest_after deed test same zero (s ∷ ss) = ap (λ t. if t then Some zero else (next_place (earliest test ss))) (same s)
earliest_after deed test same (suc n) (s ∷ ss) =
    ap (λ rest. if (test s) then Some zero else (next_place rest)) (earliest_after deed test same n ss)

earliest_found : (deed : Deed) (test : SlotMeaning → Bool) → ((s : SlotMeaning) → test (after_deed deed s) ≡ test s)
    → (slots : List SlotMeaning) (at : Option ℕ) → numbered (earliest test (after_found deed slots at)) ≡ numbered (earliest test slots)
earliest_found deed test same slots None = refl
earliest_found deed test same slots (Some n) = ap numbered (earliest_after deed test same n slots)

-- every search finds what it found
search_after : (deed : Deed) (wanted : Wanted) (slots : List SlotMeaning) (at : Option ℕ)
    → numbered (earliest (is_wanted wanted) (after_found deed slots at)) ≡ numbered (earliest (is_wanted wanted) slots)
search_after deed wanted slots at =
    earliest_found deed (is_wanted wanted) (λ s. ap (suits wanted) (stays_at_address deed s)) slots at

pub slot_at_after : (deed : Deed) (address : MmdAddress) (slots : List SlotMeaning) (at : Option ℕ)
    → slot_at address (after_found deed slots at) ≡ slot_at address slots
slot_at_after deed address slots at = search_after deed (MmdWanted address) slots at

pub port_after : (deed : Deed) (port : ℕ) (slots : List SlotMeaning) (at : Option ℕ)
    → port_at port (after_found deed slots at) ≡ port_at port slots
port_after deed port slots at = search_after deed (PortWanted port) slots at

-- ---- the MMD at a slot's number

-- after a deed; after one deed and another
pub mmd_after : (d : Deed) (change : Meaning → Meaning) → ((s : SlotMeaning) → (after_deed d s).mmd ≡ change s.mmd)
    → (n : ℕ) (slots : List SlotMeaning) → mmd_at n (after_at n d slots) ≡ on_found change (mmd_at n slots)
mmd_after d change does n [] = refl
mmd_after d change does zero (s ∷ ss) = ap found (does s)
mmd_after d change does (suc n) (s ∷ ss) = mmd_after d change does n ss

pub mmd_after_two : (d e : Deed) (change : Meaning → Meaning) → ((s : SlotMeaning) → (after_deed e (after_deed d s)).mmd ≡ change s.mmd)
    → (n : ℕ) (slots : List SlotMeaning) → mmd_at n (after_at n e (after_at n d slots)) ≡ on_found change (mmd_at n slots)
mmd_after_two d e change does n [] = refl
mmd_after_two d e change does zero (s ∷ ss) = ap found (does s)
mmd_after_two d e change does (suc n) (s ∷ ss) = mmd_after_two d e change does n ss

-- another number's MMD stays
pub mmd_at_other : (d : Deed) (m n : ℕ) → (m ≡ n → ⊥) → (slots : List SlotMeaning) → mmd_at m (after_at n d slots) ≡ mmd_at m slots
mmd_at_other d m n apart [] = refl
mmd_at_other d zero zero apart (s ∷ ss) = absurd (apart refl)
mmd_at_other d zero (suc n) apart (s ∷ ss) = refl
mmd_at_other d (suc m) zero apart (s ∷ ss) = refl
mmd_at_other d (suc m) (suc n) apart (s ∷ ss) = mmd_at_other d m n (λ e. apart (ap suc e)) ss

-- ---- two addresses find two numbers

abbrev Apart : Option ℕ → Option ℕ → Type 0
Apart a b = (n : ℕ) → a ≡ Some n → b ≡ Some n → ⊥

next_apart : (a b : Option ℕ) → Apart a b → Apart (next_place a) (next_place b)
next_apart None b apart n p q = let z : ◌≡◌ {A = ℕ} 0 1 = cc in omega arith
next_apart (Some j) None apart n p q = let z : ◌≡◌ {A = ℕ} 0 1 = cc in omega arith
next_apart (Some j) (Some k) apart n p q = let e : suc j ≡ suc k = cc in apart j refl (ap Some (omega arith))

first_apart : (a : Option ℕ) → Apart (Some zero) (next_place a)
first_apart None n p q = let z : ◌≡◌ {A = ℕ} 0 1 = cc in omega arith
first_apart (Some j) n p q = let z : zero ≡ suc j = cc in omega arith

step_apart : (x y : Bool) (a b : Option ℕ) → (x ≡ true → y ≡ true → ⊥) → Apart a b
    → Apart (if x then Some zero else (next_place a)) (if y then Some zero else (next_place b))
step_apart true true a b never apart = absurd (never refl refl)
step_apart true false a b never apart = first_apart b
step_apart false true a b never apart = λ n p q. first_apart a n q p
step_apart false false a b never apart = next_apart a b apart

earliest_apart : (p q : SlotMeaning → Bool) → ((s : SlotMeaning) → p s ≡ true → q s ≡ true → ⊥)
    → (slots : List SlotMeaning) → Apart (earliest p slots) (earliest q slots)
earliest_apart p q never [] = λ n a b. let z : ◌≡◌ {A = ℕ} 0 1 = cc in omega arith
earliest_apart p q never (s ∷ ss) =
    step_apart (p s) (q s) (earliest p ss) (earliest q ss) (never s) (earliest_apart p q never ss)

numbered_some : (a : Option ℕ) (n : ℕ) → numbered a ≡ Some n → a ≡ Some n
numbered_some None n e = e
numbered_some (Some k) n e = grind (arith, nat_tests)

pub slots_apart : (address p : MmdAddress) (slots : List SlotMeaning) → same_address address p ≡ false
    → (n : ℕ) → slot_at address slots ≡ Some n → slot_at p slots ≡ Some n → ⊥
slots_apart address p slots other n here there =
    earliest_apart (is_wanted (MmdWanted address)) (is_wanted (MmdWanted p)) (λ s a b. grind (arith, nat_tests)) slots n
    (numbered_some (earliest (is_wanted (MmdWanted address)) slots) n here) (numbered_some (earliest (is_wanted (MmdWanted p)) slots) n there)

-- ---- a found number is a slot's

below_at : (a : Option ℕ) (n count : ℕ) → Below a count → a ≡ Some n → n < count
below_at None n count below e = let z : ◌≡◌ {A = ℕ} 0 1 = cc in absurd (omega arith)
below_at (Some k) n count below e = let same : k ≡ n = cc in omega arith

pub found_within : (address : MmdAddress) (n : ℕ) (slots : List SlotMeaning) → slot_at address slots ≡ Some n → n < length slots
found_within address n slots e =
    let test = is_wanted (MmdWanted address) in
    below_at (earliest test slots) n (length slots) (earliest_below test slots) (numbered_some (earliest test slots) n e)

-- the slot at a number: its MMD, and what it answers to a deed, and to a deed after another
abbrev pub Stands : ℕ → List SlotMeaning → SlotMeaning → Type 0
Stands n slots s =
    (mmd_at n slots ≡ found s.mmd)
    × ((d : Deed) → done_at n d slots ≡ Some (done d s))
    × ((d e : Deed) → done_at n e (after_at n d slots) ≡ Some (done e (after_deed d s)))

pub stands : (n : ℕ) (slots : List SlotMeaning) → n < length slots → (s : SlotMeaning) × Stands n slots s
stands n [] within = absurd (omega arith)
stands zero (s ∷ ss) within = (s, (refl, λ d. refl, λ d e. refl))
stands (suc n) (s ∷ ss) within = stands n ss (omega arith)

-- ---- what every MMD keeps

pub found_of_keeps : (n : ℕ) (slots : List SlotMeaning) (m : Meaning) → AllByRecursion (λ s. Keeps s.mmd) slots → mmd_at n slots ≡ found m → Keeps m
found_of_keeps n [] m keeps e = let z : ◌≡◌ {A = ℕ} 0 1 = cc in absurd (omega arith)
found_of_keeps zero (s ∷ ss) m keeps e = let same : s.mmd ≡ m = cc in subst Keeps same keeps.0
found_of_keeps (suc n) (s ∷ ss) m keeps e = found_of_keeps n ss m keeps.1 e

-- a refused call leaves the MMD as it was
either_keeps : (ok : Bool) (a b : Meaning) → Keeps a → Keeps b → Keeps (if ok then a else b)
either_keeps true a b ka kb = ka
either_keeps false a b ka kb = kb

pub deed_keeps : (deed : Deed) (s : SlotMeaning) → Keeps s.mmd → Keeps (after_deed deed s).mmd
deed_keeps (Frame (Address a)) s keeps = keeps
deed_keeps (Frame (Write w)) s keeps = write_keeps s.mmd keeps s.register w
deed_keeps (Frame Read) s keeps = read_keeps s.mmd keeps s.register
deed_keeps (Frame PostReadIncrement) s keeps = read_keeps s.mmd keeps s.register
deed_keeps (Event (Line n up)) s keeps = line_keeps s.mmd keeps n up
deed_keeps (Event (Count k n)) s keeps =
    either_keeps (is_ok (count_answer s.mmd k)) (after_count s.mmd k n) s.mmd (count_keeps s.mmd keeps k n) keeps
deed_keeps (Event (Finish r b)) s keeps =
    either_keeps (is_ok (finish_answer s.mmd r b)) (after_finish s.mmd r b) s.mmd (finish_keeps s.mmd keeps r b) keeps
deed_keeps (Event Reset) s keeps = reset_keeps s.mmd keeps

pub after_at_keeps : (n : ℕ) (deed : Deed) (slots : List SlotMeaning) → AllByRecursion (λ s. Keeps s.mmd) slots → AllByRecursion (λ s. Keeps s.mmd) (after_at n deed slots)
after_at_keeps n deed [] keeps = tt
after_at_keeps zero deed (s ∷ ss) keeps = (deed_keeps deed s keeps.0, keeps.1)
after_at_keeps (suc n) deed (s ∷ ss) keeps = (keeps.0, after_at_keeps n deed ss keeps.1)

-- ---- the addresses stay

abbrev pub address_in : SlotMeaning → MmdAddress
address_in s = s.address

pub after_at_addresses : (n : ℕ) (deed : Deed) (slots : List SlotMeaning) → map address_in (after_at n deed slots) ≡ map address_in slots
after_at_addresses n deed [] = refl
after_at_addresses zero deed (s ∷ ss) = ap (λ a. a ∷ map address_in ss) (stays_at_address deed s)
after_at_addresses (suc n) deed (s ∷ ss) = ap (λ rest. s.address ∷ rest) (after_at_addresses n deed ss)
