-- What a bank means: its slots, left to right.
use Rattle.std.specs.Prelude.{ℕ, zero, suc, ◌+◌, Bool, if◌then◌else◌, List, [], ◌∷◌, Some, None, Option, nat_lt}
use Rattle.frame.specs.declared.address.MmdAddress.{MmdAddress}
use Rattle.mmd.specs.Meaning.{Meaning}

pub record SlotMeaning : Type 0 where
  pub address : MmdAddress
  -- the address register: where a write or a read frame acts
  pub register : ℕ
  pub mmd : Meaning

-- the number of the earliest slot that passes a test
abbrev pub next_place : Option ℕ → Option ℕ
next_place None = None
next_place (Some n) = Some (suc n)

abbrev pub earliest : (SlotMeaning → Bool) → List SlotMeaning → Option ℕ
earliest test [] = None
earliest test (s ∷ ss) = if test s then Some zero else next_place (earliest test ss)

-- slots are numbered 0 to 65,535; further ones count as absent
abbrev pub numbered : Option ℕ → Option ℕ
numbered None = None
numbered (Some n) = if nat_lt n 65536 then Some n else None

-- of two banks' answers: the left's, or the right's behind the left's slots
abbrev pub beside : Option ℕ → ℕ → Option ℕ → Option ℕ
beside (Some n) count right = Some n
beside None count None = None
beside None count (Some n) = numbered (Some (count + n))
