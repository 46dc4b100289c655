-- What each call does to a row's state.
use Rattle.std.specs.Prelude.{ℕ, ◌/◌, ◌^◌, Bool, true, false, if◌then◌else◌, not, ◌&&◌, ◌==◌, bit_or}
use Rattle.bits.specs.Bits.{bit}
use Rattle.rows.specs.Rows.{covers}
use Rattle.table_mmd.specs.declared.entry.Entry.{Entry}
use Rattle.rows.specs.declared.fitting.FittingRow.{FittingRow}
use Rattle.rows.specs.declared.row.Content.{Content}
use Rattle.rows.specs.declared.row.Content.TheVariants.{Fixed, Follower, LatchingHigh, LatchingLow, Setting, SelfClearing, ShortCounter, HighHalf, LowHalf}

-- a state that is one at every place, or at none
abbrev pub alike : Bool → ℕ
alike one = if one then 65535 else 0

abbrev pub with_state : Entry → ℕ → Entry
with_state e s = record { row = e.row; state = s }

-- ---- read

abbrev pub relatched_state : ℕ → Content → ℕ → ℕ
relatched_state lines (Fixed v) s = s
relatched_state lines (Follower l) s = s
relatched_state lines (LatchingHigh l) s = alike (bit lines l)
relatched_state lines (LatchingLow l) s = alike (bit lines l)
relatched_state lines (Setting d) s = s
relatched_state lines SelfClearing s = s
relatched_state lines (ShortCounter k) s = s
relatched_state lines (HighHalf k) s = s
relatched_state lines (LowHalf k) s = s

abbrev pub relatch : ℕ → ℕ → Entry → Entry
relatch lines r e = if e.row.listed.register == r then with_state e (relatched_state lines e.row.content e.state) else e

-- ---- write: w is the written word from the row's lowest bit on

abbrev pub written_state : ℕ → Content → ℕ → ℕ
written_state w (Fixed v) s = s
written_state w (Follower l) s = s
written_state w (LatchingHigh l) s = s
written_state w (LatchingLow l) s = s
written_state w (Setting d) s = w
written_state w SelfClearing s = bit_or w s
written_state w (ShortCounter k) s = s
written_state w (HighHalf k) s = s
written_state w (LowHalf k) s = s

abbrev pub write_row : ℕ → ℕ → Entry → Entry
write_row r word e =
    if e.row.listed.register == r then with_state e (written_state (word / 2 ^ e.row.listed.low) e.row.content e.state) else e

-- ---- line

abbrev pub moved_state : ℕ → Bool → Content → ℕ → ℕ
moved_state n up (Fixed v) s = s
moved_state n up (Follower l) s = s
moved_state n up (LatchingHigh l) s = if l == n && up then alike true else s
moved_state n up (LatchingLow l) s = if l == n && not up then alike false else s
moved_state n up (Setting d) s = s
moved_state n up SelfClearing s = s
moved_state n up (ShortCounter k) s = s
moved_state n up (HighHalf k) s = s
moved_state n up (LowHalf k) s = s

abbrev pub move_line : ℕ → Bool → Entry → Entry
move_line n up e = with_state e (moved_state n up e.row.content e.state)

-- ---- finish: a self-clearing row is one bit

abbrev pub finished_state : Content → ℕ → ℕ
finished_state (Fixed v) s = s
finished_state (Follower l) s = s
finished_state (LatchingHigh l) s = s
finished_state (LatchingLow l) s = s
finished_state (Setting d) s = s
finished_state SelfClearing s = 0
finished_state (ShortCounter k) s = s
finished_state (HighHalf k) s = s
finished_state (LowHalf k) s = s

abbrev pub finish_bit : ℕ → ℕ → Entry → Entry
finish_bit r b e = if covers e.row.listed r b then with_state e (finished_state e.row.content e.state) else e

-- ---- reset

abbrev pub reset_state : ℕ → Content → ℕ
reset_state lines (Fixed v) = 0
reset_state lines (Follower l) = 0
reset_state lines (LatchingHigh l) = alike (bit lines l)
reset_state lines (LatchingLow l) = alike (bit lines l)
reset_state lines (Setting d) = d
reset_state lines SelfClearing = 0
reset_state lines (ShortCounter k) = 0
reset_state lines (HighHalf k) = 0
reset_state lines (LowHalf k) = 0

abbrev pub reset_row : ℕ → Entry → Entry
reset_row lines e = with_state e (reset_state lines e.row.content)

-- ---- a row to which nothing has happened, its line down

abbrev pub new_state : Content → ℕ
new_state (Fixed v) = 0
new_state (Follower l) = 0
new_state (LatchingHigh l) = 0
new_state (LatchingLow l) = 0
new_state (Setting d) = d
new_state SelfClearing = 0
new_state (ShortCounter k) = 0
new_state (HighHalf k) = 0
new_state (LowHalf k) = 0

abbrev pub new_entry : FittingRow → Entry
new_entry row = record { row = row; state = new_state row.content }
