-- What the rows show together is what the table's meaning shows, where no two rows share a bit.
use Rattle.std.proofs.Common.{◌≡◌, ℕ, Some, None, Option, arith, ◌-◌, ◌<◌, Bool, true, false, cond, ◌&&◌, ◌||◌, List, [], ◌∷◌, sym, refl, ap, ◌∙◌, mod-eq_of_lt}
use Rattle.std.specs.List.{AllByRecursion, find}
use Rattle.std.proofs.lemmas.Bool.Decides.{nat_tests}
use Rattle.std.proofs.lemmas.Bool.{and_left, or_from}
use Rattle.bits.specs.Bits.{bit}
use Rattle.bits.proofs.Bits.{gathered_alike, gathered_own}
use Rattle.mmd.specs.Cells.{Cell, is_self_clearing}
use Rattle.mmd.specs.Meaning.{shows, shown, read_word}
use Rattle.table_mmd.specs.Entries.{HasBits, any_shows, rows_of, shown_at, stored_at}
use Rattle.rows.specs.Layouts.{Apart, Pairwise}
use Rattle.rows.specs.Rows.{cell_at, cell_of, covers}
use Rattle.table_mmd.specs.Tables.{stored_of, table_meaning}
use Rattle.table_mmd.specs.declared.entry.Entry.{Entry}
use Rattle.rows.specs.declared.row.Content.{Content}
use Rattle.rows.specs.declared.row.Content.TheVariants.{Fixed, Follower, LatchingHigh, LatchingLow, Setting, SelfClearing, ShortCounter, HighHalf, LowHalf}
use Rattle.rows.specs.declared.row.Row.{Row}
use Rattle.rows.specs.declared.slot.CounterSlot.{CounterSlot}
use Rattle.table_mmd.proofs.Stored.{cell_listed}
use Rattle.std.proofs.Math.Bool.{or-false}

module _ (all : List Entry) (lines : ℕ) (slots : List CounterSlot) where
  shows_at : (c : Content) (s p : ℕ) → shows (table_meaning all lines slots) (stored_at c s p) (cell_at c p) ≡ shown_at lines slots c s p
  unfolding table_meaning
  shows_at (Fixed v) s p = refl
  shows_at (Follower l) s p = refl
  shows_at (LatchingHigh l) s p = refl
  shows_at (LatchingLow l) s p = refl
  shows_at (Setting d) s p = refl
  shows_at SelfClearing s p = refl
  shows_at (ShortCounter k) s p = refl
  shows_at (HighHalf k) s p = refl
  shows_at (LowHalf k) s p = refl

  -- no row behind shows a bit that a row covers
  none_behind : (row : Row) (es : List Entry) (r b : ℕ) → AllByRecursion (Apart row) (rows_of es) → covers row r b ≡ true → any_shows lines slots r es b ≡ false
  none_behind row [] r b apart here = refl
  none_behind row (e ∷ es) r b apart here =
      or_from _ _ (and_left (covers e.row.listed r b) _ (apart.0 r b here)) (none_behind row es r b apart.1 here)

  by_cover : (c x t : Bool) (cell cells : Cell) (s ss : Bool) → (c ≡ true → (shows (table_meaning all lines slots) s cell ≡ x) × (t ≡ false)) → shows (table_meaning all lines slots) ss cells ≡ t
      → shows (table_meaning all lines slots) (cond c s ss) (cond c cell cells) ≡ ((c && x) || t)
  by_cover true x t cell cells s ss here rest = (here refl).0 ∙ sym (ap (λ u. x || u) (here refl).1 ∙ or-false x)
  by_cover false x t cell cells s ss here rest = rest

  shown_together : (es : List Entry) (r b : ℕ) → Pairwise Apart (rows_of es) → shows (table_meaning all lines slots) (stored_of es r b) (cell_of (rows_of es) r b) ≡ any_shows lines slots r es b
  shown_together [] r b apart = refl
  shown_together (e ∷ es) r b apart =
      by_cover (covers e.row.listed r b) _ _ _ _ _ _
      (λ here. (ap (shows (table_meaning all lines slots) (stored_at e.row.content e.state (b - e.row.listed.low))) (cell_listed e.row (b - e.row.listed.low)) ∙ shows_at e.row.content e.state (b - e.row.listed.low), none_behind e.row.listed es r b apart.0 here))
      (shown_together es r b apart.1)

-- so a word with these bits is the word that a read returns
pub read_word_is : (es : List Entry) (lines : ℕ) (slots : List CounterSlot) (r word : ℕ) → Pairwise Apart (rows_of es) → word < 65536
    → HasBits (any_shows lines slots r es) word → word ≡ read_word (table_meaning es lines slots) r
unfolding read_word shown table_meaning
read_word_is es lines slots r word apart small bits =
    sym (mod-eq_of_lt small) ∙ sym (gathered_own word 16)
    ∙ gathered_alike (bit word) (shown (table_meaning es lines slots) r) 16 (λ b h. bits b ∙ sym (shown_together es lines slots es r b apart))

-- a bit is self-clearing exactly if the row that covers it is
abbrev pub clears_itself : Content → Bool
clears_itself (Fixed v) = false
clears_itself (Follower l) = false
clears_itself (LatchingHigh l) = false
clears_itself (LatchingLow l) = false
clears_itself (Setting d) = false
clears_itself SelfClearing = true
clears_itself (ShortCounter k) = false
clears_itself (HighHalf k) = false
clears_itself (LowHalf k) = false

clears_cell : (content : Content) (p : ℕ) → is_self_clearing (cell_at content p) ≡ clears_itself content
clears_cell (Fixed v) p = refl
clears_cell (Follower l) p = refl
clears_cell (LatchingHigh l) p = refl
clears_cell (LatchingLow l) p = refl
clears_cell (Setting d) p = refl
clears_cell SelfClearing p = refl
clears_cell (ShortCounter k) p = refl
clears_cell (HighHalf k) p = refl
clears_cell (LowHalf k) p = refl

abbrev pub clears_found : Option Entry → Bool
clears_found None = false
clears_found (Some e) = clears_itself e.row.content

pub clears_at : (es : List Entry) (r b : ℕ) → is_self_clearing (cell_of (rows_of es) r b) ≡ clears_found (find (λ e. covers e.row.listed r b) es)
clears_at [] r b = refl
clears_at (e ∷ es) r b =
    let behind = clears_at es r b in
    let here = ap is_self_clearing (cell_listed e.row (b - e.row.listed.low)) ∙ clears_cell e.row.content (b - e.row.listed.low) in
    grind (arith, nat_tests)
