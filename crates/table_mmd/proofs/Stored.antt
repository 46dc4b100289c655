-- A change of every row's state, seen at a register and bit.
use Rattle.std.specs.Prelude.{◌≡◌, ℕ, ◌-◌, Bool, true, false, cond, List, [], ◌∷◌, map, slice_index_or, refl}
use Rattle.std.proofs.Common.{sym, ap, ap₂, ◌∙◌}
use Rattle.std.proofs.Math.ListN.{get_or-map}
use Rattle.mmd.specs.Cells.{Cell, blank}
use Rattle.table_mmd.specs.Entries.{rows_of, stored_at}
use Rattle.rows.specs.Rows.{cell_at, cell_in, cell_of, content_of, covers}
use Rattle.table_mmd.specs.Tables.{stored_of}
use Rattle.rows.specs.declared.fitting.FittingRow.{FittingRow}
use Rattle.table_mmd.specs.declared.entry.Entry.{Entry}

-- a map that leaves the default alone can be looked up through
pub get_d_map : {X : Type 0} (f : X → X) (d : X) → f d ≡ d → (xs : List X) (k : ℕ) → slice_index_or (map f xs) k d ≡ f (slice_index_or xs k d)
get_d_map f d same xs k = ap (slice_index_or (map f xs) k) (sym same) ∙ get_or-map f xs k d

pub rows_stay : (f : Entry → Entry) → ((e : Entry) → (f e).row ≡ e.row) → (es : List Entry) → rows_of (map f es) ≡ rows_of es
rows_stay f same [] = refl
rows_stay f same (e ∷ es) = ap₂ (λ row rows. row.listed ∷ rows) (same e) (rows_stay f same es)

-- f changes states only, and does at each place of each row what g says of the cell there
pub record Acts (f : Entry → Entry) (g : ℕ → ℕ → Cell → Bool → Bool) : Type 0 where
  pub same_row : (e : Entry) → (f e).row ≡ e.row
  pub at_place : (e : Entry) (r b : ℕ) → covers e.row.listed r b ≡ true
      → stored_at e.row.content (f e).state (b - e.row.listed.low) ≡ g r b (cell_at e.row.content (b - e.row.listed.low)) (stored_at e.row.content e.state (b - e.row.listed.low))
  pub none_at_blank : (r b : ℕ) → g r b blank false ≡ false

by_cover : (c c' : Bool) (h : Cell → Bool → Bool) (x y s ss : Bool) (cell cells : Cell) → c' ≡ c
    → (c ≡ true → x ≡ h cell s) → (c ≡ false → y ≡ h cells ss) → cond c' x y ≡ h (cond c cell cells) (cond c s ss)
by_cover true c' h x y s ss cell cells e here beside = ap (λ v. cond v x y) e ∙ here refl
by_cover false c' h x y s ss cell cells e here beside = ap (λ v. cond v x y) e ∙ beside refl

-- the cell in a row that fits is that of its content
pub cell_listed : (row : FittingRow) (p : ℕ) → cell_in (content_of row.listed) p ≡ cell_at row.content p
cell_listed row p = ap (λ content. cell_in content p) row.right_content

pub stored_after : {f : Entry → Entry} {g : ℕ → ℕ → Cell → Bool → Bool} → Acts f g
    → (es : List Entry) (r b : ℕ) → stored_of (map f es) r b ≡ g r b (cell_of (rows_of es) r b) (stored_of es r b)
stored_after acts [] r b = sym (acts.none_at_blank r b)
stored_after {f = f} {g = g} acts (e ∷ es) r b =
    by_cover (covers e.row.listed r b) (covers (f e).row.listed r b) (g r b) _ _ _ _ _ _ (ap (λ row. covers row.listed r b) (acts.same_row e))
    (λ here. ap (λ row. stored_at row.content (f e).state (b - row.listed.low)) (acts.same_row e) ∙ acts.at_place e r b here
    ∙ ap (λ cell. g r b cell (stored_at e.row.content e.state (b - e.row.listed.low))) (sym (cell_listed e.row (b - e.row.listed.low))))
    (λ beside. stored_after acts es r b)
