-- When two meanings are one.
use Rattle.std.proofs.Common.{◌≡◌, ℕ, ◌<◌, true, ap, arith}
use Rattle.std.proofs.lemmas.Bool.Decides.{nat_tests}
use Rattle.mmd.specs.Cells.{has_field, is_long, keeps_state}
use Rattle.mmd.specs.Alike.{Bare, Within}
use Rattle.mmd.specs.Invariant.{Keeps}
use Rattle.mmd.specs.Meaning.{Layout, Meaning}

-- meanings that agree everywhere are equal
pub same_meaning : (m n : Meaning) → m.layout ≡ n.layout → ((l : ℕ) → m.line l ≡ n.line l) → ((r b : ℕ) → m.stored r b ≡ n.stored r b)
    → ((k : ℕ) → m.counter k ≡ n.counter k) → ((k : ℕ) → m.held k ≡ n.held k) → m ≡ n
same_meaning m n layout line stored counter held =
    λ i. record { layout = layout i; line = λ l. line l i; stored = λ r b. stored r b i; counter = λ k. counter k i; held = λ k. held k i }

module _ (l n : Layout) (ls : Within l) (ns : Within n) where
  same_cell : (r b : ℕ) → (b < 16 → l.cell r b ≡ n.cell r b) → l.cell r b ≡ n.cell r b
  same_cell r b below = let one = ls.blank_above_15 r b in let other = ns.blank_above_15 r b in grind (arith, nat_tests)

  same_field : (k : ℕ) → (k < 16 → l.field k ≡ n.field k) → l.field k ≡ n.field k
  same_field k below = let one = ls.no_field_above_15 k in let other = ns.no_field_above_15 k in grind (arith, nat_tests)

  -- layouts that agree in bits 0 to 15 and counters 0 to 15 are equal
  pub alike_layout : ((r b : ℕ) → b < 16 → l.cell r b ≡ n.cell r b) → ((k : ℕ) → k < 16 → l.field k ≡ n.field k) → l ≡ n
  alike_layout cells fields = λ i. record { cell = λ r b. same_cell r b (cells r b) i; field = λ k. same_field k (fields k) i }

module _ (m n : Meaning) (mk : Keeps m) (nk : Keeps n) (mb : Bare m) (nb : Bare n) (layout : m.layout ≡ n.layout) where
  same_line : (l : ℕ) → (l < 32 → m.line l ≡ n.line l) → m.line l ≡ n.line l
  same_line l below = let one = mb.down_above_31 l in let other = nb.down_above_31 l in grind (arith, nat_tests)

  same_state : (r b : ℕ) → (keeps_state (m.layout.cell r b) ≡ true → m.stored r b ≡ n.stored r b) → m.stored r b ≡ n.stored r b
  same_state r b kept =
      let cell = ap (λ x. x.cell r b) layout in
      let one = mb.no_other_state r b in let other = nb.no_other_state r b in
      grind (arith, nat_tests)

  same_counter : (k : ℕ) → (has_field (m.layout.field k) ≡ true → m.counter k ≡ n.counter k) → m.counter k ≡ n.counter k
  same_counter k counted =
      let field = ap (λ x. x.field k) layout in
      let one = mk.counter_below_top k in let other = nk.counter_below_top k in
      grind (arith, nat_tests)

  same_copy : (k : ℕ) → (is_long (m.layout.field k) ≡ true → m.held k ≡ n.held k) → m.held k ≡ n.held k
  same_copy k long =
      let field = ap (λ x. x.field k) layout in
      let one = mb.no_other_copy k in let other = nb.no_other_copy k in
      grind (arith, nat_tests)

  -- two MMDs of one layout have one meaning if they agree in lines 0 to 31, in the states of latches, settings and
  -- self-clearing bits, in the counters that have a field, and in the copies of long counters
  pub alike_meaning : ((l : ℕ) → l < 32 → m.line l ≡ n.line l)
      → ((r b : ℕ) → keeps_state (m.layout.cell r b) ≡ true → m.stored r b ≡ n.stored r b)
      → ((k : ℕ) → has_field (m.layout.field k) ≡ true → m.counter k ≡ n.counter k)
      → ((k : ℕ) → is_long (m.layout.field k) ≡ true → m.held k ≡ n.held k)
      → m ≡ n
  alike_meaning lines states counters copies =
      same_meaning m n layout (λ l. same_line l (lines l)) (λ r b. same_state r b (states r b))
      (λ k. same_counter k (counters k)) (λ k. same_copy k (copies k))
