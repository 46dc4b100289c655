-- Rows that rise share no bit.
use Rattle.std.proofs.Common.{◌≡◌, true, List, [], ◌∷◌, refl, arith}
use Rattle.std.specs.List.{AllByRecursion}
use Rattle.std.proofs.ByRecursion.{All-weaker}
use Rattle.std.proofs.lemmas.Bool.{and_parts}
use Rattle.std.proofs.lemmas.Bool.Decides.{nat_tests}
use Rattle.rows.specs.Layouts.{Apart, Pairwise}
use Rattle.rows.specs.Rows.{span_fits}
use Rattle.rows.specs.Orders.{in_order, rising, rising_after}
use Rattle.rows.specs.declared.row.Row.{Row}
use Rattle.rows.proofs.Spans.{span_within}

apart_from_order : (x y : Row) → in_order x y ≡ true → Apart x y
apart_from_order x y order r b here = grind (arith, nat_tests)

-- order passes through a row that is not empty
in_order_through : (x y z : Row) → span_fits y ≡ true → in_order x y ≡ true → in_order y z ≡ true → in_order x z ≡ true
in_order_through x y z fits first second = let within = span_within y fits in grind (arith, nat_tests)

-- a row comes before all behind it
before_all : (x : Row) (rest : List Row) → AllByRecursion (λ row. span_fits row ≡ true) rest → rising_after x rest ≡ true → AllByRecursion (λ y. in_order x y ≡ true) rest
before_all x [] fit rises = tt
before_all x (y ∷ rest) fit rises =
    let parts = and_parts (in_order x y) (rising_after y rest) rises in
    (parts.0, All-weaker (λ z. in_order y z ≡ true) (λ z. in_order x z ≡ true) (λ z. in_order_through x y z fit.0 parts.0) rest (before_all y rest fit.1 parts.1))

-- rows that rise after one rise
rising_behind : (x : Row) (rest : List Row) → rising_after x rest ≡ true → rising rest ≡ true
rising_behind x [] rises = refl
rising_behind x (y ∷ rest) rises = (and_parts (in_order x y) (rising_after y rest) rises).1

pub rising_apart : (rows : List Row) → AllByRecursion (λ row. span_fits row ≡ true) rows → rising rows ≡ true → Pairwise Apart rows
rising_apart [] fit rises = tt
rising_apart (x ∷ rest) fit rises =
    (All-weaker (λ y. in_order x y ≡ true) (Apart x) (apart_from_order x) rest (before_all x rest fit.1 rises), rising_apart rest fit.1 (rising_behind x rest rises))
