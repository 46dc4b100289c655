-- What the watchers' promise covers on the card.
use Rattle.std.proofs.Common.{◌≡◌, ℕ, None, Err, refl, arith}
use Rattle.bits.specs.Bits.{bit}
use Rattle.bus.specs.Places.{place}
use Rattle.fec_mmd.specs.Layout.{fec_layout}
use Rattle.mmd.specs.Meaning.{new_meaning}
use Rattle.mmd.proofs.Kept.{new_settled}
use Rattle.rows.specs.Checks.{fault_of, layout_of}
use Rattle.rows.specs.Rows.{content_of, span_fits}
use Rattle.table_mmd.specs.Fills.{Filled}
use Rattle.table_mmd.specs.declared.fill.FillRefusal.{FillRefusal}
use Rattle.table_mmd.specs.declared.fill.FillRefusal.TheVariants.{Faulty, Memory}
use Rattle.watch_list.specs.Checks.{check_of}
use Rattle.watch_list.proofs.Listed.{passing_listed}
use Rattle.card.specs.Card.{Covered, card_entries, card_rows}

pub covered : Covered
unfolding bit place new_meaning check_of layout_of content_of fec_layout
covered =
    record {
      list_in_order = passing_listed card_entries refl;
      table_found = refl;
      table_settled = new_settled (layout_of card_rows);
      latch_there = refl;
      latch_masked = refl;
      fec_found = refl;
      fec_settled = new_settled fec_layout;
      counter_there = refl;
    }

rows_pass : fault_of card_rows ≡ None
unfolding fault_of layout_of content_of span_fits
rows_pass = refl

-- the card's rows are in order, so only memory can be wanting
pub only_memory : (refusal : FillRefusal) → Filled card_rows (Err refusal) → refusal ≡ Memory
only_memory (Faulty fault) told = let pass = rows_pass in let z : ◌≡◌ {A = ℕ} 0 1 = cc in absurd (omega arith)
only_memory Memory told = refl
