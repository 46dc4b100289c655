use Rattle.std.proofs.Common.{◌≡◌, [], ◌∷◌, ap, ◌∙◌, ap₂}
use Rattle.bank.specs.Banks.{slot_meaning}
use Rattle.bank.specs.Slots.{SlotMeaning}
use Rattle.mmd.specs.Meaning.{Meaning}
use Rattle.fec_mmd.specs.Device as fec
use Rattle.table_mmd.specs.Device as table
use Rattle.std.proofs.lemmas.Result.{err_from_is_err_and}
use Rattle.card.proofs.Watching.{covered, only_memory}
use Rattle.card.proofs.card.card_bank.Goals as goal

pub returns-in_err-table : goal.returns-in_err-table
returns-in_err-table c =
    let p = err_from_is_err_and c.from_residual.result c.from_residual.ensures.1 in
    let memory = only_memory c.in_err-table.field-0.0 c.in_err-table.ensures.filled in
    record { bank = rw (p.1, p.2) memory; covered = covered }

pub returns : goal.returns
returns c =
    let left : slot_meaning table.meaning_of c.new-left.result ≡ record { address = record { port = 1; device = 1 }; register = 0; mmd = table.meaning_of c.in_ok-table.table } = ap (slot_meaning table.meaning_of) c.new-left.ensures in
    let right : slot_meaning fec.meaning_of c.new-right.result ≡ record { address = record { port = 1; device = 3 }; register = 0; mmd = fec.meaning_of c.new.result } = ap (slot_meaning fec.meaning_of) c.new-right.ensures in
    let filled = c.in_ok-table.ensures.filled.1 in
    record {
      bank = ap₂ (λ (a b : SlotMeaning). a ∷ (b ∷ []))
          (left ∙ ap (λ (m : Meaning). record { address = record { port = 1; device = 1 }; register = 0; mmd = m }) filled)
          (right ∙ ap (λ (m : Meaning). record { address = record { port = 1; device = 3 }; register = 0; mmd = m }) c.new.ensures);
      covered = covered;
    }
