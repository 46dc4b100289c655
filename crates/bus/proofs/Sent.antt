-- One frame that is built and sent: what it is answered, and what it leaves.
use Rattle.std.proofs.Common.{◌≡◌, ℕ, true, false, if◌then◌else◌, List, Ok, Err, sym, ap, ◌∙◌, arith}
use Rattle.std.proofs.lemmas.Bool.Decides.{nat_tests}
use Rattle.bank.specs.Slots.{SlotMeaning}
use Rattle.bank.specs.declared.deed.Deed.TheVariants.{Frame as FrameDeed}
use Rattle.frame.specs.Addresses.{addressable}
use Rattle.frame.specs.Laws.{SplitsBack}
use Rattle.frame.specs.Words.{built}
use Rattle.frame.specs.declared.frame.Frame.{Frame}
use Rattle.frame.specs.declared.refusal.FrameRefusal.{FrameRefusal}
use Rattle.frame.specs.declared.refusal.FrameRefusal.TheVariants.{Address as AboveThirtyOne}
use Rattle.bus.specs.Answers.{after_frame, after_split, done_there, frame_result, result_split}
use Rattle.bus.specs.Places.{worked}
use Rattle.bus.specs.Sent.{after_sent, sent}
use Rattle.bus.specs.declared.answer.BusRefusal.TheVariants.{Frame as NoFrame}

built_is_addressable : (f : Frame) (w : ℕ) → built f ≡ Ok w → addressable f.address ≡ true
unfolding built
built_is_addressable f w e = grind (arith, nat_tests)

unbuilt_is_not : (f : Frame) (e : FrameRefusal) → built f ≡ Err e → (addressable f.address ≡ false) × (e ≡ AboveThirtyOne)
unfolding built
unbuilt_is_not f e refused = grind (arith, nat_tests)

-- the built word is taken as its frame
pub built_sent : (f : Frame) (w : ℕ) (slots : List SlotMeaning) → built f ≡ Ok w → SplitsBack f
    → frame_result w slots ≡ sent f.address f.operation slots
unfolding sent
built_sent f w slots is_built splits =
    ap (λ s. result_split s slots) (splits w is_built)
    ∙ sym (ap (λ t. if t then done_there f.address (FrameDeed f.operation) slots else Err (NoFrame AboveThirtyOne)) (built_is_addressable f w is_built))

pub built_after : (f : Frame) (w : ℕ) (slots : List SlotMeaning) → built f ≡ Ok w → SplitsBack f
    → after_frame w slots ≡ after_sent f.address f.operation slots
unfolding after_sent worked
built_after f w slots is_built splits =
    ap (λ s. after_split s slots) (splits w is_built)
    ∙ sym (ap (λ t. if t then worked f.address (FrameDeed f.operation) slots else slots) (built_is_addressable f w is_built))

-- a frame that cannot be built is not sent
pub unbuilt_sent : (f : Frame) (e : FrameRefusal) (slots : List SlotMeaning) → built f ≡ Err e
    → Err (NoFrame e) ≡ sent f.address f.operation slots
unfolding sent
unbuilt_sent f e slots refused =
    let is_not = unbuilt_is_not f e refused in
    ap (λ e. Err (NoFrame e)) is_not.1
    ∙ sym (ap (λ t. if t then done_there f.address (FrameDeed f.operation) slots else Err (NoFrame AboveThirtyOne)) is_not.0)

pub unbuilt_after : (f : Frame) (e : FrameRefusal) (slots : List SlotMeaning) → built f ≡ Err e
    → slots ≡ after_sent f.address f.operation slots
unfolding after_sent
unbuilt_after f e slots refused =
    sym (ap (λ t. if t then worked f.address (FrameDeed f.operation) slots else slots) (unbuilt_is_not f e refused).0)
