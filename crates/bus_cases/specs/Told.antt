-- What is told of each answer: its word, that it was taken, or the number of its refusal on the card.
use Rattle.std.specs.Prelude.{Ok, Err, Some, None, Option}
use Rattle.bank.specs.Deeds.{Done}
use Rattle.bus.specs.Answers.{number_of}
use Rattle.bus.specs.declared.answer.BusAnswer.{BusAnswer}
use Rattle.bus.specs.declared.answer.BusAnswer.TheVariants.{Data as DataAnswer, Taken as TakenAnswer, Refused as RefusedAnswer}
use Rattle.mmd.specs.Refusals as mmds
use Rattle.bus_cases.specs.declared.told.Told.{Told}
use Rattle.bus_cases.specs.declared.told.Told.TheVariants.{Word, Taken, Refused, Nothing}

abbrev pub frame_told : BusAnswer → Told
frame_told (DataAnswer word) = Word word
frame_told TakenAnswer = Taken
frame_told (RefusedAnswer e) = Refused (number_of e)

abbrev pub done_told : Option Done → Told
done_told None = Nothing
done_told (Some (Ok (Some word))) = Word word
done_told (Some (Ok None)) = Taken
done_told (Some (Err e)) = Refused (mmds.number_of e)
