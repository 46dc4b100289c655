-- The laws of lines: an answer can be told from its line.
use Rattle.std.proofs.Common.{◌≡◌, ℕ, ◌<◌, ◌≤◌, cond, eqb, List, ◌∷◌, ◌++◌, length, get_or, take, drop, codes, sym, refl, ap, ◌∙◌, arith, lit<, lit≤}
use Rattle.std.proofs.ByRecursion.{All-weaker}
use Rattle.std.specs.Str.Parse.{digits_value}
use Rattle.std.specs.Int.{IsInRange}
use Rattle.std.specs.List.{AllByRecursion}
use Rattle.call.specs.Answers.{number_of}
use Rattle.call.specs.declared.answer.Answer.TheVariants.{Data, Told, Done, Refused}
use Rattle.call.specs.declared.answer.CallRefusal.{CallRefusal}
use Rattle.call.specs.declared.answer.CallRefusal.TheVariants.{OutOfRange, NoPort, NoDevice, Mmd}
use Rattle.mmd.specs.declared.refusal.MmdRefusal.TheVariants.{NoField, NotSelfClearing}
use Rattle.trace_format.specs.declared.line.Line.{Line}
use Rattle.trace_format.specs.declared.line.Line.TheVariants.{Answer, Stop}
use Rattle.trace_format.specs.declared.refusal.TraceRefusal.{TraceRefusal}
use Rattle.trace_format.specs.declared.refusal.TraceRefusal.TheVariants.{UnlistedMap, CutRecord}
use Rattle.trace_format.specs.Lines.{digits, line_max, line_of, newline}
use Rattle.trace_format.specs.Numbers.{trace_number}
use Rattle.trace_format.specs.Telling.{Digit, LineFits, Telling}
use Rattle.trace_format.proofs.Digits.{digits_count, digits_read_back, digits_small}

call_number_below_100 : (e : CallRefusal) → number_of e < 100
call_number_below_100 OutOfRange = lit< tt
call_number_below_100 NoPort = lit< tt
call_number_below_100 NoDevice = lit< tt
call_number_below_100 (Mmd NoField) = lit< tt
call_number_below_100 (Mmd NotSelfClearing) = lit< tt

trace_number_below_100 : (e : TraceRefusal) → trace_number e < 100
trace_number_below_100 UnlistedMap = lit< tt
trace_number_below_100 CutRecord = lit< tt

abbrev Printable : ℕ → Type 0
Printable c = IsInRange 32 126 c

printable_digit : (c : ℕ) → Digit c → Printable c
printable_digit c h = (omega arith, omega arith)

-- a letter, a space and digits
lettered : (letter base width n : ℕ) → Printable letter → 0 < base → base ≤ 16 → AllByRecursion Printable (letter ∷ 32 ∷ digits base width n)
lettered letter base width n l p h =
    (l, ((lit≤ tt, lit≤ tt), All-weaker Digit Printable printable_digit (digits base width n) (digits_small base width n p h)))

pub one_line : (line : Line) → (text : List ℕ) × (line_of line ≡ text ++ newline) × AllByRecursion Printable text
one_line (Answer (Data word)) = (codes "R " ++ digits 16 4 word, refl, lettered 82 16 4 word (lit≤ tt, lit≤ tt) (lit< tt) (lit≤ tt))
one_line (Answer (Told word)) = (codes "T " ++ digits 16 8 word, refl, lettered 84 16 8 word (lit≤ tt, lit≤ tt) (lit< tt) (lit≤ tt))
one_line (Answer Done) = (codes "V", refl, ((lit≤ tt, lit≤ tt), tt))
one_line (Answer (Refused e)) = (codes "E " ++ digits 10 2 (number_of e), refl, lettered 69 10 2 (number_of e) (lit≤ tt, lit≤ tt) (lit< tt) (lit≤ tt))
one_line (Stop e) = (codes "X " ++ digits 10 2 (trace_number e), refl, lettered 88 10 2 (trace_number e) (lit≤ tt, lit≤ tt) (lit< tt) (lit≤ tt))

pub longest : (line : Line) → length (line_of line) ≤ line_max
longest (Answer (Data word)) = lit≤ tt
longest (Answer (Told word)) = lit≤ tt
longest (Answer Done) = lit≤ tt
longest (Answer (Refused e)) = lit≤ tt
longest (Stop e) = lit≤ tt

-- the refusal of a number
abbrev call_refusal : ℕ → CallRefusal
call_refusal n = cond (eqb n 5) OutOfRange (cond (eqb n 3) NoPort (cond (eqb n 4) NoDevice (cond (eqb n 6) (Mmd NoField) (Mmd NotSelfClearing))))

call_refusal_back : (e : CallRefusal) → call_refusal (number_of e) ≡ e
call_refusal_back OutOfRange = refl
call_refusal_back NoPort = refl
call_refusal_back NoDevice = refl
call_refusal_back (Mmd NoField) = refl
call_refusal_back (Mmd NotSelfClearing) = refl

abbrev trace_refusal : ℕ → TraceRefusal
trace_refusal n = cond (eqb n 30) UnlistedMap CutRecord

trace_refusal_back : (e : TraceRefusal) → trace_refusal (trace_number e) ≡ e
trace_refusal_back UnlistedMap = refl
trace_refusal_back CutRecord = refl

-- what a line says, by its letter and its digits
abbrev said : List ℕ → Line
said text =
    cond (eqb (get_or text 0 0) 82) (Answer (Data (digits_value 16 (take 4 (drop 2 text)))))
    (cond (eqb (get_or text 0 0) 84) (Answer (Told (digits_value 16 (take 8 (drop 2 text)))))
    (cond (eqb (get_or text 0 0) 86) (Answer Done)
    (cond (eqb (get_or text 0 0) 69) (Answer (Refused (call_refusal (digits_value 10 (take 2 (drop 2 text))))))
    (Stop (trace_refusal (digits_value 10 (take 2 (drop 2 text))))))))

said_back : (line : Line) → LineFits line → said (line_of line) ≡ line
said_back (Answer (Data word)) f = ap (λ n. Answer (Data n)) (digits_read_back 16 4 word (lit< tt) (lit≤ tt) f)
said_back (Answer (Told word)) f = ap (λ n. Answer (Told n)) (digits_read_back 16 8 word (lit< tt) (lit≤ tt) f)
said_back (Answer Done) f = refl
said_back (Answer (Refused e)) f =
    ap (λ n. Answer (Refused (call_refusal n))) (digits_read_back 10 2 (number_of e) (lit< tt) (lit≤ tt) (call_number_below_100 e))
    ∙ ap (λ r. Answer (Refused r)) (call_refusal_back e)
said_back (Stop e) f =
    ap (λ n. Stop (trace_refusal n)) (digits_read_back 10 2 (trace_number e) (lit< tt) (lit≤ tt) (trace_number_below_100 e))
    ∙ ap Stop (trace_refusal_back e)

pub told_apart : (a b : Line) → LineFits a → LineFits b → line_of a ≡ line_of b → a ≡ b
told_apart a b f g e = sym (said_back a f) ∙ ap said e ∙ said_back b g

pub telling : Telling
telling =
    record {
      digits_count = digits_count;
      digits_small = digits_small;
      digits_read_back = digits_read_back;
      call_number_below_100 = call_number_below_100;
      trace_number_below_100 = trace_number_below_100;
      one_line = one_line;
      longest = longest;
      told_apart = told_apart;
    }
