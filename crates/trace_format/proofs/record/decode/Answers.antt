use Rattle.std.proofs.Common.{◌≡◌, ◌≤◌, length, ap, rules}
use Rattle.std.proofs.lemmas.List.{nil_from_length}
use Rattle.std.proofs.lemmas.Result.{err_from_is_err_and}
use Rattle.trace_format.specs.Records.{decode_of, decoded, some_record}
use Rattle.trace_format.proofs.Decoding.{decoding}
use Rattle.trace_format.proofs.Fronts.{front}
use Rattle.trace_format.proofs.record.decode.Goals as goal

pub returns-in-empty : goal.returns-in-empty
unfolding decode_of
returns-in-empty c =
    let none : length c.args.input.now ≡ 0 = search rules in
    let e = ap decode_of (nil_from_length c.args.input.now none) in
    record { result = cc; laws = decoding }

pub returns-in_ok-by_map-in-len1-up : goal.returns-in_ok-by_map-in-len1-up
unfolding decode_of
returns-in_ok-by_map-in-len1-up c =
    let some : 1 ≤ length c.args.input.now = search rules in
    let e = ap decode_of (front 1 c.args.input.now some) in
    let t = ap some_record c.in_ok-by_map-in-len1-up.ensures in
    record { result = cc; laws = decoding }

pub returns-in_err-by_map-in-len1-up : goal.returns-in_err-by_map-in-len1-up
unfolding decode_of
returns-in_err-by_map-in-len1-up c =
    let some : 1 ≤ length c.args.input.now = search rules in
    let e = ap decode_of (front 1 c.args.input.now some) in
    let t = ap some_record c.in_err-by_map-in-len1-up.ensures in
    let p = err_from_is_err_and c.from_residual.result c.from_residual.ensures.1 in
    let q = ap decoded p.1 in
    record { result = cc p.2; laws = decoding }
