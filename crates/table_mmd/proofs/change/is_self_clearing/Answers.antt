use Rattle.std.proofs.Common.{arith}
use Rattle.std.proofs.lemmas.Bool.Decides.{nat_tests}
use Rattle.table_mmd.proofs.Shown.{clears_at}
use Rattle.table_mmd.proofs.change.is_self_clearing.Goals as goal

pub returns-in-SelfClearing : goal.returns-in-SelfClearing
returns-in-SelfClearing c =
    let found = c.in-Some.ensures in
    let content = c.in-SelfClearing.is in
    let clears = clears_at c.args.entries.now c.args.register c.args.bit in
    grind (arith, nat_tests)

pub returns-in_default : goal.returns-in_default
returns-in_default c =
    let found = c.in-Some.ensures in
    let content = c.in_default.not-SelfClearing in
    let clears = clears_at c.args.entries.now c.args.register c.args.bit in
    grind (arith, nat_tests)

pub returns-in-None : goal.returns-in-None
returns-in-None c =
    let found = c.in-None.ensures in
    let clears = clears_at c.args.entries.now c.args.register c.args.bit in
    grind (arith, nat_tests)
