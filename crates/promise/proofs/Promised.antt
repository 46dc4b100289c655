-- The watchers' promise, of every run.
use Rattle.std.proofs.Common.{List}
use Rattle.bank.specs.Slots.{SlotMeaning}
use Rattle.call.specs.declared.call.Call.{Call}
use Rattle.watch_list.specs.Lists.{WellListed}
use Rattle.watch_list.specs.declared.entry.Entry.{Entry}
use Rattle.promise.specs.Logs.{exchanges}
use Rattle.promise.specs.Promises.{Promise}
use Rattle.promise.specs.Rules.{answers_of, set_up}
use Rattle.promise.proofs.CountsTold.{counts_told}
use Rattle.promise.proofs.EntryReads.{SlotsKeep}
use Rattle.promise.proofs.LatchesTold.{latches_told}
use Rattle.promise.proofs.Pasts.{every_look_has_its_past}
use Rattle.promise.proofs.Runs.{run_follows}
use Rattle.promise.proofs.Unseen.{unseen_beside}

pub promise_kept : (slots : List SlotMeaning) (entries : List Entry) (calls : List Call) → WellListed entries → SlotsKeep slots
    → Promise slots entries calls (exchanges calls (answers_of (set_up slots entries) calls))
promise_kept slots entries calls in_order keep =
    let log = exchanges calls (answers_of (set_up slots entries) calls) in
    let right = run_follows (set_up slots entries) calls in
    record {
      every_look_has_its_past = every_look_has_its_past log;
      latches_told = latches_told slots entries log in_order keep right;
      counts_told = counts_told slots entries log in_order keep right;
      unseen_beside = unseen_beside slots entries calls;
    }
