-- Every call leaves what every MMD keeps, and a new MMD keeps it.
use Rattle.std.proofs.Common.{ℕ, Bool, refl, arith}
use Rattle.std.proofs.lemmas.Bool.Decides.{nat_tests}
use Rattle.mmd.specs.Events.{after_read, after_write, after_line, after_count, after_finish, after_reset}
use Rattle.mmd.specs.Invariant.{Keeps, Settled, Sound}
use Rattle.mmd.specs.Meaning.{Layout, Meaning, new_meaning}

pub new_keeps : (l : Layout) → Sound l → Keeps (new_meaning l)
unfolding new_meaning
new_keeps l sound =
    record {
      sound = sound;
      latched = λ r b n s e up. grind (arith, nat_tests);
      counter_below_top = λ k. omega arith;
      held_below_top = λ k. omega arith;
    }

pub new_settled : (l : Layout) → Settled (new_meaning l)
unfolding new_meaning
new_settled l =
    record { latch_is_line = λ r b n s e. grind (arith, nat_tests); counter_zero = λ k. refl; held_zero = λ k. refl }

module _ (m : Meaning) (keeps : Keeps m) where
  pub read_keeps : (r : ℕ) → Keeps (after_read m r)
  unfolding after_read
  read_keeps r =
      record {
        sound = keeps.sound;
        latched = λ q b n s e up. let before = keeps.latched q b n s e up in grind (arith, nat_tests);
        counter_below_top = λ k. let before = keeps.counter_below_top k in grind (arith, nat_tests);
        held_below_top = λ k. let c = keeps.counter_below_top k in let h = keeps.held_below_top k in grind (arith, nat_tests);
      }

  pub write_keeps : (r word : ℕ) → Keeps (after_write m r word)
  unfolding after_write
  write_keeps r word =
      record {
        sound = keeps.sound;
        latched = λ q b n s e up. let before = keeps.latched q b n s e up in grind (arith, nat_tests);
        counter_below_top = keeps.counter_below_top;
        held_below_top = keeps.held_below_top;
      }

  pub line_keeps : (n : ℕ) (up : Bool) → Keeps (after_line m n up)
  unfolding after_line
  line_keeps n up =
      record {
        sound = keeps.sound;
        latched = λ q b l s e now. let before = keeps.latched q b l s e in grind (arith, nat_tests);
        counter_below_top = keeps.counter_below_top;
        held_below_top = keeps.held_below_top;
      }

  pub count_keeps : (n amount : ℕ) → Keeps (after_count m n amount)
  unfolding after_count
  count_keeps n amount =
      record {
        sound = keeps.sound;
        latched = keeps.latched;
        counter_below_top = λ k. let before = keeps.counter_below_top k in grind (arith, nat_tests);
        held_below_top = keeps.held_below_top;
      }

  pub finish_keeps : (r b : ℕ) → Keeps (after_finish m r b)
  unfolding after_finish
  finish_keeps r b =
      record {
        sound = keeps.sound;
        latched = λ q c n s e up. let before = keeps.latched q c n s e up in grind (arith, nat_tests);
        counter_below_top = keeps.counter_below_top;
        held_below_top = keeps.held_below_top;
      }

  pub reset_keeps : Keeps (after_reset m)
  unfolding after_reset
  reset_keeps =
      record {
        sound = keeps.sound;
        latched = λ q b n s e up. grind (arith, nat_tests);
        counter_below_top = λ k. omega arith;
        held_below_top = λ k. omega arith;
      }
