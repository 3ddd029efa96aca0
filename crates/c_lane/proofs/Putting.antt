-- What a put and a fill that were stored are to callers in C.
use Rattle.std.proofs.Common.{◌≡◌, ℕ, List, ap, subst, ◌∙◌}
use Rattle.record_pages.specs.declared.pushed.Pushed.{Pushed}
use Rattle.rand_pcg.specs.Lcg.{Lcg}
use Rattle.rand_pcg.specs.Pcg.{pcg32}
use Rattle.page_device.specs.Counting.{CountedDevice}
use Rattle.memory_cache.specs.declared.pair.Pair.{Pair}
use Rattle.service_lane.specs.declared.helped.Helped.{Helped}
use Rattle.service_lane.specs.declared.lease.Lease.{Lease}
use Rattle.service_lane.specs.Serving.{Serving, PutsStore, FillsStore}
use Rattle.c_lane.specs.Lane.{LaneState, Laws, page_bytes, honest_in, failures_in, held_in}
use Rattle.c_lane.specs.Putting.{pair_of, Stores, Fills}
use Rattle.rriparoo.specs.Rriparoo.{rriparoo_plan}
use Rattle.service_lane.specs.Upkeep.{Helps}
use Rattle.service_lane.specs.Words.{next_word}

-- a key and a value that were copied are the same pair
pair_is : (k v key value : List ℕ) (expires : ℕ) → k ≡ key → v ≡ value → pair_of k v expires ≡ pair_of key value expires
pair_is k v key value expires key_is value_is = ap (λ (k' : List ℕ). pair_of k' v expires) key_is ∙ ap (λ (v' : List ℕ). pair_of key v' expires) value_is

module _ {D : Type 0} (laws : Laws D) (key value : List ℕ) (expires : ℕ) (old : LaneState D) (word : ℕ) (words : Lcg) (drawn : ◌≡◌ {A = ℕ × Lcg} (word, words) (pcg32 old.words)) (k v : List ℕ) (pushed : Pushed) (between after : Serving (CountedDevice D)) (helped : Helped) (key_is : k ≡ key) (value_is : v ≡ value) (helps : Helps page_bytes (honest_in laws) (failures_in laws) (held_in laws) rriparoo_plan between helped after) where
  word_is : word ≡ next_word old.words
  word_is = ap (λ (p : ℕ × Lcg). p.0) drawn

  -- a put that the lane stored, and the help after it
  pub stored : PutsStore page_bytes (held_in laws) (pair_of k v expires) word pushed old.serving between → Stores laws key value expires old (record { serving = after; words = words })
  stored puts = record {
    pushed = pushed;
    puts = record {
      between = between;
      helped = helped;
      puts =
          subst (λ (w : ℕ). PutsStore page_bytes (held_in laws) (pair_of key value expires) w pushed old.serving between) word_is
          (subst (λ (p : Pair). PutsStore page_bytes (held_in laws) p word pushed old.serving between) (pair_is k v key value expires key_is value_is) puts);
      helps = helps;
    };
    words = ap (λ (p : ℕ × Lcg). p.1) drawn;
  }

  -- a fill that the lane stored, and the help after it
  pub filled : (lease : Lease) → FillsStore page_bytes (held_in laws) (pair_of k v expires) word lease pushed old.serving between → Fills laws lease key value expires old (record { serving = after; words = words })
  filled lease fills = record {
    pushed = pushed;
    fills = record {
      between = between;
      helped = helped;
      fills =
          subst (λ (w : ℕ). FillsStore page_bytes (held_in laws) (pair_of key value expires) w lease pushed old.serving between) word_is
          (subst (λ (p : Pair). FillsStore page_bytes (held_in laws) p word lease pushed old.serving between) (pair_is k v key value expires key_is value_is) fills);
      helps = helps;
    };
    words = ap (λ (p : ℕ × Lcg). p.1) drawn;
  }
