-- What a get answers, on the list of segments.
use Rattle.std.proofs.Common.{◌≡◌, ℕ, List, Option, Some, None, refl, sym, subst}
use Rattle.std.specs.Option.{option_map}
use Rattle.record_pages.specs.Expiry.{value_at}
use Rattle.record_pages.specs.Recs.{Rec}
use Rattle.record_pages.specs.declared.tier.Tier.TheVariants.{Memory, Log, Set}
use Rattle.record_pages.specs.declared.timed_value.TimedValue.{TimedValue}
use Rattle.memory_cache.specs.MemoryList.{value_in, after_get}
use Rattle.kset.specs.Sets.{hit_in}
use Rattle.klog_index.specs.declared.entry.Entry.{Entry}
use Rattle.klog.specs.AnswerLaws.{TellsLastWith, LookFindsNewest}
use Rattle.klog.specs.Segments.{segments_of, live_records, live_record}
use Rattle.klog.specs.Shown.{newest_with, place_in}
use Rattle.kset.specs.Shown.{first_visible}
use Rattle.mover.specs.Get.{set_step, log_step, memory_step, lane_lowered}
use Rattle.mover.proofs.Expiring.{reply_by}
use Rattle.mover.specs.Lane.{LaneState}
use Rattle.mover.specs.Answers.{first_of_tiers, GetFindsLast}

-- tier by tier
module _ (lane : LaneState) (key : List ℕ) (moment : ℕ) where
  by_set : (n : ℕ) (shown : Option (ℕ × Rec)) → (set_step n moment lane shown).reply ≡ first_of_tiers moment None None shown
  by_set n (Some y) = reply_by (value_at moment y.1.value) Set lane (record lane { sets = hit_in lane.sets n y.0 })
  by_set n None = refl

  by_log : (found : Option (Entry × Rec)) → (log_step key moment lane found).reply ≡ first_of_tiers moment None (option_map live_record found) (first_visible (lane.visible (place_in lane.log.shape key).set) key)
  by_log (Some x) = reply_by (value_at moment x.1.value) Log lane (lane_lowered lane x.0)
  by_log None = by_set (place_in lane.log.shape key).set (first_visible (lane.visible (place_in lane.log.shape key).set) key)

  by_memory : (value : Option TimedValue) →
      (memory_step key moment lane value).reply ≡ first_of_tiers moment value (option_map live_record (newest_with lane.live key)) (first_visible (lane.visible (place_in lane.log.shape key).set) key)
  by_memory (Some v) = reply_by (value_at moment v) Memory lane (record lane { memory = after_get key lane.memory })
  by_memory None = by_log (newest_with lane.live key)

pub get_finds_last : LookFindsNewest → GetFindsLast
get_finds_last look pages lane key moment is live = record {
  logged = option_map live_record (newest_with lane.live key);
  last = subst (λ records. TellsLastWith key (live_records (segments_of pages lane.log)) (option_map live_record (newest_with records key))) (sym live) (look pages lane.log key is);
  answered = by_memory lane key moment (value_in key lane.memory.pairs);
}
