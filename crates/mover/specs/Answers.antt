-- What a get answers, in terms of memory, of the log's list of segments, and of the key's set.
use Rattle.std.specs.Prelude.{◌≡◌, ℕ, List, Option, Some, None}
use Rattle.record_pages.specs.Expiry.{value_at}
use Rattle.record_pages.specs.Recs.{Rec}
use Rattle.record_pages.specs.declared.answer.Answer.{Answer}
use Rattle.record_pages.specs.declared.answer.Answer.TheVariants.{Miss}
use Rattle.record_pages.specs.declared.miss_cause.MissCause.TheVariants.{Absent}
use Rattle.record_pages.specs.declared.tier.Tier.TheVariants.{Memory, Log, Set}
use Rattle.record_pages.specs.declared.timed_value.TimedValue.{TimedValue}
use Rattle.memory_cache.specs.MemoryList.{value_in}
use Rattle.klog.specs.AnswerLaws.{TellsLastWith}
use Rattle.klog.specs.Keeps.{IsLog}
use Rattle.klog.specs.Segments.{LogRecord, segments_of, live_records}
use Rattle.klog.specs.Shown.{live_on, place_in}
use Rattle.kset.specs.Shown.{first_visible}
use Rattle.mover.specs.Get.{answer, answer_by}
use Rattle.mover.specs.Lane.{LaneState}

-- the answer by what the first tier has of a key that has any of it, at a moment: memory a value, the log a record, the set one
-- in a slot
abbrev pub first_of_tiers : ℕ → Option TimedValue → Option LogRecord → Option (ℕ × Rec) → Answer
first_of_tiers moment (Some v) logged shown = answer_by (value_at moment v) Memory
first_of_tiers moment None (Some x) shown = answer_by (value_at moment x.value) Log
first_of_tiers moment None None (Some y) = answer_by (value_at moment y.1.value) Set
first_of_tiers moment None None None = Miss Absent

-- A get of a key at a moment answers by memory, then by the last live record with the key of the log's segments, if it has
-- one, then by the first visible record of the key's set.
pub record AnswersBySegments (pages : ℕ → Option (List ℕ)) (lane : LaneState) (key : List ℕ) (moment : ℕ) : Type 0 where
  pub logged : Option LogRecord
  pub last : TellsLastWith key (live_records (segments_of pages lane.log)) logged
  pub answered :
      answer lane key moment ≡ first_of_tiers moment (value_in key lane.memory.pairs) logged (first_visible (lane.visible (place_in lane.log.shape key).set) key)

-- that is so of every lane whose live records are those of its log over these pages
abbrev pub GetFindsLast : Type 0
GetFindsLast =
    (pages : ℕ → Option (List ℕ)) (lane : LaneState) (key : List ℕ) (moment : ℕ)
    → IsLog lane.log
    → lane.live ≡ live_on pages lane.log
    → AnswersBySegments pages lane key moment
