-- What the first pair of a key has, in the first tier that has one, with its expiry; and when a value that is told expires.
use Rattle.std.specs.Prelude.{◌≡◌, ℕ, List, Option, Some, None, IfSome, Bool, IsTrue}
use Rattle.std.specs.Option.{option_map}
use Rattle.record_pages.specs.Expiry.{timed}
use Rattle.record_pages.specs.Recs.{Rec}
use Rattle.record_pages.specs.declared.timed_value.TimedValue.{TimedValue}
use Rattle.record_pages.specs.declared.tier.Tier.TheVariants.{Memory, Log, Set}
use Rattle.memory_cache.specs.MemoryList.{value_in}
use Rattle.klog_index.specs.declared.entry.Entry.{Entry}
use Rattle.klog.specs.Shown.{newest_with, place_in}
use Rattle.kset.specs.Shown.{first_visible}
use Rattle.mover.specs.declared.answer_kind.AnswerKind.{AnswerKind}
use Rattle.mover.specs.declared.answer_kind.AnswerKind.TheVariants as seen
use Rattle.mover.specs.declared.located.Located.{Located}
use Rattle.mover.specs.declared.located.Located.TheVariants as at
use Rattle.mover.specs.Lane.{LaneState, lane_of}
use Rattle.mover.specs.Store.{StoreState}

-- what the first visible record of a key in its set has
abbrev pub set_timed : List ℕ → LaneState → Option TimedValue
set_timed key lane = option_map (λ x. x.1.value) (first_visible (lane.visible (place_in lane.log.shape key).set) key)

-- what the newest live record of a key in the log has; if there is none, what its set has
abbrev pub log_timed : List ℕ → LaneState → Option (Entry × Rec) → Option TimedValue
log_timed key lane None = set_timed key lane
log_timed key lane (Some x) = Some x.1.value

-- what flash has of a key
abbrev pub flash_timed : List ℕ → LaneState → Option TimedValue
flash_timed key lane = log_timed key lane (newest_with lane.live key)

-- what memory has; if that is nothing, what flash has
abbrev pub memory_timed : List ℕ → LaneState → Option TimedValue → Option TimedValue
memory_timed key lane None = flash_timed key lane
memory_timed key lane (Some v) = Some v

-- what a lane has of a key: in memory, else in the log, else in its set
abbrev pub first_timed : List ℕ → LaneState → Option TimedValue
first_timed key lane = memory_timed key lane (value_in key lane.memory.pairs)

-- when what is located expires
abbrev pub expiry_at : Located → Option ℕ
expiry_at (at.Memory expires) = Some expires
expiry_at (at.Log e expires) = Some expires
expiry_at (at.Set set slot expires) = Some expires
expiry_at (at.Miss cause) = None

-- and if it is located in memory
abbrev pub expiry_at_memory : Located → Option ℕ
expiry_at_memory (at.Memory expires) = Some expires
expiry_at_memory (at.Log e expires) = None
expiry_at_memory (at.Set set slot expires) = None
expiry_at_memory (at.Miss cause) = None

-- when the value of a hit expires, as it is told
abbrev pub expiry_of : AnswerKind → Option ℕ
expiry_of (seen.Hit tier expires) = Some expires
expiry_of (seen.Miss cause) = None

-- and if it is a hit in memory
abbrev pub expiry_in_memory : AnswerKind → Option ℕ
expiry_in_memory (seen.Hit Memory expires) = Some expires
expiry_in_memory (seen.Hit Log expires) = None
expiry_in_memory (seen.Hit Set expires) = None
expiry_in_memory (seen.Miss cause) = None

-- When a value in the buffer expires that is told of a key. In memory, on any device: memory has just this value with this
-- expiry. In any tier, if the device is honest: the lane has it.
pub record TellsExpiry {D : Type 0} (honest : D → Bool) (held : D → ℕ → Option (List ℕ)) (key : List ℕ) (s : StoreState D) (in_memory anywhere : Option ℕ) (buffer : List ℕ) : Type 0 where
  pub memory : IfSome in_memory (λ expires. value_in key s.memory.pairs ≡ Some (timed buffer expires))
  pub lane : IsTrue (honest s.device) → IfSome anywhere (λ expires. first_timed key (lane_of held s) ≡ Some (timed buffer expires))
