-- What a caller of a load makes: its operations in order, each the one that the load's seed and the caller's number determine.
use Rattle.std.specs.Prelude.{◌≡◌, ◌≢◌, ◌≤◌, ◌<◌, ◌+◌, ◌⊎◌, ℕ, zero, suc, List, [], Bool, true, false, Option, Some, None, replicate, slice_index}
use mathlib.Core.List.{IsPrefix}
use Rattle.rand_pcg.specs.Lcg.{Lcg, increment_of, started}
use Rattle.rand_pcg.specs.Pcg.{multiplier_64}
use Rattle.trace_file.specs.declared.act.Act.TheVariants as acts
use Rattle.certificate_checker.specs.Deeds.{Deed}
use Rattle.load.specs.Operations.{past}
use Rattle.load.specs.Served.{served_next_of}
use Rattle.load.specs.declared.serve_load.ServeLoad.{ServeLoad}
use Rattle.load.specs.declared.serve_operation.ServeOperation.{ServeOperation}
use Rattle.load.specs.declared.serve_operation.ServeOperation.TheVariants.{Get, Put, Remove}
use Rattle.service_cache.specs.Seated.{put_of}
use Rattle.service_cache.specs.Calls.{AddsLast}
use Rattle.serve_load.specs.declared.caller_tally.CallerTally.{CallerTally}
use Rattle.serve_load.specs.declared.words.CallEnd.{CallEnd}
use Rattle.serve_load.specs.declared.words.Known.{Known}
use Rattle.serve_load.specs.declared.words.CallEnd.TheVariants.{Done, Refused, WrongHit}
use Rattle.serve_load.specs.declared.caller_stop.CallerStop.{CallerStop}
use Rattle.serve_load.specs.declared.caller_stop.CallerStop.TheVariants.{AllMade, Halted, TimeOver, Wrong}
use Rattle.serve_load.specs.declared.told_hit.ToldHit.{ToldHit}
use Rattle.serve_load.specs.Looking.{IsFound}
use Rattle.serve_load.specs.Objects.{expires_of, key_of, moment_of, value_of}
use Rattle.serve_load.specs.Words.{IsRight, Sets}

-- the generator that a caller begins with: its stream is the caller's number
abbrev pub first_generator : ℕ → ℕ → Lcg
first_generator seed caller = started 64 multiplier_64 seed (increment_of 64 caller)

-- a caller's generator before its operation of this number, from the one that it began with: each operation draws two words
abbrev pub generator_at : Lcg → ℕ → Lcg
generator_at first zero = first
generator_at first (suc number) = past (past (generator_at first number))

-- a caller's operation of this number
abbrev pub operation_at : ServeLoad → Lcg → ℕ → ServeOperation
operation_at load first number = served_next_of load (generator_at first number)

-- what a caller has between two operations: a word for each of its keys, and the list of writes that it has seen
pub record Standing : Type 0 where
  pub words : List ℕ
  pub seen : List Deed

abbrev pub standing : List ℕ → List Deed → Standing
standing words seen = record { words = words; seen = seen }

-- a caller begins with keys that have no values, and has seen nothing
abbrev pub begun : ServeLoad → Standing
begun load = standing (replicate load.keys 0) []

-- what a caller's operation of this number puts for a key
abbrev pub put_by : ServeLoad → ℕ → ℕ → ℕ → Deed
put_by load caller key number = put_of (key_of caller key) (value_of load.value_bytes key number) (expires_of load number)

-- a caller's removal of a key
abbrev pub removal_by : ℕ → ℕ → Deed
removal_by caller key = record { key = key_of caller key; act = acts.Remove }

-- the words stay, and what was seen is still seen
pub record Keeps (old new : Standing) : Type 0 where
  pub words : new.words ≡ old.words
  pub seen : IsPrefix old.seen new.seen

-- the word of a key is this, and a write is the last that was seen
pub record Enters (key word : ℕ) (write : Deed) (old new : Standing) : Type 0 where
  pub word_is : Sets old.words new.words key word
  pub entered : AddsLast old.seen write new.seen

-- a put of an operation with this number was stored
abbrev pub Stores : ServeLoad → ℕ → ℕ → ℕ → Standing → Standing → Type 0
Stores load caller key number old new = Enters key (number + 1) (put_by load caller key number) old new

-- a put was refused, which leaves no value: it is the last write that was seen, or its key's removal is, or nothing more was seen
pub record Forgets (load : ServeLoad) (caller key number : ℕ) (old new : Standing) : Type 0 where
  pub word_is : Sets old.words new.words key 0
  pub seen : (new.seen ≡ old.seen) ⊎ (AddsLast old.seen (put_by load caller key number) new.seen ⊎ AddsLast old.seen (removal_by caller key) new.seen)

-- a look-up went so: it changed no word, or it missed and the key was filled, if the load has leases
abbrev pub Looks : ServeLoad → ℕ → ℕ → ℕ → CallEnd → Standing → Standing → Type 0
Looks load caller key number Done old new = Keeps old new ⊎ ((load.leases ≢ 0) × Stores load caller key number old new)
Looks load caller key number Refused old new = Keeps old new
Looks load caller key number (WrongHit seen) old new = Keeps old new

-- a put went so
abbrev pub Puts : ServeLoad → ℕ → ℕ → ℕ → CallEnd → Standing → Standing → Type 0
Puts load caller key number Done old new = Stores load caller key number old new
Puts load caller key number Refused old new = Forgets load caller key number old new
Puts load caller key number (WrongHit seen) old new = ⊥

-- a removal went so; one that is refused is no less done, and nothing more was seen
abbrev pub Removes : ℕ → ℕ → CallEnd → Standing → Standing → Type 0
Removes caller key Done old new = Enters key 0 (removal_by caller key) old new
Removes caller key Refused old new = Sets old.words new.words key 0 × (new.seen ≡ old.seen)
Removes caller key (WrongHit seen) old new = ⊥

-- a caller's operation of this number went so, and left this
abbrev pub Does : ServeLoad → ℕ → ServeOperation → ℕ → CallEnd → Standing → Standing → Type 0
Does load caller (Get key) number step old new = Looks load caller key number step old new
Does load caller (Remove key) number step old new = Removes caller key step old new
Does load caller (Put key) number step old new = Puts load caller key number step old new

-- the step is a wrong hit
abbrev pub is_wrong : CallEnd → Bool
is_wrong Done = false
is_wrong Refused = false
is_wrong (WrongHit seen) = true

-- what was known of the key of a wrong hit, if the step is one
abbrev pub wrong_of : CallEnd → Option Known
wrong_of Done = None
wrong_of Refused = None
wrong_of (WrongHit seen) = Some seen

-- how many operations were refused of one that went so
abbrev pub refusals_of : CallEnd → ℕ
refusals_of Done = 0
refusals_of Refused = 1
refusals_of (WrongHit seen) = 0

-- an operation of this number was made, of which no hit was wrong; so many of those up to it were refused, and so many before
pub record Passes (load : ServeLoad) (caller : ℕ) (operation : ServeOperation) (number before refused : ℕ) (old new : Standing) : Type 0 where
  pub step : CallEnd
  pub right : is_wrong step ≡ false
  pub does : Does load caller operation number step old new
  pub refusals : refused ≡ before + refusals_of step

-- a caller made the first so many of its operations, one after the other, of which so many were refused, and no hit was wrong
abbrev pub Makes : ServeLoad → ℕ → Lcg → ℕ → ℕ → Standing → Standing → Type 0
Makes load caller first zero refused old new = (refused ≡ 0) × (new ≡ old)
Makes load caller first (suc number) refused old new =
    (before : ℕ) × (between : Standing)
    × Makes load caller first number before old between
    × Passes load caller (operation_at load first number) number before refused between new

-- the caller has made its operations below this number, and this is its generator before the operation of the number
pub record IsAt (load : ServeLoad) (caller : ℕ) (first : Lcg) (number refused : ℕ) (old now : Standing) (generator : Lcg) : Type 0 where
  pub at : generator ≡ generator_at first number
  pub made : Makes load caller first number refused old now
  pub few : refused ≤ number

-- a caller that made so many operations, of which no hit was wrong, stopped so: after all of them, or as the load has a limit of
-- time, or since the load was halted
abbrev pub StopsRight : ServeLoad → ℕ → CallerStop → Type 0
StopsRight load operations AllMade = operations ≡ load.operations
StopsRight load operations TimeOver = load.seconds ≢ 0
StopsRight load operations Halted = Unit {0}
StopsRight load operations (Wrong hit) = ⊥

-- a caller counted that it made this many operations, of which no hit was wrong
pub record EndsRight (load : ServeLoad) (caller : ℕ) (first : Lcg) (old : Standing) (counted : CallerTally) : Type 0 where
  pub end : Standing
  pub made : Makes load caller first counted.operations counted.refused old end
  pub stopped : StopsRight load counted.operations counted.stop

-- a hit is that of a caller's operation with this number: it has the key that the operation looked up, what the caller knew of that
-- key then, and the bytes that were hit, which are not right
pub record IsWrongHit (load : ServeLoad) (caller : ℕ) (operation : ServeOperation) (number : ℕ) (words : List ℕ) (hit : ToldHit) : Type 0 where
  pub caller_is : hit.caller ≡ caller
  pub operation_is : hit.operation ≡ number
  pub looked_up : operation ≡ Get hit.known.key
  pub known : hit.known.word ≡ slice_index words hit.known.key
  pub wrong : ¬ IsRight load hit.known.key hit.known.word (moment_of load number) hit.found

-- a caller counted that it made this many operations, the last of which was a wrong hit, and has that hit
pub record EndsWrong (load : ServeLoad) (caller : ℕ) (first : Lcg) (old : Standing) (counted : CallerTally) : Type 0 where
  pub number : ℕ
  pub before : Standing
  pub end : Standing
  pub hit : ToldHit
  pub made : Makes load caller first number counted.refused old before
  pub last : Does load caller (operation_at load first number) number (WrongHit hit.known) before end
  pub is : IsWrongHit load caller (operation_at load first number) number before.words hit
  pub count : counted.operations ≡ number + 1
  pub stopped : counted.stop ≡ Wrong hit

-- a caller of a load ended with these counts
pub record IsEnded (load : ServeLoad) (caller : ℕ) (first : Lcg) (old : Standing) (counted : CallerTally) : Type 0 where
  pub some : counted.operations ≤ load.operations
  pub few_refused : counted.refused ≤ counted.operations
  pub ends : EndsRight load caller first old counted ⊎ EndsWrong load caller first old counted

-- of a caller that stopped so, one ended by itself: it made all its operations, or its time was over
abbrev pub completed : CallerStop → ℕ
completed AllMade = 1
completed TimeOver = 1
completed Halted = 0
completed (Wrong hit) = 0

-- a caller that ended by itself made all its operations if the load has no limit of time
abbrev pub IsComplete : ℕ → ℕ → CallerTally → Type 0
IsComplete seconds operations counted = seconds ≡ 0 → completed counted.stop ≡ 1 → counted.operations ≡ operations

-- the bytes of the hit of a caller that stopped at one are those that the cache gave it
abbrev pub IsOfCache : (ℕ → Bool) → (List ℕ → ℕ) → ServeLoad → ℕ → CallerStop → Type 0
IsOfCache said lane_of load caller AllMade = Unit {0}
IsOfCache said lane_of load caller TimeOver = Unit {0}
IsOfCache said lane_of load caller Halted = Unit {0}
IsOfCache said lane_of load caller (Wrong hit) =
    (seen : List Deed) × IsFound said lane_of seen (key_of caller hit.known.key) (moment_of load hit.operation) hit.found

-- a caller with this number, generator, words and list is one of a load's callers, and begins
pub record IsOneOf (load : ServeLoad) (number : ℕ) (generator : Lcg) (words : List ℕ) (seen : List Deed) : Type 0 where
  pub one_of : number < load.callers
  pub generator_is : generator ≡ first_generator load.seed number
  pub words_are : words ≡ replicate load.keys 0
  pub seen_is : seen ≡ []

-- a load's caller with this number ended with these counts
abbrev pub HasEnded : ServeLoad → ℕ → CallerTally → Type 0
HasEnded load caller counted = IsEnded load caller (first_generator load.seed caller) (begun load) counted

-- one of a load's callers ended with these counts
pub record IsTally (load : ServeLoad) (counted : CallerTally) : Type 0 where
  pub caller : ℕ
  pub one_of : caller < load.callers
  pub ended : HasEnded load caller counted
