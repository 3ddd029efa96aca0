-- What a get gives, tier by tier.
use Rattle.std.proofs.Common.{◌≡◌, inl, inr, ℕ, Bool, true, List, Option, Some, None, refl, sym, ap, subst, ◌∙◌}
use Rattle.std.specs.Prelude.{IsSomeAnd, Ok, false}
use Rattle.std.specs.Bool.{OnFalse}
use Rattle.set_hash.specs.declared.placed.Placed.{Placed}
use Rattle.klog_index.specs.Entries.{of_tag}
use Rattle.klog.specs.Known.{AreBuffered}
use Rattle.klog.specs.Look.{LogLookGives, LogLookLeaves, is_log_fault, lowered_in, GivesAt, GivesRecord}
use Rattle.mover.specs.Calls.{IsLowered, StoreGets, TellsRecord}
use Rattle.mover.proofs.Expiring.{found_expired, found_hit, is_live_at}
use Rattle.klog.specs.Log.{LogState}
use Rattle.klog_index.specs.declared.entry.Entry.{Entry}
use Rattle.record_pages.specs.declared.looked.Looked.TheVariants as look
use Rattle.record_pages.specs.declared.looked.Looked.{Looked}
use Rattle.kset.specs.Notes.{lets_show}
use Rattle.page_device.specs.Device.{faults_after}
use Rattle.mover.specs.Asking.{AsksNothing, MemoryTells, NotesHit, RecallsBy, LogLeaves, SetLeaves, GetLeaves}
use Rattle.mover.specs.Leaving.{HasAll, HasLog}
use Rattle.mover.proofs.public_laws.Beginning.{all_again}
use Rattle.record_pages.specs.Expiry.{value_at}
use Rattle.record_pages.specs.Recs.{Rec}
use Rattle.record_pages.specs.declared.answer.Answer.{Answer}
use Rattle.record_pages.specs.declared.answer.Answer.TheVariants.{Hit, Miss}
use Rattle.record_pages.specs.declared.miss_cause.MissCause.TheVariants.{Absent, Expired, Fault, Damaged}
use Rattle.record_pages.specs.declared.tier.Tier.TheVariants.{Memory, Log, Set}
use Rattle.memory_cache.specs.MemoryList.{value_in, after_get}
use Rattle.record_pages.specs.declared.timed_value.TimedValue.{TimedValue}
use Rattle.std.proofs.lemmas.Option.{none-some}
use Rattle.klog.specs.Shown.{place_in, live_on, newest_with}
use Rattle.kset.specs.Sets.{SetsState, hit_in, notes_of}
use Rattle.kset.specs.Shown.{visible_in, first_visible}
use Rattle.kset.specs.declared.located_in_set.LocatedInSet.TheVariants as set
use Rattle.kset.specs.declared.located_in_set.LocatedInSet.{LocatedInSet}
use Rattle.kset.specs.Locate.{looked_of as set_looked_of}
use Rattle.kset.specs.Look.{SetLookGives, SetLookLeaves, is_set_fault}
use Rattle.mover.specs.Store.{StoreState, OnlyReads}
use Rattle.mover.specs.Lane.{LaneState, lane_of}
use Rattle.mover.specs.Get.{Step, LogTells, NeedsSetPage, NeedsFlashPage, NeedsPage, lane_lowered, is_fault, log_step, set_step, ask_set, ask_log, memory_step, StepGives, GetGives, answer_by, answer_of_set}

-- what is said of what an option holds, more loosely
weaker : {X : Type 0} (P Q : X → Type 0) (o : Option X) → ((x : X) → P x → Q x) → IsSomeAnd o P → IsSomeAnd o Q
weaker P Q None to has = has
weaker P Q (Some x) to has = to x has

module _ {D : Type 0} (held : D → ℕ → Option (List ℕ)) (s : StoreState D) (d : D) (key : List ℕ) (moment : ℕ) (same : held d ≡ held s.device) where
  -- what a set gives, of the lane
  pub set_told : (q : SetsState) (n : ℕ) (looked : Looked) → n ≡ (place_in s.log.shape key).set → SetLookGives (visible_in (held s.device) s.sets n) key moment s.sets n looked q →
      visible_in (held d) q ≡ visible_in (held s.device) s.sets →
      (looked ≡ look.Fault → NeedsSetPage key (lane_of held s)) →
      StepGives (ask_set key moment (lane_of held s)) (NeedsSetPage key (lane_of held s)) (lane_of held s) (answer_of_set looked) (lane_of held (record s { device = d; sets = q }))
  set_told q n looked at gives shown needs =
      subst (λ m. StepGives (set_step m moment (lane_of held s) (first_visible (visible_in (held s.device) s.sets m) key)) (NeedsSetPage key (lane_of held s)) (lane_of held s) (answer_of_set looked) (lane_of held (record s { device = d; sets = q }))) at (step looked gives needs)
    where
      lane_as : (sets : SetsState) → q ≡ sets → lane_of held (record s { device = d; sets = q }) ≡ record (lane_of held s) { sets = sets }
      lane_as sets e = λ i. record {
        memory = s.memory;
        log = s.log;
        live = live_on (same i) s.log;
        sets = e i;
        flights = s.flights;
        visible = shown i;
        moves = s.moves;
      }

      hit : (value : List ℕ) (o : Option (ℕ × Rec)) → IsSomeAnd o (λ x. (value_at moment x.1.value ≡ Some value) × (q ≡ hit_in s.sets n x.0)) →
          StepGives (set_step n moment (lane_of held s) o) (NeedsSetPage key (lane_of held s)) (lane_of held s) (Hit value Set) (lane_of held (record s { device = d; sets = q }))
      hit value None has = absurd has
      hit value (Some x) has =
          found_hit (value_at moment x.1.value) value Set (NeedsSetPage key (lane_of held s)) (lane_of held s) (lane_of held (record s { device = d; sets = q })) (lane_of held s) (record (lane_of held s) { sets = hit_in s.sets n x.0 })
          has.0 (lane_as (hit_in s.sets n x.0) has.1)

      expired : (o : Option (ℕ × Rec)) → IsSomeAnd o (λ x. value_at moment x.1.value ≡ None) → q ≡ s.sets →
          StepGives (set_step n moment (lane_of held s) o) (NeedsSetPage key (lane_of held s)) (lane_of held s) (Miss Expired) (lane_of held (record s { device = d; sets = q }))
      expired None has left = absurd has
      expired (Some x) has left =
          found_expired (value_at moment x.1.value) Set (NeedsSetPage key (lane_of held s)) (lane_of held s) (lane_of held (record s { device = d; sets = q })) (lane_of held s) (record (lane_of held s) { sets = hit_in s.sets n x.0 })
          has (lane_as s.sets left)

      step : (looked : Looked) → SetLookGives (visible_in (held s.device) s.sets n) key moment s.sets n looked q → (looked ≡ look.Fault → NeedsSetPage key (lane_of held s)) →
          StepGives (set_step n moment (lane_of held s) (first_visible (visible_in (held s.device) s.sets n) key)) (NeedsSetPage key (lane_of held s)) (lane_of held s) (answer_of_set looked) (lane_of held (record s { device = d; sets = q }))
      step (look.Hit value) gives needs = hit value (first_visible (visible_in (held s.device) s.sets n) key) gives
      step look.Expired gives needs = expired (first_visible (visible_in (held s.device) s.sets n) key) gives.0 gives.1
      step look.Absent gives needs =
          subst (λ o. StepGives (set_step n moment (lane_of held s) o) (NeedsSetPage key (lane_of held s)) (lane_of held s) (Miss Absent) (lane_of held (record s { device = d; sets = q }))) (sym gives.0) (refl, lane_as s.sets gives.1)
      step look.Fault gives needs = (needs refl, lane_as s.sets gives)
      step look.Damaged gives needs = gives

module _ {D : Type 0} (held : D → ℕ → Option (List ℕ)) (s : StoreState D) (d : D) (key : List ℕ) (moment : ℕ) (same : held d ≡ held s.device) where
  -- what the log gives, of the lane
  pub log_told : (k : LogState) (looked : Looked) → LogLookGives (live_on (held s.device) s.log) key moment s.log looked k (live_on (held d) k) →
      LogTells key moment (lane_of held s) looked (lane_of held (record s { device = d; log = k }))
  log_told k looked gives = step looked gives
    where
      lane_as : (log : LogState) (live : List (Entry × Rec)) → k ≡ log → live_on (held d) k ≡ live → lane_of held (record s { device = d; log = k }) ≡ record (lane_of held s) { log = log; live = live }
      lane_as log live e f = λ i. record {
        memory = s.memory;
        log = e i;
        live = f i;
        sets = s.sets;
        visible = visible_in (same i) s.sets;
        flights = s.flights;
        moves = s.moves;
      }

      hit : (value : List ℕ) (o : Option (Entry × Rec)) → IsSomeAnd o (GivesRecord (live_on (held s.device) s.log) moment value s.log k (live_on (held d) k)) →
          IsSomeAnd o (λ x. (value_at moment x.1.value ≡ Some value) × (lane_of held (record s { device = d; log = k }) ≡ lane_lowered (lane_of held s) x.0))
      hit value None has = absurd has
      hit value (Some x) has = (has.its, lane_as _ _ has.lowered has.left)

      step : (looked : Looked) → LogLookGives (live_on (held s.device) s.log) key moment s.log looked k (live_on (held d) k) → LogTells key moment (lane_of held s) looked (lane_of held (record s { device = d; log = k }))
      step (look.Hit value) gives = hit value (newest_with (live_on (held s.device) s.log) key) gives
      step look.Expired gives = (gives.0, lane_as s.log (live_on (held s.device) s.log) gives.1.log gives.1.left)
      step look.Absent gives = (gives.0, lane_as s.log (live_on (held s.device) s.log) gives.1.log gives.1.left)
      step look.Fault gives = (gives.0, lane_as s.log (live_on (held s.device) s.log) gives.1.log gives.1.left)
      step look.Damaged gives = gives

-- what memory answers is answered at once
module _ {D : Type 0} (size : ℕ) (honest : D → Bool) (failures : D → ℕ) (held : D → ℕ → Option (List ℕ)) (key : List ℕ) (moment : ℕ) (old : StoreState D) where
  abbrev raised : StoreState D
  raised = record old { memory = after_get key old.memory }

  -- the one value of memory
  one : (o : Option TimedValue) (v w : TimedValue) → o ≡ Some v → o ≡ Some w → w ≡ v
  one o v w is other = some_one w v (sym other ∙ is)
    where
      some_one : (a b : TimedValue) → Some a ≡ Some b → a ≡ b
      some_one a b is = cc

  told_hit : (v : TimedValue) (value : List ℕ) → value_in key old.memory.pairs ≡ Some v → value_at moment v ≡ Some value → StoreGets size honest failures held key moment old (Ok (Hit value Memory)) raised
  told_hit v value at live = record {
    reads = record { layout = refl; honesty = refl; failed_once = refl; same = λ on. refl };
    leaves = record { expires = v.expires; its = at ∙ ap Some (is_live_at moment v value live).0; rest = refl };
    out_of_memory = tt;
    in_memory = λ w is. sym (ap (λ (z : TimedValue). answer_by (value_at moment z) Memory) (one (value_in key old.memory.pairs) v w at is) ∙ ap (λ (o : Option (List ℕ)). answer_by o Memory) live);
    unread = λ some. refl;
    in_buffers = λ e r none here. absurd (none-some v (sym none ∙ at));
    unasked = record { asks_not = λ asks. refl };
    gives = λ on. subst (λ (o : Option TimedValue). StepGives (memory_step key moment (lane_of held old) o) (NeedsPage key (lane_of held old)) (lane_of held old) (Hit value Memory) (lane_of held raised)) (sym at)
        (found_hit (value_at moment v) value Memory (NeedsPage key (lane_of held old)) (lane_of held old) (lane_of held raised) (lane_of held old) (lane_of held raised) live refl);
  }

  told_expired : (v : TimedValue) → value_in key old.memory.pairs ≡ Some v → value_at moment v ≡ None → StoreGets size honest failures held key moment old (Ok (Miss Expired)) old
  told_expired v at gone = record {
    reads = record { layout = refl; honesty = refl; failed_once = refl; same = λ on. refl };
    leaves = refl;
    out_of_memory = tt;
    in_memory = λ w is. sym (ap (λ (z : TimedValue). answer_by (value_at moment z) Memory) (one (value_in key old.memory.pairs) v w at is) ∙ ap (λ (o : Option (List ℕ)). answer_by o Memory) gone);
    unread = λ some. refl;
    in_buffers = λ e r none here. absurd (none-some v (sym none ∙ at));
    unasked = record { asks_not = λ asks. refl };
    gives = λ on. subst (λ (o : Option TimedValue). StepGives (memory_step key moment (lane_of held old) o) (NeedsPage key (lane_of held old)) (lane_of held old) (Miss Expired) (lane_of held old)) (sym at)
        (found_expired (value_at moment v) Memory (NeedsPage key (lane_of held old)) (lane_of held old) (lane_of held old) (lane_of held old) (lane_of held raised) gone refl);
  }

  pub told_by_memory : (answer : Answer) (new : StoreState D) → MemoryTells key moment old (Some answer) new → StoreGets size honest failures held key moment old (Ok answer) new
  told_by_memory answer new tells = by_pair (value_in key old.memory.pairs) refl tells
    where
      by_live : (v : TimedValue) (o : Option (List ℕ)) → value_in key old.memory.pairs ≡ Some v → value_at moment v ≡ o → RecallsBy o key old answer new → StoreGets size honest failures held key moment old (Ok answer) new
      by_live v (Some value) at live told = rw (told.0, told.1) (told_hit v value at live)
      by_live v None at gone told = rw (told.0, told.1) (told_expired v at gone)

      by_pair : (o : Option TimedValue) → value_in key old.memory.pairs ≡ o → IsSomeAnd o (λ v. RecallsBy (value_at moment v) key old answer new) → StoreGets size honest failures held key moment old (Ok answer) new
      by_pair None at has = absurd has
      by_pair (Some v) at has = by_live v (value_at moment v) at refl has

-- a page that is needed for one thing is needed for another
needs_too : (step : Step Answer) (needs also : Type 0) (old : LaneState) (answer : Answer) (new : LaneState) → (needs → also) → StepGives step needs old answer new → StepGives step also old answer new
needs_too step needs also old (Hit value tier) new to gives = gives
needs_too step needs also old (Miss Absent) new to gives = gives
needs_too step needs also old (Miss Expired) new to gives = gives
needs_too step needs also old (Miss Fault) new to gives = (to gives.0, gives.1)
needs_too step needs also old (Miss Damaged) new to gives = gives

-- if memory has no pair of the key the answer is that of the tiers below
pub get_below : (key : List ℕ) (moment : ℕ) (answer : Answer) (old new : LaneState) → value_in key old.memory.pairs ≡ None → StepGives (ask_log key moment old) (NeedsFlashPage key old) old answer new → GetGives key moment old answer new
get_below key moment answer old new absent gives =
    subst (λ o. StepGives (memory_step key moment old o) (NeedsPage key old) old answer new) (sym absent)
    (needs_too (ask_log key moment old) (NeedsFlashPage key old) (NeedsPage key old) old answer new (λ here. record { not_in_memory = absent; on_flash = here }) gives)

-- a get that asks nothing asks nothing of the log
pub asks_log : {D : Type 0} (key : List ℕ) (s : StoreState D) (at : Placed) → at ≡ place_in s.log.shape key → AsksNothing key s → AreBuffered s.log (of_tag at.set at.tag s.log.entries)
asks_log key s at is asks = subst (λ (p : Placed). AreBuffered s.log (of_tag p.set p.tag s.log.entries)) (sym is) asks.buffered

-- and nothing of the key's set
pub asks_set : {D : Type 0} (key : List ℕ) (s mid : StoreState D) (at : Placed) → at ≡ place_in s.log.shape key → HasAll s mid → AsksNothing key s → lets_show (notes_of mid.sets at.set) at.hash ≡ false
asks_set key s mid at is all asks = (λ i. lets_show (notes_of (all i).sets (is i).set) (is i).hash) ∙ asks.denied

-- a page of a set is asked for only if its filter admits the key, and it is not struck
pub asked_page_at : (shows : Bool) (located : LocatedInSet) (found : List ℕ) (not_called : Type 0) → OnFalse shows ((located ≡ set.Absent) × not_called) → set_looked_of located found ≡ look.Fault → shows ≡ true
asked_page_at true located found not_called denied is = refl
asked_page_at false located found not_called denied is = let no : look.Fault ≡ look.Absent = sym is ∙ ap (λ (l : LocatedInSet). set_looked_of l found) denied.0 in absurd cc

-- ---- what a look leaves of a store, on any device

module _ {D : Type 0} (s : StoreState D) (d : D) where
  pub log_leaves : (k : LogState) (at : Placed) (looked : Looked) → LogLookLeaves s.log at.set at.tag (Ok looked) k (d ≡ s.device) → LogLeaves at looked s (record s { device = d; log = k })
  log_leaves k at looked leaves = step looked leaves
    where
      log_is : (log : LogState) → k ≡ log → HasLog log s (record s { device = d; log = k })
      log_is log is = λ i. record { layout = s.layout; device = d; memory = s.memory; log = is i; sets = s.sets; flights = s.flights; moves = s.moves }

      step : (looked : Looked) → LogLookLeaves s.log at.set at.tag (Ok looked) k (d ≡ s.device) → LogLeaves at looked s (record s { device = d; log = k })
      step (look.Hit value) leaves = record { entry = leaves.entry; listed = leaves.listed; rest = log_is (lowered_in s.log at.set leaves.entry.place) leaves.lowered; unasked = leaves.uncalled }
      step look.Expired leaves = log_is s.log leaves
      step look.Absent leaves = log_is s.log leaves
      step look.Fault leaves = log_is s.log leaves
      step look.Damaged leaves = log_is s.log leaves

  pub set_leaves : (q : SetsState) (n : ℕ) (looked : Looked) → SetLookLeaves s.sets n (Ok looked) q → SetLeaves n (answer_of_set looked) s (record s { device = d; sets = q })
  set_leaves q n looked leaves = step looked leaves
    where
      sets_are : (sets : SetsState) → q ≡ sets → record s { device = d; sets = q } ≡ record s { device = d; sets = sets }
      sets_are sets is = λ i. record { layout = s.layout; device = d; memory = s.memory; log = s.log; sets = is i; flights = s.flights; moves = s.moves }

      step : (looked : Looked) → SetLookLeaves s.sets n (Ok looked) q → SetLeaves n (answer_of_set looked) s (record s { device = d; sets = q })
      step (look.Hit value) leaves = record { slot = leaves.slot; within = leaves.within; rest = sets_are (hit_in s.sets n leaves.slot) leaves.noted }
      step look.Expired leaves = sets_are s.sets leaves
      step look.Absent leaves = sets_are s.sets leaves
      step look.Fault leaves = sets_are s.sets leaves
      step look.Damaged leaves = sets_are s.sets leaves

module _ {D : Type 0} (key : List ℕ) (old mid : StoreState D) (at : Placed) (placed : at ≡ place_in old.log.shape key) where
  -- a hit in the log is that of a get
  pub hit_leaves : (value : List ℕ) (looked : Looked) → looked ≡ look.Hit value → LogLeaves at looked old mid → GetLeaves key (Hit value Log) old mid
  hit_leaves value looked is leaves = subst (λ (p : Placed). LogLeaves p (look.Hit value) old mid) placed (subst (λ l. LogLeaves at l old mid) is leaves)

  -- what a look into the key's set leaves after a call that leaves all is left by a get
  pub leaves_after : (answer : Answer) (new : StoreState D) → HasAll old mid → SetLeaves at.set answer mid new → GetLeaves key answer old new
  leaves_after (Hit value Memory) new all leaves = absurd leaves
  leaves_after (Hit value Log) new all leaves = absurd leaves
  leaves_after (Hit value Set) new all leaves = subst (λ (p : Placed). NotesHit p.set old new) placed (record {
    slot = leaves.slot;
    within = leaves.within;
    rest = leaves.rest ∙ ap (λ (x : StoreState D). record x { device = new.device; sets = hit_in x.sets at.set leaves.slot }) all;
  })
  leaves_after (Miss cause) new all leaves = all_again old mid new all leaves

-- if only an entry of the log was lowered, that is so of the store
pub lowered_store : {D : Type 0} (s : StoreState D) (d : D) (k : LogState) (set : ℕ) (e : Entry) → k ≡ lowered_in s.log set e.place → d ≡ s.device → IsLowered set e s (record s { device = d; log = k })
lowered_store s d k set e log device = λ i. record {
  layout = s.layout;
  device = device i;
  memory = s.memory;
  log = log i;
  sets = s.sets;
  flights = s.flights;
  moves = s.moves;
}

-- if nothing changed, that is so of the store
pub same_store : {D : Type 0} (s : StoreState D) (d : D) (k : LogState) → k ≡ s.log → d ≡ s.device → record s { device = d; log = k } ≡ s
same_store s d k log device = λ i. record {
  layout = s.layout;
  device = device i;
  memory = s.memory;
  log = log i;
  sets = s.sets;
  flights = s.flights;
  moves = s.moves;
}

-- what the log tells of a record that its buffers tell of
pub record_told : {D : Type 0} (o : Option (List ℕ)) (s : StoreState D) (d : D) (k : LogState) (set : ℕ) (e : Entry) (looked : Looked) → GivesAt o s.log set e k (d ≡ s.device) looked → TellsRecord o set e s looked (record s { device = d; log = k })
record_told (Some value) s d k set e looked gives = (gives.hit, lowered_store s d k set e gives.lowered gives.uncalled)
record_told None s d k set e looked gives = (gives.expired, same_store s d k gives.stays gives.uncalled)

-- if the log has the key, that is the answer of the tiers below memory
pub log_hit_gives : (key : List ℕ) (moment : ℕ) (value : List ℕ) (old new : LaneState) → LogTells key moment old (look.Hit value) new → StepGives (ask_log key moment old) (NeedsFlashPage key old) old (Hit value Log) new
log_hit_gives key moment value old new tells = step (newest_with old.live key) tells
  where
    step : (o : Option (Entry × Rec)) → IsSomeAnd o (λ x. (value_at moment x.1.value ≡ Some value) × (new ≡ lane_lowered old x.0)) → StepGives (log_step key moment old o) (NeedsFlashPage key old) old (Hit value Log) new
    step None has = absurd has
    step (Some x) has = found_hit (value_at moment x.1.value) value Log (NeedsFlashPage key old) old new old (lane_lowered old x.0) has.0 has.1

-- so it is if what it has has expired
pub log_expired_gives : (key : List ℕ) (moment : ℕ) (old new : LaneState) → LogTells key moment old look.Expired new → StepGives (ask_log key moment old) (NeedsFlashPage key old) old (Miss Expired) new
log_expired_gives key moment old new tells = step (newest_with old.live key) tells.0
  where
    step : (o : Option (Entry × Rec)) → IsSomeAnd o (λ x. value_at moment x.1.value ≡ None) → StepGives (log_step key moment old o) (NeedsFlashPage key old) old (Miss Expired) new
    step None has = absurd has
    step (Some x) has = found_expired (value_at moment x.1.value) Log (NeedsFlashPage key old) old new old (lane_lowered old x.0) has tells.1

-- if the device fails in the log a page of it was needed, and nothing changes
pub log_fault_gives : (key : List ℕ) (moment : ℕ) (old new : LaneState) → LogTells key moment old look.Fault new → StepGives (ask_log key moment old) (NeedsFlashPage key old) old (Miss Fault) new
log_fault_gives key moment old new tells = (inl tells.0, tells.1)

-- if the log lacks the key, its set's answer is that of the tiers below memory
pub log_absent_gives : (key : List ℕ) (moment : ℕ) (old mid new : LaneState) (looked : Looked) (answer : Answer) → looked ≡ look.Absent → LogTells key moment old looked mid →
    StepGives (ask_set key moment mid) (NeedsSetPage key mid) mid answer new → StepGives (ask_log key moment old) (NeedsFlashPage key old) old answer new
log_absent_gives key moment old mid new looked answer is tells gives =
    let absent = subst (λ l. LogTells key moment old l mid) is tells in
    subst (λ o. StepGives (log_step key moment old o) (NeedsFlashPage key old) old answer new) (sym absent.0)
    (needs_too (ask_set key moment old) (NeedsSetPage key old) (NeedsFlashPage key old) old answer new (λ here. inr (record { not_in_log = absent.0; set_page = here }))
    (subst (λ (l : LaneState). StepGives (ask_set key moment l) (NeedsSetPage key l) l answer new) absent.1 gives))

-- a look into the log that failed not, and then one into a set
pub reads_after : {D : Type 0} (honest : D → Bool) (failures : D → ℕ) (held : D → ℕ → Option (List ℕ)) (old mid new : StoreState D) (looked : Looked) (failed : Bool) → looked ≡ look.Absent → OnlyReads honest failures held old (is_log_fault (Ok looked)) mid →
    OnlyReads honest failures held mid failed new → OnlyReads honest failures held old failed new
reads_after honest failures held old mid new looked failed is first next =
    let calm : OnlyReads honest failures held old false mid = subst (λ l. OnlyReads honest failures held old (is_log_fault (Ok l)) mid) is first in
    record {
      layout = next.layout ∙ calm.layout;
      honesty = next.honesty ∙ calm.honesty;
      failed_once = next.failed_once ∙ ap (λ n. faults_after n failed) calm.failed_once;
      same = λ on. next.same (calm.honesty ∙ on) ∙ calm.same on;
    }

-- a set's fault is the answer's
pub set_faulty : (looked : Looked) → is_fault (Ok (answer_of_set looked)) ≡ is_set_fault (Ok looked)
set_faulty (look.Hit value) = refl
set_faulty look.Expired = refl
set_faulty look.Absent = refl
set_faulty look.Fault = refl
set_faulty look.Damaged = refl
