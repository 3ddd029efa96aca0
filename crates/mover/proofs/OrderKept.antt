-- What keeps a lane in order.
use Rattle.std.proofs.Common.{◌≡◌, ℕ, Bool, true, false, not, List, [], filter, Option, Some, None, All, Contains, cond, refl, sym, ap, subst, ◌∙◌}
use Rattle.std.specs.Prelude.{nat_lt, length, ◌+◌, ◌==◌}
use Rattle.std.proofs.lemmas.List.Elements.{All-filter, All-cons, All-weaker, All-contains, All-contains_itself}
use Rattle.record_pages.specs.Expiry.{value_at}
use Rattle.record_pages.specs.Recs.{Rec}
use Rattle.record_pages.specs.declared.answer.Answer.{Answer}
use Rattle.record_pages.specs.declared.answer.Answer.TheVariants.{Hit, Miss}
use Rattle.record_pages.specs.declared.miss_cause.MissCause.TheVariants.{Absent, Expired, Fault, Damaged}
use Rattle.record_pages.specs.declared.tier.Tier.TheVariants.{Memory, Log, Set}
use Rattle.record_pages.specs.declared.timed_value.TimedValue.{TimedValue}
use Rattle.record_pages.specs.declared.pushed.Pushed.{Pushed}
use Rattle.record_pages.specs.declared.pushed.Pushed.TheVariants.{Declined, Logged, Full, IndexFull}
use Rattle.admission.specs.Chance.{is_admitted}
use Rattle.memory_cache.specs.declared.pair.Pair.{Pair}
use Rattle.memory_cache.specs.MemoryList.{MemoryList, value_in, after_get, after_put, after_remove, pushed_out}
use Rattle.klog_index.specs.declared.entry.Entry.{Entry}
use Rattle.klog_index.specs.declared.place.Place.{Place}
use Rattle.klog_index.specs.Entries.{has_tag, is_in, lowered}
use Rattle.klog.specs.declared.flushed.Flushed.{Flushed}
use Rattle.klog.specs.declared.flushed.Flushed.TheVariants as flushes
use Rattle.klog.specs.Log.{LogState, Shape, with_list}
use Rattle.klog.specs.Shown.{place_in, newest_with, ArePlaced}
use Rattle.klog.specs.Append.{entering, entry_for, taker, is_full}
use Rattle.klog.specs.Look.{live_lowered}
use Rattle.klog.specs.Names.{flushed_number}
use Rattle.klog.specs.Flush.{FlushGives, live_flushed, is_page_lost, is_on_page, without_next}
use Rattle.kset.specs.Sets.{hit_in, notes_of, has_place}
use Rattle.kset.specs.Shown.{first_visible}
use Rattle.kset.specs.Laws.{AreOfTheirSets}
use Rattle.kset.proofs.public_laws.MovingLaws.{strikes_keep}
use Rattle.mover.specs.Flight.{AreOfSet, Flight}
use Rattle.mover.specs.Lane.{LaneState}
use Rattle.mover.proofs.Expiring.{found_lane}
use Rattle.mover.specs.Get.{Step, lane_lowered, set_step, log_step, memory_step, get_step, GetGives}
use Rattle.mover.specs.Strike.{struck, removed}
use Rattle.mover.specs.Put.{lane_appended, append_step, push_step, stored, put_step}
use Rattle.mover.specs.Flush.{LaneFlushes}
use Rattle.mover.specs.Laws.{AreMarked, IsInOrder}
use Rattle.mover.proofs.public_laws.Listing.{in_map}
use Rattle.mover.proofs.Flying.{struck_placed}
use Rattle.mover.proofs.public_laws.Showing.{shape_appended}
use Rattle.mover.proofs.Marking.{struck_marked}

-- a lane is in order, and its log has the shape that it had
abbrev pub KeepsOrder : LaneState → LaneState → Type 0
KeepsOrder old new = (new.log.shape ≡ old.log.shape) × IsInOrder new

-- a lane is in order by its parts
pub in_order : (old new : LaneState) → new.log.shape ≡ old.log.shape → ArePlaced old.log.shape new.live → AreOfTheirSets old.log.shape.lanes old.log.shape.sets new.visible → All (λ (f : Flight). AreOfSet old.log.shape f.moving) new.flights →
    All (AreMarked old.log.shape) new.flights → KeepsOrder old new
in_order old new shape live sets flights marked = (
  shape,
  record {
    placed = record {
      log = subst (λ (h : Shape). ArePlaced h new.live) (sym shape) live;
      sets = subst (λ (h : Shape). AreOfTheirSets h.lanes h.sets new.visible) (sym shape) sets;
      flight = subst (λ (h : Shape). All (λ (f : Flight). AreOfSet h f.moving) new.flights) (sym shape) flights;
    };
    marked = subst (λ (h : Shape). All (AreMarked h) new.flights) (sym shape) marked;
  },
)

-- a live record has its entry's set and tag
abbrev pub IsRightly : Shape → Entry × Rec → Type 0
IsRightly shape x = ((place_in shape x.1.key).set ≡ x.0.set) × ((place_in shape x.1.key).tag ≡ x.0.tag)

-- when a prediction is lowered, the live records stay placed
lowered_placed : (shape : Shape) (set : ℕ) (place : Place) (live : List (Entry × Rec)) → ArePlaced shape live → ArePlaced shape (live_lowered set place live)
lowered_placed shape set place live all =
    let now : List (Entry × Rec) = live_lowered set place live in All-weaker (Contains now) (IsRightly shape) one now (All-contains_itself now)
  where
    by_asked : (x : Entry × Rec) (b : Bool) → IsRightly shape x → IsRightly shape (cond b (lowered x.0) x.0, x.1)
    by_asked x true it = it
    by_asked x false it = it

    one : (y : Entry × Rec) → Contains (live_lowered set place live) y → IsRightly shape y
    one y h =
        let found = in_map (λ (x : Entry × Rec). (cond (is_in set place x.0) (lowered x.0) x.0, x.1)) live y h in
        subst (IsRightly shape) found.2 (by_asked found.0 (is_in set place found.0.0) (All-contains (IsRightly shape) live found.0 all found.1))

module _ (lane : LaneState) (was : IsInOrder lane) where
  -- a lane with other things in memory
  pub memory_kept : (m : MemoryList) → KeepsOrder lane (record lane { memory = m })
  memory_kept m = in_order lane (record lane { memory = m }) refl was.placed.log was.placed.sets was.placed.flight was.marked

  -- a lane of which records of the log died
  pub dying_kept : (es : List Entry) (q : Entry × Rec → Bool) → KeepsOrder lane (record lane { log = with_list lane.log es; live = filter q lane.live })
  dying_kept es q =
      in_order lane (record lane { log = with_list lane.log es; live = filter q lane.live }) refl (All-filter q (IsRightly lane.log.shape) lane.live was.placed.log) was.placed.sets was.placed.flight was.marked

  -- a lane to whose log a record was added
  pub appended_kept : (size : ℕ) (r : Rec) → KeepsOrder lane (lane_appended size lane r)
  appended_kept size r =
      in_order lane (lane_appended size lane r) (shape_appended size lane.log r)
      (All-cons (IsRightly lane.log.shape) (entry_for size (taker size lane.log r) r, r) lane.live
      (ap (λ (h : Shape). (place_in h r.key).set) (sym (shape_appended size lane.log r)), ap (λ (h : Shape). (place_in h r.key).tag) (sym (shape_appended size lane.log r))) was.placed.log)
      was.placed.sets was.placed.flight was.marked

  -- a get keeps a lane in order
  pub got_kept : (key : List ℕ) (moment : ℕ) → KeepsOrder lane (get_step key moment lane).lane
  got_kept key moment = by_memory (value_in key lane.memory.pairs)
    where
      same : KeepsOrder lane lane
      same = (refl, was)

      by_set : (n : ℕ) (o : Option (ℕ × Rec)) → KeepsOrder lane (set_step n moment lane o).lane
      by_set n None = same
      by_set n (Some x) =
          let after : LaneState = record lane { sets = hit_in lane.sets n x.0 } in
          found_lane (KeepsOrder lane) (value_at moment x.1.value) Set lane after same (in_order lane after refl was.placed.log was.placed.sets was.placed.flight was.marked)

      by_log : (o : Option (Entry × Rec)) → KeepsOrder lane (log_step key moment lane o).lane
      by_log None = by_set (place_in lane.log.shape key).set (first_visible (lane.visible (place_in lane.log.shape key).set) key)
      by_log (Some x) =
          found_lane (KeepsOrder lane) (value_at moment x.1.value) Log lane (lane_lowered lane x.0) same
          (in_order lane (lane_lowered lane x.0) refl (lowered_placed lane.log.shape x.0.set x.0.place lane.live was.placed.log) was.placed.sets was.placed.flight was.marked)

      by_memory : (o : Option TimedValue) → KeepsOrder lane (memory_step key moment lane o).lane
      by_memory None = by_log (newest_with lane.live key)
      by_memory (Some v) =
          let after : LaneState = record lane { memory = after_get key lane.memory } in
          found_lane (KeepsOrder lane) (value_at moment v) Memory lane after same (in_order lane after refl was.placed.log was.placed.sets was.placed.flight was.marked)

  -- so does a strike
  pub struck_kept_order : (key : List ℕ) → KeepsOrder lane (struck key lane)
  struck_kept_order key =
      let at = place_in lane.log.shape key in
      in_order lane (struck key lane) refl (All-filter (λ (x : Entry × Rec). not (has_tag at.set at.tag x.0)) (IsRightly lane.log.shape) lane.live was.placed.log)
      (strikes_keep lane.log.shape.lanes lane.log.shape.sets at.set at.hash (has_place lane.sets) (notes_of lane.sets at.set) lane.visible was.placed.sets)
      (struck_placed at.hash lane.log.shape lane.flights was.placed.flight) (struck_marked at.hash lane.log.shape lane.flights was.marked)

  -- and a record that is to enter the log
  pub entered_kept : (size : ℕ) (r : Rec) → KeepsOrder lane (append_step size r lane).lane
  entered_kept size r = step (nat_lt (length lane.log.entries) lane.log.shape.limit) (is_full size lane.log r)
    where
      step : (a b : Bool) →
          KeepsOrder lane (cond {A = Step Pushed} a (cond b (record { reply = Full; lane = lane }) (record { reply = Logged; lane = lane_appended size lane r })) (record { reply = IndexFull; lane = lane })).lane
      step false b = (refl, was)
      step true true = (refl, was)
      step true false = appended_kept size r

-- a removal keeps a lane in order
pub removed_kept : (key : List ℕ) (lane : LaneState) → IsInOrder lane → KeepsOrder lane (removed key lane)
removed_kept key lane was =
    let m = after_remove key lane.memory in
    struck_kept_order (record lane { memory = m }) (memory_kept lane was m).1 key

-- so does a put
pub put_kept : (size admit word : ℕ) (p : Pair) (lane : LaneState) → IsInOrder lane → KeepsOrder lane (put_step size admit p word lane).lane
put_kept size admit word p lane was = by_pushed (pushed_out p lane.memory)
  where
    now : KeepsOrder lane (stored p lane)
    now = let m = after_put p lane.memory in struck_kept_order (record lane { memory = m }) (memory_kept lane was m).1 p.key

    by_word : (out : Pair) (b : Bool) → KeepsOrder lane (cond {A = Step Pushed} b (append_step size (entering out.key out.value) (stored p lane)) (record { reply = Declined; lane = stored p lane })).lane
    by_word out true = let it = entered_kept (stored p lane) now.1 size (entering out.key out.value) in (it.0, it.1)
    by_word out false = now

    by_pushed : (o : Option Pair) → KeepsOrder lane (push_step size admit word o (stored p lane)).lane
    by_pushed None = now
    by_pushed (Some out) = by_word out (is_admitted admit word)

-- a flush step leaves the log's shape
flushed_shape : (old new : LogState) (flushed : Flushed) → FlushGives old flushed new → new.shape ≡ old.shape
flushed_shape old new = by_answer
  where
    moved : (k : LogState) (b : Bool) → (cond {A = LogState} b (record k { stored = k.stored + 1; is_flushing = false; done = 0; flushing = [] }) (record k { done = k.done + 1 })).shape ≡ k.shape
    moved k true = refl
    moved k false = refl

    by_answer : (flushed : Flushed) → FlushGives old flushed new → new.shape ≡ old.shape
    by_answer flushes.Nothing gives = ap (λ (k : LogState). k.shape) gives.same
    by_answer flushes.Sealed gives = ap (λ (k : LogState). k.shape) gives.left
    by_answer flushes.LogFull gives = ap (λ (k : LogState). k.shape) gives.same
    by_answer flushes.Wrote gives = ap (λ (k : LogState). k.shape) gives.1 ∙ moved old (old.done + 1 == length old.flushing)
    by_answer flushes.PageLost gives = ap (λ (k : LogState). k.shape) gives.1 ∙ moved (without_next old) (old.done + 1 == length old.flushing)

-- a flush step keeps a lane in order
pub flushed_kept : (old new : LaneState) (flushed : Flushed) → IsInOrder old → LaneFlushes old flushed new → KeepsOrder old new
flushed_kept old new flushed was gives =
    subst (KeepsOrder old) (sym gives.1)
    (in_order old (record old { log = new.log; live = live_flushed old.log flushed old.live }) (flushed_shape old.log new.log flushed gives.0) (left (is_page_lost flushed)) was.placed.sets was.placed.flight was.marked)
  where
    left : (b : Bool) → ArePlaced old.log.shape (cond b (filter (λ (x : Entry × Rec). not (is_on_page old.log (flushed_number old.log) old.log.done x.0)) old.live) old.live)
    left true = All-filter (λ (x : Entry × Rec). not (is_on_page old.log (flushed_number old.log) old.log.done x.0)) (IsRightly old.log.shape) old.live was.placed.log
    left false = was.placed.log

-- and what a get gives
pub get_kept : (key : List ℕ) (moment : ℕ) (old new : LaneState) (answer : Answer) → IsInOrder old → GetGives key moment old answer new → KeepsOrder old new
get_kept key moment old new answer was = by_answer answer
  where
    stepped : new ≡ (get_step key moment old).lane → KeepsOrder old new
    stepped is = subst (KeepsOrder old) (sym is) (got_kept old was key moment)

    by_answer : (answer : Answer) → GetGives key moment old answer new → KeepsOrder old new
    by_answer (Hit value tier) gives = stepped gives.1
    by_answer (Miss Absent) gives = stepped gives.1
    by_answer (Miss Expired) gives = stepped gives.1
    by_answer (Miss Fault) failed = subst (KeepsOrder old) (sym failed.1) (refl, was)
    by_answer (Miss Damaged) gives = absurd gives
