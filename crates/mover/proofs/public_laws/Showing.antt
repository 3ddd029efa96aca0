-- Which pairs a step shows.
use Rattle.std.proofs.Common.{◌≡◌, ◌≢◌, ◌⊎◌, ℕ, Bool, true, false, eqb, not, List, [], filter, map, Option, Some, None, Contains, cond, inl, inr, ⊎_elim, refl, sym, ap, subst, ◌∙◌}
use Rattle.std.specs.Prelude.{nat_lt, length}
use Rattle.std.proofs.Common.{arith}
use Rattle.std.specs.Str.{bytes_eq}
use Rattle.std.specs.Cmp.Lexicographic.{bytes_decides, same_text}
use Rattle.std.specs.Option.{option_map}
use Rattle.std.proofs.lemmas.Bool.{and_from, eqb-true, eqb-false, eq-eqb, false≢true}
use Rattle.std.proofs.lemmas.Option.{none-some}
use Rattle.std.proofs.lemmas.List.Elements.{All-contains}
use Rattle.record_pages.specs.Looking.{has_key}
use Rattle.set_hash.specs.Fnv.{fnv1a}
use Rattle.record_pages.specs.Expiry.{value_at}
use Rattle.record_pages.specs.Recs.{Rec}
use Rattle.memory_cache.specs.declared.pair.Pair.{Pair}
use Rattle.memory_cache.specs.MemoryList.{without, entered, pushed_out, after_get, after_put, value_in, pair_in, to_front_by}
use Rattle.klog_index.specs.declared.entry.Entry.{Entry}
use Rattle.klog_index.specs.declared.place.Place.{Place}
use Rattle.klog_index.specs.Entries.{has_tag, is_in, lowered}
use Rattle.record_pages.specs.declared.answer.Answer.{Answer}
use Rattle.record_pages.specs.declared.answer.Answer.TheVariants.{Hit, Miss}
use Rattle.record_pages.specs.declared.miss_cause.MissCause.TheVariants.{Absent, Expired, Fault, Damaged}
use Rattle.record_pages.specs.declared.tier.Tier.TheVariants.{Memory, Log, Set}
use Rattle.record_pages.specs.declared.timed_value.TimedValue.{TimedValue}
use Rattle.record_pages.specs.declared.pushed.Pushed.TheVariants.{Declined, Logged, Full, IndexFull}
use Rattle.admission.specs.Chance.{is_admitted}
use Rattle.klog.specs.Log.{LogState, Shape, filling_buffer}
use Rattle.klog.specs.Buffer.{can_add}
use Rattle.klog.specs.Append.{entering, appended, put_on, sealed, is_full}
use Rattle.klog.specs.Look.{live_lowered}
use Rattle.klog.specs.Names.{flushed_number}
use Rattle.klog.specs.declared.flushed.Flushed.{Flushed}
use Rattle.klog.specs.Flush.{is_page_lost, is_on_page, live_flushed}
use Rattle.kset.specs.Shown.{first_visible}
use Rattle.record_pages.specs.declared.pushed.Pushed.{Pushed}
use Rattle.mover.specs.Get.{Step, lane_lowered, set_step, log_step, memory_step, get_step, GetGives}
use Rattle.mover.specs.Put.{lane_appended, append_step, push_step, stored, put_step}
use Rattle.mover.specs.Flush.{LaneFlushes}
use Rattle.klog.specs.Shown.{place_in, newest_with}
use Rattle.kset.specs.Notes.{Notes}
use Rattle.kset.specs.Sets.{hit_in, notes_of, has_place}
use Rattle.kset.specs.After.{after_strike, without_hash, is_forgetting}
use Rattle.mover.specs.Timed.{log_timed, memory_timed, first_timed}
use Rattle.mover.specs.Lane.{LaneState}
use Rattle.mover.specs.Strike.{struck, removed}
use Rattle.mover.specs.Visible.{pair_of, IsOnFlash, IsVisible, IsHeldInFlight, IsShown, IsLogPlaced, ShowsFrom, ShowsLive, TellsVisible}
use Rattle.mover.proofs.Expiring.{found_lane, found_reply, is_live_at}
use Rattle.mover.specs.Flight.{Flight, flight_struck}
use Rattle.mover.proofs.public_laws.Listing.{in_filter, in_map, in_take, mapped, split, got, found_in, found_passes}

-- each pair that is visible now was visible before
abbrev pub SeesNoMore : LaneState → LaneState → Type 0
SeesNoMore old new = (p : Pair) → IsVisible new p → IsVisible old p

-- each pair that is visible now was visible before, and has another key than this
abbrev pub SeesOthers : List ℕ → LaneState → LaneState → Type 0
SeesOthers key old new = (p : Pair) → IsVisible new p → IsVisible old p × (p.key ≢ key)

-- each pair that is visible now is this one, or was visible before and has another key
abbrev pub SeesIt : Pair → LaneState → LaneState → Type 0
SeesIt put old new = (p : Pair) → IsVisible new p → (p ≡ put) ⊎ (IsVisible old p × (p.key ≢ put.key))

pub some_same : {X : Type 0} {x y : X} → Some x ≡ Some y → x ≡ y
some_same is = cc

-- each pair that is shown now was shown before
abbrev pub ShowsNoMore : LaneState → LaneState → Type 0
ShowsNoMore old new = (p : Pair) → IsShown new p → IsShown old p

-- each pair that is shown now was shown before, and has another key than this
abbrev pub ShowsOthers : List ℕ → LaneState → LaneState → Type 0
ShowsOthers key old new = (p : Pair) → IsShown new p → IsShown old p × (p.key ≢ key)

-- each pair that is shown now is this one, or was shown before and has another key
abbrev pub ShowsIt : Pair → LaneState → LaneState → Type 0
ShowsIt put old new = (p : Pair) → IsShown new p → (p ≡ put) ⊎ (IsShown old p × (p.key ≢ put.key))

-- each of these is a case of the contract
pub no_more : (old new : LaneState) → ShowsNoMore old new → ShowsFrom None None old new
no_more old new shows p here = inl (shows p here, λ is. none-some p.key is)

pub others : (key : List ℕ) (old new : LaneState) → ShowsOthers key old new → ShowsFrom (Some key) None old new
others key old new shows p here = let it = shows p here in inl (it.0, λ is. it.1 (sym (some_same is)))

pub it_alone : (put : Pair) (old new : LaneState) → ShowsIt put old new → ShowsFrom (Some put.key) (Some put) old new
it_alone put old new shows p here =
    ⊎_elim (λ is. inr (ap Some (sym is))) (λ kept. inl (kept.0, λ is. kept.1 (sym (some_same is)))) (shows p here)

-- one contract after another
pub then : (old mid new : LaneState) → ShowsFrom None None old mid → ShowsFrom None None mid new → ShowsFrom None None old new
then old mid new first next p here = ⊎_elim (λ kept. first p kept.0) (λ none. absurd (none-some p none)) (next p here)

-- an item of a move that was in flight before was one before
pub held_still : (old new : LaneState) (p : Pair) (held : IsHeldInFlight new p) → Contains old.flights held.its → IsHeldInFlight old p
held_still old new p held flies = record { its = held.its; flies = flies; item = held.item; unstruck = held.unstruck; pair = held.pair }

-- if no other move is in flight, no more is shown when no more is visible
pub sees_fewer : (old new : LaneState) → ((f : Flight) → Contains new.flights f → Contains old.flights f) → SeesNoMore old new → ShowsNoMore old new
sees_fewer old new fewer sees p (inl visible) = inl (sees p visible)
sees_fewer old new fewer sees p (inr held) = inr (held_still old new p held (fewer held.its held.flies))

-- so if the same moves are
pub sees_no_more : (old new : LaneState) → new.flights ≡ old.flights → SeesNoMore old new → ShowsNoMore old new
sees_no_more old new same = sees_fewer old new (λ f flies. subst (λ (fs : List Flight). Contains fs f) same flies)

not_true : (b : Bool) → not b ≡ true → b ≡ true → ⊥
not_true b fails passes = false≢true (ap not (sym passes) ∙ fails)

-- what is left of pairs without a key has another key
pub without_key : (key : List ℕ) (pairs : List Pair) (p : Pair) → Contains (without key pairs) p → Contains pairs p × (p.key ≢ key)
without_key key pairs p h =
    let kept = in_filter (λ (x : Pair). not (bytes_eq key x.key)) pairs p h in
    (kept.0, λ same. not_true (bytes_eq key p.key) kept.1 ((bytes_decides key p.key).1 (sym same)))

-- what is left of visible records once a hash is struck has another key
struck_set : (free : Bool) (notes : Notes) (key : List ℕ) (visible : List (ℕ × Rec)) (p : Pair) → Contains (map (λ (x : ℕ × Rec). pair_of x.1) (after_strike free notes (fnv1a key) visible)) p →
    Contains (map (λ (x : ℕ × Rec). pair_of x.1) visible) p × (p.key ≢ key)
struck_set free notes key visible p h = step (is_forgetting free notes (fnv1a key)) h
  where
    step : (b : Bool) → Contains (map (λ (x : ℕ × Rec). pair_of x.1) (cond b [] (without_hash (fnv1a key) visible))) p → Contains (map (λ (x : ℕ × Rec). pair_of x.1) visible) p × (p.key ≢ key)
    step true none = absurd (let found = in_map (λ (x : ℕ × Rec). pair_of x.1) [] p none in let lt = found.1.1 in omega (arith, lt))
    step false some =
        let found = in_map (λ (x : ℕ × Rec). pair_of x.1) (without_hash (fnv1a key) visible) p some in
        let x = found.0 in
        let kept = in_filter (λ (y : ℕ × Rec). not (eqb (fnv1a y.1.key) (fnv1a key))) visible x found.1 in (
          mapped (λ (y : ℕ × Rec). pair_of y.1) visible x p kept.0 found.2,
          λ same. not_true (eqb (fnv1a x.1.key) (fnv1a key)) kept.1 (eq-eqb _ _ (ap fnv1a (ap (λ (q : Pair). q.key) found.2 ∙ same))),
        )

-- what is on flash after a strike was there before, and has another key
pub struck_shows : (key : List ℕ) (lane : LaneState) (p : Pair) → IsLogPlaced lane → IsOnFlash (struck key lane) p → IsOnFlash lane p × (p.key ≢ key)
struck_shows key lane p placed (inl live) =
    let at = place_in lane.log.shape key in
    let found = in_map (λ (x : Entry × Rec). pair_of x.1) (filter (λ (x : Entry × Rec). not (has_tag at.set at.tag x.0)) lane.live) p live in
    let x = found.0 in
    let kept = in_filter (λ (y : Entry × Rec). not (has_tag at.set at.tag y.0)) lane.live x found.1 in
    let its = All-contains (λ (y : Entry × Rec). ((place_in lane.log.shape y.1.key).set ≡ y.0.set) × ((place_in lane.log.shape y.1.key).tag ≡ y.0.tag)) lane.live x placed kept.0 in (
      inl (mapped (λ (y : Entry × Rec). pair_of y.1) lane.live x p kept.0 found.2),
      λ same. not_true (has_tag at.set at.tag x.0) kept.1
          (subst (λ (k : List ℕ). has_tag (place_in lane.log.shape k).set (place_in lane.log.shape k).tag x.0 ≡ true) (ap (λ (q : Pair). q.key) found.2 ∙ same)
          (and_from _ _ (eq-eqb _ _ (sym its.0)) (eq-eqb _ _ (sym its.1)))),
    )
struck_shows key lane p placed (inr visible) = step (eqb (place_in lane.log.shape p.key).set (place_in lane.log.shape key).set) refl visible
  where
    step : (b : Bool) → eqb (place_in lane.log.shape p.key).set (place_in lane.log.shape key).set ≡ b →
        Contains (map (λ (x : ℕ × Rec). pair_of x.1) (cond b (after_strike (has_place lane.sets) (notes_of lane.sets (place_in lane.log.shape key).set) (fnv1a key) (lane.visible (place_in lane.log.shape key).set)) (lane.visible (place_in lane.log.shape p.key).set))) p →
        IsOnFlash lane p × (p.key ≢ key)
    step true same here =
        let shown = struck_set (has_place lane.sets) (notes_of lane.sets (place_in lane.log.shape key).set) key (lane.visible (place_in lane.log.shape key).set) p here in
        (inr (subst (λ n. Contains (map (λ (x : ℕ × Rec). pair_of x.1) (lane.visible n)) p) (sym (eqb-true _ _ same)) shown.0), shown.1)
    step false differs here =
        (inr here, λ same. eqb-false _ _ differs (ap (λ (k : List ℕ). (place_in lane.log.shape k).set) same))

-- a removal shows only other keys
pub removed_sees : (key : List ℕ) (lane : LaneState) → IsLogPlaced lane → SeesOthers key lane (removed key lane)
removed_sees key lane placed p (inl here) = let kept = without_key key lane.memory.pairs p here in (inl kept.0, kept.1)
removed_sees key lane placed p (inr flash) = let kept = struck_shows key (record lane { memory = record { capacity = lane.memory.capacity; pairs = without key lane.memory.pairs } }) p placed flash in (inr kept.0, kept.1)

-- if a pair of memory comes to the front, no other pair is there
raised_shows : (key : List ℕ) (pairs : List Pair) (p : Pair) → (o : Option Pair) → pair_in key pairs ≡ o → Contains (to_front_by o pairs) p → Contains pairs p
raised_shows key pairs p None is here = here
raised_shows key pairs p (Some x) is here =
    ⊎_elim (λ first. subst (Contains pairs) first (found_in (λ (y : Pair). bytes_eq key y.key) pairs x is)) (λ behind. (without_key x.key pairs p behind).0)
    (split p x (without x.key pairs) here)

-- when a prediction is lowered, the records stay
lowered_shows : (set : ℕ) (place : Place) (live : List (Entry × Rec)) (p : Pair) → Contains (map (λ (x : Entry × Rec). pair_of x.1) (live_lowered set place live)) p → Contains (map (λ (x : Entry × Rec). pair_of x.1) live) p
lowered_shows set place live p here =
    let outer = in_map (λ (x : Entry × Rec). pair_of x.1) (live_lowered set place live) p here in
    let inner = in_map (λ (x : Entry × Rec). (cond (is_in set place x.0) (lowered x.0) x.0, x.1)) live outer.0 outer.1 in
    mapped (λ (x : Entry × Rec). pair_of x.1) live inner.0 p inner.1 (ap (λ (x : Entry × Rec). pair_of x.1) inner.2 ∙ outer.2)

-- a get shows nothing that was not visible
step_shows : (key : List ℕ) (moment : ℕ) (lane : LaneState) → SeesNoMore lane (get_step key moment lane).lane
step_shows key moment lane = by_memory (value_in key lane.memory.pairs)
  where
    same : SeesNoMore lane lane
    same p here = here

    by_set : (n : ℕ) (o : Option (ℕ × Rec)) → SeesNoMore lane (set_step n moment lane o).lane
    by_set n None = same
    by_set n (Some x) = found_lane (SeesNoMore lane) (value_at moment x.1.value) Set lane (record lane { sets = hit_in lane.sets n x.0 }) same (λ p here. here)

    lowered : (e : Entry) → SeesNoMore lane (lane_lowered lane e)
    lowered e p (inl memory) = inl memory
    lowered e p (inr (inl live)) = inr (inl (lowered_shows e.set e.place lane.live p live))
    lowered e p (inr (inr visible)) = inr (inr visible)

    by_log : (o : Option (Entry × Rec)) → SeesNoMore lane (log_step key moment lane o).lane
    by_log None = by_set (place_in lane.log.shape key).set (first_visible (lane.visible (place_in lane.log.shape key).set) key)
    by_log (Some x) = found_lane (SeesNoMore lane) (value_at moment x.1.value) Log lane (lane_lowered lane x.0) same (lowered x.0)

    raised : SeesNoMore lane (record lane { memory = after_get key lane.memory })
    raised p (inl memory) = inl (raised_shows key lane.memory.pairs p (pair_in key lane.memory.pairs) refl memory)
    raised p (inr flash) = inr flash

    by_memory : (o : Option TimedValue) → SeesNoMore lane (memory_step key moment lane o).lane
    by_memory None = by_log (newest_with lane.live key)
    by_memory (Some v) = found_lane (SeesNoMore lane) (value_at moment v) Memory lane (record lane { memory = after_get key lane.memory }) same raised

-- nor does it change the moves in flight
step_flies : (key : List ℕ) (moment : ℕ) (lane : LaneState) → (get_step key moment lane).lane.flights ≡ lane.flights
step_flies key moment lane = by_memory (value_in key lane.memory.pairs)
  where
    by_set : (n : ℕ) (o : Option (ℕ × Rec)) → (set_step n moment lane o).lane.flights ≡ lane.flights
    by_set n None = refl
    by_set n (Some x) = found_lane (λ l. l.flights ≡ lane.flights) (value_at moment x.1.value) Set lane (record lane { sets = hit_in lane.sets n x.0 }) refl refl

    by_log : (o : Option (Entry × Rec)) → (log_step key moment lane o).lane.flights ≡ lane.flights
    by_log None = by_set (place_in lane.log.shape key).set (first_visible (lane.visible (place_in lane.log.shape key).set) key)
    by_log (Some x) = found_lane (λ l. l.flights ≡ lane.flights) (value_at moment x.1.value) Log lane (lane_lowered lane x.0) refl refl

    by_memory : (o : Option TimedValue) → (memory_step key moment lane o).lane.flights ≡ lane.flights
    by_memory None = by_log (newest_with lane.live key)
    by_memory (Some v) = found_lane (λ l. l.flights ≡ lane.flights) (value_at moment v) Memory lane (record lane { memory = after_get key lane.memory }) refl refl

-- nor does what a get leaves
pub get_shows : (key : List ℕ) (moment : ℕ) (old new : LaneState) (answer : Answer) → GetGives key moment old answer new → ShowsNoMore old new
get_shows key moment old new answer gives = by_answer answer gives
  where
    stepped : new ≡ (get_step key moment old).lane → ShowsNoMore old new
    stepped is = subst (ShowsNoMore old) (sym is) (sees_no_more old (get_step key moment old).lane (step_flies key moment old) (step_shows key moment old))

    by_answer : (answer : Answer) → GetGives key moment old answer new → ShowsNoMore old new
    by_answer (Hit value tier) gives = stepped gives.1
    by_answer (Miss Absent) gives = stepped gives.1
    by_answer (Miss Expired) gives = stepped gives.1
    by_answer (Miss Fault) failed = subst (ShowsNoMore old) (sym failed.1) (λ p here. here)
    by_answer (Miss Damaged) gives = absurd gives

-- ---- puts

-- a pair that is stored is shown, and otherwise only other keys
stored_shows : (put : Pair) (lane : LaneState) → IsLogPlaced lane → SeesIt put lane (stored put lane)
stored_shows put lane placed p (inl here) =
    ⊎_elim (λ first. inl (sym first)) (λ behind. let kept = without_key put.key lane.memory.pairs p behind in inr (inl kept.0, kept.1))
    (split p put (without put.key lane.memory.pairs) (in_take lane.memory.capacity (entered put lane.memory.pairs) p here))
stored_shows put lane placed p (inr flash) =
    let kept = struck_shows put.key (record lane { memory = after_put put lane.memory }) p placed flash in inr (inr kept.0, kept.1)

-- a log with one more record has the shape that it had
pub shape_appended : (size : ℕ) (k : LogState) (r : Rec) → (appended size k r).shape ≡ k.shape
shape_appended size k r = step (can_add size (filling_buffer k) r)
  where
    step : (b : Bool) → (put_on size (cond b k (sealed k)) r).shape ≡ k.shape
    step true = refl
    step false = refl

-- an append shows the record, and what was visible
pub appended_shows : (size : ℕ) (lane : LaneState) (r : Rec) (p : Pair) → IsVisible (lane_appended size lane r) p → (p ≡ pair_of r) ⊎ IsVisible lane p
appended_shows size lane r p (inl memory) = inr (inl memory)
appended_shows size lane r p (inr (inl live)) =
    ⊎_elim (λ first. inl (sym first)) (λ behind. inr (inr (inl behind))) (split p (pair_of r) (map (λ (x : Entry × Rec). pair_of x.1) lane.live) live)
appended_shows size lane r p (inr (inr visible)) =
    inr (inr (inr (subst (λ (h : Shape). Contains (map (λ (x : ℕ × Rec). pair_of x.1) (lane.visible (place_in h p.key).set)) p) (shape_appended size lane.log r) visible)))

-- whatever becomes of a record that is to enter the log, nothing else is shown
pub append_shows : (size : ℕ) (lane : LaneState) (r : Rec) (p : Pair) → IsVisible (append_step size r lane).lane p → (p ≡ pair_of r) ⊎ IsVisible lane p
append_shows size lane r p = step (nat_lt (length lane.log.entries) lane.log.shape.limit) (is_full size lane.log r)
  where
    step : (a b : Bool) →
        IsVisible (cond {A = Step Pushed} a (cond b (record { reply = Full; lane = lane }) (record { reply = Logged; lane = lane_appended size lane r })) (record { reply = IndexFull; lane = lane })).lane p →
        (p ≡ pair_of r) ⊎ IsVisible lane p
    step false b here = inr here
    step true true here = inr here
    step true false here = appended_shows size lane r p here

-- a put makes its pair visible, and otherwise only other keys
pub put_sees : (size admit word : ℕ) (put : Pair) (lane : LaneState) → IsLogPlaced lane → SeesIt put lane (put_step size admit put word lane).lane
put_sees size admit word put lane placed = by_pushed (pushed_out put lane.memory) refl
  where
    pushed_from : (out : Pair) → pushed_out put lane.memory ≡ Some out → (out ≡ put) ⊎ (IsVisible lane out × (out.key ≢ put.key))
    pushed_from out is =
        ⊎_elim (λ first. inl (sym first)) (λ behind. let kept = without_key put.key lane.memory.pairs out behind in inr (inl kept.0, kept.1))
        (split out put (without put.key lane.memory.pairs) (got (entered put lane.memory.pairs) lane.memory.capacity out is))

    entering_from : (out p : Pair) → pushed_out put lane.memory ≡ Some out → (p ≡ out) ⊎ IsVisible (stored put lane) p → (p ≡ put) ⊎ (IsVisible lane p × (p.key ≢ put.key))
    entering_from out p is (inl it) = subst (λ (q : Pair). (q ≡ put) ⊎ (IsVisible lane q × (q.key ≢ put.key))) (sym it) (pushed_from out is)
    entering_from out p is (inr here) = stored_shows put lane placed p here

    by_word : (out : Pair) → pushed_out put lane.memory ≡ Some out → (b : Bool) →
        SeesIt put lane (cond {A = Step Pushed} b (append_step size (entering out.key out.value) (stored put lane)) (record { reply = Declined; lane = stored put lane })).lane
    by_word out is true p here = entering_from out p is (append_shows size (stored put lane) (entering out.key out.value) p here)
    by_word out is false p here = stored_shows put lane placed p here

    by_pushed : (o : Option Pair) → pushed_out put lane.memory ≡ o → SeesIt put lane (push_step size admit word o (stored put lane)).lane
    by_pushed None is = stored_shows put lane placed
    by_pushed (Some out) is = by_word out is (is_admitted admit word)

-- a put leaves of the moves in flight what its strike does
pub put_flies : (size admit word : ℕ) (put : Pair) (lane : LaneState) → (put_step size admit put word lane).lane.flights ≡ map (flight_struck (fnv1a put.key)) lane.flights
put_flies size admit word put lane = by_pushed (pushed_out put lane.memory)
  where
    entered_flies : (r : Rec) (a b : Bool) → (cond {A = Step Pushed} a (cond b (record { reply = Full; lane = stored put lane }) (record { reply = Logged; lane = lane_appended size (stored put lane) r })) (record { reply = IndexFull; lane = stored put lane })).lane.flights
        ≡ map (flight_struck (fnv1a put.key)) lane.flights
    entered_flies r false b = refl
    entered_flies r true true = refl
    entered_flies r true false = refl

    by_word : (out : Pair) (b : Bool) → (cond {A = Step Pushed} b (append_step size (entering out.key out.value) (stored put lane)) (record { reply = Declined; lane = stored put lane })).lane.flights ≡ map (flight_struck (fnv1a put.key)) lane.flights
    by_word out true = entered_flies (entering out.key out.value) (nat_lt (length (stored put lane).log.entries) (stored put lane).log.shape.limit) (is_full size (stored put lane).log (entering out.key out.value))
    by_word out false = refl

    by_pushed : (o : Option Pair) → (push_step size admit word o (stored put lane)).lane.flights ≡ map (flight_struck (fnv1a put.key)) lane.flights
    by_pushed None = refl
    by_pushed (Some out) = by_word out (is_admitted admit word)

-- ---- flush steps

-- a flush step shows nothing that was not visible
flush_sees : (flushed : Flushed) (old new : LaneState) → new.log.shape ≡ old.log.shape → LaneFlushes old flushed new → SeesNoMore old new
flush_sees flushed old new shape gives p here = step (subst (λ (l : LaneState). IsVisible l p) gives.1 here)
  where
    lost : (b : Bool) → Contains (map (λ (x : Entry × Rec). pair_of x.1) (cond b (filter (λ (x : Entry × Rec). not (is_on_page old.log (flushed_number old.log) old.log.done x.0)) old.live) old.live)) p →
        Contains (map (λ (x : Entry × Rec). pair_of x.1) old.live) p
    lost true some =
        let found = in_map (λ (x : Entry × Rec). pair_of x.1) (filter (λ (x : Entry × Rec). not (is_on_page old.log (flushed_number old.log) old.log.done x.0)) old.live) p some in
        mapped (λ (x : Entry × Rec). pair_of x.1) old.live found.0 p (in_filter (λ (x : Entry × Rec). not (is_on_page old.log (flushed_number old.log) old.log.done x.0)) old.live found.0 found.1).0 found.2
    lost false all = all

    step : IsVisible (record old { log = new.log; live = live_flushed old.log flushed old.live }) p → IsVisible old p
    step (inl memory) = inl memory
    step (inr (inl live)) = inr (inl (lost (is_page_lost flushed) live))
    step (inr (inr visible)) = inr (inr (subst (λ (h : Shape). Contains (map (λ (x : ℕ × Rec). pair_of x.1) (old.visible (place_in h p.key).set)) p) shape visible))

pub flush_shows : (flushed : Flushed) (old new : LaneState) → new.log.shape ≡ old.log.shape → LaneFlushes old flushed new → ShowsNoMore old new
flush_shows flushed old new shape gives = sees_no_more old new (ap (λ (l : LaneState). l.flights) gives.1) (flush_sees flushed old new shape gives)

-- a get answers the value of a visible pair of its key that is live
shown_live : (key : List ℕ) (moment : ℕ) (lane : LaneState) (v : TimedValue) → IsVisible lane (record { key = key; value = v }) → (value : List ℕ) → value_at moment v ≡ Some value → ShowsLive key moment lane value
shown_live key moment lane v visible value is =
    let live = is_live_at moment v value is in
    record { expires = v.expires; visible = subst (λ (w : TimedValue). IsVisible lane (record { key = key; value = w })) live.0 visible; live = live.1 }

-- what a lane has of a key is a visible pair of it
pub timed_visible : (key : List ℕ) (lane : LaneState) (v : TimedValue) → first_timed key lane ≡ Some v → IsVisible lane (record { key = key; value = v })
timed_visible key lane v = by_memory (pair_in key lane.memory.pairs) refl
  where
    set : ℕ
    set = (place_in lane.log.shape key).set

    same : (w : TimedValue) → Some w ≡ Some v → w ≡ v
    same w is = cc

    by_set : (o : Option (ℕ × Rec)) → first_visible (lane.visible set) key ≡ o → option_map (λ x. x.1.value) o ≡ Some v → IsVisible lane (record { key = key; value = v })
    by_set None is has = absurd cc
    by_set (Some x) is has = inr (inr (mapped (λ (y : ℕ × Rec). pair_of y.1) (lane.visible set) x (record { key = key; value = v }) (found_in (λ (y : ℕ × Rec). has_key key y.1) (lane.visible set) x is)
        (λ i. record { key = same_text x.1.key key (sym (found_passes (λ (y : ℕ × Rec). has_key key y.1) (lane.visible set) x is)) i; value = same x.1.value has i })))

    by_log : (o : Option (Entry × Rec)) → newest_with lane.live key ≡ o → log_timed key lane o ≡ Some v → IsVisible lane (record { key = key; value = v })
    by_log None is has = by_set (first_visible (lane.visible set) key) refl has
    by_log (Some x) is has = inr (inl (mapped (λ (y : Entry × Rec). pair_of y.1) lane.live x (record { key = key; value = v }) (found_in (λ (y : Entry × Rec). has_key key y.1) lane.live x is)
        (λ i. record { key = same_text x.1.key key (sym (found_passes (λ (y : Entry × Rec). has_key key y.1) lane.live x is)) i; value = same x.1.value has i })))

    by_memory : (o : Option Pair) → pair_in key lane.memory.pairs ≡ o → memory_timed key lane (option_map (λ (p : Pair). p.value) o) ≡ Some v → IsVisible lane (record { key = key; value = v })
    by_memory None is has = by_log (newest_with lane.live key) refl has
    by_memory (Some p) is has = inl (subst (Contains lane.memory.pairs) (λ i. record { key = sym ((bytes_decides key p.key).0 (found_passes (λ (y : Pair). bytes_eq key y.key) lane.memory.pairs p is)) i; value = same p.value has i })
        (found_in (λ (y : Pair). bytes_eq key y.key) lane.memory.pairs p is))

answer_visible : (key : List ℕ) (moment : ℕ) (lane : LaneState) → TellsVisible key moment lane (get_step key moment lane).reply
answer_visible key moment lane = by_memory (value_in key lane.memory.pairs) refl
  where
    live : (v : TimedValue) → first_timed key lane ≡ Some v → (value : List ℕ) → value_at moment v ≡ Some value → ShowsLive key moment lane value
    live v has = shown_live key moment lane v (timed_visible key lane v has)

    by_set : (n : ℕ) (o : Option (ℕ × Rec)) → first_timed key lane ≡ option_map (λ x. x.1.value) o → TellsVisible key moment lane (set_step n moment lane o).reply
    by_set n None has = tt
    by_set n (Some x) has = found_reply (TellsVisible key moment lane) (value_at moment x.1.value) Set lane (record lane { sets = hit_in lane.sets n x.0 }) tt (live x.1.value has)

    by_log : (o : Option (Entry × Rec)) → first_timed key lane ≡ log_timed key lane o → TellsVisible key moment lane (log_step key moment lane o).reply
    by_log None has = by_set (place_in lane.log.shape key).set (first_visible (lane.visible (place_in lane.log.shape key).set) key) has
    by_log (Some x) has = found_reply (TellsVisible key moment lane) (value_at moment x.1.value) Log lane (lane_lowered lane x.0) tt (live x.1.value has)

    by_memory : (o : Option TimedValue) → first_timed key lane ≡ memory_timed key lane o → TellsVisible key moment lane (memory_step key moment lane o).reply
    by_memory None has = by_log (newest_with lane.live key) has
    by_memory (Some v) has = found_reply (TellsVisible key moment lane) (value_at moment v) Memory lane (record lane { memory = after_get key lane.memory }) tt (live v has)

-- so does what a get answers
pub get_tells : (key : List ℕ) (moment : ℕ) (old new : LaneState) (answer : Answer) → GetGives key moment old answer new → TellsVisible key moment old answer
get_tells key moment old new (Hit value tier) gives = subst (TellsVisible key moment old) (sym gives.0) (answer_visible key moment old)
get_tells key moment old new (Miss cause) gives = tt
