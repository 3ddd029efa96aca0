-- Which pairs a move shows.
use Rattle.std.proofs.Common.{◌≡◌, ◌<◌, ◌+◌, ℕ, Bool, true, false, eqb, not, List, [], ◌∷◌, length, filter, map, take, get_or, Option, Some, None, Contains, cond, inl, inr, ⊎_elim, refl, sym, ap, subst, ◌∙◌, arith}
use Rattle.std.specs.Prelude.{find, nat_lt}
use Rattle.std.specs.List.{enumerate_from}
use Rattle.std.specs.Option.{option_map}
use Rattle.std.proofs.lemmas.Option.{none-some, slice_get-get_or}
use Rattle.std.proofs.lemmas.List.Elements.{All-contains, Contains-append_cases}
use Rattle.record_pages.specs.Expiry.{lasting}
use Rattle.record_pages.specs.Recs.{Rec, rec}
use Rattle.memory_cache.specs.declared.pair.Pair.{Pair}
use Rattle.policy_laws.specs.declared.choice.Choice.{Choice}
use Rattle.admission.specs.declared.judgement.Judgement.{Judgement}
use Rattle.admission.specs.declared.judgement.Judgement.TheVariants as judgement
use Rattle.klog_index.specs.declared.entry.Entry.{Entry}
use Rattle.klog_index.specs.Entries.{is_of, is_in}
use Rattle.klog.specs.declared.oldest.Oldest.{Oldest}
use Rattle.klog.specs.declared.oldest.Oldest.TheVariants as oldest
use Rattle.klog.specs.declared.readmitted.Readmitted.{Readmitted}
use Rattle.klog.specs.declared.readmitted.Readmitted.TheVariants as readmitted
use Rattle.klog.specs.declared.taken_record.TakenRecord.{TakenRecord}
use Rattle.klog.specs.Log.{with_list}
use Rattle.klog.specs.Names.{segment_of}
use Rattle.klog.specs.Shown.{place_in}
use Rattle.klog.specs.Append.{entering, is_full}
use Rattle.klog.specs.Flush.{is_on_page}
use Rattle.klog.specs.Moves.{is_taken, taken_as, taken_of, most_taken, dropped, without_entry, without_its_page}
use Rattle.kset.specs.declared.set_record.SetRecord.{SetRecord}
use Rattle.kset.specs.declared.rewritten.Rewritten.{Rewritten}
use Rattle.kset.specs.declared.rewritten.Rewritten.TheVariants as rewritten
use Rattle.kset.specs.Sets.{SetsState, notes_of, written, tried, forgotten}
use Rattle.kset.specs.Shown.{with_flag}
use Rattle.mover.specs.Store.{most_moves}
use Rattle.mover.specs.Lane.{LaneState}
use Rattle.kset.specs.After.{with_set}
use Rattle.mover.specs.Visible.{pair_of, IsVisible, IsShown, IsLogPlaced, AreSetsPlaced}
use Rattle.kset.specs.Laws.{IsKeyOf}
use Rattle.mover.specs.Get.{Step}
use Rattle.mover.specs.Put.{lane_appended}
use Rattle.mover.specs.Oldest.{oldest_in, record_of}
use Rattle.mover.specs.Begin.{lane_freed, lane_without_entry, lane_without_page, lane_forgotten, lane_begun, moving_of, set_records, anew_step, judged, entry_step, oldest_step, next_step, begin_step, LosesPage, BeginGives}
use Rattle.mover.specs.Flight.{Flight, records_of, unstruck, is_struck, IsUnstruck, most_flights, sets_in_flight, just_begun}
use Rattle.mover.specs.Job.{job_of, items_of}
use Rattle.mover.specs.Commit.{planned, planned_of, lane_rewritten, landed, committed, IsFitting, Commits, CommitGives, given_up, AbortGives}
use Rattle.mover.specs.declared.begin.Begin.{Begin}
use Rattle.mover.specs.declared.begin.Begin.TheVariants as begin
use Rattle.mover.specs.declared.committed.Committed.{Committed}
use Rattle.mover.specs.declared.committed.Committed.TheVariants as answers
use Rattle.mover.specs.declared.aborted.Aborted.{Aborted}
use Rattle.mover.specs.declared.aborted.Aborted.TheVariants as aborted
use Rattle.mover.proofs.public_laws.Listing.{in_filter, in_map, in_take, mapped, found_in, got, split}
use Rattle.mover.proofs.Filling.{as_many}
use Rattle.mover.proofs.public_laws.Showing.{SeesNoMore, ShowsNoMore, held_still, sees_no_more, sees_fewer, appended_shows}
use Rattle.mover.proofs.public_laws.FlightLists.{held_found}
use Rattle.mover.proofs.Gathering.{moving_placed}

-- what is so of a move that is busy, of one with nothing to do, and of one that looks at the oldest segment, is so of each that begins
pub begins_by : (size least : ℕ) (lane : LaneState) (P : Step Begin → Type 0) → P (record { reply = begin.Busy; lane = lane }) → P (record { reply = begin.Nothing; lane = lane }) → ((o : Oldest) → P (oldest_step size least lane o)) →
    P (begin_step size least lane)
begins_by size least lane P busy nothing oldest = by_room (nat_lt (length lane.flights) most_flights)
  where
    by_moves : (b : Bool) → P (cond {A = Step Begin} b (oldest_step size least lane (oldest_in (sets_in_flight lane.flights) lane.log)) (record { reply = begin.Nothing; lane = lane }))
    by_moves true = oldest (oldest_in (sets_in_flight lane.flights) lane.log)
    by_moves false = nothing

    by_room : (b : Bool) → P (cond {A = Step Begin} b (next_step size least lane) (record { reply = begin.Busy; lane = lane }))
    by_room true = by_moves (nat_lt lane.moves most_moves)
    by_room false = busy

-- the moves that are left were in flight
were_in_flight : (number : ℕ) (lane : LaneState) (f : Flight) → Contains (given_up number lane).flights f → Contains lane.flights f
were_in_flight number lane f left = (in_filter (λ (g : Flight). not (eqb g.moving.number number)) lane.flights f left).0

-- if records of the log die nothing else is shown
without_shows : (es : List Entry) (q : Entry × Rec → Bool) (lane : LaneState) → SeesNoMore lane (record lane { log = with_list lane.log es; live = filter q lane.live })
without_shows es q lane p (inl memory) = inl memory
without_shows es q lane p (inr (inl live)) =
    let found = in_map (λ (x : Entry × Rec). pair_of x.1) (filter q lane.live) p live in
    inr (inl (mapped (λ (x : Entry × Rec). pair_of x.1) lane.live found.0 p (in_filter q lane.live found.0 found.1).0 found.2))
without_shows es q lane p (inr (inr visible)) = inr (inr visible)

-- if a set shows other records, what is so of each of them and of what was visible is so of all that is visible
set_shown : (P : Pair → Type 0) (lane : LaneState) (sets : SetsState) (set : ℕ) (shows : List (ℕ × Rec)) → ((p : Pair) → IsVisible lane p → P p) → ((p : Pair) → Contains (map (λ (x : ℕ × Rec). pair_of x.1) shows) p → P p) →
    (p : Pair) → IsVisible (record lane { sets = sets; visible = with_set lane.visible set shows }) p → P p
set_shown P lane sets set shows old fresh p (inl memory) = old p (inl memory)
set_shown P lane sets set shows old fresh p (inr (inl live)) = old p (inr (inl live))
set_shown P lane sets set shows old fresh p (inr (inr visible)) = step (eqb (place_in lane.log.shape p.key).set set) visible
  where
    step : (b : Bool) → Contains (map (λ (x : ℕ × Rec). pair_of x.1) (cond b shows (lane.visible (place_in lane.log.shape p.key).set))) p → P p
    step true here = fresh p here
    step false here = old p (inr (inr here))

-- nothing is in an empty list
pub nothing : {X : Type 0} (f : X → Pair) (p : Pair) → Contains (map f []) p → ⊥
nothing f p h = let lt = (in_map f [] p h).1.1 in omega (arith, lt)

forgotten_shows : (lane : LaneState) (set : ℕ) (sets : SetsState) → SeesNoMore lane (record lane { sets = sets; visible = with_set lane.visible set [] })
forgotten_shows lane set sets = set_shown (IsVisible lane) lane sets set [] (λ p here. here) (λ p h. absurd (nothing (λ (x : ℕ × Rec). pair_of x.1) p h))

-- if a page of the log is lost nothing else is shown
page_shows : (old : LaneState) (e : Entry) → SeesNoMore old (lane_without_page e old)
page_shows old e = without_shows (without_its_page old.log e).entries (λ (x : Entry × Rec). not (is_on_page old.log (segment_of old.log e) e.place.page x.0)) old

-- a readmission shows what was live
readmitted_shows : (size : ℕ) (e : Entry) (x : Entry × Rec) (r : Rec) (lane : LaneState) → Contains lane.live x → x.1 ≡ r → SeesNoMore lane (lane_appended size (lane_without_entry e lane) (entering r.key r.value))
readmitted_shows size e x r lane live is p here =
    ⊎_elim (λ it. inr (inl (mapped (λ (y : Entry × Rec). pair_of y.1) lane.live x p live (ap pair_of is ∙ sym it))))
    (λ rest. without_shows (without_entry lane.log e).entries (λ (y : Entry × Rec). not (is_in e.set e.place y.0)) lane p rest)
    (appended_shows size (lane_without_entry e lane) (entering r.key r.value) p here)

-- the pairs of numbered records are those of the records
numbered : (rs : List Rec) (n : ℕ) → map (λ (x : ℕ × Rec). pair_of x.1) (enumerate_from n rs) ≡ map pair_of rs
numbered [] n = refl
numbered (r ∷ rs) n = ap (λ ps. pair_of r ∷ ps) (numbered rs (n + 1))

-- each record of a move of a lane is visible there
moving_visible : (lane : LaneState) (set : ℕ) (r : Rec) → Contains (records_of (moving_of lane set)) r → (place_in lane.log.shape r.key).set ≡ set → IsVisible lane (pair_of r)
moving_visible lane set r h its =
    ⊎_elim old fresh (Contains-append_cases (map (λ (x : SetRecord). x.stored) (set_records lane set)) (map (λ (t : TakenRecord). t.stored) (taken_of lane.log set lane.live)) r h)
  where
    old : Contains (map (λ (x : SetRecord). x.stored) (set_records lane set)) r → IsVisible lane (pair_of r)
    old in_set =
        let a = in_map (λ (x : SetRecord). x.stored) (set_records lane set) r in_set in
        let b = in_map (with_flag (notes_of lane.sets set)) (lane.visible set) a.0 a.1 in
        inr (inr (subst (λ n. Contains (map (λ (x : ℕ × Rec). pair_of x.1) (lane.visible n)) (pair_of r)) (sym its)
        (mapped (λ (x : ℕ × Rec). pair_of x.1) (lane.visible set) b.0 (pair_of r) b.1 (ap (λ (x : SetRecord). pair_of x.stored) b.2 ∙ ap pair_of a.2))))

    fresh : Contains (map (λ (t : TakenRecord). t.stored) (taken_of lane.log set lane.live)) r → IsVisible lane (pair_of r)
    fresh in_log =
        let a = in_map (λ (t : TakenRecord). t.stored) (taken_of lane.log set lane.live) r in_log in
        let b = in_map (taken_as lane.log) (take most_taken (filter (λ (x : Entry × Rec). is_of set x.0) lane.live)) a.0 a.1 in
        let c = in_filter (λ (x : Entry × Rec). is_of set x.0) lane.live b.0 (in_take most_taken (filter (λ (x : Entry × Rec). is_of set x.0) lane.live) b.0 b.1) in
        inr (inl (mapped (λ (x : Entry × Rec). pair_of x.1) lane.live b.0 (pair_of r) c.0 (ap (λ (t : TakenRecord). pair_of t.stored) b.2 ∙ ap pair_of a.2)))

-- the record of an entry is live
recorded : (e : Entry) (live : List (Entry × Rec)) (r : Rec) → record_of e live ≡ Some r → (x : Entry × Rec) × Contains live x × (x.1 ≡ r)
recorded e live r at = step (find (λ x. is_in e.set e.place x.0) live) refl at
  where
    step : (o : Option (Entry × Rec)) → find (λ x. is_in e.set e.place x.0) live ≡ o → option_map (λ (x : Entry × Rec). x.1) o ≡ Some r → (x : Entry × Rec) × Contains live x × (x.1 ≡ r)
    step None is e' = absurd (none-some r e')
    step (Some x) is e' = (x, found_in (λ x. is_in e.set e.place x.0) live x is, cc)

-- a move that begins shows what was visible
pub lane_begun_shows : (lane : LaneState) (set : ℕ) → IsLogPlaced lane → AreSetsPlaced lane → ShowsNoMore lane (lane_begun lane set)
lane_begun_shows lane set log sets p (inl visible) = inl visible
lane_begun_shows lane set log sets p (inr held) = elim (Contains-append_cases lane.flights (just_begun lane.log.shape (moving_of lane set) ∷ []) held.its held.flies) [
  | inl before ↦ inr (held_still lane (lane_begun lane set) p held before)
  | inr last ↦
      let begun : Flight = just_begun lane.log.shape (moving_of lane set) in
      let is : begun ≡ held.its = one_is begun held.its last in
      let r : Rec = held.item in
      let unstruck : IsUnstruck begun r = subst (λ (f : Flight). IsUnstruck f r) (sym is) held.unstruck in
      let listed : Contains (records_of (moving_of lane set)) r = got (records_of (moving_of lane set)) unstruck.item r unstruck.found in
      let its = All-contains (λ (x : Rec). IsKeyOf lane.log.shape.lanes lane.log.shape.sets set x.key) (records_of (moving_of lane set)) r (moving_placed lane set log sets) listed in
      inl (subst (IsVisible lane) held.pair (moving_visible lane set r listed its))
]
  where
    one_is : (x y : Flight) → Contains (x ∷ []) y → x ≡ y
    one_is x y there = elim (split y x [] there) [ inl is ↦ is | inr none ↦ absurd (let lt = none.1 in omega (arith, lt)) ]

module _ (size least : ℕ) (lane : LaneState) (log : IsLogPlaced lane) (sets : AreSetsPlaced lane) where
  -- what becomes of an entry shows what was shown
  entry_shows : (e : Entry) (j : Judgement) → ShowsNoMore lane (entry_step size lane e j).lane
  entry_shows e judgement.Move = lane_begun_shows lane e.set log sets
  entry_shows e judgement.Drop = sees_no_more lane (lane_without_entry e lane) refl (dropped_shows e)
    where
      dropped_shows : (e : Entry) → SeesNoMore lane (lane_without_entry e lane)
      dropped_shows e = without_shows (without_entry lane.log e).entries (λ (y : Entry × Rec). not (is_in e.set e.place y.0)) lane
  entry_shows e judgement.Readmit = by_record (record_of e lane.live) refl
    where
      gone : ShowsNoMore lane (lane_without_entry e lane)
      gone = sees_no_more lane (lane_without_entry e lane) refl (without_shows (without_entry lane.log e).entries (λ (y : Entry × Rec). not (is_in e.set e.place y.0)) lane)

      by_full : (r : Rec) (x : Entry × Rec) → Contains lane.live x → x.1 ≡ r → (b : Bool) →
          ShowsNoMore lane (cond {A = Step Readmitted} b (record { reply = readmitted.Dropped; lane = lane_without_entry e lane })
          (record { reply = readmitted.Readmitted; lane = lane_appended size (lane_without_entry e lane) (entering r.key r.value) })).lane
      by_full r x live is true = gone
      by_full r x live is false = sees_no_more lane (lane_appended size (lane_without_entry e lane) (entering r.key r.value)) refl (readmitted_shows size e x r lane live is)

      by_record : (o : Option Rec) → record_of e lane.live ≡ o → ShowsNoMore lane (anew_step size lane e o).lane
      by_record None at = gone
      by_record (Some r) at = let it = recorded e lane.live r at in by_full r it.0 it.1 it.2 (is_full size (without_entry lane.log e) (entering r.key r.value))

  oldest_shows : (o : Oldest) → ShowsNoMore lane (oldest_step size least lane o).lane
  oldest_shows oldest.NoSegment = λ p here. here
  oldest_shows oldest.Empty = sees_no_more lane (lane_freed lane) refl (λ p here. here)
  oldest_shows oldest.Passed = λ p here. here
  oldest_shows (oldest.First e) = entry_shows e (judged least lane e)

  -- so does how a move begins
  pub begin_shows : ShowsNoMore lane (begin_step size least lane).lane
  begin_shows = begins_by size least lane (λ step. ShowsNoMore lane step.lane) (λ p here. here) (λ p here. here) oldest_shows

-- a page that is lost as a move begins shows nothing more
lost_shows : (size : ℕ) (e : Entry) (old new : LaneState) (j : Judgement) → LosesPage size e old j new → ShowsNoMore old new
lost_shows size e old new judgement.Drop lost = absurd lost
lost_shows size e old new judgement.Readmit lost = subst (ShowsNoMore old) (sym lost) (sees_no_more old (lane_without_page e old) refl (page_shows old e))
lost_shows size e old new judgement.Move lost =
    ⊎_elim (λ log. subst (ShowsNoMore old) (sym log.left) (sees_no_more old (lane_without_page log.entry old) refl (page_shows old log.entry)))
    (λ set. subst (ShowsNoMore old) (sym set.1) (sees_no_more old (lane_forgotten e.set old) refl (forgotten_shows old e.set (forgotten old.sets e.set)))) lost

-- what a beginning leaves shows nothing that was not shown
pub begun_shows : (size least : ℕ) (old : LaneState) (b : Begin) (new : LaneState) → IsLogPlaced old → AreSetsPlaced old → BeginGives size least old b new → ShowsNoMore old new
begun_shows size least old b new log sets = by_answer b
  where
    stepped : new ≡ (begin_step size least old).lane → ShowsNoMore old new
    stepped is = subst (ShowsNoMore old) (sym is) (begin_shows size least old log sets)

    by_answer : (b : Begin) → BeginGives size least old b new → ShowsNoMore old new
    by_answer begin.PageLost gives = lost_shows size gives.first old new (judged least old gives.first) gives.lost
    by_answer begin.Nothing gives = stepped gives.1
    by_answer begin.Busy gives = stepped gives.1
    by_answer begin.Freed gives = stepped gives.1
    by_answer begin.Readmitted gives = stepped gives.1
    by_answer begin.Dropped gives = stepped gives.1
    by_answer (begin.Job job) gives = stepped gives.1

-- ---- commits

-- what is not is false
is_not : (b : Bool) → not b ≡ true → b ≡ false
is_not true e = sym e
is_not false e = refl

-- each record that a plan keeps is that of an item which was not struck
kept_held : (size : ℕ) (f : Flight) (plan : List Choice) (q : Pair) → IsFitting (job_of size f.moving) plan → Contains (map (λ (x : ℕ × Rec). pair_of x.1) (enumerate_from 0 (planned_of f.moving (unstruck f plan)))) q →
    (r : Rec) × IsUnstruck f r × (pair_of r ≡ q)
kept_held size f plan q fitting h =
    let rs = records_of f.moving in
    let a = in_map pair_of (planned_of f.moving (unstruck f plan)) q (subst (λ ps. Contains ps q) (numbered (planned_of f.moving (unstruck f plan)) 0) h) in
    let b = in_map (planned rs) (unstruck f plan) a.0 a.1 in
    let listed = in_filter (λ (c : Choice). not (is_struck f c.item)) plan b.0 b.1 in
    let within = All-contains (λ (c : Choice). c.item < length (items_of f.moving)) plan b.0 fitting.in_range listed.0 in
    let lt : b.0.item < length rs = omega (arith, as_many f.moving, within) in
    (get_or rs b.0.item (rec [] (lasting []) 0), record { item = b.0.item; found = slice_get-get_or rs b.0.item (rec [] (lasting []) 0) lt; not_struck = is_not (is_struck f b.0.item) listed.1 }, ap pair_of b.2 ∙ a.2)

-- a commit shows what was shown
pub committed_shows : (size : ℕ) (f : Flight) (plan : List Choice) (answer : Rewritten) (lane : LaneState) → Contains lane.flights f → IsFitting (job_of size f.moving) plan → ShowsNoMore lane (committed f plan answer lane)
committed_shows size f plan answer lane flying fitting p (inr held) =
    inr (held_still lane (committed f plan answer lane) p held (were_in_flight f.moving.number lane held.its held.flies))
committed_shows size f plan answer lane flying fitting p (inl here) = by_answer answer here
  where
    rs : List Rec
    rs = planned_of f.moving (unstruck f plan)

    gone : Entry × Rec → Bool
    gone x = not (is_taken lane.log f.moving.set f.moving.taken x.0)

    kept : (q : Pair) → Contains (map (λ (x : ℕ × Rec). pair_of x.1) (enumerate_from 0 rs)) q → IsShown lane q
    kept q h = let its = kept_held size f plan q fitting h in inr (record { its = f; flies = flying; item = its.0; unstruck = its.1; pair = its.2 })

    by_answer : (answer : Rewritten) → IsVisible (landed f plan answer lane) p → IsShown lane p
    by_answer rewritten.Written here =
        set_shown (IsShown lane) lane (written lane.sets f.moving.set rs) f.moving.set (enumerate_from 0 rs) (λ q there. inl there) kept p
        (without_shows (dropped lane.log f.moving.set f.moving.taken).entries gone (lane_rewritten f.moving.set rs rewritten.Written lane) p here)
    by_answer rewritten.Forgotten here =
        set_shown (IsShown lane) lane (forgotten (tried lane.sets) f.moving.set) f.moving.set [] (λ q there. inl there) (λ q h. absurd (nothing (λ (x : ℕ × Rec). pair_of x.1) q h)) p
        (without_shows (dropped lane.log f.moving.set f.moving.taken).entries gone (lane_rewritten f.moving.set rs rewritten.Forgotten lane) p here)

-- so does each answer of a commit
pub commit_shows : (size : ℕ) (plan : List Choice) (number : ℕ) (old : LaneState) (answer : Committed) (new : LaneState) → CommitGives size plan number old answer new → ShowsNoMore old new
commit_shows size plan number old answer new = by_answer answer
  where
    so : (ended : Rewritten) → Commits size plan number ended old new → ShowsNoMore old new
    so ended is = subst (ShowsNoMore old) (sym is.ended) (committed_shows size is.its plan ended old (held_found number old.flights is.its is.flies) is.fits)

    by_answer : (answer : Committed) → CommitGives size plan number old answer new → ShowsNoMore old new
    by_answer answers.Written is = so rewritten.Written is
    by_answer answers.Forgotten is = so rewritten.Forgotten is
    by_answer answers.StalePlan is = subst (ShowsNoMore old) (sym is.1) (λ p here. here)
    by_answer answers.BadPlan is = subst (ShowsNoMore old) (sym is.1) (λ p here. here)

-- and each of an abort
pub abort_shows : (number : ℕ) (old : LaneState) (answer : Aborted) (new : LaneState) → AbortGives number old answer new → ShowsNoMore old new
abort_shows number old aborted.Aborted new is = subst (ShowsNoMore old) (sym is.1) (sees_fewer old (given_up number old) (were_in_flight number old) (λ p here. here))
abort_shows number old aborted.StalePlan new is = subst (ShowsNoMore old) (sym is.1) (λ p here. here)
