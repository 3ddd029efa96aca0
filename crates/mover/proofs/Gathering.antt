-- The records of a move belong to its set.
use Rattle.std.proofs.Common.{◌≡◌, ◌<◌, ◌≤◌, ◌+◌, Option, Some, ℕ, List, [], length, map, filter, take, get_or, All, Contains, not, sym, ap, subst, ◌∙◌, arith, ◌∷◌, ◌++◌}
use Rattle.std.proofs.lemmas.Bool.{eqb-true}
use Rattle.std.proofs.lemmas.List.Elements.{All-contains, Contains-get_or}
use Rattle.record_pages.specs.Expiry.{lasting}
use Rattle.record_pages.specs.Recs.{Rec, rec}
use Rattle.policy_laws.specs.declared.choice.Choice.{Choice}
use Rattle.klog_index.specs.declared.entry.Entry.{Entry}
use Rattle.klog_index.specs.Entries.{is_of}
use Rattle.klog.specs.declared.taken_record.TakenRecord.{TakenRecord}
use Rattle.klog.specs.Log.{Shape}
use Rattle.klog.specs.Shown.{place_in}
use Rattle.klog.specs.Moves.{taken_as, taken_of, most_taken}
use Rattle.kset.specs.declared.set_record.SetRecord.{SetRecord}
use Rattle.kset.specs.Laws.{IsKeyOf}
use Rattle.kset.specs.Sets.{notes_of}
use Rattle.kset.specs.Shown.{with_flag}
use Rattle.mover.specs.Lane.{LaneState}
use Rattle.mover.specs.Visible.{IsLogPlaced, AreSetsPlaced}
use Rattle.mover.specs.Begin.{moving_of, set_records, LaneTakes, LaneReads, Gathers, IsJustBegun}
use Rattle.mover.specs.declared.begin.Begin.TheVariants as begin
use Rattle.klog.specs.declared.set_taken.SetTaken.TheVariants as taken
use Rattle.kset.specs.declared.set_read.SetRead.TheVariants as read
use Rattle.policy_laws.specs.declared.job.Job.{Job}
use Rattle.record_pages.specs.Sizes.{max_set_records}
use Rattle.mover.specs.declared.moving.Moving.{Moving}
use Rattle.mover.specs.Flight.{Flight, records_of, unstruck, is_struck, AreOfSet, just_begun}
use Rattle.mover.specs.Job.{job_of, items_of}
use Rattle.mover.specs.Commit.{planned, planned_of, IsFitting}
use Rattle.mover.proofs.public_laws.Listing.{in_map, in_filter, in_take}
use Rattle.mover.proofs.Filling.{as_many}
use Rattle.mover.proofs.Flying.{none_struck}
use Rattle.std.specs.Prelude.{IsSomeAnd}
use Rattle.std.proofs.lemmas.List.{length-append, length-map}
use Rattle.std.proofs.lemmas.List.Elements.{Contains-append_cases}
use Rattle.std.proofs.Common.{⊎_elim}

-- what is true of each element of a list is true of all
each : {X : Type 0} (P : X → Type 0) (xs : List X) → ((x : X) → Contains xs x → P x) → All P xs
each P xs h = λ i d lt. h (get_or xs i d) (Contains-get_or xs i d lt)

-- the records of the next move of a set belong to it
pub moving_placed : (lane : LaneState) (set : ℕ) → IsLogPlaced lane → AreSetsPlaced lane → AreOfSet lane.log.shape (moving_of lane set)
moving_placed lane set log sets = each (λ (r : Rec). IsKeyOf lane.log.shape.lanes lane.log.shape.sets set r.key) (records_of (moving_of lane set)) one
  where
    old : (r : Rec) → Contains (map (λ (x : SetRecord). x.stored) (set_records lane set)) r → IsKeyOf lane.log.shape.lanes lane.log.shape.sets set r.key
    old r h =
        let a = in_map (λ (x : SetRecord). x.stored) (set_records lane set) r h in
        let b = in_map (with_flag (notes_of lane.sets set)) (lane.visible set) a.0 a.1 in
        subst (λ (q : Rec). IsKeyOf lane.log.shape.lanes lane.log.shape.sets set q.key) (ap (λ (x : SetRecord). x.stored) b.2 ∙ a.2)
        (All-contains (λ (x : ℕ × Rec). IsKeyOf lane.log.shape.lanes lane.log.shape.sets set x.1.key) (lane.visible set) b.0 (sets set) b.1)

    fresh : (r : Rec) → Contains (map (λ (t : TakenRecord). t.stored) (taken_of lane.log set lane.live)) r → IsKeyOf lane.log.shape.lanes lane.log.shape.sets set r.key
    fresh r h =
        let a = in_map (λ (t : TakenRecord). t.stored) (taken_of lane.log set lane.live) r h in
        let b = in_map (taken_as lane.log) (take most_taken (filter (λ (x : Entry × Rec). is_of set x.0) lane.live)) a.0 a.1 in
        let c = in_filter (λ (x : Entry × Rec). is_of set x.0) lane.live b.0 (in_take most_taken (filter (λ (x : Entry × Rec). is_of set x.0) lane.live) b.0 b.1) in
        let its = All-contains (λ (x : Entry × Rec). ((place_in lane.log.shape x.1.key).set ≡ x.0.set) × ((place_in lane.log.shape x.1.key).tag ≡ x.0.tag)) lane.live b.0 log c.0 in
        subst (λ (k : List ℕ). IsKeyOf lane.log.shape.lanes lane.log.shape.sets set k) (ap (λ (t : TakenRecord). t.stored.key) b.2 ∙ ap (λ (q : Rec). q.key) a.2)
        (its.0 ∙ eqb-true b.0.0.set set c.1)

    one : (r : Rec) → Contains (records_of (moving_of lane set)) r → IsKeyOf lane.log.shape.lanes lane.log.shape.sets set r.key
    one r h =
        ⊎_elim (old r) (fresh r) (Contains-append_cases (map (λ (x : SetRecord). x.stored) (set_records lane set)) (map (λ (t : TakenRecord). t.stored) (taken_of lane.log set lane.live)) r h)

-- so do those that a plan that fits keeps of them
pub planned_placed : (page : ℕ) (shape : Shape) (f : Flight) (plan : List Choice) → IsFitting (job_of page f.moving) plan → AreOfSet shape f.moving →
    All (λ r. IsKeyOf shape.lanes shape.sets f.moving.set r.key) (planned_of f.moving (unstruck f plan))
planned_placed page shape f plan fitting placed = each (λ (r : Rec). IsKeyOf shape.lanes shape.sets f.moving.set r.key) (planned_of f.moving (unstruck f plan)) one
  where
    one : (r : Rec) → Contains (planned_of f.moving (unstruck f plan)) r → IsKeyOf shape.lanes shape.sets f.moving.set r.key
    one r h =
        let rs = records_of f.moving in
        let b = in_map (planned rs) (unstruck f plan) r h in
        let listed = in_filter (λ (c : Choice). not (is_struck f c.item)) plan b.0 b.1 in
        let within = All-contains (λ (c : Choice). c.item < length (items_of f.moving)) plan b.0 fitting.in_range listed.0 in
        let lt : b.0.item < length rs = omega (arith, as_many f.moving, within) in
        subst (λ (k : List ℕ). IsKeyOf shape.lanes shape.sets f.moving.set k) (ap (λ (q : Rec). q.key) b.2) (placed b.0.item (rec [] (lasting []) 0) lt)

-- the records that were taken and read belong to their set
pub gathered_placed : (lane mid new : LaneState) (set : ℕ) (moving : Moving) → LaneTakes set lane (taken.Records moving.taken) mid → LaneReads set mid (read.Records moving.visible) new → moving.set ≡ set → IsLogPlaced lane → AreSetsPlaced lane →
    AreOfSet new.log.shape moving
gathered_placed lane mid new set moving takes reads its log sets =
    let same : new ≡ lane = reads.1 ∙ takes.1 in
    let visible : moving.visible ≡ set_records lane set = reads.0 ∙ ap (λ (l : LaneState). set_records l set) takes.1 in
    let is : moving ≡ record { number = moving.number; set = set; visible = set_records lane set; taken = taken_of lane.log set lane.live } = λ i. record { number = moving.number; set = its i; visible = visible i; taken = takes.0 i } in
    subst (λ (l : LaneState). AreOfSet l.log.shape moving) (sym same) (subst (AreOfSet lane.log.shape) (sym is) (moving_placed lane set log sets))

-- there are no more than are taken and read
pub gathered_few : (moving : Moving) → length moving.taken ≤ most_taken → length moving.visible ≤ max_set_records → length (records_of moving) ≤ max_set_records + most_taken
gathered_few moving takes reads =
    let both = length-append (map (λ (x : SetRecord). x.stored) moving.visible) (map (λ (t : TakenRecord). t.stored) moving.taken) in
    let old = length-map moving.visible (λ (x : SetRecord). x.stored) in
    let fresh = length-map moving.taken (λ (t : TakenRecord). t.stored) in
    omega (arith, both, old, fresh, takes, reads)

-- they are in flight after the others, with their job
pub gathered : (size set : ℕ) (old mid new last : LaneState) (moving : Moving) (job : Job) → LaneTakes set old (taken.Records moving.taken) mid → LaneReads set mid (read.Records moving.visible) new → moving.set ≡ set → moving.number ≡ new.moves + 1 →
    job ≡ job_of size moving → last ≡ record new { flights = new.flights ++ just_begun new.log.shape moving ∷ []; moves = new.moves + 1 } → Gathers size set old (begin.Job job) last
gathered size set old mid new last moving job takes reads its numbered job_is last_is =
    let same : new ≡ old = reads.1 ∙ takes.1 in
    let visible : moving.visible ≡ set_records old set = reads.0 ∙ ap (λ (l : LaneState). set_records l set) takes.1 in
    let number : moving.number ≡ old.moves + 1 = numbered ∙ ap (λ (l : LaneState). l.moves + 1) same in
    let is : moving ≡ moving_of old set = λ i. record { number = number i; set = its i; visible = visible i; taken = takes.0 i } in
    (ap begin.Job (job_is ∙ ap (job_of size) is), last_is ∙ (λ i. record (same i) { flights = (same i).flights ++ just_begun (same i).log.shape (is i) ∷ []; moves = (same i).moves + 1 }))

-- and none of them is struck
pub begins_flight : (size : ℕ) (shape : Shape) (moving : Moving) (job : Job) (o : Option Flight) → o ≡ Some (just_begun shape moving) → job ≡ job_of size moving → IsSomeAnd o (IsJustBegun size job)
begins_flight size shape moving job o is job_is = subst (λ (x : Option Flight). IsSomeAnd x (IsJustBegun size job)) (sym is) (job_is, λ item. none_struck shape (records_of moving) item)
