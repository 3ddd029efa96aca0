-- The moves that a commit or an abort leaves in flight, and the failures that a commit counts.
use Rattle.std.proofs.Common.{◌≡◌, ◌≢◌, ◌+◌, ◌%◌, ◌^◌, arith, ℕ, Bool, true, false, cond, eqb, not, List, [], ◌∷◌, Option, Some, None, refl, sym, ap, ◌∙◌}
use Rattle.std.proofs.lemmas.Bool.{eqb-true, ne_eqb, false≢true}
use Rattle.mover.specs.declared.flight.Flight.{Flight}
use Rattle.mover.specs.declared.committed.Committed.{Committed}
use Rattle.mover.specs.declared.committed.Committed.TheVariants as committed
use Rattle.mover.specs.declared.aborted.Aborted.{Aborted}
use Rattle.mover.specs.declared.aborted.Aborted.TheVariants as aborted
use Rattle.mover.specs.Store.{StoreState}
use Rattle.mover.specs.Flight.{flight_of, without_flight, flight_struck}
use Rattle.mover.specs.Commit.{CommitLeaves, Lands, after_abort, is_unwritten}
use Rattle.page_device.specs.Device.{faults_after}
use Rattle.kset.specs.declared.rewritten.Rewritten.{Rewritten}
use Rattle.std.specs.Option.{option_map}
use Rattle.std.specs.Prelude.{map, Result, Ok, Err, IsOk, IfOk}
use Rattle.set_hash.specs.Fnv.{fnv1a}
use Rattle.memory_cache.specs.declared.pair.Pair.{Pair}
use Rattle.record_pages.specs.declared.pushed.Pushed.{Pushed}
use Rattle.record_pages.specs.declared.put_fault.PutFault.{PutFault}
use Rattle.mover.specs.Lane.{LaneState}
use Rattle.mover.specs.Put.{put_step, IsStep}
use Rattle.mover.proofs.public_laws.Showing.{put_flies}
use Rattle.mover.proofs.public_laws.FlightLists.{number_of_found}

-- another move is found if one is taken out
others_found : (n other : ℕ) (fs : List Flight) → other ≢ n → flight_of other (without_flight n fs) ≡ flight_of other fs
others_found n other [] apart = refl
others_found n other (f ∷ fs) apart = step (eqb f.moving.number n) refl (others_found n other fs apart)
  where
    step : (b : Bool) → eqb f.moving.number n ≡ b → flight_of other (without_flight n fs) ≡ flight_of other fs →
        flight_of other (cond (not b) (f ∷ without_flight n fs) (without_flight n fs)) ≡ cond (eqb f.moving.number other) (Some f) (flight_of other fs)
    step true is rest =
        let away : eqb f.moving.number other ≡ false = ne_eqb f.moving.number other (λ same. apart (sym same ∙ eqb-true f.moving.number n is)) in
        rest ∙ sym (ap (λ (b : Bool). cond b (Some f) (flight_of other fs)) away)
    step false is rest = ap (λ (o : Option Flight). cond (eqb f.moving.number other) (Some f) o) rest

-- and that one is not
none_left : (n : ℕ) (fs : List Flight) → flight_of n (without_flight n fs) ≡ None
none_left n [] = refl
none_left n (f ∷ fs) = step (eqb f.moving.number n) refl (none_left n fs)
  where
    step : (b : Bool) → eqb f.moving.number n ≡ b → flight_of n (without_flight n fs) ≡ None → flight_of n (cond (not b) (f ∷ without_flight n fs) (without_flight n fs)) ≡ None
    step true is rest = rest
    step false is rest = ap (λ (b : Bool). cond b (Some f) (flight_of n (without_flight n fs))) is ∙ rest

-- what landed is over
landed_left : {D : Type 0} (plan : List _) (number : ℕ) (how : Rewritten) (old new : StoreState D) → Lands plan number how old new → new.flights ≡ without_flight number old.flights
landed_left plan number how old new lands =
    ap (λ (s : StoreState _). s.flights) lands.left ∙ ap (λ n. without_flight n old.flights) (number_of_found number old.flights lands.its lands.flies)

pub committed_others : {D : Type 0} (plan : List _) (number other : ℕ) (old new : StoreState D) (answer : Committed) → CommitLeaves plan number old answer new → other ≢ number → flight_of other new.flights ≡ flight_of other old.flights
committed_others plan number other old new committed.Written leaves apart = ap (flight_of other) (landed_left plan number _ old new leaves) ∙ others_found number other old.flights apart
committed_others plan number other old new committed.Forgotten leaves apart = ap (flight_of other) (landed_left plan number _ old new leaves) ∙ others_found number other old.flights apart
committed_others plan number other old new committed.StalePlan leaves apart = ap (λ (s : StoreState _). flight_of other s.flights) leaves
committed_others plan number other old new committed.BadPlan leaves apart = ap (λ (s : StoreState _). flight_of other s.flights) leaves

pub committed_over : {D : Type 0} (plan : List _) (number : ℕ) (old new : StoreState D) → CommitLeaves plan number old committed.Written new → flight_of number new.flights ≡ None
committed_over plan number old new leaves = ap (flight_of number) (landed_left plan number _ old new leaves) ∙ none_left number old.flights

pub aborted_others : {D : Type 0} (number other : ℕ) (old new : StoreState D) (answer : Aborted) → new ≡ after_abort number answer old → other ≢ number → flight_of other new.flights ≡ flight_of other old.flights
aborted_others number other old new aborted.Aborted leaves apart = ap (λ (s : StoreState _). flight_of other s.flights) leaves ∙ others_found number other old.flights apart
aborted_others number other old new aborted.StalePlan leaves apart = ap (λ (s : StoreState _). flight_of other s.flights) leaves

pub aborted_over : {D : Type 0} (number : ℕ) (old new : StoreState D) → new ≡ after_abort number aborted.Aborted old → flight_of number new.flights ≡ None
aborted_over number old new leaves = ap (λ (s : StoreState _). flight_of number s.flights) leaves ∙ none_left number old.flights

-- each move under a strike is found by its number
pub struck_found : (hash n : ℕ) (fs : List Flight) → flight_of n (map (flight_struck hash) fs) ≡ option_map (flight_struck hash) (flight_of n fs)
struck_found hash n [] = refl
struck_found hash n (f ∷ fs) = step (eqb f.moving.number n) (struck_found hash n fs)
  where
    step : (b : Bool) → flight_of n (map (flight_struck hash) fs) ≡ option_map (flight_struck hash) (flight_of n fs) →
        cond b (Some (flight_struck hash f)) (flight_of n (map (flight_struck hash) fs)) ≡ option_map (flight_struck hash) (cond b (Some f) (flight_of n fs))
    step true rest = refl
    step false rest = rest

-- so a put marks each
pub put_marks : (size admit word n : ℕ) (p : Pair) (old new : LaneState) (result : Result Pushed PutFault) → IsOk result → IfOk result (λ pushed. IsStep (put_step size admit p word old) pushed new) →
    flight_of n new.flights ≡ option_map (flight_struck (fnv1a p.key)) (flight_of n old.flights)
put_marks size admit word n p old new (Ok pushed) ok gives =
    ap (λ (l : LaneState). flight_of n l.flights) gives.1 ∙ ap (flight_of n) (put_flies size admit word p old) ∙ struck_found (fnv1a p.key) n old.flights
put_marks size admit word n p old new (Err e) ok gives = absurd (false≢true ok)

-- a commit that says that its page was not written counted one failure more
pub forgotten_failed : (before after : ℕ) (answer : Committed) → after ≡ faults_after before (is_unwritten answer) → answer ≡ committed.Forgotten → after ≢ before
forgotten_failed before after answer counted is same =
    let one_more : before ≡ (before + 1) % 2 ^ 64 = sym same ∙ counted ∙ ap (λ (a : Committed). faults_after before (is_unwritten a)) is in
    omega arith
