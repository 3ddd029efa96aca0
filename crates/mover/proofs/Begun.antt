-- How a move begins, by what is told of the oldest segment.
use Rattle.std.proofs.Common.{◌≡◌, ◌≢◌, ◌<◌, ◌≤◌, ℕ, Bool, List, Option, length, refl, sym, ap, subst, arith}
use Rattle.std.proofs.lemmas.Bool.{lt-ltb, le-ltb}
use Rattle.klog.specs.Log.{LogState}
use Rattle.klog.specs.declared.oldest.Oldest.{Oldest}
use Rattle.mover.specs.Store.{StoreState, most_moves}
use Rattle.mover.specs.Lane.{LaneState}
use Rattle.mover.specs.Oldest.{oldest_in}
use Rattle.mover.specs.Get.{Step}
use Rattle.mover.specs.Put.{IsStep}
use Rattle.mover.specs.Flight.{most_flights, sets_in_flight}
use Rattle.mover.specs.Begin.{WritesNothing, oldest_step, begin_step}
use Rattle.mover.specs.Leaving.{OldestLeaves, BeginLeaves}
use Rattle.mover.specs.declared.begin.Begin.{Begin}
use Rattle.mover.specs.declared.begin.Begin.TheVariants as begin

-- a store that has not begun the most moves may begin one more
pub may_begin : (m n most : ℕ) → m ≡ n → m ≢ most → n ≤ most → n < most
may_begin m n most same other le = omega (arith, other, same)

at_most : (n most : ℕ) → n ≡ most → most ≤ n
at_most n most is = omega (arith, is)

-- what is left by what is told of the oldest segment is what a beginning leaves
pub oldest_leaves : {D : Type 0} (size : ℕ) (old new : StoreState D) (o : Oldest) (b : Begin) → length old.flights < most_flights → old.moves < most_moves → oldest_in (sets_in_flight old.flights) old.log ≡ o →
    OldestLeaves size o old b new → BeginLeaves size old b new
oldest_leaves size old new o b free room is leaves = rw (lt-ltb (length old.flights) most_flights free, lt-ltb old.moves most_moves room, is) leaves

-- and a lane begins so
pub oldest_begins : (size least : ℕ) (old : LaneState) (o : Oldest) → length old.flights < most_flights → old.moves < most_moves → oldest_in (sets_in_flight old.flights) old.log ≡ o → begin_step size least old ≡ oldest_step size least old o
oldest_begins size least old o free room is = rw (lt-ltb (length old.flights) most_flights free, lt-ltb old.moves most_moves room, is) refl

pub stepped : (size least : ℕ) (old new : LaneState) (o : Oldest) (b : Begin) → begin_step size least old ≡ oldest_step size least old o → IsStep (oldest_step size least old o) b new → IsStep (begin_step size least old) b new
stepped size least old new o b same = subst (λ (s : Step Begin). IsStep s b new) (sym same)

-- nothing begins if the most moves began
pub none_leaves : {D : Type 0} (size : ℕ) (old : StoreState D) → length old.flights < most_flights → old.moves ≡ most_moves → BeginLeaves size old begin.Nothing old
none_leaves size old free all = rw (lt-ltb (length old.flights) most_flights free, le-ltb old.moves most_moves (at_most old.moves most_moves all)) (refl, refl)

pub none_begins : (size least : ℕ) (old : LaneState) → length old.flights < most_flights → old.moves ≡ most_moves → IsStep (begin_step size least old) begin.Nothing old
none_begins size least old free all = rw (lt-ltb (length old.flights) most_flights free, le-ltb old.moves most_moves (at_most old.moves most_moves all)) (refl, refl)

module _ {D : Type 0} (honest : D → Bool) (held : D → ℕ → Option (List ℕ)) where
  -- nothing is written where all stays, or the log alone is another
  pub stays_unwritten : (old : StoreState D) → WritesNothing honest held old old
  stays_unwritten old = record { layout = refl; honesty = refl; same = λ is. refl }

  pub log_unwritten : (old new : StoreState D) (log : LogState) → new ≡ record old { log = log } → WritesNothing honest held old new
  log_unwritten old new log is = record {
    layout = ap (λ (s : StoreState D). s.layout) is;
    honesty = ap (λ (s : StoreState D). honest s.device) is;
    same = λ on. ap (λ (s : StoreState D). held s.device) is;
  }
