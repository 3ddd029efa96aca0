-- The lanes of stores that differ in a tier.
use Rattle.std.proofs.Common.{◌≡◌, ℕ, List, Option, filter, not, refl, map}
use Rattle.set_hash.specs.declared.placed.Placed.{Placed}
use Rattle.klog_index.specs.Entries.{has_tag, without}
use Rattle.klog.specs.Log.{LogState, with_list}
use Rattle.klog.specs.Shown.{live_on}
use Rattle.kset.specs.Sets.{SetsState, notes_of, has_place, struck_in}
use Rattle.kset.specs.Shown.{visible_in}
use Rattle.kset.specs.After.{after_strike, with_set}
use Rattle.mover.specs.Flight.{Flight, flight_struck}
use Rattle.mover.specs.Store.{StoreState}
use Rattle.mover.specs.Lane.{LaneState, lane_of}
use Rattle.mover.specs.Strike.{struck_at}

-- lanes are the same whose parts are
pub same_lane : (a b : LaneState) → a.memory ≡ b.memory → a.log ≡ b.log → a.live ≡ b.live → a.sets ≡ b.sets → a.visible ≡ b.visible → a.flights ≡ b.flights → a.moves ≡ b.moves → a ≡ b
same_lane a b memory log live sets visible flights moves = λ i. record {
  memory = memory i;
  log = log i;
  live = live i;
  sets = sets i;
  visible = visible i;
  flights = flights i;
  moves = moves i;
}

-- a strike in the log and in a set is a strike of the lane
pub lane_struck : {D : Type 0} (held : D → ℕ → Option (List ℕ)) (s : StoreState D) (at : Placed) (k : LogState) (q : SetsState) (fs : List Flight) →
    k ≡ with_list s.log (without (has_tag at.set at.tag) s.log.entries) →
    live_on (held s.device) k ≡ filter (λ x. not (has_tag at.set at.tag x.0)) (live_on (held s.device) s.log) →
    q ≡ struck_in s.sets at.set at.hash →
    visible_in (held s.device) q ≡ with_set (visible_in (held s.device) s.sets) at.set (after_strike (has_place s.sets) (notes_of s.sets at.set) at.hash (visible_in (held s.device) s.sets at.set)) →
    fs ≡ map (flight_struck at.hash) s.flights →
    lane_of held (record s { log = k; sets = q; flights = fs }) ≡ struck_at at (lane_of held s)
lane_struck held s at k q fs log live sets shown flights =
    same_lane (lane_of held (record s { log = k; sets = q; flights = fs })) (struck_at at (lane_of held s)) refl log live sets shown flights refl
