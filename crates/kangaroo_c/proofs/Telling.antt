-- A lane that was opened and put into a place of C's.
use Rattle.std.proofs.Common.{◌≡◌, ℕ, List, length, Option, None, refl, ◌∙◌}
use Rattle.c_lane.specs.declared.home.LaneHome.{LaneHome}
use Rattle.c_lane.specs.Homes.{home_of}
use Rattle.turn_register.specs.Following.{no_turn}
use Rattle.c_lane.specs.declared.lane_shape.LaneShape.{LaneShape}
use Rattle.c_lane.specs.declared.seed.Seed.{Seed}
use Rattle.c_lane.specs.declared.status.Status.{Status}
use Rattle.c_lane.specs.declared.status.Status.TheVariants.{Done, Absent, Expired, Unreadable, Damaged, ShortBuffer, Stale, Rejected, BadTrace, WrongKey, TooLarge, NoMemory, WrongOptions}
use Rattle.c_lane.specs.Opening.{Opens, CanOpen}
use Rattle.kangaroo_c.specs.declared.kept_lane.KeptLane.{KeptLane}
use Rattle.kangaroo_c.specs.Telling.{PagesLane, IsPut, OpensBy}

module _ (shape : LaneShape) (seed : Seed) (number : ℕ) (pages : List (List ℕ)) where
  -- a lane that was opened and put into an empty place
  pub opened_in : (lane : PagesLane) (home : LaneHome) (old : Option KeptLane) (status : Status) (new : Option KeptLane) → old ≡ None → CanOpen shape (length pages) → Opens shape seed number pages lane →
      home ≡ home_of shape seed number → IsPut lane home old status new →
      OpensBy shape seed number pages status new
  opened_in lane home old Done new empty can opens is put =
      record { kept = record { lane = lane; home = home; last = no_turn }; is = put; can = can; opens = opens; home = is; last = refl }
  opened_in lane home old NoMemory new empty can opens is put = record { why = can; is = put ∙ empty }
  opened_in lane home old Absent new empty can opens is put = absurd put
  opened_in lane home old Expired new empty can opens is put = absurd put
  opened_in lane home old Unreadable new empty can opens is put = absurd put
  opened_in lane home old Damaged new empty can opens is put = absurd put
  opened_in lane home old ShortBuffer new empty can opens is put = absurd put
  opened_in lane home old Stale new empty can opens is put = absurd put
  opened_in lane home old Rejected new empty can opens is put = absurd put
  opened_in lane home old BadTrace new empty can opens is put = absurd put
  opened_in lane home old WrongKey new empty can opens is put = absurd put
  opened_in lane home old TooLarge new empty can opens is put = absurd put
  opened_in lane home old WrongOptions new empty can opens is put = absurd put
