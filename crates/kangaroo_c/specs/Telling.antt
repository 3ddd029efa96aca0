-- What an export does to the lane of a place, and the number that it answers.
use Rattle.std.specs.Prelude.{◌≡◌, ℕ, ℤ, negsuc, List, length, Option, Some, None, true, false, slice_get, is_some}
use Rattle.std.specs.Int.{from_bool}
use Rattle.service_lane.specs.Upkeep.{due_in}
use Rattle.c_lane.specs.declared.status.Status.{Status}
use Rattle.c_lane.specs.declared.status.Status.TheVariants as statuses
use Rattle.c_lane.specs.declared.home.LaneHome.{LaneHome}
use Rattle.c_lane.specs.declared.lane_shape.LaneShape.{LaneShape}
use Rattle.c_lane.specs.declared.seed.Seed.{Seed}
use Rattle.c_lane.specs.Homes.{home_of, is_foreign}
use Rattle.c_lane.specs.Judging.{JudgesTrace}
use Rattle.c_lane.specs.Lane.{LaneState, Laws, laws_of}
use Rattle.c_lane.specs.Opening.{Opens, CanOpen, RefusesOpening}
use Rattle.c_lane.specs.Statuses.{number_of}
use Rattle.turn_register.specs.Following.{no_turn}
use Rattle.kangaroo_c.specs.declared.kept_lane.KeptLane.{KeptLane}

-- a lane over pages, each a list of bytes
abbrev pub PagesLane : Type 0
PagesLane = LaneState (List (List ℕ))

-- the pages give back what was written, and no call of them fails
abbrev pub page_laws : Laws (List (List ℕ))
page_laws = laws_of (λ pages. true) (λ pages. 0) (λ pages page. slice_get pages page)

-- a place has a lane
pub record IsFull (place : Option KeptLane) : Type 0 where
  pub kept : KeptLane
  pub is : place ≡ Some kept

-- this is so of a place's lane before and after; which lane it is, and what its turns were, stays
pub record OnLane (does : PagesLane → PagesLane → Type 0) (old new : KeptLane) : Type 0 where
  pub does_it : does old.lane new.lane
  pub home : new.home ≡ old.home
  pub last : new.last ≡ old.last

-- the place has a lane before and after, and this is so of the two
abbrev pub OnLanes : (PagesLane → PagesLane → Type 0) → Option KeptLane → Option KeptLane → Type 0
OnLanes does (Some old) (Some new) = OnLane does old new
OnLanes does (Some old) None = ⊥
OnLanes does None new = ⊥

-- a place has a lane, and these bytes are a key of another
abbrev pub IsForeign : Option KeptLane → List ℕ → Type 0
IsForeign (Some kept) key = is_foreign kept.home key ≡ true
IsForeign None key = ⊥

-- a place has a lane, and these bytes are a key of it, or no key
abbrev pub IsHere : Option KeptLane → List ℕ → Type 0
IsHere (Some kept) key = is_foreign kept.home key ≡ false
IsHere None key = ⊥

-- what a call on a key of another lane answers: no status has this number, -1000
abbrev pub other_lane : ℤ
other_lane = negsuc 999

-- nothing was done, since the key is another lane's
abbrev pub IsPassedOver : ℤ → Option KeptLane → Option KeptLane → Type 0
IsPassedOver number old new = (number ≡ other_lane) × (new ≡ old)

-- the number is that of a status, and with this status it is so of the place's lane before and after
pub record Tells (does : Status → PagesLane → PagesLane → Type 0) (number : ℤ) (old new : Option KeptLane) : Type 0 where
  pub status : Status
  pub number_is : number ≡ number_of status
  pub does_it : OnLanes (does status) old new

-- a place has a lane, and the number is 1 if upkeep is due in it, else 0
abbrev pub TellsDue : ℕ → Option KeptLane → Type 0
TellsDue number (Some kept) = number ≡ from_bool (is_some (due_in kept.lane.serving))
TellsDue number None = ⊥

-- the number is that of the status of a judgement on these bytes
pub record IsJudgedBy (bytes buffer : List ℕ) (number : ℤ) (into : List ℕ) (len : ℕ) : Type 0 where
  pub status : Status
  pub number_is : number ≡ number_of status
  pub judges : JudgesTrace bytes buffer status into len

-- a lane was put into a place, and was given no turn; or memory was refused, and the place is as it was
abbrev pub IsPut : PagesLane → LaneHome → Option KeptLane → Status → Option KeptLane → Type 0
IsPut lane home old statuses.Done new = new ≡ Some (record { lane = lane; home = home; last = no_turn })
IsPut lane home old statuses.NoMemory new = new ≡ old
IsPut lane home old status new = ⊥

-- a lane was opened in a place, which knows which it is
pub record OpensIn (shape : LaneShape) (seed : Seed) (number : ℕ) (pages : List (List ℕ)) (place : Option KeptLane) : Type 0 where
  pub kept : KeptLane
  pub is : place ≡ Some kept
  pub can : CanOpen shape (length pages)
  pub opens : Opens shape seed number pages kept.lane
  pub home : kept.home ≡ home_of shape seed number
  pub last : kept.last ≡ no_turn

-- no lane was opened, with this status, and the place is empty
pub record RefusesIn (shape : LaneShape) (pages : ℕ) (status : Status) (place : Option KeptLane) : Type 0 where
  pub why : RefusesOpening shape pages status
  pub is : place ≡ None

-- what an opening in an empty place leaves, by its status
abbrev pub OpensBy : LaneShape → Seed → ℕ → List (List ℕ) → Status → Option KeptLane → Type 0
OpensBy shape seed number pages statuses.Done place = OpensIn shape seed number pages place
OpensBy shape seed number pages status place = RefusesIn shape (length pages) status place

-- the number is that of the status of an opening
pub record TellsOpening (shape : LaneShape) (seed : Seed) (number : ℕ) (pages : List (List ℕ)) (answer : ℤ) (place : Option KeptLane) : Type 0 where
  pub status : Status
  pub answer_is : answer ≡ number_of status
  pub does_it : OpensBy shape seed number pages status place
