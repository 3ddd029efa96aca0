-- A lane with its register in a book, and what its calls leave.
use Rattle.std.specs.Prelude.{◌≡◌, ◌≤◌, ◌⊎◌, ℕ, ◌^◌, List, length, Option, None, Bool, IsTrue}
use Rattle.record_pages.specs.Expiry.{timed}
use Rattle.record_pages.specs.declared.pushed.Pushed.{Pushed}
use Rattle.trace_file.specs.declared.act.Act.TheVariants.{Put}
use Rattle.certificate_checker.specs.Deeds.{Deed}
use Rattle.certificate_checker.specs.Current.{current}
use Rattle.service_lane.specs.Counting.{counts_refused_put, counts_refused_fill}
use Rattle.service_lane.specs.Serving.{Serving, FillsStore, Removes}
use Rattle.service_lane.specs.Words.{next_words}
use Rattle.rand_pcg.specs.Lcg.{Lcg}
use Rattle.service_lane.specs.declared.lease.Lease.{Lease}
use Rattle.service_lane.specs.declared.filled.Filled.{Filled}
use Rattle.service_lane.specs.declared.filled.Filled.TheVariants.{Stored, Stale}
use Rattle.deed_book.specs.Parts.{part_of}
use Rattle.deed_book.specs.Registers.{Registered, EntersIn}
use Rattle.service_cache.specs.declared.seat_fault.SeatFault.{SeatFault}
use Rattle.service_cache.specs.declared.seat_fault.SeatFault.TheVariants as refusals
use Rattle.service_cache.specs.declared.seat_fault.SeatPutFault.{SeatPutFault}
use Rattle.service_cache.specs.declared.seat_fault.SeatPutFault.TheVariants as put_refusals

-- a lane that serves, its register, and the generator of its words of admission
pub record Seated (D : Type 0) : Type 0 where
  pub serving : Serving D
  pub register : Registered
  pub words : Lcg

-- the lane after its generator gave a word
abbrev pub drawn : {D : Type 0} → Seated D → Seated D
drawn s = record s { words = next_words s.words }

-- each key of the lane has no value after its deeds, or has what it has after the writes of the list
abbrev pub IsSeated : (List ℕ → ℕ) → Registered → List Deed → Type 0
IsSeated lane_of register deeds =
    (key : List ℕ) → lane_of key ≡ register.number → (current deeds key ≡ None) ⊎ (current deeds key ≡ current register.deeds key)

-- the device of a lane is honest if that is said of the lane's number
abbrev pub IsAsSaid : {D : Type 0} → (ℕ → Bool) → (D → Bool) → Registered → Serving D → Type 0
IsAsSaid said honest register serving = IsTrue (said register.number) → IsTrue (honest serving.store.device)

-- the put of a value with its expiry
abbrev pub put_of : List ℕ → List ℕ → ℕ → Deed
put_of key value expires = record { key = key; act = Put value expires }

-- nothing changed for lane and seat
abbrev pub StayAsTheyWere : {D : Type 0} → Seated D → List Deed → Seated D → List Deed → Type 0
StayAsTheyWere old seat_old new seat_new = (new ≡ old) × (seat_new ≡ seat_old)

-- the key was removed from the lane, and nothing is entered in the list
abbrev pub IsForgotten : {D : Type 0} → (D → ℕ → Option (List ℕ)) → List ℕ → Seated D → List Deed → Seated D → List Deed → Type 0
IsForgotten held key old seat_old new seat_new =
    Removes held key old.serving new.serving × (new.register ≡ old.register) × (seat_new ≡ seat_old)

-- What a put leaves that was refused: its key is removed. If the store refused it, it is entered.
abbrev pub PutLeaves : {D : Type 0} → (D → ℕ → Option (List ℕ)) → (List ℕ → ℕ) → List ℕ → List ℕ → ℕ → SeatPutFault → Seated D → List Deed → Seated D → List Deed → Type 0
PutLeaves held lane_of key value expires (put_refusals.Put fault) old seat_old new seat_new =
    EntersIn lane_of old.register seat_old (put_of key value expires) new.register seat_new
    × Removes held key (record old.serving { counts = counts_refused_put fault old.serving.counts }) new.serving
PutLeaves held lane_of key value expires (put_refusals.Book fault) old seat_old new seat_new = IsForgotten held key old seat_old new seat_new

-- What a removal leaves that was refused. If the book refused it, the key is removed.
abbrev pub RemovalLeaves : {D : Type 0} → (D → ℕ → Option (List ℕ)) → List ℕ → SeatFault → Seated D → List Deed → Seated D → List Deed → Type 0
RemovalLeaves held key (refusals.Key fault) old seat_old new seat_new = StayAsTheyWere old seat_old new seat_new
RemovalLeaves held key (refusals.Book fault) old seat_old new seat_new = IsForgotten held key old seat_old new seat_new

-- what a fill does to list and seat: if it is stale, nothing
abbrev pub FillEnters : (List ℕ → ℕ) → Deed → Filled → Registered → List Deed → Registered → List Deed → Type 0
FillEnters lane_of put (Stored pushed) old seat_old new seat_new = EntersIn lane_of old seat_old put new seat_new
FillEnters lane_of put Stale old seat_old new seat_new = (new ≡ old) × (seat_new ≡ seat_old)

-- the lane has entered as many writes as it may, so the book has no room for another
abbrev pub HasNoRoom : (List ℕ → ℕ) → Registered → Type 0
HasNoRoom lane_of register = 2 ^ 62 ≤ length (part_of lane_of register.number register.deeds)

-- a fill that was stored had room in the book
abbrev pub HasRoomFor : (List ℕ → ℕ) → Registered → Filled → Type 0
HasRoomFor lane_of register (Stored pushed) = ¬ HasNoRoom lane_of register
HasRoomFor lane_of register Stale = Unit {0}

-- the store filled the key, and then it was removed
pub record FillsAndRemoves {D : Type 0} (size : ℕ) (held : D → ℕ → Option (List ℕ)) (key value : List ℕ) (expires word : ℕ) (lease : Lease) (old new : Serving D) : Type 0 where
  pub pushed : Pushed
  pub between : Serving D
  pub fills : FillsStore size held (record { key = key; value = timed value expires }) word lease pushed old between
  pub removes : Removes held key between new

-- What a fill leaves that was refused. If the book refused it, its key is removed.
abbrev pub FillRefusalLeaves : {D : Type 0} → ℕ → (D → ℕ → Option (List ℕ)) → List ℕ → List ℕ → ℕ → ℕ → Lease → SeatPutFault → Seated D → List Deed → Seated D → List Deed → Type 0
FillRefusalLeaves size held key value expires word lease (put_refusals.Put fault) old seat_old new seat_new =
    (new ≡ record old { serving = record old.serving { counts = counts_refused_fill fault old.serving.counts } }) × (seat_new ≡ seat_old)
FillRefusalLeaves size held key value expires word lease (put_refusals.Book fault) old seat_old new seat_new =
    FillsAndRemoves size held key value expires word lease old.serving new.serving × (new.register ≡ old.register) × (seat_new ≡ seat_old)
