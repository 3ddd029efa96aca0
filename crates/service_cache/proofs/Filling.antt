-- What a fill adds to the list.
use Rattle.std.proofs.Common.{◌≡◌, ℕ, List, Option, ◌∙◌}
use Rattle.certificate_checker.specs.Deeds.{Deed}
use Rattle.service_lane.specs.declared.lease.Lease.{Lease}
use Rattle.service_lane.specs.declared.filled.Filled.{Filled}
use Rattle.service_lane.specs.declared.filled.Filled.TheVariants.{Stored, Stale}
use Rattle.deed_book.specs.Registers.{Registered, EntersIn}
use Rattle.service_cache.specs.Seated.{Seated, put_of, FillEnters, FillRefusalLeaves, PutLeaves}
use Rattle.service_cache.specs.Calls.{AddsLast, FillAdds, RefusedPutAdds}
use Rattle.service_cache.specs.declared.seat_fault.SeatPutFault.{SeatPutFault}
use Rattle.service_cache.specs.declared.seat_fault.SeatPutFault.TheVariants as refusals

-- a fill that was entered by the lane is the last that the seat has seen, or was stale
pub fill_adds : (lane_of : List ℕ → ℕ) (put : Deed) (filled : Filled) (old : Registered) (seat_old : List Deed) (new : Registered) (seat_new : List Deed) → FillEnters lane_of put filled old seat_old new seat_new → FillAdds seat_old put filled seat_new
fill_adds lane_of put (Stored pushed) old seat_old new seat_new enters = record { before = enters.before; seen = enters.seen; last = enters.both ∙ enters.behind }
fill_adds lane_of put Stale old seat_old new seat_new stays = stays.1

-- a put that was entered by the lane is the last that the seat has seen
pub adds_last : (lane_of : List ℕ → ℕ) (put : Deed) (old : Registered) (seat_old : List Deed) (new : Registered) (seat_new : List Deed) → EntersIn lane_of old seat_old put new seat_new → AddsLast seat_old put seat_new
adds_last lane_of put old seat_old new seat_new enters = record { before = enters.before; seen = enters.seen; last = enters.both ∙ enters.behind }

-- one that was refused was entered if the store refused it
pub refused_adds : {D : Type 0} (held : D → ℕ → Option (List ℕ)) (lane_of : List ℕ → ℕ) (key value : List ℕ) (expires : ℕ) (fault : SeatPutFault) (old : Seated D) (seat_old : List Deed) (new : Seated D) (seat_new : List Deed) → PutLeaves held lane_of key value expires fault old seat_old new seat_new → RefusedPutAdds seat_old (put_of key value expires) fault seat_new
refused_adds held lane_of key value expires (refusals.Put fault) old seat_old new seat_new leaves = adds_last lane_of (put_of key value expires) old.register seat_old new.register seat_new leaves.0
refused_adds held lane_of key value expires (refusals.Book fault) old seat_old new seat_new leaves = leaves.2

-- a fill that was refused leaves the seat as it was
pub refused_stays : {D : Type 0} (size : ℕ) (held : D → ℕ → Option (List ℕ)) (key value : List ℕ) (expires word : ℕ) (lease : Lease) (fault : SeatPutFault) (old : Seated D) (seat_old : List Deed) (new : Seated D) (seat_new : List Deed) → FillRefusalLeaves size held key value expires word lease fault old seat_old new seat_new → seat_new ≡ seat_old
refused_stays size held key value expires word lease (refusals.Put fault) old seat_old new seat_new leaves = leaves.1
refused_stays size held key value expires word lease (refusals.Book fault) old seat_old new seat_new leaves = leaves.2
