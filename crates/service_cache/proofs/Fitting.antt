-- A part of a lane with its register is no larger than memory if the whole is not.
use Rattle.std.proofs.Common.{refl}
use Rattle.std.specs.Borrow.{RattleType}
use Rattle.std.specs.Mem.{FitsInMemory}
use denote.Param.{layout, value_of}
use borrow.Rule.Slice.AtParam.{field_room}
use Rattle.page_device.specs.declared.device.PageDevice as device
use Rattle.deed_book.specs.declared.lanes.KeyLanes as lanes
use Rattle.deed_book.specs.declared.lanes.BookName as book
use Rattle.service_lane.specs.contracts.lane.ServiceLane as lane
use Rattle.service_cache.specs.contracts.lane.SeatedLane as seated

-- the lane
pub lane_fits : (D PAGE L J : RattleType) (of_device : device.Ghosts D.Denot (value_of PAGE)) (of_lanes : lanes.Ghosts L.Denot) (of_book : book.Ghosts J.Denot) → FitsInMemory (seated.the_row D PAGE L J of_device of_lanes of_book) → FitsInMemory (lane.the_row D PAGE of_device)
lane_fits D PAGE L J of_device of_lanes of_book fits = field_room (layout (seated.the_row D PAGE L J of_device of_lanes of_book)) 0 _ _ refl fits
