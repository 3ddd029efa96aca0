-- A part of a lane is no larger than memory if the lane is not.
use Rattle.std.proofs.Common.{refl}
use Rattle.std.specs.Borrow.{RattleType}
use Rattle.std.specs.Mem.{FitsInMemory}
use denote.Param.{layout, value_of}
use borrow.Rule.Slice.AtParam.{field_room}
use Rattle.page_device.specs.declared.device.PageDevice as device
use Rattle.service_lane.specs.contracts.lane.ServiceLane as lane
use Rattle.service_lane.specs.contracts.copy_store.CopyStore as copies
use Rattle.deeds.specs.contracts.store.DeedStore as store

-- the store with its deeds and copies
pub asked_fits : (D PAGE : RattleType) (of_device : device.Ghosts D.Denot (value_of PAGE)) → FitsInMemory (lane.the_row D PAGE of_device) → FitsInMemory (copies.the_row D PAGE of_device)
asked_fits D PAGE of_device fits = field_room (layout (lane.the_row D PAGE of_device)) 0 _ _ refl fits

-- the store with its deeds
pub store_fits : (D PAGE : RattleType) (of_device : device.Ghosts D.Denot (value_of PAGE)) → FitsInMemory (copies.the_row D PAGE of_device) → FitsInMemory (store.the_row D PAGE of_device)
store_fits D PAGE of_device fits = field_room (layout (copies.the_row D PAGE of_device)) 0 _ _ refl fits
