-- What a place of C's owns.
use Rattle.std.specs.Prelude.{Option, Some, None}
use base.Fml.{Fml, ftrue}
use denote.RawPtr.{Ptr}
use Rattle.std.specs.Box.Ownership.{box_owns}
use Rattle.std.specs.Global.{Global}
use Rattle.std_heap.specs.contracts.GlobalAllocator.TheImpl.{ghosts}
use Rattle.kangaroo_c.specs.contracts.kept_lane.KeptLane.{the_row}
use Rattle.kangaroo_c.specs.declared.kept_lane.KeptLane.{KeptLane}

-- the block of the lane that a place holds, with the right to free it
abbrev pub held : Global → Ptr → Option KeptLane → Fml
held alloc p None = ftrue
held alloc p (Some lane) = box_owns (ghosts.dealloc_token alloc) the_row p lane
