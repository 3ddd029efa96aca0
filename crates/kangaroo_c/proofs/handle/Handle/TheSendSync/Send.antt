-- A place may cross threads: what it owns names no thread.
use mir.Raw.{raw}
use base.Shift.{Keyless}
use denote.Memory.{lone}
use denote.RawPtr.{Ptr}
use denote.Struct.Struct.{exits_of}
use denote.Struct.Owning.{shape, fields, to}
use denote.Param.Send.{IsSend, AllSend, owning_send, struct_send, sendable}
use Rattle.std.proofs.Crossing as heap
use Rattle.std.specs.Prelude.{Option, Some, None}
use Rattle.std.specs.Global.{Global}
use Rattle.std_alloc.proofs.SendSync.{quiet, lies}
use Rattle.std_heap.proofs.Global.TheSendSync as handle
use Rattle.kangaroo_c.specs.declared.kept_lane.KeptLane.{KeptLane}
use Rattle.kangaroo_c.specs.contracts.kept_lane.KeptLane as Cache
use Rattle.kangaroo_c.proofs.kept_lane.KeptLane.TheSendSync.{the_send as cache}
use Rattle.kangaroo_c.specs.Held.{held}
use Rattle.kangaroo_c.specs.contracts.handle.Handle.{the_row, the_type}

keyless : (a : Global) (p : Ptr) (c : Option KeptLane) → Keyless (held a p c)
keyless a p None = tt
keyless a p (Some m) = (lies Cache.the_row cache p m, heap.frees.frees a (raw (lone Cache.the_row.mir)) p)

pub send : IsSend the_row
send =
    let all : AllSend (fields the_type) = (search sendable, (handle.the_field_send, tt)) in
    owning_send the_type all (λ d. keyless d.alloc d.ptr d.lane)
    (λ k. quiet (to the_type) (exits_of k (fields the_type)) ((struct_send (shape the_type) all).leaving k))
