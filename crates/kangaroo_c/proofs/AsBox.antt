-- A place with a cache and its parts own what a box at the same types owns.
use mir.Syntax.{impl, tnil, dnil}
use mathlib.Core.List.{[]}
use denote.Signature.{Slot, plain}
use Rattle.std_alloc.proofs.BoxSteps.Form.{Bx}
use Rattle.std_heap.specs.contracts.Global as Heap
use Rattle.std_heap.specs.contracts.GlobalAllocator.TheImpl.{ghosts, dict}
use Rattle.std_heap.proofs.Global.TheLaws as heap
use Rattle.kangaroo_c.specs.contracts.kept_lane.KeptLane as Cache
use Rattle.kangaroo_c.proofs.kept_lane.KeptLane.TheLaws as cache
use Rattle.kangaroo_c.specs.contracts.parts.Parts as Parts
use Rattle.kangaroo_c.specs.contracts.handle.Handle as Handle

abbrev pub E : Bx
E = record { row = Cache.the_row; laws = cache.the_row_laws; al = record { row = Heap.the_row; laws = heap.the_row_laws; g = ghosts; d = dict; drops = impl [] tnil dnil } }

abbrev pub FromParts : Slot 0
FromParts = plain (λ _. Parts.the_row Cache.the_row Heap.the_row ghosts)

abbrev pub FromHandle : Slot 0
FromHandle = plain (λ _. Handle.the_row)
