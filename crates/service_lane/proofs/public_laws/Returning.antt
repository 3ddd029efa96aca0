-- What a copy that goes back into a store leaves.
use Rattle.std.proofs.Common.{◌≡◌, ℕ, List, Option, Some, None, ap}
use Rattle.memory_cache.specs.declared.pair.Pair.{Pair}
use Rattle.mover.specs.declared.copy_fate.CopyFate.{CopyFate}
use Rattle.mover.specs.Store.{StoreState}
use Rattle.service_lane.specs.Copies.{PutsBackIf}

-- the device stays as it was
pub back_device : {D : Type 0} (size : ℕ) (held : D → ℕ → Option (List ℕ)) (pushed : Option Pair) (old : StoreState D) (fate : Option CopyFate) (new : StoreState D) → PutsBackIf size held pushed old fate new → new.device ≡ old.device
back_device size held None old fate new back = ap (λ (s : StoreState _). s.device) back.1
back_device size held (Some p) old None new back = absurd back
back_device size held (Some p) old (Some fate) new back = back.device
