-- What a load's cache is made of.
use Rattle.std.specs.Prelude.{◌≡◌, ℕ, Option, max}
use Rattle.load.specs.declared.serve_load.ServeLoad.{ServeLoad}
use Rattle.serve_load.specs.declared.cache_shape.CacheShape.{CacheShape}
use Rattle.serve_load.specs.Wanting.{IsMadeOf}

-- the shape has the numbers of the load's cache, its slots for leases, or one if the load has none, and its number by which objects are
-- brought back
pub record IsShapeOf (load : ServeLoad) (size : Option ℕ) (shape : CacheShape) : Type 0 where
  pub made : IsMadeOf load size shape.layout shape.shards
  pub slots : shape.lease_slots ≡ max load.leases 1
  pub back : shape.bring_back ≡ load.bring_back
