-- What a load wants of a cache of a size, and the cache that is made of it.
use Rattle.std.specs.Prelude.{◌≡◌, ℕ, ◌+◌, ◌/◌, Option, None, Some, unwrap_or}
use Rattle.record_pages.specs.declared.layout.Layout.{Layout}
use Rattle.record_pages.specs.Asked.{HasNumbersOf}
use Rattle.cache_sizes.specs.declared.shape.Shape.{Shape}
use Rattle.cache_sizes.specs.declared.size_fault.SizeFault.{SizeFault}
use Rattle.cache_sizes.specs.declared.wanted.Wanted.{Wanted}
use Rattle.cache_sizes.specs.Faults.{first_size_fault}
use Rattle.cache_sizes.specs.Shapes.{IsShapeFor, config_of}
use Rattle.load.specs.declared.serve_load.ServeLoad.{ServeLoad}
use Rattle.serve_load.specs.declared.objects.TheConstants.{KEY_BYTES}

-- so many bytes of flash, the memory that is given or an eighth of the size, objects of a key and a value, and as many threads as
-- callers
abbrev pub wanted_by : ServeLoad → ℕ → Wanted
wanted_by load size = record {
  flash_bytes = size;
  memory_bytes = unwrap_or load.memory_bytes (size / 8);
  object_bytes = load.value_bytes + KEY_BYTES;
  threads = load.callers;
}

-- these are the numbers of the shape for what is wanted, with this threshold and this admission
pub record IsSizedFor (wanted : Wanted) (given layout : Layout) (shards : ℕ) : Type 0 where
  pub shape : Shape
  pub fits : IsShapeFor wanted shape
  pub numbers : HasNumbersOf layout (config_of shape given.threshold given.admit)
  pub groups : shards ≡ shape.shards

-- the cache of a load has its numbers, or with a size those of the shape for it
abbrev pub IsMadeOf : ServeLoad → Option ℕ → Layout → ℕ → Type 0
IsMadeOf load None layout shards = (layout ≡ load.layout) × (shards ≡ load.shards)
IsMadeOf load (Some size) layout shards = IsSizedFor (wanted_by load size) load.layout layout shards

-- a size is refused with its first fault, and only a size is
abbrev pub RefusesSize : ServeLoad → Option ℕ → SizeFault → Type 0
RefusesSize load None fault = ⊥
RefusesSize load (Some size) fault = first_size_fault (wanted_by load size) ≡ Some fault
