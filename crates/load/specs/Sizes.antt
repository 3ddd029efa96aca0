-- The names of the sizes of a load of a cache that serves.
use Rattle.std.specs.Prelude.{ℕ, List, codes}
use Rattle.load.specs.declared.size_setting.SizeSetting.{SizeSetting}
use Rattle.load.specs.declared.size_setting.SizeSetting.TheVariants.{Size, MemoryBytes}

-- the name of a size's option
abbrev pub name_of : SizeSetting → List ℕ
name_of Size = codes "size"
name_of MemoryBytes = codes "memory-bytes"
