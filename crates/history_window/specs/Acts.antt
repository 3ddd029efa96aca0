-- What acts do.
use Rattle.std.specs.Prelude.{Bool, true, false}
use Rattle.trace_file.specs.declared.act.Act.{Act}
use Rattle.trace_file.specs.declared.act.Act.TheVariants.{Put, Remove, Hit, Miss}

-- whether an act writes
abbrev pub is_writing : Act → Bool
is_writing (Put value expires) = true
is_writing Remove = true
is_writing (Hit value moment) = false
is_writing Miss = false

-- whether an act is a hit
abbrev pub is_reading : Act → Bool
is_reading (Put value expires) = false
is_reading Remove = false
is_reading (Hit value moment) = true
is_reading Miss = false

-- whether an act puts
abbrev pub is_putting : Act → Bool
is_putting (Put value expires) = true
is_putting Remove = false
is_putting (Hit value moment) = false
is_putting Miss = false
