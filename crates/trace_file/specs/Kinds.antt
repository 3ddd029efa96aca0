-- The kinds of acts.
use Rattle.trace_file.specs.declared.act.Act.{Act}
use Rattle.trace_file.specs.declared.act.Act.TheVariants.{Put, Remove, Hit, Miss}
use Rattle.trace_file.specs.declared.call_kind.CallKind.{CallKind}
use Rattle.trace_file.specs.declared.call_kind.CallKind.TheVariants as kinds

-- the kind of an act
abbrev pub kind_of : Act → CallKind
kind_of (Put value expires) = kinds.Put
kind_of Remove = kinds.Remove
kind_of (Hit value moment) = kinds.Hit
kind_of Miss = kinds.Miss

-- puts and removes write
abbrev pub IsWriting : CallKind → Type 0
IsWriting kinds.Put = Unit {0}
IsWriting kinds.Remove = Unit {0}
IsWriting kinds.Hit = ⊥
IsWriting kinds.Miss = ⊥
