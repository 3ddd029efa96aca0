-- The lossy map after deeds: what each key has, deed by deed.
use Rattle.std.specs.Prelude.{ℕ, List, Option, Some, None, fold, option_and_then, if◌then◌else◌}
use Rattle.std.specs.Str.{bytes_eq}
use Rattle.record_pages.specs.declared.timed_value.TimedValue.{TimedValue}
use Rattle.record_pages.specs.Expiry.{timed, value_at}
use Rattle.trace_file.specs.declared.act.Act.{Act}
use Rattle.trace_file.specs.declared.act.Act.TheVariants.{Put, Remove, Hit, Miss}
use Rattle.certificate_checker.specs.Deeds.{Deed}

-- the value of a key after an act at that key: a put sets it, a remove unsets it, and nothing else changes it
abbrev pub after_act : Option TimedValue → Act → Option TimedValue
after_act value (Put new expires) = Some (timed new expires)
after_act value Remove = None
after_act value (Hit hit moment) = value
after_act value Miss = value

-- the value of a key after a deed
abbrev pub after_deed : List ℕ → Option TimedValue → Deed → Option TimedValue
after_deed key value deed = if bytes_eq deed.key key then after_act value deed.act else value

-- the value of a key after deeds in their order, from the empty map
abbrev pub current : List Deed → List ℕ → Option TimedValue
current deeds key = fold (after_deed key) None deeds

-- what a get at a moment is given of it: the value, if there is one and it is live
abbrev pub given_at : ℕ → Option TimedValue → Option (List ℕ)
given_at moment value = option_and_then (value_at moment) value
