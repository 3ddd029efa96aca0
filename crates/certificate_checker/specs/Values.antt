-- What the checker's map says of a key.
use Rattle.std.specs.Prelude.{◌≡◌, ℕ, List, Option, Some, option_map}
use Rattle.std.specs.Str.{bytes_eq}
use Rattle.std.specs.HashMap.{get_by, HashMap}
use Rattle.record_pages.specs.declared.timed_value.TimedValue.{TimedValue}
use Rattle.record_pages.specs.Expiry.{timed}
use Rattle.trace_file.specs.declared.act.Act.{Act}
use Rattle.trace_file.specs.declared.act.Act.TheVariants.{Put, Remove, Hit, Miss}
use Rattle.trace_file.specs.declared.lent_word.LentWord.{LentWord}
use Rattle.certificate_checker.specs.declared.lent_value.LentValue.{LentValue}
use Rattle.certificate_checker.specs.Current.{given_at}

-- the value with its expiry that the map has for a key, by the key's bytes, whatever hasher it has
abbrev pub value_at : {S : Type 0} → HashMap LentWord LentValue S → List ℕ → Option TimedValue
value_at values key = option_map (λ v. timed v.bytes.now v.expires) (get_by (λ k. bytes_eq key k.bytes.now) values)

-- a hit has the value that there is, live at its moment
abbrev pub IsAllowed : Option TimedValue → Act → Type 0
IsAllowed value (Put new expires) = Unit {0}
IsAllowed value Remove = Unit {0}
IsAllowed value (Hit hit moment) = given_at moment value ≡ Some hit
IsAllowed value Miss = Unit {0}
