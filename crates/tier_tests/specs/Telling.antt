-- What a look answers of a record that it finds.
use Rattle.std.specs.Prelude.{ℕ, List, Option, Some, None}
use Rattle.record_pages.specs.declared.looked.Looked.{Looked}
use Rattle.record_pages.specs.declared.looked.Looked.TheVariants as looked

-- the answer by what the record's value gives at the moment
abbrev pub looked_by : Option (List ℕ) → Looked
looked_by (Some value) = looked.Hit value
looked_by None = looked.Expired
