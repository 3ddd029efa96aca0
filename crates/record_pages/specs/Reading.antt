-- A page read from left to right, field by field.
use Rattle.std.specs.Prelude.{ℕ, zero, suc, List, [], ◌∷◌, length, take, drop, ◌+◌, Option, Some, None, option_and_then, nat_lt, ◌==◌, ◌||◌, if◌then◌else◌, Bool}
use Rattle.std.specs.List.{list_all}
use Rattle.std.specs.Option.{option_map_or}
use Rattle.std.specs.Int.{Width, w16, w32, w64, byte_len, from_be_bytes}
use Rattle.record_pages.specs.Expiry.{never, timed}
use Rattle.record_pages.specs.Recs.{Rec, rec}
use Rattle.record_pages.specs.Sizes.{max_log_records}
use Rattle.record_pages.specs.PageText.{SetPageParts, LogPageParts, records_form, limit, set_magic, log_magic}
use Rattle.record_pages.specs.declared.form.RecordForm.{RecordForm}
use Rattle.record_pages.specs.declared.form.RecordForm.TheVariants.{Timed, Lasting}
use Rattle.record_pages.specs.declared.form.SetForm.{SetForm}
use Rattle.record_pages.specs.declared.form.SetForm.TheVariants as set_forms
use Rattle.record_pages.specs.declared.form.PageForm.{PageForm}
use Rattle.record_pages.specs.declared.form.PageForm.TheVariants as page_forms

infixl 10 ◌>>=◌
abbrev pub ◌>>=◌ : {A B : Type 0} → Option A → (A → Option B) → Option B
o >>= f = option_and_then f o

-- the number of this width at the front, and the bytes after it
abbrev pub number_at : Width → List ℕ → Option (ℕ × List ℕ)
number_at w bytes =
    if nat_lt (length bytes) (byte_len w) then None
    else Some (from_be_bytes w (take (byte_len w) bytes), drop (byte_len w) bytes)

-- the byte at the front, and the bytes after it
abbrev pub byte_at : List ℕ → Option (ℕ × List ℕ)
byte_at [] = None
byte_at (b ∷ rest) = Some (b, rest)

-- no record has these lengths and this prediction, or it would pass the end
abbrev pub is_bad : ℕ → ℕ → ℕ → List ℕ → Bool
is_bad k v p rest = k == 0 || nat_lt 2048 v || nat_lt 7 p || nat_lt (length rest) (k + v)

-- the expiry at the front, and the bytes after it: a record of the older form has none, and never expires
abbrev pub expiry_at : RecordForm → List ℕ → Option (ℕ × List ℕ)
expiry_at Timed bytes = number_at w64 bytes
expiry_at Lasting bytes = Some (never, bytes)

-- the record at the front, and the bytes after it
unfoldable pub record_at : RecordForm → List ℕ → Option (Rec × List ℕ)
record_at form bytes = do
  k ← byte_at bytes
  v ← number_at w16 k.1
  p ← byte_at v.1
  e ← expiry_at form p.1
  if is_bad k.0 v.0 p.0 e.1 then None
      else Some (rec (take k.0 e.1) (timed (take v.0 (drop k.0 e.1)) e.0) p.0, drop v.0 (drop k.0 e.1))

-- this many records at the front, and the bytes after them
unfoldable pub records_at : RecordForm → ℕ → List ℕ → Option (List Rec × List ℕ)
records_at form zero bytes = Some ([], bytes)
records_at form (suc n) bytes = do
  first ← record_at form bytes
  others ← records_at form n first.1
  Some (first.0 ∷ others.0, others.1)

-- this many records at the front, if they are there
abbrev pub records_of : RecordForm → ℕ → List ℕ → List Rec
records_of form n bytes = option_map_or (λ x. x.0) (records_at form n bytes) []

-- only zeros
abbrev pub all_zero : List ℕ → Bool
all_zero bytes = list_all (λ b. b == 0) bytes

-- what the records of a page say of expiry
abbrev pub form_within : PageForm → RecordForm
form_within (page_forms.Set form) = records_form form
form_within (page_forms.Log form) = form

-- how many records a page may have
abbrev pub limit_of : PageForm → ℕ
limit_of (page_forms.Set form) = limit form
limit_of (page_forms.Log form) = max_log_records

-- the records of a page whose head was read: a count that a page of this form may have, this many records, zeros to the end
unfoldable pub body_at : PageForm → List ℕ → Option (List Rec)
body_at form bytes = do
  count ← number_at w16 bytes
  if nat_lt (limit_of form) count.0 then None else do
    records ← records_at (form_within form) count.0 count.1
    if all_zero records.1 then Some records.0 else None

-- the form of a set page whose first four bytes are this number
abbrev pub set_form_of : ℕ → Option SetForm
set_form_of magic =
    if magic == set_magic set_forms.Large then Some set_forms.Large
    else if magic == set_magic set_forms.Timed then Some set_forms.Timed
    else if magic == set_magic set_forms.Lasting then Some set_forms.Lasting else None

-- the form of a log page whose first four bytes are this number
abbrev pub log_form_of : ℕ → Option RecordForm
log_form_of magic =
    if magic == log_magic Timed then Some Timed else if magic == log_magic Lasting then Some Lasting else None

-- what these bytes say as a set page
unfoldable pub set_page_at : List ℕ → Option SetPageParts
set_page_at bytes = do
  magic ← number_at w32 bytes
  form ← set_form_of magic.0
  set ← number_at w32 magic.1
  write ← number_at w64 set.1
  records ← body_at (page_forms.Set form) write.1
  Some (record { set = set.0; write = write.0; records = records })

-- what these bytes say as a log page
unfoldable pub log_page_at : List ℕ → Option LogPageParts
log_page_at bytes = do
  magic ← number_at w32 bytes
  form ← log_form_of magic.0
  segment ← number_at w64 magic.1
  page ← number_at w16 segment.1
  records ← body_at (page_forms.Log form) page.1
  Some (record { segment = segment.0; page = page.0; records = records })
