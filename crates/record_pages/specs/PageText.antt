-- What a page is, byte by byte: a header, the records one after the other, zeros to the end. A log page has one of two forms: the
-- one that is written, and the one that was written before records had an expiry. A set page has one of three: the one that is
-- written, and the two that were written before it had so many records, one of them before records had an expiry.
use Rattle.std.specs.Prelude.{◌≡◌, ◌⊎◌, ℕ, ◌+◌, ◌-◌, ◌<◌, ◌≤◌, ◌^◌, List, [], ◌∷◌, ◌++◌, length, replicate, sum_by, All}
use Rattle.std.specs.List.{flat_map}
use Rattle.std.specs.Int.{w16, w32, w64, to_be_bytes}
use Rattle.record_pages.specs.Expiry.{never}
use Rattle.record_pages.specs.Recs.{Rec, IsRecord}
use Rattle.record_pages.specs.Sizes.{max_set_records, max_log_records, max_former_records}
use Rattle.record_pages.specs.declared.form.RecordForm.{RecordForm}
use Rattle.record_pages.specs.declared.form.RecordForm.TheVariants.{Timed, Lasting}
use Rattle.record_pages.specs.declared.form.SetForm.{SetForm}
use Rattle.record_pages.specs.declared.form.SetForm.TheVariants as set_forms

-- an expiry, which pages of the older form don't have
abbrev pub expiry_text : RecordForm → ℕ → List ℕ
expiry_text Timed expires = to_be_bytes w64 expires
expiry_text Lasting expires = []

-- a record: the length of its key, that of its value, its prediction, its expiry, its key, its value
abbrev pub record_text : RecordForm → Rec → List ℕ
record_text form r =
    (length r.key ∷ [])
    ++ (to_be_bytes w16 (length r.value.value) ++ ((r.pred ∷ []) ++ (expiry_text form r.value.expires ++ (r.key ++ r.value.value))))

-- one record after the other
unfoldable pub records_text : RecordForm → List Rec → List ℕ
records_text form rs = flat_map (record_text form) rs

-- how many bytes a record has beside its key and value
abbrev pub overhead : RecordForm → ℕ
overhead Timed = 12
overhead Lasting = 4

-- how many bytes the texts of records have together
abbrev pub text_sizes : RecordForm → List Rec → ℕ
text_sizes form rs = sum_by (λ r. overhead form + length r.key + length r.value.value) rs

-- a record of the older form never expires
abbrev pub CanSay : RecordForm → Rec → Type 0
CanSay Timed r = Unit {0}
CanSay Lasting r = r.value.expires ≡ never

-- a text with zeros after it, up to a size
abbrev pub padded_to : ℕ → List ℕ → List ℕ
padded_to size text = text ++ replicate (size - length text) 0

-- what the records of a set page say of expiry
abbrev pub records_form : SetForm → RecordForm
records_form set_forms.Large = Timed
records_form set_forms.Timed = Timed
records_form set_forms.Lasting = Lasting

-- how many records a set page may have
abbrev pub limit : SetForm → ℕ
limit set_forms.Large = max_set_records
limit set_forms.Timed = max_former_records
limit set_forms.Lasting = max_former_records

-- the first four bytes of a set page, as a number: KSE2, KSE1 or KSET
abbrev pub set_magic : SetForm → ℕ
set_magic set_forms.Large = 0x4b53_4532
set_magic set_forms.Timed = 0x4b53_4531
set_magic set_forms.Lasting = 0x4b53_4554

-- the first four bytes of a log page, as a number: KLO1, or KLOG
abbrev pub log_magic : RecordForm → ℕ
log_magic Timed = 0x4b4c_4f31
log_magic Lasting = 0x4b4c_4f47

-- the first four bytes, the set in the lane, the write number
abbrev pub set_head : SetForm → ℕ → ℕ → List ℕ
set_head form set write = to_be_bytes w32 (set_magic form) ++ (to_be_bytes w32 set ++ to_be_bytes w64 write)

-- the first four bytes, the segment, the page of the segment
abbrev pub log_head : RecordForm → ℕ → ℕ → List ℕ
log_head form segment page = to_be_bytes w32 (log_magic form) ++ (to_be_bytes w64 segment ++ to_be_bytes w16 page)

-- what stands on a page of either kind after its head: the number of records, and the records
abbrev pub body_text : RecordForm → List Rec → List ℕ
body_text form rs = to_be_bytes w16 (length rs) ++ records_text form rs

-- the text of a set page of this form and size
unfoldable pub set_text : SetForm → ℕ → ℕ → ℕ → List Rec → List ℕ
set_text form size set write rs = padded_to size (set_head form set write ++ body_text (records_form form) rs)

-- the text of a log page of this form and size
unfoldable pub log_text : RecordForm → ℕ → ℕ → ℕ → List Rec → List ℕ
log_text form size segment page rs = padded_to size (log_head form segment page ++ body_text form rs)

-- the text of a set page that is written
abbrev pub set_page_text : ℕ → ℕ → ℕ → List Rec → List ℕ
set_page_text size set write rs = set_text set_forms.Large size set write rs

-- the text of a log page that is written
abbrev pub log_page_text : ℕ → ℕ → ℕ → List Rec → List ℕ
log_page_text size segment page rs = log_text Timed size segment page rs

-- what a set page says
pub record SetPageParts : Type 0 where
  pub set : ℕ
  pub write : ℕ
  pub records : List Rec

-- what a log page says
pub record LogPageParts : Type 0 where
  pub segment : ℕ
  pub page : ℕ
  pub records : List Rec

-- what a set page of this form and size can say
pub record IsSetPage (form : SetForm) (size : ℕ) (p : SetPageParts) : Type 0 where
  pub set_fits : p.set < 2 ^ 32
  pub write_fits : p.write < 2 ^ 64
  pub each : All IsRecord p.records
  pub said : All (CanSay (records_form form)) p.records
  pub few : length p.records ≤ limit form
  pub room : 18 + text_sizes (records_form form) p.records ≤ size

-- what a log page of this form and size can say
pub record IsLogPage (form : RecordForm) (size : ℕ) (p : LogPageParts) : Type 0 where
  pub segment_fits : p.segment < 2 ^ 64
  pub page_fits : p.page < 2 ^ 16
  pub each : All IsRecord p.records
  pub said : All (CanSay form) p.records
  pub few : length p.records ≤ max_log_records
  pub room : 16 + text_sizes form p.records ≤ size

-- the bytes are the text of this set page in this form
pub record SpellsSetForm (form : SetForm) (size : ℕ) (bytes : List ℕ) (p : SetPageParts) : Type 0 where
  pub lawful : IsSetPage form size p
  pub text : bytes ≡ set_text form size p.set p.write p.records

-- the bytes are the text of this log page in this form
pub record SpellsLogForm (form : RecordForm) (size : ℕ) (bytes : List ℕ) (p : LogPageParts) : Type 0 where
  pub lawful : IsLogPage form size p
  pub text : bytes ≡ log_text form size p.segment p.page p.records

-- the bytes are the text of this set page
abbrev pub SpellsSetPage : ℕ → List ℕ → SetPageParts → Type 0
SpellsSetPage size bytes p =
    SpellsSetForm set_forms.Large size bytes p
    ⊎ (SpellsSetForm set_forms.Timed size bytes p ⊎ SpellsSetForm set_forms.Lasting size bytes p)

-- the bytes are the text of this log page
abbrev pub SpellsLogPage : ℕ → List ℕ → LogPageParts → Type 0
SpellsLogPage size bytes p = SpellsLogForm Timed size bytes p ⊎ SpellsLogForm Lasting size bytes p

-- no bytes are the text of two set pages of this size
abbrev pub SetPageTextsDiffer : ℕ → Type 0
SetPageTextsDiffer size =
    (bytes : List ℕ) (p q : SetPageParts) → SpellsSetPage size bytes p → SpellsSetPage size bytes q → p ≡ q

-- no bytes are the text of two log pages of this size
abbrev pub LogPageTextsDiffer : ℕ → Type 0
LogPageTextsDiffer size =
    (bytes : List ℕ) (p q : LogPageParts) → SpellsLogPage size bytes p → SpellsLogPage size bytes q → p ≡ q
