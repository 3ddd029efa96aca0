-- What a page in the making is.
use Rattle.std.specs.Prelude.{◌≡◌, ℕ, ◌<◌, ◌≤◌, List, IsTrue, length, take, slice_index_or, All}
use Rattle.record_pages.specs.Sizes.{max_log_records}
use Rattle.record_pages.specs.Recs.{Rec, IsRecord, sizes, fit}
use Rattle.record_pages.specs.PageText.{records_text}
use Rattle.record_pages.specs.Reading.{records_of}
use Rattle.record_pages.specs.declared.form.RecordForm.TheVariants.{Timed}

-- the bytes begin with the texts of these records, which fit on a set page
pub record HoldsRecords (page : ℕ) (bytes : List ℕ) (used count : ℕ) (rs : List Rec) : Type 0 where
  pub text : take used bytes ≡ records_text Timed rs
  pub used_is : used ≡ sizes rs
  pub count_is : count ≡ length rs
  pub each : All IsRecord rs
  pub fits : IsTrue (fit page rs)

-- the bytes and the counts of a page in the making agree
abbrev pub IsInTheMaking : ℕ → List ℕ → ℕ → ℕ → Type 0
IsInTheMaking page bytes used count = HoldsRecords page bytes used count (records_of Timed count bytes)

-- it is noted of each record how many bytes stand before it
abbrev pub AreStarts : List Rec → List ℕ → Type 0
AreStarts rs starts = (slot : ℕ) → slot < length rs → slice_index_or starts slot 0 ≡ sizes (take slot rs)

-- the records of a log page in the making: not too many, and it is noted where each begins
pub record IsLogInTheMaking (rs : List Rec) (noted : List ℕ) : Type 0 where
  pub few : length rs ≤ max_log_records
  pub starts : AreStarts rs noted
