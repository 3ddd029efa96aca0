-- The latest value of a key, and lawful orders.
use Rattle.std.specs.Prelude.{◌≡◌, ℕ, List, ◌∷◌, ◌++◌, All, IsTrue}
use Rattle.record_pages.specs.declared.timed_value.TimedValue.{TimedValue}
use Rattle.record_pages.specs.Expiry.{is_live, timed}
use Rattle.trace_file.specs.declared.act.Act.{Act}
use Rattle.trace_file.specs.declared.act.Act.TheVariants.{Put, Remove, Hit, Miss}
use Rattle.certificate_checker.specs.Deeds.{Deed}

-- puts and removes write
abbrev pub IsWrite : Act → Type 0
IsWrite (Put value expires) = Unit {0}
IsWrite Remove = Unit {0}
IsWrite (Hit value moment) = ⊥
IsWrite Miss = ⊥

-- a deed that writes the key
abbrev pub Writes : Deed → List ℕ → Type 0
Writes deed key = (deed.key ≡ key) × IsWrite deed.act

-- after these deeds the key's latest value is this, with this expiry: one of them put it, and none after that one wrote the key
pub record IsLatest (deeds : List Deed) (key : List ℕ) (latest : TimedValue) : Type 0 where
  pub before : List Deed
  pub put : Deed
  pub after : List Deed
  pub split : deeds ≡ before ++ put ∷ after
  pub at_key : put.key ≡ key
  pub value_put : put.act ≡ Put latest.value latest.expires
  pub not_written : All (λ deed. ¬ Writes deed key) after

-- after these deeds the key's latest value is this, and it is live at this moment
pub record IsLive (deeds : List Deed) (key value : List ℕ) (moment : ℕ) : Type 0 where
  pub expires : ℕ
  pub latest : IsLatest deeds key (timed value expires)
  pub live : IsTrue (is_live expires moment)

-- deeds in an order are lawful: each hit has the latest value of its key, by the deeds before it, live at its moment. Misses are free
abbrev pub IsLawful : List Deed → Type 0
IsLawful deeds =
    (before after : List Deed) (deed : Deed) (value : List ℕ) (moment : ℕ)
    → deeds ≡ before ++ deed ∷ after → deed.act ≡ Hit value moment → IsLive before deed.key value moment
