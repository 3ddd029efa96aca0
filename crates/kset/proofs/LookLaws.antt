-- What a page says of a key, and what of it is visible.
use Rattle.std.proofs.Common.{◌≡◌, ◌≢◌, ℕ, ◌+◌, ◌<◌, ◌≤◌, Bool, true, false, cond, List, [], ◌∷◌, length, Option, Some, None, refl, sym, ap, subst, ◌∙◌, arith}
use Rattle.std.proofs.lemmas.Bool.{false≢true, and_parts, eq-eqb, lt-ltb}
use Rattle.std.specs.Prelude.{IsSomeAnd}
use Rattle.std.specs.Option.{option_map_or}
use Rattle.std.specs.FinSet.{empty}
use Rattle.std.specs.Cmp.Lexicographic.{same_text}
use Rattle.page_device.specs.Device.{IsKnown}
use Rattle.page_device.specs.Frames.{pages_before}
use Rattle.record_pages.specs.Expiry.{value_at}
use Rattle.record_pages.specs.Recs.{Rec}
use Rattle.record_pages.specs.PageText.{SetPageParts, SpellsSetPage}
use Rattle.record_pages.specs.Sizes.{max_set_records}
use Rattle.record_pages.specs.Reading.{set_page_at}
use Rattle.record_pages.specs.Looking.{has_key, first_from, first_with}
use Rattle.record_pages.proofs.public_laws.PageLaws.{set_page_only}
use Rattle.set_hash.specs.Fnv.{fnv1a}
use Rattle.kset.specs.declared.located_in_set.LocatedInSet.{LocatedInSet}
use Rattle.kset.specs.declared.located_in_set.LocatedInSet.TheVariants.{Hit, Expired, Absent, Fault, Damaged}
use Rattle.kset.specs.Notes.{Notes, lets_show}
use Rattle.kset.specs.Pages.{IsPageOf, records_on}
use Rattle.kset.specs.Shown.{is_visible, visible_from, first_visible}
use Rattle.kset.specs.Telling.{page_if_of, SetPageTells}
use Rattle.kset.proofs.public_laws.NotesLaws.{some_bit, lets_show-empty}

-- a record that is found lies among the records
pub first_within : (key : List ℕ) (slot : ℕ) (rs : List Rec) (x : ℕ × Rec) → first_from slot key rs ≡ Some x → x.0 < slot + length rs
first_within key slot [] x e = absurd cc
first_within key slot (r ∷ rs) x e =
    elim (has_key key r) as (λ b. cond b (Some (slot, r)) (first_from (slot + 1) key rs) ≡ Some x → x.0 < slot + length (r ∷ rs)) [
      | true ↦ λ here. let same : slot ≡ x.0 = cc in omega arith
      | false ↦ λ later. let below = first_within key (slot + 1) rs x later in omega arith
    ] e

-- a record with a key has the key
has_key-true : (key : List ℕ) (r : Rec) → has_key key r ≡ true → r.key ≡ key
has_key-true key r is = same_text r.key key (sym is)

-- the first visible record of a key that can show is the first one on the page
pub first_visible-shown : (notes : Notes) (key : List ℕ) → lets_show notes (fnv1a key) ≡ true → (slot : ℕ) (rs : List Rec) →
    first_visible (visible_from notes slot rs) key ≡ first_from slot key rs
first_visible-shown notes key shows slot [] = refl
first_visible-shown notes key shows slot (r ∷ rs) =
    let later = first_visible-shown notes key shows (slot + 1) rs in
    let found : Bool → Bool → Option (ℕ × Rec) =
    λ (visible has : Bool). first_visible (cond visible ((slot, r) ∷ visible_from notes (slot + 1) rs) (visible_from notes (slot + 1) rs)) key in
    elim (is_visible notes (slot, r)) as (λ v. is_visible notes (slot, r) ≡ v →
    first_visible (cond v ((slot, r) ∷ visible_from notes (slot + 1) rs) (visible_from notes (slot + 1) rs)) key
    ≡ cond (has_key key r) (Some (slot, r)) (first_from (slot + 1) key rs)) [
      | true ↦ λ _. ap (cond (has_key key r) (Some (slot, r))) later
      | false ↦ λ hidden. elim (has_key key r) as (λ h. has_key key r ≡ h →
          first_visible (visible_from notes (slot + 1) rs) key ≡ cond h (Some (slot, r)) (first_from (slot + 1) key rs)) [
            | true ↦ λ has. absurd (false≢true (sym hidden ∙ ap (λ (k : List ℕ). lets_show notes (fnv1a k)) (has_key-true key r has) ∙ shows))
            | false ↦ λ _. later
          ] refl
    ] refl

-- no record of a key that can't show is visible
pub first_visible-hidden : (notes : Notes) (key : List ℕ) → lets_show notes (fnv1a key) ≡ false → (slot : ℕ) (rs : List Rec) →
    first_visible (visible_from notes slot rs) key ≡ None
first_visible-hidden notes key hidden slot [] = refl
first_visible-hidden notes key hidden slot (r ∷ rs) =
    let later = first_visible-hidden notes key hidden (slot + 1) rs in
    elim (is_visible notes (slot, r)) as (λ v. is_visible notes (slot, r) ≡ v →
    first_visible (cond v ((slot, r) ∷ visible_from notes (slot + 1) rs) (visible_from notes (slot + 1) rs)) key ≡ None) [
      | true ↦ λ visible. elim (has_key key r) as (λ h. has_key key r ≡ h →
          cond h (Some (slot, r)) (first_visible (visible_from notes (slot + 1) rs) key) ≡ None) [
            | true ↦ λ has. absurd (false≢true (sym hidden ∙ ap (λ (k : List ℕ). lets_show notes (fnv1a k)) (sym (has_key-true key r has)) ∙ visible))
            | false ↦ λ _. later
          ] refl
      | false ↦ λ _. later
    ] refl

-- what is seen of a page that is one of the first
before_is : (count set : ℕ) (held : ℕ → Option (List ℕ)) → set < count → pages_before count held set ≡ held set
before_is count set held within = ap (λ b. cond b (held set) None) (lt-ltb set count within)

-- what was read of a set's page, which is known, is that page
pub record ReadsPage (size set : ℕ) (seen : Option (List ℕ)) (bytes : List ℕ) : Type 0 where
  pub page : SetPageParts
  pub read : page_if_of set (set_page_at bytes) ≡ Some page
  pub seen_records : records_on seen ≡ page.records

pub reads_page : (size count set : ℕ) (held : ℕ → Option (List ℕ)) (bytes : List ℕ) → set < count → IsPageOf size set (pages_before count held set) → IsKnown (held set) bytes →
    ReadsPage size set (pages_before count held set) bytes
reads_page size count set held bytes within p known =
    let held_is : held set ≡ Some p.bytes = sym (before_is count set held within) ∙ p.holds in
    let same : bytes ≡ p.bytes = subst (λ (o : Option (List ℕ)). IsKnown o bytes) held_is known in
    let at : set_page_at p.bytes ≡ Some p.page = set_page_only size p.bytes p.page p.spelled in
    record {
      page = p.page;
      read = ap (λ (b : List ℕ). page_if_of set (set_page_at b)) same ∙ ap (page_if_of set) at ∙ ap (λ b. cond b (Some p.page) None) (eq-eqb p.page.set set p.its);
      seen_records = ap records_on p.holds ∙ ap (λ (o : Option SetPageParts). option_map_or (λ (read : SetPageParts). read.records) o []) at;
    }

-- what a page says of a key, in terms of the visible records
abbrev pub Says : List (ℕ × Rec) → List ℕ → ℕ → List ℕ → LocatedInSet → Type 0
Says visible key moment buffer (Hit slot expires) = IsSomeAnd (first_visible visible key) (λ x. (x.0 ≡ slot) × (x.1.value.expires ≡ expires) × (value_at moment x.1.value ≡ Some buffer))
Says visible key moment buffer Expired = IsSomeAnd (first_visible visible key) (λ x. value_at moment x.1.value ≡ None)
Says visible key moment buffer Absent = first_visible visible key ≡ None
Says visible key moment buffer Fault = ⊥
Says visible key moment buffer Damaged = ⊥

says_of : (visible : List (ℕ × Rec)) (key : List ℕ) (moment : ℕ) (buffer : List ℕ) (p : SetPageParts) (told : LocatedInSet) → first_visible visible key ≡ first_with key p.records → SetPageTells key moment buffer (Some p) told →
    Says visible key moment buffer told
says_of visible key moment buffer p (Hit slot expires) first t =
    let P : Option (ℕ × Rec) → Type 0 = λ o. IsSomeAnd o (λ x. (x.0 ≡ slot) × (x.1.value.expires ≡ expires) × (value_at moment x.1.value ≡ Some buffer)) in
    subst P (sym first) t.1
says_of visible key moment buffer p Expired first t =
    let P : Option (ℕ × Rec) → Type 0 = λ o. IsSomeAnd o (λ x. value_at moment x.1.value ≡ None) in
    subst P (sym first) t
says_of visible key moment buffer p Absent first t = first ∙ t
says_of visible key moment buffer p Fault first t = t
says_of visible key moment buffer p Damaged first t = t

says : (size set : ℕ) (seen : Option (List ℕ)) (bytes key : List ℕ) (moment : ℕ) (buffer : List ℕ) (notes : Notes) (told : LocatedInSet) →
    lets_show notes (fnv1a key) ≡ true → ReadsPage size set seen bytes → SetPageTells key moment buffer (page_if_of set (set_page_at bytes)) told →
    Says (visible_from notes 0 (records_on seen)) key moment buffer told
says size set seen bytes key moment buffer notes told shows r t =
    let first : first_visible (visible_from notes 0 (records_on seen)) key ≡ first_with key r.page.records =
    first_visible-shown notes key shows 0 (records_on seen) ∙ ap (λ (rs : List Rec). first_with key rs) r.seen_records in
    let at : SetPageTells key moment buffer (Some r.page) told = subst (λ (o : Option SetPageParts). SetPageTells key moment buffer o told) r.read t in
    says_of (visible_from notes 0 (records_on seen)) key moment buffer r.page told first at

-- what was read of a set that can show a key says of the key what the visible records say
pub told_of : (size count set : ℕ) (held : ℕ → Option (List ℕ)) (bytes key : List ℕ) (moment : ℕ) (buffer : List ℕ) (hash : ℕ) (notes : Notes) (told : LocatedInSet) → hash ≡ fnv1a key → true ≡ lets_show notes hash →
    set < count → (notes.filter ≢ empty → IsPageOf size set (pages_before count held set)) → IsKnown (held set) bytes → SetPageTells key moment buffer (page_if_of set (set_page_at bytes)) told →
    Says (visible_from notes 0 (records_on (pages_before count held set))) key moment buffer told
told_of size count set held bytes key moment buffer hash notes told hashed shows within paged known t =
    let has_bit = some_bit notes.filter hash (and_parts _ _ (sym shows)).0 in
    let r = reads_page size count set held bytes within (paged has_bit) known in
    says size set (pages_before count held set) bytes key moment buffer notes told (sym (shows ∙ ap (lets_show notes) hashed)) r t

-- what is said of a live record, the first of a page with the key
pub tells_hit : (key : List ℕ) (moment : ℕ) (buffer : List ℕ) (slot : ℕ) (p : SetPageParts) (r : Rec) (read : Option SetPageParts) → Some p ≡ read → length p.records ≤ max_set_records →
    first_with key p.records ≡ Some (slot, r) → value_at moment r.value ≡ Some buffer → SetPageTells key moment buffer read (Hit slot r.value.expires)
tells_hit key moment buffer slot p r read is few found gives =
    let within : slot < max_set_records = omega (arith, first_within key 0 p.records (slot, r) found, few) in
    let P : Option (ℕ × Rec) → Type 0 = λ o. IsSomeAnd o (λ x. (x.0 ≡ slot) × (x.1.value.expires ≡ r.value.expires) × (value_at moment x.1.value ≡ Some buffer)) in
    let told : SetPageTells key moment buffer (Some p) (Hit slot r.value.expires) = (within, subst P (sym found) (refl, refl, gives)) in
    subst (λ (o : Option SetPageParts). SetPageTells key moment buffer o (Hit slot r.value.expires)) is told

-- what is said of one that has expired
pub tells_expired : (key : List ℕ) (moment : ℕ) (buffer : List ℕ) (slot : ℕ) (p : SetPageParts) (r : Rec) (read : Option SetPageParts) → Some p ≡ read →
    first_with key p.records ≡ Some (slot, r) → value_at moment r.value ≡ None → SetPageTells key moment buffer read Expired
tells_expired key moment buffer slot p r read is found gone =
    let P : Option (ℕ × Rec) → Type 0 = λ o. IsSomeAnd o (λ x. value_at moment x.1.value ≡ None) in
    let told : SetPageTells key moment buffer (Some p) Expired = subst P (sym found) gone in
    subst (λ (o : Option SetPageParts). SetPageTells key moment buffer o Expired) is told

-- no record is visible if the filter has no bit
pub visible_from-empty : (notes : Notes) → notes.filter ≡ empty → (slot : ℕ) (rs : List Rec) → visible_from notes slot rs ≡ []
visible_from-empty notes none slot [] = refl
visible_from-empty notes none slot (r ∷ rs) =
    ap (λ b. cond b ((slot, r) ∷ visible_from notes (slot + 1) rs) (visible_from notes (slot + 1) rs)) (lets_show-empty notes (fnv1a r.key) none)
    ∙ visible_from-empty notes none (slot + 1) rs

-- a set's page that was read has the records that are known
pub records_read : (size set : ℕ) (seen : Option (List ℕ)) (bytes : List ℕ) (p : SetPageParts) → ReadsPage size set seen bytes → Some p ≡ page_if_of set (set_page_at bytes) → p.records ≡ records_on seen
records_read size set seen bytes p r e =
    ap (λ (o : Option SetPageParts). option_map_or (λ (read : SetPageParts). read.records) o []) (e ∙ r.read) ∙ sym r.seen_records

-- a set's page that is known is read
pub some_read : (size set : ℕ) (seen : Option (List ℕ)) (bytes : List ℕ) → ReadsPage size set seen bytes → None ≡ page_if_of set (set_page_at bytes) → ⊥
some_read size set seen bytes r e = let both : None ≡ Some r.page = e ∙ r.read in cc

-- a set's page that holds the text of some records has these records
pub written_records : (size old count set : ℕ) (held : ℕ → Option (List ℕ)) (bytes : List ℕ) (p : SetPageParts) → count ≡ old → set < old → held set ≡ Some bytes → SpellsSetPage size bytes p →
    records_on (pages_before count held set) ≡ p.records
written_records size old count set held bytes p same within holds spelled =
    ap records_on (before_is count set held (subst (λ n. set < n) (sym same) within) ∙ holds)
    ∙ ap (λ (o : Option SetPageParts). option_map_or (λ (read : SetPageParts). read.records) o []) (set_page_only size bytes p spelled)
