-- What the rows say, of pages that are spelled and of entries that are left.
use Rattle.std.proofs.Common.{◌≡◌, ◌≢◌, ℕ, ◌+◌, ◌-◌, ◌<◌, ◌≤◌, true, not, List, [], ◌∷◌, ◌++◌, length, take, replicate, get_or, codes, Option, Some, None, inl, inr, slice_get, refl, sym, ap, subst, ◌∙◌, arith}
use Rattle.std.specs.Prelude.{IfSome, nat_le}
use Rattle.std.specs.Int.{w16, w32, w64, to_be_bytes}
use Rattle.std.specs.List.{flat_map}
use Rattle.std.proofs.lemmas.Bool.{and_from, and_parts, eq-eqb, leb-true, not-true, both_ways}
use Rattle.std.proofs.lemmas.List.{length-append, length-replicate, get_or-append_right, get_or-replicate}
use Rattle.std.proofs.lemmas.List.Elements.{All-contains, All-filter, All-weaker, filter_passes}
use Rattle.std.proofs.lemmas.List.Sums.{sum_by-cons}
use Rattle.std.proofs.lemmas.Option.{get_or_from_slice_get, slice_get_read, slice_get_within}
use Rattle.record_pages.specs.Sizes.{room}
use Rattle.record_pages.specs.Recs.{Rec, size, sizes, fit_log}
use Rattle.record_pages.specs.PageText.{padded_to, records_text, set_text, SetPageParts, SpellsSetPage}
use Rattle.klog_index.specs.declared.entry.Entry.{Entry}
use Rattle.klog_index.specs.declared.place.Place.{Place}
use Rattle.klog_index.specs.Entries.{IsFree, is_at, is_of, is_of_any, of_set, without}
use Rattle.klog_index.specs.First.{FindsFirst}

-- ---- pages

-- texts that are each no longer than their record's size are together no longer than the sizes
texts_short : (text : Rec → List ℕ) → ((r : Rec) → length (text r) ≤ size r) → (rs : List Rec) → length (flat_map text rs) ≤ sizes rs
texts_short text short [] = omega arith
texts_short text short (r ∷ rs) = omega (arith, texts_short text short rs, length-append (text r) (flat_map text rs), short r, sum_by-cons size r rs)

-- a text of a head, a count and the texts of records ends within 18 bytes and their sizes, and zeros follow
zero_after : (texts : List ℕ) (magic bytes set write : ℕ) (rs : List Rec) → length texts ≤ sizes rs → (at : ℕ) → 18 + sizes rs ≤ at → at < bytes
    → slice_get (padded_to bytes ((to_be_bytes w32 magic ++ (to_be_bytes w32 set ++ to_be_bytes w64 write)) ++ (to_be_bytes w16 (length rs) ++ texts))) at ≡ Some 0
zero_after texts magic bytes set write rs few at after within =
    let text = (to_be_bytes w32 magic ++ (to_be_bytes w32 set ++ to_be_bytes w64 write)) ++ (to_be_bytes w16 (length rs) ++ texts) in
    let zeros : List ℕ = replicate (bytes - length text) 0 in
    let short : length text ≤ at = omega (arith, after, few) in
    let inside : at < length (text ++ zeros) = omega (arith, short, within, length-append text zeros, length-replicate {A = ℕ} (bytes - length text) 0) in
    let zero : 0 ≡ get_or (text ++ zeros) at 0 = sym (get_or-append_right text zeros (length text) at 0 refl short ∙ get_or-replicate (bytes - length text) (at - length text) 0 0 (omega (arith, short, within))) in
    slice_get_read (text ++ zeros) (length (text ++ zeros)) at 0 refl inside zero

-- the texts of a record that says its expiry, and of one that does not
abbrev timed_text : Rec → List ℕ
timed_text r = (length r.key ∷ []) ++ (to_be_bytes w16 (length r.value.value) ++ ((r.pred ∷ []) ++ (to_be_bytes w64 r.value.expires ++ (r.key ++ r.value.value))))

abbrev lasting_text : Rec → List ℕ
lasting_text r = (length r.key ∷ []) ++ (to_be_bytes w16 (length r.value.value) ++ ((r.pred ∷ []) ++ (r.key ++ r.value.value)))

timed_short : (rs : List Rec) → length (flat_map timed_text rs) ≤ sizes rs
timed_short rs = texts_short timed_text (λ r. omega (arith, length-append r.key r.value.value)) rs

lasting_short : (rs : List Rec) → length (flat_map lasting_text rs) ≤ sizes rs
lasting_short rs = texts_short lasting_text (λ r. omega (arith, length-append r.key r.value.value)) rs

-- only zeros stand after the records of a page
zeros_after : (bytes : ℕ) (page : List ℕ) (p : SetPageParts) → SpellsSetPage bytes page p → (at : ℕ) → 18 + sizes p.records ≤ at → at < bytes → slice_get page at ≡ Some 0
unfolding set_text records_text
zeros_after bytes page p (inl s) at after within =
    ap (λ (x : List ℕ). slice_get x at) s.text ∙ zero_after (flat_map timed_text p.records) 0x4b53_4532 bytes p.set p.write p.records (timed_short p.records) at after within
zeros_after bytes page p (inr (inl s)) at after within =
    ap (λ (x : List ℕ). slice_get x at) s.text ∙ zero_after (flat_map timed_text p.records) 0x4b53_4531 bytes p.set p.write p.records (timed_short p.records) at after within
zeros_after bytes page p (inr (inr s)) at after within =
    ap (λ (x : List ℕ). slice_get x at) s.text ∙ zero_after (flat_map lasting_text p.records) 0x4b53_4554 bytes p.set p.write p.records (lasting_short p.records) at after within

pub zeros_at_the_end : (bytes : ℕ) (page : List ℕ) (found : Option SetPageParts) → IfSome found (SpellsSetPage bytes page) → IfSome found (λ p. (at : ℕ) → 18 + sizes p.records ≤ at → at < bytes → slice_get page at ≡ Some 0)
zeros_at_the_end bytes page None spelled = tt
zeros_at_the_end bytes page (Some p) spelled = zeros_after bytes page p spelled

-- a page that does not begin with KSE2 has 64 records at most
pub at_most_64 : (bytes : ℕ) (page : List ℕ) (found : Option SetPageParts) → IfSome found (SpellsSetPage bytes page) → take 4 page ≢ codes "KSE2" → IfSome found (λ p. length p.records ≤ 64)
unfolding set_text
at_most_64 bytes page None spelled older = tt
at_most_64 bytes page (Some p) (inl s) older = absurd (older (ap (take 4) s.text))
at_most_64 bytes page (Some p) (inr (inl s)) older = s.lawful.few
at_most_64 bytes page (Some p) (inr (inr s)) older = s.lawful.few

-- no 65th record fits on a log page
pub no_65th : (bytes : ℕ) (rs : List Rec) (r : Rec) → length rs ≡ 64 → fit_log bytes (rs ++ r ∷ []) ≡ true → ⊥
no_65th bytes rs r full fits =
    let more = rs ++ r ∷ [] in
    let few = leb-true (length more) 64 (and_parts (nat_le (sizes more) (room bytes)) (nat_le (length more) 64) fits).1 in
    omega (arith, full, few, length-append rs (r ∷ []))

-- ---- entries

at_place : (place : Place) (e : Entry) → e.place ≡ place → is_at place e ≡ true
at_place place e same =
    let p = e.place in
    subst (λ (q : Place). is_at q e ≡ true) same (and_from _ _ (and_from _ _ (eq-eqb p.segment p.segment refl) (eq-eqb p.page p.page refl)) (eq-eqb p.slot p.slot refl))

-- a place is free if the entries at it were dropped
pub free_without : (place : Place) (es : List Entry) → IsFree place (without (is_at place) es)
free_without place es =
    All-weaker (λ e. not (is_at place e) ≡ true) (λ e. e.place ≢ place) (λ e kept same. both_ways (is_at place e) (not-true (is_at place e) kept) (at_place place e same)) (without (is_at place) es) (filter_passes (λ e. not (is_at place e)) es)

met : (place : Place) (es : List Entry) (found : Option Entry) (skip : ℕ) → IsFree place es → slice_get es skip ≡ found → IfSome found (λ e. e.place ≢ place)
met place es None skip free at = tt
met place es (Some e) skip free at = subst (λ (x : Entry). x.place ≢ place) (get_or_from_slice_get es skip e e at) (free skip e (slice_get_within es skip e at))

-- so a walk along a set meets none at it
pub met_of_set : (place : Place) (set skip : ℕ) (es : List Entry) → IfSome (slice_get (of_set set (without (is_at place) es)) skip) (λ e. e.place ≢ place)
met_of_set place set skip es =
    let left = of_set set (without (is_at place) es) in
    met place left (slice_get left skip) skip (All-filter (is_of set) (λ e. e.place ≢ place) (without (is_at place) es) (free_without place es)) refl

-- nor does one along all entries
pub met_of_all : (place : Place) (segment : ℕ) (sets : List ℕ) (es : List Entry) (found : Option Entry) → FindsFirst segment (without (is_of_any sets) (without (is_at place) es)) found → IfSome found (λ e. e.place ≢ place)
met_of_all place segment sets es None finds = tt
met_of_all place segment sets es (Some e) finds =
    let left = without (is_of_any sets) (without (is_at place) es) in
    All-contains (λ x. x.place ≢ place) left e (All-filter (λ x. not (is_of_any sets x)) (λ x. x.place ≢ place) (without (is_at place) es) (free_without place es)) finds.listed
