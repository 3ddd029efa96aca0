-- What is noted of a page, one record after the other.
use Rattle.std.proofs.Common.{◌≡◌, ℕ, ◌+◌, true, false, not, ◌&&◌, cond, List, [], ◌∷◌, ◌++◌, map, refl, sym, ap, ◌∙◌, append-nil, append_assoc}
use Rattle.std.specs.List.{enumerate_from}
use Rattle.std.specs.Ordering.{nat_cmp}
use Rattle.std.specs.FinSet.{FinSet, empty, contains, contains-empty}
use Rattle.bloom.specs.Filter.{with_bits, filter_of, admits}
use Rattle.bloom.proofs.public_laws.FilterLaws.{filter_of-push, admits-added, admits-kept}
use Rattle.set_hash.specs.Fnv.{fnv1a}
use Rattle.set_hash.specs.Place.{probes_of}
use Rattle.record_pages.specs.Recs.{Rec}
use Rattle.kset.specs.Notes.{Notes, no_notes, lets_show, notes_of_page}
use Rattle.kset.specs.Shown.{visible_from}

-- the bits that a record asks for
abbrev pub asks : Rec → List ℕ
asks r = probes_of (fnv1a r.key)

-- a record's bits join the filter
abbrev pub with_record : Notes → Rec → Notes
with_record notes r = record notes { filter = with_bits notes.filter (asks r) }

-- the bits of these records join the filter
abbrev pub with_all : Notes → List Rec → Notes
with_all notes [] = notes
with_all notes (r ∷ rs) = with_all (with_record notes r) rs

map-push : (rs : List Rec) (r : Rec) → map asks (rs ++ r ∷ []) ≡ map asks rs ++ asks r ∷ []
map-push [] r = refl
map-push (x ∷ rs) r = ap (λ (xs : List (List ℕ)). asks x ∷ xs) (map-push rs r)

-- a page and one record more
notes_of_page-push : (rs : List Rec) (r : Rec) → with_record (notes_of_page rs) r ≡ notes_of_page (rs ++ r ∷ [])
notes_of_page-push rs r =
    let same : with_bits (filter_of (map asks rs)) (asks r) ≡ filter_of (map asks (rs ++ r ∷ [])) =
    filter_of-push (map asks rs) (asks r) ∙ ap filter_of (sym (map-push rs r)) in
    let with_filter : FinSet nat_cmp → Notes = λ f. record { filter = f; strikes = empty; hits = empty } in
    ap with_filter same

with_all_from : (rs more : List Rec) → with_all (notes_of_page rs) more ≡ notes_of_page (rs ++ more)
with_all_from rs [] = ap notes_of_page (sym (append-nil rs))
with_all_from rs (r ∷ more) =
    ap (λ (n : Notes). with_all n more) (notes_of_page-push rs r) ∙ with_all_from (rs ++ r ∷ []) more
    ∙ ap notes_of_page (append_assoc rs (r ∷ []) more)

-- from nothing, the records of a page give what is noted of the page
pub with_all-none : (rs : List Rec) → with_all no_notes rs ≡ notes_of_page rs
with_all-none rs = with_all_from [] rs

-- what a filter admits it admits with more records
admits-with_all : (notes : Notes) (rs : List Rec) (probes : List ℕ) → admits notes.filter probes ≡ true → admits (with_all notes rs).filter probes ≡ true
admits-with_all notes [] probes is = is
admits-with_all notes (r ∷ rs) probes is = admits-with_all (with_record notes r) rs probes (admits-kept notes.filter (asks r) probes is)

strikes-with_all : (notes : Notes) (rs : List Rec) → (with_all notes rs).strikes ≡ notes.strikes
strikes-with_all notes [] = refl
strikes-with_all notes (r ∷ rs) = strikes-with_all (with_record notes r) rs

-- if nothing is struck each record that joined the filter shows
visible_from-with_all : (notes : Notes) (slot : ℕ) (rs : List Rec) → notes.strikes ≡ empty → visible_from (with_all notes rs) slot rs ≡ enumerate_from slot rs
visible_from-with_all notes slot [] none = refl
visible_from-with_all notes slot (r ∷ rs) none =
    let final = with_all (with_record notes r) rs in
    let admitted : admits final.filter (asks r) ≡ true = admits-with_all (with_record notes r) rs (asks r) (admits-added notes.filter (asks r)) in
    let struck : contains final.strikes (fnv1a r.key) ≡ false =
    ap (λ (s : FinSet nat_cmp). contains s (fnv1a r.key)) (strikes-with_all (with_record notes r) rs ∙ none) ∙ contains-empty nat_cmp (fnv1a r.key) in
    let shows : lets_show final (fnv1a r.key) ≡ true = ap (λ b. b && not (contains final.strikes (fnv1a r.key))) admitted ∙ ap not struck in
    ap (λ b. cond b ((slot, r) ∷ visible_from final (slot + 1) rs) (visible_from final (slot + 1) rs)) shows
    ∙ ap (λ (xs : List (ℕ × Rec)). (slot, r) ∷ xs) (visible_from-with_all (with_record notes r) (slot + 1) rs none)

-- of a page that was just written each record is visible
pub visible_from-page : (notes : Notes) (found rs : List Rec) → notes ≡ notes_of_page rs → found ≡ rs → visible_from notes 0 found ≡ enumerate_from 0 rs
visible_from-page notes found rs noted same =
    ap (λ (n : Notes). visible_from n 0 found) (noted ∙ sym (with_all-none rs)) ∙ ap (visible_from (with_all no_notes rs) 0) same
    ∙ visible_from-with_all no_notes 0 rs refl
