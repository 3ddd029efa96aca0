-- What shows in a set after a call, for the layers above.
use Rattle.std.proofs.Common.{◌≡◌, ◌≢◌, ℕ, ◌<◌, Bool, true, false, ◌&&◌, ◌||◌, not, cond, eqb, zero, suc, List, [], ◌∷◌, filter, replicate, Option, None, Ok, ⊎_elim, refl, sym, ap, subst, ◌∙◌}
use Rattle.std.proofs.lemmas.Bool.{cases_eq, eqb-true, eqb-false}
use Rattle.std.proofs.lemmas.List.{length-set, get_or-set_other}
use Rattle.std.specs.Prelude.{nat_lt, slice_index_or}
use Rattle.std.specs.FinSet.{contains, insert}
use Rattle.bloom.specs.Filter.{admits}
use Rattle.record_pages.proofs.public_laws.PassingLaws.{contains-insert_nat}
use Rattle.page_device.specs.Frames.{pages_before}
use Rattle.set_hash.specs.Fnv.{fnv1a}
use Rattle.set_hash.specs.Place.{probes_of}
use Rattle.record_pages.specs.Recs.{Rec}
use Rattle.kset.specs.declared.set_read.SetRead.{SetRead}
use Rattle.kset.specs.declared.set_read.SetRead.TheVariants.{PageLost}
use Rattle.kset.specs.Notes.{Notes, no_notes, lets_show, struck, with_hit}
use Rattle.entry_pool.specs.Struck.{can_strike}
use Rattle.kset.specs.Sets.{SetsState, set_count, notes_of, with_notes, has_place, struck_in, forgotten, tried, hit_in}
use Rattle.kset.specs.Pages.{page_records, records_on}
use Rattle.kset.specs.Shown.{is_visible, visible_from, visible_in}
use Rattle.kset.specs.After.{with_set, without_hash, after_strike, shown_after_reading}
use Rattle.kset.proofs.public_laws.NotesLaws.{notes_of-with}
use Rattle.kset.proofs.LookLaws.{visible_from-empty}

-- there are as many sets as before if something else is noted of one
pub set_count-with : (k : SetsState) (set : ℕ) (notes : Notes) → set_count (with_notes k set notes) ≡ set_count k
set_count-with k set notes = length-set k.notes set notes

-- nothing else is noted of the other sets
pub notes_of-other : (k : SetsState) (set other : ℕ) (notes : Notes) → other ≢ set → notes_of (with_notes k set notes) other ≡ notes_of k other
notes_of-other k set other notes differs = get_or-set_other k.notes set other notes no_notes differs

-- what shows in a set is settled by its notes, the number of sets and the pages
pub shown_by : (held : ℕ → Option (List ℕ)) (old new : SetsState) (set : ℕ) (notes : Notes) → set_count new ≡ set_count old → notes_of new set ≡ notes →
    visible_in held new set ≡ visible_from notes 0 (page_records held old set)
shown_by held old new set notes counted noted =
    ap (λ (n : Notes). visible_from n 0 (page_records held new set)) noted
    ∙ ap (λ (count : ℕ). visible_from notes 0 (records_on (pages_before count held set))) counted

-- the other sets show what they showed if something else is noted of one
pub shown-other : (held : ℕ → Option (List ℕ)) (k : SetsState) (set other : ℕ) (notes : Notes) → other ≢ set → visible_in held (with_notes k set notes) other ≡ visible_in held k other
shown-other held k set other notes differs =
    shown_by held k (with_notes k set notes) other (notes_of k other) (set_count-with k set notes) (notes_of-other k set other notes differs)

-- the set of which something else is noted shows by what is noted now
pub shown-own : (held : ℕ → Option (List ℕ)) (k : SetsState) (set : ℕ) (notes : Notes) → set < set_count k →
    visible_in held (with_notes k set notes) set ≡ visible_from notes 0 (page_records held k set)
shown-own held k set notes within = shown_by held k (with_notes k set notes) set notes (set_count-with k set notes) (notes_of-with k set notes within)

-- what shows now, if one set shows something else and the others what they showed
pub shown_with : {X : Type 0} (old new : ℕ → X) (set : ℕ) (shows : X) → new set ≡ shows → ((other : ℕ) → other ≢ set → new other ≡ old other) → new ≡ with_set old set shows
shown_with {X} old new set shows own others = λ i other. at other i
  where
    step : (other : ℕ) (b : Bool) → eqb other set ≡ b → new other ≡ cond b shows (old other)
    step other true same = ap new (eqb-true other set same) ∙ own
    step other false differs = others other (eqb-false other set differs)

    at : (other : ℕ) → new other ≡ with_set old set shows other
    at other = step other (eqb other set) refl

-- what shows if something else is noted of one set
shown-with_notes : (held : ℕ → Option (List ℕ)) (k : SetsState) (set : ℕ) (notes : Notes) → set < set_count k →
    visible_in held (with_notes k set notes) ≡ with_set (visible_in held k) set (visible_from notes 0 (page_records held k set))
shown-with_notes held k set notes within =
    shown_with (visible_in held k) (visible_in held (with_notes k set notes)) set (visible_from notes 0 (page_records held k set))
    (shown-own held k set notes within) (λ other differs. shown-other held k set other notes differs)

-- a hit hides nothing and shows nothing
pub shown-hit : (held : ℕ → Option (List ℕ)) (k : SetsState) (set slot : ℕ) → set < set_count k → visible_in held (hit_in k set slot) ≡ visible_in held k
shown-hit held k set slot within = λ i other. at other i
  where
    at : (other : ℕ) → visible_in held (hit_in k set slot) other ≡ visible_in held k other
    at other = ⊎_elim
        (λ same. subst (λ (o : ℕ). visible_in held (hit_in k set slot) o ≡ visible_in held k o) (sym same) (shown-own held k set (with_hit (notes_of k set) slot) within))
        (λ differs. shown-other held k set other (with_hit (notes_of k set) slot) differs)
        (cases_eq other set)

-- when a slot is hit in one set, each shows what it showed
pub shown-hit_on : (was is : ℕ → Option (List ℕ)) (old new : SetsState) (set slot : ℕ) → set < set_count old → is ≡ was → new ≡ hit_in old set slot → visible_in is new ≡ visible_in was old
shown-hit_on was is old new set slot within same hit =
    ap (λ (held : ℕ → Option (List ℕ)). visible_in held new) same ∙ ap (visible_in was) hit ∙ shown-hit was old set slot within

-- a forgotten set shows nothing
pub shown-forgotten : (held : ℕ → Option (List ℕ)) (k : SetsState) (set : ℕ) → set < set_count k → visible_in held (forgotten k set) ≡ with_set (visible_in held k) set []
shown-forgotten held k set within =
    shown-with_notes held k set no_notes within ∙ ap (with_set (visible_in held k) set) (visible_from-empty no_notes refl 0 (page_records held k set))

-- no set shows anything if nothing is noted
pub shown-opening : (held : ℕ → Option (List ℕ)) (k : SetsState) (count set : ℕ) → k.notes ≡ replicate count no_notes → visible_in held k set ≡ []
shown-opening held k count set noted =
    visible_from-empty (notes_of k set) (ap (λ (n : Notes). n.filter) (ap (λ (xs : List Notes). slice_index_or xs set no_notes) noted ∙ none count set)) 0 (page_records held k set)
  where
    none : (count set : ℕ) → slice_index_or (replicate count no_notes) set no_notes ≡ no_notes
    none zero set = refl
    none (suc count) zero = refl
    none (suc count) (suc set) = none count set

filter_again : {X : Type 0} (p q r : X → Bool) → ((x : X) → p x ≡ (q x && r x)) → (xs : List X) → filter p xs ≡ filter r (filter q xs)
filter_again p q r splits [] = refl
filter_again p q r splits (x ∷ xs) =
    let later = filter_again p q r splits xs in
    ap (λ b. cond b (x ∷ filter p xs) (filter p xs)) (splits x)
    ∙ elim (q x) as (λ b. cond (b && r x) (x ∷ filter p xs) (filter p xs) ≡ filter r (cond b (x ∷ filter q xs) (filter q xs))) [
      | true ↦ ap (λ ys. cond (r x) (x ∷ ys) ys) later
      | false ↦ later
    ]

one_more : (admitted struck same : Bool) → (admitted && not (same || struck)) ≡ ((admitted && not struck) && not same)
one_more false struck same = refl
one_more true true true = refl
one_more true true false = refl
one_more true false true = refl
one_more true false false = refl

hidden_before : (visible same : Bool) → (same ≡ true → visible ≡ false) → visible ≡ (visible && not same)
hidden_before false same hides = refl
hidden_before true true hides = hides refl
hidden_before true false hides = refl

-- with one strike more, just the records of that hash are hidden
with_strike : (notes : Notes) (hash slot : ℕ) (rs : List Rec) →
    visible_from (record notes { strikes = insert notes.strikes hash }) slot rs ≡ without_hash hash (visible_from notes slot rs)
with_strike notes hash slot rs =
    filter_again (is_visible (record notes { strikes = insert notes.strikes hash })) (is_visible notes) (λ x. not (eqb (fnv1a x.1.key) hash))
    (λ x.
    ap (λ b. admits notes.filter (probes_of (fnv1a x.1.key)) && not b) (contains-insert_nat notes.strikes hash (fnv1a x.1.key))
    ∙ one_more (admits notes.filter (probes_of (fnv1a x.1.key))) (contains notes.strikes (fnv1a x.1.key)) (eqb (fnv1a x.1.key) hash))
    _

-- if a filter denies a hash no record of that hash shows
without_denied : (notes : Notes) (hash slot : ℕ) (rs : List Rec) → admits notes.filter (probes_of hash) ≡ false →
    visible_from notes slot rs ≡ without_hash hash (visible_from notes slot rs)
without_denied notes hash slot rs denied =
    filter_again (is_visible notes) (is_visible notes) (λ x. not (eqb (fnv1a x.1.key) hash))
    (λ x. hidden_before (is_visible notes x) (eqb (fnv1a x.1.key) hash)
    (λ same.
    ap (lets_show notes) (eqb-true (fnv1a x.1.key) hash same)
    ∙ ap (λ b. b && not (contains notes.strikes hash)) denied))
    _

-- what shows by the notes of a set in which a hash is struck
pub visible_from-struck : (free : Bool) (notes : Notes) (hash slot : ℕ) (rs : List Rec) → visible_from (struck free notes hash) slot rs ≡ after_strike free notes hash (visible_from notes slot rs)
visible_from-struck free notes hash slot rs =
    let added : Notes = record notes { strikes = insert notes.strikes hash } in
    elim (admits notes.filter (probes_of hash)) as (λ v. admits notes.filter (probes_of hash) ≡ v →
    visible_from (cond (not v) notes (cond (can_strike free notes.strikes hash) added no_notes)) slot rs
    ≡ cond (v && not (can_strike free notes.strikes hash)) [] (without_hash hash (visible_from notes slot rs))) [
      | true ↦ λ _. elim (can_strike free notes.strikes hash) as (λ v.
          visible_from (cond v added no_notes) slot rs ≡ cond (not v) [] (without_hash hash (visible_from notes slot rs))) [
            | true ↦ with_strike notes hash slot rs
            | false ↦ visible_from-empty no_notes refl slot rs
          ]
      | false ↦ λ denied. without_denied notes hash slot rs denied
    ] refl

-- what shows when a hash is struck in a set
pub shown-struck : (held : ℕ → Option (List ℕ)) (k : SetsState) (set hash : ℕ) → set < set_count k →
    visible_in held (struck_in k set hash) ≡ with_set (visible_in held k) set (after_strike (has_place k) (notes_of k set) hash (visible_in held k set))
shown-struck held k set hash within =
    shown-with_notes held k set (struck (has_place k) (notes_of k set) hash) within
    ∙ ap (with_set (visible_in held k) set) (visible_from-struck (has_place k) (notes_of k set) hash 0 (page_records held k set))

-- if the page of a set was lost, that one shows nothing
pub shown-lost : (was is : ℕ → Option (List ℕ)) (old new : SetsState) (set : ℕ) (read : SetRead) → set < set_count old → is ≡ was → read ≡ PageLost → new ≡ forgotten old set →
    visible_in is new ≡ shown_after_reading (Ok read) set (visible_in was old)
shown-lost was is old new set read within same lost leaves =
    ap (λ (held : ℕ → Option (List ℕ)). visible_in held new) same
    ∙ ap (visible_in was) leaves
    ∙ shown-forgotten was old set within
    ∙ ap (λ (r : SetRead). shown_after_reading (Ok r) set (visible_in was old)) (sym lost)

-- what shows in a set is settled by the page with its number
visible_at : (was is : ℕ → Option (List ℕ)) (k : SetsState) (set : ℕ) → is set ≡ was set → visible_in is k set ≡ visible_in was k set
visible_at was is k set same = ap (λ (known : Option (List ℕ)). visible_from (notes_of k set) 0 (records_on (cond (nat_lt set (set_count k)) known None))) same

-- the page of a set changed, of which something else is noted: that one shows something else, and no other
pub shown-anew : (was is : ℕ → Option (List ℕ)) (k new : SetsState) (set : ℕ) (notes : Notes) (shows : List (ℕ × Rec)) → new ≡ with_notes (tried k) set notes →
    ((page : ℕ) → page ≢ set → is page ≡ was page) → visible_in is new set ≡ shows → visible_in is new ≡ with_set (visible_in was k) set shows
shown-anew was is k new set notes shows noted elsewhere own =
    shown_with (visible_in was k) (visible_in is new) set shows own
    (λ other differs.
    ap (λ (n : SetsState). visible_in is n other) noted
    ∙ shown-other is (tried k) set other notes differs
    ∙ visible_at was is k other (elsewhere other differs))

-- a set that is forgotten once its page was tried shows nothing
pub shown-refused : (held : ℕ → Option (List ℕ)) (k new : SetsState) (set : ℕ) → set < set_count k → new ≡ forgotten (tried k) set → visible_in held new set ≡ []
shown-refused held k new set within leaves =
    ap (λ (n : SetsState). visible_in held n set) leaves
    ∙ shown-own held (tried k) set no_notes within
    ∙ visible_from-empty no_notes refl 0 (page_records held k set)
