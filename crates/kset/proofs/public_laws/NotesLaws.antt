-- Filters, strikes and hits as sets of numbers.
use Rattle.std.proofs.Common.{◌≡◌, ◌≢◌, ℕ, ◌<◌, Bool, true, false, ◌&&◌, ◌||◌, not, cond, [], ◌∷◌, refl, sym, ap, ◌∙◌}
use Rattle.std.proofs.lemmas.Bool.{false≢true, and_parts, eq-eqb}
use Rattle.std.specs.List.{list_all}
use Rattle.std.specs.Ordering.{nat_cmp}
use Rattle.std.proofs.Math.ListN.{set}
use Rattle.std.proofs.lemmas.List.{get_or-set_same}
use Rattle.std.specs.FinSet.{FinSet, empty, contains, insert, contains-empty}
use Rattle.bloom.specs.Filter.{admits}
use Rattle.record_pages.proofs.public_laws.PassingLaws.{contains-insert_nat}
use Rattle.set_hash.specs.Place.{probes_of, probe_of}
use Rattle.kset.specs.Notes.{Notes, no_notes, lets_show, struck}
use Rattle.entry_pool.specs.Struck.{can_strike}
use Rattle.kset.specs.Sets.{SetsState, set_count, notes_of, with_notes, has_place, struck_in}

-- a filter that admits a hash has a bit
pub some_bit : (filter : FinSet nat_cmp) (hash : ℕ) → admits filter (probes_of hash) ≡ true → filter ≢ empty
some_bit filter hash is none =
    let first : contains filter (probe_of hash 0) ≡ true = (and_parts (contains filter (probe_of hash 0)) _ is).0 in
    false≢true (sym (contains-empty nat_cmp (probe_of hash 0)) ∙ ap (λ (s : FinSet nat_cmp). contains s (probe_of hash 0)) (sym none) ∙ first)

-- a filter with no bit admits nothing
pub admits-empty : (hash : ℕ) → admits empty (probes_of hash) ≡ false
admits-empty hash =
    let others = list_all (contains {R = nat_cmp} empty) (probe_of hash 1 ∷ probe_of hash 2 ∷ probe_of hash 3 ∷ []) in
    ap (λ b. b && others) (contains-empty nat_cmp (probe_of hash 0))

-- nothing shows in a set with no filter bit
pub lets_show-empty : (notes : Notes) (hash : ℕ) → notes.filter ≡ empty → lets_show notes hash ≡ false
lets_show-empty notes hash none =
    ap (λ (filter : FinSet nat_cmp). admits filter (probes_of hash) && not (contains notes.strikes hash)) none
    ∙ ap (λ b. b && not (contains notes.strikes hash)) (admits-empty hash)

and-false : (a : Bool) → (a && false) ≡ false
and-false true = refl
and-false false = refl

-- a struck hash does not show
pub struck-hidden : (free : Bool) (notes : Notes) (hash : ℕ) → lets_show (struck free notes hash) hash ≡ false
struck-hidden free notes hash =
    let added : Notes = record notes { strikes = insert notes.strikes hash } in
    let there : contains (insert notes.strikes hash) hash ≡ true = contains-insert_nat notes.strikes hash hash ∙ ap (λ b. b || contains notes.strikes hash) (eq-eqb hash hash refl) in
    elim (admits notes.filter (probes_of hash)) as (λ v. admits notes.filter (probes_of hash) ≡ v →
    lets_show (cond (not v) notes (cond (can_strike free notes.strikes hash) added no_notes)) hash ≡ false) [
      | true ↦ λ _. elim (can_strike free notes.strikes hash) as (λ v. lets_show (cond v added no_notes) hash ≡ false) [
        | true ↦ ap (λ b. admits notes.filter (probes_of hash) && not b) there ∙ and-false _
        | false ↦ lets_show-empty no_notes hash refl
      ]
      | false ↦ λ is. ap (λ b. b && not (contains notes.strikes hash)) is
    ] refl

-- what is noted of a set if something else is noted
pub notes_of-with : (k : SetsState) (set : ℕ) (notes : Notes) → set < set_count k → notes_of (with_notes k set notes) set ≡ notes
notes_of-with k set notes within = get_or-set_same k.notes set notes no_notes within

-- a hash that is struck in a set does not show there
pub hidden_in : (k : SetsState) (set hash : ℕ) → set < set_count k → lets_show (notes_of (struck_in k set hash) set) hash ≡ false
hidden_in k set hash within =
    ap (λ (n : Notes). lets_show n hash) (notes_of-with k set (struck (has_place k) (notes_of k set) hash) within) ∙ struck-hidden (has_place k) (notes_of k set) hash
