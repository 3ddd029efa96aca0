-- What memory notes of one set.
use Rattle.std.specs.Prelude.{ℕ, ◌&&◌, not, Bool, List, map, if◌then◌else◌, refl}
use Rattle.std.specs.Coded.{Coded, code_by, coded×, coded_ℕ}
use Rattle.std.specs.Ordering.{nat_cmp}
use Rattle.std.specs.FinSet.{FinSet, empty, contains, insert, code}
use Rattle.bloom.specs.Filter.{admits, filter_of}
use Rattle.set_hash.specs.Fnv.{fnv1a}
use Rattle.set_hash.specs.Place.{probes_of}
use Rattle.record_pages.specs.Recs.{Rec}
use Rattle.entry_pool.specs.Struck.{can_strike}

-- the bits of its filter, the hashes that were struck since its page was written, and the slots that were hit since then
pub record Notes : Type 0 where
  pub filter : FinSet nat_cmp
  pub strikes : FinSet nat_cmp
  pub hits : FinSet nat_cmp

-- notes are stored as their three sets
abbrev pub notes_code : Coded Notes
notes_code =
    code_by (FinSet nat_cmp × (FinSet nat_cmp × FinSet nat_cmp)) (coded× (code coded_ℕ) (coded× (code coded_ℕ) (code coded_ℕ)))
    (λ n. (n.filter, (n.strikes, n.hits))) (λ p. record { filter = p.0; strikes = p.1.0; hits = p.1.1 }) (λ _. refl)

-- nothing is noted, so no key is in the set
abbrev pub no_notes : Notes
no_notes = record { filter = empty; strikes = empty; hits = empty }

-- a key with this hash can be in the set: the filter admits it, and it is not struck
abbrev pub lets_show : Notes → ℕ → Bool
lets_show notes hash = admits notes.filter (probes_of hash) && not (contains notes.strikes hash)

-- A strike of a hash, where a place of the lane's pool is free or not. If the filter admits the hash it joins the strikes;
-- if there is no room for it the set is forgotten.
abbrev pub struck : Bool → Notes → ℕ → Notes
struck free notes hash =
    if not (admits notes.filter (probes_of hash)) then notes
    else (if can_strike free notes.strikes hash then record notes { strikes = insert notes.strikes hash }
    else no_notes)

-- the record in a slot was hit
abbrev pub with_hit : Notes → ℕ → Notes
with_hit notes slot = record notes { hits = insert notes.hits slot }

-- a page with these records was written: the filter has just their bits, and nothing is struck or hit
abbrev pub notes_of_page : List Rec → Notes
notes_of_page rs =
    record { filter = filter_of (map (λ (r : Rec). probes_of (fnv1a r.key)) rs); strikes = empty; hits = empty }
