-- The sets as memory sees them, and what the calls do to that.
use Rattle.std.specs.Prelude.{◌≡◌, ◌<◌, ℕ, ◌+◌, ◌%◌, ◌^◌, Bool, nat_lt, List, [], ◌∷◌, length, replicate, slice_index_or, slice_set, refl}
use Rattle.std.specs.Coded.{Coded, code_by, coded×, coded_ℕ, coded_list}
use Rattle.std.specs.FinSet.{len}
use Rattle.set_hash.specs.Place.{probes_of}
use Rattle.set_hash.specs.declared.placed.Placed.{Placed}
use Rattle.record_pages.specs.Recs.{Rec}
use Rattle.kset.specs.Notes.{Notes, notes_code, no_notes, struck, with_hit, notes_of_page}

-- how many set pages this lane tried to write, modulo 2^64, how many strikes there is room for in all sets together, and
-- what is noted of each set
pub record SetsState : Type 0 where
  pub writes : ℕ
  pub places : ℕ
  pub notes : List Notes

-- the sets are stored as these numbers and that list
abbrev pub sets_code : Coded SetsState
sets_code =
    code_by (ℕ × (ℕ × List Notes)) (coded× coded_ℕ (coded× coded_ℕ (coded_list notes_code))) (λ k. (k.writes, (k.places, k.notes)))
    (λ p. record { writes = p.0; places = p.1.0; notes = p.1.1 }) (λ _. refl)

-- how many sets there are
abbrev pub set_count : SetsState → ℕ
set_count k = length k.notes

-- what is noted of a set
abbrev pub notes_of : SetsState → ℕ → Notes
notes_of k set = slice_index_or k.notes set no_notes

-- something else is noted of one set
abbrev pub with_notes : SetsState → ℕ → Notes → SetsState
with_notes k set notes = record k { notes = slice_set k.notes set notes }

-- this many sets, with room for this many strikes, no filter bit, and no page written so far
abbrev pub opening_sets : ℕ → ℕ → SetsState
opening_sets sets places = record { writes = 0; places = places; notes = replicate sets no_notes }

-- how many hashes are struck in these sets together
abbrev pub strikes_in : List Notes → ℕ
strikes_in [] = 0
strikes_in (n ∷ ns) = len n.strikes + strikes_in ns

-- there is a place for one strike more
abbrev pub has_place : SetsState → Bool
has_place k = nat_lt (strikes_in k.notes) k.places

-- a hash is struck in a set
abbrev pub struck_in : SetsState → ℕ → ℕ → SetsState
struck_in k set hash = with_notes k set (struck (has_place k) (notes_of k set) hash)

-- a set is forgotten: no filter bit, no strike, no hit
abbrev pub forgotten : SetsState → ℕ → SetsState
forgotten k set = with_notes k set no_notes

-- the record in a slot of a set's page is hit
abbrev pub hit_in : SetsState → ℕ → ℕ → SetsState
hit_in k set slot = with_notes k set (with_hit (notes_of k set) slot)

-- the number of the next write: one more than the set pages that were tried before, modulo 2^64
abbrev pub next_write : SetsState → ℕ
next_write k = (k.writes + 1) % 2 ^ 64

-- a write of a set's page was tried
abbrev pub tried : SetsState → SetsState
tried k = record k { writes = next_write k }

-- a set's page was written with these records
abbrev pub written : SetsState → ℕ → List Rec → SetsState
written k set rs = with_notes (tried k) set (notes_of_page rs)

-- the place of a key: one of the sets, and the four bits that its hash asks for
pub record IsPlaceIn (k : SetsState) (at : Placed) : Type 0 where
  pub set : at.set < set_count k
  pub probes : at.probes ≡ probes_of at.hash
