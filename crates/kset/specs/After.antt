-- What shows in the sets after a call.
use Rattle.std.specs.Prelude.{◌≡◌, ℕ, ◌==◌, ◌&&◌, not, Bool, List, [], filter, Option, None, Result, Ok, Err, IsSomeAnd, if◌then◌else◌}
use Rattle.std.specs.List.{enumerate_from}
use Rattle.std.specs.declared.alloc.AllocError.{AllocError}
use Rattle.bloom.specs.Filter.{admits}
use Rattle.entry_pool.specs.Struck.{can_strike}
use Rattle.set_hash.specs.Fnv.{fnv1a}
use Rattle.set_hash.specs.Place.{probes_of}
use Rattle.record_pages.specs.Recs.{Rec}
use Rattle.record_pages.specs.Reading.{set_page_at}
use Rattle.kset.specs.declared.rewritten.Rewritten.{Rewritten}
use Rattle.kset.specs.declared.rewritten.Rewritten.TheVariants as answers
use Rattle.kset.specs.declared.set_read.SetRead.{SetRead}
use Rattle.kset.specs.declared.set_read.SetRead.TheVariants as reads
use Rattle.kset.specs.Notes.{Notes}
use Rattle.kset.specs.Telling.{page_if_of}

-- one set shows something else
abbrev pub with_set : {X : Type 0} → (ℕ → X) → ℕ → X → ℕ → X
with_set visible set shows = λ other. if other == set then shows else visible other

-- A strike of this hash forgets the set: the filter admits it, and there is no room for it.
abbrev pub is_forgetting : Bool → Notes → ℕ → Bool
is_forgetting free notes hash = admits notes.filter (probes_of hash) && not (can_strike free notes.strikes hash)

-- those of these records whose key has another hash
abbrev pub without_hash : ℕ → List (ℕ × Rec) → List (ℕ × Rec)
without_hash hash visible = filter (λ x. not (fnv1a x.1.key == hash)) visible

-- what still shows of these records once a hash is struck: nothing if that forgets the set, otherwise all with other hashes
abbrev pub after_strike : Bool → Notes → ℕ → List (ℕ × Rec) → List (ℕ × Rec)
after_strike free notes hash visible = if is_forgetting free notes hash then [] else without_hash hash visible

-- what shows in each set once one of them was read: nothing in that one if its page was lost, otherwise the same
abbrev pub shown_after_reading : Result SetRead AllocError → ℕ → (ℕ → List (ℕ × Rec)) → ℕ → List (ℕ × Rec)
shown_after_reading (Ok reads.PageLost) set visible = with_set visible set []
shown_after_reading (Ok (reads.Records rs)) set visible = visible
shown_after_reading (Err e) set visible = visible

-- what shows in each set once one of them was to be written with these records: just these, or nothing
abbrev pub shown_after_rewriting : Rewritten → ℕ → List Rec → (ℕ → List (ℕ × Rec)) → ℕ → List (ℕ × Rec)
shown_after_rewriting answers.Written set rs visible = with_set visible set (enumerate_from 0 rs)
shown_after_rewriting answers.Forgotten set rs visible = with_set visible set []

-- the bytes of a page are known, and they are no page of this set
abbrev pub IsForeign : ℕ → Option (List ℕ) → Type 0
IsForeign set known = IsSomeAnd known (λ bytes. page_if_of set (set_page_at bytes) ≡ None)
