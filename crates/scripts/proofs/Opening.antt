-- A lane over a blank device is the empty lane of its configuration.
use Rattle.std.proofs.Common.{◌≡◌, ℕ, zero, suc, false, List, [], ◌∷◌, replicate, slice_index_or, ◌+◌, ◌*◌, Option, refl, ap, ◌∙◌}
use Rattle.std.specs.Ordering.{nat_cmp}
use Rattle.std.specs.FinSet.{contains-empty}
use Rattle.record_pages.specs.Recs.{Rec}
use Rattle.record_pages.specs.declared.config.Config.{Config}
use Rattle.record_pages.specs.declared.layout.Layout.{Layout}
use Rattle.record_pages.specs.Asked.{HasNumbersOf}
use Rattle.set_hash.specs.Fnv.{fnv1a}
use Rattle.set_hash.specs.Place.{probe_of}
use Rattle.kset.specs.Notes.{no_notes, lets_show}
use Rattle.kset.specs.Sets.{opening_sets}
use Rattle.kset.specs.Pages.{page_records}
use Rattle.kset.specs.Shown.{visible_from, visible_in}
use Rattle.mover.specs.Store.{opening}
use Rattle.scripts.specs.Own.{Pages, seen_of, held_by, opened_by}

none_shows : (hash : ℕ) → lets_show no_notes hash ≡ false
none_shows hash = rw (contains-empty nat_cmp (probe_of hash 0)) refl

none_visible : (slot : ℕ) (rs : List Rec) → visible_from no_notes slot rs ≡ []
none_visible slot [] = refl
none_visible slot (r ∷ rs) = rw (none_shows (fnv1a r.key)) (none_visible (slot + 1) rs)

nothing_noted : (sets set : ℕ) → slice_index_or (replicate sets no_notes) set no_notes ≡ no_notes
nothing_noted zero set = refl
nothing_noted (suc sets) zero = refl
nothing_noted (suc sets) (suc set) = nothing_noted sets set

-- if nothing was written nothing is visible
nothing_visible : (held : ℕ → Option (List ℕ)) (sets strikes set : ℕ) → visible_in held (opening_sets sets strikes) set ≡ []
nothing_visible held sets strikes set =
    ap (λ notes. visible_from notes 0 (page_records held (opening_sets sets strikes) set)) (nothing_noted sets set)
    ∙ none_visible 0 (page_records held (opening_sets sets strikes) set)

blank : (held : ℕ → Option (List ℕ)) (sets strikes : ℕ) → visible_in held (opening_sets sets strikes) ≡ (λ set. [])
blank held sets strikes = λ i set. nothing_visible held sets strikes set i

pub opens : (layout : Layout) (config : Config) (pages : Pages) → HasNumbersOf layout config → seen_of (record { store = opening layout pages; lane = 0; calls = [] }) ≡ opened_by config
opens layout config pages has =
    rw (has.lanes, has.sets, has.memory, has.segments, has.segment_pages, has.entries, has.threshold, has.admit)
    (ap (λ visible. record (opened_by config) { lane = record (opened_by config).lane { visible = visible } }) (blank (held_by pages) config.sets (8 * config.sets)))
