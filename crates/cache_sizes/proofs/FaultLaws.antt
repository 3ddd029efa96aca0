-- Laws on which fault is the first.
use Rattle.std.proofs.Common.{◌≡◌, ◌<◌, ◌≤◌, [], ◌∷◌, Option, Some, None, option_map, find, refl, ap, ◌∙◌}
use Rattle.std.specs.Option.{option_or}
use Rattle.std.proofs.lemmas.Bool.{lt-ltb, le-ltb}
use Rattle.std.proofs.lemmas.List.Folds.{find-append}
use Rattle.cache_sizes.specs.declared.wanted.Wanted.{Wanted}
use Rattle.cache_sizes.specs.declared.size_fault.SizeFault.{SizeFault}
use Rattle.cache_sizes.specs.declared.size_fault.SizeFault.TheVariants.{MemoryTooSmall}
use Rattle.cache_sizes.specs.Wanting.{least_memory_for}
use Rattle.cache_sizes.specs.Faults.{Cause, cause, memory_cause, range_causes, first_of_causes, first_range_fault, first_size_fault}

-- what is made of the first of two options is the first that is made
map-or : (f : Cause → SizeFault) (a b : Option Cause) → option_map f (option_or a b) ≡ option_or (option_map f a) (option_map f b)
map-or f None b = refl
map-or f (Some x) b = refl

-- the first fault is that of single numbers, or that of memory
pub first-or : (w : Wanted) → first_size_fault w ≡ option_or (first_range_fault w) (first_of_causes (memory_cause w ∷ []))
unfolding first_range_fault first_size_fault
first-or w =
    ap (option_map (λ c. c.fault)) (find-append (λ c. c.is_there) (range_causes w) (memory_cause w ∷ []))
    ∙ map-or (λ c. c.fault) (find (λ c. c.is_there) (range_causes w)) (find (λ c. c.is_there) (memory_cause w ∷ []))

-- a fault of single numbers is the first
pub first_is_range : (w : Wanted) (fault : SizeFault) → first_range_fault w ≡ Some fault → first_size_fault w ≡ Some fault
first_is_range w fault e = first-or w ∙ ap (λ o. option_or o (first_of_causes (memory_cause w ∷ []))) e

-- without one, too little memory is
pub first_is_memory : (w : Wanted) → first_range_fault w ≡ None → w.memory_bytes < least_memory_for w → first_size_fault w ≡ Some MemoryTooSmall
first_is_memory w e h =
    first-or w ∙ ap (λ o. option_or o (first_of_causes (memory_cause w ∷ []))) e
    ∙ ap (λ b. first_of_causes (cause MemoryTooSmall b ∷ [])) (lt-ltb w.memory_bytes (least_memory_for w) h)

-- and with enough of it there is none
pub none_is_first : (w : Wanted) → first_range_fault w ≡ None → least_memory_for w ≤ w.memory_bytes → first_size_fault w ≡ None
none_is_first w e h =
    first-or w ∙ ap (λ o. option_or o (first_of_causes (memory_cause w ∷ []))) e
    ∙ ap (λ b. first_of_causes (cause MemoryTooSmall b ∷ [])) (le-ltb w.memory_bytes (least_memory_for w) h)
