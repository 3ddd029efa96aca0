-- Stamps sorted, each once.
use Rattle.std.proofs.Common.{◌≡◌, ℕ, List, subst, sym}
use Rattle.std.specs.Prelude.{◌==◌, Contains}
use Rattle.std.specs.List.{dedup, flat_map}
use Rattle.std.specs.List.Sorted.{IsPermutation, IsSorted}
use Rattle.std.specs.Ordering.{nat_cmp}
use Rattle.std.proofs.lemmas.List.Kept.{Contains-dedup_nat, Contains-from_dedup}
use Rattle.std.proofs.lemmas.List.Sorted.{Contains-permutation, IsPermutation-sym}
use Rattle.std.proofs.lemmas.Map.Keys.{IsStrictlyIncreasing-dedup}
use Rattle.trace_file.specs.declared.call.Call.{Call}
use Rattle.history_picture.specs.Drawings.{AreCallers, callers_at}
use Rattle.history_picture.specs.Scale.{IsScale, stamps_at}

-- all stamps, sorted and each once, are the scale
pub scaled : (history : List Call) (shown all sorted stamps : List ℕ) → all ≡ flat_map (stamps_at history) shown → IsPermutation all sorted → IsSorted nat_cmp sorted → stamps ≡ dedup (λ x y. x == y) sorted → IsScale history shown stamps
scaled history shown all sorted stamps is p s d = subst (IsScale history shown) (sym d) record {
  rising = IsStrictlyIncreasing-dedup sorted s;
  each = λ stamp has. subst (λ xs. Contains xs stamp) is (Contains-permutation sorted all stamp (IsPermutation-sym all sorted p) (Contains-from_dedup (λ x y. x == y) sorted stamp has));
  all = λ stamp has. Contains-dedup_nat sorted stamp (Contains-permutation all sorted stamp p (subst (λ xs. Contains xs stamp) (sym is) has));
}

-- all callers, sorted and each once, are the rows
pub each_once : (history : List Call) (shown all sorted callers : List ℕ) → all ≡ flat_map (callers_at history) shown → IsPermutation all sorted → IsSorted nat_cmp sorted → callers ≡ dedup (λ x y. x == y) sorted → AreCallers history shown callers
each_once history shown all sorted callers is p s d = subst (AreCallers history shown) (sym d) record {
  rising = IsStrictlyIncreasing-dedup sorted s;
  each = λ caller has. subst (λ xs. Contains xs caller) is (Contains-permutation sorted all caller (IsPermutation-sym all sorted p) (Contains-from_dedup (λ x y. x == y) sorted caller has));
  all = λ caller has. Contains-dedup_nat sorted caller (Contains-permutation all sorted caller p (subst (λ xs. Contains xs caller) (sym is) has));
}
