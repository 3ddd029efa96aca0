-- Choosing the nearest.
use Rattle.std.proofs.Common.{◌≡◌, ℕ, zero, suc, ◌+◌, ◌^◌, ◌<◌, ◌≤◌, List, [], ◌∷◌, ◌++◌, ◌⊎◌, inl, inr, refl, sym, ap, subst, ◌∙◌, arith, length, take, get_or, Some, length-take, min}
use Rattle.std.specs.Prelude.{◌≢◌, All, AllPairs, Contains, IsSomeAnd, slice_get, ◌==◌}
use Rattle.std.specs.Cmp.{nat_eq_equiv}
use Rattle.std.specs.List.Sorted.{IsPermutation, IsNonDecreasingBy}
use Rattle.std.proofs.lemmas.Bool.Decides.{Decides-eqb}
use Rattle.std.proofs.lemmas.List.{get_or-take, get_or_default}
use Rattle.std.proofs.lemmas.List.Elements.{All-nil, All-push, All-take, All-weaker, Contains-append_left, Contains-push}
use Rattle.std.proofs.lemmas.List.Quantifiers.{all_pairs_push}
use Rattle.std.proofs.lemmas.List.Sorted.{All-permutation, Contains-permutation}
use Rattle.std.proofs.lemmas.Map.Keys.{IsDistinct-IsPermutation}
use Rattle.std.proofs.lemmas.Map.Made.{AllPairs-from_IsDistinct, IsDistinct-from_AllPairs}
use Rattle.trace_file.specs.declared.call.Call.{Call}
use Rattle.history_picture.specs.Nearest.{AreNearest, AreOthers, IsOther, IsTakenOther, gap_from}

pub same_some : (a b : ℕ) → Some a ≡ Some b → a ≡ b
same_some a b e = cc

pub some_within : (history : List Call) (position : ℕ) (P : Call → Type 0) → IsSomeAnd (slice_get history position) P → position < length history
some_within [] position P h = absurd h
some_within (call ∷ history) zero P h = omega arith
some_within (call ∷ history) (suc position) P h = omega (arith, some_within history position P h)

-- after the front nothing is nearer than what is in it
not_before : (k most : ℕ) → ¬ (k < most) → most ≤ k
not_before k most never = grind (arith, never)

same_default : (history : List Call) (call : Call) (sorted : List ℕ) (i k d e : ℕ) → IsNonDecreasingBy (λ position. gap_from call (slice_get history position)) sorted → i ≤ k → k < length sorted → gap_from call (slice_get history (get_or sorted i d)) ≤ gap_from call (slice_get history (get_or sorted k e))
same_default history call sorted i k d e rising le less =
    subst (λ z. gap_from call (slice_get history (get_or sorted i d)) ≤ gap_from call (slice_get history z)) (get_or_default sorted k d e less) (rising i k d le less)

left_out : (history : List Call) (call : Call) (sorted : List ℕ) (most : ℕ) → IsNonDecreasingBy (λ position. gap_from call (slice_get history position)) sorted → (other : ℕ) → Contains sorted other → ¬ Contains (take most sorted) other → (length (take most sorted) ≡ most) × All (λ one. gap_from call (slice_get history one) ≤ gap_from call (slice_get history other)) (take most sorted)
left_out history call sorted most rising other (k, less, is) out =
    let behind : most ≤ k = not_before k most (λ before. out (k, omega (arith, before, less, length-take most sorted), get_or-take most sorted k other before ∙ is)) in (
      omega (arith, behind, less, length-take most sorted),
      λ i d inside. let before : i < most = omega (arith, inside, length-take most sorted) in
          subst (λ z. gap_from call (slice_get history (get_or (take most sorted) i d)) ≤ gap_from call (slice_get history z)) is
          (subst (λ z. gap_from call (slice_get history z) ≤ gap_from call (slice_get history (get_or sorted k other))) (sym (get_or-take most sorted i d before))
          (same_default history call sorted i k d other rising (omega (arith, before, behind)) less)),
    )

-- numbers that differ still do in another order
pub once_permuted : (xs ys : List ℕ) → IsPermutation xs ys → AllPairs (λ one other. one ≢ other) xs → AllPairs (λ one other. one ≢ other) ys
once_permuted xs ys p once =
    AllPairs-from_IsDistinct Decides-eqb ys (IsDistinct-IsPermutation (λ x y. x == y) nat_eq_equiv.symm xs ys p (IsDistinct-from_AllPairs Decides-eqb xs once))

-- those of a front differ
pub once_take : (n : ℕ) (xs : List ℕ) → AllPairs (λ one other. one ≢ other) xs → AllPairs (λ one other. one ≢ other) (take n xs)
once_take n xs once = λ i j d less inside same.
    let within : j < n = omega (arith, inside, length-take n xs) in
    let all : j < length xs = omega (arith, inside, length-take n xs) in
    once i j d less all (sym (get_or-take n xs i d (omega (arith, less, within))) ∙ same ∙ get_or-take n xs j d within)

-- none were looked at yet
pub others_none : (history : List Call) (key without : List ℕ) → AreOthers history key without 0 []
others_none history key without = record {
  each = All-nil (IsOther history key without);
  inside = All-nil (λ position. position < 0);
  once = λ i j d less inside. absurd (omega (arith, inside));
  all = λ position less is. absurd (omega (arith, less));
}

-- below a number or at it
below_or_at : (a b : ℕ) → a < b + 1 → (a < b) ⊎ (a ≡ b)
below_or_at zero zero less = inr refl
below_or_at zero (suc b) less = inl (omega arith)
below_or_at (suc a) zero less = absurd (omega arith)
below_or_at (suc a) (suc b) less = elim (below_or_at a b (omega arith)) [ inl h ↦ inl (omega (arith, h)) | inr e ↦ inr (ap suc e) ]

module _ (history : List Call) (key without others : List ℕ) (below : ℕ) (a : AreOthers history key without below others) where
  wider : All (λ position. position < below + 1) others
  wider = All-weaker (λ position. position < below) (λ position. position < below + 1) (λ x h. omega (arith, h)) others a.inside

  pushed : IsOther history key without below → (position : ℕ) → (position < below) ⊎ (position ≡ below) → IsOther history key without position → Contains (others ++ below ∷ []) position
  pushed is position (inl before) it = Contains-append_left others (below ∷ []) position (a.all position before it)
  pushed is position (inr here) it = subst (Contains (others ++ below ∷ [])) (sym here) (Contains-push others below)

  skipped : ¬ IsOther history key without below → (position : ℕ) → (position < below) ⊎ (position ≡ below) → IsOther history key without position → Contains others position
  skipped never position (inl before) it = a.all position before it
  skipped never position (inr here) it = absurd (never (subst (IsOther history key without) here it))

  -- one more position, of another call of the key
  pub others_push : IsOther history key without below → AreOthers history key without (below + 1) (others ++ below ∷ [])
  others_push is = record {
    each = All-push (IsOther history key without) others below a.each is;
    inside = All-push (λ position. position < below + 1) others below wider (omega arith);
    once = all_pairs_push (λ one other. one ≢ other) others below a.once (λ k d less same. absurd (omega (arith, same, a.inside k d less)));
    all = λ position less it. pushed is position (below_or_at position below less) it;
  }

  -- one more position, of no such call
  pub others_skip : ¬ IsOther history key without below → AreOthers history key without (below + 1) others
  others_skip never = record {
    each = a.each;
    inside = wider;
    once = a.once;
    all = λ position less it. skipped never position (below_or_at position below less) it;
  }

-- one more position was looked at
pub others_step : (history : List Call) (key without others new : List ℕ) (below : ℕ) → AreOthers history key without below others → IsTakenOther history key without below others new → AreOthers history key without (below + 1) new
others_step history key without others new below a (inl (never, same)) = subst (AreOthers history key without (below + 1)) (sym same) (others_skip history key without others below a never)
others_step history key without others new below a (inr (is, more)) = subst (AreOthers history key without (below + 1)) (sym more) (others_push history key without others below a is)

-- all positions were looked at
pub others_all : (history : List Call) (key without others : List ℕ) (below end : ℕ) → end ≡ min (length history) 4294967296 → below ≤ end → end ≤ below → AreOthers history key without below others → AreOthers history key without (2 ^ 32) others
others_all history key without others below end is within reached a = record {
  each = a.each;
  inside = All-weaker (λ position. position < below) (λ position. position < 4294967296) (λ x h. omega (arith, h, within, is)) others a.inside;
  once = a.once;
  all = λ position less it. a.all position (omega (arith, less, is, reached, some_within history position (λ call. call.key ≡ key) it.0)) it;
}

-- the front of all that stand by their distances are the nearest
pub nearest_front : (history : List Call) (call : Call) (without others sorted : List ℕ) (most : ℕ) → AreOthers history call.key without (2 ^ 32) others → IsPermutation others sorted → IsNonDecreasingBy (λ position. gap_from call (slice_get history position)) sorted → AreNearest history call without most (take most sorted)
nearest_front history call without others sorted most a p rising = record {
  few = omega (arith, length-take most sorted);
  each = All-take (IsOther history call.key without) most sorted (All-permutation (IsOther history call.key without) others sorted p a.each);
  once = once_take most sorted (once_permuted others sorted p a.once);
  rest = λ other less is out. left_out history call sorted most rising other (Contains-permutation others sorted other p (a.all other less is)) out;
}
