-- Lists over the first positions.
use Rattle.std.proofs.Common.{◌≡◌, ℕ, ◌+◌, zero, suc, List, [], ◌∷◌, ◌++◌, ap, sym, ◌∙◌, arith, append-nil, append_assoc}
use Rattle.std.specs.List.{flat_map, range_with_len}
use Rattle.std.proofs.lemmas.Grind.{flat_map-append}
use Rattle.history_page.specs.Guarding.{guard, guarded}

-- one position more
pub range_more : (from count : ℕ) → range_with_len from (suc count) ≡ range_with_len from count ++ (from + count) ∷ []
range_more from zero = ap (λ k. k ∷ []) (omega arith)
range_more from (suc count) =
    ap (λ rest. from ∷ rest) (range_more (from + 1) count ∙ ap (λ k. range_with_len (from + 1) count ++ k ∷ []) (omega arith))

one_more : (count : ℕ) → count + 1 ≡ suc count
one_more count = omega arith

zero_and : (count : ℕ) → 0 + count ≡ count
zero_and count = omega arith

-- what stands for one position more comes after what stands for the others
pub listed_more : (line : ℕ → List ℕ) (count : ℕ) → guard (flat_map line (range_with_len 0 (count + 1))) ≡ guard (flat_map line (range_with_len 0 count)) ++ guard (line count)
listed_more line count =
    ap (λ positions. guard (flat_map line positions)) (ap (range_with_len 0) (one_more count) ∙ range_more 0 count ∙ ap (λ k. range_with_len 0 count ++ k ∷ []) (zero_and count))
    ∙ (ap guard (flat_map-append line (range_with_len 0 count) (count ∷ []) ∙ ap (λ one. flat_map line (range_with_len 0 count) ++ one) (append-nil (line count)))
    ∙ flat_map-append guarded (flat_map line (range_with_len 0 count)) (line count))

grouped : (one two three : List ℕ) → (one ++ two) ++ three ≡ one ++ (two ++ three)
grouped one two three = simp append_assoc

-- a page with the lines of the first calls, and then with one more
pub next_line : (line : ℕ → List ℕ) (count : ℕ) (begun now new : List ℕ) → now ≡ begun ++ guard (flat_map line (range_with_len 0 count)) → new ≡ now ++ guard (line count) → new ≡ begun ++ guard (flat_map line (range_with_len 0 (count + 1)))
next_line line count begun now new before then_one =
    then_one ∙ ap (λ text. text ++ guard (line count)) before ∙ grouped begun (guard (flat_map line (range_with_len 0 count))) (guard (line count))
    ∙ ap (λ text. begun ++ text) (sym (listed_more line count))
