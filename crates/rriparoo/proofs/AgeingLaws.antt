-- The farthest of items, one after the other.
use Rattle.std.proofs.Common.{◌≡◌, ℕ, ◌+◌, ◌<◌, ◌≤◌, cond, List, [], ◌∷◌, ◌++◌, length, take, get_or, map, max, All, refl, sym, ap, subst, ◌∙◌, arith}
use Rattle.std.proofs.lemmas.Bool.{cond_both, cond-true, cond-false, OnTrue_at, OnTrue_from}
use Rattle.std.proofs.lemmas.List.{map-append, append-nil}
use Rattle.std.proofs.lemmas.List.Elements.{filter_more, All-more, All-weaker}
use Rattle.std.proofs.lemmas.List.Sums.{fold-append}
use Rattle.std.specs.List.{filter}
use Rattle.policy_laws.specs.declared.item.Item.{Item}
use Rattle.policy_laws.specs.declared.candidate.Candidate.{Candidate}
use Rattle.policy_laws.specs.Rank.{candidates_by}
use Rattle.policy_laws.proofs.public_laws.RankLaws.{HasItems}
use Rattle.rriparoo.specs.Rriparoo.{aged_candidate}
use Rattle.rriparoo.specs.Ageing.{grows_older, greatest, farthest, farther, IsWithin}

-- the farthest of items and one more
farthest-push : (xs : List Item) (x : Item) → greatest (map (λ item. item.prediction) (xs ++ cond (grows_older x) (x ∷ []) [])) ≡ farther (greatest (map (λ item. item.prediction) xs)) x
farthest-push xs x =
    cond_both (grows_older x) (x ∷ []) [] (λ more. greatest (map (λ item. item.prediction) (xs ++ more)) ≡ farther (greatest (map (λ item. item.prediction) xs)) x)
    (λ t. ap greatest (map-append (λ (item : Item). item.prediction) xs (x ∷ [])) ∙ fold-append max 0 (map (λ item. item.prediction) xs) (x.prediction ∷ []) ∙ sym (cond-true (grows_older x) _ _ t))
    (λ f. ap (λ ys. greatest (map (λ item. item.prediction) ys)) (append-nil xs) ∙ sym (cond-false (grows_older x) _ _ f))

pub farthest-more : (items : List Item) (i : ℕ) (x : Item) → i < length items → x ≡ get_or items i x → farthest (take (i + 1) items) ≡ farther (farthest (take i items)) x
farthest-more items i x within is =
    ap (λ ys. greatest (map (λ item. item.prediction) ys)) (filter_more grows_older items i x within)
    ∙ ap (λ z. greatest (map (λ item. item.prediction) (filter grows_older (take i items) ++ cond (grows_older z) (z ∷ []) []))) (sym is)
    ∙ farthest-push (filter grows_older (take i items)) x

-- a farther bound bounds as well
within_farther : (far more : ℕ) (x : Item) → far ≤ more → IsWithin far x → IsWithin more x
within_farther far more x h bound = OnTrue_from (grows_older x) (x.prediction ≤ more) (λ t. let b = OnTrue_at t bound in omega arith)

pub bound-more : (items : List Item) (i far more : ℕ) (x : Item) → i < length items → x ≡ get_or items i x → All (IsWithin far) (take i items) → far ≤ more → IsWithin more x → All (IsWithin more) (take (i + 1) items)
bound-more items i far more x within is all h here =
    All-more (IsWithin more) items i x within (All-weaker (IsWithin far) (IsWithin more) (λ y b. within_farther far more y h b) (take i items) all) (subst (IsWithin more) is here)

-- a candidate has the number and the size of its item
pub has_items : (far : ℕ) → HasItems (aged_candidate far)
has_items far = record { number = λ n item. refl; size = λ n item. refl }

-- the candidates that were made are those of the items
pub are_aged : (items slice : List Item) (given made : List Candidate) (far : ℕ) → given ≡ made → made ≡ candidates_by (aged_candidate far) slice →
    far ≡ farthest slice → slice ≡ items → given ≡ candidates_by (aged_candidate (farthest items)) items
are_aged items slice given made far p q r s =
    p ∙ q ∙ ap (λ f. candidates_by (aged_candidate f) slice) r ∙ ap (λ list. candidates_by (aged_candidate (farthest list)) list) s
