-- Which of some indexes satisfy a condition.
use Rattle.std.proofs.Common.{ℕ, ◌⊎◌, sym, ◌∙◌, subst, inl, inr}
use Rattle.certificate_finder.specs.declared.readable.Readable.{Readable}
use Rattle.certificate_finder.specs.declared.readable.Readable.TheVariants.{Nothing, One, Several}
use Rattle.certificate_finder.specs.Reads.{HoldsTwice}
use Rattle.certificate_finder.specs.Readings.{IsJoined, Says}

-- what is said of indexes is said of the same ones
pub says_same : (P Q : ℕ → Type 0) (reading : Readable) → ((k : ℕ) → P k → Q k) → ((k : ℕ) → Q k → P k) → Says P reading → Says Q reading
says_same P Q Nothing to from says = λ k q. says k (from k q)
says_same P Q (One one) to from says = (to one says.0, λ k q. says.1 k (from k q))
says_same P Q Several to from says = record { one = says.one; other = says.other; apart = says.apart; first = to says.one says.first; second = to says.other says.second }

module _ (P Q : ℕ → Type 0) where
  abbrev Either : ℕ → Type 0
  Either k = P k ⊎ Q k

  twice_left : HoldsTwice P → HoldsTwice Either
  twice_left two = record { one = two.one; other = two.other; apart = two.apart; first = inl two.first; second = inl two.second }

  twice_right : HoldsTwice Q → HoldsTwice Either
  twice_right two = record { one = two.one; other = two.other; apart = two.apart; first = inr two.first; second = inr two.second }

  only_left : (one : ℕ) → Says P (One one) → ((k : ℕ) → ¬ Q k) → Says Either (One one)
  only_left one says none = (inl says.0, λ k either. elim either [ inl p ↦ says.1 k p | inr q ↦ absurd (none k q) ])

  only_right : (reading : Readable) → ((k : ℕ) → ¬ P k) → Says Q reading → Says Either reading
  only_right Nothing none says = λ k either. elim either [ inl p ↦ none k p | inr q ↦ says k q ]
  only_right (One one) none says = (inr says.0, λ k either. elim either [ inl p ↦ absurd (none k p) | inr q ↦ says.1 k q ])
  only_right Several none says = twice_right says

  both_ones : (one other : ℕ) (joined : Readable) → Says P (One one) → Says Q (One other) → IsJoined (One one) (One other) joined → Says Either joined
  both_ones one other joined left right is = elim is [
    | inl same ↦ subst (λ r. Says Either r) (sym same.1) (inl left.0, λ k either. elim either [ inl p ↦ left.1 k p | inr q ↦ right.1 k q ∙ sym same.0 ])
    | inr apart ↦ subst (λ r. Says Either r) (sym apart.1) (record { one = one; other = other; apart = apart.0; first = inl left.0; second = inr right.0 })
  ]

  -- what two readings say of indexes of two kinds
  pub says_joined : (one other joined : Readable) → Says P one → Says Q other → IsJoined one other joined → Says (λ k. P k ⊎ Q k) joined
  says_joined Nothing other joined left right is = subst (λ r. Says Either r) (sym is) (only_right other left right)
  says_joined (One one) Nothing joined left right is = subst (λ r. Says Either r) (sym is) (only_left one left right)
  says_joined (One one) (One other) joined left right is = both_ones one other joined left right is
  says_joined (One one) Several joined left right is = subst (λ r. Says Either r) (sym is) (twice_right right)
  says_joined Several other joined left right is = subst (λ r. Says Either r) (sym is) (twice_left left)
