-- The first position of those that are wanted: by a measure, and of those alike by place.
use Rattle.std.proofs.Common.{◌≡◌, ℕ, ◌<◌, zero, suc, subst, sym, arith, inl, inr, ◌⊎◌}
use Rattle.std.proofs.lemmas.Bool.{cases_eq, cases_lt}
use Rattle.certificate_finder.specs.Choosing.{IsEarlierBy}

module _ (measure : ℕ → ℕ) (Wanted : ℕ → Type 0) where
  -- of those below a position it comes first
  pub record IsFirstBelow (upto p : ℕ) : Type 0 where
    pub within : p < upto
    pub is : Wanted p
    pub first : (q : ℕ) → q < upto → Wanted q → (q ≡ p) ⊎ IsEarlierBy measure p q

  earlier_joined : (p q r : ℕ) → IsEarlierBy measure p q → IsEarlierBy measure q r → IsEarlierBy measure p r
  earlier_joined p q r one other = elim one [
    | inl less ↦ elim other [ inl more ↦ inl (omega arith) | inr same ↦ let e = same.0 in inl (omega arith) ]
    | inr same ↦ let e = same.0 in let l = same.1 in elim other [ inl more ↦ inl (omega arith) | inr next ↦ let f = next.0 in let m = next.1 in inr (omega arith, omega arith) ]
  ]

  first_kept : (upto p : ℕ) → IsFirstBelow upto p → ¬ Wanted upto → IsFirstBelow (suc upto) p
  first_kept upto p first not = record {
    within = let w = first.within in omega arith;
    is = first.is;
    first = λ q below is. elim (cases_eq q upto) [
      | inl same ↦ absurd (not (subst Wanted same is))
      | inr other ↦ first.first q (omega arith) is
    ];
  }

  first_more : (upto p : ℕ) → IsFirstBelow upto p → Wanted upto → (q : ℕ) × IsFirstBelow (suc upto) q
  first_more upto p has of =
      let low = has.within in
      elim (cases_lt (measure upto) (measure p)) [
        | inl less ↦ (
          upto,
          record {
            within = omega arith;
            is = of;
            first = λ q below is. elim (cases_eq q upto) [
              | inl same ↦ inl same
              | inr other ↦ elim (has.first q (omega arith) is) [
                | inl one ↦ inr (inl (subst (λ r. measure upto < measure r) (sym one) less))
                | inr before ↦ inr (earlier_joined upto p q (inl less) before)
              ]
            ];
          },
        )
        | inr not ↦ (
          p,
          record {
            within = omega arith;
            is = has.is;
            first = λ q below is. elim (cases_eq q upto) [
              | inl same ↦ inr (subst (λ r. IsEarlierBy measure p r) (sym same) (elim (cases_eq (measure p) (measure upto)) [
                | inl at_once ↦ inr (at_once, low)
                | inr apart ↦ inl (omega arith)
              ]))
              | inr other ↦ has.first q (omega arith) is
            ];
          },
        )
      ]

  first_alone : (upto : ℕ) → Wanted upto → ((q : ℕ) → q < upto → ¬ Wanted q) → IsFirstBelow (suc upto) upto
  first_alone upto of none = record {
    within = omega arith;
    is = of;
    first = λ q below is. elim (cases_eq q upto) [
      | inl same ↦ inl same
      | inr other ↦ absurd (none q (omega arith) is)
    ];
  }

  pub find_first : (upto : ℕ) → ((p : ℕ) → p < upto → Wanted p ⊎ ¬ Wanted p) → ((p : ℕ) × IsFirstBelow upto p) ⊎ ((q : ℕ) → q < upto → ¬ Wanted q)
  find_first zero which = inr (λ q less is. absurd (omega arith))
  find_first (suc upto) which = elim (which upto (omega arith)) [
    | inl of ↦ elim (find_first upto (λ p less. which p (omega arith))) [
      | inl has ↦ inl (first_more upto has.0 has.1 of)
      | inr none ↦ inl (upto, first_alone upto of none)
    ]
    | inr not ↦ elim (find_first upto (λ p less. which p (omega arith))) [
      | inl has ↦ inl (has.0, first_kept upto has.0 has.1 not)
      | inr none ↦ inr (λ q less is. elim (cases_eq q upto) [
        | inl same ↦ not (subst Wanted same is)
        | inr other ↦ none q (omega arith) is
      ])
    ]
  ]
