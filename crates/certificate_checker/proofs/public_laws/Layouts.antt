-- A layout of lanes exists, and if points rise it is one.
use Rattle.std.proofs.Common.{◌≡◌, ◌≢◌, ℕ, ◌<◌, zero, suc, Option, Some, None, List, [], ◌∷◌, length, refl, sym, ap, ◌∙◌, subst, arith, inl, inr, ◌⊎◌}
use Rattle.std.specs.Prelude.{slice_get, All}
use Rattle.std.specs.List.{flat_map, filter_map, cons_option}
use Rattle.std.specs.Option.{option_map_or}
use Rattle.std.proofs.lemmas.Bool.{cases_eq, cases_lt}
use Rattle.std.proofs.lemmas.List.{length-map}
use Rattle.trace_file.specs.declared.call.Call.{Call}
use Rattle.certificate_checker.specs.Lanes.{Done, calls_of, PointsRise, Stamped, stamped, ComesFirst, IsLaidOut}
use Rattle.certificate_checker.proofs.public_laws.Accepting.{found_at}
use Rattle.certificate_checker.proofs.public_laws.Listing.{Member, Pairs, picked_member, member_contained, contained_member, all_member, member_all, pairs_from, pairs_to, pairs_weaker, pairs_both, pairs_picked, same_in_order}
use Rattle.certificate_checker.proofs.public_laws.Laying.{call_in, picked, points_differ, cases_before}
use Rattle.certificate_checker.proofs.public_laws.LaneLemmas.{calls_stamped, rise_stamped}

-- ---- one layout

-- what holds of what pairs are turned into holds of the pairs
pub picked_pairs : {X Y : Type 0} (h : X → Option Y) (R : Y → Y → Type 0) (xs : List X) → Pairs R (filter_map h xs) → Pairs (λ a b. (c d : Y) → h a ≡ Some c → h b ≡ Some d → R c d) xs
picked_pairs h R [] pairs = tt
picked_pairs {X} {Y} h R (x ∷ xs) pairs =
    elim (h x) as (λ o. h x ≡ o → Pairs R (cons_option o (filter_map h xs)) → Pairs (λ a b. (c d : Y) → h a ≡ Some c → h b ≡ Some d → R c d) (x ∷ xs)) [
      | None ↦ λ is p. (λ y m c d at_x at_y. absurd (let no : None ≡ Some c = sym is ∙ at_x in cc), picked_pairs h R xs p)
      | Some z ↦
          λ is p. (
            λ y m c d at_x at_y.
                let same : z ≡ c = (let both : Some z ≡ Some c = sym is ∙ at_x in cc) in
                subst (λ w. R w d) same (p.0 d (picked_member h xs y d m at_y)),
            picked_pairs h R xs p.1,
          )
    ] refl pairs

-- a stands before b in the order by point and lane
abbrev StandsFirst : List Stamped → ℕ → ℕ → Type 0
StandsFirst marks p q = (a : Stamped) × (b : Stamped) × (slice_get marks p ≡ Some a) × (slice_get marks q ≡ Some b) × ComesFirst a b

never_both : (a b : Stamped) → ComesFirst a b → ComesFirst b a → ⊥
never_both a b one other = elim one [
  | inl less ↦ elim other [ inl more ↦ omega (arith, less, more) | inr tied ↦ let e = tied.0 in omega (arith, less, e) ]
  | inr same ↦ elim other [ inl more ↦ let e = same.0 in omega (arith, more, e) | inr tied ↦ let l = same.1 in let m = tied.1 in omega (arith, l, m) ]
]

strict : (marks : List Stamped) (p q : ℕ) → StandsFirst marks p q → ¬ StandsFirst marks q p
strict marks p q one other =
    let a : other.1 ≡ one.0 = (let both : Some other.1 ≡ Some one.0 = sym other.3 ∙ one.2 in cc) in
    let b : other.0 ≡ one.1 = (let both : Some other.0 ≡ Some one.1 = sym other.2 ∙ one.3 in cc) in
    never_both one.0 one.1 one.4 (subst (λ x. ComesFirst one.1 x) a (subst (λ x. ComesFirst x other.1) b other.4))

-- of two calls with other places, in lanes whose points rise, one comes first
one_first : (a b : Stamped) → (a.lane ≡ b.lane → a.done.point ≢ b.done.point) → ¬ ComesFirst b a → ComesFirst a b
one_first a b differ not = elim (cases_before a.done.point b.done.point) [
  | inl less ↦ inl less
  | inr rest ↦ elim rest [
    | inl same ↦ elim (cases_before a.lane b.lane) [
      | inl less ↦ inr (same, less)
      | inr others ↦ elim others [ inl lane ↦ absurd (differ lane same) | inr more ↦ absurd (not (inr (sym same, more))) ]
    ]
    | inr more ↦ absurd (not (inl more))
  ]
]

module _ (lanes : List (List Done)) (history : List Call) (rise : All PointsRise lanes) where
  rising : Pairs (λ a b. a.lane ≡ b.lane → a.done.point < b.done.point) (stamped lanes)
  rising = rise_stamped 0 lanes rise

  as_long : history ≡ flat_map calls_of lanes → length (stamped lanes) ≡ length history
  as_long calls = sym (length-map (stamped lanes) call_in) ∙ ap length (calls_stamped 0 lanes ∙ sym calls)

  mark_at : (p : ℕ) → p < length history → history ≡ flat_map calls_of lanes → (a : Stamped) × (slice_get (stamped lanes) p ≡ Some a)
  mark_at p less calls = let len = as_long calls in found_at (stamped lanes) p (omega (arith, less, len))

  in_strict_order : (certificate : List ℕ) → IsLaidOut lanes history certificate → Pairs (StandsFirst (stamped lanes)) certificate
  in_strict_order certificate laid =
      let marks = stamped lanes in
      let once = pairs_from (λ p q. p ≢ q) certificate laid.spelled.once in
      let sorted = picked_pairs (slice_get marks) (λ a b. ¬ ComesFirst b a) certificate (pairs_from (λ a b. ¬ ComesFirst b a) (picked marks certificate) laid.by_point) in
      let both = pairs_both (λ p q. p ≢ q) (λ p q. (a b : Stamped) → slice_get marks p ≡ Some a → slice_get marks q ≡ Some b → ¬ ComesFirst b a) certificate once sorted in
      pairs_weaker (λ p q. (p ≢ q) × ((a b : Stamped) → slice_get marks p ≡ Some a → slice_get marks q ≡ Some b → ¬ ComesFirst b a)) (StandsFirst marks) certificate (λ p q l m known.
      let a = mark_at p (all_member (λ n. n < length history) certificate p laid.spelled.positions l) laid.calls in
      let b = mark_at q (all_member (λ n. n < length history) certificate q laid.spelled.positions m) laid.calls in
      (a.0, b.0, a.1, b.1, one_first a.0 b.0 (points_differ marks rising p q a.0 b.0 a.1 b.1 known.0) (known.1 a.0 b.0 a.1 b.1))) both

  pub one_layout : (one other : List ℕ) → IsLaidOut lanes history one → IsLaidOut lanes history other → one ≡ other
  one_layout one other l m =
      same_in_order (StandsFirst (stamped lanes)) (strict (stamped lanes)) one other (in_strict_order one l) (in_strict_order other m)
      (λ p k. member_contained other p (m.spelled.each p (all_member (λ n. n < length history) one p l.spelled.positions k)))
      (λ p k. member_contained one p (l.spelled.each p (all_member (λ n. n < length history) other p m.spelled.positions k)))

-- ---- a layout

-- numbers in an order by two of their measures
module _ (first second : ℕ → ℕ) where
  abbrev Under : ℕ → ℕ → Type 0
  Under p q = (first p < first q) ⊎ ((first p ≡ first q) × (second p < second q))

  decide : (p q : ℕ) → Under p q ⊎ ¬ Under p q
  decide p q = elim (cases_before (first p) (first q)) [
    | inl less ↦ inl (inl less)
    | inr rest ↦ elim rest [
      | inl same ↦ elim (cases_lt (second p) (second q)) [
        | inl less ↦ inl (inr (same, less))
        | inr enough ↦ inr (λ u. elim u [ inl less ↦ omega (arith, less, same) | inr tied ↦ let l = tied.1 in omega (arith, l, enough) ])
      ]
      | inr more ↦ inr (λ u. elim u [ inl less ↦ omega (arith, less, more) | inr tied ↦ let e = tied.0 in omega (arith, e, more) ])
    ]
  ]

  not_back : (p q : ℕ) → Under p q → ¬ Under q p
  not_back p q one other = elim one [
    | inl less ↦ elim other [ inl more ↦ omega (arith, less, more) | inr tied ↦ let e = tied.0 in omega (arith, less, e) ]
    | inr same ↦ elim other [ inl more ↦ let e = same.0 in omega (arith, more, e) | inr tied ↦ let l = same.1 in let m = tied.1 in omega (arith, l, m) ]
  ]

  -- p under q, and r not under q: p is under r
  under_more : (p q r : ℕ) → Under p q → ¬ Under r q → ¬ Under r p
  under_more p q r less not back = not (elim less [
    | inl a ↦ elim back [ inl b ↦ inl (omega (arith, a, b)) | inr b ↦ let e = b.0 in inl (omega (arith, a, e)) ]
    | inr a ↦ let e = a.0 in elim back [ inl b ↦ inl (omega (arith, b, e)) | inr b ↦ inr (b.0 ∙ e, let l = a.1 in let m = b.1 in omega (arith, l, m)) ]
  ])

  -- a list in order, with one number more
  pub record Inserted (x : ℕ) (ps qs : List ℕ) : Type 0 where
    pub sorted : Pairs (λ p q. ¬ Under q p) qs
    pub once : Pairs (λ p q. p ≢ q) qs
    pub has : Member x qs
    pub keeps : (p : ℕ) → Member p ps → Member p qs
    pub only : (p : ℕ) → Member p qs → (p ≡ x) ⊎ Member p ps

  insert_into : (x : ℕ) (ps : List ℕ) → Pairs (λ p q. ¬ Under q p) ps → Pairs (λ p q. p ≢ q) ps → ¬ Member x ps → (qs : List ℕ) × Inserted x ps qs
  insert_into x [] sorted once new = (
    x ∷ [],
    record {
      sorted = (λ y m. absurd m, tt);
      once = (λ y m. absurd m, tt);
      has = inl refl;
      keeps = λ p m. inr m;
      only = λ p m. m;
    },
  )
  insert_into x (y ∷ ps) sorted once new = elim (decide x y) [
    | inl less ↦ (
      x ∷ y ∷ ps,
      record {
        sorted = (λ z m. elim m [ inl e ↦ λ back. not_back x y less (subst (λ w. Under w x) e back) | inr later ↦ under_more x y z less (sorted.0 z later) ], sorted);
        once = (λ z m e. new (subst (λ w. Member w (y ∷ ps)) (sym e) m), once);
        has = inl refl;
        keeps = λ p m. inr m;
        only = λ p m. m;
      },
    )
    | inr not ↦
        let rest = insert_into x ps sorted.1 once.1 (λ m. new (inr m)) in (
          y ∷ rest.0,
          record {
            sorted = (λ z m. elim (rest.1.only z m) [ inl e ↦ λ back. not (subst (λ w. Under w y) e back) | inr later ↦ sorted.0 z later ], rest.1.sorted);
            once = (λ z m. elim (rest.1.only z m) [ inl e ↦ λ same. new (inl (sym e ∙ sym same)) | inr later ↦ once.0 z later ], rest.1.once);
            has = inr rest.1.has;
            keeps = λ p m. elim m [ inl e ↦ inl e | inr later ↦ inr (rest.1.keeps p later) ];
            only = λ p m. elim m [ inl e ↦ inr (inl e) | inr later ↦ elim (rest.1.only p later) [ inl e ↦ inl e | inr old ↦ inr (inr old) ] ];
          },
        )
  ]

  -- the numbers below n in order, each once
  pub record Sorted (n : ℕ) (ps : List ℕ) : Type 0 where
    pub sorted : Pairs (λ p q. ¬ Under q p) ps
    pub once : Pairs (λ p q. p ≢ q) ps
    pub has : (p : ℕ) → p < n → Member p ps
    pub only : (p : ℕ) → Member p ps → p < n

  pub sorted_below : (n : ℕ) → (ps : List ℕ) × Sorted n ps
  sorted_below zero = ([], record { sorted = tt; once = tt; has = λ p less. absurd (omega arith); only = λ p m. absurd m })
  sorted_below (suc n) =
      let before = sorted_below n in
      let next = insert_into n before.0 before.1.sorted before.1.once (λ m. let less = before.1.only n m in omega (arith, less)) in (
        next.0,
        record {
          sorted = next.1.sorted;
          once = next.1.once;
          has = λ p less. elim (cases_eq p n) [ inl e ↦ subst (λ q. Member q next.0) (sym e) next.1.has | inr other ↦ next.1.keeps p (before.1.has p (omega arith)) ];
          only = λ p m. elim (next.1.only p m) [ inl e ↦ omega arith | inr old ↦ let less = before.1.only p old in omega (arith, less) ];
        },
      )

-- a place's point and lane
abbrev point_at : List Stamped → ℕ → ℕ
point_at marks p = option_map_or (λ s. s.done.point) (slice_get marks p) 0

abbrev lane_at : List Stamped → ℕ → ℕ
lane_at marks p = option_map_or (λ s. s.lane) (slice_get marks p) 0

-- positions in order by these stand for calls in order
as_stamped : (marks : List Stamped) (p q : ℕ) (a b : Stamped) → slice_get marks p ≡ Some a → slice_get marks q ≡ Some b → ¬ Under (point_at marks) (lane_at marks) q p → ¬ ComesFirst b a
as_stamped marks p q a b at_p at_q not first = not (rw (at_p, at_q) first)

pub some_layout : (lanes : List (List Done)) → (certificate : List ℕ) × IsLaidOut lanes (flat_map calls_of lanes) certificate
some_layout lanes =
    let marks = stamped lanes in
    let history = flat_map calls_of lanes in
    let made = sorted_below (point_at marks) (lane_at marks) (length history) in
    let certificate = made.0 in (
      certificate,
      record {
        calls = refl;
        spelled = record {
          positions = member_all (λ p. p < length history) certificate made.1.only;
          each = λ p less. contained_member certificate p (made.1.has p less);
          once = pairs_to (λ p q. p ≢ q) certificate made.1.once;
        };
        by_point = pairs_to (λ a b. ¬ ComesFirst b a) (picked marks certificate) (pairs_picked (slice_get marks) (λ p q. ¬ Under (point_at marks) (lane_at marks) q p) (λ a b. ¬ ComesFirst b a) certificate (as_stamped marks) made.1.sorted);
      },
    )
