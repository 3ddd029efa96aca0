-- Each fault is there or not, and so a pair is accepted or has a first fault.
use Rattle.std.proofs.Common.{◌≡◌, ℕ, ◌<◌, ◌≤◌, zero, suc, eqb, ltb, Option, Some, None, List, length, take, refl, sym, subst, ap, ◌∙◌, arith, inl, inr, ◌⊎◌, map}
use Rattle.std.specs.Prelude.{◌==◌, if◌then◌else◌, IsSomeAnd, slice_get, Any, Contains}
use Rattle.std.specs.List.{list_any}
use Rattle.std.proofs.lemmas.Bool.{cases_Bool, cases_eq, cases_lt}
use Rattle.std.proofs.lemmas.List.Folds.{Any-from_list_any, list_any-from_Any}
use Rattle.std.proofs.lemmas.Option.{slice_get_past}
use borrow.Author.Tests.{ltb-true, lt-ltb}
use Rattle.trace_file.specs.declared.act.Act.{Act}
use Rattle.trace_file.specs.declared.act.Act.TheVariants.{Put, Remove, Hit, Miss}
use Rattle.trace_file.specs.declared.call.Call.{Call}
use Rattle.certificate_checker.specs.declared.fault.Fault.{Fault}
use Rattle.certificate_checker.specs.declared.fault.Fault.TheVariants.{BadInterval, WrongCount, NotAPlace, Repeated, OutOfOrder, WrongHit}
use Rattle.certificate_checker.specs.Deeds.{Deed, deed_of}
use Rattle.certificate_checker.specs.Orders.{Precedes}
use Rattle.certificate_checker.specs.Latest.{IsLive}
use Rattle.certificate_checker.specs.Current.{current, given_at}
use Rattle.certificate_checker.specs.Acceptance.{IsAccepted}
use Rattle.certificate_checker.specs.Faults.{HasFault, IsFirstFault, IsRight, IsBefore, IsFirstOfPlaces, tested_at, moment, earlier_calls, call_at, Moment}
use Rattle.certificate_checker.proofs.public_laws.Lookups.{contains_from_any, any_from_contains}
use Rattle.certificate_checker.proofs.public_laws.Laying.{cases_before}
use Rattle.certificate_checker.proofs.Passing.{nothing_at, none_before}
use Rattle.certificate_checker.proofs.public_laws.Accepting.{told, accepted}

-- ---- whether a fault is there

some_or_not : {X : Type 0} (o : Option X) (P : X → Type 0) → ((x : X) → P x ⊎ ¬ P x) → IsSomeAnd o P ⊎ ¬ IsSomeAnd o P
some_or_not None P d = inr (λ h. h)
some_or_not (Some x) P d = d x

wrong_or_not : (deeds : List Deed) (key : List ℕ) (act : Act) → ((value : List ℕ) × (asked : ℕ) × (act ≡ Hit value asked) × ¬ IsLive deeds key value asked) ⊎ ¬ ((value : List ℕ) × (asked : ℕ) × (act ≡ Hit value asked) × ¬ IsLive deeds key value asked)
wrong_or_not deeds key (Put new expires) = inr (λ w. let e = w.2 in cc)
wrong_or_not deeds key Remove = inr (λ w. let e = w.2 in cc)
wrong_or_not deeds key (Hit hit asked) = elim (told key hit asked deeds (given_at asked (current deeds key)) refl) [
  | inl live ↦
      inr (λ w.
      let e = w.2 in
      let same : hit ≡ w.0 = cc in
      let then_asked : asked ≡ w.1 = cc in
      w.3 (subst (λ value. IsLive deeds key value w.1) same (subst (IsLive deeds key hit) then_asked live)))
  | inr stale ↦ inl (hit, asked, refl, stale)
]
wrong_or_not deeds key Miss = inr (λ w. let e = w.2 in cc)

pub fault_or_not : (history : List Call) (certificate : List ℕ) (fault : Fault) → HasFault history certificate fault ⊎ ¬ HasFault history certificate fault
fault_or_not h c (BadInterval position) =
    some_or_not (slice_get h position) (λ call. call.end < call.start) (λ call. elim (cases_lt call.end call.start) [ inl less ↦ inl less | inr enough ↦ inr (λ less. omega (arith, less, enough)) ])
fault_or_not h c WrongCount = elim (cases_eq (length c) (length h)) [ inl same ↦ inr (λ other. other same) | inr other ↦ inl other ]
fault_or_not h c (NotAPlace place) =
    some_or_not (slice_get c place) (λ position. length h ≤ position) (λ position. elim (cases_lt position (length h)) [ inl less ↦ inr (λ past. omega (arith, less, past)) | inr past ↦ inl past ])
fault_or_not h c (Repeated place) =
    some_or_not (slice_get c place) (λ position. Contains (take place c) position) (λ position. elim (cases_Bool (list_any (eqb position) (take place c))) [
      | inl passes ↦ inl (contains_from_any (take place c) position passes)
      | inr fails ↦ inr (λ has. let yes = any_from_contains (take place c) position has in cc)
    ])
fault_or_not h c (OutOfOrder place) =
    some_or_not (call_at h c place) (λ call. Any (λ earlier. Precedes call earlier) (earlier_calls h c place)) (λ call. elim (cases_Bool (list_any (λ (e : Call). ltb call.end e.start) (earlier_calls h c place))) [
      | inl passes ↦ let any = Any-from_list_any (λ (e : Call). ltb call.end e.start) (earlier_calls h c place) passes in inl (any.0, any.1, any.2, any.3, ltb-true _ _ any.4)
      | inr fails ↦ inr (λ any. let yes = list_any-from_Any (λ (e : Call). ltb call.end e.start) (earlier_calls h c place) (any.0, any.1, any.2, any.3, lt-ltb _ _ any.4) in cc)
    ])
fault_or_not h c (WrongHit place) =
    some_or_not (call_at h c place) (λ call. (value : List ℕ) × (asked : ℕ) × (call.act ≡ Hit value asked) × ¬ IsLive (map deed_of (earlier_calls h c place)) call.key value asked) (λ call. wrong_or_not (map deed_of (earlier_calls h c place)) call.key call.act)

-- ---- the least number of which something holds

pub record Least (P : ℕ → Type 0) (i : ℕ) : Type 0 where
  pub holds : P i
  pub none : (j : ℕ) → j < i → ¬ P j

least : (P : ℕ → Type 0) → ((i : ℕ) → P i ⊎ ¬ P i) → (n : ℕ) → ((i : ℕ) × Least P i) ⊎ ((j : ℕ) → j < n → ¬ P j)
least P d zero = inr (λ j less. absurd (omega arith))
least P d (suc n) = elim (least P d n) [
  | inl found ↦ inl found
  | inr none ↦ elim (d n) [
    | inl here ↦ inl (n, record { holds = here; none = none })
    | inr not ↦ inr (λ j less. elim (cases_eq j n) [ inl e ↦ subst (λ k. ¬ P k) (sym e) not | inr other ↦ none j (omega arith) ])
  ]
]

-- ---- the first fault

module _ (h : List Call) (c : List ℕ) where
  -- one of the four tests of a place fails
  abbrev IsWrong : ℕ → Type 0
  IsWrong place = HasFault h c (NotAPlace place) ⊎ (HasFault h c (Repeated place) ⊎ (HasFault h c (OutOfOrder place) ⊎ HasFault h c (WrongHit place)))

  wrong_place_or_not : (place : ℕ) → IsWrong place ⊎ ¬ IsWrong place
  wrong_place_or_not place = elim (fault_or_not h c (NotAPlace place)) [
    | inl one ↦ inl (inl one)
    | inr not_one ↦ elim (fault_or_not h c (Repeated place)) [
      | inl two ↦ inl (inr (inl two))
      | inr not_two ↦ elim (fault_or_not h c (OutOfOrder place)) [
        | inl three ↦ inl (inr (inr (inl three)))
        | inr not_three ↦ elim (fault_or_not h c (WrongHit place)) [
          | inl four ↦ inl (inr (inr (inr four)))
          | inr not_four ↦ inr (λ wrong. elim wrong [ inl w ↦ not_one w | inr rest ↦ elim rest [ inl w ↦ not_two w | inr others ↦ elim others [ inl w ↦ not_three w | inr w ↦ not_four w ] ] ])
        ]
      ]
    ]
  ]

  right_place : (place : ℕ) → ¬ IsWrong place → IsRight h c place
  right_place place not = record {
    is_place = λ w. not (inl w);
    not_repeated = λ w. not (inr (inl w));
    in_order = λ w. not (inr (inr (inl w)));
    hits_latest = λ w. not (inr (inr (inr w)));
  }

  past_right : (place : ℕ) → length c ≤ place → IsRight h c place
  past_right place past =
      let none : slice_get c place ≡ None = slice_get_past c place past in
      record {
        is_place = nothing_at _ none;
        not_repeated = nothing_at _ none;
        in_order = nothing_at {o = call_at h c place} _ (rw none refl);
        hits_latest = nothing_at {o = call_at h c place} _ (rw none refl);
      }

  -- the first of the four tests of a place that fails, if the earlier places are right
  first_here : (place : ℕ) → ((q : ℕ) → q < place → IsRight h c q) → IsWrong place → (fault : Fault) × IsFirstOfPlaces h c (Some fault)
  first_here place right wrong = elim (fault_or_not h c (NotAPlace place)) [
    | inl one ↦ (NotAPlace place, (one, refl, none_before h c place 1 right (λ l. absurd (omega arith)) (λ l. absurd (omega arith)) (λ l. absurd (omega arith)) (λ l. absurd (omega arith))))
    | inr not_one ↦ elim (fault_or_not h c (Repeated place)) [
      | inl two ↦ (Repeated place, (two, refl, none_before h c place 2 right (λ _. not_one) (λ l. absurd (omega arith)) (λ l. absurd (omega arith)) (λ l. absurd (omega arith))))
      | inr not_two ↦ elim (fault_or_not h c (OutOfOrder place)) [
        | inl three ↦ (OutOfOrder place, (three, refl, none_before h c place 3 right (λ _. not_one) (λ _. not_two) (λ l. absurd (omega arith)) (λ l. absurd (omega arith))))
        | inr not_three ↦ elim (fault_or_not h c (WrongHit place)) [
          | inl four ↦ (WrongHit place, (four, refl, none_before h c place 4 right (λ _. not_one) (λ _. not_two) (λ _. not_three) (λ l. absurd (omega arith))))
          | inr not_four ↦ absurd (elim wrong [ inl w ↦ not_one w | inr rest ↦ elim rest [ inl w ↦ not_two w | inr others ↦ elim others [ inl w ↦ not_three w | inr w ↦ not_four w ] ] ])
        ]
      ]
    ]
  ]

  -- no interval is bad
  good_intervals : ((p : ℕ) → p < length h → ¬ HasFault h c (BadInterval p)) → (p : ℕ) → ¬ HasFault h c (BadInterval p)
  good_intervals good p = elim (cases_lt p (length h)) [ inl less ↦ good p less | inr past ↦ nothing_at _ (slice_get_past h p past) ]

  none_in_round_1 : (position : ℕ) → ((j : ℕ) → j < position → ¬ HasFault h c (BadInterval j)) → (other : Fault) → IsBefore (tested_at other) (moment 1 position 1) → ¬ HasFault h c other
  none_in_round_1 position none (BadInterval q) b = elim b [
    | inl less ↦ absurd (omega arith)
    | inr same ↦ elim same.1 [ inl less ↦ none q less | inr here ↦ absurd (let l = here.1 in omega (arith, l)) ]
  ]
  none_in_round_1 position none WrongCount b = absurd (omega arith)
  none_in_round_1 position none (NotAPlace q) b = absurd (omega arith)
  none_in_round_1 position none (Repeated q) b = absurd (omega arith)
  none_in_round_1 position none (OutOfOrder q) b = absurd (omega arith)
  none_in_round_1 position none (WrongHit q) b = absurd (omega arith)

  none_in_round_2 : ((p : ℕ) → ¬ HasFault h c (BadInterval p)) → (other : Fault) → IsBefore (tested_at other) (moment 2 0 1) → ¬ HasFault h c other
  none_in_round_2 none (BadInterval q) b = none q
  none_in_round_2 none WrongCount b = absurd (omega arith)
  none_in_round_2 none (NotAPlace q) b = absurd (omega arith)
  none_in_round_2 none (Repeated q) b = absurd (omega arith)
  none_in_round_2 none (OutOfOrder q) b = absurd (omega arith)
  none_in_round_2 none (WrongHit q) b = absurd (omega arith)

  -- the first fault of the places is the first of all, if no interval is bad and the count is right
  none_earlier : ((p : ℕ) → ¬ HasFault h c (BadInterval p)) → ¬ HasFault h c WrongCount → (fault : Fault) → IsFirstOfPlaces h c (Some fault) → (other : Fault) → IsBefore (tested_at other) (tested_at fault) → ¬ HasFault h c other
  none_earlier none count fault first (BadInterval q) b = none q
  none_earlier none count fault first WrongCount b = count
  none_earlier none count fault first (NotAPlace q) b = first.2 (NotAPlace q) refl b
  none_earlier none count fault first (Repeated q) b = first.2 (Repeated q) refl b
  none_earlier none count fault first (OutOfOrder q) b = first.2 (OutOfOrder q) refl b
  none_earlier none count fault first (WrongHit q) b = first.2 (WrongHit q) refl b

  no_fault_at_all : ((p : ℕ) → ¬ HasFault h c (BadInterval p)) → ¬ HasFault h c WrongCount → ((place : ℕ) → IsRight h c place) → (fault : Fault) → ¬ HasFault h c fault
  no_fault_at_all none count right (BadInterval q) = none q
  no_fault_at_all none count right WrongCount = count
  no_fault_at_all none count right (NotAPlace q) = (right q).is_place
  no_fault_at_all none count right (Repeated q) = (right q).not_repeated
  no_fault_at_all none count right (OutOfOrder q) = (right q).in_order
  no_fault_at_all none count right (WrongHit q) = (right q).hits_latest

  by_places : ((p : ℕ) → ¬ HasFault h c (BadInterval p)) → ¬ HasFault h c WrongCount → IsAccepted h c ⊎ ((fault : Fault) × IsFirstFault h c fault)
  by_places none count = elim (least IsWrong wrong_place_or_not (length c)) [
    | inl found ↦
        let first = first_here found.0 (λ q less. right_place q (found.1.none q less)) found.1.holds in
        inr (first.0, record { found = first.1.0; first = none_earlier none count first.0 first.1 })
    | inr right ↦
        inl (accepted h c (no_fault_at_all none count (λ place. elim (cases_lt place (length c)) [ inl less ↦ right_place place (right place less) | inr past ↦ past_right place past ])))
  ]

  pub accepted_or_first : IsAccepted h c ⊎ ((fault : Fault) × IsFirstFault h c fault)
  accepted_or_first = elim (least (λ p. HasFault h c (BadInterval p)) (λ p. fault_or_not h c (BadInterval p)) (length h)) [
    | inl found ↦ inr (BadInterval found.0, record { found = found.1.holds; first = none_in_round_1 found.0 found.1.none })
    | inr good ↦ elim (fault_or_not h c WrongCount) [
      | inl wrong ↦ inr (WrongCount, record { found = wrong; first = none_in_round_2 (good_intervals good) })
      | inr count ↦ by_places (good_intervals good) count
    ]
  ]

-- ---- one first fault

before_or_same : (a b : Moment) → IsBefore a b ⊎ (IsBefore b a ⊎ (a ≡ b))
before_or_same a b = elim (cases_before a.round b.round) [
  | inl less ↦ inl (inl less)
  | inr rounds ↦ elim rounds [
    | inl round ↦ elim (cases_before a.place b.place) [
      | inl less ↦ inl (inr (round, inl less))
      | inr places ↦ elim places [
        | inl place ↦ elim (cases_before a.test b.test) [
          | inl less ↦ inl (inr (round, inr (place, less)))
          | inr tests ↦ elim tests [
            | inl test ↦ inr (inr (λ i. moment (round i) (place i) (test i)))
            | inr more ↦ inr (inl (inr (sym round, inr (sym place, more))))
          ]
        ]
        | inr more ↦ inr (inl (inr (sym round, inl more)))
      ]
    ]
    | inr more ↦ inr (inl (inl more))
  ]
]

-- the fault that is tested at a moment
abbrev tested : Moment → Fault
tested m = if m.round == 1 then BadInterval m.place else (if m.round == 2 then WrongCount else (if m.test == 1 then NotAPlace m.place else (if m.test == 2 then Repeated m.place else (if m.test == 3 then OutOfOrder m.place else WrongHit m.place))))

tested_again : (fault : Fault) → tested (tested_at fault) ≡ fault
tested_again (BadInterval position) = refl
tested_again WrongCount = refl
tested_again (NotAPlace place) = refl
tested_again (Repeated place) = refl
tested_again (OutOfOrder place) = refl
tested_again (WrongHit place) = refl

pub one_first_fault : (h : List Call) (c : List ℕ) (one other : Fault) → IsFirstFault h c one → IsFirstFault h c other → one ≡ other
one_first_fault h c one other a b = elim (before_or_same (tested_at one) (tested_at other)) [
  | inl less ↦ absurd (b.first one less a.found)
  | inr rest ↦ elim rest [
    | inl less ↦ absurd (a.first other less b.found)
    | inr same ↦ sym (tested_again one) ∙ ap tested same ∙ tested_again other
  ]
]
