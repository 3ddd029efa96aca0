-- Histories that are picked from a longer one: their certificates are the lawful lines of the positions picked.
use Rattle.std.proofs.Common.{◌≡◌, ◌≢◌, ℕ, ◌+◌, ◌<◌, ◌≤◌, zero, suc, Some, None, List, [], ◌∷◌, ◌++◌, length, refl, sym, ap, ◌∙◌, subst, arith, inl, inr}
use Rattle.std.specs.Prelude.{All, map, slice_get}
use Rattle.std.specs.List.{cons_option, filter_map}
use Rattle.std.proofs.lemmas.Bool.{cases_eq, cases_order}
use Rattle.trace_file.specs.declared.call.Call.{Call}
use Rattle.certificate_checker.specs.Acceptance.{IsAccepted}
use Rattle.certificate_checker.specs.Deeds.{deed_of}
use Rattle.certificate_checker.specs.Latest.{IsLawful}
use Rattle.certificate_checker.specs.Orders.{Agrees, in_order}
use Rattle.certificate_checker.proofs.public_laws.Accepting.{found_at}
use Rattle.certificate_checker.proofs.public_laws.Layouts.{picked_pairs}
use Rattle.certificate_checker.proofs.public_laws.Listing.{Member, contained_member, member_all, member_at, member_contained, member_picked, pairs_at, pairs_from, pairs_picked, pairs_to, pairs_weaker, picked_member, place_of}
use Rattle.history_window.specs.Standing.{Acceptable}
use Rattle.history_window.proofs.Ahead.{Once}
use Rattle.history_window.proofs.Lining.{AgreesLine, IsLawfulLine, agrees_from, agrees_to, lawful_from, lawful_to}

-- ---- look-ups

pub look_left : {X : Type 0} (xs ys : List X) (i : ℕ) → i < length xs → slice_get (xs ++ ys) i ≡ slice_get xs i
look_left [] ys i less = absurd (omega arith)
look_left (x ∷ xs) ys zero less = refl
look_left (x ∷ xs) ys (suc i) less = look_left xs ys i (omega arith)

-- a look-up past the end finds nothing
look_past : {X : Type 0} (xs : List X) (i : ℕ) → length xs ≤ i → slice_get xs i ≡ None
look_past [] i past = refl
look_past (x ∷ xs) zero past = absurd (omega arith)
look_past (x ∷ xs) (suc i) past = look_past xs i (omega arith)

pub none_past : {X : Type 0} (xs : List X) (i : ℕ) → slice_get xs i ≡ None → length xs ≤ i
none_past [] i none = omega arith
none_past (x ∷ xs) zero none = cc
none_past (x ∷ xs) (suc i) none = let past = none_past xs i none in omega (arith, past)

-- in a list without repetition each element has one place
pub one_place : (xs : List ℕ) (i j p : ℕ) → Once xs → slice_get xs i ≡ Some p → slice_get xs j ≡ Some p → i ≡ j
one_place xs i j p once at_i at_j = elim (cases_order i j) [
  | inl same ↦ same
  | inr rest ↦ elim rest [
    | inl less ↦ absurd (pairs_at (λ (p q : ℕ). p ≢ q) xs i j p p less at_i at_j once refl)
    | inr more ↦ absurd (pairs_at (λ (p q : ℕ). p ≢ q) xs j i p p more at_j at_i once refl)
  ]
]

-- ---- positions of a list that stands after another one

abbrev pub run : ℕ → ℕ → List ℕ
run n zero = []
run n (suc k) = n ∷ run (suc n) k

pub run_from : (n k p : ℕ) → Member p (run n k) → (n ≤ p) × (p < n + k)
run_from n zero p m = absurd m
run_from n (suc k) p m = elim m [
  | inl e ↦ (omega (arith, e), omega (arith, e))
  | inr later ↦ let l = run_from (suc n) k p later in let a = l.0 in let b = l.1 in (omega (arith, a), omega (arith, b))
]

pub in_run : (n k p : ℕ) → n ≤ p → p < n + k → Member p (run n k)
in_run n zero p low high = absurd (omega (arith, low, high))
in_run n (suc k) p low high = elim (cases_eq p n) [
  | inl same ↦ inl same
  | inr other ↦ inr (in_run (suc n) k p (omega (arith, low, other)) (omega (arith, high)))
]

pub run_once : (n k : ℕ) → Once (run n k)
run_once n zero = tt
run_once n (suc k) = (λ q m same. let l = run_from (suc n) k q m in let a = l.0 in omega (arith, a, same), run_once (suc n) k)

pub run_finds : {X : Type 0} (whole : List X) (n : ℕ) (xs : List X) → ((k : ℕ) (x : X) → slice_get xs k ≡ Some x → slice_get whole (n + k) ≡ Some x) → filter_map (slice_get whole) (run n (length xs)) ≡ xs
run_finds whole n [] each = refl
run_finds whole n (x ∷ xs) each =
    let here : slice_get whole n ≡ Some x = ap (slice_get whole) (omega arith) ∙ each 0 x refl in
    let rest = run_finds whole (suc n) xs (λ k y at. ap (slice_get whole) (omega arith) ∙ each (suc k) y at) in
    rw here (ap (λ l. x ∷ l) rest)

pub look_after : {X : Type 0} (xs ys : List X) (k : ℕ) (y : X) → slice_get ys k ≡ Some y → slice_get (xs ++ ys) (length xs + k) ≡ Some y
look_after [] ys k y at = ap (slice_get ys) (omega arith) ∙ at
look_after (x ∷ xs) ys k y at = ap (slice_get (x ∷ (xs ++ ys))) (let e : length (x ∷ xs) + k ≡ suc (length xs + k) = omega arith in e) ∙ look_after xs ys k y at

-- what stands after a list is found at the positions that follow it
pub run_picks : {X : Type 0} (xs ys : List X) → filter_map (slice_get (xs ++ ys)) (run (length xs) (length ys)) ≡ ys
run_picks xs ys = run_finds (xs ++ ys) (length xs) ys (λ k y at. look_after xs ys k y at)

-- positions of a list have the same elements in a longer one
pub same_picks : {X : Type 0} (xs ys : List X) (positions : List ℕ) → ((p : ℕ) → Member p positions → p < length xs) → filter_map (slice_get (xs ++ ys)) positions ≡ filter_map (slice_get xs) positions
same_picks xs ys [] within = refl
same_picks xs ys (p ∷ positions) within =
    ap (λ o. cons_option o (filter_map (slice_get (xs ++ ys)) positions)) (look_left xs ys p (within p (inl refl)))
    ∙ ap (cons_option (slice_get xs p)) (same_picks xs ys positions (λ q m. within q (inr m)))

-- ---- a history picked from a longer one

-- a lawful line of some positions, each once, that agrees with time
pub record IsLineOf (history : List Call) (positions line : List ℕ) : Type 0 where
  pub only : (p : ℕ) → Member p line → Member p positions
  pub each : (p : ℕ) → Member p positions → Member p line
  pub once : Once line
  pub agrees : AgreesLine history line
  pub lawful : IsLawfulLine history line

module _ (history : List Call) where
  pub look_picked : (positions : List ℕ) → ((p : ℕ) → Member p positions → p < length history) → (i p : ℕ) → slice_get positions i ≡ Some p → slice_get (in_order history positions) i ≡ slice_get history p
  look_picked [] within i p at = cc
  look_picked (q ∷ positions) within zero p at =
      let call = found_at history q (within q (inl refl)) in
      let same : q ≡ p = cc in
      let here : slice_get (in_order history (q ∷ positions)) zero ≡ Some call.0 = rw call.1 refl in
      here ∙ sym call.1 ∙ ap (slice_get history) same
  look_picked (q ∷ positions) within (suc i) p at =
      let call = found_at history q (within q (inl refl)) in
      let here : slice_get (in_order history (q ∷ positions)) (suc i) ≡ slice_get (in_order history positions) i = rw call.1 refl in
      here ∙ look_picked positions (λ r m. within r (inr m)) i p at

  as_long : (positions : List ℕ) → ((p : ℕ) → Member p positions → p < length history) → length (in_order history positions) ≡ length positions
  as_long [] within = refl
  as_long (q ∷ positions) within =
      let call = found_at history q (within q (inl refl)) in
      let rest = as_long positions (λ r m. within r (inr m)) in
      let here : length (in_order history (q ∷ positions)) ≡ suc (length (in_order history positions)) = rw call.1 refl in
      omega (arith, here, rest)

  module _ (positions : List ℕ) (within : (p : ℕ) → Member p positions → p < length history) (distinct : Once positions) where
    abbrev chosen : List Call
    chosen = in_order history positions

    abbrev pub spelled : List ℕ → List ℕ
    spelled certificate = filter_map (slice_get positions) certificate

    look_none : (i : ℕ) → slice_get positions i ≡ None → slice_get chosen i ≡ None
    look_none i none = look_past chosen i (let past = none_past positions i none in let long = as_long positions within in omega (arith, past, long))

    -- picking twice
    pub twice : (certificate : List ℕ) → in_order chosen certificate ≡ in_order history (spelled certificate)
    twice [] = refl
    twice (i ∷ certificate) =
        elim (slice_get positions i) as (λ o. slice_get positions i ≡ o → in_order chosen (i ∷ certificate) ≡ in_order history (cons_option o (spelled certificate))) [
          | None ↦ λ is. rw (look_none i is) (twice certificate)
          | Some p ↦ λ is. ap (λ o. cons_option o (in_order chosen certificate)) (look_picked positions within i p is) ∙ ap (cons_option (slice_get history p)) (twice certificate)
        ] refl

    -- ---- from a certificate to a line

    pub spelled_once : (certificate : List ℕ) → Once certificate → Once (spelled certificate)
    spelled_once certificate once =
        pairs_picked (slice_get positions) (λ (p q : ℕ). p ≢ q) (λ (p q : ℕ). p ≢ q) certificate
        (λ i j p q at_p at_q apart same. apart (one_place positions i j p distinct at_p (at_q ∙ ap Some (sym same)))) once

    pub line_of : (certificate : List ℕ) → IsAccepted chosen certificate → IsLineOf history positions (spelled certificate)
    line_of certificate a =
        let once = spelled_once certificate (pairs_from (λ (p q : ℕ). p ≢ q) certificate a.spelled.once) in
        record {
          only = λ p m. let found = member_picked (slice_get positions) certificate p m in member_at positions found.0 p found.2;
          each = λ p m.
              let place = place_of positions p m in
              let long = as_long positions within in
              let less = place.1 in
              picked_member (slice_get positions) certificate place.0 p (member_contained certificate place.0 (a.spelled.each place.0 (omega (arith, less, long)))) place.2;
          once = once;
          agrees = agrees_to history (spelled certificate) once (subst Agrees (twice certificate) a.agrees);
          lawful = lawful_to history (spelled certificate) once (subst (λ calls. IsLawful (map deed_of calls)) (twice certificate) a.lawful);
        }

    -- ---- and back

    indices : (line : List ℕ) → ((p : ℕ) → Member p line → Member p positions) → (certificate : List ℕ) × (spelled certificate ≡ line) × ((i : ℕ) → Member i certificate → i < length positions)
    indices [] only = ([], refl, λ i m. absurd m)
    indices (p ∷ line) only =
        let place = place_of positions p (only p (inl refl)) in
        let rest = indices line (λ q m. only q (inr m)) in (
          place.0 ∷ rest.0,
          ap (λ o. cons_option o (spelled rest.0)) place.2 ∙ ap (λ l. p ∷ l) rest.1,
          λ i m. elim m [ inl same ↦ let less = place.1 in omega (arith, less, same) | inr later ↦ rest.2 i later ],
        )

    indices_once : (certificate : List ℕ) → ((i : ℕ) → Member i certificate → i < length positions) → Once (spelled certificate) → Once certificate
    indices_once certificate below once =
        pairs_weaker (λ i j. (p q : ℕ) → slice_get positions i ≡ Some p → slice_get positions j ≡ Some q → p ≢ q) (λ (i j : ℕ). i ≢ j) certificate
        (λ i j l m apart same. let p = found_at positions i (below i l) in apart p.0 p.0 p.1 (ap (slice_get positions) (sym same) ∙ p.1) refl)
        (picked_pairs (slice_get positions) (λ (p q : ℕ). p ≢ q) certificate once)

    pub line_accepted : (line : List ℕ) → IsLineOf history positions line → All (λ call. call.start ≤ call.end) chosen → Acceptable chosen
    line_accepted line is intervals =
        let made = indices line is.only in
        let certificate = made.0 in
        let same : spelled certificate ≡ line = made.1 in
        let long = as_long positions within in
        let calls : in_order history line ≡ in_order chosen certificate = ap (in_order history) (sym same) ∙ sym (twice certificate) in (
          certificate,
          record {
            intervals = intervals;
            spelled = record {
              positions = member_all (λ i. i < length chosen) certificate (λ i m. let less = made.2 i m in omega (arith, less, long));
              each = λ i less.
                  let p = found_at positions i (omega (arith, less, long)) in
                  let there = is.each p.0 (member_at positions i p.0 p.1) in
                  let found = member_picked (slice_get positions) certificate p.0 (subst (Member p.0) (sym same) there) in
                  contained_member certificate i (subst (λ j. Member j certificate) (one_place positions found.0 i p.0 distinct found.2 p.1) found.1);
              once = pairs_to (λ (i j : ℕ). i ≢ j) certificate (indices_once certificate made.2 (subst (λ l. Once l) (sym same) is.once));
            };
            agrees = subst Agrees calls (agrees_from history line is.once is.agrees);
            lawful = subst (λ cs. IsLawful (map deed_of cs)) calls (lawful_from history line is.once is.lawful);
          },
        )
