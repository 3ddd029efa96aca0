-- A script's own history and certificate are accepted.
use Rattle.std.proofs.Common.{◌≡◌, ◌<◌, ◌≤◌, ◌+◌, ◌*◌, ℕ, zero, suc, List, [], ◌∷◌, ◌++◌, length, take, get_or, map, Some, sym, ap, ◌∙◌, refl, subst, arith}
use Rattle.std.specs.Prelude.{slice_get, option_map, All}
use Rattle.std.specs.List.{range_with_len}
use Rattle.std.proofs.lemmas.List.{take_more, map-append, length-map}
use Rattle.std.proofs.lemmas.Option.{slice_get-map, slice_get_within, get_or_from_slice_get}
use Rattle.trace_file.specs.declared.call.Call.{Call}
use Rattle.certificate_checker.specs.Deeds.{deed_of}
use Rattle.certificate_checker.specs.Orders.{Agrees}
use Rattle.certificate_checker.specs.Latest.{IsLawful}
use Rattle.certificate_checker.specs.Acceptance.{IsAccepted}
use Rattle.recorded_lane.specs.declared.noted.Noted.{Noted}
use Rattle.recorded_lane.specs.Lane.{deed_noted, deeds_of}
use Rattle.recorded_lane.specs.Laws.{AcceptedInTurn}
use Rattle.scripts.specs.Own.{ended, own_history, own_certificate, HasStamps}

-- ---- one more call

pub next_history : (calls : List Noted) (i : ℕ) (n : Noted) → slice_get calls i ≡ Some n → map ended (take i calls) ++ ended n ∷ [] ≡ map ended (take (i + 1) calls)
next_history calls i n e =
    let here = get_or_from_slice_get calls i n n e in
    sym (ap (map ended) (take_more calls i n (slice_get_within calls i n e) ∙ ap (λ m. take i calls ++ m ∷ []) here) ∙ map-append ended (take i calls) (n ∷ []))

range_next : (a n : ℕ) → range_with_len a n ++ (a + n) ∷ [] ≡ range_with_len a (n + 1)
range_next a zero = let e : a + 0 ≡ a = omega arith in ap (λ m. m ∷ []) e
range_next a (suc n) =
    let e : a + suc n ≡ (a + 1) + n = omega arith in
    let f : suc n + 1 ≡ suc (n + 1) = omega arith in
    ap (λ ms. a ∷ ms) (ap (λ m. range_with_len (a + 1) n ++ m ∷ []) e ∙ range_next (a + 1) n) ∙ ap (range_with_len a) (sym f)

pub next_certificate : (n : ℕ) → range_with_len 0 n ++ n ∷ [] ≡ range_with_len 0 (n + 1)
next_certificate n = let e : 0 + n ≡ n = omega arith in ap (λ m. range_with_len 0 n ++ m ∷ []) (sym e) ∙ range_next 0 n

-- ---- ends do not change what calls do

same_deeds : (calls : List Noted) → map deed_noted calls ≡ map deed_of (map ended calls)
same_deeds [] = refl
same_deeds (n ∷ calls) = ap (λ deeds. deed_noted n ∷ deeds) (same_deeds calls)

-- ---- accepted

noted_at : {X : Type 0} (xs : List X) (i : ℕ) → i < length xs → (x : X) × (slice_get xs i ≡ Some x)
noted_at [] i less = absurd (omega arith)
noted_at (x ∷ xs) zero less = (x, refl)
noted_at (x ∷ xs) (suc i) less = noted_at xs i (omega arith)

-- the call at a place, with its numbers
numbered : (calls : List Noted) → HasStamps calls → (i : ℕ) (d : Call) → i < length (map ended calls) → ((get_or (map ended calls) i d).start ≡ 3 * i + 1) × ((get_or (map ended calls) i d).end ≡ 3 * i + 3)
numbered calls stamps i d less =
    let within : i < length calls = omega (arith, length-map calls ended) in
    let n = noted_at calls i within in
    let is : get_or (map ended calls) i d ≡ ended n.0 = get_or_from_slice_get (map ended calls) i (ended n.0) d (slice_get-map ended calls i ∙ ap (option_map ended) n.1) in
    let here = get_or_from_slice_get calls i n.0 n.0 n.1 in
    let stamp = stamps i n.0 within in
    let start : n.0.start ≡ 3 * i + 1 = ap (λ (m : Noted). m.start) (sym here) ∙ stamp.0 in
    let point : n.0.point ≡ 3 * i + 2 = ap (λ (m : Noted). m.point) (sym here) ∙ stamp.1 in
    let last : n.0.point + 1 ≡ 3 * i + 3 = omega (arith, point) in
    (ap (λ (c : Call). c.start) is ∙ start, ap (λ (c : Call). c.end) is ∙ last)

module _ (law : AcceptedInTurn) (recorded : List Noted) (done : IsLawful (deeds_of recorded)) (stamps : HasStamps recorded) where
  abbrev calls : List Call
  calls = own_history recorded

  intervals : All (λ (call : Call). call.start ≤ call.end) calls
  intervals k d within = let h = numbered recorded stamps k d within in omega (arith, h.0, h.1)

  agrees : Agrees calls
  agrees i j d less within precedes =
      let first = numbered recorded stamps i d (omega arith) in
      let second = numbered recorded stamps j d within in
      omega (arith, first.0, second.1, precedes)

  pub accepted : IsAccepted calls (own_certificate recorded)
  accepted = subst (λ n. IsAccepted calls (range_with_len 0 n)) (length-map recorded ended) (law calls intervals agrees (subst IsLawful (same_deeds recorded) done))
