-- A history whose calls stand in an order of theirs is accepted with the certificate 0, 1, 2 and so on.
use Rattle.std.proofs.Common.{◌≡◌, ◌<◌, ◌≤◌, ◌+◌, ℕ, Bool, Option, List, [], ◌∷◌, ◌++◌, length, get_or, map, Some, sym, ap, ◌∙◌, refl, subst, arith, append_assoc}
use Rattle.std.specs.Prelude.{slice_get, All, IsTrue}
use Rattle.std.specs.List.{range_with_len, filter_map}
use Rattle.std.proofs.lemmas.List.{length-map, length_push, get_or-map}
use Rattle.std.proofs.lemmas.List.FromFn.{length-range_with_len, get_or-range_with_len}
use Rattle.trace_file.specs.declared.call.Call.{Call}
use Rattle.certificate_checker.specs.Deeds.{deed_of}
use Rattle.certificate_checker.specs.Orders.{in_order, Agrees}
use Rattle.certificate_checker.specs.Latest.{IsLawful}
use Rattle.certificate_checker.specs.Acceptance.{IsAccepted}
use Rattle.recorded_lane.specs.declared.noted.Noted.{Noted}
use Rattle.recorded_lane.specs.Lane.{Lane, deed_noted, IsRecorded}
use Rattle.recorded_lane.specs.Points.{at_point, noted_in}
use Rattle.recorded_lane.specs.Laws.{AcceptedInTurn}

-- ---- the order is the history

look_up_behind : {X : Type 0} (xs : List X) (x : X) (ys : List X) → slice_get (xs ++ x ∷ ys) (length xs) ≡ Some x
look_up_behind [] x ys = refl
look_up_behind (z ∷ xs) x ys = look_up_behind xs x ys

all_from : (front rest : List Call) → filter_map (slice_get (front ++ rest)) (range_with_len (length front) (length rest)) ≡ rest
all_from front [] = refl
all_from front (x ∷ rest) =
    let one : (front ++ x ∷ []) ++ rest ≡ front ++ x ∷ rest = append_assoc front (x ∷ []) rest in
    let len : length (front ++ x ∷ []) ≡ length front + 1 = length_push front x in
    rw look_up_behind (ap (λ calls. x ∷ calls) (ap (λ (xs : List Call). filter_map (slice_get xs) (range_with_len (length front + 1) (length rest))) (sym one) ∙ ap (λ n. filter_map (slice_get ((front ++ x ∷ []) ++ rest)) (range_with_len n (length rest))) (sym len) ∙ all_from (front ++ x ∷ []) rest))

in_order_all : (calls : List Call) → in_order calls (range_with_len 0 (length calls)) ≡ calls
in_order_all calls = all_from [] calls

pub accepted_in_turn : AcceptedInTurn
accepted_in_turn calls intervals agrees lawful =
    let n = length calls in
    record {
      intervals = intervals;
      spelled = record {
        positions = λ k d less.
            let within : k < n = omega (arith, length-range_with_len 0 n) in
            omega (arith, get_or-range_with_len 0 n k d within);
        each = λ p within.
            (p, omega (arith, length-range_with_len 0 n), get_or-range_with_len 0 n p p within ∙ omega arith);
        once = λ i j d less within same.
            let inside : j < n = omega (arith, length-range_with_len 0 n) in
            omega (arith, get_or-range_with_len 0 n i d (omega arith), get_or-range_with_len 0 n j d inside, same);
      };
      agrees = subst Agrees (sym (in_order_all calls)) agrees;
      lawful = subst (λ cs. IsLawful (map deed_of cs)) (sym (in_order_all calls)) lawful;
    }

-- ---- each call at its point

same_deeds : (calls : List Noted) → map deed_noted calls ≡ map deed_of (map at_point calls)
same_deeds [] = refl
same_deeds (n ∷ calls) = ap (λ deeds. deed_noted n ∷ deeds) (same_deeds calls)

-- the call at a place is the recorded one there
kept_at : (calls : List Noted) (i : ℕ) (d : Call) → i < length (map at_point calls) → get_or (map at_point calls) i d ≡ at_point (get_or calls i (noted_in d))
kept_at calls i d within = get_or-map at_point calls i (noted_in d) d (omega (arith, length-map calls at_point))

module _ {D : Type 0} (honest : D → Bool) (held : D → ℕ → Option (List ℕ)) (lane : Lane D) (recorded : IsRecorded honest held lane) where
  -- the recorded calls, each ended at its point
  abbrev ended_calls : List Call
  ended_calls = map at_point lane.calls

  all : length ended_calls ≡ length lane.calls
  all = length-map lane.calls at_point

  intervals : All (λ (call : Call). call.start ≤ call.end) ended_calls
  intervals k d within =
      let started = recorded.starts k (noted_in d) (omega (arith, all)) in
      subst (λ (c : Call). c.start ≤ c.end) (sym (kept_at lane.calls k d within)) (omega (arith, started))

  agrees : Agrees ended_calls
  agrees i j d less within precedes =
      let started = recorded.starts i (noted_in d) (omega (arith, all)) in
      let rises = recorded.points i j (noted_in d) less (omega (arith, all)) in
      let start = ap (λ (c : Call). c.start) (kept_at lane.calls i d (omega arith)) in
      let end = ap (λ (c : Call). c.end) (kept_at lane.calls j d within) in
      omega (arith, started, rises, start, end, precedes)

  accepted_at_points : IsTrue (honest lane.store.device) → IsAccepted ended_calls (range_with_len 0 (length lane.calls))
  accepted_at_points is = subst (λ n. IsAccepted ended_calls (range_with_len 0 n)) all (accepted_in_turn ended_calls intervals agrees (subst IsLawful (same_deeds lane.calls) (recorded.lawful is)))

  -- the same, of a history that is told by an equation
  pub recorded_accepted : (history : List Call) → history ≡ ended_calls → IsTrue (honest lane.store.device) → IsAccepted history (range_with_len 0 (length lane.calls))
  recorded_accepted history same is = subst (λ h. IsAccepted h (range_with_len 0 (length lane.calls))) (sym same) (accepted_at_points is)
