-- The ends of a lane's claimed calls, and the calls with their ends.
use Rattle.std.proofs.Common.{◌≡◌, ◌≢◌, ℕ, zero, suc, List, [], ◌∷◌, ◌++◌, length, map, replicate, Option, Some, None, slice_get, set, All, sum_by, sym, refl, ap, ◌∙◌, arith, subst, append_assoc}
use Rattle.std.proofs.lemmas.List.Elements.{All-cons, All-nil}
use Rattle.std.proofs.lemmas.List.Sums.{sum_by-cons}
use Rattle.std.proofs.lemmas.Option.{same_Some}
use mathlib.Core.List.{map-append}
use Rattle.std.specs.Option.{option_map, option_map_or}
use Rattle.trace_file.specs.declared.call.Call.{Call}
use Rattle.certificate_checker.specs.declared.done.Done.{Done}
use Rattle.recorded_lane.specs.declared.noted.Noted.{Noted}
use Rattle.recorded_lane.specs.Points.{noted_in}
use Rattle.history_recorder.specs.Done.{done_with, dones_in}
use Rattle.shared_cache.specs.Claimed.{AreClaimed, Fits, IsEnded, IsFirstFree, IsTaken, noted_of, slots_in, weigh_slots}
use Rattle.shared_cache.specs.Listed.{Listed}
use Rattle.shared_cache.specs.Finished.{done_of}
use Rattle.shared_cache.proofs.Blaming.{all_taken, first_free}

abbrev no_end : Option ℕ
no_end = None

abbrev no_done : Option Done
no_done = None

pub slots_none : (cs : List Call) (n : ℕ) → n ≡ length cs → slots_in cs (replicate n None) ≡ replicate n None
slots_none [] zero is = refl
slots_none [] (suc n) is = absurd cc
slots_none (c ∷ cs) zero is = absurd cc
slots_none (c ∷ cs) (suc n) is = ap (λ (r : List (Option Done)). no_done ∷ r) (slots_none cs n (omega (arith, is)))

-- the slot of a call, by its end
slot_at : (cs : List Call) (es : List (Option ℕ)) (i : ℕ) (c : Call) (e : Option ℕ) → slice_get cs i ≡ Some c → slice_get es i ≡ Some e → slice_get (slots_in cs es) i ≡ Some (option_map (done_with c) e)
slot_at [] es i c e at there = absurd cc
slot_at (x ∷ cs) [] i c e at there = absurd cc
slot_at (x ∷ cs) (y ∷ es) zero c e at there = let a = same_Some x c at in let b = same_Some y e there in rw (a, b) refl
slot_at (x ∷ cs) (y ∷ es) (suc i) c e at there = slot_at cs es i c e at there

-- a call gets its end
pub slots_set : (cs : List Call) (es : List (Option ℕ)) (i : ℕ) (c : Call) (end : ℕ) → slice_get cs i ≡ Some c → slots_in cs (set es i (Some end)) ≡ set (slots_in cs es) i (Some (done_with c end))
slots_set [] es i c end at = absurd cc
slots_set (x ∷ cs) [] i c end at = refl
slots_set (x ∷ cs) (y ∷ es) zero c end at = ap (λ (d : Call). Some (done_with d end) ∷ slots_in cs es) (same_Some x c at)
slots_set (x ∷ cs) (y ∷ es) (suc i) c end at = ap (λ (r : List (Option Done)). option_map (done_with x) y ∷ r) (slots_set cs es i c end at)

-- each call has its end
pub closed_slots : (cs : List Call) (all : List ℕ) → slots_in cs (map Some all) ≡ map Some (dones_in cs all)
closed_slots [] all = refl
closed_slots (c ∷ cs) [] = refl
closed_slots (c ∷ cs) (e ∷ all) = ap (λ (r : List (Option Done)). Some (done_with c e) ∷ r) (closed_slots cs all)

closed_calls : (cs : List Call) (all : List ℕ) → length all ≡ length cs → map noted_of (dones_in cs all) ≡ map noted_in cs
closed_calls [] [] many = refl
closed_calls [] (e ∷ all) many = absurd cc
closed_calls (c ∷ cs) [] many = absurd cc
closed_calls (c ∷ cs) (e ∷ all) many = ap (λ (r : List Noted). noted_in c ∷ r) (closed_calls cs all (omega (arith, many)))

closed_weigh : (h : Done → ℕ) (ds : List Done) → sum_by h ds ≡ weigh_slots h (map Some ds)
closed_weigh h [] = refl
closed_weigh h (d ∷ ds) =
    let a = sum_by-cons h d ds in
    let b = sum_by-cons (λ (s : Option Done). option_map_or h s 0) (Some d) (map Some ds) in
    let rest = closed_weigh h ds in
    omega (arith, a, b, rest)

closed_ended : (ns : List Noted) (ds : List Done) → AreClaimed ns (map Some ds) → All IsEnded ds
closed_ended ns [] claimed = All-nil IsEnded
closed_ended [] (d ∷ ds) claimed = absurd claimed
closed_ended (n ∷ ns) (d ∷ ds) claimed = All-cons IsEnded d ds claimed.0.1 (closed_ended ns ds claimed.1)

-- a call has none after those that have one
pub open_slots : (cs : List Call) (all : List ℕ) (left : List (Option ℕ)) → length (map Some all ++ no_end ∷ left) ≡ length cs
    → (rest : List (Option Done)) × (slots_in cs (map Some all ++ no_end ∷ left) ≡ map Some (dones_in cs all) ++ no_done ∷ rest) × (length (dones_in cs all) ≡ length all)
open_slots [] [] left many = absurd cc
open_slots (c ∷ cs) [] left many = (slots_in cs left, refl, refl)
open_slots [] (e ∷ all) left many = absurd cc
open_slots (c ∷ cs) (e ∷ all) left many =
    let r = open_slots cs all left (omega (arith, many)) in
    (r.0, ap (λ (s : List (Option Done)). Some (done_with c e) ∷ s) r.1, ap suc r.2)

-- what is said of a lane that is closed
module _ (cs : List Call) (ends : List (Option ℕ)) (all : List ℕ) (many : length ends ≡ length cs) (claimed : AreClaimed (map noted_in cs) (slots_in cs ends)) (is : ends ≡ map Some all) where
  same_slots : slots_in cs ends ≡ map Some (dones_in cs all)
  same_slots = ap (slots_in cs) is ∙ closed_slots cs all

  pub many_closed : length all ≡ length cs
  many_closed = let a = ap length is in let b = map_length all in omega (arith, a, b, many)
    where
      map_length : (es : List ℕ) → length (map (λ e. Some e) es) ≡ length es
      map_length [] = refl
      map_length (e ∷ es) = ap suc (map_length es)

  pub weighed : (h : Done → ℕ) → sum_by h (dones_in cs all) ≡ weigh_slots h (slots_in cs ends)
  weighed h = closed_weigh h (dones_in cs all) ∙ ap (weigh_slots h) (sym same_slots)

  pub calls : map noted_of (dones_in cs all) ≡ map noted_in cs
  calls = closed_calls cs all many_closed

  pub ended : All IsEnded (dones_in cs all)
  ended = closed_ended (map noted_in cs) (dones_in cs all) (subst (AreClaimed (map noted_in cs)) same_slots claimed)

  pub taken : IsTaken (record { calls = map noted_in cs; slots = slots_in cs ends })
  taken = all_taken (record { calls = map noted_in cs; slots = slots_in cs ends }) (dones_in cs all) same_slots

-- what is said of one that is not
pub unclaimed : (cs : List Call) (ends : List (Option ℕ)) (all : List ℕ) (left : List (Option ℕ)) → length ends ≡ length cs → ends ≡ map Some all ++ no_end ∷ left → (n : ℕ) → n ≡ length all → IsFirstFree (slots_in cs ends) n
unclaimed cs ends all left many is n at =
    let r = open_slots cs all left (sym (ap length is) ∙ many) in
    first_free (slots_in cs ends) (dones_in cs all) r.0 n (ap (slots_in cs) is ∙ r.1) (at ∙ sym r.2)

-- ---- a call that is claimed

pub done_so : (c : Call) (l : Listed) → l.call ≡ noted_in c → done_with c l.end ≡ done_of l
done_so c l is = ap (λ (n : Noted). record { call = record { caller = n.caller; start = n.start; end = l.end; key = n.key; act = n.act }; point = n.point }) (sym is)

pub noted_at : (cs : List Call) (i : ℕ) (c : Call) → slice_get cs i ≡ Some c → slice_get (map noted_in cs) i ≡ Some (noted_in c)
noted_at [] i c at = absurd cc
noted_at (x ∷ cs) zero c at = ap (λ (d : Call). Some (noted_in d)) (same_Some x c at)
noted_at (x ∷ cs) (suc i) c at = noted_at cs i c at

-- it fits if it is the call at its position, which has no end
pub fits_so : (cs : List Call) (es : List (Option ℕ)) (l : Listed) (c : Call) → slice_get cs l.position ≡ Some c → slice_get es l.position ≡ Some None → l.call ≡ noted_in c → Fits (record { calls = map noted_in cs; slots = slots_in cs es }) l
fits_so cs es l c at none same = record {
  stands = noted_at cs l.position c at ∙ ap (λ (n : Noted). Some n) (sym same);
  free = slot_at cs es l.position c None at none;
}

-- and not if there is another call,
pub unfit_else : (cs : List Call) (es : List (Option ℕ)) (l : Listed) (c : Call) → slice_get cs l.position ≡ Some c → l.call ≢ noted_in c → ¬ Fits (record { calls = map noted_in cs; slots = slots_in cs es }) l
unfit_else cs es l c at other fits = other (same_Some l.call (noted_in c) (sym fits.stands ∙ noted_at cs l.position c at))

-- or one that has an end
pub unfit_ended : (cs : List Call) (es : List (Option ℕ)) (l : Listed) (e : Option ℕ) → slice_get es l.position ≡ Some e → e ≢ None → ¬ Fits (record { calls = map noted_in cs; slots = slots_in cs es }) l
unfit_ended cs es l e there some fits = closed cs es l.position e there some fits.free
  where
    ended : (d : Call) (f : Option ℕ) → f ≢ None → Some (option_map (done_with d) f) ≢ Some no_done
    ended d None some is = some refl
    ended d (Some end) some is = absurd cc

    closed : (ds : List Call) (fs : List (Option ℕ)) (i : ℕ) (e : Option ℕ) → slice_get fs i ≡ Some e → e ≢ None → slice_get (slots_in ds fs) i ≢ Some None
    closed [] fs i e there some is = absurd cc
    closed (d ∷ ds) [] i e there some is = absurd cc
    closed (d ∷ ds) (f ∷ fs) zero e there some is = ended d f (λ none. some (sym (same_Some f e there) ∙ none)) is
    closed (d ∷ ds) (f ∷ fs) (suc i) e there some is = closed ds fs i e there some is

-- one more has its end
pub more_ended : (ends : List (Option ℕ)) (all : List ℕ) (end : ℕ) (left : List (Option ℕ)) → ends ≡ map Some all ++ Some end ∷ left → ends ≡ map Some (all ++ end ∷ []) ++ left
more_ended ends all end left is = is ∙ sym (ap (λ (front : List (Option ℕ)). front ++ left) (map-append Some all (end ∷ [])) ∙ append_assoc (map Some all) (Some end ∷ []) left)
