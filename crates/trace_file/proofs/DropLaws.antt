-- Without its last entry and that entry's bytes a store keeps the other calls.
use Rattle.std.proofs.Common.{◌≡◌, ℕ, ◌+◌, ◌-◌, ◌≤◌, List, [], ◌∷◌, ◌++◌, length, take, drop, get_or, All, AllPairs, refl, sym, ap, subst, ◌∙◌, arith}
use Rattle.std.proofs.lemmas.List.{length-take-le, length_push, get_or_append_left, get_or_push, map_push, take-append-drop}
use Rattle.std.proofs.Math.Seq.{take-append_seam}
use Rattle.trace_file.specs.declared.call.Call.{Call}
use Rattle.trace_file.specs.declared.stored_call.StoredCall.{StoredCall}
use Rattle.trace_file.specs.Stored.{call_in, calls_in, LiesIn, AreStored}
use Rattle.trace_file.proofs.public_laws.StoreLaws.{calls_in-more}

-- a list less the element that was pushed last
before_last : {X : Type 0} (xs : List X) (x : X) → take (length (xs ++ x ∷ []) - 1) (xs ++ x ∷ []) ≡ xs
before_last xs x =
    let n : length (xs ++ x ∷ []) - 1 ≡ length xs = omega (arith, length_push xs x) in
    ap (λ m. take m (xs ++ x ∷ [])) n ∙ take-append_seam xs (x ∷ [])

-- an entry before the last lies before the last one's bytes
lies_before : (size : ℕ) (a e : StoredCall) → LiesIn size a → a.offset + a.key_len + a.value_len ≤ e.offset → LiesIn e.offset a
lies_before size a e lies before = record {
  caller = lies.caller;
  start = lies.start;
  end = lies.end;
  time = lies.time;
  some_key = lies.some_key;
  key = lies.key;
  value = lies.value;
  room = before;
}

module _ (store : List ℕ) (front : List StoredCall) (e : StoredCall) (stored : AreStored (length store) (front ++ e ∷ [])) where
  -- the store up to the last entry's bytes
  abbrev kept : List ℕ
  kept = take e.offset store

  all : length (front ++ e ∷ []) ≡ length front + 1
  all = length_push front e

  kept_len : length kept ≡ e.offset
  kept_len =
      let is : get_or (front ++ e ∷ []) (length front) e ≡ e = get_or_push front e e (length front) refl in
      let last = subst (LiesIn (length store)) is (stored.lie (length front) e (omega (arith, all))) in
      length-take-le e.offset store (omega (arith, last.room))

  lie_before : All (LiesIn e.offset) front
  lie_before k d within =
      let here : get_or (front ++ e ∷ []) k d ≡ get_or front k d = get_or_append_left front (e ∷ []) d k within in
      let last : get_or (front ++ e ∷ []) (length front) d ≡ e = get_or_push front e d (length front) refl in
      let lies = subst (LiesIn (length store)) here (stored.lie k d (omega (arith, all))) in
      let before = stored.behind k (length front) d within (omega (arith, all)) in
      let before' = subst (λ (a : StoredCall). a.offset + a.key_len + a.value_len ≤ (get_or (front ++ e ∷ []) (length front) d).offset) here before in
      lies_before (length store) (get_or front k d) e lies (subst (λ (b : StoredCall). (get_or front k d).offset + (get_or front k d).key_len + (get_or front k d).value_len ≤ b.offset) last before')

  still_behind : AllPairs (λ (a b : StoredCall). a.offset + a.key_len + a.value_len ≤ b.offset) front
  still_behind i j d less within =
      let first : get_or (front ++ e ∷ []) i d ≡ get_or front i d = get_or_append_left front (e ∷ []) d i (omega arith) in
      let second : get_or (front ++ e ∷ []) j d ≡ get_or front j d = get_or_append_left front (e ∷ []) d j within in
      let before = stored.behind i j d less (omega (arith, all)) in
      let before' = subst (λ (a : StoredCall). a.offset + a.key_len + a.value_len ≤ (get_or (front ++ e ∷ []) j d).offset) first before in
      subst (λ (b : StoredCall). (get_or front i d).offset + (get_or front i d).key_len + (get_or front i d).value_len ≤ b.offset) second before'

  stored_without : AreStored (length kept) front
  stored_without = record {
    lie = subst (λ n. All (LiesIn n) front) (sym kept_len) lie_before;
    behind = still_behind;
  }

  -- the calls of the entries before the last, in the store without its bytes
  calls_without : calls_in kept front ≡ take (length (calls_in store (front ++ e ∷ [])) - 1) (calls_in store (front ++ e ∷ []))
  calls_without =
      let same : calls_in (kept ++ drop e.offset store) front ≡ calls_in kept front = calls_in-more kept (drop e.offset store) front stored_without.lie in
      let whole : kept ++ drop e.offset store ≡ store = take-append-drop e.offset store in
      let pushed : calls_in store (front ++ e ∷ []) ≡ calls_in store front ++ call_in store e ∷ [] = map_push (call_in store) front e in
      sym same ∙ ap (λ s. calls_in s front) whole
      ∙ sym (ap (λ (cs : List Call). take (length cs - 1) cs) pushed ∙ before_last (calls_in store front) (call_in store e))

-- the same, of lists that are given by equations
pub stored_after_drop : (store new : List ℕ) (es front : List StoredCall) (e : StoredCall) → AreStored (length store) es → es ≡ front ++ e ∷ [] → new ≡ take e.offset store → AreStored (length new) front
stored_after_drop store new es front e stored is cut =
    subst (λ s. AreStored (length s) front) (sym cut) (stored_without store front e (subst (AreStored (length store)) is stored))

pub calls_after_drop : (store new : List ℕ) (es front : List StoredCall) (e : StoredCall) (calls : List Call) → AreStored (length store) es → calls_in store es ≡ calls → es ≡ front ++ e ∷ [] → new ≡ take e.offset store
    → calls_in new front ≡ take (length calls - 1) calls
calls_after_drop store new es front e calls stored are is cut =
    ap (λ s. calls_in s front) cut
    ∙ calls_without store front e (subst (AreStored (length store)) is stored)
    ∙ ap (λ (xs : List Call). take (length xs - 1) xs) (ap (calls_in store) (sym is) ∙ are)
