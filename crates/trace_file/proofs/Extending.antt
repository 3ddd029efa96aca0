-- A store that is put after another keeps its calls.
use Rattle.std.proofs.Common.{◌≡◌, ℕ, zero, suc, ◌+◌, ◌<◌, ◌≤◌, ◌^◌, List, [], ◌∷◌, ◌++◌, length, take, drop, get_or, set, All, AllPairs, refl, sym, ap, subst, ◌∙◌, arith, append_assoc, length-append}
use Rattle.std.proofs.lemmas.List.{drop-drop, drop_at, take_all, take_more}
use Rattle.std.proofs.lemmas.List.Elements.{All-append, All-weaker}
use Rattle.std.proofs.lemmas.List.Kept.{AllPairs-cons}
use mathlib.Core.List.{map-append}
use Rattle.trace_file.specs.declared.call.Call.{Call}
use Rattle.trace_file.specs.declared.stored_call.StoredCall.{StoredCall}
use Rattle.trace_file.specs.Ending.{ending_at, each_ending}
use Rattle.trace_file.specs.Stored.{part, act_of, call_in, calls_in, each_ended, moved_by, each_moved, LiesIn, AreStored}
use Rattle.trace_file.proofs.public_laws.StoreLaws.{calls_in-more}

-- the bytes after other ones
part-behind : (front store : List ℕ) (bytes offset len : ℕ) → length front ≡ bytes → part (offset + bytes) len (front ++ store) ≡ part offset len store
part-behind front store bytes offset len at =
    let far : offset + bytes ≡ bytes + offset = omega arith in
    ap (λ n. take len (drop n (front ++ store))) far
    ∙ ap (take len) (sym (drop-drop offset bytes (front ++ store)) ∙ ap (drop offset) (drop_at front store bytes at))

-- the call of an entry that was moved
moved_call : (front store : List ℕ) (bytes : ℕ) (e : StoredCall) (end : ℕ) → length front ≡ bytes → call_in (front ++ store) (moved_by bytes e end) ≡ ending_at (call_in store e) end
unfolding call_in
moved_call front store bytes e end at =
    let key = part-behind front store bytes e.offset e.key_len at in
    let sums : e.offset + bytes + e.key_len ≡ e.offset + e.key_len + bytes = omega arith in
    let value : part (e.offset + bytes + e.key_len) e.value_len (front ++ store) ≡ part (e.offset + e.key_len) e.value_len store =
    ap (λ n. part n e.value_len (front ++ store)) sums ∙ part-behind front store bytes (e.offset + e.key_len) e.value_len at in
    λ i. record { caller = e.caller; start = e.start; end = end; key = key i; act = act_of e.kind (value i) e.time }

-- the calls of entries that were moved
moved_calls : (front store : List ℕ) (bytes : ℕ) (es : List StoredCall) (ends : List ℕ) → length front ≡ bytes → calls_in (front ++ store) (each_moved bytes es ends) ≡ each_ending (calls_in store es) ends
moved_calls front store bytes [] ends at = refl
moved_calls front store bytes (e ∷ es) [] at = refl
moved_calls front store bytes (e ∷ es) (end ∷ ends) at =
    let one = moved_call front store bytes e end at in
    let others = moved_calls front store bytes es ends at in
    λ i. one i ∷ others i

-- as many entries
length_moved : (bytes : ℕ) (es : List StoredCall) (ends : List ℕ) → length ends ≡ length es → length (each_moved bytes es ends) ≡ length es
length_moved bytes [] ends many = refl
length_moved bytes (e ∷ es) [] many = absurd cc
length_moved bytes (e ∷ es) (end ∷ ends) many = let rest = length_moved bytes es ends (omega arith) in omega arith

-- the entry at a place
moved_at : (bytes : ℕ) (es : List StoredCall) (ends : List ℕ) (k : ℕ) (d : StoredCall) (end : ℕ) → length ends ≡ length es → k < length es
    → get_or (each_moved bytes es ends) k d ≡ moved_by bytes (get_or es k d) (get_or ends k end)
moved_at bytes [] ends k d end many low = absurd (omega arith)
moved_at bytes (e ∷ es) [] k d end many low = absurd cc
moved_at bytes (e ∷ es) (x ∷ ends) zero d end many low = refl
moved_at bytes (e ∷ es) (x ∷ ends) (suc k) d end many low = moved_at bytes es ends k d end (omega arith) (omega arith)

-- one entry more
pub moved_more : (old : List StoredCall) (bytes : ℕ) (es : List StoredCall) (ends : List ℕ) (now new : List StoredCall) (k : ℕ) (e d : StoredCall) (end : ℕ) → length ends ≡ length es → k < length es
    → e ≡ moved_by bytes (get_or es k d) (get_or ends k end)
    → now ≡ old ++ take k (each_moved bytes es ends) → new ≡ now ++ e ∷ [] → new ≡ old ++ take (k + 1) (each_moved bytes es ends)
moved_more old bytes es ends now new k e d end many low is before more =
    let here : get_or (each_moved bytes es ends) k d ≡ e = moved_at bytes es ends k d end many low ∙ sym is in
    let next = take_more (each_moved bytes es ends) k d (omega (arith, length_moved bytes es ends many)) in
    more
    ∙ ap (λ (ls : List StoredCall). ls ++ e ∷ []) before
    ∙ append_assoc old (take k (each_moved bytes es ends)) (e ∷ [])
    ∙ ap (λ (ls : List StoredCall). old ++ ls) (ap (λ (y : StoredCall). take k (each_moved bytes es ends) ++ y ∷ []) (sym here) ∙ sym next)

-- all entries
pub moved_all : (bytes : ℕ) (es : List StoredCall) (ends : List ℕ) (k : ℕ) → length ends ≡ length es → length es ≤ k → take k (each_moved bytes es ends) ≡ each_moved bytes es ends
moved_all bytes es ends k many past = take_all k (each_moved bytes es ends) (omega (arith, length_moved bytes es ends many))

-- two lists, each of whose pairs are related, and whose elements are related to each other
pairs_append : {X : Type 0} (R : X → X → Type 0) (xs ys : List X) → AllPairs R xs → AllPairs R ys
    → ((i j : ℕ) (d : X) → i < length xs → j < length ys → R (get_or xs i d) (get_or ys j d)) → AllPairs R (xs ++ ys)
pairs_append R [] ys left right across = right
pairs_append R (x ∷ xs) ys left right across =
    let first = All-append (R x) xs ys (λ k d low. left zero (suc k) d (omega arith) (omega arith)) (λ k d low. across zero k d (omega arith) low) in
    AllPairs-cons R x (xs ++ ys) first
    (pairs_append R xs ys (λ i j d less within. left (suc i) (suc j) d (omega arith) (omega arith)) right (λ i j d here there. across (suc i) j d (omega arith) there))

module _ (front store : List ℕ) (bytes : ℕ) (old es : List StoredCall) (ends : List ℕ) (at : length front ≡ bytes) (many : length ends ≡ length es)
    (ended : (k : ℕ) → get_or ends k 0 < 2 ^ 64) (were : AreStored (length front) old) (others : AreStored (length store) es) where
  whole : length (front ++ store) ≡ bytes + length store
  whole = omega (arith, length-append front store)

  lie : All (LiesIn (length (front ++ store))) (old ++ each_moved bytes es ends)
  lie = All-append (LiesIn (length (front ++ store))) old (each_moved bytes es ends)
      (All-weaker (LiesIn (length front)) (LiesIn (length (front ++ store))) (λ e lies. record {
        caller = lies.caller;
        start = lies.start;
        end = lies.end;
        time = lies.time;
        some_key = lies.some_key;
        key = lies.key;
        value = lies.value;
        room = omega (arith, whole, lies.room);
      }) old were.lie)
      (λ k d low.
      let low' : k < length es = omega (arith, length_moved bytes es ends many) in
      let lies = others.lie k d low' in
      subst (LiesIn (length (front ++ store))) (sym (moved_at bytes es ends k d 0 many low')) (record {
        caller = lies.caller;
        start = lies.start;
        end = ended k;
        time = lies.time;
        some_key = lies.some_key;
        key = lies.key;
        value = lies.value;
        room = omega (arith, whole, lies.room);
      }))

  behind : AllPairs (λ (a b : StoredCall). a.offset + a.key_len + a.value_len ≤ b.offset) (old ++ each_moved bytes es ends)
  behind = pairs_append (λ (a b : StoredCall). a.offset + a.key_len + a.value_len ≤ b.offset) old (each_moved bytes es ends) were.behind
      (λ i j d less within.
      let low : j < length es = omega (arith, length_moved bytes es ends many) in
      let before = others.behind i j d less low in
      let moved : (moved_by bytes (get_or es i d) (get_or ends i 0)).offset + (get_or es i d).key_len + (get_or es i d).value_len ≤ (moved_by bytes (get_or es j d) (get_or ends j 0)).offset = omega (arith, before) in
      rw (moved_at bytes es ends i d 0 many (omega arith), moved_at bytes es ends j d 0 many low) moved)
      (λ i j d first second.
      let low : j < length es = omega (arith, length_moved bytes es ends many) in
      let lies = were.lie i d first in
      let across : (get_or old i d).offset + (get_or old i d).key_len + (get_or old i d).value_len ≤ (moved_by bytes (get_or es j d) (get_or ends j 0)).offset = omega (arith, lies.room) in
      rw (moved_at bytes es ends j d 0 many low) across)

  -- after a store and its entries stand those of another
  pub stored_behind : AreStored (length (front ++ store)) (old ++ each_moved bytes es ends)
  stored_behind = record { lie = lie; behind = behind }

  -- and so do its calls
  pub calls_behind : (before calls : List Call) → calls_in front old ≡ before → calls_in store es ≡ calls → calls_in (front ++ store) (old ++ each_moved bytes es ends) ≡ before ++ each_ending calls ends
  calls_behind before calls first second =
      map-append (call_in (front ++ store)) old (each_moved bytes es ends)
      ∙ ap (λ (cs : List Call). cs ++ calls_in (front ++ store) (each_moved bytes es ends)) (calls_in-more front store old were.lie ∙ first)
      ∙ ap (λ (cs : List Call). before ++ cs) (moved_calls front store bytes es ends at ∙ ap (λ (cs : List Call). each_ending cs ends) second)

-- ---- other ends

pub ended_none : (es : List StoredCall) → each_ended es [] ≡ es
ended_none [] = refl
ended_none (e ∷ es) = refl

one_ended : (es : List StoredCall) (ends : List ℕ) (k : ℕ) (d : StoredCall) (n : ℕ) → k < length es → k < length ends
    → set (each_ended es (take k ends)) k (record (get_or (each_ended es (take k ends)) k d) { end = get_or ends k n }) ≡ each_ended es (take (suc k) ends)
one_ended [] ends k d n low within = absurd (omega arith)
one_ended (x ∷ es) [] k d n low within = absurd (omega arith)
one_ended (x ∷ es) (m ∷ ends) zero d n low within = ap (λ (ls : List StoredCall). record x { end = m } ∷ ls) (sym (ended_none es))
one_ended (x ∷ es) (m ∷ ends) (suc k) d n low within = ap (λ (ls : List StoredCall). record x { end = m } ∷ ls) (one_ended es ends k d n (omega arith) (omega arith))

-- one more has another end
pub ended_more : (es now : List StoredCall) (ends : List ℕ) (k : ℕ) (e : StoredCall) (n : ℕ) → k < length es → length ends ≡ length es → now ≡ each_ended es (take k ends) → e ≡ get_or now k e
    → set now k (record e { end = get_or ends k n }) ≡ each_ended es (take (k + 1) ends)
ended_more es now ends k e n low many is at =
    let next : suc k ≡ k + 1 = omega arith in
    ap (λ (x : StoredCall). set now k (record x { end = get_or ends k n })) at
    ∙ ap (λ (ls : List StoredCall). set ls k (record (get_or ls k e) { end = get_or ends k n })) is
    ∙ one_ended es ends k e n low (omega arith) ∙ ap (λ m. each_ended es (take m ends)) next

pub length_ended : (es : List StoredCall) (ends : List ℕ) → length (each_ended es ends) ≡ length es
length_ended [] ends = refl
length_ended (e ∷ es) [] = refl
length_ended (e ∷ es) (end ∷ ends) = ap suc (length_ended es ends)

ended_at : (es : List StoredCall) (ends : List ℕ) (k : ℕ) (d : StoredCall) → length ends ≡ length es → k < length es → get_or (each_ended es ends) k d ≡ record (get_or es k d) { end = get_or ends k 0 }
ended_at [] ends k d many low = absurd (omega arith)
ended_at (e ∷ es) [] k d many low = absurd cc
ended_at (e ∷ es) (n ∷ ends) zero d many low = refl
ended_at (e ∷ es) (n ∷ ends) (suc k) d many low = ended_at es ends k d (omega arith) (omega arith)

ended_call : (store : List ℕ) (e : StoredCall) (end : ℕ) → call_in store (record e { end = end }) ≡ ending_at (call_in store e) end
unfolding call_in
ended_call store e end = refl

pub ended_calls : (store : List ℕ) (es : List StoredCall) (ends : List ℕ) → length ends ≡ length es → calls_in store (each_ended es ends) ≡ each_ending (calls_in store es) ends
ended_calls store [] [] many = refl
ended_calls store [] (n ∷ ends) many = refl
ended_calls store (e ∷ es) [] many = absurd cc
ended_calls store (e ∷ es) (n ∷ ends) many =
    let one = ended_call store e n in
    let others = ended_calls store es ends (omega arith) in
    λ i. one i ∷ others i

pub stored_ended : (size : ℕ) (es : List StoredCall) (ends : List ℕ) → length ends ≡ length es → ((k : ℕ) → get_or ends k 0 < 2 ^ 64) → AreStored size es → AreStored size (each_ended es ends)
stored_ended size es ends many ended were = record {
  lie = λ k d low.
      let low' : k < length es = omega (arith, length_ended es ends) in
      let lies = were.lie k d low' in
      subst (LiesIn size) (sym (ended_at es ends k d many low')) (record {
        caller = lies.caller;
        start = lies.start;
        end = ended k;
        time = lies.time;
        some_key = lies.some_key;
        key = lies.key;
        value = lies.value;
        room = lies.room;
      });
  behind = λ i j d less within.
      let low : j < length es = omega (arith, length_ended es ends) in
      rw (ended_at es ends i d many (omega arith), ended_at es ends j d many low) (were.behind i j d less low);
}
