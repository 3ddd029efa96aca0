-- A lane's claims, made call by call.
use Rattle.std.proofs.Common.{◌≡◌, ◌≢◌, ◌∙◌, ℕ, zero, suc, ◌+◌, ◌<◌, ◌≤◌, List, [], ◌∷◌, ◌++◌, length, take, drop, set, Option, Some, None, slice_get, All, sym, refl, ap, subst, inl, inr, arith, append_assoc, append-nil, length-append}
use Rattle.std.proofs.Math.Seq.{take-append_seam}
use Rattle.std.specs.Option.{option_map}
use Rattle.std.proofs.lemmas.List.{take-append-le, take_all, take_more}
use Rattle.std.proofs.lemmas.List.Elements.{All-append, All-nil}
use Rattle.std.proofs.lemmas.Option.{get_or_from_slice_get, same_Some, slice_get_within}
use Rattle.recorded_lane.specs.declared.noted.Noted.{Noted}
use Rattle.history_recorder.proofs.public_laws.Stamps.{found_before, found_left, found_right}
use Rattle.shared_cache.specs.Listed.{Listed}
use Rattle.shared_cache.specs.Finished.{done_of}
use Rattle.shared_cache.specs.Blames.{IsFree, IsOfPlace}
use Rattle.shared_cache.specs.Claimed.{Claims, Fits, IsFirstFree, IsFresh, IsTaken, weigh_slots}
use Rattle.shared_cache.specs.declared.list_place.ListPlace.{ListPlace}
use Rattle.shared_cache.specs.Settled.{AreOwnOf, IsMade, IsOwnOf, IsStrangeAt, IsOutAt, IsOutIn, IsStrangeIn, IsUnlistedIn, all_in, index_of}
use Rattle.shared_cache.proofs.Blaming.{by_claimed, by_more, lane_call, many_none, none_there}
use Rattle.shared_cache.proofs.Claiming.{weigh_claimed, weigh_none}
use Rattle.shared_cache.proofs.Weighing.{weigh_other, weigh_own}

-- no claim is made by no call
pub made_none : (lane : ℕ) (claims : Claims) → IsFresh claims → IsMade lane claims []
made_none lane claims fresh = record {
  by = record {
    many = ap length fresh ∙ many_none (length claims.calls);
    free = λ position low. (λ none. All-nil (λ l. ¬ IsOfPlace lane position l), λ free. rw fresh (none_there (length claims.calls) position low));
  };
  own = λ k l at. absurd cc;
  weighed = λ h. ap (weigh_slots h) fresh ∙ weigh_none h (length claims.calls);
}

own_more : (lane : ℕ) (recorded : List Noted) (calls : List Listed) (l : Listed) → AreOwnOf lane recorded calls → (l.lane ≡ lane → IsOwnOf recorded calls l) → AreOwnOf lane recorded (calls ++ l ∷ [])
own_more lane recorded calls l all own = λ k m at of. elim (found_before calls l m k at) [
  | inl early ↦
      let low = slice_get_within calls k m early in
      rw (take-append-le k calls (l ∷ []) (omega (arith, low))) (all k m early of)
  | inr last ↦ rw (last.0, take-append_seam calls (l ∷ [])) (subst (IsOwnOf recorded calls) last.1 (own (ap (λ (x : Listed). x.lane) last.1 ∙ of)))
]

-- a listed call fits the claims on its lane exactly if it is the lane's own
own_fits : (lane : ℕ) (claims : Claims) (before : List Listed) (l : Listed) → IsMade lane claims before → l.lane ≡ lane → Fits claims l → IsOwnOf claims.calls before l
own_fits lane claims before l made of fits =
    let low = slice_get_within claims.slots l.position None fits.free in
    let many = made.by.many in
    record {
      stands = fits.stands;
      once = subst (λ n. IsFree before n l.position) (sym of) ((made.by.free l.position (omega (arith, low, many))).0 fits.free);
    }

pub unfit : (lane : ℕ) (claims : Claims) (before : List Listed) (l : Listed) → IsMade lane claims before → l.lane ≡ lane → ¬ Fits claims l → ¬ IsOwnOf claims.calls before l
unfit lane claims before l made of not_fits own = not_fits (record {
  stands = own.stands;
  free = (made.by.free l.position (slice_get_within claims.calls l.position l.call own.stands)).1 (subst (λ n. IsFree before n l.position) of own.once);
})

-- one more is made by one call more of the lane
pub made_claimed : (lane : ℕ) (claims new : Claims) (before : List Listed) (l : Listed) → IsMade lane claims before → l.lane ≡ lane → Fits claims l
    → new ≡ record claims { slots = set claims.slots l.position (Some (done_of l)) } → IsMade lane new (before ++ l ∷ [])
made_claimed lane claims new before l made of fits is = record {
  by = by_claimed claims new lane before l (done_of l) of fits.free is made.by;
  own = rw (ap (λ (x : Claims). x.calls) is) (own_more lane claims.calls before l made.own (λ h. own_fits lane claims before l made of fits));
  weighed = λ h.
      let a = weigh_claimed claims new l is fits.free h in
      let b = weigh_own h lane before l of in
      let c = made.weighed h in
      omega (arith, a, b, c);
}

-- and none by one of another lane
pub made_passed : (lane : ℕ) (claims : Claims) (before : List Listed) (l : Listed) → IsMade lane claims before → l.lane ≢ lane → IsMade lane claims (before ++ l ∷ [])
made_passed lane claims before l made other = record {
  by = by_more claims lane before l other made.by;
  own = own_more lane claims.calls before l made.own (λ of. absurd (other of));
  weighed = λ h. made.weighed h ∙ sym (weigh_other h lane before l other);
}

take_next : (calls : List Listed) (k : ℕ) (l : Listed) → slice_get calls k ≡ Some l → take (k + 1) calls ≡ take k calls ++ l ∷ []
take_next calls k l at = take_more calls k l (slice_get_within calls k l at) ∙ ap (λ (m : Listed). take k calls ++ m ∷ []) (get_or_from_slice_get calls k l l at)

-- the next call of a list makes a claim
pub next_claimed : (lane : ℕ) (claims new : Claims) (before calls : List Listed) (k : ℕ) (l : Listed) → IsMade lane claims (before ++ take k calls) → slice_get calls k ≡ Some l → l.lane ≡ lane → Fits claims l
    → new ≡ record claims { slots = set claims.slots l.position (Some (done_of l)) } → IsMade lane new (before ++ take (k + 1) calls)
next_claimed lane claims new before calls k l made at of fits is =
    rw (take_next calls k l at, ← append_assoc before (take k calls) (l ∷ [])) (made_claimed lane claims new (before ++ take k calls) l made of fits is)

-- or is passed over
pub next_passed : (lane : ℕ) (claims : Claims) (before calls : List Listed) (k number : ℕ) → IsMade lane claims (before ++ take k calls) → option_map (λ (l : Listed). l.lane) (slice_get calls k) ≡ Some number → number ≢ lane
    → IsMade lane claims (before ++ take (k + 1) calls)
next_passed lane claims before calls k number made at other = from (slice_get calls k) refl at
  where
    from : (o : Option Listed) → slice_get calls k ≡ o → option_map (λ (l : Listed). l.lane) o ≡ Some number → IsMade lane claims (before ++ take (k + 1) calls)
    from None is told = let no : None ≡ Some number = told in absurd cc
    from (Some l) is told =
        let of : l.lane ≡ number = same_Some l.lane number told in
        rw (take_next calls k l is, ← append_assoc before (take k calls) (l ∷ [])) (made_passed lane claims (before ++ take k calls) l made (λ same. other (sym of ∙ same)))

-- ---- lists of calls

list_more : (lists : List (List Listed)) (n : ℕ) (calls : List Listed) → slice_get lists n ≡ Some calls → all_in (take (suc n) lists) ≡ all_in (take n lists) ++ calls
list_more [] n calls at = absurd cc
list_more (x ∷ lists) zero calls at = append-nil x ∙ same_Some x calls at
list_more (x ∷ lists) (suc n) calls at = ap (λ (ls : List Listed). x ++ ls) (list_more lists n calls at) ∙ sym (append_assoc x (all_in (take n lists)) calls)

pub next_list : (lists : List (List Listed)) (n : ℕ) (calls : List Listed) → slice_get lists n ≡ Some calls → all_in (take (n + 1) lists) ≡ all_in (take n lists) ++ calls
next_list lists n calls at = let e : n + 1 ≡ suc n = omega arith in ap (λ k. all_in (take k lists)) e ∙ list_more lists n calls at

all_split : (lists : List (List Listed)) (n : ℕ) (calls : List Listed) → slice_get lists n ≡ Some calls → all_in lists ≡ (all_in (take n lists) ++ calls) ++ all_in (drop (suc n) lists)
all_split [] n calls at = absurd cc
all_split (x ∷ lists) zero calls at = ap (λ (ls : List Listed). ls ++ all_in lists) (same_Some x calls at)
all_split (x ∷ lists) (suc n) calls at =
    ap (λ (ls : List Listed). x ++ ls) (all_split lists n calls at)
    ∙ sym (append_assoc x (all_in (take n lists) ++ calls) (all_in (drop (suc n) lists)))
    ∙ ap (λ (ls : List Listed). ls ++ all_in (drop (suc n) lists)) (sym (append_assoc x (all_in (take n lists)) calls))

-- ---- the first that is strange

take_behind : (xs ys : List Listed) (n : ℕ) → take (length xs + n) (xs ++ ys) ≡ xs ++ take n ys
take_behind [] ys n = ap (λ m. take m ys) (let e : 0 + n ≡ n = omega arith in e)
take_behind (x ∷ xs) ys n = let e : length (x ∷ xs) + n ≡ suc (length xs + n) = omega arith in ap (λ m. take m (x ∷ (xs ++ ys))) e ∙ ap (λ (zs : List Listed). x ∷ zs) (take_behind xs ys n)

pub strange_at : (lane : ℕ) (recorded : List Noted) (calls before : List Listed) (l : Listed) (place : ℕ) → slice_get calls place ≡ Some l → l.lane ≡ lane
    → AreOwnOf lane recorded (before ++ take place calls) → ¬ IsOwnOf recorded (before ++ take place calls) l → IsStrangeIn lane recorded (before ++ calls) (length before + place)
strange_at lane recorded calls before l place at of own strange =
    let front : take (length before + place) (before ++ calls) ≡ before ++ take place calls = take_behind before calls place in
    record {
      call = l;
      at = found_right before calls (length before + place) place refl ∙ at;
      of = of;
      before = rw front own;
      strange = rw front strange;
    }

pub strange_longer : (lane : ℕ) (recorded : List Noted) (calls more : List Listed) (index : ℕ) → IsStrangeIn lane recorded calls index → IsStrangeIn lane recorded (calls ++ more) index
strange_longer lane recorded calls more index first =
    let low = slice_get_within calls index first.call first.at in
    let same = take-append-le index calls more (omega (arith, low)) in
    record { call = first.call; at = found_left calls more index first.call first.at; of = first.of; before = rw same first.before; strange = rw same first.strange }

-- a place in lists
pub strange_place : (lane : ℕ) (recorded : List Noted) (lists : List (List Listed)) (calls : List Listed) (place : ListPlace) → slice_get lists place.pass ≡ Some calls → place.call < length calls
    → IsStrangeIn lane recorded (all_in (take place.pass lists) ++ calls) (length (all_in (take place.pass lists)) + place.call) → IsStrangeAt lane recorded lists place
strange_place lane recorded lists calls place at within first = record {
  place_is = record { calls = calls; there = at; within = within };
  first =
      let longer = strange_longer lane recorded (all_in (take place.pass lists) ++ calls) (all_in (drop (suc place.pass) lists)) (index_of lists place) first in
      subst (λ ls. IsStrangeIn lane recorded ls (index_of lists place)) (sym (all_split lists place.pass calls at)) longer;
}

-- ---- what is left of it

-- each position is listed
pub all_listed : (lane : ℕ) (claims : Claims) (calls : List Listed) → IsMade lane claims calls → IsTaken claims → (position : ℕ) → position < length claims.calls → ¬ IsFree calls lane position
all_listed lane claims calls made taken position low free = taken position ((made.by.free position low).1 free)

-- or one is the first that is not
pub first_unlisted : (lane : ℕ) (claims : Claims) (calls : List Listed) (position : ℕ) → IsMade lane claims calls → IsFirstFree claims.slots position → IsUnlistedIn lane claims.calls calls position
first_unlisted lane claims calls position made first =
    let many = made.by.many in
    let low = slice_get_within claims.slots position None first.free in
    let inside : position < length claims.calls = omega (arith, low, many) in
    let there = lane_call claims.calls position inside in
    record {
      call = there.0;
      stands = there.1;
      free = (made.by.free position inside).0 first.free;
      before = λ p less free. first.before p less ((made.by.free p (omega (arith, less, inside))).1 free);
      own = made.own;
    }

-- ---- calls of no lane

pub next_within : (lanes : ℕ) (lists : List (List Listed)) (n : ℕ) (calls : List Listed) → slice_get lists n ≡ Some calls → All (λ l. l.lane < lanes) (all_in (take n lists)) → All (λ l. l.lane < lanes) calls → All (λ l. l.lane < lanes) (all_in (take (n + 1) lists))
next_within lanes lists n calls at front here =
    subst (All (λ (l : Listed). l.lane < lanes)) (sym (next_list lists n calls at)) (All-append (λ (l : Listed). l.lane < lanes) (all_in (take n lists)) calls front here)

pub all_within : (lanes : ℕ) (lists : List (List Listed)) (n : ℕ) → length lists ≤ n → All (λ l. l.lane < lanes) (all_in (take n lists)) → All (λ l. l.lane < lanes) (all_in lists)
all_within lanes lists n past all = subst (λ ls. All (λ (l : Listed). l.lane < lanes) (all_in ls)) (take_all n lists past) all

pub outside_place : (lanes : ℕ) (lists : List (List Listed)) (calls : List Listed) (place : ListPlace) → slice_get lists place.pass ≡ Some calls → All (λ l. l.lane < lanes) (all_in (take place.pass lists)) → IsOutIn lanes calls place.call → IsOutAt lanes lists place
outside_place lanes lists calls place at front first =
    let low = slice_get_within calls place.call first.call first.at in
    let whole = (all_in (take place.pass lists) ++ calls) ++ all_in (drop (suc place.pass) lists) in
    let n = index_of lists place in
    let inside : n ≤ length (all_in (take place.pass lists) ++ calls) = omega (arith, low, length-append (all_in (take place.pass lists)) calls) in
    let before : take n whole ≡ all_in (take place.pass lists) ++ take place.call calls = take-append-le n (all_in (take place.pass lists) ++ calls) (all_in (drop (suc place.pass) lists)) inside ∙ take_behind (all_in (take place.pass lists)) calls place.call in
    let all : All (λ (l : Listed). l.lane < lanes) (take n whole) =
    subst (All (λ (l : Listed). l.lane < lanes)) (sym before) (All-append (λ (l : Listed). l.lane < lanes) (all_in (take place.pass lists)) (take place.call calls) front first.before) in
    record {
      place_is = record { calls = calls; there = at; within = low };
      first = subst (λ ls. IsOutIn lanes ls n) (sym (all_split lists place.pass calls at)) (record {
        call = first.call;
        at = found_left (all_in (take place.pass lists) ++ calls) (all_in (drop (suc place.pass) lists)) n first.call (found_right (all_in (take place.pass lists)) calls n place.call refl ∙ first.at);
        past = first.past;
        before = all;
      });
    }
