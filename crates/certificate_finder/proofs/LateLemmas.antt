-- How late a hit is that can have read no put, by the ranks of its puts.
use Rattle.std.proofs.Common.{◌≡◌, ℕ, ◌+◌, ◌-◌, ◌^◌, ◌<◌, ◌≤◌, zero, suc, Bool, true, false, Option, Some, None, List, [], ◌∷◌, ◌++◌, drop, get_or, length, max, min, take, fold, if◌then◌else◌, refl, sym, ap, ◌∙◌, subst, arith, inl, inr}
use Rattle.std.specs.List.{list_any}
use Rattle.std.specs.Option.{option_map}
use Rattle.std.specs.Prelude.{MatchOption, map, nat_lt, slice_get}
use Rattle.std.proofs.lemmas.Bool.{cases_eq, cases_lt, le-ltb, lt-ltb}
use Rattle.std.proofs.lemmas.List.{get_or-drop, length-drop, get_or-take, length-map, length-take, length_push, take-map, take-take, take_all}
use Rattle.std.proofs.lemmas.List.Folds.{list_any_none}
use Rattle.std.proofs.lemmas.Map.Keys.{any_passes_from_place}
use Rattle.std.proofs.lemmas.Option.{get_or_from_slice_get, same_Some, slice_get-get_or, slice_get-map, slice_get_within}
use Rattle.trace_file.specs.declared.call.Call.{Call}
use Rattle.certificate_finder.specs.declared.excluded.Excluded.{Excluded}
use Rattle.certificate_finder.specs.declared.excluded.Excuse.TheVariants.{Later, Expired, Replaced}
use Rattle.certificate_finder.specs.declared.numbered_call.NumberedCall.{NumberedCall}
use Rattle.certificate_finder.specs.declared.put.Put.{Put}
use Rattle.certificate_finder.specs.Excluding.{AreGone, AreLasts, AreLike, HasStanding, IsLast, IsLate, excuse_by, excuse_of, excused, excused_between}
use Rattle.certificate_finder.specs.Lateness.{between, end_of_last, excuse_end, greater, has_expired, is_expiry, late_hit, replaced_end, start_at}
use Rattle.certificate_finder.specs.Lists.{TellsOne}
use Rattle.certificate_finder.specs.Putting.{AreInOrder, ArePuts, EndsOver, IsFitPut, Putting, TellsPut, last_rank, put_rank, value_rank}
use Rattle.certificate_finder.specs.Steps.{AreSteps, IsFit}
use Rattle.certificate_finder.specs.Writing.{IsSplit}
use Rattle.certificate_finder.proofs.EndLemmas.{found_at}
use Rattle.certificate_finder.proofs.ExcludingLemmas.{is_like}
use Rattle.certificate_finder.proofs.FindLemmas.{call_at}
use Rattle.certificate_finder.proofs.Listing.{all_at, all_from_at, same_at}
use Rattle.certificate_finder.proofs.Ranking.{squeezed_key, squeezed_value}
use Rattle.certificate_finder.proofs.StepLemmas.{at_front, at_push}

-- ---- the ranks of last stamps

pub last_begin : (puts : List Put) → IsLast puts 0 0
last_begin puts = record {
  greatest = λ k put less at. absurd (omega arith);
  has = inl refl;
}

-- one put more
pub last_more : (puts : List Put) (index last : ℕ) (put : Put) → IsLast puts index last → slice_get puts index ≡ Some put → IsLast puts (index + 1) (max (last_rank put) last)
last_more puts index last put had at = record {
  greatest = λ k other less other_at. elim (cases_eq k index) [
    | inl same ↦ let e = same_at puts k index other put same other_at at in subst (λ (o : Put). last_rank o ≤ max (last_rank put) last) (sym e) (omega arith)
    | inr before ↦ let low = had.greatest k other (omega arith) other_at in omega arith
  ];
  has = elim (cases_lt (last_rank put) last) [
    | inl less ↦
        let is : max (last_rank put) last ≡ last = omega arith in
        elim had.has [
          | inl none ↦ absurd (let zero : last ≡ 0 = none in omega (arith, less))
          | inr one ↦ let before : one.0 < index = one.2 in inr (one.0, one.1, omega arith, one.3, one.4 ∙ sym is)
        ]
    | inr le ↦ let is : last_rank put ≡ max (last_rank put) last = omega arith in inr (index, put, omega arith, at, is)
  ];
}

pub lasts_begin : (puts : List Put) → AreLasts puts 0 []
lasts_begin puts = record { count = refl; each = λ k last at. absurd (let within = slice_get_within {A = ℕ} [] k last at in omega arith) }

pub lasts_more : (puts : List Put) (index last : ℕ) (lasts : List ℕ) → AreLasts puts index lasts → IsLast puts (index + 1) last → AreLasts puts (index + 1) (lasts ++ last ∷ [])
lasts_more puts index last lasts had is = record {
  count = let l = length_push lasts last in let count = had.count in omega arith;
  each = λ k other at. elim (cases_eq k (length lasts)) [
    | inl same ↦
        let e = at_push lasts last other k at same in
        let count = had.count in
        let place : index + 1 ≡ k + 1 = omega arith in
        subst (IsLast puts (k + 1)) e (subst (λ n. IsLast puts n last) place is)
    | inr apart ↦
        let within = slice_get_within (lasts ++ last ∷ []) k other at in
        let l = length_push lasts last in
        had.each k other (at_front lasts last other k at apart)
  ];
}

-- ---- the last put that could be read

module _ (puts : List Put) (are : AreInOrder puts) (hit : NumberedCall) (fit : IsFit hit) (from upto : ℕ) (like : AreLike puts hit from upto) (begun : ℕ) (split : IsSplit put_rank puts (value_rank hit.key hit.value hit.end) begun) where
  -- a put between is of the key and value, and had started
  pub begun_like : (k : ℕ) (put : Put) → from ≤ k → k < begun → slice_get puts k ≡ Some put → (put.key ≡ hit.key) × (put.value ≡ hit.value)
  begun_like k put le less at =
      let ok = all_at IsFitPut puts k put are.fit at in
      let low = like.low.high k put le at in
      let high = split.low k put less at in
      let key = squeezed_key hit.key hit.value 0 put.key put.value put.start hit.end fit.value ok.value (omega arith) ok.start fit.end low high in
      let low' = subst (λ l. value_rank hit.key hit.value 0 ≤ value_rank l put.value put.start) key low in
      let high' = subst (λ l. value_rank l put.value put.start ≤ value_rank hit.key hit.value hit.end) key high in
      (key, squeezed_value hit.key hit.value 0 put.value put.start hit.end (omega arith) ok.start fit.end low' high')

  -- its rank is by its last stamp
  pub rank_is : (put : Put) → (put.key ≡ hit.key) × (put.value ≡ hit.value) → last_rank put ≡ value_rank hit.key hit.value put.dead
  rank_is put is = ap (λ k. value_rank k put.value put.dead) is.0 ∙ ap (λ v. value_rank hit.key v put.dead) is.1

  below_first : (k v l w s d : ℕ) → d < 2 ^ 64 → value_rank l w s < value_rank k v 0 → value_rank l w d < value_rank k v 0
  below_first k v l w s d small less = omega arith

  no_less : (k v d rank : ℕ) → rank < value_rank k v 0 → value_rank k v d ≤ rank → ⊥
  no_less k v d rank less le = omega arith

  -- the put whose rank is the greatest is one of them
  pub top : (last : ℕ) → IsLast puts begun last → from < begun → (k : ℕ) × (put : Put) × (from ≤ k) × (k < begun) × (slice_get puts k ≡ Some put) × (last ≡ value_rank hit.key hit.value put.dead)
  top last is some =
      let bound : begun ≤ length puts = split.bound in
      let q = found_at puts (begun - 1) (omega arith) in
      let q_rank = rank_is q.0 (begun_like (begun - 1) q.0 (omega arith) (omega arith) q.1) in
      let q_low : last_rank q.0 ≤ last = is.greatest (begun - 1) q.0 (omega arith) q.1 in
      elim is.has [
        | inl none ↦
            let zero : last ≡ 0 = none in
            let same : last ≡ last_rank q.0 = omega (arith, zero, q_low) in
            (begun - 1, q.0, omega arith, omega arith, q.1, same ∙ q_rank)
        | inr one ↦ elim (cases_lt one.0 from) [
          | inl less ↦
              let ok = all_at IsFitPut puts one.0 one.1 are.fit one.3 in
              let low = below_first hit.key hit.value one.1.key one.1.value one.1.start one.1.dead ok.dead (like.low.low one.0 one.1 less one.3) in
              absurd (no_less hit.key hit.value q.0.dead last (subst (λ n. n < value_rank hit.key hit.value 0) one.4 low) (subst (λ n. n ≤ last) q_rank q_low))
          | inr le ↦ (one.0, one.1, le, one.2, one.3, sym one.4 ∙ rank_is one.1 (begun_like one.0 one.1 le one.2 one.3))
        ]
      ]

  start_rank : (put : Put) → (put.key ≡ hit.key) × (put.value ≡ hit.value) → put_rank put ≡ value_rank hit.key hit.value put.start
  start_rank put is = ap (λ k. value_rank k put.value put.start) is.0 ∙ ap (λ v. value_rank hit.key v put.start) is.1

  less_dead : (k v s d : ℕ) → value_rank k v d < value_rank k v s → d < s
  less_dead k v s d less = omega arith

  most_dead : (k v s d : ℕ) → value_rank k v s ≤ value_rank k v d → s ≤ d
  most_dead k v s d le = omega arith

  time_of_ranks : (k v s d : ℕ) → value_rank k v s - value_rank k v d ≡ s - d
  time_of_ranks k v s d = omega arith

  pub begun_start : (k : ℕ) (put : Put) → from ≤ k → k < begun → slice_get puts k ≡ Some put → put.start ≤ hit.end
  begun_start k put le less at = most_dead hit.key hit.value put.start hit.end (subst (λ n. n ≤ value_rank hit.key hit.value hit.end) (start_rank put (begun_like k put le less at)) (split.low k put less at))

  -- a put between that had not started is later
  pub later_start : (k : ℕ) (put : Put) → from ≤ k → begun ≤ k → k < upto → slice_get puts k ≡ Some put → hit.end < put.start
  later_start k put le behind less at = less_dead hit.key hit.value put.start hit.end (subst (λ n. value_rank hit.key hit.value hit.end < n) (start_rank put (is_like puts hit from upto k put are fit.value like.low like.high le less at)) (split.high k put behind at))

  beyond : (k v s rank : ℕ) → s < 2 ^ 64 → value_rank k v 18446744073709551615 < rank → rank ≤ value_rank k v s → ⊥
  beyond k v s rank small high low = omega arith

  -- those that had started are among them
  pub begun_within : (k : ℕ) (put : Put) → k < begun → slice_get puts k ≡ Some put → k < upto
  begun_within k put less at = elim (cases_lt k upto) [
    | inl within ↦ within
    | inr past ↦ absurd (beyond hit.key hit.value hit.end (put_rank put) fit.end (like.high.high k put past at) (split.low k put less at))
  ]

  -- no put between is read when the hit starts
  pub are_gone : (last : ℕ) → IsLast puts begun last → from < begun → last < value_rank hit.key hit.value hit.start → AreGone puts hit from begun (value_rank hit.key hit.value hit.start - last)
  are_gone last is some less =
      let t = top last is some in record {
        place = t.0;
        put = t.1;
        behind = t.2;
        before = t.3;
        at = t.4;
        gone = less_dead hit.key hit.value hit.start t.1.dead (subst (λ n. n < value_rank hit.key hit.value hit.start) t.5 less);
        time_is = ap (λ n. value_rank hit.key hit.value hit.start - n) t.5 ∙ time_of_ranks hit.key hit.value hit.start t.1.dead;
        last = λ k other le before at. most_dead hit.key hit.value other.dead t.1.dead (subst (λ n. n ≤ value_rank hit.key hit.value t.1.dead) (rank_is other (begun_like k other le before at)) (subst (λ n. last_rank other ≤ n) t.5 (is.greatest k other before at)));
      }

  -- one can be read then
  pub has_standing : (last : ℕ) → IsLast puts begun last → from < begun → value_rank hit.key hit.value hit.start ≤ last → HasStanding puts hit from begun
  has_standing last is some le =
      let t = top last is some in
      (t.0, t.1, t.2, t.3, t.4, most_dead hit.key hit.value hit.start t.1.dead (subst (λ n. value_rank hit.key hit.value hit.start ≤ n) t.5 le))

  few_between : (k v s d : ℕ) → s < 2 ^ 64 → value_rank k v s - value_rank k v d < 2 ^ 64
  few_between k v s d small = omega arith

  -- the time fits 64 bits
  pub time_fits : (last : ℕ) → IsLast puts begun last → from < begun → value_rank hit.key hit.value hit.start - last < 2 ^ 64
  time_fits last is some =
      let t = top last is some in
      subst (λ n. value_rank hit.key hit.value hit.start - n < 2 ^ 64) (sym t.5) (few_between hit.key hit.value hit.start t.1.dead fit.start)

-- ---- how late it is by all of its puts

-- the greatest end of several is that of one of them, if no other is greater
top_stays : (most : ℕ) (other : Option ℕ) → MatchOption other (Unit {0}) (λ n. n ≤ most) → greater (Some most) other ≡ Some most
top_stays most None low = refl
top_stays most (Some n) low = ap Some (let le : n ≤ most = low in omega arith)

top_comes : (most : ℕ) (other : Option ℕ) → MatchOption other (Unit {0}) (λ n. n ≤ most) → greater other (Some most) ≡ Some most
top_comes most None low = refl
top_comes most (Some n) low = ap Some (let le : n ≤ most = low in omega arith)

greater_low : (most : ℕ) (one other : Option ℕ) → MatchOption one (Unit {0}) (λ n. n ≤ most) → MatchOption other (Unit {0}) (λ n. n ≤ most) → MatchOption (greater one other) (Unit {0}) (λ n. n ≤ most)
greater_low most None other a b = b
greater_low most (Some m) None a b = a
greater_low most (Some m) (Some n) a b = let x : m ≤ most = a in let y : n ≤ most = b in omega arith

module _ {X : Type 0} (ends : X → Option ℕ) (most : ℕ) where
  abbrev Low : Option ℕ → Type 0
  Low end = MatchOption end (Unit {0}) (λ n. n ≤ most)

  kept : (xs : List X) → ((k : ℕ) (x : X) → slice_get xs k ≡ Some x → Low (ends x)) → fold (λ last x. greater last (ends x)) (Some most) xs ≡ Some most
  kept [] low = refl
  kept (x ∷ xs) low = ap (λ a. fold (λ last y. greater last (ends y)) a xs) (top_stays most (ends x) (low 0 x refl)) ∙ kept xs (λ k y at. low (suc k) y at)

  reached : (xs : List X) (first : Option ℕ) → Low first → ((k : ℕ) (x : X) → slice_get xs k ≡ Some x → Low (ends x)) → (k : ℕ) (x : X) → slice_get xs k ≡ Some x → ends x ≡ Some most → fold (λ last y. greater last (ends y)) first xs ≡ Some most
  reached [] first small low k x at is = absurd (let within = slice_get_within {A = X} [] k x at in omega arith)
  reached (y ∷ ys) first small low zero x at is =
      let same : y ≡ x = same_Some y x at in
      ap (λ a. fold (λ last z. greater last (ends z)) a ys) (ap (greater first) (ap ends same ∙ is) ∙ top_comes most first small) ∙ kept ys (λ k z at_z. low (suc k) z at_z)
  reached (y ∷ ys) first small low (suc k) x at is =
      reached ys (greater first (ends y)) (greater_low most first (ends y) small (low 0 y refl)) (λ j z at_z. low (suc j) z at_z) k x at is

none_ends : {X : Type 0} (ends : X → Option ℕ) (xs : List X) → ((k : ℕ) (x : X) → slice_get xs k ≡ Some x → ends x ≡ None) → fold (λ last x. greater last (ends x)) None xs ≡ None
none_ends ends [] none = refl
none_ends ends (x ∷ xs) none = ap (λ a. fold (λ last y. greater last (ends y)) a xs) (ap (greater None) (none 0 x refl)) ∙ none_ends ends xs (λ k y at. none (suc k) y at)

-- the puts between two indexes
module _ (puts : List Put) (hit : NumberedCall) (from upto : ℕ) (bound : upto ≤ length puts) where
  -- each has its excuse
  pub excused_at : (k : ℕ) (put : Put) → from ≤ k → k < upto → slice_get puts k ≡ Some put → slice_get (excused_between puts hit from upto) (k - from) ≡ Some (excused hit put)
  excused_at k put le less at =
      let rest = length-drop from puts in
      let range = take (upto - from) (drop from puts) in
      let count = length-take (upto - from) (drop from puts) in
      let within : k - from < length range = omega arith in
      let inner : k - from < upto - from = omega arith in
      let place : from + (k - from) ≡ k = omega arith in
      let here : get_or range (k - from) put ≡ put =
      get_or-take (upto - from) (drop from puts) (k - from) put inner
      ∙ get_or-drop from puts (k - from) put ∙ ap (λ n. get_or puts n put) place ∙ get_or_from_slice_get puts k put put at in
      slice_get-map (excused hit) range (k - from)
      ∙ ap (option_map (excused hit)) (slice_get-get_or range (k - from) put within ∙ ap Some here)

  -- each excuse is of one of them
  pub excused_of : (n : ℕ) (one : Excluded) → slice_get (excused_between puts hit from upto) n ≡ Some one → (put : Put) × (from + n < upto) × (slice_get puts (from + n) ≡ Some put) × (one ≡ excused hit put)
  excused_of n one at =
      let range = take (upto - from) (drop from puts) in
      let within = slice_get_within (excused_between puts hit from upto) n one at in
      let many = length-map range (excused hit) in
      let count = length-take (upto - from) (drop from puts) in
      let rest = length-drop from puts in
      let less : from + n < upto = omega arith in
      let p = found_at puts (from + n) (omega arith) in
      let back : from + n - from ≡ n = omega arith in
      let is = excused_at (from + n) p.0 (omega arith) less p.1 in
      (p.0, less, p.1, same_Some one (excused hit p.0) (sym at ∙ ap (slice_get (excused_between puts hit from upto)) (sym back) ∙ is))

take_both : {X : Type 0} (most n : ℕ) (xs : List X) → take (min most n) xs ≡ take most (take n xs)
take_both most n xs = elim (cases_lt n most) [
  | inl less ↦
      let is : min most n ≡ n = omega arith in
      let count = length-take n xs in
      ap (λ m. take m xs) is ∙ sym (take_all most (take n xs) (omega arith))
  | inr le ↦
      let is : min most n ≡ most = omega arith in
      ap (λ m. take m xs) is ∙ sym (take-take most n xs le)
]

-- of the first puts of those the first so many
pub first_excused : (puts : List Put) (hit : NumberedCall) (from upto few most : ℕ) → few - from ≡ min most (upto - from) → excused_between puts hit from few ≡ take most (excused_between puts hit from upto)
first_excused puts hit from upto few most is =
    ap (λ n. map (excused hit) (take n (drop from puts))) is
    ∙ ap (map (excused hit)) (take_both most (upto - from) (drop from puts))
    ∙ sym (take-map (excused hit) most (take (upto - from) (drop from puts)))

later_why : (hit : NumberedCall) (put : Put) → hit.end < put.start → excuse_of hit put ≡ Later
later_why hit put less = ap (λ b. excuse_by b (nat_lt put.dead hit.start) put.over) (lt-ltb hit.end put.start less)

expired_why : (hit : NumberedCall) (put : Put) → put.start ≤ hit.end → hit.start ≤ put.dead → excuse_of hit put ≡ Expired
expired_why hit put begun stands = ap (λ b. excuse_by b (nat_lt put.dead hit.start) put.over) (le-ltb hit.end put.start begun) ∙ ap (λ g. excuse_by false g put.over) (le-ltb put.dead hit.start stands)

replaced_why : (hit : NumberedCall) (put : Put) (write : ℕ) → put.start ≤ hit.end → put.dead < hit.start → put.over ≡ Some write → excuse_of hit put ≡ Replaced write
replaced_why hit put write begun gone over = ap (λ b. excuse_by b (nat_lt put.dead hit.start) put.over) (le-ltb hit.end put.start begun) ∙ ap (λ g. excuse_by false g put.over) (lt-ltb put.dead hit.start gone) ∙ ap (excuse_by false true) over

module _ (history : List Call) (steps : List NumberedCall) (are : AreSteps history steps) (puts : List Put) (all : ArePuts steps puts) (position : ℕ) (hit : NumberedCall) (hit_at : slice_get steps position ≡ Some hit) (fit : IsFit hit) (from upto : ℕ) (like : AreLike puts hit from upto) (begun : ℕ) (split : IsSplit put_rank puts (value_rank hit.key hit.value hit.end) begun) where
  abbrev Excuses : List Excluded
  Excuses = excused_between puts hit from upto

  start_is : start_at history position ≡ Some hit.start
  start_is =
      let c = call_at history steps are position hit hit_at in
      ap (option_map (λ (call : Call). call.start)) c.1 ∙ ap Some (sym c.2.start)

  over_of : (step : NumberedCall) (put : Put) (over : Option ℕ) → put.over ≡ over → MatchOption over (put.dead ≡ 18446744073709551615) (EndsOver steps step put.dead) → put.dead < hit.start → (write : ℕ) × (put.over ≡ Some write) × EndsOver steps step put.dead write
  over_of step put None is by gone = absurd (let most : put.dead ≡ 18446744073709551615 = by in let small = fit.start in omega (arith, most, gone, small))
  over_of step put (Some write) is by gone = (write, is, by)

  -- a put that was replaced
  replaced : (k : ℕ) (put : Put) → from ≤ k → k < begun → slice_get puts k ≡ Some put → put.dead < hit.start → (write : ℕ) × (excuse_of hit put ≡ Replaced write) × (option_map (λ (call : Call). call.end) (slice_get history write) ≡ Some put.dead)
  replaced k put le less at gone =
      let t : TellsOne steps Putting (TellsPut steps) put = all_at (TellsOne steps Putting (TellsPut steps)) puts k put all.lists.sound at in
      let o = over_of t.step put put.over refl t.told.dead.by gone in
      let c = call_at history steps are o.0 o.2.other o.2.at in
      (o.0, replaced_why hit put o.0 (begun_start puts all.in_order hit fit from upto like begun split k put le less at) gone o.1, ap (option_map (λ (call : Call). call.end)) c.1 ∙ ap Some (sym c.2.end ∙ o.2.end))

  module _ (place : ℕ) (put : Put) (le : from ≤ place) (less : place < upto) (at : slice_get puts place ≡ Some put) where
    later_is : begun ≤ place → (has_expired (excused hit put) ≡ false) × (replaced_end history (excused hit put) ≡ None)
    later_is behind =
        let why = later_why hit put (later_start puts all.in_order hit fit from upto like begun split place put le behind less at) in
        (ap is_expiry why, ap (excuse_end history) why)

    gone_is : place < begun → put.dead < hit.start → (has_expired (excused hit put) ≡ false) × (replaced_end history (excused hit put) ≡ Some put.dead)
    gone_is before gone =
        let r = replaced place put le before at gone in
        (ap is_expiry r.1, ap (excuse_end history) r.1 ∙ r.2)

    standing_is : place < begun → hit.start ≤ put.dead → has_expired (excused hit put) ≡ true
    standing_is before stands = ap is_expiry (expired_why hit put (begun_start puts all.in_order hit fit from upto like begun split place put le before at) stands)

  late_as : (expired : Bool) (ended : Option ℕ) → list_any has_expired Excuses ≡ expired → end_of_last history Excuses ≡ ended → late_hit history position Excuses ≡ (if expired then None else between (Some hit.start) ended)
  late_as expired ended any last =
      ap (λ b. if b then None else between (start_at history position) (end_of_last history Excuses)) any
      ∙ ap (λ s. if expired then None else between s (end_of_last history Excuses)) start_is
      ∙ ap (λ e. if expired then None else between (Some hit.start) e) last

  abbrev Upto : upto ≤ length puts
  Upto = like.high.bound

  -- if none had started
  late_never : begun ≤ from → late_hit history position Excuses ≡ None
  late_never none = late_as false None
      (list_any_none has_expired Excuses (all_from_at (λ e. has_expired e ≡ false) Excuses (λ n one at.
      let o = excused_of puts hit from upto Upto n one at in
      ap has_expired o.3 ∙ (later_is (from + n) o.0 (omega arith) o.1 o.2 (omega arith)).0)))
      (none_ends (replaced_end history) Excuses (λ n one at.
      let o = excused_of puts hit from upto Upto n one at in
      ap (replaced_end history) o.3 ∙ (later_is (from + n) o.0 (omega arith) o.1 o.2 (omega arith)).1))

  -- if one can be read when the hit starts
  late_standing : HasStanding puts hit from begun → late_hit history position Excuses ≡ None
  late_standing one =
      let within = begun_within puts all.in_order hit fit from upto like begun split one.0 one.1 one.3 one.4 in
      late_as true (end_of_last history Excuses)
      (any_passes_from_place has_expired Excuses (one.0 - from) (excused hit one.1) (excused_at puts hit from upto Upto one.0 one.1 one.2 within one.4) (standing_is one.0 one.1 one.2 within one.4 one.3 one.5))
      refl

  -- if none can
  module _ (time : ℕ) (gone : AreGone puts hit from begun time) where
    each_gone : (n : ℕ) (one : Excluded) → slice_get Excuses n ≡ Some one → (has_expired one ≡ false) × MatchOption (replaced_end history one) (Unit {0}) (λ e. e ≤ gone.put.dead)
    each_gone n one at =
        let o = excused_of puts hit from upto Upto n one at in
        let le : from ≤ from + n = omega arith in
        elim (cases_lt (from + n) begun) [
          | inl before ↦
              let low = gone.last (from + n) o.0 le before o.2 in
              let top = gone.gone in
              let is = gone_is (from + n) o.0 le o.1 o.2 before (omega arith) in
              (ap has_expired o.3 ∙ is.0, subst (λ e. MatchOption e (Unit {0}) (λ e. e ≤ gone.put.dead)) (sym (ap (replaced_end history) o.3 ∙ is.1)) low)
          | inr behind ↦
              let is = later_is (from + n) o.0 le o.1 o.2 behind in
              (ap has_expired o.3 ∙ is.0, subst (λ e. MatchOption e (Unit {0}) (λ e. e ≤ gone.put.dead)) (sym (ap (replaced_end history) o.3 ∙ is.1)) tt)
        ]

    late_gone : late_hit history position Excuses ≡ Some time
    late_gone =
        let within = begun_within puts all.in_order hit fit from upto like begun split gone.place gone.put gone.before gone.at in
        late_as false (Some gone.put.dead)
        (list_any_none has_expired Excuses (all_from_at (λ e. has_expired e ≡ false) Excuses (λ n one at. (each_gone n one at).0)))
        (reached (replaced_end history) gone.put.dead Excuses None tt (λ n one at. (each_gone n one at).1) (gone.place - from) (excused hit gone.put) (excused_at puts hit from upto Upto gone.place gone.put gone.behind within gone.at) (gone_is gone.place gone.put gone.behind within gone.at gone.before gone.gone).1)
        ∙ ap Some (sym gone.time_is)

  pub late_is : (late : Option ℕ) → IsLate puts hit from begun late → late ≡ late_hit history position Excuses
  late_is None (inl none) = sym (late_never none)
  late_is None (inr one) = sym (late_standing one)
  late_is (Some time) gone = sym (late_gone time gone)
