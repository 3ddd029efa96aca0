-- What is accepted after some earlier deeds is accepted once it is warmed.
use Rattle.std.proofs.Common.{◌≡◌, ◌≢◌, ℕ, ◌+◌, ◌<◌, ◌≤◌, ◌⊎◌, zero, suc, true, false, Option, Some, None, List, [], ◌∷◌, ◌++◌, length, length-take, drop, map, nat_eq, take, append_assoc, refl, sym, ap, ◌∙◌, subst, arith, inl, inr}
use Rattle.std.specs.Prelude.{All, Contains, IsTrue, eqb, nat_lt, slice_get}
use Rattle.std.specs.List.{cons_option, filter_map}
use Rattle.std.specs.Cmp.Lexicographic.{bytes_decides, pointwise}
use Rattle.std.proofs.lemmas.Bool.{cases_Bool, cases_eq, cases_lt, eq-eqb, or_right}
use Rattle.std.proofs.lemmas.List.{length-append, map-append}
use Rattle.std.proofs.lemmas.List.Elements.{filter_map-append}
use Rattle.std.proofs.lemmas.Option.{same_Some, slice_get_within}
use Rattle.record_pages.specs.declared.timed_value.TimedValue.{TimedValue}
use Rattle.record_pages.specs.Expiry.{is_live, never, timed}
use Rattle.trace_file.specs.Calls.{value_of}
use Rattle.trace_file.specs.declared.act.Act.{Act}
use Rattle.trace_file.specs.declared.act.Act.TheVariants.{Put, Remove, Hit, Miss}
use Rattle.trace_file.specs.declared.call.Call.{Call}
use Rattle.certificate_checker.specs.Acceptance.{IsAccepted}
use Rattle.certificate_checker.specs.Deeds.{Deed, deed_of}
use Rattle.certificate_checker.specs.Latest.{IsLatest, IsLawful, IsLive, Writes}
use Rattle.certificate_checker.specs.Orders.{IsOrder, Precedes, in_order}
use Rattle.certificate_checker.proofs.public_laws.LatestLemmas.{latest_found}
use Rattle.certificate_checker.proofs.public_laws.Laying.{cases_before, picked-map}
use Rattle.certificate_checker.proofs.public_laws.Layouts.{picked_pairs}
use Rattle.certificate_checker.proofs.public_laws.Listing.{Member, Pairs, all_member, contained_member, map_member, member_all, member_at, member_contained, member_either, member_left, member_map, member_picked, member_right, pairs_append, pairs_at, pairs_from, pairs_to, picked_member, place_of}
use Rattle.certificate_finder.specs.declared.warmed.Warmed.{Warmed}
use Rattle.certificate_finder.specs.Choosing.{IsEarlierBy}
use Rattle.certificate_finder.specs.Lists.{AreAllBelow}
use Rattle.certificate_finder.specs.Turns.{start_at}
use Rattle.certificate_finder.specs.WarmLaws.{AreNew, IsAcceptedAfter}
use Rattle.certificate_finder.specs.Warming.{IsUnput, IsWarm, IsWarmed, PutsAt, warm_put, warm_puts}
use Rattle.certificate_finder.proofs.ColdLemmas.{keys_apart, put_of}
use Rattle.certificate_finder.proofs.Listing.{all_from_at}
use Rattle.certificate_finder.proofs.Reading.{all_at, cut_at, found_mapped, look_left, no_write, parted}

-- ---- lists

-- a split of two lists is within the one or the other
split_either : {X : Type 0} (xs ys before : List X) (y : X) (after : List X) → xs ++ ys ≡ before ++ y ∷ after → ((rest : List X) × (xs ≡ before ++ y ∷ rest) × (after ≡ rest ++ ys)) ⊎ ((front : List X) × (ys ≡ front ++ y ∷ after) × (before ≡ xs ++ front))
split_either [] ys before y after e = inr (before, e, refl)
split_either (x ∷ xs) ys [] y after e =
    let first : x ≡ y = cc in
    let rest : xs ++ ys ≡ after = cc in
    inl (xs, ap (λ z. z ∷ xs) first, sym rest)
split_either (x ∷ xs) ys (z ∷ before) y after e =
    let first : x ≡ z = cc in
    let rest : xs ++ ys ≡ before ++ y ∷ after = cc in
    elim (split_either xs ys before y after rest) [
      | inl left ↦ inl (left.0, ap (λ w. w ∷ xs) first ∙ ap (λ l. z ∷ l) left.1, left.2)
      | inr right ↦ inr (right.0, right.1, ap (λ l. z ∷ l) right.2 ∙ ap (λ w. w ∷ (xs ++ right.0)) (sym first))
    ]

-- the positions of a list that stands after so many others
places_of : {X : Type 0} → ℕ → List X → List ℕ
places_of n [] = []
places_of n (x ∷ xs) = n ∷ places_of (suc n) xs

module _ {X : Type 0} where
  places_from : (n : ℕ) (xs : List X) (p : ℕ) → Member p (places_of n xs) → (n ≤ p) × (p < n + length xs)
  unfolding places_of
  places_from n [] p m = absurd m
  places_from n (x ∷ xs) p m = elim m [
    | inl e ↦ (omega (arith, e), omega (arith, e))
    | inr later ↦ let l = places_from (suc n) xs p later in let a = l.0 in let b = l.1 in (omega (arith, a), omega (arith, b))
  ]

  in_places : (n : ℕ) (xs : List X) (p : ℕ) → n ≤ p → p < n + length xs → Member p (places_of n xs)
  unfolding places_of
  in_places n [] p low high = absurd (omega (arith, low, high))
  in_places n (x ∷ xs) p low high = elim (cases_eq p n) [
    | inl same ↦ inl same
    | inr other ↦ inr (in_places (suc n) xs p (omega (arith, low, other)) (omega (arith, high)))
  ]

  places_once : (n : ℕ) (xs : List X) → Pairs (λ p q. p ≢ q) (places_of n xs)
  unfolding places_of
  places_once n [] = tt
  places_once n (x ∷ xs) = (λ q m same. let l = places_from (suc n) xs q m in let a = l.0 in omega (arith, a, same), places_once (suc n) xs)

  -- what stands there
  placed : (whole : List X) (n : ℕ) (xs : List X) → ((k : ℕ) (x : X) → slice_get xs k ≡ Some x → slice_get whole (n + k) ≡ Some x) → filter_map (slice_get whole) (places_of n xs) ≡ xs
  unfolding places_of
  placed whole n [] each = refl
  placed whole n (x ∷ xs) each =
      let here : slice_get whole n ≡ Some x = ap (slice_get whole) (omega arith) ∙ each 0 x refl in
      let rest = placed whole (suc n) xs (λ k y at. ap (slice_get whole) (omega arith) ∙ each (suc k) y at) in
      rw here (ap (λ l. x ∷ l) rest)

  look_after : (xs ys : List X) (k : ℕ) (y : X) → slice_get ys k ≡ Some y → slice_get (xs ++ ys) (length xs + k) ≡ Some y
  look_after [] ys k y at = ap (slice_get ys) (omega arith) ∙ at
  look_after (x ∷ xs) ys k y at = ap (slice_get (x ∷ (xs ++ ys))) (let e : length (x ∷ xs) + k ≡ suc (length xs + k) = omega arith in e) ∙ look_after xs ys k y at

  -- positions of a list have the same elements in a longer one
  same_picks : (xs ys : List X) (positions : List ℕ) → ((p : ℕ) → Member p positions → p < length xs) → filter_map (slice_get (xs ++ ys)) positions ≡ filter_map (slice_get xs) positions
  same_picks xs ys [] within = refl
  same_picks xs ys (p ∷ positions) within =
      ap (λ o. cons_option o (filter_map (slice_get (xs ++ ys)) positions)) (look_left xs ys p (within p (inl refl)))
      ∙ ap (cons_option (slice_get xs p)) (same_picks xs ys positions (λ q m. within q (inr m)))

-- ---- puts that are added

-- the latest value of a key after puts of different keys
latest_in : (puts : List Call) (put : Call) (value : List ℕ) (expires : ℕ) → Pairs (λ one other. one.key ≢ other.key) puts → Member put puts → put.act ≡ Put value expires → IsLatest (map deed_of puts) put.key (timed value expires)
latest_in [] put value expires pairs m is = absurd m
latest_in (x ∷ puts) put value expires pairs m is = elim m [
  | inl e ↦ record {
    before = [];
    put = deed_of x;
    after = map deed_of puts;
    split = refl;
    at_key = ap (λ (c : Call). c.key) (sym e);
    value_put = ap (λ (c : Call). c.act) (sym e) ∙ is;
    not_written = member_all (λ deed. ¬ Writes deed put.key) (map deed_of puts) (λ deed md writes.
        let of = member_map deed_of puts deed md in
        pairs.0 of.0 of.1 (ap (λ (c : Call). c.key) (sym e) ∙ sym writes.0 ∙ ap (λ (d : Deed). d.key) of.2));
  }
  | inr later ↦
      let l = latest_in puts put value expires pairs.1 later is in
      record {
        before = deed_of x ∷ l.before;
        put = l.put;
        after = l.after;
        split = ap (λ ds. deed_of x ∷ ds) l.split;
        at_key = l.at_key;
        value_put = l.value_put;
        not_written = l.not_written;
      }
]

-- it stays the latest one while no deed writes the key
latest_on : (deeds more : List Deed) (key : List ℕ) (latest : TimedValue) → IsLatest deeds key latest → All (λ deed. ¬ Writes deed key) more → IsLatest (deeds ++ more) key latest
latest_on deeds more key latest l none = record {
  before = l.before;
  put = l.put;
  after = l.after ++ more;
  split = ap (λ ds. ds ++ more) l.split ∙ append_assoc l.before (l.put ∷ l.after) more;
  at_key = l.at_key;
  value_put = l.value_put;
  not_written = member_all (λ deed. ¬ Writes deed key) (l.after ++ more) (λ deed m. elim (member_either l.after more deed m) [
    | inl left ↦ all_member (λ d. ¬ Writes d key) l.after deed l.not_written left
    | inr right ↦ all_member (λ d. ¬ Writes d key) more deed none right
  ]);
}

-- and it is the latest one, whatever was done before
latest_late : (ahead deeds : List Deed) (key : List ℕ) (latest : TimedValue) → IsLatest deeds key latest → IsLatest (ahead ++ deeds) key latest
latest_late ahead deeds key latest l = record {
  before = ahead ++ l.before;
  put = l.put;
  after = l.after;
  split = ap (λ ds. ahead ++ ds) l.split ∙ sym (append_assoc ahead l.before (l.put ∷ l.after));
  at_key = l.at_key;
  value_put = l.value_put;
  not_written = l.not_written;
}

ever_live : (moment : ℕ) → IsTrue (is_live never moment)
ever_live moment = or_right (nat_lt moment never) (eqb never never) (eq-eqb never never refl)

-- ---- what is read after some deeds

-- a value comes from earlier deeds
record FromPast (past deeds : List Deed) (key value : List ℕ) : Type 0 where
  put : Deed
  listed : Contains past put
  of_key : put.key ≡ key
  expires : ℕ
  is : put.act ≡ Put value expires
  latest : IsLatest past key (timed value expires)
  unwritten : All (λ deed. ¬ Writes deed key) deeds

from_where : (past deeds : List Deed) (key value : List ℕ) (moment : ℕ) (live : IsLive (past ++ deeds) key value moment) → FromPast past deeds key value ⊎ IsLatest deeds key (timed value live.expires)
from_where past deeds key value moment live =
    let l = live.latest in
    elim (split_either past deeds l.before l.put l.after l.split) [
      | inl left ↦ inl (record {
        put = l.put;
        listed = contained_member past l.put (subst (Member l.put) (sym left.1) (member_right l.before (l.put ∷ left.0) l.put (inl refl)));
        of_key = l.at_key;
        expires = live.expires;
        is = l.value_put;
        latest = record {
          before = l.before;
          put = l.put;
          after = left.0;
          split = left.1;
          at_key = l.at_key;
          value_put = l.value_put;
          not_written = member_all (λ d. ¬ Writes d key) left.0 (λ d m. all_member (λ e. ¬ Writes e key) l.after d l.not_written (subst (Member d) (sym left.2) (member_left left.0 deeds d m)));
        };
        unwritten = member_all (λ d. ¬ Writes d key) deeds (λ d m. all_member (λ e. ¬ Writes e key) l.after d l.not_written (subst (Member d) (sym left.2) (member_right left.0 deeds d m)));
      })
      | inr right ↦ inr (record {
        before = right.0;
        put = l.put;
        after = l.after;
        split = right.1;
        at_key = l.at_key;
        value_put = l.value_put;
        not_written = l.not_written;
      })
    ]

-- both values are the latest of the key
one_value : (past : List Deed) (key value other : List ℕ) (a b : ℕ) → IsLatest past key (timed value a) → IsLatest past key (timed other b) → value ≡ other
one_value past key value other a b l m =
    let both : Some (timed value a) ≡ Some (timed other b) = sym (latest_found key (timed value a) past l) ∙ latest_found key (timed other b) past m in
    ap (λ (v : TimedValue). v.value) (same_Some (timed value a) (timed other b) both)

module _ (past : List Deed) (history : List Call) (certificate : List ℕ) (new : AreNew past history) (a : IsAcceptedAfter past history certificate) where
  -- a hit of a value of the past reads what nobody put
  unput_from : (p : ℕ) (call : Call) (value : List ℕ) (moment : ℕ) (deeds : List Deed) → slice_get history p ≡ Some call → call.act ≡ Hit value moment → FromPast past deeds call.key value → IsUnput history p
  unput_from p call value moment deeds at is from = record {
    call = call;
    value = value;
    moment = moment;
    at = at;
    is = is;
    unput = subst (λ key. All (λ other. ¬ PutsAt key value other) history) from.of_key (new from.put value from.expires from.listed from.is);
  }

  -- a call of the history that is done
  record IsDone (positions : List ℕ) (deed : Deed) : Type 0 where
    position : ℕ
    call : Call
    member : Member position positions
    at : slice_get history position ≡ Some call
    does : deed ≡ deed_of call

  done_of : (positions : List ℕ) (deed : Deed) → Member deed (map deed_of (in_order history positions)) → IsDone positions deed
  done_of positions deed m =
      let mapped = member_map deed_of (in_order history positions) deed m in
      let picked = member_picked (slice_get history) positions mapped.0 mapped.1 in
      record { position = picked.0; call = mapped.0; member = picked.1; at = picked.2; does = mapped.2 }

  put_from : (positions : List ℕ) (key value : List ℕ) (expires : ℕ) (latest : IsLatest (map deed_of (in_order history positions)) key (timed value expires)) → (q : ℕ) × (call : Call) × (slice_get history q ≡ Some call) × PutsAt key value call
  put_from positions key value expires latest =
      let done = done_of positions latest.put (subst (Member latest.put) (sym latest.split) (member_right latest.before (latest.put ∷ latest.after) latest.put (inl refl))) in (
        done.position,
        done.call,
        done.at,
        record { one_key = ap (λ (d : Deed). d.key) (sym done.does) ∙ latest.at_key; expires = expires; is = ap (λ (d : Deed). d.act) (sym done.does) ∙ latest.value_put },
      )

  -- the place of a call, and what it reads there if it is a hit
  place_at : (p : ℕ) (call : Call) → slice_get history p ≡ Some call → (i : ℕ) × (slice_get certificate i ≡ Some p)
  place_at p call at =
      let place = place_of certificate p (member_contained certificate p (a.spelled.each p (slice_get_within history p call at))) in
      (place.0, place.2)

  live_at : (i p : ℕ) (call : Call) (value : List ℕ) (moment : ℕ) → slice_get certificate i ≡ Some p → slice_get history p ≡ Some call → call.act ≡ Hit value moment → IsLive (past ++ map deed_of (in_order history (take i certificate))) call.key value moment
  live_at i p call value moment at found is =
      let calls : in_order history certificate ≡ in_order history (take i certificate) ++ call ∷ in_order history (drop (suc i) certificate) =
      ap (in_order history) (cut_at certificate i p at) ∙ filter_map-append (slice_get history) (take i certificate) (p ∷ drop (suc i) certificate) ∙ rw found refl in
      let deeds : map deed_of (in_order history certificate) ≡ map deed_of (in_order history (take i certificate)) ++ deed_of call ∷ map deed_of (in_order history (drop (suc i) certificate)) =
      ap (map deed_of) calls ∙ map-append deed_of (in_order history (take i certificate)) (call ∷ in_order history (drop (suc i) certificate)) in
      a.lawful (past ++ map deed_of (in_order history (take i certificate))) (map deed_of (in_order history (drop (suc i) certificate))) (deed_of call) value moment
      (ap (λ ds. past ++ ds) deeds ∙ sym (append_assoc past (map deed_of (in_order history (take i certificate))) (deed_of call ∷ map deed_of (in_order history (drop (suc i) certificate))))) is

  -- ---- the first hit of a key whose value nobody put

  record IsOf (key : List ℕ) (p : ℕ) : Type 0 where
    unput : IsUnput history p
    of_key : unput.call.key ≡ key

  from_past : (p : ℕ) (is : IsUnput history p) → (i : ℕ) × (slice_get certificate i ≡ Some p) × FromPast past (map deed_of (in_order history (take i certificate))) is.call.key is.value
  from_past p is =
      let place = place_at p is.call is.at in
      let live = live_at place.0 p is.call is.value is.moment place.1 is.at is.is in
      elim (from_where past (map deed_of (in_order history (take place.0 certificate))) is.call.key is.value is.moment live) [
        | inl from ↦ (place.0, place.1, from)
        | inr here ↦
            let put = put_from (take place.0 certificate) is.call.key is.value live.expires here in
            absurd (all_at (λ other. ¬ PutsAt is.call.key is.value other) history put.0 put.1 is.unput put.2 put.3)
      ]

  of_or_not_hit : (key : List ℕ) (p : ℕ) (call : Call) (value : List ℕ) (moment : ℕ) → slice_get history p ≡ Some call → call.act ≡ Hit value moment → IsOf key p ⊎ ¬ IsOf key p
  unfolding unput_from
  of_or_not_hit key p call value moment at is = elim (cases_Bool (pointwise nat_eq call.key key)) [
    | inl same ↦
        let place = place_at p call at in
        let live = live_at place.0 p call value moment place.1 at is in
        elim (from_where past (map deed_of (in_order history (take place.0 certificate))) call.key value moment live) [
          | inl from ↦ inl (record { unput = unput_from p call value moment (map deed_of (in_order history (take place.0 certificate))) at is from; of_key = (bytes_decides call.key key).0 same })
          | inr here ↦ inr (λ of.
              let put = put_from (take place.0 certificate) call.key value live.expires here in
              let mine = same_Some of.unput.call call (sym of.unput.at ∙ at) in
              let acts : Hit of.unput.value of.unput.moment ≡ Hit value moment = sym of.unput.is ∙ ap (λ (c : Call). c.act) mine ∙ is in
              let one : of.unput.value ≡ value = cc in
              all_at (λ other. ¬ PutsAt of.unput.call.key of.unput.value other) history put.0 put.1 of.unput.unput put.2 (record {
                one_key = put.3.one_key ∙ ap (λ (c : Call). c.key) (sym mine);
                expires = put.3.expires;
                is = put.3.is ∙ ap (λ v. Put v put.3.expires) (sym one);
              }))
        ]
    | inr other ↦ inr (λ of.
        let mine = same_Some of.unput.call call (sym of.unput.at ∙ at) in
        let same = (bytes_decides call.key key).1 (ap (λ (c : Call). c.key) (sym mine) ∙ of.of_key) in
        let no : true ≡ false = sym same ∙ other in
        cc)
  ]

  no_hit : (key : List ℕ) (p : ℕ) (call : Call) → slice_get history p ≡ Some call → ((value : List ℕ) (moment : ℕ) → ¬ (call.act ≡ Hit value moment)) → ¬ IsOf key p
  no_hit key p call at not of = not of.unput.value of.unput.moment (ap (λ (c : Call). c.act) (same_Some call of.unput.call (sym at ∙ of.unput.at)) ∙ of.unput.is)

  of_or_not_act : (key : List ℕ) (p : ℕ) (call : Call) (act : Act) → slice_get history p ≡ Some call → call.act ≡ act → IsOf key p ⊎ ¬ IsOf key p
  of_or_not_act key p call (Put v e) at is = inr (no_hit key p call at (λ value moment hit. let both : Put v e ≡ Hit value moment = sym is ∙ hit in cc))
  of_or_not_act key p call Remove at is = inr (no_hit key p call at (λ value moment hit. let both : Remove ≡ Hit value moment = sym is ∙ hit in cc))
  of_or_not_act key p call (Hit v m) at is = of_or_not_hit key p call v m at is
  of_or_not_act key p call Miss at is = inr (no_hit key p call at (λ value moment hit. let both : Miss ≡ Hit value moment = sym is ∙ hit in cc))

  of_or_not : (key : List ℕ) (p : ℕ) (found : Option Call) → slice_get history p ≡ found → IsOf key p ⊎ ¬ IsOf key p
  of_or_not key p None none = inr (λ of. let both : None ≡ Some of.unput.call = sym none ∙ of.unput.at in cc)
  of_or_not key p (Some call) at = of_or_not_act key p call call.act at refl

  -- of those below a position it starts first
  record IsFirstBelow (key : List ℕ) (upto p : ℕ) : Type 0 where
    is : IsOf key p
    first : (q : ℕ) → q < upto → IsOf key q → (q ≡ p) ⊎ IsEarlierBy (start_at history) p q

  earlier_joined : (p q r : ℕ) → IsEarlierBy (start_at history) p q → IsEarlierBy (start_at history) q r → IsEarlierBy (start_at history) p r
  earlier_joined p q r one other = elim one [
    | inl less ↦ elim other [ inl more ↦ inl (omega arith) | inr same ↦ let e = same.0 in inl (omega arith) ]
    | inr same ↦ let e = same.0 in let l = same.1 in elim other [ inl more ↦ inl (omega arith) | inr next ↦ let f = next.0 in let m = next.1 in inr (omega arith, omega arith) ]
  ]

  first_kept : (key : List ℕ) (upto p : ℕ) → IsFirstBelow key upto p → ¬ IsOf key upto → IsFirstBelow key (suc upto) p
  first_kept key upto p first not = record {
    is = first.is;
    first = λ q below is. elim (cases_eq q upto) [
      | inl same ↦ absurd (not (subst (IsOf key) same is))
      | inr other ↦ first.first q (omega arith) is
    ];
  }

  record HasFirst (key : List ℕ) (upto : ℕ) : Type 0 where
    at : ℕ
    within : at < upto
    first : IsFirstBelow key upto at

  first_more : (key : List ℕ) (upto : ℕ) → HasFirst key upto → IsOf key upto → HasFirst key (suc upto)
  first_more key upto has of =
      let p = has.at in
      let low = has.within in
      elim (cases_lt (start_at history upto) (start_at history p)) [
        | inl less ↦ record {
          at = upto;
          within = omega arith;
          first = record {
            is = of;
            first = λ q below is. elim (cases_eq q upto) [
              | inl same ↦ inl same
              | inr other ↦ elim (has.first.first q (omega arith) is) [
                | inl one ↦ inr (inl (subst (λ r. start_at history upto < start_at history r) (sym one) less))
                | inr before ↦ inr (earlier_joined upto has.at q (inl less) before)
              ]
            ];
          };
        }
        | inr not ↦ record {
          at = has.at;
          within = omega arith;
          first = record {
            is = has.first.is;
            first = λ q below is. elim (cases_eq q upto) [
              | inl same ↦ inr (subst (λ r. IsEarlierBy (start_at history) has.at r) (sym same) (elim (cases_eq (start_at history has.at) (start_at history upto)) [
                | inl at_once ↦ inr (at_once, low)
                | inr apart ↦ inl (omega arith)
              ]))
              | inr other ↦ has.first.first q (omega arith) is
            ];
          };
        }
      ]

  first_alone : (key : List ℕ) (upto : ℕ) → IsOf key upto → ((q : ℕ) → q < upto → ¬ IsOf key q) → HasFirst key (suc upto)
  first_alone key upto of none = record {
    at = upto;
    within = omega arith;
    first = record {
      is = of;
      first = λ q below is. elim (cases_eq q upto) [
        | inl same ↦ inl same
        | inr other ↦ absurd (none q (omega arith) is)
      ];
    };
  }

  find_first : (key : List ℕ) (upto : ℕ) → HasFirst key upto ⊎ ((q : ℕ) → q < upto → ¬ IsOf key q)
  find_first key zero = inr (λ q less is. absurd (omega arith))
  find_first key (suc upto) = elim (of_or_not key upto (slice_get history upto) refl) [
    | inl of ↦ elim (find_first key upto) [
      | inl has ↦ inl (first_more key upto has of)
      | inr none ↦ inl (first_alone key upto of none)
    ]
    | inr not ↦ elim (find_first key upto) [
      | inl has ↦ inl (record { at = has.at; within = let w = has.within in omega arith; first = first_kept key upto has.at has.first not })
      | inr none ↦ inr (λ q less is. elim (cases_eq q upto) [
        | inl same ↦ not (subst (IsOf key) same is)
        | inr other ↦ none q (omega arith) is
      ])
    ]
  ]

  -- ---- its value is taken as there from the start

  in_front : (i j p q : ℕ) → j < i → slice_get certificate i ≡ Some p → slice_get certificate j ≡ Some q → Member q (take i certificate)
  in_front i j p q less at_i at_j =
      let within = slice_get_within certificate i p at_i in
      let long : length (take i certificate) ≡ i = omega (arith, length-take i certificate, within) in
      member_at (take i certificate) j q (sym (look_left (take i certificate) (p ∷ drop (suc i) certificate) j (omega (arith, long, less))) ∙ ap (λ ps. slice_get ps j) (sym (cut_at certificate i p at_i)) ∙ at_j)

  no_write_before : (p : ℕ) (is : IsUnput history p) (q : ℕ) (write : Call) → slice_get history q ≡ Some write → Writes (deed_of write) is.call.key → ¬ Precedes write is.call
  no_write_before p is q write at writes before =
      let from = from_past p is in
      let place = place_at q write at in
      elim (cases_before place.0 from.0) [
        | inl less ↦
            let front = in_front from.0 place.0 p q less from.1 place.1 in
            let done = map_member deed_of (in_order history (take from.0 certificate)) write (picked_member (slice_get history) (take from.0 certificate) q write front at) in
            all_member (λ d. ¬ Writes d is.call.key) (map deed_of (in_order history (take from.0 certificate))) (deed_of write) from.2.unwritten done writes
        | inr rest ↦ elim rest [
          | inl same ↦
              let one : q ≡ p = same_Some q p (sym place.1 ∙ ap (slice_get certificate) same ∙ from.1) in
              let it : write ≡ is.call = same_Some write is.call (sym at ∙ ap (slice_get history) one ∙ is.at) in
              no_write write.act is.value is.moment (ap (λ (c : Call). c.act) it ∙ is.is) writes.1
          | inr more ↦
              let pairs = picked_pairs (slice_get history) (λ (b c : Call). ¬ Precedes c b) certificate (pairs_from (λ (b c : Call). ¬ Precedes c b) (in_order history certificate) a.agrees) in
              pairs_at (λ p q. (b c : Call) → slice_get history p ≡ Some b → slice_get history q ≡ Some c → ¬ Precedes c b) certificate from.0 place.0 p q more from.1 place.1 pairs is.call write is.at at before
        ]
      ]

  warm_first : (key : List ℕ) (has : HasFirst key (length history)) → IsWarm history has.at
  warm_first key has = record {
    unput = has.first.is.unput;
    unwritten = all_from_at (λ other. Writes (deed_of other) has.first.is.unput.call.key → ¬ Precedes other has.first.is.unput.call) history (λ q write at writes. no_write_before has.at has.first.is.unput q write at writes);
    first = λ q is same. has.first.first q (slice_get_within history q is.call is.at) (record { unput = is; of_key = same ∙ has.first.is.of_key });
  }

  -- ---- the warmed history

  module _ (hits : List ℕ) (all : AreAllBelow (IsWarm history) (length history) hits) where
    apart : Pairs (λ one other. one.key ≢ other.key) (warm_puts history hits)
    apart = keys_apart history hits all.each (pairs_from (λ p q. p < q) hits all.rise)

    put_there : (key : List ℕ) (has : HasFirst key (length history)) → Member (warm_put has.first.is.unput.call) (warm_puts history hits)
    put_there key has = map_member warm_put (filter_map (slice_get history) hits) has.first.is.unput.call (picked_member (slice_get history) hits has.at has.first.is.unput.call (member_contained hits has.at (all.all has.at has.within (warm_first key has))) has.first.is.unput.at)

    first_of : (p : ℕ) (call : Call) (value : List ℕ) (moment : ℕ) (deeds : List Deed) → slice_get history p ≡ Some call → call.act ≡ Hit value moment → FromPast past deeds call.key value → HasFirst call.key (length history)
    unfolding unput_from
    first_of p call value moment deeds at is from = elim (find_first call.key (length history)) [
      | inl has ↦ has
      | inr none ↦ absurd (none p (slice_get_within history p call at) (record { unput = unput_from p call value moment deeds at is from; of_key = refl }))
    ]

    -- what the past gave is given by an added put
    live_warm : (p : ℕ) (call : Call) (value : List ℕ) (moment : ℕ) (deeds : List Deed) → slice_get history p ≡ Some call → call.act ≡ Hit value moment → FromPast past deeds call.key value → IsLive (map deed_of (warm_puts history hits) ++ deeds) call.key value moment
    live_warm p call value moment deeds at is from =
        let has = first_of p call value moment deeds at is from in
        let u = has.first.is.unput in
        let key = has.first.is.of_key in
        let read = from_past has.at u in
        let same = one_value past call.key u.value value read.2.expires from.expires (subst (λ k. IsLatest past k (timed u.value read.2.expires)) key read.2.latest) from.latest in
        let latest = latest_in (warm_puts history hits) (warm_put u.call) u.value never apart (put_there call.key has) (ap (λ act. Put (value_of act) never) u.is) in
        let here = subst (λ v. IsLatest (map deed_of (warm_puts history hits)) call.key (timed v never)) same (subst (λ k. IsLatest (map deed_of (warm_puts history hits)) k (timed u.value never)) key latest) in
        record { expires = never; latest = latest_on (map deed_of (warm_puts history hits)) deeds call.key (timed value never) here from.unwritten; live = ever_live moment }

    no_hit_put : (deed : Deed) (value : List ℕ) (moment : ℕ) → Member deed (map deed_of (warm_puts history hits)) → ¬ (deed.act ≡ Hit value moment)
    no_hit_put deed value moment m is =
        let mapped = member_map deed_of (warm_puts history hits) deed m in
        let of = put_of history hits mapped.0 all.each mapped.1 in
        let puts : Put (value_of of.warm.unput.call.act) never ≡ Hit value moment = ap (λ (c : Call). c.act) (sym of.is) ∙ ap (λ (d : Deed). d.act) (sym mapped.2) ∙ is in
        cc

    live_there : (front after : List Deed) (deed : Deed) (value : List ℕ) (moment : ℕ) → map deed_of (in_order history certificate) ≡ front ++ deed ∷ after → deed.act ≡ Hit value moment → IsLive (map deed_of (warm_puts history hits) ++ front) deed.key value moment
    live_there front after deed value moment split act =
        let part = parted (slice_get (map deed_of history)) certificate front deed after (picked-map deed_of history certificate ∙ split) in
        let call = found_mapped deed_of history part.at deed part.is in
        let live = a.lawful (past ++ front) after deed value moment (ap (λ ds. past ++ ds) split ∙ sym (append_assoc past front (deed ∷ after))) act in
        elim (from_where past front deed.key value moment live) [
          | inl from ↦
              let back : FromPast past front call.0.key value = subst (λ (d : Deed). FromPast past front d.key value) (sym call.2) from in
              subst (λ (d : Deed). IsLive (map deed_of (warm_puts history hits) ++ front) d.key value moment) call.2 (live_warm part.at call.0 value moment front call.1 (ap (λ (d : Deed). d.act) call.2 ∙ act) back)
          | inr here ↦ record { expires = live.expires; latest = latest_late (map deed_of (warm_puts history hits)) front deed.key (timed value live.expires) here; live = live.live }
        ]

    lawful_warm : IsLawful (map deed_of (warm_puts history hits) ++ map deed_of (in_order history certificate))
    lawful_warm = λ before after deed value moment split act.
        elim (split_either (map deed_of (warm_puts history hits)) (map deed_of (in_order history certificate)) before deed after split) [
          | inl left ↦ absurd (no_hit_put deed value moment (subst (Member deed) (sym left.1) (member_right before (deed ∷ left.0) deed (inl refl))) act)
          | inr right ↦ subst (λ ds. IsLive ds deed.key value moment) (sym right.2) (live_there right.0 after deed value moment right.1 act)
        ]

    at_zero : (put : Call) → Member put (warm_puts history hits) → (put.start ≡ 0) × (put.end ≡ 0)
    at_zero put m = let of = put_of history hits put all.each m in (ap (λ (c : Call). c.start) of.is, ap (λ (c : Call). c.end) of.is)

    order : List ℕ
    order = places_of (length history) (warm_puts history hits) ++ certificate

    below : (p : ℕ) → Member p certificate → p < length history
    below p m = all_member (λ q. q < length history) certificate p a.spelled.positions m

    in_turn : in_order (history ++ warm_puts history hits) order ≡ warm_puts history hits ++ in_order history certificate
    unfolding order
    in_turn =
        filter_map-append (slice_get (history ++ warm_puts history hits)) (places_of (length history) (warm_puts history hits)) certificate
        ∙ ap (λ calls. calls ++ in_order (history ++ warm_puts history hits) certificate) (placed (history ++ warm_puts history hits) (length history) (warm_puts history hits) (λ k call at. look_after history (warm_puts history hits) k call at))
        ∙ ap (λ calls. warm_puts history hits ++ calls) (same_picks history (warm_puts history hits) certificate below)

    spelled : IsOrder (history ++ warm_puts history hits) order
    unfolding order
    spelled =
        let all_count : length (history ++ warm_puts history hits) ≡ length history + length (warm_puts history hits) = length-append history (warm_puts history hits) in
        record {
          positions = member_all (λ p. p < length (history ++ warm_puts history hits)) (places_of (length history) (warm_puts history hits) ++ certificate) (λ p m. elim (member_either (places_of (length history) (warm_puts history hits)) certificate p m) [
            | inl left ↦ let l = places_from (length history) (warm_puts history hits) p left in let h = l.1 in omega (arith, h, all_count)
            | inr right ↦ let b = below p right in omega (arith, b, all_count)
          ]);
          each = λ p less. contained_member (places_of (length history) (warm_puts history hits) ++ certificate) p (elim (cases_lt p (length history)) [
            | inl low ↦ member_right (places_of (length history) (warm_puts history hits)) certificate p (member_contained certificate p (a.spelled.each p low))
            | inr high ↦ member_left (places_of (length history) (warm_puts history hits)) certificate p (in_places (length history) (warm_puts history hits) p high (omega (arith, less, all_count)))
          ]);
          once = pairs_to (λ p q. p ≢ q) (places_of (length history) (warm_puts history hits) ++ certificate) (pairs_append (λ p q. p ≢ q) (places_of (length history) (warm_puts history hits)) certificate (places_once (length history) (warm_puts history hits)) (pairs_from (λ p q. p ≢ q) certificate a.spelled.once) (λ p q m k same.
              let l = places_from (length history) (warm_puts history hits) p m in
              let low = l.0 in
              let b = below q k in
              omega (arith, low, b, same)));
        }

    apart_in_time : (puts : List Call) → ((put : Call) → Member put puts → put.start ≡ 0) → Pairs (λ (b c : Call). ¬ Precedes c b) puts
    apart_in_time [] zeros = tt
    apart_in_time (x ∷ puts) zeros = (λ y m before. let z = zeros x (inl refl) in omega (arith, z, before), apart_in_time puts (λ put m. zeros put (inr m)))

    accepted_warm : IsAccepted (history ++ warm_puts history hits) order
    accepted_warm = record {
      intervals = member_all (λ call. call.start ≤ call.end) (history ++ warm_puts history hits) (λ call m. elim (member_either history (warm_puts history hits) call m) [
        | inl left ↦ all_member (λ c. c.start ≤ c.end) history call a.intervals left
        | inr right ↦ let z = at_zero call right in let s = z.0 in omega (arith, s)
      ]);
      spelled = spelled;
      agrees = pairs_to (λ (b c : Call). ¬ Precedes c b) (in_order (history ++ warm_puts history hits) order) (subst (Pairs (λ (b c : Call). ¬ Precedes c b)) (sym in_turn) (pairs_append (λ (b c : Call). ¬ Precedes c b) (warm_puts history hits) (in_order history certificate) (apart_in_time (warm_puts history hits) (λ put m. (at_zero put m).0)) (pairs_from (λ (b c : Call). ¬ Precedes c b) (in_order history certificate) a.agrees) (λ put call m k before. let z = at_zero put m in let s = z.0 in omega (arith, s, before))));
      lawful = subst IsLawful (sym (ap (map deed_of) in_turn ∙ map-append deed_of (warm_puts history hits) (in_order history certificate))) lawful_warm;
    }

  pub past_accepted : (warm : Warmed) → IsWarmed history warm → (other : List ℕ) × IsAccepted warm.history other
  past_accepted warm is = (order warm.hits.items is.hits, subst (λ calls. IsAccepted calls (order warm.hits.items is.hits)) (sym is.calls) (accepted_warm warm.hits.items is.hits))
