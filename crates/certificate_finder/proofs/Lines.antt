-- Calls in turn are lawful.
use Rattle.std.proofs.Common.{◌≡◌, ◌≢◌, ℕ, ◌≤◌, Some, List, [], ◌∷◌, ◌++◌, map, refl, sym, ap, ◌∙◌, subst, arith, inl, inr}
use Rattle.std.specs.Prelude.{slice_get}
use Rattle.std.proofs.lemmas.List.{map-append}
use Rattle.std.proofs.lemmas.List.Elements.{filter_map-append}
use Rattle.std.proofs.lemmas.Option.{slice_get_within}
use Rattle.trace_file.specs.declared.call.Call.{Call}
use Rattle.certificate_checker.specs.Deeds.{Deed, deed_of}
use Rattle.certificate_checker.specs.Latest.{Writes, IsLive, IsLawful}
use Rattle.certificate_checker.specs.Orders.{IsOrder, in_order}
use Rattle.certificate_checker.proofs.public_laws.Laying.{picked-map}
use Rattle.certificate_checker.proofs.public_laws.Listing.{Member, Pairs, member_either, member_left, member_right, member_map, member_picked, member_contained, member_all, pairs_from}
use Rattle.certificate_finder.specs.Turns.{IsHit, WritesAt, AreTurns}
use Rattle.certificate_finder.proofs.Reading.{parted, found_mapped}

-- ---- lists

pub pairs_front : {X : Type 0} (R : X → X → Type 0) (xs ys : List X) → Pairs R (xs ++ ys) → Pairs R xs
pairs_front R [] ys h = tt
pairs_front R (x ∷ xs) ys h = (λ z m. h.0 z (member_left xs ys z m), pairs_front R xs ys h.1)

pub pairs_ahead : {X : Type 0} (R : X → X → Type 0) (xs : List X) (y : X) (ys : List X) → Pairs R (xs ++ y ∷ ys) → (x : X) → Member x xs → R x y
pairs_ahead R [] y ys h x m = absurd m
pairs_ahead R (z ∷ xs) y ys h x m = elim m [
  | inl same ↦ subst (λ w. R w y) (sym same) (h.0 y (member_right xs (y ∷ ys) y (inl refl)))
  | inr later ↦ pairs_ahead R xs y ys h.1 x later
]

pub pairs_behind : {X : Type 0} (R : X → X → Type 0) (xs : List X) (y : X) (ys : List X) → Pairs R (xs ++ y ∷ ys) → (z : X) → Member z ys → R y z
pairs_behind R [] y ys h z m = h.0 z m
pairs_behind R (x ∷ xs) y ys h z m = pairs_behind R xs y ys h.1 z m

pub member_cut : {X : Type 0} (xs : List X) (x : X) → Member x xs → (front : List X) × (back : List X) × (xs ≡ front ++ x ∷ back)
member_cut [] x m = absurd m
member_cut (y ∷ xs) x m = elim m [
  | inl same ↦ ([], xs, ap (λ z. z ∷ xs) (sym same))
  | inr later ↦ let cut = member_cut xs x later in (y ∷ cut.0, cut.1, ap (λ zs. y ∷ zs) cut.2)
]

-- ---- deeds at positions

deeds_cut : (history : List Call) (xs ys : List ℕ) (p : ℕ) (call : Call) → slice_get history p ≡ Some call → map deed_of (in_order history (xs ++ p ∷ ys)) ≡ map deed_of (in_order history xs) ++ deed_of call ∷ map deed_of (in_order history ys)
deeds_cut history xs ys p call at =
    let calls : in_order history (xs ++ p ∷ ys) ≡ in_order history xs ++ call ∷ in_order history ys = filter_map-append (slice_get history) xs (p ∷ ys) ∙ rw at refl in
    ap (map deed_of) calls ∙ map-append deed_of (in_order history xs) (call ∷ in_order history ys)

-- a deed at positions is of a call at one of them
deed_from : (history : List Call) (positions : List ℕ) (deed : Deed) → Member deed (map deed_of (in_order history positions)) → (p : ℕ) × (call : Call) × Member p positions × (slice_get history p ≡ Some call) × (deed ≡ deed_of call)
deed_from history positions deed m =
    let call = member_map deed_of (in_order history positions) deed m in
    let p = member_picked (slice_get history) positions call.0 call.1 in
    (p.0, call.0, p.1, p.2, call.2)

-- ---- in turn

module _ (history : List Call) (owner rank : ℕ → ℕ) (turns : AreTurns history owner rank) (line : List ℕ) (order : IsOrder history line) (up : Pairs (λ p q. rank p ≤ rank q) line) where
  once : Pairs (λ p q. p ≢ q) line
  once = pairs_from (λ p q. p ≢ q) line order.once

  -- what a hit reads stands before it
  owner_ahead : (front back : List ℕ) (p : ℕ) (key value : List ℕ) (moment : ℕ) → line ≡ front ++ p ∷ back → IsHit history p key value moment → Member (owner p) front
  owner_ahead front back p key value moment split hit =
      let put = turns.given p key value moment hit in
      let less = turns.behind p key value moment hit in
      let there : Member (owner p) line = member_contained line (owner p) (order.each (owner p) (slice_get_within history (owner p) put.call put.at)) in
      elim (member_either front (p ∷ back) (owner p) (subst (Member (owner p)) split there)) [
        | inl here ↦ here
        | inr rest ↦ elim rest [
          | inl same ↦ absurd (let e = ap rank same in omega (arith, less, e))
          | inr later ↦ absurd (let le = pairs_behind (λ p q. rank p ≤ rank q) front p back (subst (Pairs (λ p q. rank p ≤ rank q)) split up) (owner p) later in omega (arith, less, le))
        ]
      ]

  -- and no write of its key between
  none_between : (front mid back : List ℕ) (p : ℕ) (key value : List ℕ) (moment : ℕ) → line ≡ (front ++ owner p ∷ mid) ++ p ∷ back → IsHit history p key value moment → (q : ℕ) → Member q mid → ¬ WritesAt history q key
  none_between front mid back p key value moment split hit q m writes =
      let ranks = subst (Pairs (λ p q. rank p ≤ rank q)) split up in
      let from : rank (owner p) ≤ rank q = pairs_behind (λ p q. rank p ≤ rank q) front (owner p) mid (pairs_front (λ p q. rank p ≤ rank q) (front ++ owner p ∷ mid) (p ∷ back) ranks) q m in
      let till : rank q ≤ rank p = pairs_ahead (λ p q. rank p ≤ rank q) (front ++ owner p ∷ mid) p back ranks q (member_right front (owner p ∷ mid) q (inr m)) in
      let it : q ≡ owner p = turns.alone p q key value moment hit writes from till in
      let apart : owner p ≢ q = pairs_behind (λ p q. p ≢ q) front (owner p) mid (pairs_front (λ p q. p ≢ q) (front ++ owner p ∷ mid) (p ∷ back) (subst (Pairs (λ p q. p ≢ q)) split once)) q m in
      apart (sym it)

  hit_live : (front back : List ℕ) (p : ℕ) (key value : List ℕ) (moment : ℕ) → line ≡ front ++ p ∷ back → IsHit history p key value moment → IsLive (map deed_of (in_order history front)) key value moment
  hit_live front back p key value moment split hit =
      let put = turns.given p key value moment hit in
      let cut = member_cut front (owner p) (owner_ahead front back p key value moment split hit) in
      let whole : line ≡ (cut.0 ++ owner p ∷ cut.1) ++ p ∷ back = split ∙ ap (λ ps. ps ++ p ∷ back) cut.2 in
      record {
        expires = put.expires;
        latest = record {
          before = map deed_of (in_order history cut.0);
          put = deed_of put.call;
          after = map deed_of (in_order history cut.1);
          split = ap (λ ps. map deed_of (in_order history ps)) cut.2 ∙ deeds_cut history cut.0 cut.1 (owner p) put.call put.at;
          at_key = put.one_key;
          value_put = put.is;
          not_written = member_all (λ deed. ¬ Writes deed key) (map deed_of (in_order history cut.1)) (λ deed m writes.
              let found = deed_from history cut.1 deed m in
              none_between cut.0 cut.1 back p key value moment whole hit found.0 found.2 (record { call = found.1; at = found.3; writes = subst (λ d. Writes d key) found.4 writes }));
        };
        live = put.live;
      }

  pub line_lawful : IsLawful (map deed_of (in_order history line))
  line_lawful = λ before after deed value moment split hit.
      let part = parted (slice_get (map deed_of history)) line before deed after (picked-map deed_of history line ∙ split) in
      let call = found_mapped deed_of history part.at deed part.is in
      let is : IsHit history part.at deed.key value moment = record { call = call.0; at = call.1; one_key = ap (λ (d : Deed). d.key) call.2; is = ap (λ (d : Deed). d.act) call.2 ∙ hit } in
      subst (λ deeds. IsLive deeds deed.key value moment) (sym (picked-map deed_of history part.front) ∙ part.ahead) (hit_live part.front part.back part.at deed.key value moment part.split is)
