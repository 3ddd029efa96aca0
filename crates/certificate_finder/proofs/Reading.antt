-- What a hit reads in an accepted order, by places of its certificate.
use Rattle.std.proofs.Common.{◌≡◌, ◌≢◌, ℕ, ◌+◌, ◌-◌, ◌<◌, ◌≤◌, zero, suc, IsTrue, Option, Some, None, List, [], ◌∷◌, ◌++◌, length, take, drop, get_or, refl, sym, ap, ◌∙◌, subst, arith, inl, inr, length-take}
use Rattle.std.specs.Prelude.{slice_get, option_map, All, map}
use Rattle.std.specs.List.{filter_map, cons_option}
use Rattle.std.proofs.lemmas.List.{map-append}
use Rattle.std.proofs.lemmas.List.Elements.{filter_map-append}
use Rattle.std.proofs.lemmas.Option.{slice_get-map, slice_get_within, slice_get-get_or, get_or_from_slice_get}
use Rattle.record_pages.specs.Expiry.{is_live}
use Rattle.trace_file.specs.declared.act.Act.{Act}
use Rattle.trace_file.specs.declared.act.Act.TheVariants.{Put, Hit}
use Rattle.trace_file.specs.declared.call.Call.{Call}
use Rattle.certificate_checker.specs.Acceptance.{IsAccepted}
use Rattle.certificate_checker.specs.Deeds.{Deed, deed_of}
use Rattle.certificate_checker.specs.Latest.{IsWrite, Writes, IsLive}
use Rattle.certificate_checker.specs.Orders.{Precedes, in_order}
use Rattle.certificate_checker.proofs.public_laws.Laying.{picked-map, cases_before}
use Rattle.certificate_checker.proofs.public_laws.Layouts.{picked_pairs}
use Rattle.certificate_checker.proofs.public_laws.Listing.{Member, member_at, picked_member, member_contained, place_of, all_member, pairs_from, pairs_at}
use Rattle.certificate_finder.specs.Reads.{StandsBetween, HasBegun, CouldRead}

-- ---- lists

-- what holds of each holds of what a look-up finds
pub all_at : {X : Type 0} (P : X → Type 0) (xs : List X) (i : ℕ) (x : X) → All P xs → slice_get xs i ≡ Some x → P x
all_at P xs i x all found = subst P (get_or_from_slice_get xs i x x found) (all i x (slice_get_within xs i x found))

pub look_left : {X : Type 0} (xs ys : List X) (i : ℕ) → i < length xs → slice_get (xs ++ ys) i ≡ slice_get xs i
look_left [] ys i less = absurd (omega arith)
look_left (x ∷ xs) ys zero less = refl
look_left (x ∷ xs) ys (suc i) less = look_left xs ys i (omega arith)

pub look_right : {X : Type 0} (xs ys : List X) (i j : ℕ) → i ≡ length xs + j → slice_get (xs ++ ys) i ≡ slice_get ys j
look_right [] ys i j e = let same : i ≡ j = omega arith in ap (slice_get ys) same
look_right (x ∷ xs) ys zero j e = absurd (omega arith)
look_right (x ∷ xs) ys (suc i) j e = look_right xs ys i j (omega arith)

pub cut_at : {X : Type 0} (xs : List X) (i : ℕ) (x : X) → slice_get xs i ≡ Some x → xs ≡ take i xs ++ x ∷ drop (suc i) xs
cut_at [] i x e = cc
cut_at (y ∷ xs) zero x e = let same : y ≡ x = cc in ap (λ z. z ∷ xs) same
cut_at (y ∷ xs) (suc i) x e = ap (λ zs. y ∷ zs) (cut_at xs i x e)

pub found_mapped : {X Y : Type 0} (f : X → Y) (xs : List X) (i : ℕ) (y : Y) → slice_get (map f xs) i ≡ Some y → (x : X) × (slice_get xs i ≡ Some x) × (f x ≡ y)
found_mapped f [] i y e = cc
found_mapped f (x ∷ xs) zero y e = (x, refl, let same : f x ≡ y = cc in same)
found_mapped f (x ∷ xs) (suc i) y e = found_mapped f xs i y e

length_between : {X : Type 0} (xs ys : List X) (x : X) → length xs < length (xs ++ x ∷ ys)
length_between [] ys x = omega arith
length_between (y ∷ xs) ys x = let less = length_between xs ys x in omega (arith, less)

-- a picked list that is split comes from a list that is
pub record Parted {X Y : Type 0} (h : X → Option Y) (xs : List X) (before : List Y) (y : Y) (after : List Y) : Type 0 where
  pub front : List X
  pub at : X
  pub back : List X
  pub split : xs ≡ front ++ at ∷ back
  pub is : h at ≡ Some y
  pub ahead : filter_map h front ≡ before
  pub rest : filter_map h back ≡ after

passed : {X Y : Type 0} (h : X → Option Y) (x : X) (xs : List X) (before : List Y) (y : Y) (after : List Y) → h x ≡ None → Parted h xs before y after → Parted h (x ∷ xs) before y after
passed h x xs before y after is p = record { front = x ∷ p.front; at = p.at; back = p.back; split = ap (λ zs. x ∷ zs) p.split; is = p.is; ahead = rw is p.ahead; rest = p.rest }

further : {X Y : Type 0} (h : X → Option Y) (x : X) (xs : List X) (z : Y) (before : List Y) (y : Y) (after : List Y) → h x ≡ Some z → Parted h xs before y after → Parted h (x ∷ xs) (z ∷ before) y after
further h x xs z before y after is p = record { front = x ∷ p.front; at = p.at; back = p.back; split = ap (λ zs. x ∷ zs) p.split; is = p.is; ahead = rw is (ap (λ ys. z ∷ ys) p.ahead); rest = p.rest }

no_split : {Y : Type 0} (before after : List Y) (y : Y) → [] ≡ before ++ y ∷ after → ⊥
no_split [] after y e = cc
no_split (z ∷ before) after y e = cc

parted_some : {X Y : Type 0} (h : X → Option Y) (x : X) (xs : List X) (z : Y) → h x ≡ Some z → (before : List Y) (y : Y) (after : List Y) → z ∷ filter_map h xs ≡ before ++ y ∷ after → ((front : List Y) → filter_map h xs ≡ front ++ y ∷ after → Parted h xs front y after) → Parted h (x ∷ xs) before y after
parted_some h x xs z is [] y after e on =
    let same : z ≡ y = cc in
    let rest : filter_map h xs ≡ after = cc in
    record { front = []; at = x; back = xs; split = refl; is = is ∙ ap Some same; ahead = refl; rest = rest }
parted_some h x xs z is (w ∷ before) y after e on =
    let same : z ≡ w = cc in
    let rest : filter_map h xs ≡ before ++ y ∷ after = cc in
    subst (λ v. Parted h (x ∷ xs) (v ∷ before) y after) same (further h x xs z before y after is (on before rest))

pub parted : {X Y : Type 0} (h : X → Option Y) (xs : List X) (before : List Y) (y : Y) (after : List Y) → filter_map h xs ≡ before ++ y ∷ after → Parted h xs before y after
parted h [] before y after e = absurd (no_split before after y e)
parted {X} {Y} h (x ∷ xs) before y after e =
    elim (h x) as (λ o. h x ≡ o → cons_option o (filter_map h xs) ≡ before ++ y ∷ after → Parted h (x ∷ xs) before y after) [
      | None ↦ λ is same. passed h x xs before y after is (parted h xs before y after same)
      | Some z ↦ λ is same. parted_some h x xs z is before y after same (λ front on. parted h xs front y after on)
    ] refl e

-- ---- an accepted order

-- what the hit at a place read: a put at an earlier place, and no write of its key between
pub record ReadsFrom (history : List Call) (certificate : List ℕ) (place : ℕ) (key value : List ℕ) (moment : ℕ) : Type 0 where
  pub from : ℕ
  pub position : ℕ
  pub put : Call
  pub expires : ℕ
  pub earlier : from < place
  pub placed : slice_get certificate from ≡ Some position
  pub at : slice_get history position ≡ Some put
  pub one_key : put.key ≡ key
  pub is : put.act ≡ Put value expires
  pub live : IsTrue (is_live expires moment)
  pub unwritten : (j q : ℕ) (call : Call) → from < j → j < place → slice_get certificate j ≡ Some q → slice_get history q ≡ Some call → ¬ Writes (deed_of call) key

pub no_write : (act : Act) (value : List ℕ) (moment : ℕ) → act ≡ Hit value moment → ¬ IsWrite act
no_write act value moment e writes = let none : IsWrite (Hit value moment) = subst IsWrite e writes in none

module _ (history : List Call) (certificate : List ℕ) (a : IsAccepted history certificate) where
  -- no call stands after one that it precedes
  pub agrees_at : (i j p q : ℕ) (one other : Call) → i < j → slice_get certificate i ≡ Some p → slice_get certificate j ≡ Some q → slice_get history p ≡ Some one → slice_get history q ≡ Some other → ¬ Precedes other one
  agrees_at i j p q one other less at_i at_j at_p at_q =
      let pairs = picked_pairs (slice_get history) (λ (b c : Call). ¬ Precedes c b) certificate (pairs_from (λ (b c : Call). ¬ Precedes c b) (in_order history certificate) a.agrees) in
      pairs_at (λ p q. (b c : Call) → slice_get history p ≡ Some b → slice_get history q ≡ Some c → ¬ Precedes c b) certificate i j p q less at_i at_j pairs one other at_p at_q

  -- each call has a place
  pub placed_at : (p : ℕ) (call : Call) → slice_get history p ≡ Some call → (i : ℕ) × (slice_get certificate i ≡ Some p)
  placed_at p call at =
      let place = place_of certificate p (member_contained certificate p (a.spelled.each p (slice_get_within history p call at))) in
      (place.0, place.2)

  -- and one alone
  pub one_place : (i j p : ℕ) → slice_get certificate i ≡ Some p → slice_get certificate j ≡ Some p → i ≡ j
  one_place i j p at_i at_j =
      let once = pairs_from (λ p q. p ≢ q) certificate a.spelled.once in
      elim (cases_before i j) [
        | inl less ↦ absurd (pairs_at (λ p q. p ≢ q) certificate i j p p less at_i at_j once refl)
        | inr rest ↦ elim rest [
          | inl same ↦ same
          | inr less ↦ absurd (pairs_at (λ p q. p ≢ q) certificate j i p p less at_j at_i once refl)
        ]
      ]

  module _ (place hit : ℕ) (call : Call) (value : List ℕ) (moment : ℕ) (placed : slice_get certificate place ≡ Some hit) (found : slice_get history hit ≡ Some call) (is : call.act ≡ Hit value moment) where
    cut : certificate ≡ take place certificate ++ hit ∷ drop (suc place) certificate
    cut = cut_at certificate place hit placed

    calls : in_order history certificate ≡ in_order history (take place certificate) ++ call ∷ in_order history (drop (suc place) certificate)
    calls = ap (in_order history) cut ∙ filter_map-append (slice_get history) (take place certificate) (hit ∷ drop (suc place) certificate) ∙ rw found refl

    live : IsLive (map deed_of (in_order history (take place certificate))) call.key value moment
    live =
        a.lawful (map deed_of (in_order history (take place certificate))) (map deed_of (in_order history (drop (suc place) certificate))) (deed_of call) value moment
        (ap (map deed_of) calls ∙ map-append deed_of (in_order history (take place certificate)) (call ∷ in_order history (drop (suc place) certificate))) is

    apart : Parted (slice_get (map deed_of history)) (take place certificate) live.latest.before live.latest.put live.latest.after
    apart = parted (slice_get (map deed_of history)) (take place certificate) live.latest.before live.latest.put live.latest.after (picked-map deed_of history (take place certificate) ∙ live.latest.split)

    long : length (take place certificate) ≡ place
    long = let within = slice_get_within certificate place hit placed in omega (arith, length-take place certificate, within)

    -- a place before the hit's
    early : (j : ℕ) → j < place → slice_get certificate j ≡ slice_get (apart.front ++ apart.at ∷ apart.back) j
    early j less =
        ap (λ ps. slice_get ps j) cut ∙ look_left (take place certificate) (hit ∷ drop (suc place) certificate) j (omega (arith, long, less)) ∙ ap (λ ps. slice_get ps j) apart.split

    first : length apart.front < place
    first = let len : length (apart.front ++ apart.at ∷ apart.back) ≡ place = ap length (sym apart.split) ∙ long in omega (arith, len, length_between apart.front apart.back apart.at)

    pub reads : ReadsFrom history certificate place call.key value moment
    reads =
        let put = found_mapped deed_of history apart.at live.latest.put apart.is in
        let from = length apart.front in
        record {
          from = from;
          position = apart.at;
          put = put.0;
          expires = live.expires;
          earlier = first;
          placed = early from first ∙ look_right apart.front (apart.at ∷ apart.back) from 0 (omega arith);
          at = put.1;
          one_key = ap (λ (d : Deed). d.key) put.2 ∙ live.latest.at_key;
          is = ap (λ (d : Deed). d.act) put.2 ∙ live.latest.value_put;
          live = live.live;
          unwritten = λ j q other less lower at_j at_q.
              let k = j - from - 1 in
              let in_back : slice_get apart.back k ≡ Some q = sym (look_right apart.front (apart.at ∷ apart.back) j (suc k) (omega (arith, less))) ∙ sym (early j lower) ∙ at_j in
              let deed : slice_get (map deed_of history) q ≡ Some (deed_of other) = slice_get-map deed_of history q ∙ ap (option_map deed_of) at_q in
              let member = picked_member (slice_get (map deed_of history)) apart.back q (deed_of other) (member_at apart.back k q in_back) deed in
              all_member (λ (d : Deed). ¬ Writes d call.key) live.latest.after (deed_of other) live.latest.not_written (subst (Member (deed_of other)) apart.rest member);
        }

    -- no write of the key stands between the put and the hit in time
    stands : (q : ℕ) (other : Call) → slice_get history q ≡ Some other → ¬ StandsBetween call.key reads.put call other
    stands q other at between =
        let j = placed_at q other at in
        elim (cases_before j.0 reads.from) [
          | inl less ↦ agrees_at j.0 reads.from q reads.position other reads.put less j.1 reads.placed at reads.at between.behind
          | inr rest ↦ elim rest [
            | inl same ↦
                let here : Some q ≡ Some reads.position = sym j.1 ∙ ap (slice_get certificate) same ∙ reads.placed in
                let one : q ≡ reads.position = cc in
                let both : Some other ≡ Some reads.put = sym at ∙ ap (slice_get history) one ∙ reads.at in
                let it : other ≡ reads.put = cc in
                let enough = all_at (λ (c : Call). c.start ≤ c.end) history reads.position reads.put a.intervals reads.at in
                let back : Precedes reads.put reads.put = subst (λ (c : Call). Precedes reads.put c) it between.behind in
                omega (arith, enough, back)
            | inr more ↦ elim (cases_before j.0 place) [
              | inl less ↦ reads.unwritten j.0 q other more less j.1 at between.writes
              | inr other_rest ↦ elim other_rest [
                | inl same ↦
                    let here : Some q ≡ Some hit = sym j.1 ∙ ap (slice_get certificate) same ∙ placed in
                    let one : q ≡ hit = cc in
                    let both : Some other ≡ Some call = sym at ∙ ap (slice_get history) one ∙ found in
                    let it : other ≡ call = cc in
                    no_write other.act value moment (ap (λ (c : Call). c.act) it ∙ is) between.writes.1
                | inr less ↦ agrees_at place j.0 hit q call other less placed j.1 found at between.before
              ]
            ]
          ]
        ]

    pub none_between : All (λ other. ¬ StandsBetween call.key reads.put call other) history
    none_between = λ k d within. stands k (get_or history k d) (slice_get-get_or history k d within)

    pub begun : ¬ Precedes call reads.put
    begun = agrees_at reads.from place reads.position hit reads.put call reads.earlier reads.placed placed reads.at found

    has_begun : HasBegun history hit reads.position
    has_begun = record {
      hit_call = call;
      put_call = reads.put;
      value = value;
      moment = moment;
      expires = reads.expires;
      hit_at = found;
      put_at = reads.at;
      hit_is = is;
      put_is = reads.is;
      one_key = reads.one_key;
      begun = begun;
    }

    -- what it read is one that it could read
    pub could_read : CouldRead history hit reads.position
    unfolding has_begun reads
    could_read = record {
      stands = record { has = has_begun; stands = none_between };
      lives = record { has = has_begun; live = reads.live };
    }
