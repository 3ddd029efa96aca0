-- What warming adds to a history, and what it does not change.
use Rattle.std.proofs.Common.{◌≡◌, ◌≢◌, ℕ, ◌-◌, ◌<◌, ◌≤◌, Some, List, [], ◌∷◌, ◌++◌, length, refl, sym, ap, ◌∙◌, subst, arith, inl, inr}
use Rattle.std.specs.Prelude.{All, AllPairs, slice_get}
use Rattle.std.specs.List.{filter_map}
use Rattle.std.proofs.lemmas.Bool.{cases_lt}
use Rattle.std.proofs.lemmas.List.{append-nil}
use Rattle.std.proofs.lemmas.Option.{same_Some, slice_get_within}
use Rattle.trace_file.specs.Calls.{value_of}
use Rattle.trace_file.specs.declared.act.Act.TheVariants.{Put, Hit}
use Rattle.trace_file.specs.declared.call.Call.{Call}
use Rattle.certificate_checker.specs.Acceptance.{IsAccepted}
use Rattle.certificate_checker.proofs.public_laws.Listing.{Member, Pairs, all_member, member_all, member_at, member_map, member_picked, pairs_from, pairs_map, pairs_picked, pairs_to, pairs_weaker}
use Rattle.certificate_finder.specs.declared.warmed.Warmed.{Warmed}
use Rattle.certificate_finder.specs.Choosing.{IsEarlierBy}
use Rattle.certificate_finder.specs.Reads.{CouldRead, HasBegun, HasNone, StandsBetween}
use Rattle.certificate_finder.specs.Turns.{start_at}
use Rattle.certificate_finder.specs.Warming.{IsUnput, IsWarm, IsWarmed, PutsAt, warm_put, warm_puts}
use Rattle.certificate_finder.proofs.Listing.{all_from_at}
use Rattle.certificate_finder.proofs.Reading.{all_at, look_left, look_right, placed_at, reads}

-- ---- nothing is added to what is accepted

no_unput : (history : List Call) (certificate : List ℕ) → IsAccepted history certificate → (hit : ℕ) → ¬ IsUnput history hit
no_unput history certificate a hit is =
    let place = placed_at history certificate a hit is.call is.at in
    let read = reads history certificate a place.0 hit is.call is.value is.moment place.1 is.at is.is in
    all_at (λ other. ¬ PutsAt is.call.key is.value other) history read.position read.put is.unput read.at (record { one_key = read.one_key; expires = read.expires; is = read.is })

no_hits : (history : List Call) (certificate : List ℕ) → IsAccepted history certificate → (hits : List ℕ) → All (IsWarm history) hits → hits ≡ []
no_hits history certificate a [] warm = refl
no_hits history certificate a (hit ∷ hits) warm = absurd (no_unput history certificate a hit (all_member (IsWarm history) (hit ∷ hits) hit warm (inl refl)).unput)

pub stays_cold : (history : List Call) (warm : Warmed) (certificate : List ℕ) → IsWarmed history warm → IsAccepted history certificate → warm.history ≡ history
stays_cold history warm certificate is a =
    let none = no_hits history certificate a warm.hits.items is.hits.each in
    is.calls ∙ ap (λ hits. history ++ warm_puts history hits) none ∙ append-nil history

-- ---- each added put is of a hit, and of a key of its own

-- the hit of an added put
pub record PutOf (history : List Call) (hits : List ℕ) (put : Call) : Type 0 where
  pub hit : ℕ
  pub warm : IsWarm history hit
  pub listed : Member hit hits
  pub is : put ≡ warm_put warm.unput.call

pub put_of : (history : List Call) (hits : List ℕ) (put : Call) → All (IsWarm history) hits → Member put (warm_puts history hits) → PutOf history hits put
put_of history hits put all member =
    let mapped = member_map warm_put (filter_map (slice_get history) hits) put member in
    let picked = member_picked (slice_get history) hits mapped.0 mapped.1 in
    let warm = all_member (IsWarm history) hits picked.0 all picked.1 in
    let same = same_Some mapped.0 warm.unput.call (sym picked.2 ∙ warm.unput.at) in
    record { hit = picked.0; warm = warm; listed = picked.1; is = mapped.2 ∙ ap warm_put same }

-- what an added put puts
pub value_put : (history : List Call) (hits : List ℕ) (put : Call) (of : PutOf history hits put) → value_of put.act ≡ of.warm.unput.value
value_put history hits put of = ap (λ (c : Call). value_of c.act) of.is ∙ ap value_of of.warm.unput.is

not_both : (stamp : ℕ → ℕ) (p q : ℕ) → IsEarlierBy stamp p q → ¬ IsEarlierBy stamp q p
not_both stamp p q one other = elim one [
  | inl less ↦ elim other [ inl more ↦ omega arith | inr same ↦ let e = same.0 in omega arith ]
  | inr same ↦ let e = same.0 in let l = same.1 in elim other [ inl more ↦ omega arith | inr back ↦ let b = back.1 in omega arith ]
]

-- two of them are of one key only if they are the same
one_key : (history : List Call) (p q : ℕ) (one : IsWarm history p) (other : IsWarm history q) → other.unput.call.key ≡ one.unput.call.key → q ≡ p
one_key history p q one other key = elim (one.first q other.unput key) [
  | inl same ↦ same
  | inr before ↦ elim (other.first p one.unput (sym key)) [
    | inl same ↦ sym same
    | inr behind ↦ absurd (not_both (start_at history) p q before behind)
  ]
]

record AreInTurn (history : List Call) (p q : ℕ) : Type 0 where
  one : IsWarm history p
  other : IsWarm history q
  less : p < q

pub keys_apart : (history : List Call) (hits : List ℕ) → All (IsWarm history) hits → Pairs (λ p q. p < q) hits → Pairs (λ one other. one.key ≢ other.key) (warm_puts history hits)
keys_apart history hits all rise =
    let turns = pairs_weaker (λ p q. p < q) (AreInTurn history) hits (λ p q m n less. record { one = all_member (IsWarm history) hits p all m; other = all_member (IsWarm history) hits q all n; less = less }) rise in
    pairs_map warm_put (λ one other. one.key ≢ other.key) (filter_map (slice_get history) hits)
    (pairs_picked (slice_get history) (AreInTurn history) (λ (c d : Call). c.key ≢ d.key) hits (λ p q c d at_p at_q turn key.
    let one = same_Some c turn.one.unput.call (sym at_p ∙ turn.one.unput.at) in
    let other = same_Some d turn.other.unput.call (sym at_q ∙ turn.other.unput.at) in
    let e = one_key history p q turn.one turn.other (ap (λ (x : Call). x.key) (sym other) ∙ sym key ∙ ap (λ (x : Call). x.key) one) in
    let l = turn.less in
    omega (arith, e, l)) turns)

pub warmed_once : (history : List Call) (warm : Warmed) → IsWarmed history warm → AllPairs (λ one other. one.key ≢ other.key) (warm_puts history warm.hits.items) × All (λ put. (hit : ℕ) × (is : IsUnput history hit) × (is.call.key ≡ put.key)) (warm_puts history warm.hits.items)
warmed_once history warm is = (
  pairs_to (λ one other. one.key ≢ other.key) (warm_puts history warm.hits.items) (keys_apart history warm.hits.items is.hits.each (pairs_from (λ p q. p < q) warm.hits.items is.hits.rise)),
  member_all (λ put. (hit : ℕ) × (u : IsUnput history hit) × (u.call.key ≡ put.key)) (warm_puts history warm.hits.items) (λ put m.
      let of = put_of history warm.hits.items put is.hits.each m in
      (of.hit, of.warm.unput, ap (λ (c : Call). c.key) (sym of.is))),
)

-- ---- a stale hit stays wrong

module _ (history : List Call) (hits : List ℕ) (all : All (IsWarm history) hits) (hit : ℕ) (none : HasNone history hit) where
  -- a look-up among the calls of the history
  at_left : (p : ℕ) (call : Call) → p < length history → slice_get (history ++ warm_puts history hits) p ≡ Some call → slice_get history p ≡ Some call
  at_left p call less at = sym (look_left history (warm_puts history hits) p less) ∙ at

  hit_within : hit < length history
  hit_within = slice_get_within history hit none.call none.at

  abbrev begun_left : (put : ℕ) → put < length history → HasBegun (history ++ warm_puts history hits) hit put → HasBegun history hit put
  begun_left put less has = record {
    hit_call = has.hit_call;
    put_call = has.put_call;
    value = has.value;
    moment = has.moment;
    expires = has.expires;
    hit_at = at_left hit has.hit_call hit_within has.hit_at;
    put_at = at_left put has.put_call less has.put_at;
    hit_is = has.hit_is;
    put_is = has.put_is;
    one_key = has.one_key;
    begun = has.begun;
  }

  could_left : (put : ℕ) → put < length history → CouldRead (history ++ warm_puts history hits) hit put → CouldRead history hit put
  could_left put less could = record {
    stands = record {
      has = begun_left put less could.stands.has;
      stands = all_from_at (λ call. ¬ StandsBetween could.stands.has.hit_call.key could.stands.has.put_call could.stands.has.hit_call call) history (λ k call at.
          all_at (λ c. ¬ StandsBetween could.stands.has.hit_call.key could.stands.has.put_call could.stands.has.hit_call c) (history ++ warm_puts history hits) k call could.stands.stands (look_left history (warm_puts history hits) k (slice_get_within history k call at) ∙ at));
    };
    lives = record { has = begun_left put less could.lives.has; live = could.lives.live };
  }

  -- what was added is not of a value that was put
  not_added : (put : ℕ) → length history ≤ put → (q : ℕ) (call : Call) → slice_get history q ≡ Some call → PutsAt none.call.key none.value call → ¬ HasBegun (history ++ warm_puts history hits) hit put
  not_added put from q call at puts has =
      let j = put - length history in
      let in_puts : slice_get (warm_puts history hits) j ≡ Some has.put_call = sym (look_right history (warm_puts history hits) put j (omega arith)) ∙ has.put_at in
      let of = put_of history hits has.put_call all (member_at (warm_puts history hits) j has.put_call in_puts) in
      let mine : has.hit_call ≡ none.call = same_Some has.hit_call none.call (sym (at_left hit has.hit_call hit_within has.hit_at) ∙ none.at) in
      let acts : Hit has.value has.moment ≡ Hit none.value none.moment = sym has.hit_is ∙ ap (λ (c : Call). c.act) mine ∙ none.is in
      let value : has.value ≡ none.value = cc in
      let key : none.call.key ≡ of.warm.unput.call.key = ap (λ (c : Call). c.key) (sym mine) ∙ sym has.one_key ∙ ap (λ (c : Call). c.key) of.is in
      let same : none.value ≡ of.warm.unput.value = sym value ∙ sym (ap value_of has.put_is) ∙ value_put history hits has.put_call of in
      all_at (λ other. ¬ PutsAt of.warm.unput.call.key of.warm.unput.value other) history q call of.warm.unput.unput at (record {
        one_key = puts.one_key ∙ key;
        expires = puts.expires;
        is = puts.is ∙ ap (λ v. Put v puts.expires) same;
      })

  wrong_still : (q : ℕ) (call : Call) → slice_get history q ≡ Some call → PutsAt none.call.key none.value call → HasNone (history ++ warm_puts history hits) hit
  wrong_still q call at puts = record {
    call = none.call;
    value = none.value;
    moment = none.moment;
    at = look_left history (warm_puts history hits) hit hit_within ∙ none.at;
    is = none.is;
    none = λ put could. elim (cases_lt put (length history)) [
      | inl less ↦ none.none put (could_left put less could)
      | inr not ↦ not_added put not q call at puts could.stands.has
    ];
  }

pub stays_wrong : (history : List Call) (warm : Warmed) (hit put : ℕ) (call : Call) (none : HasNone history hit) → IsWarmed history warm → slice_get history put ≡ Some call → PutsAt none.call.key none.value call → HasNone warm.history hit
stays_wrong history warm hit put call none is at puts = subst (λ calls. HasNone calls hit) (sym is.calls) (wrong_still history warm.hits.items is.hits.each hit none put call at puts)
