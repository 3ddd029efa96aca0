-- With which write each call goes.
use Rattle.std.proofs.Common.{◌≡◌, ◌≢◌, ℕ, ◌+◌, ◌^◌, ◌<◌, ◌≤◌, Option, Some, None, List, [], ◌∷◌, ◌++◌, length, refl, sym, ap, ◌∙◌, subst, arith, inl, inr}
use Rattle.std.specs.Prelude.{Contains, slice_get, IsTrue, MatchOption}
use Rattle.std.proofs.lemmas.Bool.{cases_eq}
use Rattle.std.proofs.lemmas.List.{length_push}
use Rattle.std.proofs.lemmas.Option.{slice_get_within}
use Rattle.record_pages.specs.Expiry.{is_live}
use Rattle.trace_file.specs.declared.call_kind.CallKind.TheVariants as kinds
use Rattle.certificate_finder.specs.declared.owner.Owner.{Owner}
use Rattle.certificate_finder.specs.declared.owner.Owner.TheVariants as kinds_of_owner
use Rattle.certificate_finder.specs.declared.put.Put.{Put}
use Rattle.certificate_finder.specs.declared.readable.Readable.TheVariants as readings
use Rattle.certificate_finder.specs.declared.numbered_call.NumberedCall.{NumberedCall}
use Rattle.certificate_finder.specs.declared.owning.Owners.{Owners}
use Rattle.certificate_finder.specs.Lists.{AreAllBelow, TellsOne}
use Rattle.certificate_finder.specs.Owning.{AreKnownOwners, AreSureOwners, HasOneMore, IsKnownOwner, IsNoted, IsOwner, IsOwnerAt, IsRefused, IsUnsure, MayRead, ReadsLive, ReadsNoLive, ReadsOnly, ReadsSeveral}
use Rattle.certificate_finder.specs.Putting.{ArePuts, CanRead, EndsOver, GivesAt, Putting, TellsPut}
use Rattle.certificate_finder.specs.Readings.{Says}
use Rattle.certificate_finder.specs.Steps.{IsFit}
use Rattle.certificate_checker.proofs.public_laws.Laying.{cases_before}
use Rattle.certificate_finder.proofs.Listing.{all_at, all_below_none, all_below_pass, all_below_push, index_of, pair_at, same_at}
use Rattle.certificate_finder.proofs.StepLemmas.{at_front, at_push}

-- ---- what a put says of its call

pub may_read : (steps : List NumberedCall) (p : ℕ) (step hit : NumberedCall) (put : Put) → Putting step → TellsPut steps p step put → CanRead hit put → MayRead steps hit step
may_read steps p step hit put is told can =
    let start : put.start ≡ step.start = told.start in
    let begun = can.begun in
    let stands = can.stands in
    record {
      kind = is;
      key = sym told.key ∙ can.key;
      value = sym told.value ∙ can.value;
      begun = omega arith;
      stands = λ q other at over. let least = told.dead.least q other at over in omega arith;
    }

still_stands : (steps : List NumberedCall) (step hit : NumberedCall) (dead : ℕ) (over : Option ℕ) → hit.start < 2 ^ 64 → MayRead steps hit step → MatchOption over (dead ≡ 18446744073709551615) (EndsOver steps step dead) → hit.start ≤ dead
still_stands steps step hit dead None small may by = omega arith
still_stands steps step hit dead (Some q) small may by =
    let le = may.stands q by.other by.at by.over in
    let end : by.other.end ≡ dead = by.end in
    omega arith

pub can_read : (steps : List NumberedCall) (p : ℕ) (step hit : NumberedCall) (put : Put) → hit.start < 2 ^ 64 → TellsPut steps p step put → MayRead steps hit step → CanRead hit put
can_read steps p step hit put small told may =
    let start : put.start ≡ step.start = told.start in
    let begun = may.begun in
    record {
      key = told.key ∙ may.key;
      value = told.value ∙ may.value;
      begun = omega arith;
      stands = still_stands steps step hit put.dead put.over small may told.dead.by;
    }

-- ---- what the puts say of a hit

module _ (steps : List NumberedCall) (puts : List Put) (are : ArePuts steps puts) (hit : NumberedCall) (fit : IsFit hit) where
  -- a put that the hit may have read has an index
  given : (p : ℕ) (step : NumberedCall) → slice_get steps p ≡ Some step → ReadsLive steps hit step → (index : ℕ) × (put : Put) × (slice_get puts index ≡ Some put) × (put.position ≡ p) × GivesAt puts hit index
  given p step at reads =
      let t = are.lists.complete p step (slice_get_within steps p step at) at reads.may.kind in
      let k = index_of puts t.item t.listed in
      let live = subst (λ e. IsTrue (is_live e hit.time)) (sym t.told.expires) reads.live in
      (k.0, t.item, k.1, t.told.is_at, record { put = t.item; at = k.1; reads = can_read steps p step hit t.item fit.start t.told reads.may; live = live })

  -- and the put at an index is one that the hit may have read
  pub read_by : (index : ℕ) (put : Put) → slice_get puts index ≡ Some put → GivesAt puts hit index → (step : NumberedCall) × (slice_get steps put.position ≡ Some step) × ReadsLive steps hit step
  read_by index put at gives =
      let same = same_at puts index index gives.put put refl gives.at at in
      let t = all_at (TellsOne steps Putting (TellsPut steps)) puts index put are.lists.sound at in
      let reads = subst (λ x. CanRead hit x) same gives.reads in
      let live = subst (λ (x : Put). IsTrue (is_live x.expires hit.time)) same gives.live in (
        t.step,
        ap (slice_get steps) t.told.is_at ∙ t.at,
        record {
          may = may_read steps t.position t.step hit put t.is_wanted t.told reads;
          live = subst (λ e. IsTrue (is_live e hit.time)) t.told.expires live;
        },
      )

  -- puts at two indexes are of two calls
  apart_at : (i j : ℕ) (a b : Put) → slice_get puts i ≡ Some a → slice_get puts j ≡ Some b → i ≢ j → a.position ≢ b.position
  apart_at i j a b at_a at_b differ same = elim (cases_before i j) [
    | inl less ↦ pair_at (λ (x y : Put). x.position ≢ y.position) puts i j a b are.in_order.distinct less at_a at_b same
    | inr rest ↦ elim rest [
      | inl is ↦ differ is
      | inr less ↦ pair_at (λ (x y : Put). x.position ≢ y.position) puts j i b a are.in_order.distinct less at_b at_a (sym same)
    ]
  ]

  pub reads_nothing : Says (GivesAt puts hit) readings.Nothing → ReadsNoLive steps hit
  reads_nothing none = λ p step at may live. let g = given p step at (record { may = may; live = live }) in none g.0 g.4

  pub reads_only : (index : ℕ) (put : Put) → slice_get puts index ≡ Some put → Says (GivesAt puts hit) (readings.One index) → ReadsOnly steps hit put.position
  reads_only index put at one =
      let r = read_by index put at one.0 in
      record {
        put = r.0;
        at = r.1;
        reads = r.2;
        only = λ p step at_p reads.
            let g = given p step at_p reads in
            sym g.3 ∙ ap (λ (x : Put). x.position) (same_at puts g.0 index g.1 put (one.1 g.0 g.4) g.2 at);
      }

  pub reads_several : Says (GivesAt puts hit) readings.Several → ReadsSeveral steps hit
  reads_several two =
      let a = read_by two.one two.first.put two.first.at two.first in
      let b = read_by two.other two.second.put two.second.at two.second in
      record {
        one = two.first.put.position;
        other = two.second.put.position;
        first = a.0;
        second = b.0;
        apart = apart_at two.one two.other two.first.put two.second.put two.first.at two.second.at two.apart;
        one_at = a.1;
        other_at = b.1;
        holds_one = a.2;
        holds_other = b.2;
      }

-- ---- one call more has its owner

pub owners_begin : (steps : List NumberedCall) (owners : Owners) → owners.owners.items ≡ [] → owners.unsure.items ≡ [] → owners.wrong.items ≡ [] → AreKnownOwners steps 0 owners
owners_begin steps owners none none_unsure none_wrong = record {
  count = ap length none;
  owned = λ p step owner at owner_at. absurd (let within = slice_get_within {A = ℕ} [] p owner (subst (λ os. slice_get os p ≡ Some owner) none owner_at) in omega arith);
  unsure = subst (λ us. AreAllBelow (IsUnsure steps) 0 us) (sym none_unsure) (all_below_none (IsUnsure steps));
  wrong = subst (λ ws. AreAllBelow (IsRefused steps) 0 ws) (sym none_wrong) (all_below_none (IsRefused steps));
}

-- a hit that may read a put is no wrong one
reads_some : (steps : List NumberedCall) (hit put : NumberedCall) (p : ℕ) → slice_get steps p ≡ Some put → ReadsLive steps hit put → ¬ ReadsNoLive steps hit
reads_some steps hit put p at reads none = none p put at reads.may reads.live

module _ (steps : List NumberedCall) (upto : ℕ) (old new : Owners) (had : AreKnownOwners steps upto old) (step : NumberedCall) (at : slice_get steps upto ≡ Some step) where
  owned_more : (owner : ℕ) → IsKnownOwner steps upto step owner → (p : ℕ) (s : NumberedCall) (o : ℕ) → slice_get steps p ≡ Some s → slice_get (old.owners.items ++ owner ∷ []) p ≡ Some o → IsKnownOwner steps p s o
  owned_more owner is p s o at_s at_o = elim (cases_eq p upto) [
    | inl same ↦
        let e = at_push old.owners.items owner o p at_o (same ∙ sym had.count) in
        let t = same_at steps upto p step s (sym same) at at_s in
        subst (λ x. IsKnownOwner steps p s x) e (subst (λ u. IsKnownOwner steps p u owner) t (subst (λ q. IsKnownOwner steps q step owner) (sym same) is))
    | inr other ↦ had.owned p s o at_s (at_front old.owners.items owner o p at_o (λ last. other (last ∙ had.count)))
  ]

  known_more : (owner : ℕ) (unsure wrong : List ℕ) → HasOneMore old new owner unsure wrong → IsKnownOwner steps upto step owner → AreAllBelow (IsUnsure steps) (upto + 1) unsure → AreAllBelow (IsRefused steps) (upto + 1) wrong → AreKnownOwners steps (upto + 1) new
  known_more owner unsure wrong more is are_unsure are_wrong = record {
    count = let l = length_push old.owners.items owner in let c = had.count in let e = ap length more.owners in omega arith;
    owned = λ p s o at_s at_o. owned_more owner is p s o at_s (subst (λ os. slice_get os p ≡ Some o) more.owners at_o);
    unsure = subst (λ us. AreAllBelow (IsUnsure steps) (upto + 1) us) (sym more.unsure_are) are_unsure;
    wrong = subst (λ ws. AreAllBelow (IsRefused steps) (upto + 1) ws) (sym more.wrong_are) are_wrong;
  }

  -- the hits that are unsure or wrong stay the same, or there is one more
  unsure_same : ¬ ReadsSeveral steps step → AreAllBelow (IsUnsure steps) (upto + 1) old.unsure.items
  unsure_same not = all_below_pass (IsUnsure steps) upto old.unsure.items had.unsure (λ one. not (subst (λ s. ReadsSeveral steps s) (same_at steps upto upto one.step step refl one.at at) one.several))

  wrong_same : ¬ ReadsNoLive steps step → AreAllBelow (IsRefused steps) (upto + 1) old.wrong.items
  wrong_same not = all_below_pass (IsRefused steps) upto old.wrong.items had.wrong (λ one. not (subst (λ s. ReadsNoLive steps s) (same_at steps upto upto one.step step refl one.at at) one.none))

  itself_more : ¬ (step.kind ≡ kinds.Hit) → HasOneMore old new upto old.unsure.items old.wrong.items → AreKnownOwners steps (upto + 1) new
  itself_more no_hit more = known_more upto old.unsure.items old.wrong.items more (inl (inl (refl, λ hit. absurd (no_hit hit))))
      (all_below_pass (IsUnsure steps) upto old.unsure.items had.unsure (λ one. no_hit (ap (λ (s : NumberedCall). s.kind) (same_at steps upto upto step one.step refl at one.at) ∙ one.kind)))
      (all_below_pass (IsRefused steps) upto old.wrong.items had.wrong (λ one. no_hit (ap (λ (s : NumberedCall). s.kind) (same_at steps upto upto step one.step refl at one.at) ∙ one.kind)))

  -- a hit that may have read one put alone is sure
  put_more : (owner : ℕ) → (step.kind ≡ kinds.Hit) → ReadsOnly steps step owner → HasOneMore old new owner old.unsure.items old.wrong.items → AreKnownOwners steps (upto + 1) new
  put_more owner hit only more = known_more owner old.unsure.items old.wrong.items more (inl (inr (hit, only)))
      (unsure_same (λ two. two.apart (only.only two.one two.first two.one_at two.holds_one ∙ sym (only.only two.other two.second two.other_at two.holds_other))))
      (wrong_same (reads_some steps step only.put owner only.at only.reads))

  several_more : (step.kind ≡ kinds.Hit) → ReadsSeveral steps step → HasOneMore old new upto (old.unsure.items ++ upto ∷ []) old.wrong.items → AreKnownOwners steps (upto + 1) new
  several_more hit several more = known_more upto (old.unsure.items ++ upto ∷ []) old.wrong.items more (inl (inl (refl, λ _. several)))
      (all_below_push (IsUnsure steps) upto old.unsure.items had.unsure (record { step = step; at = at; kind = hit; several = several }))
      (wrong_same (reads_some steps step several.first several.one several.one_at several.holds_one))

  nothing_more : (step.kind ≡ kinds.Hit) → ReadsNoLive steps step → HasOneMore old new upto old.unsure.items (old.wrong.items ++ upto ∷ []) → AreKnownOwners steps (upto + 1) new
  nothing_more hit none more = known_more upto old.unsure.items (old.wrong.items ++ upto ∷ []) more (inr (refl, hit, none))
      (unsure_same (λ two. reads_some steps step two.first two.one two.one_at two.holds_one none))
      (all_below_push (IsRefused steps) upto old.wrong.items had.wrong (record { step = step; at = at; kind = hit; none = none }))

  noted_is : (owner : Owner) → IsOwner steps step owner → IsNoted upto owner old new → AreKnownOwners steps (upto + 1) new
  noted_is kinds_of_owner.Itself is noted = itself_more is noted
  noted_is (kinds_of_owner.Put put) is noted = put_more put is.0 is.1 noted
  noted_is kinds_of_owner.Unsure is noted = several_more is.0 is.1 noted
  noted_is kinds_of_owner.Nothing is noted = nothing_more is.0 is.1 noted

pub noted_more : (steps : List NumberedCall) (upto : ℕ) (old new : Owners) (owner : Owner) → AreKnownOwners steps upto old → IsOwnerAt steps upto owner → IsNoted upto owner old new → AreKnownOwners steps (upto + 1) new
noted_more steps upto old new owner had is noted = noted_is steps upto old new had is.step is.at owner is.is noted

-- each call is sure of its owner, if no hit is wrong
pub all_sure : (steps : List NumberedCall) (owners : Owners) → AreKnownOwners steps (length steps) owners → owners.wrong.items ≡ [] → AreSureOwners steps (length steps) owners.owners.items owners.unsure.items
all_sure steps owners own none = record {
  count = own.count;
  owned = λ p step owner at owner_at. elim (own.owned p step owner at owner_at) [
    | inl sure ↦ sure
    | inr wrong ↦
        let listed = own.wrong.all p (slice_get_within steps p step at) (record { step = step; at = at; kind = wrong.1; none = wrong.2 }) in
        let in_none = subst (λ ws. Contains ws p) none listed in
        let less : in_none.0 < 0 = in_none.1 in
        absurd (omega arith)
  ];
  are_unsure = own.unsure.each;
  all = own.unsure.all;
  rise = own.unsure.rise;
  below = own.unsure.below;
}
