-- Owners by several rules.
use Rattle.std.proofs.Common.{◌≡◌, ℕ, ◌+◌, ◌<◌, ◌≤◌, Bool, true, false, Some, List, length, set, refl, sym, ap, ◌∙◌, subst, arith, inl, inr}
use Rattle.std.specs.Prelude.{All, AllPairs, Contains, slice_get}
use Rattle.std.proofs.lemmas.Bool.{cases_eq}
use Rattle.std.proofs.lemmas.List.{length-set}
use Rattle.std.proofs.lemmas.List.Elements.{All-contains}
use Rattle.std.proofs.lemmas.Option.{slice_get_within}
use Rattle.certificate_finder.specs.declared.mix.Mix.{Mix}
use Rattle.certificate_finder.specs.declared.numbered_call.NumberedCall.{NumberedCall}
use Rattle.certificate_finder.specs.declared.put.Put.{Put}
use Rattle.certificate_finder.specs.declared.ranked.Ranked.{Ranked}
use Rattle.certificate_finder.specs.declared.rule.Rule.{Rule}
use Rattle.certificate_finder.specs.declared.zone.Zone.{Zone}
use Rattle.certificate_finder.specs.Choosing.{all_rules}
use Rattle.certificate_finder.specs.Deciding.{AgreeAt, AreMixed, FailAtSome, FailsAt, IsMix, IsMixOf, IsMixedAt, IsReady, IsSettledAt, IsTried}
use Rattle.certificate_finder.specs.Lining.{positions_in}
use Rattle.certificate_finder.specs.Lists.{TellsOne}
use Rattle.certificate_finder.specs.Owning.{AreOwners}
use Rattle.certificate_finder.specs.Writing.{Writing}
use Rattle.certificate_finder.specs.Zones.{AreCrossing, AreZones, FollowOn, Goes, TellsZone}
use Rattle.certificate_finder.proofs.CrossingLemmas.{follow_uncrossed, true_is_not}
use Rattle.certificate_finder.proofs.DecidingLemmas.{chosen_owners}
use Rattle.certificate_finder.proofs.EndLemmas.{at_set_other, at_set_same, found_at}
use Rattle.certificate_finder.proofs.Listing.{all_at, all_from_at, contains_at, index_of, same_at}

-- ---- a pass over the calls

pub record MixedSoFar (steps : List NumberedCall) (stuck : List Bool) (chosen old : List ℕ) (upto : ℕ) (new : List ℕ) : Type 0 where
  pub count : length new ≡ length old
  pub done : (position owner : ℕ) → position < upto → slice_get new position ≡ Some owner → IsMixedAt steps stuck chosen old position owner
  pub rest : (position owner : ℕ) → upto ≤ position → slice_get new position ≡ Some owner → slice_get old position ≡ Some owner

module _ (steps : List NumberedCall) (stuck : List Bool) (chosen old : List ℕ) where
  pub mixed_begins : MixedSoFar steps stuck chosen old 0 old
  mixed_begins = record { count = refl; done = λ p owner less at. absurd (omega arith); rest = λ p owner from at. at }

  pub mixed_more : (upto owner : ℕ) (now : List ℕ) → MixedSoFar steps stuck chosen old upto now → IsMixedAt steps stuck chosen now upto owner → MixedSoFar steps stuck chosen old (upto + 1) (set now upto owner)
  mixed_more upto owner now had is = record {
    count = length-set now upto owner ∙ had.count;
    done = λ p new less at. elim (cases_eq p upto) [
      | inl same ↦
          let here : new ≡ owner = at_set_same now upto owner p new same at in
          let mixed : IsMixedAt steps stuck chosen old upto owner = (
            is.0,
            is.1,
            elim is.2 [
              | inl taken ↦ inl taken
              | inr kept ↦ inr (kept.0, had.rest upto owner (omega arith) kept.1)
            ],
          ) in
          subst (λ o. IsMixedAt steps stuck chosen old p o) (sym here) (subst (λ q. IsMixedAt steps stuck chosen old q owner) (sym same) mixed)
      | inr other ↦ had.done p new (omega arith) (at_set_other now upto owner p new other at)
    ];
    rest = λ p new from at. had.rest p new (omega arith) (at_set_other now upto owner p new (λ same. omega arith) at);
  }

  pub mixed_ends : (upto : ℕ) (now : List ℕ) → MixedSoFar steps stuck chosen old upto now → length old ≤ upto → AreMixed steps stuck chosen old now
  mixed_ends upto now had all = record {
    count = had.count;
    each = λ p owner at. let within = slice_get_within now p owner at in let count = had.count in had.done p owner (omega arith) at;
  }

-- ---- the rules one after the other

module _ (steps : List NumberedCall) (owners hits : List ℕ) where
  pub mix_begins : (mix : Mix) → IsMix steps mix → All (λ flag. flag ≡ true) mix.stuck.items → IsMixOf steps owners hits 0 mix
  mix_begins mix is all = record {
    is = is;
    stuck = λ key k rule flag less at. absurd (omega arith);
    settled = λ key flag. absurd (true_is_not (sym (all_at (λ flag. flag ≡ true) mix.stuck.items key false all flag)));
  }

  module _ (upto : ℕ) (rule : Rule) (old new : Mix) (had : IsMixOf steps owners hits upto old) (rule_at : slice_get all_rules upto ≡ Some rule) (tried : IsTried steps owners hits rule old new) where
    -- a stuck key's calls have the owners that were chosen, another key's those that they had
    taken : (key p : ℕ) (step : NumberedCall) → slice_get steps p ≡ Some step → step.key ≡ key → slice_get old.stuck.items key ≡ Some true → slice_get new.owners.items p ≡ slice_get tried.chosen p
    taken key p step at same was =
        let within = slice_get_within steps p step at in
        let a = tried.mixed.count in
        let b = had.is.count in
        let o = found_at new.owners.items p (omega arith) in
        let is = tried.mixed.each p o.0 o.1 in
        let key_is : is.0.key ≡ key = ap (λ (s : NumberedCall). s.key) (same_at steps p p is.0 step refl is.1 at) ∙ same in
        elim is.2 [
          | inl chosen ↦ o.1 ∙ sym chosen.1
          | inr kept ↦
              let both : Some true ≡ Some false = sym was ∙ ap (slice_get old.stuck.items) (sym key_is) ∙ kept.0 in
              absurd (true_is_not cc)
        ]

    kept_at : (key p : ℕ) (step : NumberedCall) → slice_get steps p ≡ Some step → step.key ≡ key → slice_get old.stuck.items key ≡ Some false → slice_get new.owners.items p ≡ slice_get old.owners.items p
    kept_at key p step at same was =
        let within = slice_get_within steps p step at in
        let a = tried.mixed.count in
        let b = had.is.count in
        let o = found_at new.owners.items p (omega arith) in
        let is = tried.mixed.each p o.0 o.1 in
        let key_is : is.0.key ≡ key = ap (λ (s : NumberedCall). s.key) (same_at steps p p is.0 step refl is.1 at) ∙ same in
        elim is.2 [
          | inl chosen ↦
              let both : Some false ≡ Some true = sym was ∙ ap (slice_get old.stuck.items) (sym key_is) ∙ chosen.0 in
              absurd (true_is_not cc)
          | inr kept ↦ o.1 ∙ sym kept.1
        ]

    settled_more : (key : ℕ) → slice_get new.stuck.items key ≡ Some false → IsSettledAt steps owners hits key new.owners.items
    settled_more key flag =
        let within = slice_get_within new.stuck.items key false flag in
        let count = tried.still.count in
        let was = found_at old.stuck.items key (omega arith) in
        elim was.0 as (λ b. slice_get old.stuck.items key ≡ Some b → IsSettledAt steps owners hits key new.owners.items) [
          | true ↦ λ is. record {
            rule = rule;
            chosen = tried.chosen;
            by_rule = tried.by_rule;
            zones = tried.zones;
            are_zones = tried.are_zones;
            uncrossed = tried.still.none key flag is;
            agree = λ p step at same. taken key p step at same is;
          }
          | false ↦
              λ is.
              let known = had.settled key is in
              record {
                rule = known.rule;
                chosen = known.chosen;
                by_rule = known.by_rule;
                zones = known.zones;
                are_zones = known.are_zones;
                uncrossed = known.uncrossed;
                agree = λ p step at same. kept_at key p step at same is ∙ known.agree p step at same;
              }
        ] was.1

    pub mix_more : IsMixOf steps owners hits (upto + 1) new
    mix_more = record {
      is = record {
        count = tried.mixed.count ∙ had.is.count;
        keys = subst (λ n. All (λ (step : NumberedCall). step.key < n) steps) (sym tried.still.count) had.is.keys;
      };
      stuck = λ key k other flag less at.
          let was = tried.still.crossed key flag in
          elim (cases_eq k upto) [
            | inl same ↦
                subst (λ r. FailsAt steps owners hits key r) (same_at all_rules upto k rule other (sym same) rule_at at) (record {
                  chosen = tried.chosen;
                  by_rule = tried.by_rule;
                  zones = tried.zones;
                  are_zones = tried.are_zones;
                  crossed = was.1;
                })
            | inr before ↦ had.stuck key k other was.0 (omega arith) at
          ];
      settled = settled_more;
    }

  -- if no key is stuck, no rule is left to be tried
  pub mix_whole : (upto most : ℕ) (mix : Mix) → IsMixOf steps owners hits upto mix → ¬ Contains mix.stuck.items true → IsMixOf steps owners hits most mix
  mix_whole upto most mix had none = record {
    is = had.is;
    stuck = λ key k rule flag less at. absurd (none (contains_at mix.stuck.items key true flag));
    settled = had.settled;
  }

  -- at a key that is stuck at the end each rule fails
  pub mix_fails : (mix : Mix) → IsMixOf steps owners hits (length all_rules) mix → Contains mix.stuck.items true → FailAtSome steps owners hits
  mix_fails mix had some =
      let key = index_of mix.stuck.items true some in
      record {
        key = key.0;
        fail = all_from_at (FailsAt steps owners hits key.0) all_rules (λ k rule at. had.stuck key.0 k rule key.1 (slice_get_within all_rules k rule at) at);
      }

-- ---- the owners of a mix

-- what goes with a write by some owners does so by owners that agree at its key
same_goes : (steps : List NumberedCall) (one other : List ℕ) (key write position : ℕ) (step : NumberedCall) → AreOwners steps one → AgreeAt steps key one other → slice_get steps write ≡ Some step → step.key ≡ key → Goes one write position → Goes other write position
same_goes steps one other key write p step own agree at same goes = elim goes [
  | inl itself ↦ inl itself
  | inr owned ↦
      let within = slice_get_within one p write owned in
      let count = own.count in
      let call = found_at steps p (omega arith) in
      elim (own.owned p call.0 write call.1 owned) [
        | inl alone ↦ inl (sym alone.0)
        | inr reads ↦
            let put : reads.1.put ≡ step = same_at steps write write reads.1.put step refl reads.1.at at in
            let key_is : call.0.key ≡ key = sym reads.1.reads.may.key ∙ ap (λ (s : NumberedCall). s.key) put ∙ same in
            inr (sym (agree p call.0 call.1 key_is) ∙ owned)
      ]
]

module _ (steps : List NumberedCall) (owners : List ℕ) (puts : List Put) (links : List ℕ) (hits : List Ranked) (ready : IsReady steps owners puts links hits) (upto : ℕ) (mix : Mix) (had : IsMixOf steps owners (positions_in hits) upto mix) (none : ¬ Contains mix.stuck.items true) where
  settled_at : (p : ℕ) (step : NumberedCall) → slice_get steps p ≡ Some step → IsSettledAt steps owners (positions_in hits) step.key mix.owners.items
  settled_at p step at =
      let flag = found_at mix.stuck.items step.key (all_at (λ (s : NumberedCall). s.key < length mix.stuck.items) steps p step had.is.keys at) in
      elim flag.0 as (λ b. slice_get mix.stuck.items step.key ≡ Some b → IsSettledAt steps owners (positions_in hits) step.key mix.owners.items) [
        | true ↦ λ is. absurd (none (contains_at mix.stuck.items step.key true is))
        | false ↦ λ is. had.settled step.key is
      ] flag.1

  owners_by : (key : ℕ) (known : IsSettledAt steps owners (positions_in hits) key mix.owners.items) → AreOwners steps known.chosen
  owners_by key known = chosen_owners steps owners puts links hits ready known.rule known.chosen known.by_rule

  pub mix_owners : AreOwners steps mix.owners.items
  mix_owners = record {
    count = had.is.count;
    owned = λ p step owner at owner_at.
        let known = settled_at p step at in
        (owners_by step.key known).owned p step owner at (sym (known.agree p step at refl) ∙ owner_at);
  }

  module _ (key : ℕ) (known : IsSettledAt steps owners (positions_in hits) key mix.owners.items) where
    goes_by : (write position : ℕ) (step : NumberedCall) → slice_get steps write ≡ Some step → step.key ≡ key → Goes mix.owners.items write position → Goes known.chosen write position
    goes_by write p step at same goes = same_goes steps mix.owners.items known.chosen key write p step mix_owners known.agree at same goes

    goes_back : (write position : ℕ) (step : NumberedCall) → slice_get steps write ≡ Some step → step.key ≡ key → Goes known.chosen write position → Goes mix.owners.items write position
    goes_back write p step at same goes = same_goes steps known.chosen mix.owners.items key write p step (owners_by key known) (λ q call call_at of_key. sym (known.agree q call call_at of_key)) at same goes

    -- the zone of a write of the key is the same by the rule of the key
    same_zone : (write : ℕ) (step : NumberedCall) (zone other : Zone) → slice_get steps write ≡ Some step → step.key ≡ key → TellsZone steps mix.owners.items write step zone → TellsZone steps known.chosen write step other → (other.end ≡ zone.end) × (other.start ≡ zone.start)
    same_zone write step zone other at same tells told =
        let a = tells.earliest.least other.early told.first told.earliest.at (goes_back write other.early step at same told.earliest.goes) in
        let b = told.earliest.least zone.early tells.first tells.earliest.at (goes_by write zone.early step at same tells.earliest.goes) in
        let c = tells.latest.greatest other.late told.last told.latest.at (goes_back write other.late step at same told.latest.goes) in
        let d = told.latest.greatest zone.late tells.last tells.latest.at (goes_by write zone.late step at same tells.latest.goes) in
        let e = tells.end in
        let f = told.end in
        let g = tells.start in
        let h = told.start in
        (omega arith, omega arith)

  module _ (zones : List Zone) (zs : AreZones steps mix.owners.items zones) where
    told_at : (zone : Zone) → Contains zones zone → TellsOne steps Writing (TellsZone steps mix.owners.items) zone
    told_at zone has = All-contains (TellsOne steps Writing (TellsZone steps mix.owners.items)) zones zone zs.lists.sound has

    none_crossed : (one other : Zone) → ¬ AreCrossing zones (record { one = one; other = other })
    none_crossed one other crossing =
        let t = told_at one crossing.one_listed in
        let o = told_at other crossing.other_listed in
        let known = settled_at t.position t.step t.at in
        let same : o.step.key ≡ t.step.key = sym o.told.key ∙ sym crossing.key ∙ t.told.key in
        let there = known.are_zones.lists.complete t.position t.step (slice_get_within steps t.position t.step t.at) t.at t.is_wanted in
        let here = known.are_zones.lists.complete o.position o.step (slice_get_within steps o.position o.step o.at) o.at o.is_wanted in
        let a = same_zone t.step.key known t.position t.step one there.item t.at refl t.told there.told in
        let b = same_zone t.step.key known o.position o.step other here.item o.at same o.told here.told in
        let c = a.0 in
        let d = a.1 in
        let e = b.0 in
        let f = b.1 in
        let forth : one.end < other.start = crossing.forth in
        let back : other.end < one.start = crossing.back in
        known.uncrossed (record {
          crossing = record { one = there.item; other = here.item };
          crossed = record {
            one_listed = there.listed;
            other_listed = here.listed;
            key = there.told.key ∙ sym same ∙ sym here.told.key;
            apart = λ one_write. crossing.apart (t.told.write ∙ sym there.told.write ∙ one_write ∙ here.told.write ∙ sym o.told.write);
            forth = omega arith;
            back = omega arith;
          };
          of_key = there.told.key;
        })

    -- no two zones are crossed, whatever rules their keys have
    pub mix_follows : AllPairs FollowOn zones
    mix_follows = follow_uncrossed zones zs.sorted zs.fit zs.distinct none_crossed
