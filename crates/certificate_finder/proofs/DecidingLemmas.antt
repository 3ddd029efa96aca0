-- Trying the rules.
use Rattle.std.proofs.Common.{◌≡◌, ℕ, Some, None, Option, List, refl, sym, ap, ◌∙◌, subst, arith, inl, inr}
use Rattle.std.specs.Prelude.{All, Contains, MatchOption}
use Rattle.std.proofs.lemmas.List.Elements.{All-contains}
use Rattle.std.proofs.lemmas.Option.{slice_get_within}
use Rattle.trace_file.specs.declared.call_kind.CallKind.TheVariants as kinds
use Rattle.certificate_finder.specs.declared.numbered_call.NumberedCall.{NumberedCall}
use Rattle.certificate_finder.specs.declared.put.Put.{Put}
use Rattle.certificate_finder.specs.declared.ranked.Ranked.{Ranked}
use Rattle.certificate_finder.specs.declared.rule.Rule.{Rule}
use Rattle.certificate_finder.specs.Choosing.{ChoosesBy}
use Rattle.certificate_finder.specs.Deciding.{FailAtSome, IsReady, MakesAccepted, NoneGives}
use Rattle.certificate_finder.specs.Lining.{positions_in}
use Rattle.certificate_finder.specs.Offering.{HitsInTurn, GoesByItself, ReadsIn, times_in}
use Rattle.certificate_finder.specs.Owning.{AreOwners, IsUnsure, ReadsLive}
use Rattle.certificate_finder.proofs.EndLemmas.{found_at}
use Rattle.certificate_finder.proofs.Listing.{all_from_at, contains_at, same_at}
use Rattle.certificate_finder.proofs.InTurnLemmas.{count_by, owner_by}

module _ (steps : List NumberedCall) (owners : List ℕ) (puts : List Put) (links : List ℕ) (hits : List Ranked) (ready : IsReady steps owners puts links hits) where
  listed : (hit : ℕ) → Contains (positions_in hits) hit → IsUnsure steps hit
  listed hit has = All-contains (IsUnsure steps) ready.unsure hit ready.own.are_unsure ((ready.turned.same hit).1 has)

  pub all_unsure : All (IsUnsure steps) (positions_in hits)
  all_unsure = all_from_at (IsUnsure steps) (positions_in hits) (λ k hit at. listed hit (contains_at (positions_in hits) k hit at))

  by_itself : (hit : ℕ) → IsUnsure steps hit → GoesByItself owners hit
  by_itself hit unsure =
      let within = slice_get_within steps hit unsure.step unsure.at in
      let count = ready.own.count in
      let o = found_at owners hit (omega arith) in
      elim (ready.own.owned hit unsure.step o.0 unsure.at o.1) [
        | inl alone ↦ o.1 ∙ ap Some alone.0
        | inr only ↦
            let two = unsure.several in
            absurd (two.apart (only.1.only two.one two.first two.one_at two.holds_one ∙ sym (only.1.only two.other two.second two.other_at two.holds_other)))
      ]

  pub all_alone : All (GoesByItself owners) (positions_in hits)
  all_alone = all_from_at (GoesByItself owners) (positions_in hits) (λ k hit at. by_itself hit (listed hit (contains_at (positions_in hits) k hit at)))

  -- what is chosen are owners
  pub chosen_owners : (rule : Rule) (chosen : List ℕ) → ChoosesBy rule (ReadsIn steps) (times_in steps) owners (positions_in hits) chosen → AreOwners steps chosen
  chosen_owners rule chosen by_rule = record {
    count = count_by rule (ReadsIn steps) (times_in steps) owners (positions_in hits) chosen by_rule ∙ ready.own.count;
    owned = λ p step owner at owner_at. elim (owner_by rule (ReadsIn steps) (times_in steps) owners (positions_in hits) chosen p owner by_rule owner_at) [
      | inl reads ↦
          let same : reads.asked ≡ step = same_at steps p p reads.asked step refl reads.asked_at at in
          inr (subst (λ (s : NumberedCall). s.kind ≡ kinds.Hit) same reads.kind, record { put = reads.given; at = reads.given_at; reads = subst (λ s. ReadsLive steps s reads.given) same reads.reads })
      | inr kept ↦ elim (ready.own.owned p step owner at kept.0) [
        | inl alone ↦ inl (alone.0, λ hit. kept.1 ((ready.turned.same p).0 (ready.own.all p (slice_get_within steps p step at) (record { step = step; at = at; kind = hit; several = alone.1 hit }))))
        | inr only ↦ inr (only.0, record { put = only.1.put; at = only.1.at; reads = only.1.reads })
      ]
    ];
  }

-- if each rule fails at a key of hits in turn, none gives a certificate for it
pub none_gives : (steps : List NumberedCall) (owners unsure : List ℕ) (hits : List Ranked) → HitsInTurn steps unsure hits → (found : Option (List ℕ)) → MatchOption found (FailAtSome steps owners (positions_in hits)) (MakesAccepted steps) → MatchOption found (NoneGives steps owners unsure) (MakesAccepted steps)
none_gives steps owners unsure hits turned None fail = record { hits = hits; turned = turned; fail = fail }
none_gives steps owners unsure hits turned (Some certificate) makes = makes
