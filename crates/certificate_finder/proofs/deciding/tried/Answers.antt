use Rattle.std.proofs.Common.{◌≡◌, true, false, refl, sym, subst}
use Rattle.certificate_finder.specs.Lining.{positions_in}
use Rattle.certificate_finder.specs.Owning.{AreOwners}
use Rattle.certificate_finder.specs.Zones.{AreZones}
use Rattle.certificate_finder.proofs.MixLemmas.{mix_fails, mix_follows, mix_owners}
use Rattle.certificate_finder.proofs.deciding.tried.Goals as goal

pub returns-then-is_stuck : goal.returns-then-is_stuck
returns-then-is_stuck c = mix_fails c.args.steps.now c.args.owners.now (positions_in c.args.hits.now) c.in_ok-mix.mix c.in_ok-mix.ensures (c.if-is_stuck.ensures.0 refl)

pub certificate_by_owners-requires-clause-owners : goal.certificate_by_owners-requires-clause-owners
certificate_by_owners-requires-clause-owners c = subst (λ os. AreOwners c.args.steps.now os) (sym c.as_slice.ensures.value) (mix_owners c.args.steps.now c.args.owners.now c.args.linked.puts.now c.args.linked.links.now c.args.hits.now c.requires.ready 5 c.in_ok-mix.mix c.in_ok-mix.ensures (λ some. let h : false ≡ true = c.if-is_stuck.ensures.1 some in cc))

pub certificate_by_owners-requires-clause-follow : goal.certificate_by_owners-requires-clause-follow
certificate_by_owners-requires-clause-follow c = λ zones are. mix_follows c.args.steps.now c.args.owners.now c.args.linked.puts.now c.args.linked.links.now c.args.hits.now c.requires.ready 5 c.in_ok-mix.mix c.in_ok-mix.ensures (λ some. let h : false ≡ true = c.if-is_stuck.ensures.1 some in cc) zones (subst (λ os. AreZones c.args.steps.now os zones) c.as_slice.ensures.value are)
