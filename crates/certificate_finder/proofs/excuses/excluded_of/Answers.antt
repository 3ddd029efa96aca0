use Rattle.std.proofs.Common.{refl, sym, ap, ◌∙◌, subst}
use Rattle.std.proofs.lemmas.Option.{slice_get_within}
use Rattle.certificate_finder.specs.declared.numbered_call.NumberedCall.{NumberedCall}
use Rattle.certificate_finder.specs.Excluding.{AreExcluded}
use Rattle.certificate_finder.specs.Owning.{ReadsNoLive}
use Rattle.certificate_finder.specs.Steps.{IsFit}
use Rattle.certificate_finder.proofs.ExcludingLemmas.{excluded_all, from_upto}
use Rattle.certificate_finder.proofs.Listing.{all_at, same_at}
use Rattle.certificate_finder.proofs.excuses.excluded_of.Goals as goal

pub item_at-hit-requires : goal.item_at-hit-requires
item_at-hit-requires c = slice_get_within c.args.steps.now c.args.position c.requires.refused.step c.requires.refused.at

pub excluded_between-requires-clause-order : goal.excluded_between-requires-clause-order
excluded_between-requires-clause-order c = from_upto c.args.puts.now c.item_at-hit.result c.puts_like-like.result.from c.puts_like-like.result.upto c.puts_like-like.ensures

pub returns-in-Ok : goal.returns-in-Ok
returns-in-Ok c =
    let steps = c.args.steps.now in
    let puts = c.args.puts.now in
    let hit = c.item_at-hit.result in
    let same = same_at steps c.args.position c.args.position c.requires.refused.step hit refl c.requires.refused.at c.item_at-hit.ensures in
    let fit = all_at IsFit steps c.args.position hit c.requires.fit c.item_at-hit.ensures in
    record {
      hit = hit;
      at = c.item_at-hit.ensures;
      kind = ap (λ (s : NumberedCall). s.kind) (sym same) ∙ c.requires.refused.kind;
      puts = subst (AreExcluded steps hit) (sym c.in-Ok.ensures) (excluded_all steps puts c.requires.puts hit fit.start fit.value (subst (ReadsNoLive steps) same c.requires.refused.none) c.puts_like-like.result.from c.puts_like-like.result.upto c.puts_like-like.ensures);
    }
