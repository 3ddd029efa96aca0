use Rattle.std.proofs.Common.{◌≡◌, ◌-◌, ◌∙◌, ap, arith, min, refl, subst, sym}
use Rattle.std.proofs.lemmas.Option.{slice_get_within}
use Rattle.certificate_finder.specs.declared.numbered_call.NumberedCall.{NumberedCall}
use Rattle.certificate_finder.specs.Excluding.{excused_between}
use Rattle.certificate_finder.specs.Owning.{ReadsNoLive}
use Rattle.certificate_finder.specs.Steps.{IsFit}
use Rattle.certificate_finder.proofs.ExcludingLemmas.{excluded_all, from_upto}
use Rattle.certificate_finder.proofs.LateLemmas.{first_excused, late_is}
use Rattle.certificate_finder.proofs.Listing.{all_at, same_at}
use Rattle.certificate_finder.proofs.wrong_hits.wrong_hit_of.Goals as goal

pub item_at-hit-requires : goal.item_at-hit-requires
item_at-hit-requires c = slice_get_within c.args.steps.now c.args.position c.requires.refused.step c.requires.refused.at

pub excluded_between-requires-clause-order : goal.excluded_between-requires-clause-order
excluded_between-requires-clause-order c =
    let le = from_upto c.args.puts.now c.item_at-hit.result c.puts_like-like.result.from c.puts_like-like.result.upto c.puts_like-like.ensures in
    let fits = c.ranges.most.fits in
    let sum = c.saturating_add.ensures in
    let few = c.min-upto.ensures in
    omega arith

pub returns-clause-wrong : goal.returns-clause-wrong
returns-clause-wrong c =
    let steps = c.args.steps.now in
    let puts = c.args.puts.now in
    let hit = c.item_at-hit.result in
    let from = c.puts_like-like.result.from in
    let upto = c.puts_like-like.result.upto in
    let like = c.puts_like-like.ensures in
    let le = from_upto puts hit from upto like in
    let same = same_at steps c.args.position c.args.position c.requires.refused.step hit refl c.requires.refused.at c.item_at-hit.ensures in
    let fit = all_at IsFit steps c.args.position hit c.requires.fit c.item_at-hit.ensures in
    let bound = like.high.bound in
    let sum = c.saturating_add.ensures in
    let few = c.min-upto.ensures in
    let some : c.min-upto.result - from ≡ min c.args.most (upto - from) = omega arith in
    let late = c.late_by.ensures in
    record {
      excluded = excused_between puts hit from upto;
      all = record {
        hit = hit;
        at = c.item_at-hit.ensures;
        kind = ap (λ (s : NumberedCall). s.kind) (sym same) ∙ c.requires.refused.kind;
        puts = excluded_all steps puts c.requires.puts hit fit.start fit.value (subst (ReadsNoLive steps) same c.requires.refused.none) from upto like;
      };
      first = c.in_ok-few.ensures ∙ first_excused puts hit from upto c.min-upto.result c.args.most some;
      late = λ history are. late_is history steps are puts c.requires.puts c.args.position hit c.item_at-hit.ensures fit from upto like late.upto late.begun c.late_by.result late.is;
    }
