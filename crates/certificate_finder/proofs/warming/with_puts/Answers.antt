use Rattle.std.proofs.Common.{◌++◌, ap, ◌∙◌}
use Rattle.certificate_finder.proofs.WarmingLemmas.{ends_kept}
use Rattle.certificate_finder.proofs.warming.with_puts.Goals as goal

pub returns : goal.returns
returns c = c.in_ok-extend_ending.ensures.ok ∙ ap (λ calls. c.args.history ++ calls) (ends_kept c.args.puts.now c.as_slice.result.now c.len.result c.requires c.len.ensures.count (c.as_slice.ensures.value ∙ c.in_ok-ends.ensures.items_if_clones_equal (λ y same. same)))
