use Rattle.std.proofs.Common.{◌+◌, sym, subst}
use Rattle.certificate_finder.specs.Offering.{AreLinksUpto}
use Rattle.certificate_finder.proofs.ChoosingLemmas.{links_more}
use Rattle.certificate_finder.proofs.links.links_of.Goals as goal

pub loop-index-preserved : goal.loop-index-preserved
loop-index-preserved c = subst (λ items. AreLinksUpto c.args.puts.now (c.loop-index.index + 1) items) (sym c.in_ok-push.ensures.items) (links_more c.args.puts.now c.loop-index.index c.link_of-link.result c.loop-index.links.items c.loop-index.invariant c.link_of-link.ensures)
