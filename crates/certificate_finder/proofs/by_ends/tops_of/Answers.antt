use Rattle.std.proofs.Common.{◌+◌, [], ◌∷◌, ◌++◌, ap, subst, sym, ◌∙◌, arith, rules}
use Rattle.certificate_finder.specs.Unreading.{AreTops, IsTop}
use Rattle.certificate_finder.proofs.EndLemmas.{found_at}
use Rattle.certificate_finder.proofs.TopLemmas.{first_tops, top_begins, tops_more}
use Rattle.certificate_finder.proofs.by_ends.tops_of.Goals as goal

pub loop-index-init : goal.loop-index-init
loop-index-init c =
    let zone = found_at c.args.zones.now 0 (search rules) in
    let top = top_begins c.args.zones.now c.requires.sorted c.requires.fit zone.0 zone.1 in
    record {
      tops = subst (λ tops. AreTops c.args.zones.now 1 tops) (sym (c.in_ok-push.ensures.items ∙ ap (λ tops. tops ++ record { first = 0; second = 0 } ∷ []) c.new-tops.ensures.items)) (first_tops c.args.zones.now (record { first = 0; second = 0 }) top);
      top = top;
    }

pub loop-index-preserved : goal.loop-index-preserved
loop-index-preserved c = record {
  tops = subst (λ tops. AreTops c.args.zones.now (c.loop-index.index + 1) tops) (sym c.in_ok-push-2.ensures.items) (tops_more c.args.zones.now c.requires.sorted c.requires.fit c.loop-index.index c.loop-index.tops.items c.next_top-top.result c.loop-index.invariant.tops c.next_top-top.ensures);
  top = subst (λ k. IsTop c.args.zones.now k c.next_top-top.result) (omega arith) c.next_top-top.ensures;
}
