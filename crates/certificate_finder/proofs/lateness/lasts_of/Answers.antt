use Rattle.std.proofs.Common.{◌≡◌, ◌+◌, ◌∙◌, ap, arith, length, max, subst, sym}
use Rattle.certificate_finder.specs.Excluding.{AreLasts, IsLast}
use Rattle.certificate_finder.specs.Putting.{last_rank}
use Rattle.certificate_finder.proofs.LateLemmas.{last_begin, last_more, lasts_begin, lasts_more}
use Rattle.certificate_finder.proofs.lateness.lasts_of.Goals as goal

pub loop-index-init : goal.loop-index-init
loop-index-init c = (last_begin c.args.puts.now, subst (AreLasts c.args.puts.now 0) (sym c.new-lasts.ensures.items) (lasts_begin c.args.puts.now))

pub loop-index-preserved : goal.loop-index-preserved
loop-index-preserved c =
    let puts = c.args.puts.now in
    let i = c.loop-index.index in
    let is : c.max-last.result ≡ max (last_rank c.item_at-put.result) c.loop-index.last = c.max-last.ensures ∙ ap (λ r. max r c.loop-index.last) c.last.ensures in
    let new = subst (IsLast puts (i + 1)) (sym is) (last_more puts i c.loop-index.last c.item_at-put.result c.loop-index.invariant.0 c.item_at-put.ensures) in
    (new, subst (AreLasts puts (i + 1)) (sym c.in_ok-push.ensures.items) (lasts_more puts i c.max-last.result c.loop-index.lasts.items c.loop-index.invariant.1 new))

pub returns : goal.returns
returns c =
    let all : c.loop-index.index ≡ length c.args.puts.now = let end = c.loop-index.auto.index-end in omega arith in
    subst (λ n. AreLasts c.args.puts.now n c.loop-index.lasts.items) all c.loop-index.invariant.1
