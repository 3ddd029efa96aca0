use Rattle.std.proofs.Common.{◌≡◌, List, [], ◌∷◌, ◌++◌, ◌∙◌, ap, arith, sym}
use Rattle.certificate_finder.specs.declared.excluded.Excluded.{Excluded}
use Rattle.certificate_finder.specs.declared.excluded.Excuse.{Excuse}
use Rattle.certificate_finder.specs.Excluding.{excused_between}
use Rattle.certificate_finder.proofs.ExcludingLemmas.{excused_more, excused_none}
use Rattle.certificate_finder.proofs.excuses.excluded_between.Goals as goal

pub loop-index-init : goal.loop-index-init
loop-index-init c = (omega arith, omega arith, c.new-excluded.ensures.items ∙ sym (excused_none c.args.puts.now c.args.hit.now c.args.from))

pub loop-index-preserved : goal.loop-index-preserved
loop-index-preserved c =
    let puts = c.args.puts.now in
    let hit = c.args.hit.now in
    let i = c.loop-index.index in
    let put = c.item_at-put.result in (
      omega arith,
      omega arith,
      c.in_ok-push.ensures.items
          ∙ ap (λ (xs : List Excluded). xs ++ record { put = put.position; why = c.excuse_of-why.result } ∷ []) c.loop-index.invariant.2
          ∙ ap (λ (why : Excuse). excused_between puts hit c.args.from i ++ record { put = put.position; why = why } ∷ []) c.excuse_of-why.ensures
          ∙ sym (excused_more puts hit c.args.from i put c.loop-index.invariant.0 c.item_at-put.ensures),
    )

pub returns : goal.returns
returns c =
    let last : c.loop-index.index ≡ c.args.upto = let low = c.loop-index.invariant.1 in omega arith in
    c.loop-index.invariant.2 ∙ ap (excused_between c.args.puts.now c.args.hit.now c.args.from) last
