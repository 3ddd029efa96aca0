-- What begins with the word goes on so.
use Rattle.std.proofs.Common.{◌≡◌, ◌∙◌, Bool, false, length, not, refl, rules, sym, true}
use Rattle.std.specs.Cmp.Lexicographic.{bytes_decides}
use Rattle.serve_load.proofs.Repeating.{goes_on}
use Rattle.serve_load.proofs.right.repeats.Goals as goal

unlike : (b : Bool) → not b ≡ false → b ≡ true
unlike true h = refl
unlike false h = absurd cc

pub loop-rest-preserved : goal.loop-rest-preserved
loop-rest-preserved c =
    let len : length c.args.word.now ≡ 8 = search rules in
    let same = (bytes_decides c.split_at.result.0.now c.as_slice.result.now).0 (unlike _ (sym c.ne.ensures ∙ c.if-ne.false)) ∙ c.as_slice.ensures in
    let one = goes_on c.args.word.now c.loop-rest.rest.now c.split_at.result.0.now c.split_at.result.1.now len c.loop-rest-test.true c.split_at.ensures.front c.split_at.ensures.back same in
    (λ h. one.0 (c.loop-rest.invariant.0 h), λ h. c.loop-rest.invariant.1 (one.1 h))
