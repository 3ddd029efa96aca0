use Rattle.std.proofs.Common.{◌≡◌, ◌≤◌, ◌<◌, ◌+◌, ◌-◌, ◌^◌, arith, inr, subst, sym}
use Rattle.certificate_finder.specs.Excluding.{AreGone, IsLast}
use Rattle.certificate_finder.specs.Putting.{put_rank}
use Rattle.certificate_finder.specs.Writing.{IsSplit}
use Rattle.certificate_finder.proofs.LateLemmas.{are_gone, has_standing, time_fits}
use Rattle.certificate_finder.proofs.lateness.late_by.Goals as goal

pub overflow_cast-result : goal.overflow_cast-result
overflow_cast-result c =
    let puts = c.args.puts.now in
    let hit = c.args.hit.now in
    let begun = c.puts_upto-begun.result in
    let split = subst (λ r. IsSplit put_rank puts r begun) c.value_rank.ensures c.puts_upto-begun.ensures in
    let not = c.if-begun-like.false in
    let here : begun - 1 + 1 ≡ begun = omega arith in
    let last = subst (λ n. IsLast puts n c.item_at-last.result) here (c.requires.lasts.each (begun - 1) c.item_at-last.result c.item_at-last.ensures) in
    let few : c.value_rank-asked.result - c.item_at-last.result < 2 ^ 64 = subst (λ a. a - c.item_at-last.result < 2 ^ 64) (sym c.value_rank-asked.ensures) (time_fits puts c.requires.puts hit c.requires.fit c.args.like.from c.args.like.upto c.requires.like begun split c.item_at-last.result last (omega arith)) in
    omega (arith, few)

pub returns-then-last-asked : goal.returns-then-last-asked
returns-then-last-asked c =
    let puts = c.args.puts.now in
    let hit = c.args.hit.now in
    let begun = c.puts_upto-begun.result in
    let split = subst (λ r. IsSplit put_rank puts r begun) c.value_rank.ensures c.puts_upto-begun.ensures in
    let not = c.if-begun-like.false in
    let here : begun - 1 + 1 ≡ begun = omega arith in
    let last = subst (λ n. IsLast puts n c.item_at-last.result) here (c.requires.lasts.each (begun - 1) c.item_at-last.result c.item_at-last.ensures) in
    let less = subst (λ a. c.item_at-last.result < a) c.value_rank-asked.ensures c.if-last-asked.true in
    record {
      upto = begun;
      begun = split;
      is = subst (λ a. AreGone puts hit c.args.like.from begun (a - c.item_at-last.result)) (sym c.value_rank-asked.ensures) (are_gone puts c.requires.puts hit c.requires.fit c.args.like.from c.args.like.upto c.requires.like begun split c.item_at-last.result last (omega arith) less);
    }

pub returns-else-last-asked : goal.returns-else-last-asked
returns-else-last-asked c =
    let puts = c.args.puts.now in
    let hit = c.args.hit.now in
    let begun = c.puts_upto-begun.result in
    let split = subst (λ r. IsSplit put_rank puts r begun) c.value_rank.ensures c.puts_upto-begun.ensures in
    let not = c.if-begun-like.false in
    let here : begun - 1 + 1 ≡ begun = omega arith in
    let last = subst (λ n. IsLast puts n c.item_at-last.result) here (c.requires.lasts.each (begun - 1) c.item_at-last.result c.item_at-last.ensures) in
    let rank = c.value_rank-asked.ensures in
    let no = c.if-last-asked.false in
    record {
      upto = begun;
      begun = split;
      is = inr (has_standing puts c.requires.puts hit c.requires.fit c.args.like.from c.args.like.upto c.requires.like begun split c.item_at-last.result last (omega arith) (subst (λ a. a ≤ c.item_at-last.result) rank (omega arith)));
    }
