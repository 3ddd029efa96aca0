use Rattle.std.proofs.Common.{arith, rules}
use Rattle.std.proofs.lemmas.List.Sorted.{IsNonDecreasingBy-from_sort_by_key}
use Rattle.history_picture.specs.Shown.{started}
use Rattle.history_picture.proofs.Choosing.{shown_sorted}
use Rattle.history_picture.proofs.shown.shown.Goals as goal

pub returns : goal.returns
returns c =
    shown_sorted c.args.history.now c.args.marks.now c.in_ok-shown.shown.items c.sort_unstable_by_key.new.self.items c.args.most c.in_ok-shown.ensures
    c.sort_unstable_by_key.ensures.permutation (omega (arith, c.sort_unstable_by_key.ensures.len))
    (IsNonDecreasingBy-from_sort_by_key (started c.args.history.now) _ c.sort_unstable_by_key.ensures.sorted (λ a r q k. search rules))
