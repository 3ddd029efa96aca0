use Rattle.std.proofs.Common.{rules, subst, sym}
use Rattle.std.specs.Prelude.{slice_get}
use Rattle.std.proofs.lemmas.List.Sorted.{IsNonDecreasingBy-from_sort_by_key}
use Rattle.trace_file.specs.Lent.{call_shown}
use Rattle.history_picture.specs.Nearest.{AreNearest, gap_from}
use Rattle.history_picture.proofs.Nearing.{nearest_front}
use Rattle.history_picture.proofs.near.nearest.Goals as goal

pub returns : goal.returns
returns c =
    let sorted = c.sort_unstable_by_key.new.self.items in
    subst (AreNearest c.args.history.now (call_shown c.args.call.now) c.args.without.now c.args.most) (sym c.truncate.ensures.items)
    (nearest_front c.args.history.now (call_shown c.args.call.now) c.args.without.now c.in_ok-near.near.items sorted c.args.most c.in_ok-near.ensures c.sort_unstable_by_key.ensures.permutation
    (IsNonDecreasingBy-from_sort_by_key (λ position. gap_from (call_shown c.args.call.now) (slice_get c.args.history.now position)) _ c.sort_unstable_by_key.ensures.sorted (λ a r q k. search rules)))
