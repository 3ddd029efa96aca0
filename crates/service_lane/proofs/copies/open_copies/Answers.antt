-- Copies that are opened.
use Rattle.std.proofs.Common.{Some, ap, sym, ◌∙◌}
use Rattle.service_lane.specs.Copies.{CopyList}
use Rattle.service_lane.proofs.Copying.{some_kept}
use Rattle.service_lane.proofs.copies.open_copies.Goals as goal

pub returns-clause-kept : goal.returns-clause-kept
returns-clause-kept c = ap (λ (l : CopyList). Some l) c.in_ok-open.ensures ∙ sym (some_kept c.args.every c.args.objects c.if-every-eq0.false c.if-objects-eq0.false)

pub returns-clause-none : goal.returns-clause-none
returns-clause-none c = ap (λ (l : CopyList). l.held.pairs) c.in_ok-open.ensures
