use Rattle.std.proofs.Common.{sym, ap, ◌∙◌}
use Rattle.klog.specs.Log.{LogState}
use Rattle.klog.proofs.FetchLaws.{filled_buffer, flushed_buffer}
use Rattle.klog.proofs.log.KLog.buffer_of.Goals as goal

pub returns-then-number-filled_number-clause-some : goal.returns-then-number-filled_number-clause-some
returns-then-number-filled_number-clause-some g c =
    filled_buffer _ c.args.self.now c.args.entry.now c.self.view_is (sym c.number_of-number.ensures ∙ c.if-number-filled_number.true ∙ c.filled_number.ensures.number)

pub returns-then-number-flushed_number-clause-some : goal.returns-then-number-flushed_number-clause-some
returns-then-number-flushed_number-clause-some g c =
    flushed_buffer _ c.args.self.now c.args.entry.now c.self.view_is
    (λ same. c.if-number-filled_number.false (c.number_of-number.ensures ∙ same ∙ sym c.filled_number.ensures.number))
    (sym (ap (λ (k : LogState). k.is_flushing) c.self.view_is) ∙ c.if-self.true)
    (sym c.number_of-number.ensures ∙ c.if-number-flushed_number.true ∙ c.flushed_number.ensures.number)
