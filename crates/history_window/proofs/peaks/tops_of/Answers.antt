use Rattle.std.proofs.Common.{◌+◌, sym, subst}
use Rattle.history_window.specs.Peaks.{AreTops}
use Rattle.history_window.proofs.PeakLemmas.{top_begins, top_more, tops_begin, tops_more}
use Rattle.history_window.proofs.peaks.tops_of.Goals as goal

pub loop-index-init : goal.loop-index-init
loop-index-init c = record { top = top_begins c.args.peaks.now; tops = subst (λ tops. AreTops c.args.peaks.now 0 tops) (sym c.new-tops.ensures.items) (tops_begin c.args.peaks.now) }

pub loop-index-preserved : goal.loop-index-preserved
loop-index-preserved c =
    let top = top_more c.args.peaks.now c.loop-index.index c.loop-index.top c.max-top.result c.peak_at-peak.result c.loop-index.invariant.top c.peak_at-peak.ensures c.max-top.ensures in
    record {
      top = top;
      tops = subst (λ tops. AreTops c.args.peaks.now (c.loop-index.index + 1) tops) (sym c.in_ok-push.ensures.items) (tops_more c.args.peaks.now c.loop-index.index c.loop-index.tops.items c.max-top.result c.loop-index.invariant.tops top);
    }
