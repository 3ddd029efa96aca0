use Rattle.std.proofs.Common.{◌≡◌, ◌-◌, Some, ap, length, sym, subst, arith}
use Rattle.std.specs.Prelude.{slice_get}
use Rattle.std.specs.List.Sorted.{IsNonDecreasingBy}
use Rattle.certificate_finder.specs.Writing.{IsSplitBelow}
use Rattle.history_window.specs.Peaks.{foot_of}
use Rattle.history_window.proofs.PeakLemmas.{count_within, none_before, some_before}
use Rattle.history_window.proofs.peaks.Peaks.top_before.Goals as goal

pub peaks_before-count-requires : goal.peaks_before-count-requires
peaks_before-count-requires c = subst (λ items. IsNonDecreasingBy foot_of items) (sym c.as_slice-items.ensures.value) c.requires.rise

pub returns-then-count-eq0 : goal.returns-then-count-eq0
returns-then-count-eq0 c = none_before c.args.self.now c.requires c.args.limit c.peaks_before-count.result (subst (λ items. IsSplitBelow foot_of items c.args.limit c.peaks_before-count.result) c.as_slice-items.ensures.value c.peaks_before-count.ensures) (omega arith)

pub rank_at-requires : goal.rank_at-requires
rank_at-requires c =
    let within = count_within c.args.self.now c.requires c.args.limit c.peaks_before-count.result (subst (λ items. IsSplitBelow foot_of items c.args.limit c.peaks_before-count.result) c.as_slice-items.ensures.value c.peaks_before-count.ensures) in
    let same = ap length c.as_slice-tops.ensures.value in
    omega (arith, within, same)

pub returns : goal.returns
returns c = some_before c.args.self.now c.requires c.args.limit c.peaks_before-count.result (subst (λ items. IsSplitBelow foot_of items c.args.limit c.peaks_before-count.result) c.as_slice-items.ensures.value c.peaks_before-count.ensures) c.rank_at.result (omega arith) (subst (λ tops. slice_get tops (c.peaks_before-count.result - 1) ≡ Some c.rank_at.result) c.as_slice-tops.ensures.value c.rank_at.ensures)
