-- The text is that of all rows, ended.
use Rattle.std.proofs.Common.{◌∙◌, ap}
use Rattle.serve_load.specs.Closing.{closed}
use Rattle.serve_load.specs.Reports.{call_rows, end_rows, report_of}
use Rattle.serve_load.specs.Rows.{count_rows}
use Rattle.serve_load.proofs.Rows.{all_rows}
use Rattle.serve_load.proofs.report.Report.text.Goals as goal

pub returns : goal.returns
unfolding report_of
returns c =
    let r = c.args.self.now in
    c.in_ok-close.ensures
    ∙ ap (closed c.args.form) (all_rows c.args.form _ _ _ _ (call_rows r) (count_rows r.counts) (end_rows r c.args.load.now c.args.hits.now) c.new-text.ensures.bytes c.in_ok-tell_calls.ensures c.in_ok-tell_counts.ensures c.in_ok-tell_end.ensures)
