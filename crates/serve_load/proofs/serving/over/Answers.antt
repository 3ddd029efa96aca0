-- What was written is the report on what was made.
use Rattle.serve_load.proofs.Saying.{said_report}
use Rattle.serve_load.proofs.serving.over.Goals as goal

pub returns-in-Ok-sorted-clause-wrote : goal.returns-in-Ok-sorted-clause-wrote
returns-in-Ok-sorted-clause-wrote g c = said_report c.args.load.now c.in-Ok-sorted.made.report c.in-Ok-sorted.made.hits.items _ _ c.write_report.result.end c.in-Ok-sorted.ensures.made c.write_report.ensures.said
