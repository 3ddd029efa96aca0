-- What was made is what the callers counted.
use Rattle.std.proofs.Common.{◌∙◌, sym}
use Rattle.serve_load.specs.Calls.{IsTally}
use Rattle.serve_load.proofs.Adding.{as_others, is_made}
use Rattle.serve_load.proofs.made.make.Goals as goal

pub returns-clause-made : goal.returns-clause-made
returns-clause-made g c =
    let s = c.in-Ok-run.ran.sums in
    let e = c.report_of.ensures in
    is_made c.args.load.now c.report_of.result s.operations s.refused s.whole s.hits.items e.operations_are e.refused_are e.wrong_are c.in-Ok-run.ensures.most c.in-Ok-run.ensures.whole (c.lacks_callers.ensures.all c.if-lacks_callers.false) (as_others g.M.Tallying.is_tally (IsTally c.args.load.now) _ _ _ _ _ c.requires.only c.in-Ok-run.ensures.sums)
