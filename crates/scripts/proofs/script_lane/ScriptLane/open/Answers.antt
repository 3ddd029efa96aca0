-- A lane that was just opened holds nothing.
use Rattle.std.proofs.Common.{ap, ◌∙◌, rules}
use Rattle.scripts.specs.Own.{seen_of}
use Rattle.scripts.proofs.Opening.{opens}
use Rattle.scripts.proofs.script_lane.ScriptLane.open.Goals as goal

pub returns-clause-ok : goal.returns-clause-ok
returns-clause-ok g c =
    (search rules, ap seen_of c.in_ok-lane.ensures ∙ opens c.in-Ok.layout c.args.config.now _ c.in-Ok.ensures.1)
