use Rattle.std.proofs.Common.{◌∙◌, ap}
use Rattle.judge_run.specs.Listing.{key_count}
use Rattle.judge_run.proofs.listing.faults_in.Goals as goal

pub returns : goal.returns
returns g c = record {
  faults = record { found = c.in_ok-found.found; are = c.in_ok-found.ensures; faults_are = c.in_ok-faults.ensures };
  keys = c.in_ok-keys.ensures ∙ ap (key_count c.args.history.now) c.deref.ensures.value;
}
