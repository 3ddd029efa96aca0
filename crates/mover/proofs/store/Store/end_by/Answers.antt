use Rattle.std.proofs.Common.{List, ap, subst}
use Rattle.policy_laws.specs.Laws.{IsLawful}
use Rattle.policy_laws.specs.declared.choice.Choice.{Choice}
use Rattle.kset.specs.declared.rewritten.Rewritten.TheVariants as rewritten
use Rattle.mover.specs.Store.{StoreState}
use Rattle.mover.specs.Lane.{lane_of}
use Rattle.mover.specs.Calls.{StoreCommits}
use Rattle.mover.specs.declared.committed.Committed.TheVariants as answers
use Rattle.mover.proofs.WholeMove.{commits_end}
use Rattle.mover.proofs.store.Store.end_by.Goals as goal

pub returns-in-Written : goal.returns-in-Written
returns-in-Written g c =
    let d = g.D.PageDevice in
    let plan = g.P.EvictionPolicy.plan_of c.args.policy.now c.args.job.now in
    let ends = subst (λ (p : List Choice). StoreCommits g.row.PAGE d.honest d.failures d.held p c.args.job.now.number c.args.self.now answers.Written c.move_commit.new.self) c.in-Ok.ensures.plan c.in-Written.ensures in
    record {
      layout = ap (λ (s : StoreState g.row.D.Denot). s.layout) ends.leaves.left;
      honest = ends.honesty;
      faults = ends.faults;
      err = tt;
      lawful = subst (IsLawful c.args.job.now) c.in-Ok.ensures.plan c.in-Ok.ensures.lawful;
      leaves = ends.leaves;
      gives = λ is. commits_end g.row.PAGE plan c.args.job.now.number rewritten.Written (lane_of d.held c.args.self.now) (lane_of d.held c.move_commit.new.self) (ends.gives is);
    }

pub returns-in-Forgotten : goal.returns-in-Forgotten
returns-in-Forgotten g c =
    let d = g.D.PageDevice in
    let plan = g.P.EvictionPolicy.plan_of c.args.policy.now c.args.job.now in
    let ends = subst (λ (p : List Choice). StoreCommits g.row.PAGE d.honest d.failures d.held p c.args.job.now.number c.args.self.now answers.Forgotten c.move_commit.new.self) c.in-Ok.ensures.plan c.in-Forgotten.ensures in
    record {
      layout = ap (λ (s : StoreState g.row.D.Denot). s.layout) ends.leaves.left;
      honest = ends.honesty;
      faults = ends.faults;
      err = tt;
      lawful = subst (IsLawful c.args.job.now) c.in-Ok.ensures.plan c.in-Ok.ensures.lawful;
      leaves = ends.leaves;
      gives = λ is. commits_end g.row.PAGE plan c.args.job.now.number rewritten.Forgotten (lane_of d.held c.args.self.now) (lane_of d.held c.move_commit.new.self) (ends.gives is);
    }
