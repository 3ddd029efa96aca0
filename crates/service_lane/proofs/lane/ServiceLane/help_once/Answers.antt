-- One step more, done in help.
use Rattle.std.proofs.Common.{ap, sym, ◌∙◌, subst}
use Rattle.service_lane.specs.Counting.{counts_help, CountsHelps}
use Rattle.service_lane.specs.Serving.{Serving}
use Rattle.service_lane.specs.declared.counts.Counts.{Counts}
use Rattle.service_lane.proofs.StepCounts.{help_counted}
use Rattle.service_lane.proofs.Tending.{OnlySteps, upkeep_rest, upkeep_counted}
use Rattle.service_lane.proofs.lane.ServiceLane.help_once.Goals as goal

pub returns-clause-rest : goal.returns-clause-rest
returns-clause-rest g c =
    let d = g.D.PageDevice in
    let between = c.upkeep_step-step.new.self in
    let now = c.count.new.self in
    let stepped : OnlySteps c.args.self.now between = upkeep_rest g.row.PAGE d.honest d.failures d.held (g.P.EvictionPolicy.plan_of c.args.policy.now) c.args.self.now between c.upkeep_step-step.result.did c.upkeep_step-step.ensures.upkept in
    ap (λ (s : Serving g.row.D.Denot). record s { counts = now }) (subst (λ (s : Serving g.row.D.Denot). OnlySteps c.args.self.now s) (sym c.self.view_is) stepped)

pub returns-clause-counted : goal.returns-clause-counted
returns-clause-counted g c some =
    let d = g.D.PageDevice in
    let between = c.upkeep_step-step.new.self in
    let step = upkeep_counted g.row.PAGE d.honest d.failures d.held (g.P.EvictionPolicy.plan_of c.args.policy.now) c.args.self.now between c.upkeep_step-step.result.did c.upkeep_step-step.ensures.upkept some in
    let helped : CountsHelps 1 c.args.self.now.counts (counts_help c.self.inside.counts) = subst (λ (s : Serving g.row.D.Denot). CountsHelps 1 c.args.self.now.counts (counts_help s.counts)) (sym c.self.view_is) (help_counted c.args.self.now.counts between.counts step) in
    subst (λ (n : Counts). CountsHelps 1 c.args.self.now.counts n) (sym c.count.ensures) helped

pub returns-clause-unasked : goal.returns-clause-unasked
returns-clause-unasked g c asks = ap (λ (s : Serving g.row.D.Denot). s.store.device) c.self.view_is ∙ c.upkeep_step-step.ensures.unasked asks

pub returns-clause-once : goal.returns-clause-once
returns-clause-once g c =
    let between = c.upkeep_step-step.new.self in
    let i = c.self.inside in
    let v : Serving g.row.D.Denot = record { store = i.asked.store; deeds = i.asked.deeds; copies = i.asked.copies; slots = i.slots; counts = i.counts } in
    record {
      did = c.upkeep_step-step.result.did;
      between = between;
      upkept = c.upkeep_step-step.ensures.upkept;
      asked_is = c.upkeep_step-step.ensures.asked;
      counted =
          ap (λ (n : Counts). record v { counts = n }) c.count.ensures
          ∙ ap (λ (s : Serving g.row.D.Denot). record s { counts = counts_help s.counts }) c.self.view_is;
    }

pub upkeep_step-step-requires : goal.upkeep_step-step-requires
upkeep_step-step-requires g c = assumption
