use Rattle.std.proofs.Common.{rules, subst}
use Rattle.std.specs.Prelude.{Ok}
use Rattle.std.proofs.lemmas.Result.{err_from_is_err_and}
use Rattle.mover.specs.Leaving.{BeginLeaves}
use Rattle.mover.specs.Calls.{StoreBegins}
use Rattle.mover.proofs.public_laws.FlightLists.{flights_counted}
use Rattle.mover.proofs.Ending.{job_flies}
use Rattle.mover.proofs.WholeMove.{over_nothing, over_busy, over_freed, over_readmitted, over_dropped, over_lost, refused, given_up, ended}
use Rattle.mover.proofs.store.Store.move_whole.Goals as goal

pub end_by-requires : goal.end_by-requires
end_by-requires g c =
    let leaves = subst (λ b. BeginLeaves g.row.PAGE c.args.self.now b c.move_begin.new.self) c.in-Job.is c.in_ok-move_begin.ensures.leaves in
    (search rules, job_flies g.row.PAGE (g.P.EvictionPolicy.plan_of c.args.policy.now) c.args.self.now c.move_begin.new.self c.move_begin.new.self c.in-Job.job leaves (flights_counted c.args.self.now.log.shape c.args.self.now.moves c.args.self.now.flights c.layout-layout.ensures.kept.flights))

pub returns-in-Nothing : goal.returns-in-Nothing
returns-in-Nothing g c =
    let d = g.D.PageDevice in
    over_nothing g.row.PAGE d.honest d.failures d.held (g.P.EvictionPolicy.plan_of c.args.policy.now) c.args.self.now c.move_begin.new.self
    (subst (λ b. StoreBegins g.row.PAGE d.honest d.failures d.held c.args.self.now (Ok b) c.move_begin.new.self) c.in-Nothing.is c.in_ok-move_begin.ensures)

pub returns-in-Busy : goal.returns-in-Busy
returns-in-Busy g c =
    let d = g.D.PageDevice in
    over_busy g.row.PAGE d.honest d.failures d.held (g.P.EvictionPolicy.plan_of c.args.policy.now) c.args.self.now c.move_begin.new.self
    (subst (λ b. StoreBegins g.row.PAGE d.honest d.failures d.held c.args.self.now (Ok b) c.move_begin.new.self) c.in-Busy.is c.in_ok-move_begin.ensures)

pub returns-in-Freed : goal.returns-in-Freed
returns-in-Freed g c =
    let d = g.D.PageDevice in
    over_freed g.row.PAGE d.honest d.failures d.held (g.P.EvictionPolicy.plan_of c.args.policy.now) c.args.self.now c.move_begin.new.self
    (subst (λ b. StoreBegins g.row.PAGE d.honest d.failures d.held c.args.self.now (Ok b) c.move_begin.new.self) c.in-Freed.is c.in_ok-move_begin.ensures)

pub returns-in-Readmitted : goal.returns-in-Readmitted
returns-in-Readmitted g c =
    let d = g.D.PageDevice in
    over_readmitted g.row.PAGE d.honest d.failures d.held (g.P.EvictionPolicy.plan_of c.args.policy.now) c.args.self.now c.move_begin.new.self
    (subst (λ b. StoreBegins g.row.PAGE d.honest d.failures d.held c.args.self.now (Ok b) c.move_begin.new.self) c.in-Readmitted.is c.in_ok-move_begin.ensures)

pub returns-in-Dropped : goal.returns-in-Dropped
returns-in-Dropped g c =
    let d = g.D.PageDevice in
    over_dropped g.row.PAGE d.honest d.failures d.held (g.P.EvictionPolicy.plan_of c.args.policy.now) c.args.self.now c.move_begin.new.self
    (subst (λ b. StoreBegins g.row.PAGE d.honest d.failures d.held c.args.self.now (Ok b) c.move_begin.new.self) c.in-Dropped.is c.in_ok-move_begin.ensures)

pub returns-in-PageLost : goal.returns-in-PageLost
returns-in-PageLost g c =
    let d = g.D.PageDevice in
    over_lost g.row.PAGE d.honest d.failures d.held (g.P.EvictionPolicy.plan_of c.args.policy.now) c.args.self.now c.move_begin.new.self
    (subst (λ b. StoreBegins g.row.PAGE d.honest d.failures d.held c.args.self.now (Ok b) c.move_begin.new.self) c.in-PageLost.is c.in_ok-move_begin.ensures)

pub returns-in_err-move_begin : goal.returns-in_err-move_begin
returns-in_err-move_begin g c =
    let d = g.D.PageDevice in
    let failed = err_from_is_err_and c.from_residual.result c.from_residual.ensures.1 in
    refused g.row.PAGE d.honest d.failures d.held (g.P.EvictionPolicy.plan_of c.args.policy.now) c.args.self.now c.move_begin.new.self c.from_residual.result failed.0 _ failed.1 c.in_err-move_begin.ensures

pub returns-in_err-moved-in-Job : goal.returns-in_err-moved-in-Job
returns-in_err-moved-in-Job g c =
    let d = g.D.PageDevice in
    let failed = err_from_is_err_and c.from_residual-in_err-moved-in-Job.result c.from_residual-in_err-moved-in-Job.ensures.1 in
    let end = c.in_err-moved-in-Job.ensures in
    given_up g.row.PAGE d.honest d.failures d.held (g.P.EvictionPolicy.plan_of c.args.policy.now) c.args.self.now c.move_begin.new.self c.end_by.new.self c.in-Job.job
    (subst (λ b. StoreBegins g.row.PAGE d.honest d.failures d.held c.args.self.now (Ok b) c.move_begin.new.self) c.in-Job.is c.in_ok-move_begin.ensures) end.layout end.honest c.from_residual-in_err-moved-in-Job.result failed.0 failed.1
    (flights_counted c.args.self.now.log.shape c.args.self.now.moves c.args.self.now.flights c.layout-layout.ensures.kept.flights) end.err

pub returns-in_ok-moved-in-Job : goal.returns-in_ok-moved-in-Job
returns-in_ok-moved-in-Job g c =
    let d = g.D.PageDevice in
    let end = c.in_ok-moved-in-Job.ensures in
    ended g.row.PAGE d.honest d.failures d.held (g.P.EvictionPolicy.plan_of c.args.policy.now) c.args.self.now c.move_begin.new.self c.end_by.new.self c.in-Job.job
    (subst (λ b. StoreBegins g.row.PAGE d.honest d.failures d.held c.args.self.now (Ok b) c.move_begin.new.self) c.in-Job.is c.in_ok-move_begin.ensures) end.layout end.honest c.in_ok-moved-in-Job.moved end.faults end.lawful end.leaves end.gives
