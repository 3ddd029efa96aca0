-- What is due is done.
use Rattle.std.proofs.Common.{◌≡◌, Some, ap, sym, ◌∙◌, refl, subst, true≢false}
use Rattle.klog.specs.Usage.{usage_of}
use Rattle.service_lane.specs.declared.due.Due.TheVariants as due
use Rattle.service_lane.specs.Dueness.{due_of}
use Rattle.service_lane.specs.declared.counts.Counts.{Counts}
use Rattle.service_lane.specs.Counting.{counts_flush, counts_move, counts_refused_move}
use Rattle.service_lane.specs.Serving.{Serving}
use Rattle.service_lane.specs.Upkeep.{Flushes, Moves, LacksMemory, due_in}
use Rattle.service_lane.proofs.Tending.{page_done, moved_asks_none}
use Rattle.service_lane.proofs.lane.ServiceLane.do_due.Goals as goal

pub invariant_of-self : goal.invariant_of-self
invariant_of-self g c = c.self.invariant

pub invariant_of-self-in-Some-Move : goal.invariant_of-self-in-Some-Move
invariant_of-self-in-Some-Move g c = c.self.invariant

pub returns-in-None-clause-upkept : goal.returns-in-None-clause-upkept
returns-in-None-clause-upkept g c = (ap due_of (sym c.log_usage.ensures) ∙ sym c.what_is_due.ensures ∙ c.in-None.is, refl)

pub returns-in-None-clause-unasked : goal.returns-in-None-clause-unasked
returns-in-None-clause-unasked g c asks = refl

pub returns-in-Some-Flush-clause-unasked : goal.returns-in-Some-Flush-clause-unasked
returns-in-Some-Flush-clause-unasked g c asks = absurd (true≢false asks)

pub returns-in-Err-clause-unasked : goal.returns-in-Err-clause-unasked
returns-in-Err-clause-unasked g c asks = absurd (true≢false asks)

pub returns-in-Some-Flush-clause-upkept : goal.returns-in-Some-Flush-clause-upkept
returns-in-Some-Flush-clause-upkept g c =
    let d = g.D.PageDevice in
    let i = c.self.inside in
    let new = c.flush_step.new.self in
    let answer = c.flush_step.result in
    let old : Serving g.row.D.Denot = record { store = i.asked.store; deeds = i.asked.deeds; copies = i.asked.copies; slots = i.slots; counts = i.counts } in
    let is_due : due_in old ≡ Some due.Flush = ap due_of (ap (λ (s : Serving g.row.D.Denot). usage_of s.store.log) c.self.view_is ∙ sym c.log_usage.ensures) ∙ sym c.what_is_due.ensures ∙ c.in-Some-Flush.is ∙ ap Some c.in-Some-Flush.field-0-is in
    let done : Flushes d.honest d.failures d.held old answer new =
    record {
      due = is_due;
      done = page_done old.store.log new.store.log answer is_due c.flush_step.ensures.flushes.flushes;
      rest = c.flush_step.ensures.leaves ∙ ap (λ (n : Counts). record old { store = new.store; counts = counts_flush answer n }) c.count.ensures;
      flushes = c.flush_step.ensures.flushes;
    } in
    subst (λ (s : Serving g.row.D.Denot). Flushes d.honest d.failures d.held s answer new) c.self.view_is done

pub returns-in-Ok-clause-upkept : goal.returns-in-Ok-clause-upkept
returns-in-Ok-clause-upkept g c =
    let d = g.D.PageDevice in
    let i = c.self.inside in
    let new = c.move_whole.new.self in
    let answer = c.in-Ok.moved in
    let plan_of = g.P.EvictionPolicy.plan_of c.args.policy.now in
    let old : Serving g.row.D.Denot = record { store = i.asked.store; deeds = i.asked.deeds; copies = i.asked.copies; slots = i.slots; counts = i.counts } in
    let is_due : due_in old ≡ Some due.Move = ap due_of (ap (λ (s : Serving g.row.D.Denot). usage_of s.store.log) c.self.view_is ∙ sym c.log_usage.ensures) ∙ sym c.what_is_due.ensures ∙ c.in-Some-Move.is ∙ ap Some c.in-Some-Move.field-0-is in
    let done : Moves g.row.PAGE d.honest d.failures d.held plan_of old answer new =
    record {
      due = is_due;
      rest = c.in-Ok.ensures.moved ∙ ap (λ (n : Counts). record old { store = new.store; counts = counts_move answer n }) c.count-in-Some-Move.ensures;
      moves = c.in-Ok.ensures.moves;
    } in
    subst (λ (s : Serving g.row.D.Denot). Moves g.row.PAGE d.honest d.failures d.held plan_of s answer new) c.self.view_is done

pub returns-in-Ok-clause-unasked : goal.returns-in-Ok-clause-unasked
returns-in-Ok-clause-unasked g c asks =
    moved_asks_none g.row.PAGE (g.P.EvictionPolicy.plan_of c.args.policy.now) c.self.inside.asked.store c.move_whole.new.self.store c.in-Ok.moved asks c.in-Ok.ensures.moves.leaves
    ∙ ap (λ (s : Serving g.row.D.Denot). s.store.device) c.self.view_is

pub returns-in-Err-clause-upkept : goal.returns-in-Err-clause-upkept
returns-in-Err-clause-upkept g c =
    let d = g.D.PageDevice in
    let i = c.self.inside in
    let new = c.move_whole.new.self in
    let plan_of = g.P.EvictionPolicy.plan_of c.args.policy.now in
    let old : Serving g.row.D.Denot = record { store = i.asked.store; deeds = i.asked.deeds; copies = i.asked.copies; slots = i.slots; counts = i.counts } in
    let is_due : due_in old ≡ Some due.Move = ap due_of (ap (λ (s : Serving g.row.D.Denot). usage_of s.store.log) c.self.view_is ∙ sym c.log_usage.ensures) ∙ sym c.what_is_due.ensures ∙ c.in-Some-Move.is ∙ ap Some c.in-Some-Move.field-0-is in
    let done : LacksMemory g.row.PAGE d.honest d.failures d.held plan_of old new =
    record {
      due = is_due;
      rest = c.in-Err.ensures.refused ∙ ap (λ (n : Counts). record old { store = new.store; counts = counts_refused_move n }) c.count-in-Some-Move.ensures;
      moves = c.in-Err.ensures.moves;
    } in
    subst (λ (s : Serving g.row.D.Denot). LacksMemory g.row.PAGE d.honest d.failures d.held plan_of s new) c.self.view_is done

pub log_usage-requires : goal.log_usage-requires
log_usage-requires g c = assumption

pub flush_step-requires : goal.flush_step-requires
flush_step-requires g c = assumption

pub move_whole-requires : goal.move_whole-requires
move_whole-requires g c = assumption
