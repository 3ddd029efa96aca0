-- ms does what its flags ask for, and is answered so.
use Rattle.std.proofs.Common.{subst, sym, ◌∙◌}
use Rattle.item_lane.specs.Cells.{Kept, kept_shown}
use Rattle.memcached_text.specs.Asked.{meta_shown}
use Rattle.memcached_session.specs.MetaSaying.{MetaSaid, IsTextOf}
use Rattle.memcached_session.specs.Saying.{said_shown}
use Rattle.item_lane.specs.declared.meta_storing.MetaSet.{MetaSet}
use Rattle.item_lane.specs.Doing.{SetsAs}
use Rattle.item_lane.specs.Meta.{condition_of}
use Rattle.memcached_session.specs.MetaReading.{meta_set_in}
use Rattle.memcached_session.specs.Fitting.{IsSaidWithin}
use Rattle.memcached_session.proofs.Fitting.{set_within}
use Rattle.memcached_session.proofs.meta_performing.perform_set.Goals as goal

pub returns-clause-does : goal.returns-clause-does
returns-clause-does g c =
    let d = g.D.PageDevice in
    let a = c.args in
    let m = c.meta_set_in-asked in
    let i = c.meta_item-item in
    let t = c.meta_set-reply in
    record {
      result = t.result;
      does_it =
          subst
          (λ (k : Kept). SetsAs g.row.PAGE d.honest d.failures d.held a.request.key.now a.turn.command (condition_of (meta_set_in a.request.flags.now).mode (meta_set_in a.request.flags.now).compare (meta_set_in a.request.flags.now).invalidates) k a.lane.now t.result t.new.lane)
          i.ensures
          (subst
          (λ (q : MetaSet). SetsAs g.row.PAGE d.honest d.failures d.held a.request.key.now a.turn.command (condition_of q.mode q.compare q.invalidates) (kept_shown i.result) a.lane.now t.result t.new.lane)
          m.ensures t.ensures);
      says = record {
        text = subst (λ (x : MetaSaid). IsTextOf (meta_shown a.request) x ((said_shown c.answered.result).text)) c.to_set.ensures c.answered.ensures.text;
        outcome_is = c.answered.ensures.outcome ∙ c.outcome.ensures.value;
      };
    }

pub answered-requires-clause-within : goal.answered-requires-clause-within
answered-requires-clause-within g c = subst IsSaidWithin (sym c.to_set.ensures) (set_within c.args.turn.cas c.args.request.flags.now c.meta_set-reply.result)

pub meta_set-reply-requires : goal.meta_set-reply-requires
meta_set-reply-requires g c = assumption
