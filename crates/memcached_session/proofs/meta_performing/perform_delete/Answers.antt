-- md does what its flags ask for, and is answered so.
use Rattle.std.proofs.Common.{subst, sym, ◌∙◌}
use Rattle.memcached_text.specs.Asked.{meta_shown}
use Rattle.memcached_session.specs.MetaSaying.{MetaSaid, IsTextOf}
use Rattle.memcached_session.specs.Saying.{said_shown}
use Rattle.item_lane.specs.declared.meta_deleting.MetaDelete.{MetaDelete}
use Rattle.item_lane.specs.Doing.{Does}
use Rattle.item_lane.specs.Meta.{meta_delete_plan}
use Rattle.memcached_session.specs.Fitting.{IsSaidWithin}
use Rattle.memcached_session.proofs.Fitting.{delete_within}
use Rattle.memcached_session.proofs.meta_performing.perform_delete.Goals as goal

pub returns-clause-does : goal.returns-clause-does
returns-clause-does g c =
    let d = g.D.PageDevice in
    let a = c.args in
    let m = c.meta_delete_in-asked in
    let t = c.meta_delete-reply in
    record {
      result = t.result;
      does_it =
          subst (λ (q : MetaDelete). Does g.row.PAGE d.honest d.failures d.held a.request.key.now a.turn.command (meta_delete_plan q) a.lane.now t.result t.new.lane) m.ensures t.ensures;
      says = record {
        text = subst (λ (x : MetaSaid). IsTextOf (meta_shown a.request) x ((said_shown c.answered.result).text)) c.to_delete.ensures c.answered.ensures.text;
        outcome_is = c.answered.ensures.outcome ∙ c.outcome.ensures.value;
      };
    }

pub answered-requires-clause-within : goal.answered-requires-clause-within
answered-requires-clause-within g c = subst IsSaidWithin (sym c.to_delete.ensures) (delete_within c.args.request.flags.now c.meta_delete-reply.result)

pub meta_delete-reply-requires : goal.meta_delete-reply-requires
meta_delete-reply-requires g c = assumption
