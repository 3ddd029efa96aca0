-- mg does what its flags ask for, and is answered so.
use Rattle.std.proofs.Common.{subst, sym, ◌∙◌}
use Rattle.std.specs.Option.{option_map}
use Rattle.item_lane.specs.Cells.{kept_shown}
use Rattle.memcached_text.specs.Asked.{meta_shown}
use Rattle.memcached_session.specs.MetaSaying.{MetaSaid, IsTextOf, get_said}
use Rattle.memcached_session.specs.Saying.{said_shown}
use Rattle.item_lane.specs.declared.meta_getting.MetaGet.{MetaGet}
use Rattle.item_lane.specs.Doing.{DoesAndGives}
use Rattle.item_lane.specs.Meta.{meta_get_plan}
use Rattle.memcached_session.specs.Fitting.{IsSaidWithin}
use Rattle.memcached_session.proofs.Fitting.{get_within, item_short}
use Rattle.memcached_session.proofs.meta_performing.perform_get.Goals as goal

pub returns-clause-does : goal.returns-clause-does
returns-clause-does g c =
    let d = g.D.PageDevice in
    let a = c.args in
    let m = c.meta_get_in-asked in
    let t = c.meta_get-done in
    record {
      item = t.result.item;
      result = t.result.reply;
      does_it =
          subst (λ (q : MetaGet). DoesAndGives g.row.PAGE d.honest d.failures d.held a.request.key.now a.turn.command (meta_get_plan q) a.lane.now t.result.item t.result.reply t.new.lane) m.ensures t.ensures.does;
      says = record {
        text =
            subst
            (λ (q : MetaGet). IsTextOf (meta_shown a.request) (get_said a.turn.command.moment a.request.flags.now q (option_map kept_shown t.result.item) t.result.reply) ((said_shown c.answered.result).text))
            m.ensures
            (subst (λ (x : MetaSaid). IsTextOf (meta_shown a.request) x ((said_shown c.answered.result).text)) c.to_get.ensures c.answered.ensures.text);
        outcome_is = c.answered.ensures.outcome ∙ c.outcome_of_item-outcome.ensures.value;
      };
    }

pub answered-requires-clause-within : goal.answered-requires-clause-within
answered-requires-clause-within g c =
    let a = c.args in
    let t = c.meta_get-done in
    subst IsSaidWithin (sym c.to_get.ensures) (get_within a.turn.command.moment a.request.flags.now c.meta_get_in-asked.result (option_map kept_shown t.result.item) t.result.reply (item_short t.result.item t.ensures.within))

pub meta_get-done-requires : goal.meta_get-done-requires
meta_get-done-requires g c = assumption
