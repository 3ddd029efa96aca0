-- ma does what its flags ask for, and is answered so.
use Rattle.std.proofs.Common.{subst, ◌∙◌}
use Rattle.std.specs.Option.{option_map}
use Rattle.item_lane.specs.Cells.{kept_shown}
use Rattle.memcached_text.specs.Asked.{meta_shown}
use Rattle.memcached_session.specs.MetaSaying.{MetaSaid, IsTextOf, delta_said}
use Rattle.memcached_session.specs.Saying.{said_shown}
use Rattle.item_lane.specs.declared.meta_counting.MetaDelta.{MetaDelta}
use Rattle.item_lane.specs.Doing.{DoesAndGives}
use Rattle.item_lane.specs.Meta.{meta_delta_plan}
use Rattle.memcached_session.proofs.meta_performing.perform_delta.Goals as goal

pub returns-clause-does : goal.returns-clause-does
returns-clause-does g c =
    let d = g.D.PageDevice in
    let a = c.args in
    let m = c.meta_delta_in-asked in
    let t = c.meta_arithmetic-done in
    record {
      item = t.result.item;
      result = t.result.reply;
      does_it =
          subst (λ (q : MetaDelta). DoesAndGives g.row.PAGE d.honest d.failures d.held a.request.key.now a.turn.command (meta_delta_plan q) a.lane.now t.result.item t.result.reply t.new.lane) m.ensures t.ensures;
      says = record {
        text =
            subst
            (λ (q : MetaDelta). IsTextOf (meta_shown a.request) (delta_said a.turn.command.moment a.request.flags.now q (option_map kept_shown t.result.item) t.result.reply) ((said_shown c.answered.result).text))
            m.ensures
            (subst (λ (x : MetaSaid). IsTextOf (meta_shown a.request) x ((said_shown c.answered.result).text)) c.to_delta.ensures.said c.answered.ensures.text);
        outcome_is = c.answered.ensures.outcome ∙ c.outcome_of_item-outcome.ensures.value;
      };
    }

pub meta_arithmetic-done-requires : goal.meta_arithmetic-done-requires
meta_arithmetic-done-requires g c = assumption
