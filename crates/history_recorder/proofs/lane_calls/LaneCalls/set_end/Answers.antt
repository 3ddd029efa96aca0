-- Set if there is such a position, and otherwise as it was.
use Rattle.std.proofs.Common.{◌≡◌, List, arith, sym, ap, ◌∙◌, subst}
use Rattle.history_recorder.specs.declared.recorded_call.RecordedCall.{RecordedCall}
use Rattle.history_recorder.specs.Books.{ended_at}
use Rattle.history_recorder.proofs.SetEnd.{set_is_ended, none_is_ended}
use Rattle.history_recorder.proofs.lane_calls.LaneCalls.set_end.Goals as goal

pub returns-then-position-len : goal.returns-then-position-len
returns-then-position-len c =
    set_is_ended c.self.inside.calls.items c.args.position c.args.end c.index_mut.result.now (omega arith) (sym c.index_mut.ensures.value)
    ∙ ap (ended_at c.args.position c.args.end) c.self.view_is

pub returns-else-position-len : goal.returns-else-position-len
returns-else-position-len c =
    subst (λ (calls : List RecordedCall). calls ≡ ended_at c.args.position c.args.end calls) c.self.view_is (none_is_ended c.self.inside.calls.items c.args.position c.args.end (omega arith))
