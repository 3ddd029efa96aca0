use Rattle.std.proofs.Common.{ap, refl, length, ◌∙◌}
use Rattle.trace_file.specs.Calls.{time_of, value_of}
use Rattle.trace_file.specs.Stored.{act_of}
use Rattle.trace_file.specs.Lent.{act_shown, call_shown}
use Rattle.trace_file.proofs.public_laws.StoreLaws.{act_again, call_in-new}
use Rattle.trace_file.proofs.stored_call.StoredCall.of.Goals as goal

pub returns-clause-call : goal.returns-clause-call
returns-clause-call c = λ store at.
    call_in-new store c.args.call.now.key.now (value_of (act_shown c.args.call.now.act)) _ (call_shown c.args.call.now) at refl (ap length c.value-value.ensures) refl refl refl refl (ap (act_of c.kind.result (value_of (act_shown c.args.call.now.act))) c.time.ensures.time ∙ ap (λ k. act_of k (value_of (act_shown c.args.call.now.act)) (time_of (act_shown c.args.call.now.act))) c.kind.ensures ∙ act_again (act_shown c.args.call.now.act))
