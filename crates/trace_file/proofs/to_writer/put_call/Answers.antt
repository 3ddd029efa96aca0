use Rattle.std.proofs.Common.{◌≡◌, ◌++◌, ◌∷◌, [], ℕ, length, ap, ◌∙◌}
use Rattle.std.specs.Int.{w16, w64, to_be_bytes}
use Rattle.trace_file.specs.declared.version.Version.TheVariants.{Timed}
use Rattle.trace_file.specs.Calls.{value_of, time_of}
use Rattle.trace_file.specs.Lent.{act_shown}
use Rattle.trace_file.specs.Stored.{act_of}
use Rattle.trace_file.specs.Text.{kind_byte, act_text, call_text}
use Rattle.trace_file.proofs.public_laws.SendLaws.{joined}
use Rattle.trace_file.proofs.public_laws.StoreLaws.{act_again}
use Rattle.trace_file.proofs.to_writer.put_call.Goals as goal

pub returns : goal.returns
unfolding call_text
returns c =
    let call = c.args.call.now in
    let act = act_shown call.act in
    let kind : c.byte.result ≡ kind_byte act = c.byte.ensures (value_of act) (time_of act) ∙ ap (λ k. kind_byte (act_of k (value_of act) (time_of act))) c.kind.ensures ∙ ap kind_byte (act_again act) in
    let first : c.push.new.self ≡ c.args.buffer.now ++ (kind_byte act ∷ []) = c.push.ensures ∙ ap (λ (k : ℕ). c.args.buffer.now ++ (k ∷ [])) kind in
    joined c.args.buffer.now c.push.new.self c.push-2.new.self c.push-3.new.self c.push-4.new.self c.push-5.new.self c.push-6.new.self c.put_act.new.buffer
    (kind_byte act ∷ []) (to_be_bytes w16 call.caller) (to_be_bytes w64 call.start) (to_be_bytes w64 call.end) (length call.key.now ∷ []) call.key.now (act_text Timed act)
    first (rw c.to_be_bytes.ensures at c.push-2.ensures) (rw c.to_be_bytes-2.ensures at c.push-3.ensures) (rw c.to_be_bytes-3.ensures at c.push-4.ensures) c.push-5.ensures c.push-6.ensures c.put_act.ensures
