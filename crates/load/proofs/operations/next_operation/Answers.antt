use Rattle.std.proofs.Common.{sym, ap, ap₂, ◌∙◌}
use Rattle.history_recorder.specs.declared.operation.Operation.TheVariants.{Put, Remove}
use Rattle.load.specs.Operations.{Drawn, key_of, value_of}
use Rattle.load.proofs.Drawing.{removes, puts}
use Rattle.load.proofs.operations.next_operation.Goals as goal

pub returns-in_err-value-clause-generator : goal.returns-in_err-value-clause-generator
returns-in_err-value-clause-generator c =
    sym (ap (λ (d : Drawn). d.generator) (puts c.args.load.now c.args.caller c.args.number c.args.generator.now c.next_word-kind.new.self c.next_word-word.new.self c.next_word-kind.result c.next_word-word.result c.next_word-kind.ensures c.next_word-word.ensures c.next_word-admission.result c.next_word-admission.new.self c.next_word-admission.ensures c.if-kind-load.false c.if-kind-load-2.false))

pub returns-in_ok-key-2-clause-operation : goal.returns-in_ok-key-2-clause-operation
returns-in_ok-key-2-clause-operation c =
    ap Remove c.in_ok-key-2.ensures ∙ sym (ap (λ (d : Drawn). d.operation) (removes c.args.load.now c.args.caller c.args.number c.args.generator.now c.next_word-kind.new.self c.next_word-word.new.self c.next_word-kind.result c.next_word-word.result c.next_word-kind.ensures c.next_word-word.ensures c.if-kind-load.false c.if-kind-load-2.true))

pub returns-in_ok-key-2-clause-generator : goal.returns-in_ok-key-2-clause-generator
returns-in_ok-key-2-clause-generator c =
    sym (ap (λ (d : Drawn). d.generator) (removes c.args.load.now c.args.caller c.args.number c.args.generator.now c.next_word-kind.new.self c.next_word-word.new.self c.next_word-kind.result c.next_word-word.result c.next_word-kind.ensures c.next_word-word.ensures c.if-kind-load.false c.if-kind-load-2.true))

pub returns-in_ok-value-clause-operation : goal.returns-in_ok-value-clause-operation
returns-in_ok-value-clause-operation c =
    ap₂ (λ key value. Put key value c.next_word-admission.result c.expires_of.result) c.in_ok-key-3.ensures c.in_ok-value.ensures ∙ ap (λ expires. Put (key_of c.args.load.now c.next_word-word.result) (value_of c.args.load.now c.args.caller c.args.number) c.next_word-admission.result expires) c.expires_of.ensures ∙ sym (ap (λ (d : Drawn). d.operation) (puts c.args.load.now c.args.caller c.args.number c.args.generator.now c.next_word-kind.new.self c.next_word-word.new.self c.next_word-kind.result c.next_word-word.result c.next_word-kind.ensures c.next_word-word.ensures c.next_word-admission.result c.next_word-admission.new.self c.next_word-admission.ensures c.if-kind-load.false c.if-kind-load-2.false))

pub returns-in_ok-value-clause-generator : goal.returns-in_ok-value-clause-generator
returns-in_ok-value-clause-generator c =
    sym (ap (λ (d : Drawn). d.generator) (puts c.args.load.now c.args.caller c.args.number c.args.generator.now c.next_word-kind.new.self c.next_word-word.new.self c.next_word-kind.result c.next_word-word.result c.next_word-kind.ensures c.next_word-word.ensures c.next_word-admission.result c.next_word-admission.new.self c.next_word-admission.ensures c.if-kind-load.false c.if-kind-load-2.false))
