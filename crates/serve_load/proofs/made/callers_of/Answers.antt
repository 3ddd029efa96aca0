-- One caller more.
use Rattle.std.proofs.Common.{rules, ◌++◌, ◌∷◌, []}
use Rattle.std.proofs.lemmas.List.Elements.{All-push, All-same}
use Rattle.serve_load.specs.Calls.{IsOneOf}
use Rattle.serve_load.proofs.Adding.{one_more_number}
use Rattle.serve_load.proofs.made.callers_of.Goals as goal

pub loop-number-preserved : goal.loop-number-preserved
loop-number-preserved g c =
    let i = c.loop-number.invariant in
    let x = c.in_ok-new.field-0 in
    let e = c.in_ok-push.ensures.items in (
      one_more_number (λ k. k.number) c.loop-number.callers.items c.push.new.self.items x c.loop-number.number i.0 c.in_ok-new.ensures.number e,
      All-same (λ k. IsOneOf c.args.load.now k.number k.generator k.words.items k.seat) c.push.new.self.items (c.loop-number.callers.items ++ x ∷ []) e (All-push (λ k. IsOneOf c.args.load.now k.number k.generator k.words.items k.seat) c.loop-number.callers.items x i.1 c.in_ok-new.ensures.begun),
    )
