use Rattle.std.proofs.Common.{◌≡◌, ◌-◌, ◌<◌, Some, length, refl, ap, ◌∙◌, subst, arith}
use Rattle.std.specs.Prelude.{slice_get}
use Rattle.certificate_finder.specs.declared.ranked.Ranked.{Ranked}
use Rattle.certificate_finder.proofs.Listing.{all_at, same_at}
use Rattle.certificate_finder.proofs.SpotLemmas.{ranked_of}
use Rattle.certificate_finder.proofs.line.point_at.Goals as goal

pub item_at-step-requires : goal.item_at-step-requires
item_at-step-requires c = all_at (λ (r : Ranked). r.position < length c.args.steps.now) c.args.line.now c.args.place c.item_at-turn.result c.requires.positions c.item_at-turn.ensures

pub item_at-before-requires : goal.item_at-before-requires
item_at-before-requires c = all_at (λ (r : Ranked). r.position < length c.args.steps.now) c.args.line.now (c.args.place - 1) c.item_at-earlier.result c.requires.positions c.item_at-earlier.ensures

pub returns-then-place-eq0 : goal.returns-then-place-eq0
returns-then-place-eq0 c = let none = c.if-place-eq0.true in record {
  turn = c.item_at-turn.result;
  step = c.item_at-step.result;
  before = c.item_at-step.result;
  at = c.item_at-turn.ensures;
  step_at = c.item_at-step.ensures;
  first = λ e. refl;
  later = λ q some at. absurd (omega arith);
  chosen = c.next_point.ensures;
}

pub returns : goal.returns
returns c = let some' = c.if-place-eq0.false in record {
  turn = c.item_at-turn.result;
  step = c.item_at-step.result;
  before = c.item_at-before.result;
  at = c.item_at-turn.ensures;
  step_at = c.item_at-step.ensures;
  first = λ e. absurd (omega arith);
  later = λ q some at.
      let r = ranked_of c.args.line.now (c.args.place - 1) q at in
      let same = same_at c.args.line.now (c.args.place - 1) (c.args.place - 1) c.item_at-earlier.result r.0 refl c.item_at-earlier.ensures r.1 in
      subst (λ p. slice_get c.args.steps.now p ≡ Some c.item_at-before.result) (ap (λ (r : Ranked). r.position) same ∙ r.2) c.item_at-before.ensures;
  chosen = c.next_point-2.ensures;
}
