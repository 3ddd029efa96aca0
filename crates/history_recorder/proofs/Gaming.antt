-- One lane of a game takes a step.
use Rattle.std.proofs.Common.{◌≡◌, ◌<◌, ℕ, Bool, List, length, get_or, set, map, Some, sym, ap, ◌∙◌, subst, arith}
use Rattle.std.specs.Prelude.{All, IsTrue, slice_get, option_map}
use Rattle.std.specs.Global.{Box}
use Rattle.std.specs.Box.{box_value}
use Rattle.std.proofs.lemmas.List.{map-set, length-map, get_or-map}
use Rattle.std.proofs.lemmas.Option.{slice_get-get_or, slice_get-map}
use Rattle.record_pages.specs.declared.layout.Layout.{Layout}
use Rattle.mover.specs.Lane.{LaneState}
use Rattle.history_recorder.specs.World.{OneSteps}
use Rattle.history_recorder.specs.Game.{AreHonest, unboxed}

module _ {L : Type 0} (boxes : List (Box L)) (i : ℕ) (b : Box L) (within : i < length boxes) (is : b ≡ get_or boxes i b) where
  -- the lane in the box
  pub here : slice_get (unboxed boxes) i ≡ Some (box_value b)
  here =
      let lengths = length-map boxes (λ (x : Box L). box_value x) in
      let e = slice_get-get_or (unboxed boxes) i (box_value b) (omega arith) in
      e ∙ ap Some (get_or-map (λ (x : Box L). box_value x) boxes i b (box_value b) within ∙ ap (λ (x : Box L). box_value x) (sym is))

  -- what is so of all lanes is so of it
  pub so_here : (P : L → Type 0) → All P (unboxed boxes) → P (box_value b)
  so_here P h =
      let lengths = length-map boxes (λ (x : Box L). box_value x) in
      subst P (get_or-map (λ (x : Box L). box_value x) boxes i b (box_value b) within ∙ ap (λ (x : Box L). box_value x) (sym is)) (h i (box_value b) (omega arith))

  -- its step is a step of one lane
  pub steps_here : (state : L → LaneState) (honest : L → Bool) (layout_of : L → Layout) (layout : Layout) (was : L) (after : Box L) (R : Layout → LaneState → LaneState → Type 0) → was ≡ box_value b → All (λ l. layout_of l ≡ layout) (unboxed boxes) → (IsTrue (honest was) → R (layout_of was) (state was) (state (box_value after))) → AreHonest honest (unboxed boxes) → OneSteps i (R layout) (map state (unboxed boxes)) (map state (unboxed (set boxes i after)))
  steps_here state honest layout_of layout was after R same layouts step honests = record {
    was = state (box_value b);
    is = state (box_value after);
    before = slice_get-map state (unboxed boxes) i ∙ ap (option_map state) here;
    step = subst (λ l. R l (state (box_value b)) (state (box_value after))) (so_here (λ l. layout_of l ≡ layout) layouts) (subst (λ w. R (layout_of w) (state w) (state (box_value after))) same (step (subst (λ w. IsTrue (honest w)) (sym same) (so_here (λ l. IsTrue (honest l)) honests))));
    after = ap (map state) (map-set (λ (x : Box L). box_value x) boxes i after) ∙ map-set state (unboxed boxes) i (box_value after);
  }
