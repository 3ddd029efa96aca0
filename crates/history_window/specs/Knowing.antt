-- What the numbers that are known of a key say.
use Rattle.std.specs.Prelude.{◌≡◌, ℕ, ◌<◌, ◌≤◌, ◌⊎◌, Bool, true, false, List, length}
use Rattle.trace_file.specs.declared.call.Call.{Call}
use Rattle.certificate_finder.specs.Turns.{WritesAt, end_at, start_at}
use Rattle.history_window.specs.declared.key_state.KeyState.{KeyState}
use Rattle.history_window.specs.States.{no_state}

-- a number is the greatest measure of what is wanted below a position, 0 if nothing is
pub record IsTop (wanted : ℕ → Type 0) (measure : ℕ → ℕ) (upto top : ℕ) : Type 0 where
  pub most : (p : ℕ) → p < upto → wanted p → measure p ≤ top
  pub is : (top ≡ 0) ⊎ ((p : ℕ) × wanted p × (measure p ≡ top))

-- whether something is wanted below a position
pub record IsFlag (wanted : ℕ → Type 0) (upto : ℕ) (flag : Bool) : Type 0 where
  pub sound : flag ≡ true → (p : ℕ) × wanted p
  pub complete : (p : ℕ) → p < upto → wanted p → flag ≡ true

-- a write of the key that ends at a stamp or later
pub record IsLastBy (history : List Call) (key : List ℕ) (start p : ℕ) : Type 0 where
  pub writes : WritesAt history p key
  pub enough : start ≤ end_at history p

-- two such writes that did not do the same
pub record Differ (history : List Call) (key : List ℕ) (start : ℕ) : Type 0 where
  pub one : ℕ
  pub other : ℕ
  pub first : IsLastBy history key start one
  pub second : IsLastBy history key start other
  pub apart : ¬ (first.writes.call.act ≡ second.writes.call.act)

-- the greatest start and the greatest end of a key's writes are known
pub record FirstKnown (history : List Call) (upto : ℕ) (key : List ℕ) (state : KeyState) : Type 0 where
  pub start : IsTop (λ p. WritesAt history p key) (start_at history) upto state.start
  pub end : IsTop (λ p. WritesAt history p key) (end_at history) upto state.end
  pub rest : state ≡ record no_state { start = state.start; end = state.end }

-- and whether its last writes did the same
pub record SecondKnown (history : List Call) (upto : ℕ) (key : List ℕ) (state : KeyState) : Type 0 where
  pub start : IsTop (λ p. WritesAt history p key) (start_at history) (length history) state.start
  pub end : IsTop (λ p. WritesAt history p key) (end_at history) (length history) state.end
  pub known : IsFlag (IsLastBy history key state.start) upto state.known
  pub latest : state.known ≡ true → IsLastBy history key state.start state.latest
  pub differ : state.unlike ≡ true → Differ history key state.start
  pub same : state.unlike ≡ false → (p : ℕ) (one : IsLastBy history key state.start p) (other : IsLastBy history key state.start state.latest) → p < upto → one.writes.call.act ≡ other.writes.call.act
