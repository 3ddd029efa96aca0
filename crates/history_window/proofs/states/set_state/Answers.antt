-- What the map has after the change, read at a key of the same bytes.
use Rattle.std.proofs.Common.{◌≡◌, ℕ, Bool, true, false, cond, Option, Some, List, arith, ap, refl, ◌∙◌}
use Rattle.std.proofs.lemmas.Grind.{common_steps}
use Rattle.std.specs.HashMap.{get_by}
use Rattle.std.specs.Option.{option_map_or}
use Rattle.std.specs.Str.{bytes_eq}
use Rattle.history_window.specs.declared.key_state.KeyState.{KeyState}
use Rattle.trace_file.specs.declared.lent_word.LentWord.{LentWord}
use Rattle.history_window.specs.States.{no_state}
use Rattle.history_window.proofs.states.set_state.Goals as goal

lent : List ℕ → LentWord
lent key = record { bytes = record { ref_ptr = (0, 0); now = key } }

chosen : (b : Bool) (state : KeyState) (old : Option KeyState) → option_map_or (λ (s : KeyState). s) (cond b (Some state) old) no_state ≡ cond b state (option_map_or (λ (s : KeyState). s) old no_state)
chosen true state old = refl
chosen false state old = refl

pub returns : goal.returns
unfolding lent
returns g c = λ key.
    let change : get_by (λ (k : LentWord). bytes_eq key k.bytes.now) c.insert.new.self ≡ cond (bytes_eq c.args.call.now.key.now key) (Some c.args.state) (get_by (λ (k : LentWord). bytes_eq key k.bytes.now) c.args.states.now) = grind (arith, common_steps, c.in_ok-insert.ensures.updates.0 (lent key)) in
    ap (λ o. option_map_or (λ (s : KeyState). s) o no_state) change ∙ chosen (bytes_eq c.args.call.now.key.now key) c.args.state (get_by (λ (k : LentWord). bytes_eq key k.bytes.now) c.args.states.now)
