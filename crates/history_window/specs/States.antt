-- What is known of a key, call by call.
use Rattle.std.specs.Prelude.{◌≡◌, ℕ, max, Bool, true, false, ◌&&◌, ◌||◌, not, ◌==◌, nat_lt, List, slice_get, if◌then◌else◌}
use Rattle.std.specs.HashMap.{get_by, HashMap}
use Rattle.std.specs.Option.{option_map_or}
use Rattle.std.specs.Str.{bytes_eq}
use Rattle.trace_file.specs.declared.act.Act.{Act}
use Rattle.trace_file.specs.declared.act.Act.TheVariants.{Put, Remove, Hit, Miss}
use Rattle.trace_file.specs.declared.call.Call.{Call}
use Rattle.history_window.specs.declared.key_state.KeyState.{KeyState}
use Rattle.trace_file.specs.declared.lent_word.LentWord.{LentWord}
use Rattle.history_window.specs.Acts.{is_reading}

-- what is known of a key that no call was made for
abbrev pub no_state : KeyState
no_state = record {
  start = 0;
  end = 0;
  known = false;
  latest = 0;
  unlike = false;
}

-- what the map has for a key, by the key's bytes, whatever hasher it has
abbrev pub state_at : {S : Type 0} → HashMap LentWord KeyState S → List ℕ → KeyState
state_at states key = option_map_or (λ state. state) (get_by (λ k. bytes_eq key k.bytes.now) states) no_state

-- with a write
abbrev pub after_first : KeyState → Call → KeyState
after_first state call = record state { start = max state.start call.start; end = max state.end call.end }

-- with a write at a position, by the greatest start of all: only last writes count
abbrev pub after_second : KeyState → ℕ → Call → Bool → KeyState
after_second state position call unlike = if nat_lt call.end state.start then state else record state { known = true; latest = position; unlike = state.unlike || unlike }

-- whether the key is settled
abbrev pub is_settled_by : KeyState → ℕ → Bool
is_settled_by state bound = nat_lt state.end bound && not state.unlike

-- whether two acts write the same
abbrev pub acts_match : Act → Act → Bool
acts_match (Put value expires) (Put bytes till) = bytes_eq value bytes && (expires == till)
acts_match (Put value expires) Remove = false
acts_match (Put value expires) (Hit bytes moment) = false
acts_match (Put value expires) Miss = false
acts_match Remove (Put bytes till) = false
acts_match Remove Remove = true
acts_match Remove (Hit bytes moment) = false
acts_match Remove Miss = false
acts_match (Hit value moment) other = false
acts_match Miss other = false

-- whether a call does not do what the latest of the last writes did
abbrev pub unlike_by : List Call → KeyState → Call → Bool
unlike_by history state call = state.known && option_map_or (λ (latest : Call). not (acts_match latest.act call.act)) (slice_get history state.latest) false

-- if a test holds, what is known of a call's key has become this; all else is as it was
abbrev pub Changes : Bool → Call → KeyState → (List ℕ → KeyState) → (List ℕ → KeyState) → Type 0
Changes test call state old new = (key : List ℕ) → new key ≡ (if test && bytes_eq call.key key then state else old key)

-- by what is known of its key, a call is a settled hit
abbrev pub settles : KeyState → ℕ → Call → Bool
settles state bound call = is_reading call.act && (nat_lt call.end bound && is_settled_by state bound)
