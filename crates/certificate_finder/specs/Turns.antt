-- Calls in turn: each hit after the put that it reads, before any other write of its key.
use Rattle.std.specs.Prelude.{◌≡◌, ℕ, ◌<◌, ◌≤◌, List, slice_get, Some, IsTrue}
use Rattle.std.specs.Option.{option_map_or}
use Rattle.record_pages.specs.Expiry.{is_live}
use Rattle.trace_file.specs.declared.act.Act.TheVariants.{Put, Hit}
use Rattle.trace_file.specs.declared.call.Call.{Call}
use Rattle.certificate_checker.specs.Deeds.{deed_of}
use Rattle.certificate_checker.specs.Latest.{Writes}

-- the call at a position is a put of this value at this key, live at this moment
pub record Gives (history : List Call) (position : ℕ) (key value : List ℕ) (moment : ℕ) : Type 0 where
  pub call : Call
  pub expires : ℕ
  pub at : slice_get history position ≡ Some call
  pub one_key : call.key ≡ key
  pub is : call.act ≡ Put value expires
  pub live : IsTrue (is_live expires moment)

-- the call at a position is a hit
pub record IsHit (history : List Call) (position : ℕ) (key value : List ℕ) (moment : ℕ) : Type 0 where
  pub call : Call
  pub at : slice_get history position ≡ Some call
  pub one_key : call.key ≡ key
  pub is : call.act ≡ Hit value moment

-- the call at a position writes the key
pub record WritesAt (history : List Call) (position : ℕ) (key : List ℕ) : Type 0 where
  pub call : Call
  pub at : slice_get history position ≡ Some call
  pub writes : Writes (deed_of call) key

-- the calls of a history have ranks by which each hit comes after its owner, a put that gives it its value, and no other write of the key comes between
pub record AreTurns (history : List Call) (owner rank : ℕ → ℕ) : Type 0 where
  pub given : (hit : ℕ) (key value : List ℕ) (moment : ℕ) → IsHit history hit key value moment → Gives history (owner hit) key value moment
  pub behind : (hit : ℕ) (key value : List ℕ) (moment : ℕ) → IsHit history hit key value moment → rank (owner hit) < rank hit
  pub alone : (hit write : ℕ) (key value : List ℕ) (moment : ℕ) → IsHit history hit key value moment → WritesAt history write key → rank (owner hit) ≤ rank write → rank write ≤ rank hit → write ≡ owner hit

-- the stamp at which the call at a position started, and that at which it ended
abbrev pub start_at : List Call → ℕ → ℕ
start_at history position = option_map_or (λ call. call.start) (slice_get history position) 0

abbrev pub end_at : List Call → ℕ → ℕ
end_at history position = option_map_or (λ call. call.end) (slice_get history position) 0
