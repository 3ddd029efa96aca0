-- What a command of a lane saw, and what it made of that.
use Rattle.std.specs.Prelude.{◌≡◌, ◌+◌, ◌%◌, ◌^◌, ℕ, List, Bool, Option, Some, Result, Ok, IfOk}
use Rattle.record_pages.specs.declared.answer.Answer.{Answer}
use Rattle.record_pages.specs.declared.put_fault.PutFault.{PutFault}
use Rattle.service_lane.specs.Serving.{Serving, Gets}
use Rattle.item_lane.specs.declared.command_reply.CommandReply.{CommandReply}
use Rattle.item_lane.specs.declared.command_reply.CommandReply.TheVariants.{NotStored, Number}
use Rattle.item_lane.specs.declared.command_turn.CommandTurn.{CommandTurn}
use Rattle.item_lane.specs.Cells.{Kept}
use Rattle.item_lane.specs.Live.{live_in}
use Rattle.item_lane.specs.Numbers.{number_in}

-- The lane answered a get of the key, and this is the live item of that answer, if it has one.
pub record Sees {D : Type 0} (size : ℕ) (honest : D → Bool) (failures : D → ℕ) (held : D → ℕ → Option (List ℕ)) (key : List ℕ) (turn : CommandTurn) (old : Serving D) (live : Option Kept) (seen : Serving D) : Type 0 where
  pub answer : Answer
  pub gets : Gets size honest failures held key turn.moment answer old seen
  pub live_is : live ≡ live_in turn.flushed answer

-- If a live item was seen that holds a number, the reply is the sum of that number and this amount, modulo 2^64, or a refusal.
pub record RepliesSum {D : Type 0} (size : ℕ) (honest : D → Bool) (failures : D → ℕ) (held : D → ℕ → Option (List ℕ)) (key : List ℕ) (turn : CommandTurn) (amount : ℕ) (old : Serving D) (result : Result CommandReply PutFault) : Type 0 where
  pub live : Option Kept
  pub seen : Serving D
  pub sees : Sees size honest failures held key turn old live seen
  pub sum : (item : Kept) → live ≡ Some item → (n : ℕ) → number_in item.bytes ≡ Some n → IfOk result (λ reply. reply ≡ Number ((n + amount) % 2 ^ 64))

-- If a live item was seen, nothing is stored, and the lane is as the look-up left it.
pub record KeepsLive {D : Type 0} (size : ℕ) (honest : D → Bool) (failures : D → ℕ) (held : D → ℕ → Option (List ℕ)) (key : List ℕ) (turn : CommandTurn) (old : Serving D) (result : Result CommandReply PutFault) (new : Serving D) : Type 0 where
  pub live : Option Kept
  pub seen : Serving D
  pub sees : Sees size honest failures held key turn old live seen
  pub kept : (item : Kept) → live ≡ Some item → (result ≡ Ok NotStored) × (new ≡ seen)
