-- What an increment and an add made of the live item that they saw.
use Rattle.std.proofs.Common.{◌≡◌, ℕ, ◌+◌, ◌%◌, ◌^◌, Bool, List, Option, Some, None, Result, Ok, Err, subst, refl}
use Rattle.std.specs.Prelude.{IfOk}
use Rattle.record_pages.specs.declared.put_fault.PutFault.{PutFault}
use Rattle.service_lane.specs.Serving.{Serving}
use Rattle.item_lane.specs.declared.change.Change.TheVariants.{Increment}
use Rattle.item_lane.specs.declared.command_reply.CommandReply.{CommandReply}
use Rattle.item_lane.specs.declared.command_reply.CommandReply.TheVariants.{Number}
use Rattle.item_lane.specs.declared.command_turn.CommandTurn.{CommandTurn}
use Rattle.item_lane.specs.declared.condition.StoreMode.TheVariants.{Add}
use Rattle.item_lane.specs.declared.counting.Delta.{Delta}
use Rattle.item_lane.specs.Cells.{Kept}
use Rattle.item_lane.specs.Choosing.{delta_plan, number_plan, store_plan}
use Rattle.item_lane.specs.Doing.{Does, Follows}
use Rattle.item_lane.specs.Live.{live_in}
use Rattle.item_lane.specs.Plans.{Plan}
use Rattle.service_tests.specs.Seen.{KeepsLive, RepliesSum}

module _ {D : Type 0} (size : ℕ) (honest : D → Bool) (failures : D → ℕ) (held : D → ℕ → Option (List ℕ)) (key : List ℕ) (turn : CommandTurn) (old new : Serving D) where
  -- what was followed where an item was seen
  followed : (plan_for : Option Kept → Plan) (result : Result CommandReply PutFault) (did : Does size honest failures held key turn plan_for old result new) (item : Kept) → live_in turn.flushed did.answer ≡ Some item → Follows size held key turn.word (plan_for (Some item)) did.between result new
  followed plan_for result did item live = subst (λ (l : Option Kept). Follows size held key turn.word (plan_for l) did.between result new) live did.follows

  replied : (amount cas n : ℕ) (item : Kept) (between : Serving D) (result : Result CommandReply PutFault) → Follows size held key turn.word (number_plan (record { change = Increment amount; cas = cas; compare = None }) item (Some n)) between result new → IfOk result (λ reply. reply ≡ Number ((n + amount) % 2 ^ 64))
  replied amount cas n item between (Ok reply) follows = follows.0
  replied amount cas n item between (Err fault) follows = tt

  pub sum_replied : (amount cas : ℕ) (result : Result CommandReply PutFault) → Does size honest failures held key turn (delta_plan (record { change = Increment amount; cas = cas; compare = None })) old result new → RepliesSum size honest failures held key turn amount old result
  sum_replied amount cas result did =
      let delta : Delta = record { change = Increment amount; cas = cas; compare = None } in
      record {
        live = live_in turn.flushed did.answer;
        seen = did.between;
        sees = record { answer = did.answer; gets = did.gets; live_is = refl };
        sum = λ item live n holds.
            replied amount cas n item did.between result
            (subst (λ (o : Option ℕ). Follows size held key turn.word (number_plan delta item o) did.between result new) holds (followed (delta_plan delta) result did item live));
      }

  pub live_kept : (compare : Option ℕ) (given : Kept) (result : Result CommandReply PutFault) → Does size honest failures held key turn (store_plan (record { mode = Add; compare = compare }) given) old result new → KeepsLive size honest failures held key turn old result new
  live_kept compare given result did = record {
    live = live_in turn.flushed did.answer;
    seen = did.between;
    sees = record { answer = did.answer; gets = did.gets; live_is = refl };
    kept = λ item live. followed (store_plan (record { mode = Add; compare = compare }) given) result did item live;
  }
