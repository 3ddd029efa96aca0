-- A get, a plan for its live item, and the plan that was followed are a command.
use Rattle.std.proofs.Common.{◌≡◌, ℕ, List, Bool, Option, Result, ap, subst, ◌∙◌}
use Rattle.std.specs.Option.{option_map}
use Rattle.record_pages.specs.declared.put_fault.PutFault.{PutFault}
use Rattle.mover.specs.declared.answer_kind.AnswerKind.{AnswerKind}
use Rattle.mover.specs.Get.{answer_of}
use Rattle.service_lane.specs.Serving.{Serving, Gets}
use Rattle.item_lane.specs.declared.cache_item.CacheItem.{CacheItem}
use Rattle.item_lane.specs.declared.command_reply.CommandReply.{CommandReply}
use Rattle.item_lane.specs.declared.command_turn.CommandTurn.{CommandTurn}
use Rattle.item_lane.specs.Cells.{Kept, kept_shown}
use Rattle.item_lane.specs.Live.{live_in}
use Rattle.item_lane.specs.Plans.{Plan}
use Rattle.item_lane.specs.Doing.{Does, DoesAndGives, Follows}

module _ {D : Type 0} (size : ℕ) (honest : D → Bool) (failures : D → ℕ) (held : D → ℕ → Option (List ℕ)) (key : List ℕ) (turn : CommandTurn) (plan_for : Option Kept → Plan) (old between new : Serving D) (seen : AnswerKind) (found bytes : List ℕ) (bytes_are : bytes ≡ found)
    (gets : Gets size honest failures held key turn.moment (answer_of seen found) old between) (item : Option CacheItem) (item_is : option_map kept_shown item ≡ live_in turn.flushed (answer_of seen bytes)) (plan : Plan) (plan_is : plan ≡ plan_for (option_map kept_shown item)) (result : Result CommandReply PutFault)
    (follows : Follows size held key turn.word plan between result new) where
  live_is : option_map kept_shown item ≡ live_in turn.flushed (answer_of seen found)
  live_is = item_is ∙ ap (λ (b : List ℕ). live_in turn.flushed (answer_of seen b)) bytes_are

  followed : Follows size held key turn.word (plan_for (live_in turn.flushed (answer_of seen found))) between result new
  followed = subst (λ (p : Plan). Follows size held key turn.word p between result new) (plan_is ∙ ap plan_for live_is) follows

  pub done : Does size honest failures held key turn plan_for old result new
  done = record { answer = answer_of seen found; between = between; gets = gets; follows = followed }

  pub done_and_given : DoesAndGives size honest failures held key turn plan_for old item result new
  done_and_given = record { answer = answer_of seen found; between = between; gets = gets; item_is = live_is; follows = followed }
