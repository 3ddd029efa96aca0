-- What a command does about the item that it saw.
use Rattle.std.specs.Prelude.{◌++◌}
use Rattle.item_lane.specs.declared.command_reply.CommandReply.{CommandReply}
use Rattle.item_lane.specs.declared.command_verdict.ItemParts.{ItemParts}
use Rattle.item_lane.specs.declared.command_verdict.CommandVerdict.{CommandVerdict}
use Rattle.item_lane.specs.declared.command_verdict.CommandVerdict.TheVariants as verdicts
use Rattle.item_lane.specs.Cells.{Kept}

-- it keeps what is there; or it stores an item, in place of what is there; or it removes the key. Each with its reply.
pub data Plan : Type 0 where
  Keep : CommandReply → Plan
  Store : Kept → CommandReply → Plan
  Remove : CommandReply → Plan

-- the item whose data are these parts
abbrev pub parts_shown : ItemParts → Kept
parts_shown p = record { head = p.head; bytes = p.front.now ++ p.back.now }

-- the plan that a verdict shows
abbrev pub plan_shown : CommandVerdict → Plan
plan_shown (verdicts.Keep reply) = Keep reply
plan_shown (verdicts.Store parts reply) = Store (parts_shown parts) reply
plan_shown (verdicts.Remove reply) = Remove reply
