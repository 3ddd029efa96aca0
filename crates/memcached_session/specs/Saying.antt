-- What a step answers, and how it went.
use Rattle.std.specs.Prelude.{ℕ, Bool, List, [], if◌then◌else◌, Option, Some, None, Result, Ok, Err}
use Rattle.std.specs.Fmt.{decimal}
use Rattle.record_pages.specs.declared.put_fault.PutFault.{PutFault}
use Rattle.record_pages.specs.declared.put_fault.PutFault.TheVariants as faults
use Rattle.memcached_text.specs.declared.fixed_reply.FixedReply.TheVariants as replies
use Rattle.memcached_text.specs.Texts.{reply_text}
use Rattle.memcached_text.specs.Answers.{answer_text, line_text, value_text}
use Rattle.item_lane.specs.declared.command_reply.CommandReply.{CommandReply}
use Rattle.item_lane.specs.declared.command_reply.CommandReply.TheVariants as reply
use Rattle.item_lane.specs.Cells.{Kept}
use Rattle.memcached_session.specs.declared.answered.Answered.{Answered}
use Rattle.memcached_session.specs.declared.answered.SessionAnswer.{SessionAnswer}
use Rattle.memcached_session.specs.declared.answered.SessionAnswer.TheVariants as answers
use Rattle.memcached_session.specs.Unserving.{unserved_text}
use Rattle.memcached_session.specs.declared.outcome.SessionOutcome.{SessionOutcome}
use Rattle.memcached_session.specs.declared.outcome.SessionOutcome.TheVariants as outcomes

-- the bytes of an answer, none if none is wanted, and how it went
pub record Said : Type 0 where
  pub text : List ℕ
  pub outcome : SessionOutcome

abbrev pub said : List ℕ → SessionOutcome → Said
said text outcome = record { text = text; outcome = outcome }

-- no answer
abbrev pub silent : SessionOutcome → Said
silent outcome = said [] outcome

-- an answer, unless the client wants none
abbrev pub unless_quiet : Bool → List ℕ → SessionOutcome → Said
unless_quiet noreply text outcome = if noreply then silent outcome else said text outcome

-- the bytes of an answer, if there is one
abbrev pub text_of : Option SessionAnswer → List ℕ
text_of None = []
text_of (Some (answers.Text answer)) = answer_text answer
text_of (Some (answers.Unserved unserved)) = unserved_text unserved

abbrev pub said_shown : Answered → Said
said_shown a = said (text_of a.answer) a.outcome

-- the bytes of a classic command's reply, which is neither of a mark nor of what is told of an item
abbrev pub text_of_reply : Result CommandReply PutFault → List ℕ
text_of_reply (Ok reply.Stored) = line_text (reply_text replies.Stored)
text_of_reply (Ok reply.NotStored) = line_text (reply_text replies.NotStored)
text_of_reply (Ok reply.Exists) = line_text (reply_text replies.Exists)
text_of_reply (Ok reply.NotFound) = line_text (reply_text replies.NotFound)
text_of_reply (Ok reply.Deleted) = line_text (reply_text replies.Deleted)
text_of_reply (Ok reply.Touched) = line_text (reply_text replies.Touched)
text_of_reply (Ok (reply.Number number)) = line_text (decimal number)
text_of_reply (Ok reply.Invalidated) = line_text (reply_text replies.Deleted)
text_of_reply (Ok (reply.Found marks)) = line_text (reply_text replies.Ok)
text_of_reply (Ok reply.NotNumber) = line_text (reply_text replies.NotNumber)
text_of_reply (Err faults.TooLarge) = line_text (reply_text replies.TooLarge)
text_of_reply (Err faults.OutOfMemory) = line_text (reply_text replies.OutOfMemory)

-- how a command went
abbrev pub outcome_of_reply : Result CommandReply PutFault → SessionOutcome
outcome_of_reply (Ok reply.Stored) = outcomes.Stored
outcome_of_reply (Ok reply.NotStored) = outcomes.NotStored
outcome_of_reply (Ok reply.Exists) = outcomes.Exists
outcome_of_reply (Ok reply.NotFound) = outcomes.Miss
outcome_of_reply (Ok reply.Deleted) = outcomes.Deleted
outcome_of_reply (Ok reply.Touched) = outcomes.Touched
outcome_of_reply (Ok (reply.Number number)) = outcomes.Counted
outcome_of_reply (Ok reply.Invalidated) = outcomes.Deleted
outcome_of_reply (Ok (reply.Found marks)) = outcomes.Hit
outcome_of_reply (Ok reply.NotNumber) = outcomes.NotNumber
outcome_of_reply (Err faults.TooLarge) = outcomes.TooLarge
outcome_of_reply (Err faults.OutOfMemory) = outcomes.NoMemory

-- what is answered to a command that replied this
abbrev pub said_of_reply : Bool → Result CommandReply PutFault → Said
said_of_reply noreply result = unless_quiet noreply (text_of_reply result) (outcome_of_reply result)

-- what is answered to one key of a get that found this item, or none
abbrev pub said_of_item : List ℕ → Bool → Option Kept → Said
said_of_item key with_cas None = silent outcomes.Miss
said_of_item key with_cas (Some kept) = said (value_text key kept.head.flags (if with_cas then Some kept.head.cas else None) kept.bytes) outcomes.Hit
