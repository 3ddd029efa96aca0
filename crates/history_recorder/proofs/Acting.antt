-- The books after an act, by what its lane noted.
use Rattle.std.proofs.Common.{◌≡◌, ◌+◌, ℕ, List, length, Option, Some, None, sym, ap, ◌∙◌, refl, subst, set-set}
use Rattle.std.specs.Prelude.{slice_set, slice_index_or}
use Rattle.std.proofs.lemmas.Option.{get_or_from_slice_get}
use Rattle.record_pages.specs.declared.layout.Layout.{Layout}
use Rattle.trace_file.specs.declared.act.Act.{Act}
use Rattle.history_recorder.specs.declared.open_call.OpenCall.{OpenCall}
use Rattle.history_recorder.specs.declared.event.Event.TheVariants as events
use Rattle.history_recorder.specs.declared.operation.Operation.{Operation}
use Rattle.history_recorder.specs.declared.operation.Operation.TheVariants as operations
use Rattle.history_recorder.specs.declared.phase.Phase.TheVariants as phases
use Rattle.history_recorder.specs.declared.reply.Reply.{Reply}
use Rattle.history_recorder.specs.declared.reply.Reply.TheVariants as replies
use Rattle.mover.specs.Lane.{LaneState}
use Rattle.history_recorder.specs.Commands.{IsOperation}
use Rattle.history_recorder.specs.Operations.{lane_of, act_done, noted_by, AnswersAt}
use Rattle.history_recorder.specs.Books.{Books, lane_at, booked, with_call, after_act, after_act_in, after_event, after_noted, IsDoing, IsReplied, IsReplyOf, TakesCall}
use Rattle.history_recorder.specs.World.{OneSteps, LanesStep}

-- an act that is replied in kind is not ignored: its books are those after the act
act_books : (layout : Layout) (books : Books) (caller : ℕ) (operation : Operation) (reply : Reply) → IsReplyOf operation reply → after_event layout books (events.Act caller) reply ≡ after_act_in layout books caller (slice_index_or books.callers caller phases.Idle) reply
act_books layout books caller (operations.Get key moment) (replies.Got answer) kind = refl
act_books layout books caller (operations.Put key value word expires) (replies.Stored pushed) kind = refl
act_books layout books caller (operations.Remove key) (replies.Removed done) kind = refl
act_books layout books caller operation reply kind = absurd kind

pub act_replied : (size : ℕ) (layout : Layout) (books : Books) (caller start : ℕ) (operation : Operation) (reply : Reply) → IsDoing books caller (phases.Began start operation) → IsReplyOf operation reply → AnswersAt size (length (lane_at books.lanes (lane_of layout operation))) operation reply → IsReplied size layout books (events.Act caller) reply
act_replied size layout books caller start (operations.Get key moment) (replies.Got answer) doing kind answers = ((start, operations.Get key moment, doing), (start, operations.Get key moment, doing, tt, answers))
act_replied size layout books caller start (operations.Put key value word expires) (replies.Stored pushed) doing kind answers = ((start, operations.Put key value word expires, doing), (start, operations.Put key value word expires, doing, tt, answers))
act_replied size layout books caller start (operations.Remove key) (replies.Removed done) doing kind answers = ((start, operations.Remove key, doing), (start, operations.Remove key, doing, tt, answers))
act_replied size layout books caller start operation reply doing kind answers = absurd kind

pub act_steps : (size : ℕ) (layout : Layout) (books : Books) (caller start : ℕ) (operation : Operation) (reply : Reply) (lane : ℕ) (old new : List LaneState) → IsReplyOf operation reply → IsDoing books caller (phases.Began start operation) → lane ≡ lane_of layout operation → OneSteps lane (λ was is. IsOperation size layout operation was reply is) old new → LanesStep size layout books old (events.Act caller) reply new
act_steps size layout books caller start operation reply lane old new kind doing at step =
    in_kind operation reply kind (start, operation, doing, subst (λ i. OneSteps i (λ was is. IsOperation size layout operation was reply is) old new) at step) where
      in_kind : (asked : Operation) (r : Reply) → IsReplyOf asked r → (start : ℕ) × (operation : Operation) × IsDoing books caller (phases.Began start operation) × OneSteps (lane_of layout operation) (λ was is. IsOperation size layout operation was r is) old new → LanesStep size layout books old (events.Act caller) r new
      in_kind (operations.Get key moment) (replies.Got answer) kind h = h
      in_kind (operations.Put key value word expires) (replies.Stored pushed) kind h = h
      in_kind (operations.Remove key) (replies.Removed done) kind h = h
      in_kind asked r kind h = absurd kind

-- the books after a call was taken and its act noted
noted_books : (layout : Layout) (books : Books) (caller start : ℕ) (operation : Operation) (reply : Reply) (o : Option Act) → act_done operation reply ≡ o → after_noted (record books { callers = slice_set books.callers caller phases.Idle }) caller (lane_of layout operation) (noted_by caller start (books.number + 1) operation reply) ≡ after_act layout books caller start operation o
noted_books layout books caller start operation reply None e = rw e (ap (λ cs. record { number = books.number + 1; callers = cs; lanes = books.lanes }) (set-set books.callers caller phases.Idle phases.Idle))
noted_books layout books caller start operation reply (Some act) e =
    let at = lane_of layout operation in
    let place = length (lane_at books.lanes at) in
    rw e (ap (λ cs. record { number = books.number + 1; callers = cs; lanes = with_call books.lanes at (booked caller start (books.number + 1) operation act) }) (set-set books.callers caller phases.Idle (phases.Acted at place)))

pub taken_books : (layout : Layout) (books between : Books) (caller : ℕ) (call : OpenCall) (reply : Reply) → TakesCall books caller (Some call) between → IsReplyOf call.operation reply → after_noted between caller (lane_of layout call.operation) (noted_by caller call.start (books.number + 1) call.operation reply) ≡ after_event layout books (events.Act caller) reply
taken_books layout books between caller call reply takes kind =
    let phase : slice_index_or books.callers caller phases.Idle ≡ phases.Began call.start call.operation = get_or_from_slice_get books.callers caller (phases.Began call.start call.operation) phases.Idle takes.0 in
    ap (λ bs. after_noted bs caller (lane_of layout call.operation) (noted_by caller call.start (books.number + 1) call.operation reply)) takes.1
    ∙ noted_books layout books caller call.start call.operation reply (act_done call.operation reply) refl
    ∙ sym (act_books layout books caller call.operation reply kind ∙ ap (λ p. after_act_in layout books caller p reply) phase)
