-- What a call does to the book of its lane, and when it is refused.
use Rattle.std.specs.Prelude.{◌≡◌, ◌≢◌, ℕ, ◌+◌, ◌<◌, ◌≤◌, ◌^◌, ◌⊎◌, List, ◌++◌, ◌∷◌, [], length, Option, Some, Ok, Bool, All, slice_get}
use Rattle.record_pages.specs.Expiry.{timed}
use Rattle.record_pages.specs.Sizes.{object_size, room}
use Rattle.mover.specs.Store.{StoreState}
use Rattle.mover.specs.Calls.{StoreGets, StorePuts, StoreRemoves}
use Rattle.trace_file.specs.declared.act.Act.{Act}
use Rattle.trace_file.specs.declared.act.Act.TheVariants as acts
use Rattle.recorded_lane.specs.declared.noted.Noted.{Noted}
use Rattle.recorded_lane.specs.Lane.{Lane, act_of, max_calls}
use Rattle.recorded_lane.specs.Answering.{MayHaveGot}
use Rattle.history_recorder.specs.declared.operation.Operation.{Operation}
use Rattle.history_recorder.specs.declared.operation.Operation.TheVariants as asked
use Rattle.history_recorder.specs.Operations.{key_of}
use Rattle.shared_cache.specs.declared.act_fault.ActFault.{ActFault}
use Rattle.shared_cache.specs.declared.act_fault.ActFault.TheVariants.{HistoryLost, HistoryFull, ClockFull, OutOfMemory}
use Rattle.shared_cache.specs.declared.act_answer.ActAnswer.{ActAnswer}
use Rattle.shared_cache.specs.declared.request.Request.{Request}
use Rattle.shared_cache.specs.declared.request.Request.TheVariants as lent
use Rattle.shared_cache.specs.Listed.{Listed}
use Rattle.shared_cache.specs.declared.response.Response.{Response}
use Rattle.shared_cache.specs.declared.response.Response.TheVariants as outcomes
use Rattle.shared_cache.specs.Passes.{Ticket, former}

-- the operation that a lent one asks for
abbrev pub request_shown : Request → Operation
request_shown (lent.Get key moment) = asked.Get key.now moment
request_shown (lent.Put key value word expires) = asked.Put key value word expires
request_shown (lent.Remove key) = asked.Remove key.now

-- what is recorded of an operation by what it gave
abbrev pub act_by : Operation → Response → Act
act_by (asked.Get key moment) (outcomes.Got answer) = act_of moment answer
act_by (asked.Get key moment) _ = acts.Miss
act_by (asked.Put key value word expires) _ = acts.Put value expires
act_by (asked.Remove key) _ = acts.Remove

-- the call that is recorded of an operation
abbrev pub made : ℕ → ℕ → ℕ → Operation → Response → Noted
made caller start point operation outcome = record { caller = caller; start = start; point = point; key = key_of operation; act = act_by operation outcome }

-- a call as it is listed: of a lane, at a position there, with its start, its point and its end
abbrev pub listing : ℕ → ℕ → ℕ → ℕ → ℕ → ℕ → Operation → Response → Listed
listing lane position caller start point end operation outcome = record {
  lane = lane;
  position = position;
  call = made caller start point operation outcome;
  end = end;
}

-- an operation puts no object that is too large for a page of this size
abbrev pub IsFitting : ℕ → Operation → Type 0
IsFitting size (asked.Put key value word expires) = object_size key value ≤ room size
IsFitting size (asked.Get key moment) = Unit {0}
IsFitting size (asked.Remove key) = Unit {0}

module _ {D : Type 0} (honest : D → Bool) (failures : D → ℕ) (held : D → ℕ → Option (List ℕ)) (size : ℕ) where
  -- What an operation gives and does to the store of its lane: what that call of a store does. It gives nothing else.
  abbrev pub ActGives : Operation → StoreState D → Response → StoreState D → Type 0
  ActGives (asked.Get key moment) old (outcomes.Got answer) new = StoreGets size honest failures held key moment old (Ok answer) new
  ActGives (asked.Put key value word expires) old (outcomes.Stored pushed) new =
      StorePuts size held (record { key = key; value = timed value expires }) word old (Ok pushed) new
  ActGives (asked.Remove key) old outcomes.Removed new = StoreRemoves held key old new
  ActGives _ old _ new = ⊥

  -- what want of memory leaves: of a get the store as it was, or as the answer left it; otherwise all as it was
  abbrev pub ActLeaves : Operation → StoreState D → StoreState D → Type 0
  ActLeaves (asked.Get key moment) old new = MayHaveGot size honest failures held key moment old new
  ActLeaves (asked.Put key value word expires) old new = new ≡ old
  ActLeaves (asked.Remove key) old new = new ≡ old

module _ {D : Type 0} where
  -- the pass's former call of the lane stands there at its position
  abbrev pub Stands : Lane D → Ticket → Type 0
  Stands book ticket = (l : Listed) → former book.lane ticket.calls ≡ Some l → slice_get book.calls l.position ≡ Some l.call

  -- it does not: the pass's former call of the lane is of this position, where this stands
  pub record StandsElse (book : Lane D) (ticket : Ticket) (position : ℕ) (found : Option Noted) : Type 0 where
    pub call : Listed
    pub last : former book.lane ticket.calls ≡ Some call
    pub position_is : position ≡ call.position
    pub stands : found ≡ slice_get book.calls position
    pub other : found ≢ Some call.call

  -- the former call stands, and the book takes no more
  pub record IsFull (book : Lane D) (ticket : Ticket) : Type 0 where
    pub stands : Stands book ticket
    pub full : length book.calls ≡ max_calls

  -- the former call stands, the book takes one more, and the pass has seen the last stamp
  pub record IsPastLast (book : Lane D) (ticket : Ticket) (seen : ℕ) : Type 0 where
    pub stands : Stands book ticket
    pub room : length book.calls < max_calls
    pub last : seen + 1 ≡ 2 ^ 63

  -- when each refusal comes, by what the pass has seen then
  abbrev pub Explains : Lane D → Ticket → ℕ → ActFault → Type 0
  Explains book ticket seen (HistoryLost position found) = StandsElse book ticket position found
  Explains book ticket seen HistoryFull = IsFull book ticket
  Explains book ticket seen ClockFull = IsPastLast book ticket seen
  Explains book ticket seen OutOfMemory = Stands book ticket → length book.calls < max_calls

  -- a call's point was drawn: above all that the pass had seen and above all points of the lane's calls. The former call
  -- stands, and the book takes one more
  pub record IsReady (book : Lane D) (ticket ticket' : Ticket) (point : ℕ) : Type 0 where
    pub unseen : ticket.sight.seen < point
    pub above : All (λ n. n.point < point) book.calls
    pub seen : ticket'.sight.seen ≡ point
    pub small : point < 2 ^ 63
    pub stands : Stands book ticket
    pub room : length book.calls < max_calls

  -- what is true of every book beside what is true of its lane: each point is a stamp
  abbrev pub IsBook : Lane D → Type 0
  IsBook book = All (λ n. n.point < 2 ^ 63) book.calls

-- what an operation gives: a get an answer, a put what became of the pair that was pushed out, a removal nothing
abbrev pub Suits : Operation → Response → Type 0
Suits (asked.Get key moment) (outcomes.Got answer) = Unit {0}
Suits (asked.Put key value word expires) (outcomes.Stored pushed) = Unit {0}
Suits (asked.Remove key) outcomes.Removed = Unit {0}
Suits _ _ = ⊥

module _ {D : Type 0} (honest : D → Bool) (failures : D → ℕ) (held : D → ℕ → Option (List ℕ)) (size : ℕ) where
  -- An operation was done while a lane's lock was held, at a stamp above all that the pass had seen and above all points of
  -- the lane's calls. The book has one call more, last, and its store took that operation's step; the pass lists that call,
  -- last, at its position, and with the stamp for its end.
  pub record IsActed (operation : Operation) (start : ℕ) (book : Lane D) (ticket : Ticket) (acted : ActAnswer) (book' : Lane D) (ticket' : Ticket) : Type 0 where
    pub recorded : book' ≡ record book { store = book'.store; calls = book.calls ++ made ticket.caller start acted.point operation acted.outcome ∷ [] }
    pub gives : ActGives honest failures held size operation book.store acted.outcome book'.store
    pub listed : ticket'.calls ≡ ticket.calls ++ listing book.lane (length book.calls) ticket.caller start acted.point acted.point operation acted.outcome ∷ []
    pub unseen : ticket.sight.seen < acted.point
    pub above : All (λ n. n.point < acted.point) book.calls
    pub seen : ticket'.sight.seen ≡ acted.point
    pub stands : Stands book ticket
    pub room : length book.calls < max_calls

  -- An operation was refused while a lane's lock was held. It is in no list, and but for want of memory after an answer
  -- all is as it was.
  pub record IsUnacted (operation : Operation) (book : Lane D) (ticket : Ticket) (fault : ActFault) (book' : Lane D) (ticket' : Ticket) : Type 0 where
    pub explained : Explains book ticket ticket'.sight.seen fault
    pub unlisted : ticket'.calls ≡ ticket.calls
    pub unrecorded : book' ≡ record book { store = book'.store }
    pub kept : fault ≢ OutOfMemory → book' ≡ book
    pub leaves : (book'.store ≡ book.store) ⊎ ActLeaves honest failures held size operation book.store book'.store
