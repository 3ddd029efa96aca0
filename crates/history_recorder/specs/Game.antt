-- A game: the books of a world together with its lanes.
use Rattle.std.specs.Prelude.{◌≡◌, ◌<◌, ◌≤◌, ℕ, ◌+◌, ◌^◌, Bool, IsTrue, List, [], ◌∷◌, Option, length, map, All, AllPairs, slice_get, Some}
use Rattle.std.specs.Global.{Box}
use Rattle.std.specs.Box.{box_value}
use Rattle.record_pages.specs.declared.layout.Layout.{Layout}
use Rattle.certificate_checker.specs.Latest.{IsLawful}
use Rattle.mover.specs.Lane.{LaneState, lane_of as store_lane}
use Rattle.recorded_lane.specs.declared.noted.Noted.{Noted}
use Rattle.recorded_lane.specs.Lane.{Lane, deeds_of, max_calls, IsSound, IsOfLane}
use Rattle.history_recorder.specs.declared.act_reply.ActReply.{ActReply}
use Rattle.history_recorder.specs.declared.operation.Operation.{Operation}
use Rattle.history_recorder.specs.Operations.{AnswersAt, noted_by, calls_with}
use Rattle.history_recorder.specs.Commands.{IsOperation, IsBackground}
use Rattle.history_recorder.specs.declared.event.Event.{Event}
use Rattle.history_recorder.specs.declared.event.Event.TheVariants as events
use Rattle.history_recorder.specs.declared.reply.Reply.{Reply}
use Rattle.history_recorder.specs.Books.{Books, AreKept, IsReplyOf, IsReplyTo, IsReplied, AreReplied, noted_of, after_event, books_after}
use Rattle.history_recorder.specs.World.{World, LanesStep, IsRun, IsSoundWorld}

-- What is true of a lane, by the calls that it recorded and what it holds. Each call starts before its point, points rise,
-- there are no more than a lane records, and each is of a key of this lane; and if its device is honest each recorded
-- hit had its key's latest value, and the lane is sound.
pub record IsWellKept (layout : Layout) (lane : ℕ) (honest : Bool) (calls : List Noted) (state : LaneState) : Type 0 where
  pub starts : All (λ n. n.start < n.point) calls
  pub points : AllPairs (λ a b. a.point < b.point) calls
  pub few : length calls ≤ max_calls
  pub its : All (λ n. IsOfLane layout lane n.key) calls
  pub lawful : IsTrue honest → IsLawful (deeds_of calls)
  pub sound : IsTrue honest → IsSound state (deeds_of calls)

-- What an act of a lane gives and leaves. On any device it is replied in kind, refused exactly when it must be, and recorded
-- unless it was refused; and if the device is honest it is the operation's step.
pub record ActsSo {L : Type 0} (layout_of : L → Layout) (lane_is : L → ℕ) (honest : L → Bool) (calls_of : L → List Noted) (state : L → LaneState) (size caller start point : ℕ) (operation : Operation) (old : L) (acted : ActReply) (new : L) : Type 0 where
  pub layout : layout_of new ≡ layout_of old
  pub lane : lane_is new ≡ lane_is old
  pub honesty : honest new ≡ honest old
  pub kind : IsReplyOf operation acted.reply
  pub refused : AnswersAt size (length (calls_of old)) operation acted.reply
  pub noted : acted.noted ≡ noted_by caller start point operation acted.reply
  pub recorded : calls_of new ≡ calls_with (calls_of old) acted.noted
  pub kept : IsWellKept (layout_of new) (lane_is new) (honest new) (calls_of new) (state new)
  pub step : IsTrue (honest old) → IsOperation size (layout_of old) operation (state old) acted.reply (state new)

-- What a background step of a lane gives and leaves. On any device it is replied in kind, and records nothing; and if the
-- device is honest it is the step that was asked.
pub record StepsSo {L : Type 0} (layout_of : L → Layout) (lane_is : L → ℕ) (honest : L → Bool) (calls_of : L → List Noted) (state : L → LaneState) (size : ℕ) (event : Event) (old : L) (reply : Reply) (new : L) : Type 0 where
  pub layout : layout_of new ≡ layout_of old
  pub lane : lane_is new ≡ lane_is old
  pub honesty : honest new ≡ honest old
  pub kind : IsReplyTo event reply
  pub recorded : calls_of new ≡ calls_of old
  pub kept : IsWellKept (layout_of new) (lane_is new) (honest new) (calls_of new) (state new)
  pub step : IsTrue (honest old) → IsBackground size (layout_of old) event (state old) reply (state new)

-- the same of a recorded lane
abbrev pub layout_in : {D : Type 0} → Lane D → Layout
layout_in lane = lane.store.layout

abbrev pub honest_in : {D : Type 0} → (D → Bool) → Lane D → Bool
honest_in honest lane = honest lane.store.device

abbrev pub state_in : {D : Type 0} → (D → ℕ → Option (List ℕ)) → Lane D → LaneState
state_in held lane = store_lane held lane.store

abbrev pub LaneActs : {D : Type 0} → (D → Bool) → (D → ℕ → Option (List ℕ)) → ℕ → ℕ → ℕ → ℕ → Operation → Lane D → ActReply → Lane D → Type 0
LaneActs honest held size caller start point operation old acted new =
    ActsSo layout_in (λ lane. lane.lane) (honest_in honest) (λ lane. lane.calls) (state_in held) size caller start point operation old acted new

abbrev pub LaneSteps : {D : Type 0} → (D → Bool) → (D → ℕ → Option (List ℕ)) → ℕ → Event → Lane D → Reply → Lane D → Type 0
LaneSteps honest held size event old reply new =
    StepsSo layout_in (λ lane. lane.lane) (honest_in honest) (λ lane. lane.calls) (state_in held) size event old reply new

-- The lanes are those of the layout, by their numbers, each well kept; and the books have the calls that they recorded.
pub record IsGame {L : Type 0} (layout_of : L → Layout) (lane_is : L → ℕ) (honest : L → Bool) (calls_of : L → List Noted) (state : L → LaneState) (layout : Layout) (books : Books) (lanes : List L) : Type 0 where
  pub all : length lanes ≡ layout.lanes
  pub layouts : All (λ l. layout_of l ≡ layout) lanes
  pub numbers : (i : ℕ) (l : L) → slice_get lanes i ≡ Some l → lane_is l ≡ i
  pub kept : All (λ l. IsWellKept layout (lane_is l) (honest l) (calls_of l) (state l)) lanes
  pub booked : AreKept books
  pub linked : map noted_of books.lanes ≡ map calls_of lanes

-- the lanes that lie in boxes
abbrev pub unboxed : {L : Type 0} → List (Box L) → List L
unboxed boxes = map (λ b. box_value b) boxes

-- each lane's device is honest
abbrev pub AreHonest : {L : Type 0} → (L → Bool) → List L → Type 0
AreHonest honest lanes = All (λ l. IsTrue (honest l)) lanes

-- the lane of a background step
abbrev pub background_lane : Event → ℕ
background_lane (events.Flush lane) = lane
background_lane (events.MoveBegin lane) = lane
background_lane (events.Commit lane plan number) = lane
background_lane (events.Abort lane number) = lane
background_lane event = 0

-- a world, as books and lanes
abbrev pub world_of : {L : Type 0} → (L → LaneState) → Books → List L → World
world_of state books lanes = record { books = books; states = map state lanes }

-- An event was played: it is replied as it may be, and the books follow from it and the reply, on any devices; and if
-- they are honest its lane took the step.
pub record Plays {L : Type 0} (layout_of : L → Layout) (lane_is : L → ℕ) (honest : L → Bool) (calls_of : L → List Noted) (state : L → LaneState) (size : ℕ) (layout : Layout) (books : Books) (lanes : List L) (event : Event) (reply : Reply) (after : Layout) (new : Books) (stepped : List L) : Type 0 where
  pub layout_stays : after ≡ layout
  pub kept : IsGame layout_of lane_is honest calls_of state layout new stepped
  pub replied : IsReplied size layout books event reply
  pub booked : new ≡ after_event layout books event reply
  pub honesty : AreHonest honest lanes → AreHonest honest stepped
  pub steps : AreHonest honest lanes → LanesStep size layout books (map state lanes) event reply (map state stepped)

-- the world after these
abbrev pub last_world : World → List World → World
last_world old [] = old
last_world old (w ∷ worlds) = last_world w worlds

-- a run of sound worlds up to this one
pub record SoundRunTo (size : ℕ) (layout : Layout) (old : World) (events : List Event) (replies : List Reply) (new : World) : Type 0 where
  pub worlds : List World
  pub run : IsRun size layout old events replies worlds
  pub sound : All IsSoundWorld worlds
  pub last : last_world old worlds ≡ new

-- Events were played, one after the other: on any devices each is replied as it may be and the books follow from the events
-- and the replies; and if the devices are honest events and replies are a run of sound worlds.
pub record HasPlayed {L : Type 0} (layout_of : L → Layout) (lane_is : L → ℕ) (honest : L → Bool) (calls_of : L → List Noted) (state : L → LaneState) (size : ℕ) (layout : Layout) (books : Books) (lanes : List L) (events : List Event) (replies : List Reply) (after : Layout) (new : Books) (stepped : List L) : Type 0 where
  pub layout_stays : after ≡ layout
  pub kept : IsGame layout_of lane_is honest calls_of state layout new stepped
  pub replied : AreReplied size layout books events replies
  pub booked : new ≡ books_after layout books events replies
  pub near : new.number ≤ books.number + length events
  pub honesty : AreHonest honest lanes → AreHonest honest stepped
  pub run : AreHonest honest lanes → SoundRunTo size layout (world_of state books lanes) events replies (world_of state new stepped)

-- numbers are left for this many events
abbrev pub CanPlay : Books → List Event → Type 0
CanPlay books events = books.number + length events ≤ 2 ^ 63
