-- Events are played.
use Rattle.std.proofs.Common.{◌≡◌, ◌<◌, ◌+◌, ℕ, Bool, List, [], ◌∷◌, ◌++◌, length, get_or, take, map, sym, ap, ◌∙◌, refl, subst, arith}
use Rattle.record_pages.specs.declared.layout.Layout.{Layout}
use Rattle.recorded_lane.specs.declared.noted.Noted.{Noted}
use Rattle.history_recorder.specs.declared.event.Event.{Event}
use Rattle.history_recorder.specs.declared.event.Event.TheVariants as events
use Rattle.history_recorder.specs.declared.operation.Operation.{Operation}
use Rattle.history_recorder.specs.declared.reply.Reply.{Reply}
use Rattle.history_recorder.specs.declared.reply.Reply.TheVariants as replies
use Rattle.mover.specs.Lane.{LaneState}
use Rattle.history_recorder.specs.Commands.{IsBackground}
use Rattle.history_recorder.specs.Books.{Books, noted_of, after_event, books_after, AreReplied, IsReplied, IsReplyTo}
use Rattle.history_recorder.specs.World.{World, OneSteps, LanesStep, Happens, IsRun, IsSoundWorld}
use Rattle.history_recorder.specs.Game.{IsGame, AreHonest, Plays, HasPlayed, SoundRunTo, world_of, last_world, background_lane}
use Rattle.std.proofs.lemmas.List.{length-append, take_more}
use Rattle.std.proofs.lemmas.List.Elements.{All-nil, All-push}
use Rattle.history_recorder.proofs.Booking.{GoesOn, event_on}
use Rattle.history_recorder.proofs.GameKept.{game_books, as_many, sound_world}

-- a background step of a lane that there is
pub behind_replied : (size : ℕ) (layout : Layout) (books : Books) (event : Event) (reply : Reply) → background_lane event < length books.lanes → IsReplyTo event reply → IsReplied size layout books event reply
behind_replied size layout books (events.Flush lane) (replies.Flushed answer) within kind = (within, tt)
behind_replied size layout books (events.MoveBegin lane) (replies.MoveBegun answer) within kind = (within, tt)
behind_replied size layout books (events.Commit lane plan number) (replies.Committed answer) within kind = (within, tt)
behind_replied size layout books (events.Abort lane number) (replies.Aborted answer) within kind = (within, tt)
behind_replied size layout books event reply within kind = absurd kind

pub behind_booked : (layout : Layout) (books : Books) (event : Event) (reply : Reply) → IsReplyTo event reply → books ≡ after_event layout books event reply
behind_booked layout books (events.Flush lane) (replies.Flushed answer) kind = refl
behind_booked layout books (events.MoveBegin lane) (replies.MoveBegun answer) kind = refl
behind_booked layout books (events.Commit lane plan number) (replies.Committed answer) kind = refl
behind_booked layout books (events.Abort lane number) (replies.Aborted answer) kind = refl
behind_booked layout books event reply kind = absurd kind

pub behind_steps : (size : ℕ) (layout : Layout) (books : Books) (event : Event) (reply : Reply) (lane : ℕ) (old new : List LaneState) → background_lane event ≡ lane → IsReplyTo event reply → OneSteps lane (λ was is. IsBackground size layout event was reply is) old new → LanesStep size layout books old event reply new
behind_steps size layout books event reply lane old new at kind step =
    in_kind event reply kind (subst (λ i. OneSteps i (λ was is. IsBackground size layout event was reply is) old new) (sym at) step) where
      in_kind : (e : Event) (r : Reply) → IsReplyTo e r → OneSteps (background_lane e) (λ was is. IsBackground size layout e was r is) old new → LanesStep size layout books old e r new
      in_kind (events.Flush lane) (replies.Flushed answer) kind h = h
      in_kind (events.MoveBegin lane) (replies.MoveBegun answer) kind h = h
      in_kind (events.Commit lane plan number) (replies.Committed answer) kind h = h
      in_kind (events.Abort lane number) (replies.Aborted answer) kind h = h
      in_kind e r kind h = absurd kind

-- a begin and an end leave the lanes as they were
pub begin_steps : (size : ℕ) (layout : Layout) (books : Books) (caller : ℕ) (operation : Operation) (reply : Reply) (states : List LaneState) → LanesStep size layout books states (events.Begin caller operation) reply states
begin_steps size layout books caller operation replies.Ignored states = refl
begin_steps size layout books caller operation reply states = refl

pub end_steps : (size : ℕ) (layout : Layout) (books : Books) (caller : ℕ) (reply : Reply) (states : List LaneState) → LanesStep size layout books states (events.End caller) reply states
end_steps size layout books caller replies.Ignored states = refl
end_steps size layout books caller reply states = refl

module _ {L : Type 0} (layout_of : L → Layout) (lane_is : L → ℕ) (honest : L → Bool) (calls_of : L → List Noted) (state : L → LaneState) (size : ℕ) (layout : Layout) (books : Books) (lanes : List L) (kept : IsGame layout_of lane_is honest calls_of state layout books lanes) where
  -- an event that leaves the lanes as they were
  pub still_plays : (event : Event) (reply : Reply) (new : Books) → IsReplied size layout books event reply → new ≡ after_event layout books event reply → map noted_of (after_event layout books event reply).lanes ≡ map noted_of books.lanes → LanesStep size layout books (map state lanes) event reply (map state lanes) → Plays layout_of lane_is honest calls_of state size layout books lanes event reply layout new lanes
  still_plays event reply new replied booked records steps = record {
    layout_stays = refl;
    kept = subst (λ b. IsGame layout_of lane_is honest calls_of state layout b lanes) (sym booked) (game_books layout_of lane_is honest calls_of state layout books (after_event layout books event reply) (event_on books kept.booked layout event reply) lanes records kept);
    replied = replied;
    booked = booked;
    honesty = λ h. h;
    steps = λ h. steps;
  }

  -- a background step
  pub behind_plays : (event : Event) (reply : Reply) (lane : ℕ) (after : Layout) (new : Books) (stepped : List L) → background_lane event ≡ lane → lane < length lanes → IsReplyTo event reply → after ≡ layout → new ≡ books → IsGame layout_of lane_is honest calls_of state after new stepped → (AreHonest honest lanes → AreHonest honest stepped) → (AreHonest honest lanes → OneSteps lane (λ was is. IsBackground size layout event was reply is) (map state lanes) (map state stepped)) → Plays layout_of lane_is honest calls_of state size layout books lanes event reply after new stepped
  behind_plays event reply lane after new stepped at within kind stays same game honesty step = record {
    layout_stays = stays;
    kept = subst (λ l. IsGame layout_of lane_is honest calls_of state l new stepped) stays game;
    replied = behind_replied size layout books event reply (let all = kept.all in let many = as_many layout_of lane_is honest calls_of state layout books lanes kept in omega (arith, at, within, all, many)) kind;
    booked = same ∙ behind_booked layout books event reply kind;
    honesty = honesty;
    steps = λ h. behind_steps size layout books event reply lane (map state lanes) (map state stepped) at kind (step h);
  }

-- ---- events in turn

replied_grows : (size : ℕ) (layout : Layout) (books : Books) (es : List Event) (rs : List Reply) (event : Event) (reply : Reply) → AreReplied size layout books es rs → IsReplied size layout (books_after layout books es rs) event reply → AreReplied size layout books (es ++ event ∷ []) (rs ++ reply ∷ [])
replied_grows size layout books [] [] event reply so last = (last, tt)
replied_grows size layout books (e ∷ es) (r ∷ rs) event reply so last = (so.0, replied_grows size layout (after_event layout books e r) es rs event reply so.1 last)
replied_grows size layout books [] (r ∷ rs) event reply so last = absurd so
replied_grows size layout books (e ∷ es) [] event reply so last = absurd so

books_grow : (size : ℕ) (layout : Layout) (books : Books) (es : List Event) (rs : List Reply) (event : Event) (reply : Reply) → AreReplied size layout books es rs → books_after layout books (es ++ event ∷ []) (rs ++ reply ∷ []) ≡ after_event layout (books_after layout books es rs) event reply
books_grow size layout books [] [] event reply so = refl
books_grow size layout books (e ∷ es) (r ∷ rs) event reply so = books_grow size layout (after_event layout books e r) es rs event reply so.1
books_grow size layout books [] (r ∷ rs) event reply so = absurd so
books_grow size layout books (e ∷ es) [] event reply so = absurd so

-- a run goes on
run_grows : (size : ℕ) (layout : Layout) (old : World) (es : List Event) (rs : List Reply) (worlds : List World) (event : Event) (reply : Reply) (new : World) → IsRun size layout old es rs worlds → Happens size layout (last_world old worlds) event reply new → IsRun size layout old (es ++ event ∷ []) (rs ++ reply ∷ []) (worlds ++ new ∷ [])
run_grows size layout old [] [] [] event reply new run happens = (happens, tt)
run_grows size layout old (e ∷ es) (r ∷ rs) (w ∷ worlds) event reply new run happens = (run.0, run_grows size layout w es rs worlds event reply new run.1 happens)
run_grows size layout old [] [] (w ∷ worlds) event reply new run happens = absurd run
run_grows size layout old [] (r ∷ rs) worlds event reply new run happens = absurd run
run_grows size layout old (e ∷ es) [] worlds event reply new run happens = absurd run
run_grows size layout old (e ∷ es) (r ∷ rs) [] event reply new run happens = absurd run

last_grows : (old : World) (worlds : List World) (new : World) → last_world old (worlds ++ new ∷ []) ≡ new
last_grows old [] new = refl
last_grows old (w ∷ worlds) new = last_grows w worlds new

sound_grows : (size : ℕ) (layout : Layout) (old between new : World) (es : List Event) (rs : List Reply) (event : Event) (reply : Reply) → SoundRunTo size layout old es rs between → Happens size layout between event reply new → IsSoundWorld new → SoundRunTo size layout old (es ++ event ∷ []) (rs ++ reply ∷ []) new
sound_grows size layout old between new es rs event reply so happens sound = record {
  worlds = so.worlds ++ new ∷ [];
  run = run_grows size layout old es rs so.worlds event reply new so.run (subst (λ w. Happens size layout w event reply new) (sym so.last) happens);
  sound = All-push IsSoundWorld so.worlds new so.sound sound;
  last = last_grows old so.worlds new;
}

module _ {L : Type 0} (layout_of : L → Layout) (lane_is : L → ℕ) (honest : L → Bool) (calls_of : L → List Noted) (state : L → LaneState) (size : ℕ) (layout : Layout) (books : Books) (lanes : List L) where
  pub none_played : IsGame layout_of lane_is honest calls_of state layout books lanes → HasPlayed layout_of lane_is honest calls_of state size layout books lanes [] [] layout books lanes
  none_played kept = record {
    layout_stays = refl;
    kept = kept;
    replied = tt;
    booked = refl;
    near = omega arith;
    honesty = λ h. h;
    run = λ h. record { worlds = []; run = tt; sound = All-nil IsSoundWorld; last = refl };
  }

  pub more_played : (es : List Event) (rs : List Reply) (event : Event) (reply : Reply) (between after : Layout) (mid new : Books) (there stepped : List L) → HasPlayed layout_of lane_is honest calls_of state size layout books lanes es rs between mid there → Plays layout_of lane_is honest calls_of state size between mid there event reply after new stepped → HasPlayed layout_of lane_is honest calls_of state size layout books lanes (es ++ event ∷ []) (rs ++ reply ∷ []) after new stepped
  more_played es rs event reply between after mid new there stepped so plays =
      let on : GoesOn mid new = subst (GoesOn mid) (sym plays.booked) (event_on mid so.kept.booked between event reply) in
      let booked : new ≡ after_event layout mid event reply = plays.booked ∙ ap (λ l. after_event l mid event reply) so.layout_stays in
      let game = subst (λ l. IsGame layout_of lane_is honest calls_of state l new stepped) so.layout_stays plays.kept in
      record {
        layout_stays = plays.layout_stays ∙ so.layout_stays;
        kept = game;
        replied = replied_grows size layout books es rs event reply so.replied (subst (λ b. IsReplied size layout b event reply) so.booked (subst (λ l. IsReplied size l mid event reply) so.layout_stays plays.replied));
        booked = booked ∙ ap (λ b. after_event layout b event reply) so.booked ∙ sym (books_grow size layout books es rs event reply so.replied);
        near = let a = so.near in let b = on.near in let c = length-append es (event ∷ []) in omega (arith, a, b, c);
        honesty = λ h. plays.honesty (so.honesty h);
        run = λ h. sound_grows size layout (world_of state books lanes) (world_of state mid there) (world_of state new stepped) es rs event reply (so.run h) (record {
          replied = subst (λ l. IsReplied size l mid event reply) so.layout_stays plays.replied;
          books = booked;
          states = subst (λ l. LanesStep size l mid (map state there) event reply (map state stepped)) so.layout_stays (plays.steps (so.honesty h));
        }) (sound_world layout_of lane_is honest calls_of state layout new stepped game (plays.honesty (so.honesty h)));
      }

  -- the same of the events up to one of a list
  pub next_played : (events : List Event) (i : ℕ) (rs rs' : List Reply) (event : Event) (reply : Reply) (between after : Layout) (mid new : Books) (there stepped : List L) → i < length events → event ≡ get_or events i event → rs' ≡ rs ++ reply ∷ [] → HasPlayed layout_of lane_is honest calls_of state size layout books lanes (take i events) rs between mid there → Plays layout_of lane_is honest calls_of state size between mid there event reply after new stepped → HasPlayed layout_of lane_is honest calls_of state size layout books lanes (take (i + 1) events) rs' after new stepped
  next_played events i rs rs' event reply between after mid new there stepped within is more so plays =
      let taken : take (i + 1) events ≡ take i events ++ event ∷ [] = take_more events i event within ∙ ap (λ e. take i events ++ e ∷ []) (sym is) in
      rw (taken, more) (more_played (take i events) rs event reply between after mid new there stepped so plays)
