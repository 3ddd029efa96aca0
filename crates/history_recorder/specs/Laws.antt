-- Laws of runs.
use Rattle.std.specs.Prelude.{◌≡◌, ℕ, List, Option, All, length}
use Rattle.record_pages.specs.declared.layout.Layout.{Layout}
use Rattle.trace_file.specs.declared.call.Call.{Call}
use Rattle.certificate_checker.specs.Acceptance.{IsAccepted}
use Rattle.certificate_checker.specs.Lanes.{IsLaidOut}
use Rattle.history_recorder.specs.declared.event.Event.{Event}
use Rattle.history_recorder.specs.declared.reply.Reply.{Reply}
use Rattle.history_recorder.specs.Books.{opening_books, books_after, dones}
use Rattle.history_recorder.specs.World.{World, IsRun, IsSoundWorld}
use Rattle.history_recorder.specs.Opened.{beginning}

-- In any run from a beginning, with one device for each lane, whatever their pages held, every lane is sound after each event.
abbrev pub RunsAreSound : Type 0
RunsAreSound =
    (size : ℕ) (layout : Layout) (callers : ℕ) (pages : List (ℕ → Option (List ℕ))) (events : List Event) (replies : List Reply) (worlds : List World)
    → length pages ≡ layout.lanes
    → IsRun size layout (beginning layout callers pages) events replies worlds
    → All IsSoundWorld worlds

-- And the calls that its lanes recorded are accepted as they are laid out.
abbrev pub RunsAreAccepted : Type 0
RunsAreAccepted =
    (size : ℕ) (layout : Layout) (callers : ℕ) (pages : List (ℕ → Option (List ℕ))) (events : List Event) (replies : List Reply) (worlds : List World) (history : List Call) (certificate : List ℕ)
    → length pages ≡ layout.lanes
    → IsRun size layout (beginning layout callers pages) events replies worlds
    → IsLaidOut (dones (books_after layout (opening_books layout.lanes callers) events replies)) history certificate
    → IsAccepted history certificate
