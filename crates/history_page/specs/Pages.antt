-- The page: fixed parts, and between them the calls and the report.
use Rattle.std.specs.Prelude.{ℕ, List, ◌++◌}
use Rattle.trace_file.specs.declared.call.Call.{Call}
use Rattle.history_page.specs.declared.fixed.TheConstants.{HEAD, MIDDLE, TAIL}
use Rattle.history_page.specs.CallLines.{calls_text}
use Rattle.history_page.specs.Guarding.{guard}

-- the page of a history of which so many calls were recorded: its calls are drawn, and what the report says is told
abbrev pub page_text : List Call → List ℕ → List (List ℕ) → ℕ → List ℕ → List ℕ
page_text history lines names recorded report =
    HEAD.now ++ (guard (calls_text history lines names recorded) ++ (MIDDLE.now ++ (guard report ++ TAIL.now)))
