-- What reading a history that was written as text gives: the same calls, with callers numbered as they first appear.
use Rattle.std.specs.Prelude.{◌≡◌, ℕ, ◌<◌, ◌≤◌, ◌==◌, true, All, List, [], ◌∷◌, ◌++◌, length, map, fold, if◌then◌else◌, None, Ok, codes}
use Rattle.std.specs.Fmt.{decimal}
use Rattle.std.specs.List.{list_any, position_or_len, range_with_len}
use Rattle.trace_file.specs.declared.call.Call.{Call}
use Rattle.trace_file.specs.Calls.{IsCall, value_of}
use Rattle.history_text.specs.Readings.{whole}
use Rattle.history_text.specs.Text.{Text, read_by, text_of}
use Rattle.history_text.specs.Writing.{has_text, written}

-- a call of a history, which has a text; a key and a value are bytes
pub record IsTold (call : Call) : Type 0 where
  pub is_call : IsCall call
  pub key : All (λ b. b < 256) call.key
  pub value : All (λ b. b < 256) (value_of call.act)
  pub has : has_text call ≡ true

-- the callers, with this one after them if it is new
abbrev pub met : List ℕ → ℕ → List ℕ
met callers caller = if list_any (λ other. caller == other) callers then callers else callers ++ caller ∷ []

-- the callers of calls, each once, in the order in which they first appear
abbrev pub callers_of : List Call → List ℕ
callers_of calls = fold met [] (map (λ call. call.caller) calls)

-- caller N is called cN
abbrev pub name_of : ℕ → List ℕ
name_of caller = codes "c" ++ decimal caller

-- the call, with its caller's place among these as its number
abbrev pub numbered : List ℕ → Call → Call
numbered callers call = record {
  caller = position_or_len (λ other. call.caller == other) callers;
  start = call.start;
  end = call.end;
  key = call.key;
  act = call.act;
}

-- calls as they read back: each on its own line, from 1 on, and callers numbered as they first appear
abbrev pub read_back : List Call → Text
read_back calls = record {
  calls = map (numbered (callers_of calls)) calls;
  lines = range_with_len 1 (length calls);
  callers = map name_of (callers_of calls);
}

-- what is written of a history all of whose calls have a text reads back as that history
abbrev pub HistoriesReadBack : Type 0
HistoriesReadBack = (calls : List Call) → length calls ≤ 268435456 → All IsTold calls → text_of whole (written None calls) ≡ Ok (read_by (read_back calls) 0)
