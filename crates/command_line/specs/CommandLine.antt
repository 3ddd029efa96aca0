-- The program's command line: what it takes, and what its words ask for.
use Rattle.std.specs.Prelude.{◌≡◌, ◌≢◌, ◌⊎◌, ◌&&◌, ◌||◌, ◌==◌, ℕ, Bool, List, [], ◌∷◌, Option, Some, None, codes, count_by, fold, is_some, length, map, nat_le, nat_lt, not, option_and_then, option_map, string_bytes, true, false, unwrap_or, if◌then◌else◌}
use Rattle.std.specs.List.{after_first, before_first, find, list_all}
use Rattle.std.specs.Option.{option_map_or}
use Rattle.std.specs.Str.{bytes_eq}
use Rattle.clap.specs.Lexer.{usize_max}
use Rattle.clap.specs.Words.{App, IsAmong, Kinds, Row, Rule, Text, all_of, first_of, new_app, new_rule, subcommand_of, with_rule, with_subcommand}
use Rattle.clap.specs.declared.builder.action.ArgAction.TheVariants.{Append, SetTrue}
use Rattle.clap.specs.declared.error.kind.ErrorKind.{ErrorKind}
use Rattle.clap.specs.declared.error.kind.ErrorKind.TheVariants.{DisplayHelp, DisplayVersion}
use Rattle.history_text.specs.declared.share.Share.{Share}
use Rattle.history_text.specs.Readings.{share_by}
use Rattle.judge_run.specs.declared.scope.Scope.{Scope}
use Rattle.load.specs.Asked.{numbers_of, served_numbers_of}
use Rattle.load.specs.Settings.{bytes_in, is_decimal, number_in, row_of, served_settings, settings, shape_settings, value_of_text}
use Rattle.load.specs.Sizes.{name_of}
use Rattle.load.specs.declared.setting.Setting.{Setting}
use Rattle.load.specs.declared.size_setting.SizeSetting.{SizeSetting}
use Rattle.load.specs.declared.size_setting.SizeSetting.TheVariants.{Size, MemoryBytes}
use Rattle.command_line.specs.declared.line.Line.{Line}
use Rattle.command_line.specs.declared.line.Line.TheVariants.{Script, Check, Judge, Show, Run, Serve}
use Rattle.command_line.specs.declared.line_fault.LineFault.{LineFault}
use Rattle.command_line.specs.declared.line_fault.LineFault.TheVariants.{Usage, Help, OutOfMemory}

-- ---- what the program takes

-- the flag of this name
abbrev pub flag_rule : Text → Rule
flag_rule name = record (new_rule name) { long = Some name; action = Some SetTrue }

-- the option of this name, with one value
abbrev pub value_rule : Text → Rule
value_rule name = record (new_rule name) { long = Some name; value_names = 1 }

-- the file that is to be checked
abbrev pub file_rule : Rule
file_rule = record (new_rule (codes "FILE")) { required = true }

-- the files that are to be judged, one at least
abbrev pub files_rule : Rule
files_rule = record (new_rule (codes "FILE")) { range = Some (record { start_inclusive = 1; end_inclusive = usize_max }); action = Some Append; required = true }

-- the option of a setting: its name, and one value
abbrev pub option_rule : Setting → Rule
option_rule setting = value_rule (row_of setting).name

-- the folder of the lanes' files
abbrev pub device_rule : Rule
device_rule = value_rule (codes "device")

-- the option of a size: its name, and one value
abbrev pub size_rule : SizeSetting → Rule
size_rule size = value_rule (name_of size)

-- whether keys are drawn by Zipf's law
abbrev pub zipf_rule : Rule
zipf_rule = flag_rule (codes "zipf")

-- the file that the trace of a run is written to
abbrev pub trace_rule : Rule
trace_rule = record (value_rule (codes "trace")) { required = true }

-- script, with nothing after it
abbrev pub script_command : App
script_command = new_app (codes "script")

-- whether it is said why a history is rejected
abbrev pub explain_rule : Rule
explain_rule = flag_rule (codes "explain")

-- whether all faults of a rejected history are listed
abbrev pub all_rule : Rule
all_rule = flag_rule (codes "all")

-- whether what is reported is a JSON object and not lines
abbrev pub json_rule : Rule
json_rule = flag_rule (codes "json")

-- the file that a picture of why it is rejected is drawn to
abbrev pub picture_rule : Rule
picture_rule = value_rule (codes "picture")

-- the file that an accepted history is written to as a trace
abbrev pub out_rule : Rule
out_rule = value_rule (codes "trace")

-- the file that what came of judging is written to, as JUnit has it
abbrev pub junit_rule : Rule
junit_rule = value_rule (codes "junit")

-- the file that a page of the history is written to
abbrev pub html_rule : Rule
html_rule = value_rule (codes "html")

-- how many calls an accepted history has to have
abbrev pub least_rule : Rule
least_rule = value_rule (codes "at-least")

-- by how much each stamp may differ from the truth
abbrev pub skew_rule : Rule
skew_rule = value_rule (codes "skew")

-- whether values that were there from the start are taken as such
abbrev pub warm_rule : Rule
warm_rule = flag_rule (codes "warm")

-- which keys' calls are judged
abbrev pub keys_rule : Rule
keys_rule = value_rule (codes "keys")

-- how far back a call may start, if the calls are judged as they come
abbrev pub window_rule : Rule
window_rule = value_rule (codes "window")

-- whether bad lines are passed over
abbrev pub skip_rule : Rule
skip_rule = flag_rule (codes "skip-bad")

-- the key whose calls alone are written
abbrev pub key_rule : Rule
key_rule = value_rule (codes "key")

-- a command that judges a history, with two flags and an option
abbrev pub with_history : App → App
with_history app = with_rule (with_rule (with_rule app explain_rule) json_rule) picture_rule

-- check FILE, with two flags and an option
abbrev pub check_command : App
check_command = with_history (with_rule (new_app (codes "check")) file_rule)

-- a command with a flag for all faults, and options for the trace, the JUnit file and the page that are to be written
abbrev pub with_listing : App → App
with_listing app = with_rule (with_rule (with_rule (with_rule app all_rule) out_rule) junit_rule) html_rule

-- a command with options for how many calls there have to be and how wrong stamps may be, and a flag for values from the start
abbrev pub with_scope : App → App
with_scope app = with_rule (with_rule (with_rule app least_rule) skew_rule) warm_rule

-- a command with options for the keys whose calls are judged and for a window, and a flag for bad lines
abbrev pub with_reading : App → App
with_reading app = with_rule (with_rule (with_rule app keys_rule) skip_rule) window_rule

-- judge FILE.., with five flags and seven options
abbrev pub judge_command : App
judge_command = with_reading (with_scope (with_listing (with_history (with_rule (new_app (codes "judge")) files_rule))))

-- show FILE, with an option
abbrev pub show_command : App
show_command = with_rule (with_rule (new_app (codes "show")) file_rule) key_rule

-- a command with an option for one more setting
abbrev pub with_option : App → Setting → App
with_option command setting = with_rule command (option_rule setting)

-- run, with an option for each setting, one for the folder of the lanes' files, one for the file of the trace, and a flag
abbrev pub run_command : App
run_command = with_rule (with_rule (with_rule (fold with_option (new_app (codes "run")) settings) device_rule) trace_rule) json_rule

-- serve-load, with an option for each of its settings and sizes, a flag for the keys, an option for the folder of the lanes' files, and
-- a flag
abbrev pub serve_command : App
serve_command =
    with_rule (with_rule (with_rule (with_rule (with_rule (fold with_option (new_app (codes "serve-load")) served_settings) (size_rule Size)) (size_rule MemoryBytes)) zipf_rule) device_rule) json_rule

-- the program, of which one subcommand has to be named
abbrev pub program_top : App
program_top = record { top = record (new_app (codes "kangaroo")).top { subcommand_required = true; has_version = true }; subs = [] }

-- the program with the subcommand of scripts
abbrev pub scripts_program : App
scripts_program = with_subcommand program_top script_command.top

-- a program with the subcommands that judge and show
abbrev pub with_judging : App → App
with_judging app = with_subcommand (with_subcommand (with_subcommand app check_command.top) judge_command.top) show_command.top

-- a program with the subcommands that load a cache
abbrev pub with_loads : App → App
with_loads app = with_subcommand (with_subcommand app run_command.top) serve_command.top

-- the program with its subcommands
abbrev pub program : App
program = with_loads (with_judging scripts_program)

-- ---- what its words ask for

-- a history that is to be judged: its file, and those of further ones; whether it is said why it is rejected, whether all its faults are listed, and whether that
-- is told as a JSON object; the files that a picture of why it is rejected is drawn to, that it is written to as a trace, and that what
-- came of it is written to as JUnit has it, and that a page is written to, if they are named, and whether that page is made; how many calls it has to have if it is accepted; by how much its stamps may differ from the truth;
-- whether values may have been there from the start; which keys' calls are judged; whether bad lines are passed over; and the window of
-- a text that is judged as its calls come, if it is
pub record Judging : Type 0 where
  pub file : Text
  pub others : List Text
  pub explain : Bool
  pub all : Bool
  pub json : Bool
  pub picture : Option Text
  pub trace : Option Text
  pub junit : Option Text
  pub html : Option Text
  pub page : Bool
  pub least : ℕ
  pub skew : ℕ
  pub warm : Bool
  pub share : Share
  pub skip_bad : Bool
  pub window : Option ℕ

-- that a script is answered; that the trace in a file of this name is judged, with why it is rejected if the first flag is on, told as
-- a JSON object if the second is, and drawn to this file if one is named; that a history is judged; that the trace in a file of this name is written as text, only the calls of this
-- key if one is named; that a load with these numbers, one for each of its settings in their order, is run, told as a JSON object if
-- the flag is on, over files of this folder or in memory if there is none, and its trace written to a file of this name; or that a
-- load of a cache that serves is run with such numbers, for so many bytes of flash and of memory if they are given, with keys by Zipf's
-- law if the first flag is on, told as a JSON object if the second is, over files of this folder or in memory if there is none
pub data Wanted : Type 0 where
  Replies : Wanted
  Checked : Text → Bool → Bool → Option Text → Wanted
  Judged : Judging → Wanted
  Shown : Text → Option Text → Wanted
  Loaded : List ℕ → Bool → Option Text → Text → Wanted
  Served : List ℕ → Option ℕ → Option ℕ → Bool → Bool → Option Text → Wanted

-- what a line asks for
abbrev pub wanted_of : Line → Wanted
wanted_of Script = Replies
wanted_of (Check request) = Checked request.file request.explain request.json request.picture
wanted_of (Judge request) = Judged (record {
  file = request.file;
  others = request.others.items;
  explain = request.detail.explain;
  all = request.detail.all;
  json = request.json;
  picture = request.picture;
  trace = request.trace;
  junit = request.junit;
  html = request.html;
  page = request.detail.page;
  least = request.at_least;
  skew = request.scope.skew;
  warm = request.scope.warm;
  share = request.scope.reading.share;
  skip_bad = request.scope.reading.skip_bad;
  window = request.scope.window;
})
wanted_of (Show request) = Shown request.file (option_map string_bytes request.key)
wanted_of (Run load) = Loaded (numbers_of load) load.json load.device load.trace
wanted_of (Serve load) = Served (served_numbers_of load) load.size load.memory_bytes load.zipf load.json load.device

-- a flag is on
abbrev pub is_on : Text → List Row → Bool
is_on flag rows = option_map_or (λ word. bytes_eq word (codes "true")) (first_of flag rows) false

-- the check that was found
abbrev pub check_wanted : List Row → Option Wanted
check_wanted rows =
    option_map (λ file. Checked file (is_on (codes "explain") rows) (is_on (codes "json") rows) (first_of (codes "picture") rows)) (first_of (codes "FILE") rows)

-- the number that a text writes, if it is at most this one
abbrev pub number_to : ℕ → Text → Option ℕ
number_to most text = if is_decimal text && nat_le (value_of_text text) most then Some (value_of_text text) else None

-- the number that was found for an option: 0 if nothing was, and there is nothing if that is no number, or a greater one than this
abbrev pub number_given : ℕ → Option Text → Option ℕ
number_given most None = Some 0
number_given most (Some text) = number_to most text

abbrev pub number_found_to : Text → ℕ → List Row → Option ℕ
number_found_to option most rows = number_given most (first_of option rows)

-- how many calls an accepted history has to have
abbrev pub least_found : List Row → Option ℕ
least_found rows = number_found_to (codes "at-least") 268435456 rows

-- by how much each stamp may differ from the truth
abbrev pub skew_found : List Row → Option ℕ
skew_found rows = number_found_to (codes "skew") 9223372036854775807 rows

-- the share of keys that two numbers write
abbrev pub share_from : ℕ → ℕ → Option Share
share_from part of = if nat_lt part of then Some (share_by part of) else None

-- the share of keys that a text writes: two numbers below 2^32 with a slash between them, of which the first is less
abbrev pub share_in : Text → Option Share
share_in text =
    option_and_then (λ part. option_and_then (share_from part) (number_to 4294967295 (after_first (λ b. b == 47) text))) (number_to 4294967295 (before_first (λ b. b == 47) text))

-- the share of keys whose calls are judged: all if none is given
abbrev pub share_given : Option Text → Option Share
share_given None = Some (share_by 0 1)
share_given (Some text) = share_in text

abbrev pub share_found : List Row → Option Share
share_found rows = share_given (first_of (codes "keys") rows)

-- the window that is asked for, if one is
abbrev pub window_given : Option Text → Option (Option ℕ)
window_given None = Some None
window_given (Some text) = option_map (λ window. Some window) (number_to 9223372036854775807 text)

abbrev pub window_found : List Row → Option (Option ℕ)
window_found rows = window_given (first_of (codes "window") rows)

-- a file name that means the standard input
abbrev pub is_input : Text → Bool
is_input file = bytes_eq file (codes "-")

-- a file is to be written beside the verdict
abbrev pub has_output : List Row → Bool
has_output rows = is_some (first_of (codes "trace") rows) || (is_some (first_of (codes "picture") rows) || (is_some (first_of (codes "junit") rows) || is_some (first_of (codes "html") rows)))

-- these files can be judged in turn: the standard input is one of them once at most, and if there are several, no file is to be written beside the verdicts
abbrev pub can_follow : List Row → List Text → Bool
can_follow rows files = nat_le (count_by is_input files) 1 && not (nat_lt 1 (length files) && has_output rows)

-- which calls are judged: with stamps that may differ by so much, of a share of keys, with a window if there is one
abbrev pub scope_of : List Row → ℕ → Share → Option ℕ → Scope
scope_of rows skew share window = record {
  skew = skew;
  warm = is_on (codes "warm") rows;
  reading = record { share = share; skip_bad = is_on (codes "skip-bad") rows };
  window = window;
}

-- the judging that was found of the history in a file, and of those in others, of which an accepted one has to have so many calls, in this scope
abbrev pub judging_in : List Row → ℕ → Scope → Text → List Text → Judging
judging_in rows least scope file others = record {
  file = file;
  others = others;
  explain = is_on (codes "explain") rows;
  all = is_on (codes "all") rows;
  json = is_on (codes "json") rows;
  picture = first_of (codes "picture") rows;
  trace = first_of (codes "trace") rows;
  junit = first_of (codes "junit") rows;
  html = first_of (codes "html") rows;
  page = is_some (first_of (codes "html") rows);
  least = least;
  skew = scope.skew;
  warm = scope.warm;
  share = scope.reading.share;
  skip_bad = scope.reading.skip_bad;
  window = scope.window;
}

-- the same, with stamps that may differ by so much, of a share of keys, with a window if there is one
abbrev pub judging_of : List Row → ℕ → ℕ → Share → Option ℕ → Text → List Text → Judging
judging_of rows least skew share window file others = judging_in rows least (scope_of rows skew share window) file others

-- what is asked of these files
abbrev pub judge_wanted_on : List Row → ℕ → ℕ → Share → Option ℕ → List Text → Option Wanted
judge_wanted_on rows least skew share window [] = None
judge_wanted_on rows least skew share window (file ∷ others) = if can_follow rows (file ∷ others) then Some (Judged (judging_of rows least skew share window file others)) else None

-- what is asked of the files that were found
abbrev pub judge_wanted_of : List Row → ℕ → ℕ → Share → Option ℕ → Option Wanted
judge_wanted_of rows least skew share window = option_and_then (judge_wanted_on rows least skew share window) (all_of (codes "FILE") rows)

-- the same, by the window that was found
abbrev pub judge_wanted_at : List Row → ℕ → ℕ → Share → Option Wanted
judge_wanted_at rows least skew share = option_and_then (judge_wanted_of rows least skew share) (window_found rows)

-- the same, by the share of keys that was found
abbrev pub judge_wanted_in : List Row → ℕ → ℕ → Option Wanted
judge_wanted_in rows least skew = option_and_then (judge_wanted_at rows least skew) (share_found rows)

-- the same, unless a trace is to be written of calls whose stamps may differ, of puts that were added, or of calls that are forgotten as others come
abbrev pub judge_wanted_by : List Row → ℕ → ℕ → Option Wanted
judge_wanted_by rows least skew = if is_some (first_of (codes "trace") rows) && (nat_lt 0 skew || (is_on (codes "warm") rows || is_some (first_of (codes "window") rows))) then None else judge_wanted_in rows least skew

-- the judging that was found
abbrev pub judge_wanted_with : List Row → ℕ → Option Wanted
judge_wanted_with rows least = option_and_then (judge_wanted_by rows least) (skew_found rows)

abbrev pub judge_wanted : List Row → Option Wanted
judge_wanted rows = option_and_then (judge_wanted_with rows) (least_found rows)

-- the showing that was found
abbrev pub show_wanted : List Row → Option Wanted
show_wanted rows = option_map (λ file. Shown file (first_of (codes "key") rows)) (first_of (codes "FILE") rows)

-- the number of a setting, by what was found for its option, or by its default if nothing was: none if that is no number in its range
abbrev pub number_found : List Row → Setting → Option ℕ
number_found rows setting = number_in setting (unwrap_or (first_of (row_of setting).name rows) (row_of setting).default)

-- each of the settings has a number
abbrev pub has_numbers : List Setting → List Row → Bool
has_numbers settings rows = list_all (λ setting. is_some (number_found rows setting)) settings

-- the numbers of the settings
abbrev pub numbers_found : List Setting → List Row → List ℕ
numbers_found settings rows = map (λ setting. unwrap_or (number_found rows setting) 0) settings

-- the bytes of a size, by what was found for its option: the size is not given if nothing was found, and there is nothing if
-- that is no number in its range
abbrev pub bytes_given : Option Text → Option (Option ℕ)
bytes_given None = Some None
bytes_given (Some text) = option_map Some (bytes_in text)

abbrev pub bytes_found : List Row → SizeSetting → Option (Option ℕ)
bytes_found rows size = bytes_given (first_of (name_of size) rows)

-- each size that is given has a number in its range
abbrev pub has_sizes : List Row → Bool
has_sizes rows = is_some (bytes_found rows Size) && is_some (bytes_found rows MemoryBytes)

-- the option of a setting is given
abbrev pub is_given : List Row → Setting → Bool
is_given rows setting = is_some (first_of (row_of setting).name rows)

-- the first setting that is given of those that a size determines
abbrev pub shape_given : List Row → Option Setting
shape_given rows = find (is_given rows) shape_settings

-- a size is given, and a setting that it determines
abbrev pub determines_given : List Row → Bool
determines_given rows = is_some (unwrap_or (bytes_found rows Size) None) && is_some (shape_given rows)

-- the load that was found, if each setting has a number
abbrev pub load_wanted : List Row → Option Wanted
load_wanted rows =
    if has_numbers settings rows
    then option_map (Loaded (numbers_found settings rows) (is_on (codes "json") rows) (first_of (codes "device") rows)) (first_of (codes "trace") rows)
    else None

-- the load of a cache that serves that was found, if each setting and each size that is given has a number, and no setting is given
-- that a given size determines
abbrev pub served_wanted : List Row → Option Wanted
served_wanted rows =
    if has_numbers served_settings rows && (has_sizes rows && not (determines_given rows))
    then Some (Served (numbers_found served_settings rows) (unwrap_or (bytes_found rows Size) None) (unwrap_or (bytes_found rows MemoryBytes) None) (is_on (codes "zipf") rows) (is_on (codes "json") rows) (first_of (codes "device") rows))
    else None

-- what a subcommand asks for, by its name and what was found for its arguments
abbrev pub wanted_by : Text × List Row → Option Wanted
wanted_by (name, rows) =
    if bytes_eq name (codes "check") then check_wanted rows
    else (if bytes_eq name (codes "judge") then judge_wanted rows
    else (if bytes_eq name (codes "show") then show_wanted rows
    else (if bytes_eq name (codes "run") then load_wanted rows
    else (if bytes_eq name (codes "serve-load") then served_wanted rows
    else Some Replies))))

-- what the program's words ask for, if they ask for something
abbrev pub wanted_by_words : List Text → Option Wanted
wanted_by_words words = option_and_then wanted_by (subcommand_of program words)

-- ---- what is reported of words that ask for nothing

-- help or the version is told if the words ask for it, and a usage if they do not
abbrev pub IsToldOf : ErrorKind → LineFault → Type 0
IsToldOf kind (Usage text) = (kind ≢ DisplayHelp) × (kind ≢ DisplayVersion)
IsToldOf kind (Help text) = (kind ≡ DisplayHelp) ⊎ (kind ≡ DisplayVersion)
IsToldOf kind OutOfMemory = Unit {0}

-- a usage is told, or memory was refused
abbrev pub IsUsage : LineFault → Type 0
IsUsage (Usage text) = Unit {0}
IsUsage (Help text) = ⊥
IsUsage OutOfMemory = Unit {0}

-- one of the faults that the words have is told; if they have none, a usage: a number was none or out of its range
abbrev pub IsRefusal : Kinds → LineFault → Type 0
IsRefusal [] fault = IsUsage fault
IsRefusal (kind ∷ kinds) fault = (fault ≡ OutOfMemory) ⊎ ((told : ErrorKind) × IsAmong told (kind ∷ kinds) × IsToldOf told fault)
