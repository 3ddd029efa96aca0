-- What the trace of a history and its certificate is, byte by byte.
use Rattle.std.specs.Prelude.{◌≡◌, ℕ, ◌<◌, ◌≤◌, ◌^◌, List, [], ◌∷◌, ◌++◌, ◌⊎◌, length, codes, All}
use Rattle.std.specs.List.{flat_map}
use Rattle.std.specs.Int.{w16, w32, w64, to_be_bytes}
use Rattle.record_pages.specs.Expiry.{never}
use Rattle.trace_file.specs.declared.act.Act.{Act}
use Rattle.trace_file.specs.declared.act.Act.TheVariants.{Put, Remove, Hit, Miss}
use Rattle.trace_file.specs.declared.call.Call.{Call}
use Rattle.trace_file.specs.declared.header.Header.{Header}
use Rattle.trace_file.specs.declared.version.Version.{Version}
use Rattle.trace_file.specs.declared.version.Version.TheVariants.{Timed, Timeless}
use Rattle.trace_file.specs.Calls.{IsCall}

-- the eight bytes that each trace of a form begins with
abbrev pub magic : Version → List ℕ
magic Timed = codes "KGTRACE2"
magic Timeless = codes "KGTRACE1"

-- the most calls of a trace
abbrev pub most_calls : ℕ
most_calls = 268435456

-- the byte that stands for the kind of an act
abbrev pub kind_byte : Act → ℕ
kind_byte (Put value expires) = 1
kind_byte Remove = 2
kind_byte (Hit value moment) = 3
kind_byte Miss = 4

-- a key: its length in one byte, and its bytes
abbrev pub key_text : List ℕ → List ℕ
key_text key = (length key ∷ []) ++ key

-- a value: its length in two bytes, and its bytes
abbrev pub value_text : List ℕ → List ℕ
value_text value = to_be_bytes w16 (length value) ++ value

-- a time: eight bytes, and none in a trace that says no times
abbrev pub time_text : Version → ℕ → List ℕ
time_text Timed time = to_be_bytes w64 time
time_text Timeless time = []

-- what stands after the key: the value and its time, if the act has them
abbrev pub act_text : Version → Act → List ℕ
act_text version (Put value expires) = value_text value ++ time_text version expires
act_text version Remove = []
act_text version (Hit value moment) = value_text value ++ time_text version moment
act_text version Miss = []

-- a call: kind, caller, start, end, key, and the value and its time if there are any
unfoldable pub call_text : Version → Call → List ℕ
call_text version c =
    (kind_byte c.act ∷ [])
    ++ (to_be_bytes w16 c.caller ++ (to_be_bytes w64 c.start ++ (to_be_bytes w64 c.end ++ (key_text c.key ++ act_text version c.act))))

-- a position: four bytes
abbrev pub position_text : ℕ → List ℕ
position_text position = to_be_bytes w32 position

-- the header of a form and a count
abbrev pub header_of : Version → ℕ → Header
header_of version count = record { version = version; count = count }

-- what stands before the calls: the magic, and how many calls there are
unfoldable pub header_text : Header → List ℕ
header_text h = magic h.version ++ to_be_bytes w32 h.count

-- the header, the calls one after the other, the positions one after the other, and nothing more
unfoldable pub text_of : Version → List Call → List ℕ → List ℕ
text_of version history certificate =
    header_text (header_of version (length history)) ++ (flat_map (call_text version) history ++ flat_map position_text certificate)

-- a trace that says no times can say only puts that never expire, and hits of moment 0
abbrev pub CanSay : Version → Act → Type 0
CanSay Timed act = Unit {0}
CanSay Timeless (Put value expires) = expires ≡ never
CanSay Timeless Remove = Unit {0}
CanSay Timeless (Hit value moment) = moment ≡ 0
CanSay Timeless Miss = Unit {0}

-- a call that a trace of this form can say
pub record IsCallOf (version : Version) (call : Call) : Type 0 where
  pub lawful : IsCall call
  pub said : CanSay version call.act

-- a history and a certificate that have a trace
pub record IsPair (history : List Call) (certificate : List ℕ) : Type 0 where
  pub calls : All IsCall history
  pub positions : All (λ position. position < 2 ^ 32) certificate
  pub few : length history ≤ most_calls
  pub as_many : length certificate ≡ length history

-- a history and a certificate that have a trace of this form
pub record IsPairOf (version : Version) (history : List Call) (certificate : List ℕ) : Type 0 where
  pub calls : All (IsCallOf version) history
  pub positions : All (λ position. position < 2 ^ 32) certificate
  pub few : length history ≤ most_calls
  pub as_many : length certificate ≡ length history

-- these bytes are the trace of this form of this history and this certificate
pub record IsTraceOf (version : Version) (bytes : List ℕ) (history : List Call) (certificate : List ℕ) : Type 0 where
  pub pair : IsPairOf version history certificate
  pub text : bytes ≡ text_of version history certificate

-- these bytes are a trace of this history and this certificate, of either form
abbrev pub IsTrace : List ℕ → List Call → List ℕ → Type 0
IsTrace bytes history certificate = IsTraceOf Timed bytes history certificate ⊎ IsTraceOf Timeless bytes history certificate
