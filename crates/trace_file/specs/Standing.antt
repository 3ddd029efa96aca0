-- Where each fault of a trace stands, said of the bytes alone and of no reader.
use Rattle.std.specs.Prelude.{◌≡◌, ◌≢◌, ℕ, ◌+◌, ◌<◌, ◌≤◌, ◌^◌, ◌⊎◌, List, [], ◌∷◌, ◌++◌, length, take, slice_index, All}
use Rattle.std.specs.List.{flat_map}
use Rattle.std.specs.Int.{w16, w32, to_be_bytes}
use Rattle.record_pages.specs.Bounded.{IsKey}
use Rattle.trace_file.specs.declared.call.Call.{Call}
use Rattle.trace_file.specs.declared.trace_fault.TraceFault.{TraceFault}
use Rattle.trace_file.specs.declared.trace_fault.TraceFault.TheVariants.{BadMagic, TooMany, BadKind, BadKey, BadValue, Truncated, TrailingBytes, ReadFault, OutOfMemory}
use Rattle.trace_file.specs.declared.version.Version.{Version}
use Rattle.trace_file.specs.declared.version.Version.TheVariants.{Timed, Timeless}
use Rattle.trace_file.specs.Text.{magic, most_calls, call_text, key_text, header_of, header_text, text_of, IsCallOf, IsPairOf}

-- the first eight bytes are not the older magic, and of them this one is the first that differs from the timed one
pub record DiffersAt (bytes : List ℕ) (at : ℕ) : Type 0 where
  pub there : 8 ≤ length bytes
  pub within : at < 8
  pub not_older : take 8 bytes ≢ magic Timeless
  pub same : take at bytes ≡ take at (magic Timed)
  pub other : slice_index bytes at ≢ slice_index (magic Timed) at

-- after a magic stands a count that is above the most calls
pub record CountsTooMany (bytes : List ℕ) (at : ℕ) : Type 0 where
  pub version : Version
  pub count : ℕ
  pub more : List ℕ
  pub split : bytes ≡ magic version ++ (to_be_bytes w32 count ++ more)
  pub number : count < 2 ^ 32
  pub above : most_calls < count
  pub at_is : at ≡ 8

-- these bytes are the header and calls, fewer than it counts
pub record AreCalls (front : List ℕ) : Type 0 where
  pub version : Version
  pub count : ℕ
  pub calls : List Call
  pub text : front ≡ header_text (header_of version count) ++ flat_map (call_text version) calls
  pub few : count ≤ most_calls
  pub lawful : All (IsCallOf version) calls
  pub fewer : length calls < count

-- one of the four kinds
abbrev pub IsKind : ℕ → Type 0
IsKind kind = (1 ≤ kind) × (kind ≤ 4)

-- these bytes are what a call has before its key: a kind, and 18 bytes of a caller, a start and an end
pub record IsHead (head : List ℕ) : Type 0 where
  pub kind : ℕ
  pub numbers : List ℕ
  pub text : head ≡ kind ∷ numbers
  pub known : IsKind kind
  pub long : length numbers ≡ 18

-- after the header and calls, fewer than it counts, stands a byte that is no kind
pub record HasBadKind (bytes : List ℕ) (at : ℕ) : Type 0 where
  pub front : List ℕ
  pub before : AreCalls front
  pub kind : ℕ
  pub more : List ℕ
  pub split : bytes ≡ front ++ (kind ∷ more)
  pub unknown : ¬ IsKind kind
  pub at_is : at ≡ length front

-- after them stands the head of a call, and then 0 as the length of its key
pub record HasBadKey (bytes : List ℕ) (at : ℕ) : Type 0 where
  pub front : List ℕ
  pub before : AreCalls front
  pub head : List ℕ
  pub is_head : IsHead head
  pub more : List ℕ
  pub split : bytes ≡ front ++ (head ++ (0 ∷ more))
  pub at_is : at ≡ length front + length head

-- after them stands the head of a put or a hit, its key, and then a length of its value that is above 2,048
pub record HasBadValue (bytes : List ℕ) (at : ℕ) : Type 0 where
  pub front : List ℕ
  pub before : AreCalls front
  pub head : List ℕ
  pub is_head : IsHead head
  pub valued : (is_head.kind ≡ 1) ⊎ (is_head.kind ≡ 3)
  pub key : List ℕ
  pub is_key : IsKey key
  pub len : ℕ
  pub more : List ℕ
  pub split : bytes ≡ front ++ (head ++ (key_text key ++ (to_be_bytes w16 len ++ more)))
  pub above : 2048 < len
  pub number : len < 2 ^ 16
  pub at_is : at ≡ length front + length head + length (key_text key)

-- after a whole trace stands a byte
pub record HasMore (bytes : List ℕ) (at : ℕ) : Type 0 where
  pub version : Version
  pub history : List Call
  pub certificate : List ℕ
  pub pair : IsPairOf version history certificate
  pub more : List ℕ
  pub some : more ≢ []
  pub split : bytes ≡ text_of version history certificate ++ more
  pub at_is : at ≡ length (text_of version history certificate)

-- where a fault stands among these bytes
abbrev pub StandsIn : List ℕ → TraceFault → Type 0
StandsIn bytes (BadMagic at) = DiffersAt bytes at
StandsIn bytes (TooMany at) = CountsTooMany bytes at
StandsIn bytes (BadKind at) = HasBadKind bytes at
StandsIn bytes (BadKey at) = HasBadKey bytes at
StandsIn bytes (BadValue at) = HasBadValue bytes at
StandsIn bytes (TrailingBytes at) = HasMore bytes at
StandsIn bytes (Truncated at) = ⊥
StandsIn bytes (ReadFault at) = ⊥
StandsIn bytes OutOfMemory = ⊥
