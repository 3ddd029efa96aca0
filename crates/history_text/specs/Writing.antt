-- A history as text.
use Rattle.std.specs.Prelude.{◌≡◌, ℕ, ◌^◌, Bool, true, false, ◌&&◌, ◌||◌, ◌==◌, nat_lt, All, List, [], ◌++◌, if◌then◌else◌, IsSomeAnd, Option, Some, None, codes, option_map, slice_get, take}
use Rattle.std.specs.Borrow.{Bor}
use Rattle.std.specs.Fmt.{decimal}
use Rattle.std.specs.Io.KnownBytes.{Appends, Keeps}
use Rattle.std.specs.List.{flat_map}
use Rattle.std.specs.Str.{bytes_eq}
use Rattle.record_pages.specs.Expiry.{never}
use Rattle.trace_file.specs.declared.act.Act.{Act}
use Rattle.trace_file.specs.declared.act.Act.TheVariants.{Put, Remove, Hit, Miss}
use Rattle.trace_file.specs.declared.call.Call.{Call}
use Rattle.trace_file.specs.Sending.{Begun}
use Rattle.history_text.specs.declared.write_text_fault.WriteTextFault.{WriteTextFault}
use Rattle.history_text.specs.declared.write_text_fault.WriteTextFault.TheVariants.{TooLate, OutOfMemory, WriteFault}
use Rattle.history_text.specs.Coding.{word_of}

-- a number below 2 ^ 63 has a text
abbrev pub has_number : ℕ → Bool
has_number n = nat_lt n (2 ^ 63)

-- the end of a put or a removal has a text, also if it never returned
abbrev pub has_end : ℕ → Bool
has_end n = has_number n || (n == never)

-- what a call with this end did has a text
abbrev pub act_has_text : Act → ℕ → Bool
act_has_text (Put value expires) end = has_end end && (has_number expires || (expires == never))
act_has_text Remove end = has_end end
act_has_text (Hit value moment) end = has_number end && has_number moment
act_has_text Miss end = has_number end

-- a call has a text
abbrev pub has_text : Call → Bool
has_text call = has_number call.start && act_has_text call.act call.end

-- an end as a word
abbrev pub end_text : ℕ → List ℕ
end_text end = if end == never then codes "-" else decimal end

-- caller N, called cN, the start and the end
abbrev pub text_front : ℕ → ℕ → ℕ → List ℕ
text_front caller start end = codes "c" ++ decimal caller ++ codes " " ++ decimal start ++ codes " " ++ end_text end

-- the line of a put, by its words; an expiry of never is left out
abbrev pub put_text : List ℕ → List ℕ → List ℕ → ℕ → List ℕ
put_text front key value expires =
    if expires == never then front ++ codes " put " ++ key ++ codes " " ++ value ++ codes "\n"
    else front ++ codes " put " ++ key ++ codes " " ++ value ++ codes " " ++ decimal expires ++ codes "\n"

-- the line of a hit, by its words; a moment of 0 is left out
abbrev pub hit_text : List ℕ → List ℕ → List ℕ → ℕ → List ℕ
hit_text front key value moment =
    if moment == 0 then front ++ codes " hit " ++ key ++ codes " " ++ value ++ codes "\n"
    else front ++ codes " hit " ++ key ++ codes " " ++ value ++ codes " " ++ decimal moment ++ codes "\n"

-- the line of a call that has no value, by its words
abbrev pub bare_text : List ℕ → List ℕ → List ℕ → List ℕ
bare_text front kind key = front ++ codes " " ++ kind ++ codes " " ++ key ++ codes "\n"

-- the line of what a call did, after what it begins with and its key's word
abbrev pub act_text : List ℕ → List ℕ → Act → List ℕ
act_text front key (Put value expires) = put_text front key (word_of value) expires
act_text front key Remove = bare_text front (codes "remove") key
act_text front key (Hit value moment) = hit_text front key (word_of value) moment
act_text front key Miss = bare_text front (codes "miss") key

-- the line of a call, with its line feed
abbrev pub text_line : Call → List ℕ
text_line call = act_text (text_front call.caller call.start call.end) (word_of call.key) call.act

-- a key is one of those that are asked for: the one that is named, or each if none is
abbrev pub is_chosen : Option (List ℕ) → List ℕ → Bool
is_chosen (Some only) key = bytes_eq only key
is_chosen None key = true

-- the key that is named, by its bytes
abbrev pub named : Option (Bor (List ℕ)) → Option (List ℕ)
named only = option_map (λ key. key.now) only

-- the line of a call, if its key is asked for
unfoldable pub line_where : Option (List ℕ) → Call → List ℕ
line_where only call = if is_chosen only call.key then text_line call else []

-- the text of the calls whose keys are asked for
abbrev pub written : Option (List ℕ) → List Call → List ℕ
written only calls = flat_map (line_where only) calls

-- a call has a text, if its key is asked for
abbrev pub HasTextWhere : Option (List ℕ) → Call → Type 0
HasTextWhere only call = is_chosen only call.key ≡ true → has_text call ≡ true

-- the fault that writing a call at a position stops at: it has no text, and nothing was written; or its line was begun
abbrev pub StopsAt : Option (List ℕ) → Call → ℕ → Option (List ℕ) → Option (List ℕ) → WriteTextFault → Type 0
StopsAt only call position old new (TooLate at) = (at ≡ position) × (is_chosen only call.key ≡ true) × (has_text call ≡ false) × Keeps old new
StopsAt only call position old new OutOfMemory = Keeps old new
StopsAt only call position old new WriteFault = Begun old new (line_where only call)

-- the call at the position of a fault is the first of those that are asked for that has no text
abbrev pub IsFirstWithout : Option (List ℕ) → List Call → WriteTextFault → Type 0
IsFirstWithout only calls (TooLate at) =
    IsSomeAnd (slice_get calls at) (λ call. (is_chosen only call.key ≡ true) × (has_text call ≡ false)) × All (HasTextWhere only) (take at calls)
IsFirstWithout only calls OutOfMemory = Unit {0}
IsFirstWithout only calls WriteFault = Unit {0}

-- what was written before a fault: the lines of the calls before the one that has no text, or of some of the first calls, or a front of all that ends within them
abbrev pub WroteBefore : Option (List ℕ) → List Call → Option (List ℕ) → Option (List ℕ) → WriteTextFault → Type 0
WroteBefore only calls old new (TooLate at) = Appends old new (written only (take at calls))
WroteBefore only calls old new OutOfMemory = (count : ℕ) × Appends old new (written only (take count calls))
WroteBefore only calls old new WriteFault = Begun old new (written only calls)
