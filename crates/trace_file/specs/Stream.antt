-- A stream of bytes that may go on, as far as it was taken apart.
use Rattle.std.specs.Prelude.{◌≡◌, ◌≢◌, ℕ, ◌+◌, ◌-◌, ◌<◌, ◌≤◌, ◌^◌, List, [], ◌++◌, length, All, Bool, false, Option, Some, None, Result, Ok, Err, ◌==◌, if◌then◌else◌}
use Rattle.std.specs.List.{flat_map}
use Rattle.trace_file.specs.declared.call.Call.{Call}
use Rattle.trace_file.specs.declared.header.Header.{Header}
use Rattle.trace_file.specs.declared.item_fault.ItemFault.{ItemFault}
use Rattle.trace_file.specs.declared.item_fault.ItemFault.TheVariants.{Short, Fault}
use Rattle.trace_file.specs.declared.trace_so_far.TraceSoFar.{TraceSoFar}
use Rattle.trace_file.specs.declared.trace.Trace.{Trace}
use Rattle.trace_file.specs.declared.trace_fault.TraceFault.{TraceFault}
use Rattle.trace_file.specs.declared.trace_fault.TraceFault.TheVariants.{OutOfMemory}
use Rattle.trace_file.specs.Reading.{Place, place, Read, ◌>>=◌, call_at, position_at, many_at, end_at, trace_at, outcome_of, first_fault_of}
use Rattle.trace_file.specs.Text.{most_calls, call_text, position_text, header_text, IsCallOf}

-- a history and a certificate
abbrev pub pair_of : List Call → List ℕ → Trace
pair_of history certificate = record { history = history; certificate = certificate }

-- the text of what was taken so far: the header, and the calls and positions that it counts
unfoldable pub counted_text : Header → List Call → List ℕ → List ℕ
counted_text header calls positions = header_text header ++ (flat_map (call_text header.version) calls ++ flat_map position_text positions)

-- what is read after these of the calls and positions that the header counts
unfoldable pub counted_at : Header → List Call → List ℕ → Place → Result Trace ItemFault
counted_at header calls positions p = do
  more ← many_at (call_at header.version) (header.count - length calls) p
  others ← many_at position_at (header.count - length positions) more.1
  end_at (pair_of (calls ++ more.0) (positions ++ others.0)) others.1

-- the calls and positions that a header may have after it so far
pub record IsCounted (header : Header) (history : List Call) (certificate : List ℕ) : Type 0 where
  pub few : header.count ≤ most_calls
  pub within : length history ≤ header.count
  pub behind : length certificate ≤ header.count
  pub in_turn : 0 < length certificate → length history ≡ header.count
  pub calls : All (IsCallOf header.version) history
  pub positions : All (λ position. position < 2 ^ 32) certificate

-- what was read before, followed by what is read
abbrev pub in_front : {A : Type 0} → List A → Read (List A) → Read (List A)
in_front xs (Ok others) = Ok (xs ++ others.0, others.1)
in_front xs (Err d) = Err d

-- items were taken one after the other, from one place on to another, until the old list became the new one
pub record TakesItems {A : Type 0} (item : Place → Read A) (text : A → List ℕ) (lawful : A → Type 0) (count : ℕ) (old new : List A) (p q : Place) : Type 0 where
  pub read : in_front new (many_at item (count - length new) q) ≡ in_front old (many_at item (count - length old) p)
  pub spelled : flat_map text new ++ q.bytes ≡ flat_map text old ++ p.bytes
  pub at : q.at + length (flat_map text old) ≡ p.at + length (flat_map text new)
  pub within : length new ≤ count
  pub are : All lawful old → All lawful new
  pub grown : length old ≤ length new
  pub onward : p.at ≤ q.at
  pub waits : length new < count → item q ≡ Err Short

-- the fault that was met, want of memory aside
abbrev pub FailsAs : {X : Type 0} → TraceFault → Result X ItemFault → Type 0
FailsAs fault read = fault ≢ OutOfMemory → read ≡ Err (Fault fault)

-- the text of what was taken: nothing before the header is whole
abbrev pub text_so_far : Option Header → List Call → List ℕ → List ℕ
text_so_far None history certificate = []
text_so_far (Some header) history certificate = counted_text header history certificate

-- what is read after what was taken
abbrev pub read_behind : Option Header → List Call → List ℕ → Place → Result Trace ItemFault
read_behind None history certificate p = trace_at p
read_behind (Some header) history certificate p = counted_at header history certificate p

-- what can have been taken
abbrev pub IsTaken : Option Header → List Call → List ℕ → Type 0
IsTaken None history certificate = (history ≡ []) × (certificate ≡ [])
IsTaken (Some header) history certificate = IsCounted header history certificate

-- whether all positions that the header counts were taken, so all calls too
abbrev pub whole : Option Header → List ℕ → Bool
whole None certificate = false
whole (Some header) certificate = length certificate == header.count

-- what is known with no further byte: the pair, once it is whole
abbrev pub standing : Option Header → List Call → List ℕ → Result Trace ItemFault
standing header history certificate = if whole header certificate then Ok (pair_of history certificate) else Err Short

-- taking went on from one place to another, and what is read from there on is the same
pub record GoesOn (header : Header) (old_calls : List Call) (old_positions : List ℕ) (p : Place) (calls : List Call) (positions : List ℕ) (q : Place) : Type 0 where
  pub counted : IsCounted header calls positions
  pub spelled : counted_text header calls positions ++ q.bytes ≡ counted_text header old_calls old_positions ++ p.bytes
  pub at : q.at ≡ length (counted_text header calls positions)
  pub onward : p.at ≤ q.at
  pub read : counted_at header old_calls old_positions p ≡ counted_at header calls positions q

-- after the header, as much as is whole was taken of the bytes at a place, and reading waits at another
pub record Settles (header : Header) (old_calls : List Call) (old_positions : List ℕ) (p : Place) (calls : List Call) (positions : List ℕ) (q : Place) : Type 0 where
  pub on : GoesOn header old_calls old_positions p calls positions q
  pub stands : counted_at header calls positions q ≡ standing (Some header) calls positions

-- the header is taken, and what is read after it is what was read before
pub record Opened (old new : TraceSoFar) (p : Place) (opened : Header) (q : Place) : Type 0 where
  pub header : new ≡ record old { header = Some opened }
  pub counted : IsCounted opened old.history old.certificate
  pub spelled : counted_text opened old.history old.certificate ++ q.bytes ≡ text_so_far old.header old.history old.certificate ++ p.bytes
  pub at : q.at ≡ length (counted_text opened old.history old.certificate)
  pub onward : p.at ≤ q.at
  pub read : read_behind old.header old.history old.certificate p ≡ counted_at opened old.history old.certificate q

-- the header was taken, or it is not yet whole
abbrev pub Opens : TraceSoFar → TraceSoFar → Place → Option (Header × Place) → Type 0
Opens old new p None = (new ≡ old) × (old.header ≡ None) × (trace_at p ≡ Err Short)
Opens old new p (Some x) = Opened old new p x.0 x.1

-- as much as is whole was taken of the bytes at a place, and reading waits at another
pub record Advances (old new : TraceSoFar) (p q : Place) : Type 0 where
  pub taken : IsTaken new.header new.history new.certificate
  pub spelled : text_so_far new.header new.history new.certificate ++ q.bytes ≡ text_so_far old.header old.history old.certificate ++ p.bytes
  pub at : q.at ≡ length (text_so_far new.header new.history new.certificate)
  pub onward : p.at ≤ q.at
  pub stands : read_behind old.header old.history old.certificate p ≡ standing new.header new.history new.certificate

-- what a reader of pieces knows of the stream that was fed to it: what was taken, with its length, and the bytes after it
pub record IsReading (taken : TraceSoFar) (at : ℕ) (pending : List ℕ) : Type 0 where
  pub taken_is : IsTaken taken.header taken.history taken.certificate
  pub at_is : at ≡ length (text_so_far taken.header taken.history taken.certificate)
  pub are_bytes : All (λ byte. byte < 256) (text_so_far taken.header taken.history taken.certificate ++ pending)
  pub stands : trace_at (place 0 (text_so_far taken.header taken.history taken.certificate ++ pending)) ≡ standing taken.header taken.history taken.certificate

-- what taking of further bytes starts from
pub record StartsOn (taken : TraceSoFar) (at : ℕ) (pending : List ℕ) : Type 0 where
  pub small : at < 2 ^ 40
  pub taken_is : IsTaken taken.header taken.history taken.certificate
  pub at_is : at ≡ length (text_so_far taken.header taken.history taken.certificate)
  pub are_bytes : All (λ byte. byte < 256) (text_so_far taken.header taken.history taken.certificate ++ pending)

-- the stream is the same, and now its standing is known
pub record Keeps (old : TraceSoFar) (old_pending : List ℕ) (taken : TraceSoFar) (at : ℕ) (pending : List ℕ) : Type 0 where
  pub small : at < 2 ^ 40
  pub reading : IsReading taken at pending
  pub same : text_so_far taken.header taken.history taken.certificate ++ pending ≡ text_so_far old.header old.history old.certificate ++ old_pending

-- the fault is the first one of the stream, whatever follows, want of memory aside
abbrev pub FaultIn : List ℕ → TraceFault → Type 0
FaultIn stream fault = fault ≢ OutOfMemory → (more : List ℕ) → first_fault_of (stream ++ more) ≡ Some fault

-- what a reader of pieces keeps: its offset is below the length of the longest trace, and with no fault it knows its stream
pub record IsReader (taken : TraceSoFar) (at : ℕ) (pending : List ℕ) (fault : Option TraceFault) : Type 0 where
  pub small : at < 2 ^ 40
  pub reading : fault ≡ None → IsReading taken at pending

-- the stream that was fed
abbrev pub stream_of : TraceSoFar → List ℕ → List ℕ
stream_of taken pending = text_so_far taken.header taken.history taken.certificate ++ pending

-- the stream that was fed, or the fault that was answered
abbrev pub fed_of : Option TraceFault → List ℕ → Result (List ℕ) TraceFault
fed_of None stream = Ok stream
fed_of (Some fault) stream = Err fault

-- what a stream gives that ends here: its outcome, or the fault that was answered before
abbrev pub finished : Result (List ℕ) TraceFault → Result Trace TraceFault
finished (Ok stream) = outcome_of stream
finished (Err fault) = Err fault
