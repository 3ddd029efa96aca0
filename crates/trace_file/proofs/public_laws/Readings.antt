-- Reading from a reader, piece by piece.
use Rattle.std.proofs.Common.{◌≡◌, ◌≢◌, ℕ, ◌≤◌, List, [], ◌++◌, length, take, Option, Some, None, Result, Ok, Err, sym, ap, subst, ◌∙◌, arith}
use Rattle.std.specs.Prelude.{IfOk, IfSome}
use Rattle.std.specs.Io.KnownBytes.{Consumes, IsAtEnd, Keeps}
use Rattle.std.proofs.lemmas.List.{append-nil, length-append, take_at}
use Rattle.trace_file.specs.declared.item_fault.ItemFault.{ItemFault}
use Rattle.trace_file.specs.declared.item_fault.ItemFault.TheVariants.{Short, Fault}
use Rattle.trace_file.specs.declared.trace.Trace.{Trace}
use Rattle.trace_file.specs.declared.trace_fault.TraceFault.{TraceFault}
use Rattle.trace_file.specs.declared.trace_fault.TraceFault.TheVariants.{BadMagic, TooMany, BadKind, BadKey, BadValue, Truncated, TrailingBytes, ReadFault, OutOfMemory}
use Rattle.trace_file.specs.declared.call.Call.{Call}
use Rattle.trace_file.specs.Outcome.{IsOfText, IsFaultOf, StoppedIn, Leaves}
use Rattle.trace_file.specs.Reading.{place, trace_at, at_end, outcome_of, met, first_fault_of}
use Rattle.trace_file.specs.Stream.{FaultIn, finished}
use Rattle.trace_file.specs.Text.{IsTrace}
use Rattle.trace_file.proofs.ReaderLaws.{nothing_there}
use Rattle.trace_file.proofs.public_laws.TraceLaws.{trace_kind}
use Rattle.std.proofs.KnownBytes.{Consumes-nil, Consumes-trans, Consumes-kept}

-- how many bytes were fed, as long as no fault was answered
abbrev pub length_fed : Result (List ℕ) TraceFault → ℕ
length_fed (Ok stream) = length stream
length_fed (Err fault) = 0

-- these bytes were read and fed, and have no fault
pub record ReadSoFar (initial now : Option (List ℕ)) (parts : Result (List ℕ) TraceFault) : Type 0 where
  pub stream : List ℕ
  pub fed : parts ≡ Ok stream
  pub consumed : Consumes initial now stream
  pub faultless : first_fault_of stream ≡ None

pub read_none : (initial : Option (List ℕ)) (parts : Result (List ℕ) TraceFault) → parts ≡ Ok [] → ReadSoFar initial initial parts
unfolding first_fault_of
read_none initial parts fresh = record { stream = []; fed = fresh; consumed = Consumes-nil initial; faultless = ap met nothing_there }

by_known : (initial next : Option (List ℕ)) (stream : List ℕ) → Consumes initial next stream → IsAtEnd next → IfSome initial (λ bytes. stream ≡ bytes)
by_known None next stream took end = tt
by_known (Some bytes) None stream took end = absurd took
by_known (Some bytes) (Some rest) stream took end = sym (took ∙ ap (λ (r : List ℕ). stream ++ r) end ∙ append-nil stream)

carried : (initial : Option (List ℕ)) (stream : List ℕ) (P : List ℕ → Type 0) → IfSome initial (λ bytes. stream ≡ bytes) → P stream → IfSome initial P
carried None stream P same p = tt
carried (Some bytes) stream P same p = subst P same p

outcome_by : (n : ℕ) (r : Result Trace ItemFault) (f : TraceFault) → met r ≡ Some f → at_end n r ≡ Err f
outcome_by n (Ok t) f e = absurd cc
outcome_by n (Err Short) f e = absurd cc
outcome_by n (Err (Fault g)) f e = cc

pub stopped_by : (r : Result Trace ItemFault) (f : TraceFault) → met r ≡ Some f → r ≡ Err (Fault f)
stopped_by (Ok t) f e = absurd cc
stopped_by (Err Short) f e = absurd cc
stopped_by (Err (Fault g)) f e = cc

-- the first fault of the bytes is what the whole input gives
pub fault_is : (bytes : List ℕ) (f : TraceFault) → first_fault_of bytes ≡ Some f → (outcome_of bytes ≡ Err f) × IsOfText f
unfolding first_fault_of outcome_of
fault_is bytes f e = (outcome_by (length bytes) (trace_at (place 0 bytes)) f e, trace_kind (place 0 bytes) f (stopped_by (trace_at (place 0 bytes)) f e))

-- a fault of the text, or want of memory, is the fault of the bytes
by_fault : (bytes : List ℕ) (f : TraceFault) → (f ≢ OutOfMemory → (outcome_of bytes ≡ Err f) × IsOfText f) → IsFaultOf bytes f
by_fault bytes (BadMagic at) is = (is (λ e. cc)).0
by_fault bytes (TooMany at) is = (is (λ e. cc)).0
by_fault bytes (BadKind at) is = (is (λ e. cc)).0
by_fault bytes (BadKey at) is = (is (λ e. cc)).0
by_fault bytes (BadValue at) is = (is (λ e. cc)).0
by_fault bytes (Truncated at) is = (is (λ e. cc)).0
by_fault bytes (TrailingBytes at) is = (is (λ e. cc)).0
by_fault bytes (ReadFault at) is = absurd (is (λ e. cc)).1
by_fault bytes OutOfMemory is = tt

in_front_of : (initial next : Option (List ℕ)) (stream : List ℕ) (f : TraceFault) → Consumes initial next stream → FaultIn stream f → IfSome initial (λ bytes. IsFaultOf bytes f)
in_front_of None next stream f took here = tt
in_front_of (Some bytes) None stream f took here = absurd took
in_front_of (Some bytes) (Some rest) stream f took here = by_fault bytes f (λ known. fault_is bytes f (ap first_fault_of took ∙ here known rest))

behind_front : (initial next : Option (List ℕ)) (stream : List ℕ) (at : ℕ) → Consumes initial next stream → at ≡ length stream → first_fault_of stream ≡ None
    → IfSome initial (λ bytes. IsFaultOf bytes (ReadFault at)) × Leaves initial next (ReadFault at)
behind_front None next stream at took at-is none = (tt, tt)
behind_front (Some bytes) None stream at took at-is none = absurd took
behind_front (Some bytes) (Some rest) stream at took at-is none =
    let front : take at bytes ≡ stream = ap (take at) took ∙ take_at stream rest at (sym at-is) in
    ((omega (arith, at-is, ap length took, length-append stream rest), ap first_fault_of front ∙ none), took ∙ ap (λ (s : List ℕ). s ++ rest) (sym front))

-- what is left, at a fault of the text or want of memory
pub leaves : (initial next : Option (List ℕ)) (f : TraceFault) → (f ≢ OutOfMemory → IsOfText f) → StoppedIn initial next f → Leaves initial next f
leaves initial next (BadMagic at) is stopped = stopped
leaves initial next (TooMany at) is stopped = stopped
leaves initial next (BadKind at) is stopped = stopped
leaves initial next (BadKey at) is stopped = stopped
leaves initial next (BadValue at) is stopped = stopped
leaves initial next (Truncated at) is stopped = absurd (is (λ e. cc))
leaves initial next (TrailingBytes at) is stopped = stopped
leaves initial next (ReadFault at) is stopped = absurd (is (λ e. cc))
leaves initial next OutOfMemory is stopped = stopped

of_text : (stream chunk : List ℕ) (f : TraceFault) → FaultIn (stream ++ chunk) f → f ≢ OutOfMemory → IsOfText f
of_text stream chunk f here known = (fault_is ((stream ++ chunk) ++ []) f (here known [])).1

module _ {initial now : Option (List ℕ)} {parts : Result (List ℕ) TraceFault} (so_far : ReadSoFar initial now parts) where
  -- a piece was read and fed
  pub read_more : (next : Option (List ℕ)) (more : Result (List ℕ) TraceFault) (chunk : List ℕ) → Consumes now next chunk → IfOk parts (λ s. more ≡ Ok (s ++ chunk)) → IfOk parts (λ s. first_fault_of (s ++ chunk) ≡ None)
      → ReadSoFar initial next more
  read_more next more chunk took ok faultless = record {
    stream = so_far.stream ++ chunk;
    fed = subst (λ (r : Result (List ℕ) TraceFault). IfOk r (λ s. more ≡ Ok (s ++ chunk))) so_far.fed ok;
    consumed = Consumes-trans initial now next so_far.stream chunk so_far.consumed took;
    faultless = subst (λ (r : Result (List ℕ) TraceFault). IfOk r (λ s. first_fault_of (s ++ chunk) ≡ None)) so_far.fed faultless;
  }

  -- the input is at its end
  whole_read : (next : Option (List ℕ)) → Consumes now next [] → IsAtEnd next → IfSome initial (λ bytes. so_far.stream ≡ bytes)
  whole_read next took end =
      by_known initial next so_far.stream (subst (Consumes initial next) (append-nil so_far.stream) (Consumes-trans initial now next so_far.stream [] so_far.consumed took)) end

  pub whole_trace : (h : List Call) (c : List ℕ) → IfOk parts (λ s. IsTrace s h c) → IsTrace so_far.stream h c
  whole_trace h c is = subst (λ (r : Result (List ℕ) TraceFault). IfOk r (λ s. IsTrace s h c)) so_far.fed is

  pub trace_read : (next : Option (List ℕ)) (h : List Call) (c : List ℕ) → Consumes now next [] → IsAtEnd next → IfOk parts (λ s. IsTrace s h c) → IfSome initial (λ bytes. IsTrace bytes h c)
  trace_read next h c took end is = carried initial so_far.stream (λ bytes. IsTrace bytes h c) (whole_read next took end) (whole_trace h c is)

  -- the input ended too early
  pub cut_read : (next : Option (List ℕ)) (f : TraceFault) → Consumes now next [] → IsAtEnd next → Err f ≡ finished parts → IfOk parts (λ s. f ≡ Truncated (length s)) → IfSome initial (λ bytes. IsFaultOf bytes f)
  cut_read next f took end is cut =
      let at : f ≡ Truncated (length so_far.stream) = subst (λ (r : Result (List ℕ) TraceFault). IfOk r (λ s. f ≡ Truncated (length s))) so_far.fed cut in
      let out : outcome_of so_far.stream ≡ Err (Truncated (length so_far.stream)) = sym (is ∙ ap finished so_far.fed) ∙ ap (λ (g : TraceFault). Err g) at in
      subst (λ (g : TraceFault). IfSome initial (λ bytes. IsFaultOf bytes g)) (sym at)
      (carried initial so_far.stream (λ bytes. outcome_of bytes ≡ Err (Truncated (length so_far.stream))) (whole_read next took end) out)

  -- a piece had a fault
  pub fault_read : (next : Option (List ℕ)) (f : TraceFault) (chunk : List ℕ) → Consumes now next chunk → IfOk parts (λ s. FaultIn (s ++ chunk) f) → IfSome initial (λ bytes. IsFaultOf bytes f)
  fault_read next f chunk took fault =
      let here = subst (λ (r : Result (List ℕ) TraceFault). IfOk r (λ s. FaultIn (s ++ chunk) f)) so_far.fed fault in
      in_front_of initial next (so_far.stream ++ chunk) f (Consumes-trans initial now next so_far.stream chunk so_far.consumed took) here

  pub fault_leaves : (next : Option (List ℕ)) (f : TraceFault) (chunk : List ℕ) → Consumes now next chunk → length chunk ≤ 4096 → IfOk parts (λ s. FaultIn (s ++ chunk) f) → Leaves initial next f
  fault_leaves next f chunk took few fault =
      let here = subst (λ (r : Result (List ℕ) TraceFault). IfOk r (λ s. FaultIn (s ++ chunk) f)) so_far.fed fault in
      leaves initial next f (of_text so_far.stream chunk f here) (record {
        front = so_far.stream;
        piece = chunk;
        taken = Consumes-trans initial now next so_far.stream chunk so_far.consumed took;
        no_fault = so_far.faultless;
        few = few;
        met = λ known. ap first_fault_of (sym (append-nil (so_far.stream ++ chunk))) ∙ here known [];
      })

  pub cut_leaves : (next : Option (List ℕ)) (f : TraceFault) → Consumes now next [] → IsAtEnd next → IfOk parts (λ s. f ≡ Truncated (length s)) → Leaves initial next f
  cut_leaves next f took end cut =
      let at : f ≡ Truncated (length so_far.stream) = subst (λ (r : Result (List ℕ) TraceFault). IfOk r (λ s. f ≡ Truncated (length s))) so_far.fed cut in
      let consumed = subst (Consumes initial next) (append-nil so_far.stream) (Consumes-trans initial now next so_far.stream [] so_far.consumed took) in
      subst (Leaves initial next) (sym at) (carried initial so_far.stream (λ bytes. Consumes initial next bytes) (whole_read next took end) consumed)

  -- a read failed
  pub failed_read : (next : Option (List ℕ)) (at : ℕ) → Keeps now next → IfOk parts (λ s. at ≡ length s) → IfSome initial (λ bytes. IsFaultOf bytes (ReadFault at)) × Leaves initial next (ReadFault at)
  failed_read next at kept at-is =
      behind_front initial next so_far.stream at (Consumes-kept initial now next so_far.stream so_far.consumed kept)
      (subst (λ (r : Result (List ℕ) TraceFault). IfOk r (λ s. at ≡ length s)) so_far.fed at-is) so_far.faultless
