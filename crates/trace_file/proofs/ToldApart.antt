-- Traces tell their pairs apart, and faults say what is wrong.
use Rattle.std.proofs.Common.{◌≡◌, ◌≢◌, ℕ, ◌<◌, List, [], ◌∷◌, ◌++◌, length, get_or, Some, Result, Ok, Err, refl, sym, ap, ◌∙◌, arith, All}
use Rattle.std.specs.Prelude.{◌↔◌}
use Rattle.trace_file.specs.declared.call.Call.{Call}
use Rattle.trace_file.specs.declared.header.Header.{Header}
use Rattle.trace_file.specs.declared.item_fault.ItemFault.{ItemFault}
use Rattle.trace_file.specs.declared.item_fault.ItemFault.TheVariants.{Short, Fault}
use Rattle.trace_file.specs.declared.trace.Trace.{Trace}
use Rattle.trace_file.specs.declared.trace_fault.TraceFault.{TraceFault}
use Rattle.trace_file.specs.declared.trace_fault.TraceFault.TheVariants.{Truncated, TrailingBytes}
use Rattle.trace_file.specs.Reading.{place, trace_at, at_end, outcome_of, met, first_fault_of}
use Rattle.trace_file.specs.Stream.{pair_of, counted_text, IsCounted}
use Rattle.trace_file.specs.declared.version.Version.{Version}
use Rattle.trace_file.specs.declared.version.Version.TheVariants.{Timed, Timeless}
use Rattle.trace_file.specs.Text.{magic, header_of, header_text, text_of, IsPairOf, IsTrace, IsTraceOf}
use Rattle.trace_file.proofs.Countings.{bytes_behind}
use Rattle.trace_file.proofs.public_laws.Readings.{stopped_by}
use Rattle.trace_file.proofs.ReaderLaws.{ended_ok}
use Rattle.trace_file.proofs.Takings.{bytes_from_All}
use Rattle.trace_file.proofs.public_laws.TraceLaws.{of_version, version_of, goes_on, trace_takes, trace_again, trace_stays}

-- a trace is read as its pair
read_as : (bytes : List ℕ) (h : List Call) (c : List ℕ) → IsTrace bytes h c → trace_at (place 0 bytes) ≡ Ok (pair_of h c)
read_as bytes h c is = let v = version_of bytes h c is in ap (λ (b : List ℕ). trace_at (place 0 b)) v.1.text ∙ trace_again v.0 h c v.1.pair

pub outcome_is : (bytes : List ℕ) (h : List Call) (c : List ℕ) → IsTrace bytes h c → outcome_of bytes ≡ Ok (pair_of h c)
unfolding outcome_of
outcome_is bytes h c is = ap (at_end (length bytes)) (read_as bytes h c is)

pub read_back : (version : Version) (h : List Call) (c : List ℕ) → IsPairOf version h c → outcome_of (text_of version h c) ≡ Ok (pair_of h c)
read_back version h c is = outcome_is (text_of version h c) h c (of_version version (text_of version h c) h c (record { pair = is; text = refl }))

-- the last byte of the magic tells the forms apart
last_of_magic : Version → ℕ
last_of_magic Timed = 50
last_of_magic Timeless = 49

text_tells : (version : Version) (h : List Call) (c : List ℕ) → get_or (text_of version h c) 7 0 ≡ last_of_magic version
unfolding text_of header_text last_of_magic
text_tells Timed h c = refl
text_tells Timeless h c = refl

told_apart : (version other : Version) → last_of_magic version ≡ last_of_magic other → version ≡ other
unfolding last_of_magic
told_apart Timed Timed e = refl
told_apart Timed Timeless e = let bytes : 50 ≡ 49 = e in absurd (omega (arith, bytes))
told_apart Timeless Timed e = let bytes : 49 ≡ 50 = e in absurd (omega (arith, bytes))
told_apart Timeless Timeless e = refl

pub one_version : (version other : Version) (bytes : List ℕ) (h g : List Call) (c d : List ℕ) → IsTraceOf version bytes h c → IsTraceOf other bytes g d → version ≡ other
one_version version other bytes h g c d a b =
    told_apart version other (sym (text_tells version h c) ∙ ap (λ (t : List ℕ). get_or t 7 0) (sym a.text ∙ b.text) ∙ text_tells other g d)

pub exactly : (bytes : List ℕ) (t : Trace) → All (λ byte. byte < 256) bytes → (outcome_of bytes ≡ Ok t) ↔ IsTrace bytes t.history t.certificate
unfolding outcome_of
exactly bytes t fits = (λ e. trace_takes 0 bytes t (bytes_from_All bytes fits) (ended_ok (length bytes) (trace_at (place 0 bytes)) t e), λ is. outcome_is bytes t.history t.certificate is)

pub one_pair : (bytes : List ℕ) (h g : List Call) (c d : List ℕ) → IsTrace bytes h c → IsTrace bytes g d → (h ≡ g) × (c ≡ d)
one_pair bytes h g c d a b =
    let same : ◌≡◌ {A = Result Trace ItemFault} (Ok (pair_of h c)) (Ok (pair_of g d)) = sym (read_as bytes h c a) ∙ read_as bytes g d b in
    let pairs : pair_of h c ≡ pair_of g d = cc in
    (ap (λ (t : Trace). t.history) pairs, ap (λ (t : Trace). t.certificate) pairs)

-- bytes after a trace are a fault
pub behind_trace : (version : Version) (h : List Call) (c more : List ℕ) → IsPairOf version h c → 0 < length more → trace_at (place 0 (text_of version h c ++ more)) ≡ Err (Fault (TrailingBytes (length (text_of version h c))))
unfolding text_of counted_text
behind_trace version h c more is some =
    let n : Header = header_of version (length h) in
    let counted : IsCounted n h c = record { few = is.few; within = omega arith; behind = omega (arith, is.as_many); in_turn = λ x. refl; calls = is.calls; positions = is.positions } in
    goes_on n h c more counted ∙ bytes_behind n h c (place (length (text_of version h c)) more) refl is.as_many some

pub some_bytes : (more : List ℕ) → more ≢ [] → 0 < length more
some_bytes [] some = absurd (some refl)
some_bytes (b ∷ bs) some = omega arith

pub trailing : (version : Version) (h : List Call) (c more : List ℕ) → IsPairOf version h c → more ≢ [] → outcome_of (text_of version h c ++ more) ≡ Err (TrailingBytes (length (text_of version h c)))
unfolding outcome_of
trailing version h c more is some = ap (at_end (length (text_of version h c ++ more))) (behind_trace version h c more is (some_bytes more some))

not_both : (t : Trace) (d : ItemFault) → ◌≡◌ {A = Result Trace ItemFault} (Ok t) (Err d) → ⊥
not_both t d e = cc

pub no_front : (bytes more : List ℕ) (h g : List Call) (c d : List ℕ) → IsTrace bytes h c → IsTrace (bytes ++ more) g d → more ≡ []
no_front bytes [] h g c d a b = refl
no_front bytes (m ∷ more) h g c d a b =
    let v = version_of bytes h c a in
    let fault = ap (λ (t : List ℕ). trace_at (place 0 (t ++ (m ∷ more)))) v.1.text ∙ behind_trace v.0 h c (m ∷ more) v.1.pair (omega arith) in
    absurd (not_both (pair_of g d) (Fault (TrailingBytes (length (text_of v.0 h c)))) (sym (read_as (bytes ++ (m ∷ more)) g d b) ∙ fault))

pub stays : (bytes more : List ℕ) (f : TraceFault) → All (λ byte. byte < 256) bytes → first_fault_of bytes ≡ Some f → first_fault_of (bytes ++ more) ≡ Some f
unfolding first_fault_of
stays bytes more f fits e = ap met (trace_stays (place 0 bytes) f more (bytes_from_All bytes fits) (stopped_by (trace_at (place 0 bytes)) f e))

pub no_trace : (bytes more : List ℕ) (f : TraceFault) (h : List Call) (c : List ℕ) → All (λ byte. byte < 256) bytes → first_fault_of bytes ≡ Some f → ¬ IsTrace (bytes ++ more) h c
unfolding first_fault_of
no_trace bytes more f h c fits e is =
    let fault = trace_stays (place 0 bytes) f more (bytes_from_All bytes fits) (stopped_by (trace_at (place 0 bytes)) f e) in
    not_both (pair_of h c) (Fault f) (sym (read_as (bytes ++ more) h c is) ∙ fault)

cut_by_cases : (bytes more : List ℕ) (h : List Call) (c : List ℕ) (r : Result Trace ItemFault) → trace_at (place 0 bytes) ≡ r → All (λ byte. byte < 256) bytes → IsTrace (bytes ++ more) h c → more ≢ []
    → at_end (length bytes) r ≡ Err (Truncated (length bytes))
cut_by_cases bytes more h c (Ok t) e fits is some = absurd (some (no_front bytes more t.history h t.certificate c (trace_takes 0 bytes t (bytes_from_All bytes fits) e) is))
cut_by_cases bytes more h c (Err Short) e fits is some = refl
cut_by_cases bytes more h c (Err (Fault f)) e fits is some =
    absurd (not_both (pair_of h c) (Fault f) (sym (read_as (bytes ++ more) h c is) ∙ trace_stays (place 0 bytes) f more (bytes_from_All bytes fits) e))

pub cut : (bytes more : List ℕ) (h : List Call) (c : List ℕ) → All (λ byte. byte < 256) bytes → IsTrace (bytes ++ more) h c → more ≢ [] → outcome_of bytes ≡ Err (Truncated (length bytes))
unfolding outcome_of
cut bytes more h c fits is some = cut_by_cases bytes more h c (trace_at (place 0 bytes)) refl fits is some
