-- What the rows say of a reader that is fed twice.
use Rattle.std.proofs.Common.{◌≡◌, ◌≢◌, ℕ, List, [], ◌++◌, length, Some, Result, Ok, Err, refl, sym, ap, subst, ◌∙◌}
use Rattle.std.specs.Prelude.{None, IfOk, IfErr, OnOk}
use Rattle.std.proofs.lemmas.List.{append-nil}
use Rattle.trace_file.specs.declared.call.Call.{Call}
use Rattle.trace_file.specs.declared.trace_fault.TraceFault.{TraceFault}
use Rattle.trace_file.specs.declared.trace_fault.TraceFault.TheVariants.{OutOfMemory, TrailingBytes}
use Rattle.trace_file.specs.declared.version.Version.{Version}
use Rattle.trace_file.specs.Reading.{first_fault_of, outcome_of}
use Rattle.trace_file.specs.Stream.{FaultIn, finished}
use Rattle.trace_file.specs.Text.{IsPairOf, IsTrace, text_of}
use Rattle.trace_file.proofs.public_laws.Readings.{fault_is}
use Rattle.trace_file.proofs.public_laws.TraceLaws.{version_of}

-- what a reader was fed or answered, before and after a piece, and what it answers
pub record Feeds (old : Result (List ℕ) TraceFault) (piece : List ℕ) (answer : Result (Unit {0}) TraceFault) (new : Result (List ℕ) TraceFault) : Type 0 where
  pub ok : IfOk old (λ stream. OnOk answer (new ≡ Ok (stream ++ piece)))
  pub no_fault : IfOk old (λ stream. OnOk answer (first_fault_of (stream ++ piece) ≡ None))
  pub first : IfOk old (λ stream. IfErr answer (FaultIn (stream ++ piece)))
  pub failed : IfErr answer (λ fault. new ≡ Err fault)
  pub failed_before : IfErr old (λ fault. answer ≡ Err fault)

-- a fault that was answered is answered again
module _ {old one two : Result (List ℕ) TraceFault} {piece next : List ℕ} {f : TraceFault} {answer again : Result (Unit {0}) TraceFault} (is : answer ≡ Err f) (a : Feeds old piece answer one) (b : Feeds one next again two) where
  stays : again ≡ Err f
  stays = subst (λ (s : Result (List ℕ) TraceFault). IfErr s (λ fault. again ≡ Err fault)) (subst (λ (r : Result (Unit {0}) TraceFault). IfErr r (λ fault. one ≡ Err fault)) is a.failed) b.failed_before

  left : two ≡ Err f
  left = subst (λ (r : Result (Unit {0}) TraceFault). IfErr r (λ fault. two ≡ Err fault)) stays b.failed

-- what is fed in two pieces ends as the joined bytes do
ends : (front rest : List ℕ) (one two : Result (List ℕ) TraceFault) (answer again : Result (Unit {0}) TraceFault) → Feeds (Ok []) front answer one → Feeds one rest again two
    → finished two ≢ Err OutOfMemory → finished two ≡ outcome_of (front ++ rest)
ends front rest one two (Err f) again a b ample =
    let is : finished two ≡ Err f = ap finished (left refl a b) in
    let known : f ≢ OutOfMemory = λ short. ample (is ∙ ap (λ (x : TraceFault). Err x) short) in
    is ∙ sym (fault_is (front ++ rest) f (a.first known rest)).0
ends front rest one two (Ok done) (Err f) a b ample =
    let is : finished two ≡ Err f = ap finished b.failed in
    let known : f ≢ OutOfMemory = λ short. ample (is ∙ ap (λ (x : TraceFault). Err x) short) in
    let first : FaultIn (front ++ rest) f = subst (λ (s : Result (List ℕ) TraceFault). IfOk s (λ stream. FaultIn (stream ++ rest) f)) a.ok b.first in
    is ∙ sym (fault_is (front ++ rest) f (ap first_fault_of (sym (append-nil (front ++ rest))) ∙ first known [])).0
ends front rest one two (Ok done) (Ok whole) a b ample =
    ap finished (subst (λ (s : Result (List ℕ) TraceFault). IfOk s (λ stream. two ≡ Ok (stream ++ rest))) a.ok b.ok)

pub ends_as_joined : (front rest : List ℕ) (fresh one two : Result (List ℕ) TraceFault) (answer again : Result (Unit {0}) TraceFault) → fresh ≡ Ok [] → Feeds fresh front answer one → Feeds one rest again two
    → finished two ≢ Err OutOfMemory → finished two ≡ outcome_of (front ++ rest)
ends_as_joined front rest fresh one two answer again new a = ends front rest one two answer again (subst (λ (s : Result (List ℕ) TraceFault). Feeds s front answer one) new a)

-- after a fault of the stream the next piece is refused for it
refused : (stream piece next : List ℕ) (one two : Result (List ℕ) TraceFault) (answer again : Result (Unit {0}) TraceFault) → Feeds (Ok stream) piece answer one → Feeds one next again two
    → (fault : TraceFault) → first_fault_of (stream ++ piece) ≡ Some fault → again ≢ Err OutOfMemory → again ≡ Err fault
refused stream piece next one two (Ok done) again a b fault met ample = let clash : None ≡ Some fault = sym a.no_fault ∙ met in absurd cc
refused stream piece next one two (Err f) again a b fault met ample =
    let is : again ≡ Err f = stays refl a b in
    let known : f ≢ OutOfMemory = λ short. ample (is ∙ ap (λ (x : TraceFault). Err x) short) in
    let same : Some f ≡ Some fault = sym (ap first_fault_of (sym (append-nil (stream ++ piece))) ∙ a.first known []) ∙ met in
    let one_fault : f ≡ fault = cc in
    is ∙ ap (λ (x : TraceFault). Err x) one_fault

pub refused_again : (piece next : List ℕ) (old one two : Result (List ℕ) TraceFault) (answer again : Result (Unit {0}) TraceFault) → Feeds old piece answer one → Feeds one next again two
    → (stream : List ℕ) (fault : TraceFault) → old ≡ Ok stream → first_fault_of (stream ++ piece) ≡ Some fault → again ≢ Err OutOfMemory → again ≡ Err fault
refused_again piece next old one two answer again a b stream fault is = refused stream piece next one two answer again (subst (λ (s : Result (List ℕ) TraceFault). Feeds s piece answer one) is a) b fault

-- bytes after a trace are found at its end
pub trailing_is : ((version : Version) (history : List Call) (certificate more : List ℕ) → IsPairOf version history certificate → more ≢ []
    → outcome_of (text_of version history certificate ++ more) ≡ Err (TrailingBytes (length (text_of version history certificate))))
    → (whole more : List ℕ) (history : List Call) (certificate : List ℕ) → IsTrace whole history certificate → more ≢ [] → outcome_of (whole ++ more) ≡ Err (TrailingBytes (length whole))
trailing_is trailing whole more history certificate is some =
    let v = version_of whole history certificate is in
    subst (λ (bytes : List ℕ). outcome_of (bytes ++ more) ≡ Err (TrailingBytes (length bytes))) (sym v.1.text) (trailing v.0 history certificate more v.1.pair some)
