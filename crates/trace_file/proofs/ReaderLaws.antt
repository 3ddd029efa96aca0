-- What a reader of pieces keeps.
use Rattle.std.proofs.Common.{◌≡◌, ℕ, ◌+◌, ◌-◌, ◌*◌, ◌^◌, ◌<◌, ◌≤◌, Bool, true, false, cond, List, [], ◌∷◌, ◌++◌, length, drop, Option, Some, None, Result, Ok, Err, refl, sym, ap, subst, ◌∙◌, append_assoc, arith, All}
use Rattle.std.specs.List.{flat_map, AllByRecursion}
use Rattle.std.specs.Int.{w16, w32, w64, to_be_bytes}
use Rattle.std.proofs.lemmas.List.{append-nil, length-append, drop_at, drop-drop}
use Rattle.std.proofs.lemmas.List.Elements.{All-nil, All-append, recursion_from_All}
use Rattle.trace_file.specs.declared.act.Act.{Act}
use Rattle.trace_file.specs.declared.act.Act.TheVariants.{Put, Remove, Hit, Miss}
use Rattle.trace_file.specs.declared.call.Call.{Call}
use Rattle.trace_file.specs.declared.header.Header.{Header}
use Rattle.trace_file.specs.declared.item_fault.ItemFault.{ItemFault}
use Rattle.trace_file.specs.declared.item_fault.ItemFault.TheVariants.{Short, Fault}
use Rattle.trace_file.specs.declared.trace_so_far.TraceSoFar.{TraceSoFar}
use Rattle.trace_file.specs.declared.trace.Trace.{Trace}
use Rattle.trace_file.specs.declared.trace_fault.TraceFault.{TraceFault}
use Rattle.trace_file.specs.declared.trace_fault.TraceFault.TheVariants.{Truncated}
use Rattle.record_pages.specs.Bounded.{IsValue}
use Rattle.trace_file.specs.declared.version.Version.{Version}
use Rattle.trace_file.specs.declared.version.Version.TheVariants.{Timed, Timeless}
use Rattle.trace_file.specs.Calls.{IsCall, value_of}
use Rattle.trace_file.specs.Reading.{Place, place, version_at, header_at, trace_at, at_end, outcome_of, first_fault_of, met}
use Rattle.trace_file.specs.Stream.{pair_of, FailsAs, counted_text, text_so_far, read_behind, IsTaken, whole, standing, Advances, IsReading, IsReader, StartsOn, Keeps, FaultIn, stream_of, fed_of, finished}
use Rattle.trace_file.specs.Text.{IsTrace, magic, time_text, act_text, call_text, position_text, header_text, IsCallOf}
use Rattle.trace_file.proofs.public_laws.TraceLaws.{goes_on, stopped_at_header, trace_takes, trace_stays}
use Rattle.trace_file.proofs.Takings.{bytes_from_All}
use Rattle.std.specs.Prelude.{IfOk, IfErr}

-- ---- how long a text can be

time_len : (version : Version) (time : ℕ) → length (time_text version time) ≤ 8
time_len Timed time = omega arith
time_len Timeless time = omega arith

value_len : (version : Version) (value : List ℕ) (time : ℕ) → IsValue value → length ((to_be_bytes w16 (length value) ++ value) ++ time_text version time) ≤ 2058
value_len version value time is =
    omega (arith, length-append (to_be_bytes w16 (length value) ++ value) (time_text version time), length-append (to_be_bytes w16 (length value)) value, time_len version time, is)

act_len : (version : Version) (act : Act) → IsValue (value_of act) → length (act_text version act) ≤ 2058
act_len version (Put value expires) is = value_len version value expires is
act_len version Remove is = omega arith
act_len version (Hit value moment) is = value_len version value moment is
act_len version Miss is = omega arith

call_len : (version : Version) (c : Call) → IsCall c → length (call_text version c) ≤ 2333
unfolding call_text
call_len version c is =
    let act = act_len version c.act is.value in
    let key = is.key.1 in
    omega (arith, act, key, length-append c.key (act_text version c.act))

calls_len : (version : Version) (cs : List Call) → AllByRecursion (IsCallOf version) cs → length (flat_map (call_text version) cs) ≤ 2333 * length cs
calls_len version [] is = omega arith
calls_len version (c ∷ cs) is = omega (arith, call_len version c is.0.lawful, calls_len version cs is.1, length-append (call_text version c) (flat_map (call_text version) cs))

positions_len : (ps : List ℕ) → length (flat_map position_text ps) ≤ 4 * length ps
positions_len [] = omega arith
positions_len (p ∷ ps) = omega (arith, positions_len ps, length-append (position_text p) (flat_map position_text ps))

pub magic_len : (version : Version) → length (magic version) ≡ 8
magic_len Timed = refl
magic_len Timeless = refl

text_len : (header : Option Header) (h : List Call) (c : List ℕ) → IsTaken header h c → length (text_so_far header h c) < 2 ^ 40
unfolding counted_text header_text
text_len None h c is = omega arith
text_len (Some n) h c is =
    let calls = calls_len n.version h (recursion_from_All (IsCallOf n.version) h is.calls) in
    let positions = positions_len c in
    omega (
      arith,
      calls,
      positions,
      magic_len n.version,
      is.few,
      is.within,
      is.behind,
      length-append (magic n.version) (to_be_bytes w32 n.count),
      length-append (header_text n) (flat_map (call_text n.version) h ++ flat_map position_text c),
      length-append (flat_map (call_text n.version) h) (flat_map position_text c),
    )

-- ---- a new reader

pub nothing_there : trace_at (place 0 []) ≡ Err Short
unfolding header_at version_at
nothing_there = stopped_at_header (place 0 []) Short short
  where
    short : header_at (place 0 []) ≡ Err Short
    short = refl

pub reader_of_nothing : IsReader (record { header = None; history = []; certificate = [] }) 0 [] None
reader_of_nothing = record {
  small = omega arith;
  reading = λ none. record { taken_is = (refl, refl); at_is = refl; are_bytes = All-nil (λ byte. byte < 256); stands = nothing_there };
}

-- ---- the end

pub finishes : (taken : TraceSoFar) (at len : ℕ) (pending : List ℕ) (self : Result (List ℕ) TraceFault) → fed_of None (stream_of taken pending) ≡ self → IsReading taken at pending → len ≡ length pending
    → at_end (at + len) (standing taken.header taken.history taken.certificate) ≡ finished self
unfolding outcome_of
finishes taken at len pending self view is len-is =
    let n : at + len ≡ length (stream_of taken pending) = omega (arith, is.at_is, length-append (text_so_far taken.header taken.history taken.certificate) pending) in
    ap (λ (m : ℕ). at_end m (standing taken.header taken.history taken.certificate)) n
    ∙ ap (at_end (length (stream_of taken pending))) (sym is.stands)
    ∙ ap finished view

pub ended_ok : (n : ℕ) (r : Result Trace ItemFault) (t : Trace) → at_end n r ≡ Ok t → r ≡ Ok t
ended_ok n (Ok u) t e = cc
ended_ok n (Err Short) t e = absurd cc
ended_ok n (Err (Fault f)) t e = absurd cc

-- what is handed out is the trace that was fed
pub finishes_trace : (taken : TraceSoFar) (at len : ℕ) (pending : List ℕ) (self : Result (List ℕ) TraceFault) (t : Trace) → fed_of None (stream_of taken pending) ≡ self → IsReading taken at pending
    → Ok t ≡ at_end (at + len) (standing taken.header taken.history taken.certificate) → IfOk self (λ stream. IsTrace stream t.history t.certificate)
finishes_trace taken at len pending self t view is e =
    let read : trace_at (place 0 (stream_of taken pending)) ≡ Ok t = is.stands ∙ ended_ok (at + len) (standing taken.header taken.history taken.certificate) t (sym e) in
    subst (λ (r : Result (List ℕ) TraceFault). IfOk r (λ stream. IsTrace stream t.history t.certificate)) view
    (trace_takes 0 (stream_of taken pending) t (bytes_from_All (stream_of taken pending) is.are_bytes) read)

cut_by : (w : Bool) (trace : Trace) (n : ℕ) (f : TraceFault) → Err f ≡ at_end n (cond w (Ok trace) (Err Short)) → f ≡ Truncated n
cut_by true trace n f e = absurd cc
cut_by false trace n f e = cc

-- a stream that ends too early is cut at its end
pub finishes_cut : (taken : TraceSoFar) (at len : ℕ) (pending : List ℕ) (self : Result (List ℕ) TraceFault) (f : TraceFault) → fed_of None (stream_of taken pending) ≡ self → IsReading taken at pending → len ≡ length pending
    → Err f ≡ at_end (at + len) (standing taken.header taken.history taken.certificate) → IfOk self (λ stream. f ≡ Truncated (length stream))
finishes_cut taken at len pending self f view is len-is e =
    let n : at + len ≡ length (stream_of taken pending) = omega (arith, is.at_is, length-append (text_so_far taken.header taken.history taken.certificate) pending) in
    let cut = cut_by (whole taken.header taken.certificate) (pair_of taken.history taken.certificate) (at + len) f e in
    subst (λ (r : Result (List ℕ) TraceFault). IfOk r (λ stream. f ≡ Truncated (length stream))) view (cut ∙ ap (λ (m : ℕ). Truncated m) n)

-- ---- further bytes

behind_by : (header : Option Header) (h : List Call) (c : List ℕ) (at : ℕ) (pending : List ℕ) → IsTaken header h c → at ≡ length (text_so_far header h c)
    → trace_at (place 0 (text_so_far header h c ++ pending)) ≡ read_behind header h c (place at pending)
behind_by None h c at pending is at-is = ap (λ (i : ℕ). trace_at (place i pending)) (sym at-is)
behind_by (Some n) h c at pending is at-is = goes_on n h c pending is ∙ ap (λ (i : ℕ). read_behind (Some n) h c (place i pending)) (sym at-is)

-- what is read of the whole stream is what is read after what was taken
behind_is : (t : TraceSoFar) (at : ℕ) (pending : List ℕ) → StartsOn t at pending → trace_at (place 0 (stream_of t pending)) ≡ read_behind t.header t.history t.certificate (place at pending)
behind_is t at pending starts = behind_by t.header t.history t.certificate at pending starts.taken_is starts.at_is

-- what is left is the end of what was there
tail_is : (front more rest pending : List ℕ) → more ++ rest ≡ front ++ pending → length front ≤ length more → (length rest ≤ length pending) × (rest ≡ drop (length pending - length rest) pending)
tail_is front more rest pending same le =
    let lens = ap length same in
    let total : length more + length rest ≡ length front + length pending = omega (arith, lens, length-append more rest, length-append front pending) in
    let k = length pending - length rest in
    let at : length more ≡ length front + k = omega (arith, total) in
    let one : rest ≡ drop (length more) (more ++ rest) = sym (drop_at more rest (length more) refl) in
    let two : drop (length more) (front ++ pending) ≡ drop (length front + k) (front ++ pending) = ap (λ (i : ℕ). drop i (front ++ pending)) at in
    let three : drop (length front + k) (front ++ pending) ≡ drop k (drop (length front) (front ++ pending)) = sym (drop-drop k (length front) (front ++ pending)) in
    let four : drop (length front) (front ++ pending) ≡ pending = drop_at front pending (length front) refl in
    (omega (arith, total), one ∙ ap (drop (length more)) same ∙ two ∙ three ∙ ap (drop k) four)

module _ {old : TraceSoFar} {at : ℕ} {pending : List ℕ} (starts : StartsOn old at pending) where
  pub left_is : (new : TraceSoFar) (q : Place) → Advances old new (place at pending) q → (length q.bytes ≤ length pending) × (q.bytes ≡ drop (length pending - length q.bytes) pending)
  left_is new q step =
      tail_is (text_so_far old.header old.history old.certificate) (text_so_far new.header new.history new.certificate) q.bytes pending step.spelled (omega (arith, step.at, step.onward, starts.at_is))

  pub advanced : (new : TraceSoFar) (q : Place) (kept : List ℕ) → Advances old new (place at pending) q → kept ≡ drop (length pending - length q.bytes) pending → Keeps old pending new q.at kept
  advanced new q kept step cut =
      let left : kept ≡ q.bytes = cut ∙ sym (left_is new q step).1 in
      let same : stream_of new kept ≡ stream_of old pending = ap (stream_of new) left ∙ step.spelled in
      let bytes : All (λ byte. byte < 256) (stream_of new kept) = subst (λ (s : List ℕ). All (λ byte. byte < 256) s) (sym same) starts.are_bytes in
      record {
        small = omega (arith, step.at, text_len new.header new.history new.certificate step.taken);
        reading = record { taken_is = step.taken; at_is = step.at; are_bytes = bytes; stands = ap (λ (s : List ℕ). trace_at (place 0 s)) same ∙ behind_is old at pending starts ∙ step.stands };
        same = same;
      }

  pub fault_in : (f : TraceFault) → FailsAs f (read_behind old.header old.history old.certificate (place at pending)) → FaultIn (stream_of old pending) f
  unfolding first_fault_of
  fault_in f fails known more =
      let e : trace_at (place 0 (stream_of old pending)) ≡ Err (Fault f) = behind_is old at pending starts ∙ fails known in
      ap met (trace_stays (place 0 (stream_of old pending)) f more (bytes_from_All (stream_of old pending) starts.are_bytes) e)

-- a piece was put after the pending bytes
pub starts_from : (t : TraceSoFar) (at : ℕ) (pending piece now : List ℕ) → at < 2 ^ 40 → IsReading t at pending → All (λ byte. byte < 256) piece → now ≡ pending ++ piece → StartsOn t at now
starts_from t at pending piece now small is bytes grown =
    let text = text_so_far t.header t.history t.certificate in
    let same : text ++ now ≡ (text ++ pending) ++ piece = ap (λ (s : List ℕ). text ++ s) grown ∙ sym (append_assoc text pending piece) in
    record {
      small = small;
      taken_is = is.taken_is;
      at_is = is.at_is;
      are_bytes = subst (λ (s : List ℕ). All (λ byte. byte < 256) s) (sym same) (All-append (λ byte. byte < 256) (text ++ pending) piece is.are_bytes bytes);
    }

met_standing : (w : Bool) (trace : Trace) → met (cond w (Ok trace) (Err Short)) ≡ None
met_standing true trace = refl
met_standing false trace = refl

-- a stream whose standing is known has no fault
pub no_fault : (t : TraceSoFar) (at : ℕ) (pending : List ℕ) → IsReading t at pending → first_fault_of (stream_of t pending) ≡ None
unfolding first_fault_of
no_fault t at pending is = ap met is.stands ∙ met_standing (whole t.header t.certificate) (pair_of t.history t.certificate)

-- after a piece was taken
pub no_fault_now : (self : Result (List ℕ) TraceFault) (old : TraceSoFar) (pending piece now : List ℕ) (t : TraceSoFar) (at : ℕ) (kept : List ℕ) → fed_of None (stream_of old pending) ≡ self → now ≡ pending ++ piece
    → Keeps old now t at kept → IfOk self (λ stream. first_fault_of (stream ++ piece) ≡ None)
no_fault_now self old pending piece now t at kept view grown keeps =
    let text = text_so_far old.header old.history old.certificate in
    let same : (text ++ pending) ++ piece ≡ stream_of t kept = append_assoc text pending piece ∙ ap (λ (s : List ℕ). text ++ s) (sym grown) ∙ sym keeps.same in
    subst (λ (r : Result (List ℕ) TraceFault). IfOk r (λ stream. first_fault_of (stream ++ piece) ≡ None)) view (ap first_fault_of same ∙ no_fault t at kept keeps.reading)

-- ---- pieces of pieces

-- after these bytes more
abbrev pub Follows : Result (List ℕ) TraceFault → List ℕ → Result (List ℕ) TraceFault → Type 0
Follows (Ok stream) front now = now ≡ Ok (stream ++ front)
Follows (Err fault) front now = now ≡ Err fault

-- so much of a piece was fed
pub record FedSoFar (initial now : Result (List ℕ) TraceFault) (piece rest : List ℕ) : Type 0 where
  pub front : List ℕ
  pub split : piece ≡ front ++ rest
  pub follows : Follows initial front now

pub fed_none : (initial : Result (List ℕ) TraceFault) (piece : List ℕ) → FedSoFar initial initial piece piece
fed_none initial piece = record { front = []; split = refl; follows = follows_none initial }
  where
    follows_none : (r : Result (List ℕ) TraceFault) → Follows r [] r
    follows_none (Ok s) = ap (λ (t : List ℕ). Ok t) (sym (append-nil s))
    follows_none (Err f) = refl

follows_more : (initial now new : Result (List ℕ) TraceFault) (front chunk : List ℕ) → Follows initial front now → IfOk now (λ s. new ≡ Ok (s ++ chunk)) → IfErr now (λ f. ⊥) → Follows initial (front ++ chunk) new
follows_more (Ok s) now new front chunk follows ok good =
    subst (λ (r : Result (List ℕ) TraceFault). IfOk r (λ s. new ≡ Ok (s ++ chunk))) follows ok ∙ ap (λ (t : List ℕ). Ok t) (append_assoc s front chunk)
follows_more (Err f) now new front chunk follows ok good = absurd (subst (λ (r : Result (List ℕ) TraceFault). IfErr r (λ f. ⊥)) follows good)

pub fed_more : (initial now new : Result (List ℕ) TraceFault) (piece rest chunk behind : List ℕ) → FedSoFar initial now piece rest → rest ≡ chunk ++ behind
    → IfOk now (λ s. new ≡ Ok (s ++ chunk)) → IfErr now (λ f. ⊥) → FedSoFar initial new piece behind
fed_more initial now new piece rest chunk behind fed cut ok good = record {
  front = fed.front ++ chunk;
  split = fed.split ∙ ap (λ (r : List ℕ). fed.front ++ r) cut ∙ sym (append_assoc fed.front chunk behind);
  follows = follows_more initial now new fed.front chunk fed.follows ok good;
}

-- all of a piece was fed
all_fed : (initial now : Result (List ℕ) TraceFault) (piece front : List ℕ) → piece ≡ front → Follows initial front now → IfOk initial (λ s. now ≡ Ok (s ++ piece))
all_fed (Ok s) now piece front same follows = follows ∙ ap (λ (t : List ℕ). Ok (s ++ t)) (sym same)
all_fed (Err f) now piece front same follows = tt

pub fed_all : (initial now : Result (List ℕ) TraceFault) (piece : List ℕ) → FedSoFar initial now piece [] → IfOk initial (λ s. now ≡ Ok (s ++ piece))
fed_all initial now piece fed = all_fed initial now piece fed.front (fed.split ∙ append-nil fed.front) fed.follows

-- a fault in a part of a piece
in_part : (initial now : Result (List ℕ) TraceFault) (fault : TraceFault) (front chunk behind piece : List ℕ) → Follows initial front now → piece ≡ front ++ (chunk ++ behind)
    → IfOk now (λ s. FaultIn (s ++ chunk) fault) → IfOk initial (λ s. FaultIn (s ++ piece) fault)
in_part (Ok s) now fault front chunk behind piece follows split at = λ known more.
    let here = subst (λ (r : Result (List ℕ) TraceFault). IfOk r (λ s. FaultIn (s ++ chunk) fault)) follows at in
    let same : ((s ++ front) ++ chunk) ++ (behind ++ more) ≡ (s ++ piece) ++ more =
    append_assoc (s ++ front) chunk (behind ++ more)
    ∙ append_assoc s front (chunk ++ (behind ++ more))
    ∙ ap (λ (t : List ℕ). s ++ (front ++ t)) (sym (append_assoc chunk behind more))
    ∙ ap (λ (t : List ℕ). s ++ t) (sym (append_assoc front (chunk ++ behind) more))
    ∙ ap (λ (t : List ℕ). s ++ (t ++ more)) (sym split)
    ∙ sym (append_assoc s piece more) in
    ap first_fault_of (sym same) ∙ here known (behind ++ more)
in_part (Err f) now fault front chunk behind piece follows split at = tt

pub fault_in_part : (initial now : Result (List ℕ) TraceFault) (fault : TraceFault) (piece rest chunk behind : List ℕ) → FedSoFar initial now piece rest → rest ≡ chunk ++ behind
    → IfOk now (λ s. FaultIn (s ++ chunk) fault) → IfOk initial (λ s. FaultIn (s ++ piece) fault)
fault_in_part initial now fault piece rest chunk behind fed cut at =
    in_part initial now fault fed.front chunk behind piece fed.follows (fed.split ∙ ap (λ (r : List ℕ). fed.front ++ r) cut) at

before_by : (initial now : Result (List ℕ) TraceFault) (front : List ℕ) (result : Result (Unit {0}) TraceFault) → Follows initial front now → IfErr now (λ f. result ≡ Err f) → IfErr initial (λ f. result ≡ Err f)
before_by (Ok s) now front result follows at = tt
before_by (Err f) now front result follows at = subst (λ (r : Result (List ℕ) TraceFault). IfErr r (λ g. result ≡ Err g)) follows at

-- a fault that was answered before
pub failed_before : (initial now : Result (List ℕ) TraceFault) (piece rest : List ℕ) (result : Result (Unit {0}) TraceFault) → FedSoFar initial now piece rest → IfErr now (λ f. result ≡ Err f) → IfErr initial (λ f. result ≡ Err f)
failed_before initial now piece rest result fed at = before_by initial now fed.front result fed.follows at
