-- What a pass keeps of its calls, with one more at the end or with another end.
use Rattle.std.proofs.Common.{◌≡◌, ℕ, suc, ◌-◌, ◌<◌, ◌≤◌, List, [], ◌∷◌, ◌++◌, length, Option, Some, All, set, slice_get, get_or, sym, refl, ap, subst, ◌∙◌, arith, append_assoc, length-append}
use Rattle.std.specs.Option.{option_map}
use Rattle.std.proofs.lemmas.List.{length-map, map_push}
use Rattle.std.proofs.lemmas.List.Elements.{All-append, All-cons, All-head, All-nil, All-tail, All-weaker}
use Rattle.std.proofs.lemmas.Option.{same_Some, slice_get-get_or, slice_get-map}
use Rattle.trace_file.specs.declared.call.Call.{Call}
use Rattle.trace_file.specs.Stored.{LiesIn, call_in}
use Rattle.trace_file.proofs.public_laws.StoreLaws.{calls_in-more}
use Rattle.recorded_lane.specs.declared.noted.Noted.{Noted}
use Rattle.recorded_lane.specs.Points.{noted_in}
use Rattle.history_recorder.proofs.public_laws.Stamps.{found_right}
use Rattle.shared_cache.specs.declared.listed_entry.ListedEntry.{ListedEntry}
use Rattle.shared_cache.specs.Listed.{Listed, calls_listed, listed_in}
use Rattle.shared_cache.specs.Passes.{KeepsCalls, IsPass, IsTimely, kept_with_end, most_lanes, with_end}
use Rattle.shared_cache.proofs.Passing.{pass_ended, pass_more, pass_up}

-- the bytes of a kept call lie in a store of this many
abbrev pub Lies : ℕ → ListedEntry → Type 0
Lies size e = LiesIn size e.entry

lies_up : (low high : ℕ) (e : ListedEntry) → low ≤ high → Lies low e → Lies high e
lies_up low high e up lies = let room = lies.room in record {
  caller = lies.caller;
  start = lies.start;
  end = lies.end;
  time = lies.time;
  some_key = lies.some_key;
  key = lies.key;
  value = lies.value;
  room = omega (arith, room, up);
}

listed_so : (bytes more : List ℕ) (e : ListedEntry) → Lies (length bytes) e → listed_in (bytes ++ more) e ≡ listed_in bytes e
listed_so bytes more e lies =
    let alone = calls_in-more bytes more (e.entry ∷ []) (All-cons (LiesIn (length bytes)) e.entry [] lies (All-nil (LiesIn (length bytes)))) in
    let same : call_in (bytes ++ more) e.entry ≡ call_in bytes e.entry = cc in
    ap (λ (c : Call). record { lane = e.lane; position = e.position; call = noted_in c; end = e.end }) same

-- bytes after the others change no call
listed_more : (bytes more : List ℕ) (es : List ListedEntry) → All (Lies (length bytes)) es → calls_listed (bytes ++ more) es ≡ calls_listed bytes es
listed_more bytes more [] lie = refl
listed_more bytes more (e ∷ es) lie =
    let one = listed_so bytes more e (All-head (Lies (length bytes)) e es lie) in
    let others = listed_more bytes more es (All-tail (Lies (length bytes)) e es lie) in
    cc

-- a call more, whose bytes were put after the others
pub listed_push : (bytes key value new : List ℕ) (es : List ListedEntry) (e : ListedEntry) → new ≡ (bytes ++ key) ++ value → All (Lies (length bytes)) es
    → calls_listed new (es ++ e ∷ []) ≡ calls_listed bytes es ++ listed_in new e ∷ []
listed_push bytes key value new es e is lie =
    map_push (listed_in new) es e
    ∙ ap (λ ls. ls ++ listed_in new e ∷ []) (ap (λ b. calls_listed b es) (is ∙ append_assoc bytes key value) ∙ listed_more bytes (key ++ value) es lie)

pub kept_more : (seen : ℕ) (bytes key value new : List ℕ) (es : List ListedEntry) (places : List (Option ℕ)) (e : ListedEntry) → KeepsCalls seen bytes es places → new ≡ (bytes ++ key) ++ value → Lies (length new) e
    → IsTimely seen (listed_in new e) → e.lane < most_lanes → length places ≡ most_lanes → KeepsCalls seen new (es ++ e ∷ []) (set places e.lane (Some (length es)))
kept_more seen bytes key value new es places e kept is lies timely low many =
    let more = pass_more seen (calls_listed bytes es) places (listed_in new e) kept.pass timely low many in
    let count : length (calls_listed bytes es) ≡ length es = length-map es (listed_in bytes) in
    let grown : length bytes ≤ length new = let a = ap length is in let b = length-append (bytes ++ key) value in let c = length-append bytes key in omega (arith, a, b, c) in
    record {
      pass =
          subst (λ ls. IsPass seen ls (set places e.lane (Some (length es)))) (sym (listed_push bytes key value new es e is kept.lie))
          (subst (λ n. IsPass seen (calls_listed bytes es ++ listed_in new e ∷ []) (set places e.lane (Some n))) count more);
      lie = All-append (Lies (length new)) es (e ∷ []) (All-weaker (Lies (length bytes)) (Lies (length new)) (λ x. lies_up (length bytes) (length new) x grown) es kept.lie) (All-cons (Lies (length new)) e [] lies (All-nil (Lies (length new))));
    }

-- a pass that has seen more
pub kept_up : (low high : ℕ) (bytes : List ℕ) (es : List ListedEntry) (places : List (Option ℕ)) → KeepsCalls low bytes es places → low ≤ high → KeepsCalls high bytes es places
kept_up low high bytes es places kept up = record { pass = pass_up low high (calls_listed bytes es) places kept.pass up; lie = kept.lie }

-- the last call of a list, kept with another end
pub kept_end_set : (end : ℕ) (es : List ListedEntry) (n : ℕ) (e : ListedEntry) → n ≡ length es → 0 < n → e ≡ get_or es (n - 1) e → set es (n - 1) (record e { end = end }) ≡ kept_with_end end es
kept_end_set end [] n e len pos at = absurd (omega arith)
kept_end_set end (m ∷ []) n e len pos at = rw len (let is : e ≡ m = rw len at at in ap (λ (k : ListedEntry). record k { end = end } ∷ []) is)
kept_end_set end (m ∷ k ∷ es) n e len pos at = let h : n - 1 ≡ suc (n - 1 - 1) = omega arith in rw h (ap (λ (r : List ListedEntry). m ∷ r) (kept_end_set end (k ∷ es) (n - 1) e (omega arith) (omega arith) (rw h at at)))

pub listed_ended : (bytes : List ℕ) (end : ℕ) (es : List ListedEntry) → calls_listed bytes (kept_with_end end es) ≡ with_end end (calls_listed bytes es)
listed_ended bytes end [] = refl
listed_ended bytes end (e ∷ []) = refl
listed_ended bytes end (e ∷ f ∷ es) = ap (λ (ls : List Listed). listed_in bytes e ∷ ls) (listed_ended bytes end (f ∷ es))

lie_ended : (size end : ℕ) (es : List ListedEntry) → All (Lies size) es → All (Lies size) (kept_with_end end es)
lie_ended size end [] lie = lie
lie_ended size end (e ∷ []) lie = All-cons (Lies size) (record e { end = end }) [] (All-head (Lies size) e [] lie) (All-nil (Lies size))
lie_ended size end (e ∷ f ∷ es) lie = All-cons (Lies size) e (kept_with_end end (f ∷ es)) (All-head (Lies size) e (f ∷ es) lie) (lie_ended size end (f ∷ es) (All-tail (Lies size) e (f ∷ es) lie))

-- the last call has an end that the pass has seen
pub kept_ended : (seen end : ℕ) (bytes : List ℕ) (es : List ListedEntry) (places : List (Option ℕ)) → KeepsCalls seen bytes es places → end ≡ seen → KeepsCalls seen bytes (kept_with_end end es) places
kept_ended seen end bytes es places kept same = record {
  pass = subst (λ ls. IsPass seen ls places) (sym (listed_ended bytes end es)) (pass_ended seen end (calls_listed bytes es) places kept.pass same);
  lie = lie_ended (length bytes) end es kept.lie;
}

-- the call at a place, by what is kept there

pub kept_within : (bytes : List ℕ) (es : List ListedEntry) (place : ℕ) → place < length (calls_listed bytes es) → place < length es
kept_within bytes es place low = let many = length-map es (listed_in bytes) in omega (arith, low, many)

pub kept_shown : (bytes : List ℕ) (es : List ListedEntry) (place : ℕ) (d : ListedEntry) (c : Call) → place < length es → c ≡ call_in bytes (get_or es place d).entry
    → slice_get (calls_listed bytes es) place ≡ Some (record { lane = (get_or es place d).lane; position = (get_or es place d).position; call = noted_in c; end = (get_or es place d).end })
kept_shown bytes es place d c low is =
    slice_get-map (listed_in bytes) es place
    ∙ ap (option_map (listed_in bytes)) (slice_get-get_or es place d low)
    ∙ ap (λ (x : Call). Some (record { lane = (get_or es place d).lane; position = (get_or es place d).position; call = noted_in x; end = (get_or es place d).end })) (sym is)

pub kept_lane : (bytes : List ℕ) (es : List ListedEntry) (place : ℕ) (d : ListedEntry) → place < length es → option_map (λ (l : Listed). l.lane) (slice_get (calls_listed bytes es) place) ≡ Some (get_or es place d).lane
kept_lane bytes es place d low = ap (option_map (λ (l : Listed). l.lane)) (slice_get-map (listed_in bytes) es place ∙ ap (option_map (listed_in bytes)) (slice_get-get_or es place d low))

-- the call that a lane recorded last is the one that was made
pub last_is : (calls after : List Noted) (n shown : Noted) (position : ℕ) → after ≡ calls ++ n ∷ [] → position ≡ length calls → slice_get after position ≡ Some shown → shown ≡ n
last_is calls after n shown position is at there =
    same_Some shown n (sym there ∙ ap (λ (ns : List Noted). slice_get ns position) is ∙ found_right calls (n ∷ []) position 0 (omega (arith, at)))
