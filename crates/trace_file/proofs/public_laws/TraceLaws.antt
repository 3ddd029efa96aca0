-- What is read is the trace of one pair, the trace of a pair is read as that pair, and a fault stays.
use Rattle.std.proofs.Common.{◌≡◌, ℕ, ◌+◌, ◌-◌, ◌^◌, ◌<◌, ◌≤◌, Bool, true, false, cond, eqb, List, [], ◌∷◌, ◌++◌, ◌⊎◌, inl, inr, length, Result, Ok, Err, refl, sym, ap, subst, ◌∙◌, append_assoc, arith}
use Rattle.std.specs.List.{flat_map, AllByRecursion}
use Rattle.std.proofs.lemmas.Bool.{eqb-true, eqb-false, ne_eqb}
use Rattle.std.proofs.lemmas.List.{append-nil, nil_from_length, length-append}
use Rattle.std.proofs.lemmas.List.Elements.{All-from_recursion, recursion_from_All}
use Rattle.trace_file.specs.declared.call.Call.{Call}
use Rattle.trace_file.specs.declared.header.Header.{Header}
use Rattle.trace_file.specs.declared.item_fault.ItemFault.{ItemFault}
use Rattle.trace_file.specs.declared.item_fault.ItemFault.TheVariants.{Fault}
use Rattle.trace_file.specs.declared.trace.Trace.{Trace}
use Rattle.trace_file.specs.declared.trace_fault.TraceFault.{TraceFault}
use Rattle.trace_file.specs.declared.trace_fault.TraceFault.TheVariants.{TrailingBytes}
use Rattle.trace_file.specs.declared.version.Version.{Version}
use Rattle.trace_file.specs.declared.version.Version.TheVariants.{Timed, Timeless}
use Rattle.trace_file.specs.Outcome.{IsOfText}
use Rattle.trace_file.specs.Reading.{Place, place, Read, ◌>>=◌, call_at, position_at, header_at, many_at, end_at, trace_at}
use Rattle.trace_file.specs.Stream.{pair_of, in_front, counted_text, counted_at, IsCounted}
use Rattle.trace_file.specs.Text.{most_calls, call_text, position_text, header_of, header_text, text_of, IsCallOf, IsPairOf, IsTrace, IsTraceOf}
use Rattle.trace_file.proofs.Formats.{IsBytes, same_fault, bind_ok, bind_err, at_first, at_second, ok_is, longer, Takes-then, read-longer, many_before, many_format}
use Rattle.trace_file.proofs.ItemFormats.{call_format, position_format, header_format}

abbrev pub after_calls : ℕ → List Call × Place → Result Trace ItemFault
after_calls n calls = many_at position_at n calls.1 >>= λ positions. end_at (pair_of calls.0 positions.0) positions.1

abbrev pub after_header : Header × Place → Result Trace ItemFault
after_header h = many_at (call_at h.0.version) h.0.count h.1 >>= λ calls. after_calls h.0.count calls

ended : (t u : Trace) (p : Place) → end_at t p ≡ Ok u → (p.bytes ≡ []) × (t ≡ u)
unfolding end_at
ended t u p e = ended_by (eqb (length p.bytes) 0) t u (TrailingBytes p.at) p.bytes (λ b. nil_from_length p.bytes (eqb-true _ _ b)) e
  where
    ended_by : (b : Bool) (t u : Trace) (d : TraceFault) (bytes : List ℕ) → (b ≡ true → bytes ≡ []) → ◌≡◌ {A = Result Trace ItemFault} (cond b (Ok t) (Err (Fault d))) (Ok u) → (bytes ≡ []) × (t ≡ u)
    ended_by true t u d bytes nil e = (nil refl, ok_is t u e)
    ended_by false t u d bytes nil e = absurd cc

-- a trace of a form is one
pub of_version : (version : Version) (bytes : List ℕ) (h : List Call) (c : List ℕ) → IsTraceOf version bytes h c → IsTrace bytes h c
of_version Timed bytes h c is = inl is
of_version Timeless bytes h c is = inr is

-- and a trace is one of a form
pub version_of : (bytes : List ℕ) (h : List Call) (c : List ℕ) → IsTrace bytes h c → (version : Version) × IsTraceOf version bytes h c
version_of bytes h c is = elim is [ inl timed ↦ (Timed, timed) | inr timeless ↦ (Timeless, timeless) ]

-- what was read is the trace of this pair
pub trace_takes : (at : ℕ) (bytes : List ℕ) (t : Trace) → IsBytes bytes → trace_at (place at bytes) ≡ Ok t → IsTrace bytes t.history t.certificate
unfolding trace_at text_of
trace_takes at bytes t fits e =
    let a = bind_ok (header_at (place at bytes)) after_header t e in
    let h : Header = a.0.0 in
    let n = h.count in
    let v = h.version in
    let b = bind_ok (many_at (call_at v) n a.0.1) (after_calls n) t a.2 in
    let c = bind_ok (many_at position_at n b.0.1) (λ positions. end_at (pair_of b.0.0 positions.0) positions.1) t b.2 in
    let end = ended (pair_of b.0.0 c.0.0) t c.0.1 c.2 in
    let t0 = header_format.takes (place at bytes) h a.0.1 fits a.1 in
    let t1 = (many_format (call_format v) n).takes a.0.1 b.0.0 b.0.1 t0.0.rest_fits b.1 in
    let t2 = (many_format position_format n).takes b.0.1 c.0.0 c.0.1 t1.0.rest_fits c.1 in
    let both = Takes-then a.0.1 (flat_map (call_text v) b.0.0) b.0.1 (flat_map position_text c.0.0) c.0.1 t1.0 t2.0 in
    let all = Takes-then (place at bytes) (header_text h) a.0.1 (flat_map (call_text v) b.0.0 ++ flat_map position_text c.0.0) c.0.1 t0.0 both in
    let spelled : bytes ≡ text_of v b.0.0 c.0.0 =
    all.parts
    ∙ ap (λ (r : List ℕ). (header_text h ++ (flat_map (call_text v) b.0.0 ++ flat_map position_text c.0.0)) ++ r) end.0
    ∙ append-nil (header_text h ++ (flat_map (call_text v) b.0.0 ++ flat_map position_text c.0.0))
    ∙ ap (λ (k : ℕ). header_text (header_of v k) ++ (flat_map (call_text v) b.0.0 ++ flat_map position_text c.0.0)) (sym t1.1.0) in
    let pair : IsPairOf v b.0.0 c.0.0 = record {
      calls = All-from_recursion (IsCallOf v) b.0.0 t1.1.1;
      positions = All-from_recursion (λ n. n < 2 ^ 32) c.0.0 t2.1.1;
      few = omega (arith, t0.1, t1.1.0);
      as_many = t2.1.0 ∙ sym t1.1.0;
    } in
    let is : IsTraceOf v bytes b.0.0 c.0.0 = record { pair = pair; text = spelled } in
    subst (λ (u : Trace). IsTrace bytes u.history u.certificate) end.1 (of_version v bytes b.0.0 c.0.0 is)

-- what stops the header stops the whole
pub stopped_at_header : (p : Place) (d : ItemFault) → header_at p ≡ Err d → trace_at p ≡ Err d
unfolding trace_at
stopped_at_header p d e = ap (λ (r : Read Header). r >>= after_header) e

-- with no call and no position taken, what is after the header is all that is read
pub behind_header : (n : Header) (p q : Place) → header_at p ≡ Ok (n, q) → trace_at p ≡ counted_at n [] [] q
unfolding trace_at counted_at
behind_header n p q e =
    let z : n.count ≡ n.count - 0 = omega arith in
    ap (λ (r : Read Header). r >>= after_header) e
    ∙ ap (λ (i : ℕ). many_at (call_at n.version) i q >>= λ c. many_at position_at i c.1 >>= λ x. end_at (pair_of c.0 x.0) x.1) z

-- ---- going on after what was taken

calls_first : (n : ℕ) (cs : List Call) (r : Read (List Call)) → (in_front cs r >>= after_calls n) ≡ (r >>= λ c. after_calls n (cs ++ c.0, c.1))
calls_first n cs (Ok c) = refl
calls_first n cs (Err d) = refl

positions_first : (cs : List Call) (ps : List ℕ) (r : Read (List ℕ)) → (in_front ps r >>= λ q. end_at (pair_of cs q.0) q.1) ≡ (r >>= λ q. end_at (pair_of cs (ps ++ q.0)) q.1)
positions_first cs ps (Ok q) = refl
positions_first cs ps (Err d) = refl

-- the calls are not yet complete, or no position was taken
before_positions : (n : Header) (at : ℕ) (cs : List Call) (more : List ℕ) → n.count ≤ most_calls → length cs ≤ n.count → AllByRecursion (IsCallOf n.version) cs
    → trace_at (place at (header_text n ++ (flat_map (call_text n.version) cs ++ more))) ≡ counted_at n cs [] (place (at + length (header_text n) + length (flat_map (call_text n.version) cs)) more)
unfolding trace_at counted_at
before_positions n at cs more few within lawful =
    let mid = at + length (header_text n) in
    let end = mid + length (flat_map (call_text n.version) cs) in
    let k : n.count ≡ length cs + (n.count - length cs) = omega arith in
    let z : n.count ≡ n.count - 0 = omega arith in
    ap (λ (r : Read Header). r >>= after_header) (header_format.again at n (flat_map (call_text n.version) cs ++ more) few)
    ∙ ap (λ (i : ℕ). many_at (call_at n.version) i (place mid (flat_map (call_text n.version) cs ++ more)) >>= after_calls n.count) k
    ∙ ap (λ (r : Read (List Call)). r >>= after_calls n.count) (many_before (call_format n.version) cs (n.count - length cs) mid more lawful)
    ∙ calls_first n.count cs (many_at (call_at n.version) (n.count - length cs) (place end more))
    ∙ ap (λ (i : ℕ). many_at (call_at n.version) (n.count - length cs) (place end more) >>= λ c. many_at position_at i c.1 >>= λ q. end_at (pair_of (cs ++ c.0) q.0) q.1) z

-- the calls are complete
after_all_calls : (n : Header) (at : ℕ) (cs : List Call) (ps more : List ℕ) → n.count ≤ most_calls → length cs ≡ n.count → length ps ≤ n.count → AllByRecursion (IsCallOf n.version) cs → AllByRecursion (λ p. p < 2 ^ 32) ps
    → counted_at n cs [] (place at (flat_map position_text ps ++ more)) ≡ counted_at n cs ps (place (at + length (flat_map position_text ps)) more)
unfolding counted_at many_at
after_all_calls n at cs ps more few full within lawful lawful' =
    let none : n.count - length cs ≡ 0 = omega arith in
    let k : n.count - 0 ≡ length ps + (n.count - length ps) = omega arith in
    let end = at + length (flat_map position_text ps) in
    let all = cs ++ [] in
    ap (λ (i : ℕ). many_at (call_at n.version) i (place at (flat_map position_text ps ++ more)) >>= λ c. many_at position_at (n.count - 0) c.1 >>= λ q. end_at (pair_of (cs ++ c.0) q.0) q.1) none
    ∙ ap (λ (i : ℕ). many_at position_at i (place at (flat_map position_text ps ++ more)) >>= λ q. end_at (pair_of all q.0) q.1) k
    ∙ ap (λ (r : Read (List ℕ)). r >>= λ q. end_at (pair_of all q.0) q.1) (many_before position_format ps (n.count - length ps) at more lawful')
    ∙ positions_first all ps (many_at position_at (n.count - length ps) (place end more))
    ∙ ap (λ (i : ℕ). many_at (call_at n.version) i (place end more) >>= λ c. many_at position_at (n.count - length ps) c.1 >>= λ q. end_at (pair_of (cs ++ c.0) (ps ++ q.0)) q.1) (sym none)

-- what is read of the whole is what is read after what was taken
pub goes_on : (n : Header) (cs : List Call) (ps more : List ℕ) → IsCounted n cs ps → trace_at (place 0 (counted_text n cs ps ++ more)) ≡ counted_at n cs ps (place (length (counted_text n cs ps)) more)
unfolding counted_text
goes_on n cs [] more is =
    let h = header_text n in
    let c = flat_map (call_text n.version) cs in
    let bytes : (h ++ (c ++ [])) ++ more ≡ h ++ (c ++ more) = append_assoc h (c ++ []) more ∙ ap (λ (b : List ℕ). h ++ (b ++ more)) (append-nil c) in
    let at : 0 + length h + length c ≡ length (h ++ (c ++ [])) = omega (arith, length-append h (c ++ []), ap length (append-nil c)) in
    ap (λ (b : List ℕ). trace_at (place 0 b)) bytes
    ∙ before_positions n 0 cs more is.few is.within (recursion_from_All (IsCallOf n.version) cs is.calls)
    ∙ ap (λ (i : ℕ). counted_at n cs [] (place i more)) at
goes_on n cs (p ∷ ps) more is =
    let h = header_text n in
    let c = flat_map (call_text n.version) cs in
    let q = flat_map position_text (p ∷ ps) in
    let full : length cs ≡ n.count = is.in_turn (omega arith) in
    let bytes : (h ++ (c ++ q)) ++ more ≡ h ++ (c ++ (q ++ more)) = append_assoc h (c ++ q) more ∙ ap (λ (b : List ℕ). h ++ b) (append_assoc c q more) in
    let at : 0 + length h + length c + length q ≡ length (h ++ (c ++ q)) = omega (arith, length-append h (c ++ q), length-append c q) in
    let lawful = recursion_from_All (IsCallOf n.version) cs is.calls in
    ap (λ (b : List ℕ). trace_at (place 0 b)) bytes
    ∙ before_positions n 0 cs (q ++ more) is.few is.within lawful
    ∙ after_all_calls n (0 + length h + length c) cs (p ∷ ps) more is.few full is.behind lawful (recursion_from_All (λ p. p < 2 ^ 32) (p ∷ ps) is.positions)
    ∙ ap (λ (i : ℕ). counted_at n cs (p ∷ ps) (place i more)) at

-- the trace of a pair is read as that pair
pub trace_again : (version : Version) (history : List Call) (certificate : List ℕ) → IsPairOf version history certificate → trace_at (place 0 (text_of version history certificate)) ≡ Ok (pair_of history certificate)
unfolding text_of end_at counted_text counted_at many_at
trace_again version history certificate is =
    let n = length history in
    let h = header_of version n in
    let counted : IsCounted h history certificate = record { few = is.few; within = omega arith; behind = omega (arith, is.as_many); in_turn = λ some. refl; calls = is.calls; positions = is.positions } in
    let whole = counted_text h history certificate in
    let on = goes_on h history certificate [] counted in
    let none : n - n ≡ 0 = omega arith in
    let none' : n - length certificate ≡ 0 = omega (arith, is.as_many) in
    ap (λ (b : List ℕ). trace_at (place 0 b)) (sym (append-nil whole))
    ∙ on
    ∙ ap (λ (i : ℕ). many_at (call_at version) i (place (length whole) []) >>= λ c. many_at position_at (n - length certificate) c.1 >>= λ q. end_at (pair_of (history ++ c.0) (certificate ++ q.0)) q.1) none
    ∙ ap (λ (i : ℕ). many_at position_at i (place (length whole) []) >>= λ q. end_at (pair_of (history ++ []) (certificate ++ q.0)) q.1) none'
    ∙ ap (λ (h : List Call). Ok (pair_of h (certificate ++ []))) (append-nil history)
    ∙ ap (λ (c : List ℕ). Ok (pair_of history c)) (append-nil certificate)

-- ---- a fault that was met stays, whatever follows

end_stays : (t : Trace) (p : Place) (f : TraceFault) (more : List ℕ) → end_at t p ≡ Err (Fault f) → end_at t (longer p more) ≡ Err (Fault f)
unfolding end_at
end_stays t p f more e = by_test (eqb (length p.bytes) 0) (eqb (length (p.bytes ++ more)) 0) (TrailingBytes p.at) (λ b. longer_still b) e
  where
    longer_still : eqb (length p.bytes) 0 ≡ false → eqb (length (p.bytes ++ more)) 0 ≡ false
    longer_still b = ne_eqb (length (p.bytes ++ more)) 0 (λ z. let some = eqb-false (length p.bytes) 0 b in omega (arith, some, z, length-append p.bytes more))

    by_test : (b c : Bool) (d : TraceFault) → (b ≡ false → c ≡ false) → ◌≡◌ {A = Result Trace ItemFault} (cond b (Ok t) (Err (Fault d))) (Err (Fault f)) → ◌≡◌ {A = Result Trace ItemFault} (cond c (Ok t) (Err (Fault d))) (Err (Fault f))
    by_test true c d still e = absurd cc
    by_test false c d still e = ap (λ (x : Bool). cond x (Ok t) (Err (Fault d))) (still refl) ∙ e

pub trace_stays : (p : Place) (f : TraceFault) (more : List ℕ) → IsBytes p.bytes → trace_at p ≡ Err (Fault f) → trace_at (longer p more) ≡ Err (Fault f)
unfolding trace_at
trace_stays p f more fits e =
    elim (bind_err (header_at p) after_header (Fault f) e) [
      | at_first e' ↦ ap (λ (r : Read Header). r >>= after_header) (header_format.stays p f more fits e')
      | at_second n e' g ↦
          ap (λ (r : Read Header). r >>= after_header) (read-longer header_format p n.0 n.1 more fits e')
          ∙ calls_stay n.0 n.1 f more (header_format.takes p n.0 n.1 fits e').0.rest_fits g
    ]
  where
    positions_stay : (n : ℕ) (cs : List Call) (p : Place) (f : TraceFault) (more : List ℕ) → IsBytes p.bytes → after_calls n (cs, p) ≡ Err (Fault f) → after_calls n (cs, longer p more) ≡ Err (Fault f)
    positions_stay n cs p f more fits e =
        let last : List ℕ × Place → Result Trace ItemFault = λ q. end_at (pair_of cs q.0) q.1 in
        elim (bind_err (many_at position_at n p) last (Fault f) e) [
          | at_first e' ↦ ap (λ (r : Read (List ℕ)). r >>= last) ((many_format position_format n).stays p f more fits e')
          | at_second q e' g ↦ ap (λ (r : Read (List ℕ)). r >>= last) (read-longer (many_format position_format n) p q.0 q.1 more fits e') ∙ end_stays (pair_of cs q.0) q.1 f more g
        ]

    calls_stay : (n : Header) (p : Place) (f : TraceFault) (more : List ℕ) → IsBytes p.bytes → after_header (n, p) ≡ Err (Fault f) → after_header (n, longer p more) ≡ Err (Fault f)
    calls_stay n p f more fits e =
        elim (bind_err (many_at (call_at n.version) n.count p) (after_calls n.count) (Fault f) e) [
          | at_first e' ↦ ap (λ (r : Read (List Call)). r >>= after_calls n.count) ((many_format (call_format n.version) n.count).stays p f more fits e')
          | at_second c e' g ↦
              ap (λ (r : Read (List Call)). r >>= after_calls n.count) (read-longer (many_format (call_format n.version) n.count) p c.0 c.1 more fits e')
              ∙ positions_stay n.count c.0 c.1 f more ((many_format (call_format n.version) n.count).takes p c.0 c.1 fits e').0.rest_fits g
        ]

-- ---- which faults there are

end_by : (b : Bool) (t : Trace) (at : ℕ) (f : TraceFault) → ◌≡◌ {A = Result Trace ItemFault} (cond b (Ok t) (Err (Fault (TrailingBytes at)))) (Err (Fault f)) → IsOfText f
end_by true t at f e = absurd cc
end_by false t at f e = subst IsOfText (same_fault (TrailingBytes at) f e) tt

end_is : (t : Trace) (p : Place) (f : TraceFault) → end_at t p ≡ Err (Fault f) → IsOfText f
unfolding end_at
end_is t p f e = end_by (eqb (length p.bytes) 0) t p.at f e

pub trace_kind : (p : Place) (f : TraceFault) → trace_at p ≡ Err (Fault f) → IsOfText f
unfolding trace_at
trace_kind p f e =
    elim (bind_err (header_at p) after_header (Fault f) e) [
      | at_first e' ↦ header_format.kind p f e'
      | at_second n e' g ↦ calls_kind n.0 n.1 f g
    ]
  where
    positions_kind : (n : ℕ) (cs : List Call) (p : Place) (f : TraceFault) → after_calls n (cs, p) ≡ Err (Fault f) → IsOfText f
    positions_kind n cs p f e =
        elim (bind_err (many_at position_at n p) (λ q. end_at (pair_of cs q.0) q.1) (Fault f) e) [
          | at_first e' ↦ (many_format position_format n).kind p f e'
          | at_second q e' g ↦ end_is (pair_of cs q.0) q.1 f g
        ]

    calls_kind : (n : Header) (p : Place) (f : TraceFault) → after_header (n, p) ≡ Err (Fault f) → IsOfText f
    calls_kind n p f e =
        elim (bind_err (many_at (call_at n.version) n.count p) (after_calls n.count) (Fault f) e) [
          | at_first e' ↦ (many_format (call_format n.version) n.count).kind p f e'
          | at_second c e' g ↦ positions_kind n.count c.0 c.1 f g
        ]
