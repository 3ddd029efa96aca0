-- Taking calls and then positions after a header.
use Rattle.std.proofs.Common.{◌≡◌, ◌≢◌, ℕ, suc, ◌+◌, ◌-◌, ◌^◌, ◌<◌, Bool, cond, eqb, List, [], ◌∷◌, ◌++◌, length, Option, Some, None, Result, Ok, Err, refl, sym, ap, subst, ◌∙◌, append_assoc, arith, All, eq-eqb}
use Rattle.std.specs.List.{flat_map}
use Rattle.std.proofs.lemmas.Bool.{ne_eqb}
use Rattle.std.proofs.lemmas.List.{append-nil, length-append}
use Rattle.std.proofs.lemmas.List.Elements.{All-nil}
use Rattle.trace_file.specs.declared.call.Call.{Call}
use Rattle.trace_file.specs.declared.header.Header.{Header}
use Rattle.trace_file.specs.declared.item_fault.ItemFault.{ItemFault}
use Rattle.trace_file.specs.declared.item_fault.ItemFault.TheVariants.{Short, Fault}
use Rattle.trace_file.specs.declared.trace.Trace.{Trace}
use Rattle.trace_file.specs.declared.trace_fault.TraceFault.{TraceFault}
use Rattle.trace_file.specs.declared.trace_fault.TraceFault.TheVariants.{TrailingBytes}
use Rattle.trace_file.specs.Reading.{Place, Read, ◌>>=◌, call_at, position_at, header_at, many_at, end_at}
use Rattle.trace_file.specs.Stream.{pair_of, in_front, TakesItems, FailsAs, counted_text, counted_at, IsCounted, standing, GoesOn, Opened, IsTaken, text_so_far}
use Rattle.trace_file.specs.declared.trace_so_far.TraceSoFar.{TraceSoFar}
use Rattle.trace_file.proofs.ItemFormats.{header_format}
use Rattle.trace_file.proofs.Takings.{bytes_from_All}
use Rattle.trace_file.proofs.public_laws.TraceLaws.{behind_header}
use Rattle.trace_file.specs.Text.{call_text, position_text, header_text, IsCallOf}

abbrev last : List Call → List ℕ × Place → Result Trace ItemFault
last h x = end_at (pair_of h x.0) x.1

abbrev behind_calls : Header → List ℕ → List Call × Place → Result Trace ItemFault
behind_calls n ps c = many_at position_at (n.count - length ps) c.1 >>= λ q. end_at (pair_of c.0 (ps ++ q.0)) q.1

calls_in_front : (n : Header) (h : List Call) (ps : List ℕ) (r : Read (List Call)) → (r >>= λ c. behind_calls n ps (h ++ c.0, c.1)) ≡ (in_front h r >>= behind_calls n ps)
calls_in_front n h ps (Ok c) = refl
calls_in_front n h ps (Err d) = refl

counted_by_calls : (n : Header) (h : List Call) (ps : List ℕ) (p : Place) → counted_at n h ps p ≡ (in_front h (many_at (call_at n.version) (n.count - length h) p) >>= behind_calls n ps)
unfolding counted_at
counted_by_calls n h ps p = calls_in_front n h ps (many_at (call_at n.version) (n.count - length h) p)

positions_in_front : (h : List Call) (ps : List ℕ) (r : Read (List ℕ)) → (r >>= λ q. last h (ps ++ q.0, q.1)) ≡ (in_front ps r >>= last h)
positions_in_front h ps (Ok q) = refl
positions_in_front h ps (Err d) = refl

counted_by_positions : (n : Header) (h : List Call) (ps : List ℕ) (p : Place) → length h ≡ n.count → counted_at n h ps p ≡ (in_front ps (many_at position_at (n.count - length ps) p) >>= last h)
unfolding counted_at many_at
counted_by_positions n h ps p full =
    let none : n.count - length h ≡ 0 = omega arith in
    ap (λ (i : ℕ). many_at (call_at n.version) i p >>= λ c. behind_calls n ps (h ++ c.0, c.1)) none
    ∙ ap (λ (g : List Call). behind_calls n ps (g, p)) (append-nil h)
    ∙ positions_in_front h ps (many_at position_at (n.count - length ps) p)

-- no call was left to take
calls_done : (n : Header) (h h' : List Call) (p q : Place) → length h ≡ n.count → TakesItems (call_at n.version) (call_text n.version) (IsCallOf n.version) n.count h h' p q → (h' ≡ h) × (q ≡ p)
unfolding many_at
calls_done n h h' p q full takes =
    let none : n.count - length h ≡ 0 = omega arith in
    let none' : n.count - length h' ≡ 0 = omega (arith, takes.grown) in
    let same : ◌≡◌ {A = Read (List Call)} (Ok (h' ++ [], q)) (Ok (h ++ [], p)) =
    sym (ap (λ (i : ℕ). in_front h' (many_at (call_at n.version) i q)) none') ∙ takes.read ∙ ap (λ (i : ℕ). in_front h (many_at (call_at n.version) i p)) none in
    let both : ◌≡◌ {A = List Call × Place} (h' ++ [], q) (h ++ [], p) = cc in
    (sym (append-nil h') ∙ ap (λ (x : List Call × Place). x.0) both ∙ append-nil h, ap (λ (x : List Call × Place). x.1) both)

no_positions : (n : Header) (h : List Call) (x : List ℕ) → counted_text n h [] ++ x ≡ header_text n ++ (flat_map (call_text n.version) h ++ x)
unfolding counted_text
no_positions n h x =
    append_assoc (header_text n) (flat_map (call_text n.version) h ++ []) x ∙ ap (λ (c : List ℕ). header_text n ++ (c ++ x)) (append-nil (flat_map (call_text n.version) h))

length-counted_text : (n : Header) (h : List Call) (ps : List ℕ) → length (counted_text n h ps) ≡ length (header_text n) + (length (flat_map (call_text n.version) h) + length (flat_map position_text ps))
unfolding counted_text
length-counted_text n h ps = omega (arith, length-append (header_text n) (flat_map (call_text n.version) h ++ flat_map position_text ps), length-append (flat_map (call_text n.version) h) (flat_map position_text ps))

-- calls were taken
pub calls_taken : (n : Header) (h : List Call) (ps : List ℕ) (p : Place) (h' : List Call) (q : Place) → IsCounted n h ps → p.at ≡ length (counted_text n h ps)
    → TakesItems (call_at n.version) (call_text n.version) (IsCallOf n.version) n.count h h' p q → GoesOn n h ps p h' ps q
calls_taken n h [] p h' q is at takes = record {
  counted = record { few = is.few; within = takes.within; behind = is.behind; in_turn = λ some. absurd (omega (arith, some)); calls = takes.are is.calls; positions = is.positions };
  spelled = no_positions n h' q.bytes ∙ ap (λ (x : List ℕ). header_text n ++ x) takes.spelled ∙ sym (no_positions n h p.bytes);
  at = omega (arith, takes.at, at, length-counted_text n h [], length-counted_text n h' []);
  onward = takes.onward;
  read = counted_by_calls n h [] p ∙ ap (λ (r : Read (List Call)). r >>= behind_calls n []) (sym takes.read) ∙ sym (counted_by_calls n h' [] q);
}
calls_taken n h (x ∷ ps) p h' q is at takes =
    let done = calls_done n h h' p q (is.in_turn (omega arith)) takes in
    let still : GoesOn n h (x ∷ ps) p h (x ∷ ps) p = record { counted = is; spelled = refl; at = at; onward = omega arith; read = refl } in
    subst (λ (g : List Call). GoesOn n h (x ∷ ps) p g (x ∷ ps) q) (sym done.0) (subst (λ (r : Place). GoesOn n h (x ∷ ps) p h (x ∷ ps) r) (sym done.1) still)

regrouped : (n : Header) (h : List Call) (xs : List ℕ) (r : Place) → counted_text n h xs ++ r.bytes ≡ header_text n ++ (flat_map (call_text n.version) h ++ (flat_map position_text xs ++ r.bytes))
unfolding counted_text
regrouped n h xs r =
    append_assoc (header_text n) (flat_map (call_text n.version) h ++ flat_map position_text xs) r.bytes
    ∙ ap (λ (x : List ℕ). header_text n ++ x) (append_assoc (flat_map (call_text n.version) h) (flat_map position_text xs) r.bytes)

-- positions were taken
pub positions_taken : (n : Header) (h : List Call) (ps : List ℕ) (p : Place) (ps' : List ℕ) (q : Place) → IsCounted n h ps → length h ≡ n.count → p.at ≡ length (counted_text n h ps)
    → TakesItems position_at position_text (λ x. x < 2 ^ 32) n.count ps ps' p q → GoesOn n h ps p h ps' q
positions_taken n h ps p ps' q is full at takes = record {
  counted = record { few = is.few; within = is.within; behind = takes.within; in_turn = λ some. full; calls = is.calls; positions = takes.are is.positions };
  spelled = regrouped n h ps' q ∙ ap (λ (x : List ℕ). header_text n ++ (flat_map (call_text n.version) h ++ x)) takes.spelled ∙ sym (regrouped n h ps p);
  at = omega (arith, takes.at, at, length-counted_text n h ps, length-counted_text n h ps');
  onward = takes.onward;
  read = counted_by_positions n h ps p full ∙ ap (λ (r : Read (List ℕ)). r >>= last h) (sym takes.read) ∙ sym (counted_by_positions n h ps' q full);
}

pub on_and_on : (n : Header) (h : List Call) (ps : List ℕ) (p : Place) (h' : List Call) (ps' : List ℕ) (q : Place) (h'' : List Call) (ps'' : List ℕ) (r : Place)
    → GoesOn n h ps p h' ps' q → GoesOn n h' ps' q h'' ps'' r → GoesOn n h ps p h'' ps'' r
on_and_on n h ps p h' ps' q h'' ps'' r a b = record { counted = b.counted; spelled = b.spelled ∙ a.spelled; at = b.at; onward = omega (arith, a.onward, b.onward); read = a.read ∙ b.read }

-- where each ends

still_short : (n : Header) (h : List Call) (ps : List ℕ) → length ps ≢ n.count → Err Short ≡ standing (Some n) h ps
still_short n h ps other = ap (λ (b : Bool). cond b (Ok (pair_of h ps)) (Err Short)) (sym (ne_eqb (length ps) n.count other))

pub short_of_calls : (n : Header) (h : List Call) (ps : List ℕ) (q : Place) → IsCounted n h ps → length h < n.count → call_at n.version q ≡ Err Short → counted_at n h ps q ≡ standing (Some n) h ps
unfolding many_at
short_of_calls n h ps q is lt e =
    let k = n.count - length h - 1 in
    let one : n.count - length h ≡ suc k = omega arith in
    let with_first : Read Call → Read (List Call) = λ r. r >>= λ first. many_at (call_at n.version) k first.1 >>= λ others. Ok (first.0 ∷ others.0, others.1) in
    let item : many_at (call_at n.version) (n.count - length h) q ≡ Err Short = ap (λ (i : ℕ). many_at (call_at n.version) i q) one ∙ ap with_first e in
    let other : length ps ≢ n.count = λ full. let some : length h ≡ n.count = is.in_turn (omega (arith, full, lt)) in omega (arith, some, lt) in
    counted_by_calls n h ps q ∙ ap (λ (r : Read (List Call)). in_front h r >>= behind_calls n ps) item ∙ still_short n h ps other

pub short_of_positions : (n : Header) (h : List Call) (ps : List ℕ) (q : Place) → length h ≡ n.count → length ps < n.count → position_at q ≡ Err Short → counted_at n h ps q ≡ standing (Some n) h ps
unfolding many_at
short_of_positions n h ps q full lt e =
    let k = n.count - length ps - 1 in
    let one : n.count - length ps ≡ suc k = omega arith in
    let with_first : Read ℕ → Read (List ℕ) = λ r. r >>= λ first. many_at position_at k first.1 >>= λ others. Ok (first.0 ∷ others.0, others.1) in
    let item : many_at position_at (n.count - length ps) q ≡ Err Short = ap (λ (i : ℕ). many_at position_at i q) one ∙ ap with_first e in
    counted_by_positions n h ps q full ∙ ap (λ (r : Read (List ℕ)). in_front ps r >>= last h) item ∙ still_short n h ps (λ same. omega (arith, same, lt))

-- nothing is left to take
all_taken : (n : Header) (h : List Call) (ps : List ℕ) (q : Place) → length h ≡ n.count → length ps ≡ n.count → counted_at n h ps q ≡ end_at (pair_of h ps) q
unfolding many_at
all_taken n h ps q full full' =
    let none : n.count - length ps ≡ 0 = omega arith in
    counted_by_positions n h ps q full
    ∙ ap (λ (i : ℕ). in_front ps (many_at position_at i q) >>= last h) none
    ∙ ap (λ (x : List ℕ). end_at (pair_of h x) q) (append-nil ps)

pub whole_at_end : (n : Header) (h : List Call) (ps : List ℕ) (q : Place) → length h ≡ n.count → length ps ≡ n.count → q.bytes ≡ [] → counted_at n h ps q ≡ standing (Some n) h ps
unfolding end_at
whole_at_end n h ps q full full' nil =
    all_taken n h ps q full full'
    ∙ ap (λ (b : List ℕ). cond (eqb (length b) 0) (Ok (pair_of h ps)) (Err (Fault (TrailingBytes q.at)))) nil
    ∙ sym (ap (λ (b : Bool). cond b (Ok (pair_of h ps)) (Err Short)) (eq-eqb (length ps) n.count full'))

pub bytes_behind : (n : Header) (h : List Call) (ps : List ℕ) (q : Place) → length h ≡ n.count → length ps ≡ n.count → 0 < length q.bytes → counted_at n h ps q ≡ Err (Fault (TrailingBytes q.at))
unfolding end_at
bytes_behind n h ps q full full' some =
    all_taken n h ps q full full'
    ∙ ap (λ (b : Bool). cond b (Ok (pair_of h ps)) (Err (Fault (TrailingBytes q.at)))) (ne_eqb (length q.bytes) 0 (λ none. omega (arith, none, some)))

-- faults of items are faults of the whole
pub fault_in_calls : (n : Header) (h : List Call) (ps : List ℕ) (p : Place) (f : TraceFault) → FailsAs f (in_front h (many_at (call_at n.version) (n.count - length h) p)) → FailsAs f (counted_at n h ps p)
fault_in_calls n h ps p f fails known = counted_by_calls n h ps p ∙ ap (λ (r : Read (List Call)). r >>= behind_calls n ps) (fails known)

pub fault_in_positions : (n : Header) (h : List Call) (ps : List ℕ) (p : Place) (f : TraceFault) → length h ≡ n.count → FailsAs f (in_front ps (many_at position_at (n.count - length ps) p)) → FailsAs f (counted_at n h ps p)
fault_in_positions n h ps p f full fails known = counted_by_positions n h ps p full ∙ ap (λ (r : Read (List ℕ)). r >>= last h) (fails known)

-- ---- the header

abbrev taken_of : Option Header → List Call → List ℕ → TraceSoFar
taken_of header history certificate = record { header = header; history = history; certificate = certificate }

opened_first : (n : Header) (p q : Place) → p.at ≡ 0 → All (λ byte. byte < 256) p.bytes → header_at p ≡ Ok (n, q) → Opened (taken_of None [] []) (taken_of (Some n) [] []) p n q
opened_first n p q at fits e =
    let t = header_format.takes p n q (bytes_from_All p.bytes fits) e in
    record {
      header = refl;
      counted = record { few = t.1; within = omega arith; behind = omega arith; in_turn = λ some. absurd (omega (arith, some)); calls = All-nil (IsCallOf n.version); positions = All-nil (λ x. x < 2 ^ 32) };
      spelled = no_positions n [] q.bytes ∙ sym t.0.parts;
      at = omega (arith, at, t.0.at, length-counted_text n [] []);
      onward = omega (arith, t.0.at);
      read = behind_header n p q e;
    }

pub opened_now : (n : Header) (old : TraceSoFar) (p q : Place) → old.header ≡ None → IsTaken old.header old.history old.certificate → p.at ≡ length (text_so_far old.header old.history old.certificate)
    → All (λ byte. byte < 256) p.bytes → header_at p ≡ Ok (n, q) → Opened old (record old { header = Some n }) p n q
opened_now n old p q none is at fits e =
    let h = old.history in
    let c = old.certificate in
    let nothing : IsTaken None h c = subst (λ (o : Option Header). IsTaken o h c) none is in
    let start : p.at ≡ 0 = at ∙ ap (λ (o : Option Header). length (text_so_far o h c)) none in
    subst (λ (o : Option Header). Opened (taken_of o h c) (taken_of (Some n) h c) p n q) (sym none)
    (subst (λ (g : List Call). Opened (taken_of None g c) (taken_of (Some n) g c) p n q) (sym nothing.0)
    (subst (λ (d : List ℕ). Opened (taken_of None [] d) (taken_of (Some n) [] d) p n q) (sym nothing.1) (opened_first n p q start fits e)))
