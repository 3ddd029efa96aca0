-- Each fault that reading meets stands where its definition says.
use Rattle.std.proofs.Common.{◌≡◌, ◌≢◌, ℕ, zero, suc, ◌+◌, ◌^◌, ◌<◌, ◌≤◌, Bool, true, false, not, cond, eqb, ltb, List, [], ◌∷◌, ◌++◌, length, get_or, take, drop, Option, Some, None, Result, Ok, Err, refl, sym, ap, subst, ◌∙◌, ◌⊎◌, arith, inl, inr, All}
use Rattle.std.specs.List.{flat_map, zip, prefix_len, AllByRecursion}
use Rattle.std.specs.Int.{Width, w16, w32, w64, byte_len, from_be_bytes, to_be_bytes}
use Rattle.std.proofs.lemmas.Bool.{cases_Bool, eqb-true, eqb-false, ltb-true}
use Rattle.std.proofs.lemmas.List.{length-append, take_at, take-append-le, get_or_append_left}
use Rattle.std.proofs.lemmas.List.Elements.{All-from_recursion}
use Rattle.std.proofs.lemmas.Option.{same_Some}
use Rattle.record_pages.specs.Bounded.{IsKey}
use Rattle.record_pages.specs.Expiry.{never}
use Rattle.trace_file.specs.declared.act.Act.{Act}
use Rattle.trace_file.specs.declared.act.Act.TheVariants as acts
use Rattle.trace_file.specs.declared.call.Call.{Call}
use Rattle.trace_file.specs.declared.header.Header.{Header}
use Rattle.trace_file.specs.declared.call_kind.CallKind.{CallKind}
use Rattle.trace_file.specs.declared.call_kind.CallKind.TheVariants.{Put, Remove, Hit, Miss}
use Rattle.trace_file.specs.declared.item_fault.ItemFault.{ItemFault}
use Rattle.trace_file.specs.declared.item_fault.ItemFault.TheVariants.{Fault}
use Rattle.trace_file.specs.declared.trace.Trace.{Trace}
use Rattle.trace_file.specs.declared.trace_fault.TraceFault.{TraceFault}
use Rattle.trace_file.specs.declared.trace_fault.TraceFault.TheVariants.{BadMagic, TooMany, BadKind, BadKey, BadValue, Truncated, TrailingBytes, ReadFault, OutOfMemory}
use Rattle.trace_file.specs.declared.version.Version.{Version}
use Rattle.trace_file.specs.declared.version.Version.TheVariants.{Timed, Timeless}
use Rattle.trace_file.specs.Reading.{Place, place, Read, ◌>>=◌, bytes_at, number_at, first_at, byte_at, or_fault, kind_of_byte, kind_at, key_at, value_at, time_at, act_at, call_at, position_at, first_difference, version_by, version_at, count_at, header_at, many_at, end_at, trace_at, first_fault_of}
use Rattle.trace_file.specs.Standing.{DiffersAt, CountsTooMany, AreCalls, IsKind, IsHead, HasMore, StandsIn}
use Rattle.trace_file.specs.Stream.{pair_of}
use Rattle.trace_file.specs.Text.{magic, most_calls, call_text, position_text, key_text, header_of, header_text, text_of, IsCallOf, IsPairOf}
use Rattle.trace_file.proofs.Formats.{IsBytes, bind_err, at_first, at_second, same_fault, not_short, Takes, Takes-then, bytes_format, wide16, wide32, wide64, number_format, byte_format, many_format}
use Rattle.trace_file.proofs.ItemFormats.{key_format, kind_text, kind_format, kind_number, kind_number-known, kind_number-put, kind_number-hit, read_act, read_key, read_end, read_start, read_caller, made, call_format, position_format, version_format, header_format}
use Rattle.trace_file.proofs.ReaderLaws.{magic_len}
use Rattle.trace_file.proofs.public_laws.Readings.{stopped_by}
use Rattle.trace_file.proofs.Takings.{bytes_from_All}
use Rattle.trace_file.proofs.public_laws.TraceLaws.{after_calls, after_header}

-- ---- what meets no fault

no_fault_in_byte : (at : ℕ) (bytes : List ℕ) (f : TraceFault) → first_at at bytes ≡ Err (Fault f) → ⊥
no_fault_in_byte at [] f e = cc
no_fault_in_byte at (b ∷ rest) f e = cc

no_fault_in_bytes : (n : ℕ) (p : Place) (f : TraceFault) → bytes_at n p ≡ Err (Fault f) → ⊥
no_fault_in_bytes n p f e = not_short (ltb (length p.bytes) n) (take n p.bytes, place (p.at + n) (drop n p.bytes)) f e

no_fault_in_number : (w : Width) (p : Place) (f : TraceFault) → number_at w p ≡ Err (Fault f) → ⊥
unfolding number_at
no_fault_in_number w p f e = elim (bind_err (bytes_at (byte_len w) p) (λ b. Ok (from_be_bytes w b.0, b.1)) (Fault f) e) [ at_first e' ↦ no_fault_in_bytes (byte_len w) p f e' | at_second x e' g ↦ cc ]

no_fault_in_positions : (n : ℕ) (p : Place) (f : TraceFault) → many_at position_at n p ≡ Err (Fault f) → ⊥
unfolding many_at
no_fault_in_positions zero p f e = cc
no_fault_in_positions (suc n) p f e =
    elim (bind_err (position_at p) (λ first. many_at position_at n first.1 >>= λ others. Ok (first.0 ∷ others.0, others.1)) (Fault f) e) [
      | at_first e' ↦ no_fault_in_number w32 p f e'
      | at_second x e' g ↦
          elim (bind_err (many_at position_at n x.1) (λ others. Ok (x.0 ∷ others.0, others.1)) (Fault f) g) [
            | at_first e'' ↦ no_fault_in_positions n x.1 f e''
            | at_second y e'' h ↦ cc
          ]
    ]

-- a value is no fault
not_ok : {A : Type 0} (x : A) (f : TraceFault) → ◌≡◌ {A = Result A ItemFault} (Ok x) (Err (Fault f)) → ⊥
not_ok x f e = cc

-- a test that met a fault
guard_err : {A : Type 0} (b : Bool) (d f : TraceFault) (r : Result A ItemFault) → cond b (Err (Fault d)) r ≡ Err (Fault f) → ((b ≡ true) × (d ≡ f)) ⊎ (r ≡ Err (Fault f))
guard_err true d f r e = inl (refl, same_fault d f e)
guard_err false d f r e = inr e

-- ---- the magic and the count

pub not_not : (b : Bool) → not (not b) ≡ b
not_not true = refl
not_not false = refl

-- before their first difference two lists agree, and there they do not
differ_first : (bs os : List ℕ) (n : ℕ) → n ≡ prefix_len (λ p. not (not (eqb p.0 p.1))) (zip bs os) → n < length (zip bs os) → (n < length bs) × (n < length os) × (take n bs ≡ take n os) × (get_or bs n 0 ≢ get_or os n 0)
differ_first [] os n is within = absurd (omega arith)
differ_first (b ∷ bs) [] n is within = absurd (omega arith)
differ_first (b ∷ bs) (o ∷ os) n is within =
    elim (cases_Bool (eqb b o)) [
      | inl same ↦
          let m = prefix_len (λ p. not (not (eqb p.0 p.1))) (zip bs os) in
          let step : cond (not (not (eqb b o))) (1 + m) 0 ≡ suc m = rw (not_not (eqb b o), same) (let one : 1 + m ≡ suc m = omega arith in one) in
          let more : n ≡ suc m = is ∙ step in
          let rest = differ_first bs os m refl (omega (arith, more, within)) in
          let front : take (suc m) (b ∷ bs) ≡ take (suc m) (o ∷ os) = ap (λ (x : ℕ). x ∷ take m bs) (eqb-true b o same) ∙ ap (λ (xs : List ℕ). o ∷ xs) rest.2 in
          subst (λ (k : ℕ). (k < suc (length bs)) × (k < suc (length os)) × (take k (b ∷ bs) ≡ take k (o ∷ os)) × (get_or (b ∷ bs) k 0 ≢ get_or (o ∷ os) k 0)) (sym more)
          (let one = rest.0 in omega (arith, one), let two = rest.1 in omega (arith, two), front, rest.3)
      | inr other ↦
          let step : cond (not (not (eqb b o))) (1 + prefix_len (λ p. not (not (eqb p.0 p.1))) (zip bs os)) 0 ≡ 0 = rw (not_not (eqb b o), other) refl in
          let none : n ≡ 0 = is ∙ step in
          subst (λ (k : ℕ). (k < suc (length bs)) × (k < suc (length os)) × (take k (b ∷ bs) ≡ take k (o ∷ os)) × (get_or (b ∷ bs) k 0 ≢ get_or (o ∷ os) k 0)) (sym none)
          (omega arith, omega arith, refl, eqb-false b o other)
    ]

some_is : (b : Bool) (x y : ℕ) → cond b (Some x) None ≡ Some y → (b ≡ true) × (x ≡ y)
some_is true x y e = (refl, same_Some x y e)
some_is false x y e = absurd cc

by_err : (differs older : Option ℕ) (at : ℕ) (p : Place) (f : TraceFault) → version_by differs older at p ≡ Err (Fault f) → (i : ℕ) × (j : ℕ) × (differs ≡ Some i) × (older ≡ Some j) × (BadMagic (at + i) ≡ f)
by_err None older at p f e = absurd cc
by_err (Some i) None at p f e = absurd cc
by_err (Some i) (Some j) at p f e = (i, j, refl, refl, same_fault (BadMagic (at + i)) f e)

-- bytes that differ from the older magic are not it
differ_so : (eight : List ℕ) (j : ℕ) → first_difference eight (magic Timeless) ≡ Some j → eight ≢ magic Timeless
differ_so eight j found e =
    let same : ◌≡◌ {A = Option ℕ} None (Some j) = ap (λ (b : List ℕ). first_difference b (magic Timeless)) (sym e) ∙ found in
    cc

version_differs : (bytes eight rest : List ℕ) (i j : ℕ) (f : TraceFault) → bytes ≡ eight ++ rest → length eight ≡ 8 → first_difference eight (magic Timed) ≡ Some i → first_difference eight (magic Timeless) ≡ Some j → BadMagic (0 + i) ≡ f
    → StandsIn bytes f
version_differs bytes eight rest i j f parts len found found' is =
    let timed = magic Timed in
    let n = prefix_len (λ p. not (not (eqb p.0 p.1))) (zip eight timed) in
    let at = some_is (ltb n (length (zip eight timed))) n i found in
    let d = differ_first eight timed n refl (ltb-true n (length (zip eight timed)) at.0) in
    let within : n < length eight = d.0 in
    let eighth : n < 8 = d.1 in
    let here : 0 + i ≡ n = omega (arith, at.1) in
    let front : take n bytes ≡ take n timed = ap (take n) parts ∙ take-append-le n eight rest (omega (arith, within)) ∙ d.2 in
    let byte : get_or bytes n 0 ≡ get_or eight n 0 = ap (λ (b : List ℕ). get_or b n 0) parts ∙ get_or_append_left eight rest 0 n within in
    let first : take 8 bytes ≡ eight = ap (take 8) parts ∙ take_at eight rest 8 len in
    let stands : DiffersAt bytes n = record {
      there = omega (arith, ap length parts, len, length-append eight rest);
      within = eighth;
      not_older = λ e. differ_so eight j found' (sym first ∙ e);
      same = front;
      other = λ e. d.3 (sym byte ∙ e);
    } in
    subst (StandsIn bytes) is (subst (DiffersAt bytes) (sym here) stands)

version_stands : (bytes : List ℕ) (f : TraceFault) → IsBytes bytes → version_at (place 0 bytes) ≡ Err (Fault f) → StandsIn bytes f
unfolding version_at
version_stands bytes f fits e =
    elim (bind_err (bytes_at 8 (place 0 bytes)) (λ b. version_by (first_difference b.0 (magic Timed)) (first_difference b.0 (magic Timeless)) 0 b.1) (Fault f) e) [
      | at_first e' ↦ absurd (no_fault_in_bytes 8 (place 0 bytes) f e')
      | at_second x e' g ↦
          let t = (bytes_format 8).takes (place 0 bytes) x.0 x.1 fits e' in
          let d = by_err (first_difference x.0 (magic Timed)) (first_difference x.0 (magic Timeless)) 0 x.1 f g in
          version_differs bytes x.0 x.1.bytes d.0 d.1 f t.0.parts t.1 d.2 d.3 d.4
    ]

count_stands : (version : Version) (bytes : List ℕ) (p : Place) (f : TraceFault) → IsBytes p.bytes → bytes ≡ magic version ++ p.bytes → p.at ≡ 8 → count_at p ≡ Err (Fault f) → StandsIn bytes f
unfolding count_at
count_stands version bytes p f fits behind at e =
    elim (bind_err (number_at w32 p) (λ count. cond (ltb most_calls count.0) (Err (Fault (TooMany p.at))) (Ok count)) (Fault f) e) [
      | at_first e' ↦ absurd (no_fault_in_number w32 p f e')
      | at_second x e' g ↦
          let t = (number_format w32 (2 ^ 32) wide32).takes p x.0 x.1 fits e' in
          elim (guard_err (ltb most_calls x.0) (TooMany p.at) f (Ok x) g) [
            | inl d ↦
                let stands : CountsTooMany bytes p.at = record {
                  version = version;
                  count = x.0;
                  more = x.1.bytes;
                  split = behind ∙ ap (λ (b : List ℕ). magic version ++ b) t.0.parts;
                  number = t.1;
                  above = ltb-true most_calls x.0 d.0;
                  at_is = at;
                } in
                subst (StandsIn bytes) d.1 stands
            | inr other ↦ absurd (not_ok x f other)
          ]
    ]

header_stands : (bytes : List ℕ) (f : TraceFault) → IsBytes bytes → header_at (place 0 bytes) ≡ Err (Fault f) → StandsIn bytes f
unfolding header_at
header_stands bytes f fits e =
    elim (bind_err (version_at (place 0 bytes)) (λ v. count_at v.1 >>= λ count. Ok (header_of v.0 count.0, count.1)) (Fault f) e) [
      | at_first e' ↦ version_stands bytes f fits e'
      | at_second x e' g ↦
          let t = version_format.takes (place 0 bytes) x.0 x.1 fits e' in
          elim (bind_err (count_at x.1) (λ count. Ok (header_of x.0 count.0, count.1)) (Fault f) g) [
            | at_first e'' ↦ count_stands x.0 bytes x.1 f t.0.rest_fits t.0.parts (omega (arith, t.0.at, magic_len x.0)) e''
            | at_second y e'' h ↦ absurd (not_ok (header_of x.0 y.0, y.1) f h)
          ]
    ]

-- ---- a call

-- where a fault of a call stands, after a place
abbrev CallStands : Place → TraceFault → Type 0
CallStands p (BadKind at) = (kind : ℕ) × (more : List ℕ) × (p.bytes ≡ kind ∷ more) × (¬ IsKind kind) × (at ≡ p.at)
CallStands p (BadKey at) = (head : List ℕ) × IsHead head × (more : List ℕ) × (p.bytes ≡ head ++ (0 ∷ more)) × (at ≡ p.at + length head)
CallStands p (BadValue at) =
    (head : List ℕ) × (is : IsHead head) × ((is.kind ≡ 1) ⊎ (is.kind ≡ 3)) × (key : List ℕ) × IsKey key × (len : ℕ) × (more : List ℕ)
    × (p.bytes ≡ head ++ (key_text key ++ (to_be_bytes w16 len ++ more))) × (2048 < len) × (len < 2 ^ 16) × (at ≡ p.at + length head + length (key_text key))
CallStands p f = ⊥

or_fault_err : {A : Type 0} (o : Option A) (d : TraceFault) (p : Place) (f : TraceFault) → or_fault o d p ≡ Err (Fault f) → (o ≡ None) × (d ≡ f)
or_fault_err (Some x) d p f e = absurd cc
or_fault_err None d p f e = (refl, same_fault d f e)

none_by : (p r h m : Bool) → cond p (Some Put) (cond r (Some Remove) (cond h (Some Hit) (cond m (Some Miss) None))) ≡ None → (p ≡ false) × (r ≡ false) × (h ≡ false) × (m ≡ false)
none_by true r h m e = absurd cc
none_by false true h m e = absurd cc
none_by false false true m e = absurd cc
none_by false false false true e = absurd cc
none_by false false false false e = (refl, refl, refl, refl)

no_kind : (b : ℕ) → kind_of_byte b ≡ None → ¬ IsKind b
no_kind b e is =
    let n = none_by (eqb b 1) (eqb b 2) (eqb b 3) (eqb b 4) e in
    let one : b ≢ 1 = eqb-false b 1 n.0 in
    let two : b ≢ 2 = eqb-false b 2 n.1 in
    let three : b ≢ 3 = eqb-false b 3 n.2 in
    let four : b ≢ 4 = eqb-false b 4 n.3 in
    omega (arith, is.0, is.1, one, two, three, four)

kind_stands : (p : Place) (f : TraceFault) → IsBytes p.bytes → kind_at p ≡ Err (Fault f) → CallStands p f
unfolding kind_at byte_at
kind_stands p f fits e =
    elim (bind_err (byte_at p) (λ b. or_fault (kind_of_byte b.0) (BadKind p.at) b.1) (Fault f) e) [
      | at_first e' ↦ absurd (no_fault_in_byte p.at p.bytes f e')
      | at_second x e' g ↦
          let t = byte_format.takes p x.0 x.1 fits e' in
          let d = or_fault_err (kind_of_byte x.0) (BadKind p.at) x.1 f g in
          subst (CallStands p) d.1 (x.0, x.1.bytes, t.0.parts, no_kind x.0 d.0, refl)
    ]

key_fault : (p : Place) (f : TraceFault) → IsBytes p.bytes → key_at p ≡ Err (Fault f) → (more : List ℕ) × (p.bytes ≡ 0 ∷ more) × (BadKey p.at ≡ f)
unfolding key_at byte_at
key_fault p f fits e =
    elim (bind_err (byte_at p) (λ len. cond (eqb len.0 0) (Err (Fault (BadKey p.at))) (bytes_at len.0 len.1)) (Fault f) e) [
      | at_first e' ↦ absurd (no_fault_in_byte p.at p.bytes f e')
      | at_second x e' g ↦
          let t = byte_format.takes p x.0 x.1 fits e' in
          elim (guard_err (eqb x.0 0) (BadKey p.at) f (bytes_at x.0 x.1) g) [
            | inl d ↦ (x.1.bytes, t.0.parts ∙ ap (λ (n : ℕ). n ∷ x.1.bytes) (eqb-true x.0 0 d.0), d.1)
            | inr other ↦ absurd (no_fault_in_bytes x.0 x.1 f other)
          ]
    ]

abbrev LongValue : Place → TraceFault → Type 0
LongValue p f = (len : ℕ) × (more : List ℕ) × (p.bytes ≡ to_be_bytes w16 len ++ more) × (2048 < len) × (len < 2 ^ 16) × (BadValue p.at ≡ f)

value_fault : (p : Place) (f : TraceFault) → IsBytes p.bytes → value_at p ≡ Err (Fault f) → LongValue p f
unfolding value_at
value_fault p f fits e =
    elim (bind_err (number_at w16 p) (λ len. cond (ltb 2048 len.0) (Err (Fault (BadValue p.at))) (bytes_at len.0 len.1)) (Fault f) e) [
      | at_first e' ↦ absurd (no_fault_in_number w16 p f e')
      | at_second x e' g ↦
          let t = (number_format w16 (2 ^ 16) wide16).takes p x.0 x.1 fits e' in
          elim (guard_err (ltb 2048 x.0) (BadValue p.at) f (bytes_at x.0 x.1) g) [
            | inl d ↦ (x.0, x.1.bytes, t.0.parts, ltb-true 2048 x.0 d.0, t.1, d.1)
            | inr other ↦ absurd (no_fault_in_bytes x.0 x.1 f other)
          ]
    ]

no_fault_in_time : (version : Version) (meant : ℕ) (p : Place) (f : TraceFault) → time_at version meant p ≡ Err (Fault f) → ⊥
unfolding time_at
no_fault_in_time Timed meant p f e = no_fault_in_number w64 p f e
no_fault_in_time Timeless meant p f e = not_ok (meant, p) f e

-- a time after a value, and the act that has both
abbrev pub timed_at : Version → ℕ → (List ℕ → ℕ → Act) → List ℕ → Place → Read Act
timed_at version meant make value p = time_at version meant p >>= λ time. Ok (make value time.0, time.1)

timed_fault : (version : Version) (meant : ℕ) (make : List ℕ → ℕ → Act) (value : List ℕ) (p : Place) (f : TraceFault) → timed_at version meant make value p ≡ Err (Fault f) → ⊥
timed_fault version meant make value p f e =
    elim (bind_err (time_at version meant p) (λ time. Ok (make value time.0, time.1)) (Fault f) e) [ at_first e' ↦ no_fault_in_time version meant p f e' | at_second x e' g ↦ not_ok (make value x.0, x.1) f g ]

act_fault : (version : Version) (kind : CallKind) (p : Place) (f : TraceFault) → IsBytes p.bytes → act_at version kind p ≡ Err (Fault f) → ((kind_number kind ≡ 1) ⊎ (kind_number kind ≡ 3)) × LongValue p f
unfolding act_at
act_fault version Put p f fits e =
    elim (bind_err (value_at p) (λ value. timed_at version never (λ v t. acts.Put v t) value.0 value.1) (Fault f) e) [
      | at_first e' ↦ (inl kind_number-put, value_fault p f fits e')
      | at_second x e' g ↦ absurd (timed_fault version never (λ v t. acts.Put v t) x.0 x.1 f g)
    ]
act_fault version Remove p f fits e = absurd (not_ok (acts.Remove, p) f e)
act_fault version Hit p f fits e =
    elim (bind_err (value_at p) (λ value. timed_at version 0 (λ v t. acts.Hit v t) value.0 value.1) (Fault f) e) [
      | at_first e' ↦ (inr kind_number-hit, value_fault p f fits e')
      | at_second x e' g ↦ absurd (timed_fault version 0 (λ v t. acts.Hit v t) x.0 x.1 f g)
    ]
act_fault version Miss p f fits e = absurd (not_ok (acts.Miss, p) f e)

-- what a call has before its key
abbrev head_of : CallKind → ℕ → ℕ → ℕ → List ℕ
head_of kind caller start end = ((kind_text kind ++ to_be_bytes w16 caller) ++ to_be_bytes w64 start) ++ to_be_bytes w64 end

head_is : (kind : CallKind) (caller start end : ℕ) → IsHead (head_of kind caller start end)
head_is kind caller start end = record {
  kind = kind_number kind;
  numbers = (to_be_bytes w16 caller ++ to_be_bytes w64 start) ++ to_be_bytes w64 end;
  text = refl;
  known = kind_number-known kind;
  long = refl;
}

module _ (version : Version) (p : Place) (f : TraceFault) (kind : CallKind) where
  in_act : (caller start end : ℕ) (key : List ℕ) (q r : Place) → Takes p (head_of kind caller start end) q → Takes q (key_text key) r → IsKey key → read_act version kind caller start end key r ≡ Err (Fault f) → CallStands p f
  unfolding head_is
  in_act caller start end key q r took took' is e =
      let head = head_of kind caller start end in
      elim (bind_err (act_at version kind r) (λ act. Ok (made caller start end key act.0, act.1)) (Fault f) e) [
        | at_first e' ↦
            let a = act_fault version kind r f took'.rest_fits e' in
            let v = a.1 in
            let whole = took.parts ∙ ap (λ (b : List ℕ). head ++ b) (took'.parts ∙ ap (λ (b : List ℕ). key_text key ++ b) v.2) in
            let at : r.at ≡ p.at + length head + length (key_text key) = omega (arith, took.at, took'.at) in
            subst (CallStands p) v.5 (head, head_is kind caller start end, a.0, key, is, v.0, v.1, whole, v.3, v.4, at)
        | at_second x e' g ↦ absurd (not_ok (made caller start end key x.0, x.1) f g)
      ]

  in_key : (caller start end : ℕ) (q : Place) → Takes p (head_of kind caller start end) q → read_key version kind caller start end q ≡ Err (Fault f) → CallStands p f
  in_key caller start end q took e =
      let head = head_of kind caller start end in
      elim (bind_err (key_at q) (λ key. read_act version kind caller start end key.0 key.1) (Fault f) e) [
        | at_first e' ↦
            let k = key_fault q f took.rest_fits e' in
            subst (CallStands p) k.2 (head, head_is kind caller start end, k.0, took.parts ∙ ap (λ (b : List ℕ). head ++ b) k.1, took.at)
        | at_second x e' g ↦
            let t = key_format.takes q x.0 x.1 took.rest_fits e' in
            in_act caller start end x.0 q x.1 took t.0 t.1 g
      ]

  in_end : (caller start : ℕ) (q : Place) → Takes p ((kind_text kind ++ to_be_bytes w16 caller) ++ to_be_bytes w64 start) q → read_end version kind caller start q ≡ Err (Fault f) → CallStands p f
  in_end caller start q took e =
      elim (bind_err (number_at w64 q) (λ end. read_key version kind caller start end.0 end.1) (Fault f) e) [
        | at_first e' ↦ absurd (no_fault_in_number w64 q f e')
        | at_second x e' g ↦
            let t = (number_format w64 (2 ^ 64) wide64).takes q x.0 x.1 took.rest_fits e' in
            in_key caller start x.0 x.1 (Takes-then p ((kind_text kind ++ to_be_bytes w16 caller) ++ to_be_bytes w64 start) q (to_be_bytes w64 x.0) x.1 took t.0) g
      ]

  in_start : (caller : ℕ) (q : Place) → Takes p (kind_text kind ++ to_be_bytes w16 caller) q → read_start version kind caller q ≡ Err (Fault f) → CallStands p f
  in_start caller q took e =
      elim (bind_err (number_at w64 q) (λ start. read_end version kind caller start.0 start.1) (Fault f) e) [
        | at_first e' ↦ absurd (no_fault_in_number w64 q f e')
        | at_second x e' g ↦
            let t = (number_format w64 (2 ^ 64) wide64).takes q x.0 x.1 took.rest_fits e' in
            in_end caller x.0 x.1 (Takes-then p (kind_text kind ++ to_be_bytes w16 caller) q (to_be_bytes w64 x.0) x.1 took t.0) g
      ]

  in_caller : (q : Place) → Takes p (kind_text kind) q → read_caller version kind q ≡ Err (Fault f) → CallStands p f
  in_caller q took e =
      elim (bind_err (number_at w16 q) (λ caller. read_start version kind caller.0 caller.1) (Fault f) e) [
        | at_first e' ↦ absurd (no_fault_in_number w16 q f e')
        | at_second x e' g ↦
            let t = (number_format w16 (2 ^ 16) wide16).takes q x.0 x.1 took.rest_fits e' in
            in_start x.0 x.1 (Takes-then p (kind_text kind) q (to_be_bytes w16 x.0) x.1 took t.0) g
      ]

call_stands : (version : Version) (p : Place) (f : TraceFault) → IsBytes p.bytes → call_at version p ≡ Err (Fault f) → CallStands p f
unfolding call_at
call_stands version p f fits e =
    elim (bind_err (kind_at p) (λ kind. read_caller version kind.0 kind.1) (Fault f) e) [
      | at_first e' ↦ kind_stands p f fits e'
      | at_second x e' g ↦ in_caller version p f x.0 x.1 (kind_format.takes p x.0 x.1 fits e').0 g
    ]

-- ---- among the calls, and at the end

-- after some calls, fewer than these, stands what is wrong with the next
pub record AmongCalls (version : Version) (n : ℕ) (p : Place) (f : TraceFault) : Type 0 where
  pub calls : List Call
  pub behind : Place
  pub took : Takes p (flat_map (call_text version) calls) behind
  pub lawful : AllByRecursion (IsCallOf version) calls
  pub fewer : length calls < n
  pub stands : CallStands behind f

calls_stand : (version : Version) (n : ℕ) (p : Place) (f : TraceFault) → IsBytes p.bytes → many_at (call_at version) n p ≡ Err (Fault f) → AmongCalls version n p f
unfolding many_at
calls_stand version zero p f fits e = absurd (not_ok ([], p) f e)
calls_stand version (suc n) p f fits e =
    elim (bind_err (call_at version p) (λ first. many_at (call_at version) n first.1 >>= λ others. Ok (first.0 ∷ others.0, others.1)) (Fault f) e) [
      | at_first e' ↦
          let nothing : Takes p [] p = record { parts = refl; at = omega arith; rest_fits = fits } in
          record { calls = []; behind = p; took = nothing; lawful = tt; fewer = omega arith; stands = call_stands version p f fits e' }
      | at_second x e' g ↦
          let t = (call_format version).takes p x.0 x.1 fits e' in
          elim (bind_err (many_at (call_at version) n x.1) (λ others. Ok (x.0 ∷ others.0, others.1)) (Fault f) g) [
            | at_first e'' ↦
                let rest = calls_stand version n x.1 f t.0.rest_fits e'' in
                record {
                  calls = x.0 ∷ rest.calls;
                  behind = rest.behind;
                  took = Takes-then p (call_text version x.0) x.1 (flat_map (call_text version) rest.calls) rest.behind t.0 rest.took;
                  lawful = (t.1, rest.lawful);
                  fewer = let less = rest.fewer in omega (arith, less);
                  stands = rest.stands;
                }
            | at_second y e'' h ↦ absurd (not_ok (x.0 ∷ y.0, y.1) f h)
          ]
    ]

module _ (bytes : List ℕ) (n : Header) (calls : List Call) (q : Place) (took : Takes (place 0 bytes) (header_text n ++ flat_map (call_text n.version) calls) q) (few : n.count ≤ most_calls) (lawful : AllByRecursion (IsCallOf n.version) calls) (fewer : length calls < n.count) where
  abbrev front : List ℕ
  front = header_text n ++ flat_map (call_text n.version) calls

  before : AreCalls front
  before = record { version = n.version; count = n.count; calls = calls; text = refl; few = few; lawful = All-from_recursion (IsCallOf n.version) calls lawful; fewer = fewer }

  among : (f : TraceFault) → CallStands q f → StandsIn bytes f
  among (BadKind at) s = record { front = front; before = before; kind = s.0; more = s.1; split = took.parts ∙ ap (λ (b : List ℕ). front ++ b) s.2; unknown = s.3; at_is = let is = s.4 in omega (arith, is, took.at) }
  among (BadKey at) s = record { front = front; before = before; head = s.0; is_head = s.1; more = s.2; split = took.parts ∙ ap (λ (b : List ℕ). front ++ b) s.3; at_is = let is = s.4 in omega (arith, is, took.at) }
  among (BadValue at) s = record {
    front = front;
    before = before;
    head = s.0;
    is_head = s.1;
    valued = s.2;
    key = s.3;
    is_key = s.4;
    len = s.5;
    more = s.6;
    split = took.parts ∙ ap (λ (b : List ℕ). front ++ b) s.7;
    above = s.8;
    number = s.9;
    at_is = let is = s.10 in omega (arith, is, took.at);
  }
  among (BadMagic at) s = absurd s
  among (TooMany at) s = absurd s
  among (Truncated at) s = absurd s
  among (TrailingBytes at) s = absurd s
  among (ReadFault at) s = absurd s
  among OutOfMemory s = absurd s

end_err : (b : Bool) (t : Trace) (d f : TraceFault) → ◌≡◌ {A = Result Trace ItemFault} (cond b (Ok t) (Err (Fault d))) (Err (Fault f)) → (b ≡ false) × (d ≡ f)
end_err true t d f e = absurd cc
end_err false t d f e = (refl, same_fault d f e)

end_fault : (t : Trace) (p : Place) (f : TraceFault) → end_at t p ≡ Err (Fault f) → (p.bytes ≢ []) × (TrailingBytes p.at ≡ f)
unfolding end_at
end_fault t p f e =
    let d = end_err (eqb (length p.bytes) 0) t (TrailingBytes p.at) f e in
    (λ none. eqb-false (length p.bytes) 0 d.0 (ap length none), d.1)

module _ (bytes : List ℕ) (n : Header) (f : TraceFault) (q : Place) (took : Takes (place 0 bytes) (header_text n) q) (few : n.count ≤ most_calls) where
  at_the_end : (calls : List Call) (positions : List ℕ) (r s : Place) → Takes q (flat_map (call_text n.version) calls) r → Takes r (flat_map position_text positions) s
      → length calls ≡ n.count → AllByRecursion (IsCallOf n.version) calls → length positions ≡ n.count → AllByRecursion (λ position. position < 2 ^ 32) positions → end_at (pair_of calls positions) s ≡ Err (Fault f) → StandsIn bytes f
  unfolding text_of
  at_the_end calls positions r s took' took'' count lawful count' lawful' e =
      let items = flat_map (call_text n.version) calls ++ flat_map position_text positions in
      let both = Takes-then q (flat_map (call_text n.version) calls) r (flat_map position_text positions) s took' took'' in
      let all = Takes-then (place 0 bytes) (header_text n) q items s took both in
      let end = end_fault (pair_of calls positions) s f e in
      let text : header_text n ++ items ≡ text_of n.version calls positions = ap (λ (k : ℕ). header_text (header_of n.version k) ++ items) (sym count) in
      let pair : IsPairOf n.version calls positions = record {
        calls = All-from_recursion (IsCallOf n.version) calls lawful;
        positions = All-from_recursion (λ position. position < 2 ^ 32) positions lawful';
        few = omega (arith, few, count);
        as_many = count' ∙ sym count;
      } in
      let lens : length (header_text n ++ items) ≡ length (text_of n.version calls positions) = ap length text in
      let stands : HasMore bytes s.at = record {
        version = n.version;
        history = calls;
        certificate = positions;
        pair = pair;
        more = s.bytes;
        some = end.0;
        split = all.parts ∙ ap (λ (b : List ℕ). b ++ s.bytes) text;
        at_is = omega (arith, all.at, lens);
      } in
      subst (StandsIn bytes) end.1 stands

  behind_calls : (calls : List Call) (r : Place) → Takes q (flat_map (call_text n.version) calls) r → length calls ≡ n.count → AllByRecursion (IsCallOf n.version) calls → after_calls n.count (calls, r) ≡ Err (Fault f) → StandsIn bytes f
  behind_calls calls r took' count lawful e =
      elim (bind_err (many_at position_at n.count r) (λ positions. end_at (pair_of calls positions.0) positions.1) (Fault f) e) [
        | at_first e' ↦ absurd (no_fault_in_positions n.count r f e')
        | at_second x e' g ↦
            let t = (many_format position_format n.count).takes r x.0 x.1 took'.rest_fits e' in
            at_the_end calls x.0 r x.1 took' t.0 count lawful t.1.0 t.1.1 g
      ]

  behind_header : after_header (n, q) ≡ Err (Fault f) → StandsIn bytes f
  behind_header e =
      elim (bind_err (many_at (call_at n.version) n.count q) (after_calls n.count) (Fault f) e) [
        | at_first e' ↦
            let m = calls_stand n.version n.count q f took.rest_fits e' in
            among bytes n m.calls m.behind (Takes-then (place 0 bytes) (header_text n) q (flat_map (call_text n.version) m.calls) m.behind took m.took) few m.lawful m.fewer f m.stands
        | at_second x e' g ↦
            let t = (many_format (call_format n.version) n.count).takes q x.0 x.1 took.rest_fits e' in
            behind_calls x.0 x.1 t.0 t.1.0 t.1.1 g
      ]

trace_stands : (bytes : List ℕ) (f : TraceFault) → IsBytes bytes → trace_at (place 0 bytes) ≡ Err (Fault f) → StandsIn bytes f
unfolding trace_at
trace_stands bytes f fits e =
    elim (bind_err (header_at (place 0 bytes)) after_header (Fault f) e) [
      | at_first e' ↦ header_stands bytes f fits e'
      | at_second x e' g ↦
          let t = header_format.takes (place 0 bytes) x.0 x.1 fits e' in
          behind_header bytes x.0 f x.1 t.0 t.1 g
    ]

pub fault_stands : (bytes : List ℕ) (fault : TraceFault) → All (λ byte. byte < 256) bytes → first_fault_of bytes ≡ Some fault → StandsIn bytes fault
unfolding first_fault_of
fault_stands bytes fault are met = trace_stands bytes fault (bytes_from_All bytes are) (stopped_by (trace_at (place 0 bytes)) fault met)
