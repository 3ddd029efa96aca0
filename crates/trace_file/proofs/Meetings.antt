-- What stands among bytes as the definition of a fault says is the fault that reading meets.
use Rattle.std.proofs.Common.{◌≡◌, ◌≢◌, ℕ, zero, suc, ◌+◌, ◌-◌, ◌^◌, ◌<◌, ◌≤◌, Bool, true, false, not, cond, eqb, ltb, List, [], ◌∷◌, ◌++◌, length, get_or, take, drop, Option, Some, None, Result, Ok, Err, refl, sym, ap, ◌∙◌, ◌⊎◌, append_assoc, arith, inl, inr}
use Rattle.std.specs.List.{flat_map, zip, prefix_len}
use Rattle.std.specs.Int.{Width, w16, w32, w64, byte_len, from_be_bytes, to_be_bytes}
use Rattle.std.proofs.lemmas.Bool.{cases_Bool, eqb-true, eqb-false, eq-eqb, ne_eqb, le-ltb, lt-ltb}
use Rattle.std.proofs.lemmas.List.{length-append, length-take, length-drop, take-append-drop, take-append-le, get_or-take}
use Rattle.std.proofs.lemmas.List.Elements.{recursion_from_All}
use Rattle.record_pages.specs.Expiry.{never}
use Rattle.trace_file.specs.declared.act.Act.TheVariants as acts
use Rattle.trace_file.specs.declared.header.Header.{Header}
use Rattle.trace_file.specs.declared.call_kind.CallKind.{CallKind}
use Rattle.trace_file.specs.declared.call_kind.CallKind.TheVariants.{Put, Remove, Hit, Miss}
use Rattle.trace_file.specs.declared.item_fault.ItemFault.{ItemFault}
use Rattle.trace_file.specs.declared.item_fault.ItemFault.TheVariants.{Fault}
use Rattle.trace_file.specs.declared.trace_fault.TraceFault.{TraceFault}
use Rattle.trace_file.specs.declared.trace_fault.TraceFault.TheVariants.{BadMagic, TooMany, BadKind, BadKey, BadValue, Truncated, TrailingBytes, ReadFault, OutOfMemory}
use Rattle.trace_file.specs.declared.version.Version.{Version}
use Rattle.trace_file.specs.declared.version.Version.TheVariants.{Timed, Timeless}
use Rattle.trace_file.specs.Reading.{Place, place, Read, ◌>>=◌, bytes_at, number_at, byte_at, or_fault, kind_of_byte, kind_at, key_at, value_at, act_at, call_at, first_difference, version_by, version_at, count_at, header_at, many_at, trace_at, met, first_fault_of}
use Rattle.trace_file.specs.Standing.{DiffersAt, CountsTooMany, AreCalls, IsKind, IsHead, HasBadValue, HasMore, StandsIn}
use Rattle.trace_file.specs.Stream.{in_front}
use Rattle.trace_file.specs.Text.{magic, most_calls, call_text, key_text, header_of, header_text, IsCallOf}
use Rattle.trace_file.proofs.Formats.{bytes_format, wide16, wide32, number_format, many_before}
use Rattle.trace_file.proofs.ItemFormats.{key_format, read_act, read_key, read_end, read_start, read_caller, made, call_format, same_from_none, version_format, header_format}
use Rattle.trace_file.proofs.ReaderLaws.{magic_len}
use Rattle.trace_file.proofs.Standings.{not_not, timed_at}
use Rattle.trace_file.proofs.public_laws.TraceLaws.{after_calls, after_header}
use Rattle.trace_file.proofs.ToldApart.{behind_trace, some_bytes}

-- ---- two steps

-- what stops the first step stops both
stops : {A B : Type 0} (r : Result A ItemFault) (d : ItemFault) (f : A → Result B ItemFault) → r ≡ Err d → (r >>= f) ≡ Err d
stops r d f e = ap (λ s. s >>= f) e

-- what the first step gives the second goes on from
goes : {A B : Type 0} (r : Result A ItemFault) (x : A) (f : A → Result B ItemFault) → r ≡ Ok x → (r >>= f) ≡ f x
goes r x f e = ap (λ s. s >>= f) e

-- ---- the magic and the count

-- two lists that agree before a place and differ there have so long a front in common
front_in_common : (bs os : List ℕ) (n : ℕ) → n < length bs → n < length os → take n bs ≡ take n os → get_or bs n 0 ≢ get_or os n 0 → prefix_len (λ p. not (not (eqb p.0 p.1))) (zip bs os) ≡ n
front_in_common [] os n a b same other = absurd (omega (arith, a))
front_in_common (b ∷ bs) [] n a b' same other = absurd (omega (arith, b'))
front_in_common (b ∷ bs) (o ∷ os) zero a b' same other =
    let step : cond (not (not (eqb b o))) (1 + prefix_len (λ p. not (not (eqb p.0 p.1))) (zip bs os)) 0 ≡ 0 = rw (not_not (eqb b o), ne_eqb b o other) refl in
    step
front_in_common (b ∷ bs) (o ∷ os) (suc m) a b' same other =
    let first : b ≡ o = ap (λ (xs : List ℕ). get_or xs 0 0) same in
    let others : take m bs ≡ take m os = ap (λ (xs : List ℕ). drop 1 xs) same in
    let rest = front_in_common bs os m (omega (arith, a)) (omega (arith, b')) others other in
    let m' = prefix_len (λ p. not (not (eqb p.0 p.1))) (zip bs os) in
    let step : cond (not (not (eqb b o))) (1 + m') 0 ≡ 1 + m' = rw (not_not (eqb b o), eq-eqb b o first) refl in
    let more : 1 + m' ≡ suc m = omega (arith, rest) in
    step ∙ more

zip_within : (bs os : List ℕ) (n : ℕ) → n < length bs → n < length os → n < length (zip bs os)
zip_within [] os n a b = absurd (omega (arith, a))
zip_within (b ∷ bs) [] n a b' = absurd (omega (arith, b'))
zip_within (b ∷ bs) (o ∷ os) zero a b' = omega arith
zip_within (b ∷ bs) (o ∷ os) (suc m) a b' = let rest = zip_within bs os m (omega (arith, a)) (omega (arith, b')) in omega (arith, rest)

some_of : (b : Bool) (x y : ℕ) → b ≡ true → x ≡ y → cond b (Some x) None ≡ Some y
some_of true x y b e = ap (λ (z : ℕ). Some z) e
some_of false x y b e = absurd cc

first_difference_is : (bs os : List ℕ) (n : ℕ) → n < length bs → n < length os → take n bs ≡ take n os → get_or bs n 0 ≢ get_or os n 0 → first_difference bs os ≡ Some n
first_difference_is bs os n a b same other =
    let m = prefix_len (λ p. not (not (eqb p.0 p.1))) (zip bs os) in
    let is : m ≡ n = front_in_common bs os n a b same other in
    let within : n < length (zip bs os) = zip_within bs os n a b in
    let below : m < length (zip bs os) = omega (arith, is, within) in
    some_of (ltb m (length (zip bs os))) m n (lt-ltb m (length (zip bs os)) below) is

bytes_are_there : (n at : ℕ) (bytes : List ℕ) → n ≤ length bytes → bytes_at n (place at bytes) ≡ Ok (take n bytes, place (at + n) (drop n bytes))
bytes_are_there n at bytes le = rw (le-ltb (length bytes) n le) refl

-- bytes that are not the older magic differ from it somewhere
differs_somewhere : (eight : List ℕ) (older : Option ℕ) → first_difference eight (magic Timeless) ≡ older → length eight ≡ 8 → eight ≢ magic Timeless → (j : ℕ) × (first_difference eight (magic Timeless) ≡ Some j)
differs_somewhere eight None e len other = absurd (other (same_from_none eight (magic Timeless) len e))
differs_somewhere eight (Some j) e len other = (j, e)

differs_met : (bytes : List ℕ) (at : ℕ) → DiffersAt bytes at → version_at (place 0 bytes) ≡ Err (Fault (BadMagic at))
unfolding version_at
differs_met bytes at d =
    let timed = magic Timed in
    let eight = take 8 bytes in
    let there : 8 ≤ length bytes = d.there in
    let within : at < 8 = d.within in
    let len : length eight ≡ 8 = omega (arith, length-take 8 bytes, there) in
    let front : take at eight ≡ take at timed = sym (take-append-le at eight (drop 8 bytes) (omega (arith, len, within))) ∙ ap (λ (b : List ℕ). take at b) (take-append-drop 8 bytes) ∙ d.same in
    let byte : get_or eight at 0 ≡ get_or bytes at 0 = get_or-take 8 bytes at 0 within in
    let other : get_or eight at 0 ≢ get_or timed at 0 = λ e. d.other (sym byte ∙ e) in
    let found : first_difference eight timed ≡ Some at = first_difference_is eight timed at (omega (arith, len, within)) within front other in
    let older = differs_somewhere eight (first_difference eight (magic Timeless)) refl len d.not_older in
    let none : 0 + at ≡ at = omega arith in
    let behind = place (0 + 8) (drop 8 bytes) in
    goes (bytes_at 8 (place 0 bytes)) (eight, behind) (λ b. version_by (first_difference b.0 (magic Timed)) (first_difference b.0 (magic Timeless)) 0 b.1) (bytes_are_there 8 0 bytes there)
    ∙ ap (λ (o : Option ℕ). version_by o (first_difference eight (magic Timeless)) 0 behind) found
    ∙ ap (λ (o : Option ℕ). version_by (Some at) o 0 behind) older.1
    ∙ ap (λ (i : ℕ). Err (Fault (BadMagic i))) none

count_met : (at count : ℕ) (more : List ℕ) → count < 2 ^ 32 → most_calls < count → count_at (place at (to_be_bytes w32 count ++ more)) ≡ Err (Fault (TooMany at))
unfolding count_at
count_met at count more small above =
    let behind = place (at + length (to_be_bytes w32 count)) more in
    goes (number_at w32 (place at (to_be_bytes w32 count ++ more))) (count, behind) (λ c. cond (ltb most_calls c.0) (Err (Fault (TooMany at))) (Ok c)) ((number_format w32 (2 ^ 32) wide32).again at count more small)
    ∙ ap (λ (b : Bool). cond b (Err (Fault (TooMany at))) (Ok (count, behind))) (lt-ltb most_calls count above)

too_many_met : (bytes : List ℕ) (at : ℕ) → CountsTooMany bytes at → header_at (place 0 bytes) ≡ Err (Fault (TooMany at))
unfolding header_at
too_many_met bytes at c =
    let v = c.version in
    let rest = to_be_bytes w32 c.count ++ c.more in
    let start = 0 + length (magic v) in
    let eight : start ≡ 8 = omega (arith, magic_len v) in
    ap (λ (b : List ℕ). header_at (place 0 b)) c.split
    ∙ goes (version_at (place 0 (magic v ++ rest))) (v, place start rest) (λ x. count_at x.1 >>= λ count. Ok (header_of x.0 count.0, count.1)) (version_format.again 0 v rest tt)
    ∙ stops (count_at (place start rest)) (Fault (TooMany start)) (λ count. Ok (header_of v count.0, count.1)) (count_met start c.count c.more c.number c.above)
    ∙ ap (λ (i : ℕ). Err (Fault (TooMany i))) (eight ∙ sym c.at_is)

in_header : (bytes : List ℕ) (f : TraceFault) → header_at (place 0 bytes) ≡ Err (Fault f) → first_fault_of bytes ≡ Some f
unfolding trace_at first_fault_of
in_header bytes f e = ap met (stops (header_at (place 0 bytes)) (Fault f) after_header e)

in_magic : (bytes : List ℕ) (f : TraceFault) → version_at (place 0 bytes) ≡ Err (Fault f) → first_fault_of bytes ≡ Some f
unfolding header_at
in_magic bytes f e = in_header bytes f (stops (version_at (place 0 bytes)) (Fault f) (λ v. count_at v.1 >>= λ count. Ok (header_of v.0 count.0, count.1)) e)

-- ---- a call

unknown_kind : (b : ℕ) → ¬ IsKind b → kind_of_byte b ≡ None
unknown_kind b unknown =
    let one = ne_eqb b 1 (λ e. unknown (omega (arith, e), omega (arith, e))) in
    let two = ne_eqb b 2 (λ e. unknown (omega (arith, e), omega (arith, e))) in
    let three = ne_eqb b 3 (λ e. unknown (omega (arith, e), omega (arith, e))) in
    let four = ne_eqb b 4 (λ e. unknown (omega (arith, e), omega (arith, e))) in
    rw (one, two, three, four) refl

known_kind : (b : ℕ) → IsKind b → (kind : CallKind) × (kind_of_byte b ≡ Some kind)
known_kind b is =
    elim (cases_Bool (eqb b 1)) [
      | inl e ↦ (Put, ap kind_of_byte (eqb-true b 1 e))
      | inr e1 ↦
          elim (cases_Bool (eqb b 2)) [
            | inl e ↦ (Remove, ap kind_of_byte (eqb-true b 2 e))
            | inr e2 ↦
                elim (cases_Bool (eqb b 3)) [
                  | inl e ↦ (Hit, ap kind_of_byte (eqb-true b 3 e))
                  | inr e3 ↦
                      elim (cases_Bool (eqb b 4)) [
                        | inl e ↦ (Miss, ap kind_of_byte (eqb-true b 4 e))
                        | inr e4 ↦
                            let one : b ≢ 1 = eqb-false b 1 e1 in
                            let two : b ≢ 2 = eqb-false b 2 e2 in
                            let three : b ≢ 3 = eqb-false b 3 e3 in
                            let four : b ≢ 4 = eqb-false b 4 e4 in
                            absurd (omega (arith, is.0, is.1, one, two, three, four))
                      ]
                ]
          ]
    ]

kind_met : (version : Version) (at b : ℕ) (more : List ℕ) → ¬ IsKind b → call_at version (place at (b ∷ more)) ≡ Err (Fault (BadKind at))
unfolding call_at kind_at byte_at
kind_met version at b more unknown =
    stops (kind_at (place at (b ∷ more))) (Fault (BadKind at)) (λ kind. read_caller version kind.0 kind.1) (ap (λ (o : Option CallKind). or_fault o (BadKind at) (place (at + 1) more)) (unknown_kind b unknown))

number_is_there : (w : Width) (at : ℕ) (bytes rest : List ℕ) → length bytes ≡ byte_len w → number_at w (place at (bytes ++ rest)) ≡ Ok (from_be_bytes w bytes, place (at + length bytes) rest)
unfolding number_at
number_is_there w at bytes rest len = ap (λ (r : Read (List ℕ)). r >>= λ b. Ok (from_be_bytes w b.0, b.1)) ((bytes_format (byte_len w)).again at bytes rest len)

-- after the head of a call its key is read
record Headed (version : Version) (kind : CallKind) (at : ℕ) (head rest : List ℕ) : Type 0 where
  pub caller : ℕ
  pub start : ℕ
  pub end : ℕ
  pub read : call_at version (place at (head ++ rest)) ≡ read_key version kind caller start end (place (at + length head) rest)

head_is_read : (version : Version) (kind : CallKind) (at : ℕ) (head rest : List ℕ) (is : IsHead head) → kind_of_byte is.kind ≡ Some kind → Headed version kind at head rest
unfolding call_at kind_at byte_at
head_is_read version kind at head rest is known =
    let numbers = is.numbers in
    let a = take 2 numbers in
    let more = drop 2 numbers in
    let b = take 8 more in
    let c = drop 8 more in
    let caller = from_be_bytes w16 a in
    let start = from_be_bytes w64 b in
    let end = from_be_bytes w64 c in
    let long : length numbers ≡ 18 = is.long in
    let of_head : length head ≡ suc (length numbers) = ap length is.text in
    let of_a : length a ≡ 2 = omega (arith, length-take 2 numbers, long) in
    let of_more : length more ≡ 16 = omega (arith, length-drop 2 numbers, long) in
    let of_b : length b ≡ 8 = omega (arith, length-take 8 more, of_more) in
    let of_c : length c ≡ 8 = omega (arith, length-drop 8 more, of_more) in
    let from_c = c ++ rest in
    let from_b = b ++ from_c in
    let from_a = a ++ from_b in
    let parts : numbers ++ rest ≡ from_a =
    ap (λ (x : List ℕ). x ++ rest) (sym (take-append-drop 2 numbers)) ∙ append_assoc a more rest
    ∙ ap (λ (x : List ℕ). a ++ (x ++ rest)) (sym (take-append-drop 8 more)) ∙ ap (λ (x : List ℕ). a ++ x) (append_assoc b c rest) in
    let bytes : head ++ rest ≡ is.kind ∷ from_a = ap (λ (x : List ℕ). x ++ rest) is.text ∙ ap (λ (x : List ℕ). is.kind ∷ x) parts in
    let at_a = at + 1 in
    let at_b = at_a + length a in
    let at_c = at_b + length b in
    let here : at_c + length c ≡ at + length head = omega (arith, of_head, long, of_a, of_b, of_c) in
    let known_here : kind_at (place at (is.kind ∷ from_a)) ≡ Ok (kind, place at_a from_a) = ap (λ (o : Option CallKind). or_fault o (BadKind at) (place at_a from_a)) known in
    record {
      caller = caller;
      start = start;
      end = end;
      read =
          ap (λ (x : List ℕ). call_at version (place at x)) bytes
          ∙ goes (kind_at (place at (is.kind ∷ from_a))) (kind, place at_a from_a) (λ k. read_caller version k.0 k.1) known_here
          ∙ goes (number_at w16 (place at_a from_a)) (caller, place at_b from_b) (λ x. read_start version kind x.0 x.1) (number_is_there w16 at_a a from_b of_a)
          ∙ goes (number_at w64 (place at_b from_b)) (start, place at_c from_c) (λ x. read_end version kind caller x.0 x.1) (number_is_there w64 at_b b from_c of_b)
          ∙ goes (number_at w64 (place at_c from_c)) (end, place (at_c + length c) rest) (λ x. read_key version kind caller start x.0 x.1) (number_is_there w64 at_c c rest of_c)
          ∙ ap (λ (i : ℕ). read_key version kind caller start end (place i rest)) here;
    }

no_key_met : (at : ℕ) (more : List ℕ) → key_at (place at (0 ∷ more)) ≡ Err (Fault (BadKey at))
unfolding key_at byte_at
no_key_met at more = refl

key_met : (version : Version) (at : ℕ) (head more : List ℕ) → IsHead head → call_at version (place at (head ++ (0 ∷ more))) ≡ Err (Fault (BadKey (at + length head)))
key_met version at head more is =
    let known = known_kind is.kind is.known in
    let h = head_is_read version known.0 at head (0 ∷ more) is known.1 in
    h.read ∙ stops (key_at (place (at + length head) (0 ∷ more))) (Fault (BadKey (at + length head))) (λ key. read_act version known.0 h.caller h.start h.end key.0 key.1) (no_key_met (at + length head) more)

long_value_met : (at len : ℕ) (more : List ℕ) → len < 2 ^ 16 → 2048 < len → value_at (place at (to_be_bytes w16 len ++ more)) ≡ Err (Fault (BadValue at))
unfolding value_at
long_value_met at len more small above =
    let behind = place (at + length (to_be_bytes w16 len)) more in
    goes (number_at w16 (place at (to_be_bytes w16 len ++ more))) (len, behind) (λ n. cond (ltb 2048 n.0) (Err (Fault (BadValue at))) (bytes_at n.0 n.1)) ((number_format w16 (2 ^ 16) wide16).again at len more small)
    ∙ ap (λ (b : Bool). cond b (Err (Fault (BadValue at))) (bytes_at len behind)) (lt-ltb 2048 len above)

-- a kind whose calls have values
record Valued (version : Version) (number : ℕ) : Type 0 where
  pub kind : CallKind
  pub known : kind_of_byte number ≡ Some kind
  pub stopped : (p : Place) (f : TraceFault) → value_at p ≡ Err (Fault f) → act_at version kind p ≡ Err (Fault f)

has_values : (version : Version) (number : ℕ) → (number ≡ 1) ⊎ (number ≡ 3) → Valued version number
unfolding act_at
has_values version number which =
    elim which [
      | inl put ↦ record { kind = Put; known = ap kind_of_byte put; stopped = λ p f e. stops (value_at p) (Fault f) (λ value. timed_at version never (λ v t. acts.Put v t) value.0 value.1) e }
      | inr hit ↦ record { kind = Hit; known = ap kind_of_byte hit; stopped = λ p f e. stops (value_at p) (Fault f) (λ value. timed_at version 0 (λ v t. acts.Hit v t) value.0 value.1) e }
    ]

value_met : (version : Version) (bytes : List ℕ) (at : ℕ) (s : HasBadValue bytes at) (start : ℕ)
    → call_at version (place start (s.head ++ (key_text s.key ++ (to_be_bytes w16 s.len ++ s.more)))) ≡ Err (Fault (BadValue (start + length s.head + length (key_text s.key))))
value_met version bytes at s start =
    let v = has_values version s.is_head.kind s.valued in
    let tail = to_be_bytes w16 s.len ++ s.more in
    let h = head_is_read version v.kind start s.head (key_text s.key ++ tail) s.is_head v.known in
    let at_key = start + length s.head in
    let at_value = at_key + length (key_text s.key) in
    let act : act_at version v.kind (place at_value tail) ≡ Err (Fault (BadValue at_value)) = v.stopped (place at_value tail) (BadValue at_value) (long_value_met at_value s.len s.more s.number s.above) in
    h.read
    ∙ goes (key_at (place at_key (key_text s.key ++ tail))) (s.key, place at_value tail) (λ key. read_act version v.kind h.caller h.start h.end key.0 key.1) (key_format.again at_key s.key tail s.is_key)
    ∙ stops (act_at version v.kind (place at_value tail)) (Fault (BadValue at_value)) (λ act. Ok (made h.caller h.start h.end s.key act.0, act.1)) act

-- ---- among the calls

-- what is wrong with the call after a header and calls, fewer than it counts, is what is met
behind_calls : (bytes front rest : List ℕ) (f : TraceFault) (a : AreCalls front) → bytes ≡ front ++ rest → call_at a.version (place (length front) rest) ≡ Err (Fault f) → first_fault_of bytes ≡ Some f
unfolding trace_at first_fault_of many_at
behind_calls bytes front rest f a split wrong =
    let version = a.version in
    let n = a.count in
    let h : Header = header_of version n in
    let calls = a.calls in
    let texts = flat_map (call_text version) calls in
    let start = 0 + length (header_text h) in
    let fewer : length calls < n = a.fewer in
    let k = n - length calls - 1 in
    let count : n ≡ length calls + suc k = omega (arith, fewer) in
    let here : start + length texts ≡ length front = omega (arith, ap length a.text, length-append (header_text h) texts) in
    let parts : bytes ≡ header_text h ++ (texts ++ rest) = split ∙ ap (λ (b : List ℕ). b ++ rest) a.text ∙ append_assoc (header_text h) texts rest in
    let behind = place (start + length texts) rest in
    let call : call_at version behind ≡ Err (Fault f) = ap (λ (i : ℕ). call_at version (place i rest)) here ∙ wrong in
    let one : many_at (call_at version) (suc k) behind ≡ Err (Fault f) = stops (call_at version behind) (Fault f) (λ first. many_at (call_at version) k first.1 >>= λ others. Ok (first.0 ∷ others.0, others.1)) call in
    let many : many_at (call_at version) n (place start (texts ++ rest)) ≡ Err (Fault f) =
    ap (λ (i : ℕ). many_at (call_at version) i (place start (texts ++ rest))) count
    ∙ many_before (call_format version) calls (suc k) start rest (recursion_from_All (IsCallOf version) calls a.lawful)
    ∙ ap (in_front calls) one in
    let whole : trace_at (place 0 bytes) ≡ Err (Fault f) =
    ap (λ (b : List ℕ). trace_at (place 0 b)) parts
    ∙ goes (header_at (place 0 (header_text h ++ (texts ++ rest)))) (h, place start (texts ++ rest)) after_header (header_format.again 0 h (texts ++ rest) a.few)
    ∙ stops (many_at (call_at version) n (place start (texts ++ rest))) (Fault f) (after_calls n) many in
    ap met whole

-- ---- each fault

more_met : (bytes : List ℕ) (at : ℕ) → HasMore bytes at → first_fault_of bytes ≡ Some (TrailingBytes at)
unfolding first_fault_of
more_met bytes at s =
    ap (λ (b : List ℕ). met (trace_at (place 0 b))) s.split
    ∙ ap met (behind_trace s.version s.history s.certificate s.more s.pair (some_bytes s.more s.some))
    ∙ ap (λ (i : ℕ). Some (TrailingBytes i)) (sym s.at_is)

pub standing_is_met : (bytes : List ℕ) (fault : TraceFault) → StandsIn bytes fault → first_fault_of bytes ≡ Some fault
standing_is_met bytes (BadMagic at) s = in_magic bytes (BadMagic at) (differs_met bytes at s)
standing_is_met bytes (TooMany at) s = in_header bytes (TooMany at) (too_many_met bytes at s)
standing_is_met bytes (BadKind at) s = behind_calls bytes s.front (s.kind ∷ s.more) (BadKind at) s.before s.split (kind_met s.before.version (length s.front) s.kind s.more s.unknown ∙ ap (λ (i : ℕ). Err (Fault (BadKind i))) (sym s.at_is))
standing_is_met bytes (BadKey at) s = behind_calls bytes s.front (s.head ++ (0 ∷ s.more)) (BadKey at) s.before s.split (key_met s.before.version (length s.front) s.head s.more s.is_head ∙ ap (λ (i : ℕ). Err (Fault (BadKey i))) (sym s.at_is))
standing_is_met bytes (BadValue at) s =
    behind_calls bytes s.front (s.head ++ (key_text s.key ++ (to_be_bytes w16 s.len ++ s.more))) (BadValue at) s.before s.split
    (value_met s.before.version bytes at s (length s.front) ∙ ap (λ (i : ℕ). Err (Fault (BadValue i))) (sym s.at_is))
standing_is_met bytes (TrailingBytes at) s = more_met bytes at s
standing_is_met bytes (Truncated at) s = absurd s
standing_is_met bytes (ReadFault at) s = absurd s
standing_is_met bytes OutOfMemory s = absurd s
