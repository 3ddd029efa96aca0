-- A history that was written as text reads back.
use Rattle.std.proofs.Common.{◌≡◌, ℕ, suc, ◌+◌, ◌^◌, ◌<◌, ◌≤◌, Bool, true, false, cond, not, ◌||◌, nat_lt, eqb, List, [], ◌∷◌, ◌++◌, length, All, None, Result, Ok, map, fold, refl, sym, ap, ap₂, ◌∙◌, arith, inl, inr, append_assoc}
use Rattle.std.specs.Fmt.{decimal}
use Rattle.std.specs.List.{IsDistinct, list_any, position_or_len, range_with_len}
use Rattle.std.specs.Str.{bytes_eq}
use Rattle.std.specs.Cmp.Lexicographic.{bytes_decides}
use Rattle.std.proofs.lemmas.Bool.{cases_Bool}
use Rattle.std.proofs.lemmas.Bool.Decides.{nat_tests}
use Rattle.std.proofs.lemmas.Cmp.{nat_eq_equiv}
use Rattle.std.proofs.lemmas.Fmt.{decimal_injective}
use Rattle.std.proofs.lemmas.List.{append-nil, length-append, map-append}
use Rattle.std.proofs.lemmas.List.Elements.{All-nil, All-cons, All-head, All-tail, All-append}
use Rattle.std.proofs.lemmas.List.Folds.{list_any-append, position_or_len_push}
use Rattle.std.proofs.lemmas.Map.Keys.{IsDistinct-push}
use Rattle.std.proofs.lemmas.Map.Steps.{length-le_from_distinct_below}
use borrow.Author.Tests.{lt-ltb}
use Rattle.script_words.specs.Lines.{lines_of}
use Rattle.trace_file.specs.declared.call.Call.{Call}
use Rattle.history_text.specs.declared.line_cause.LineCause.{LineCause}
use Rattle.history_text.specs.ReadingBack.{IsTold, met, name_of, numbered, read_back}
use Rattle.history_text.specs.Readings.{is_in_share, whole}
use Rattle.history_text.specs.Text.{Text, after_line, by_line, call_by, noted, number_of, of_history, passing, read_by, read_from, recorded, recorded_if, text_of}
use Rattle.history_text.specs.Writing.{line_where, text_line, written}
use Rattle.history_text.proofs.Saying.{not_less}
use Rattle.history_text.proofs.LineTexts.{Reads, line, line_first, line_is, reads, spelled}

-- ---- callers by their names

-- names are apart just as callers are
name_same : (a b : ℕ) → a < 2 ^ 16 → b < 2 ^ 16 → bytes_eq (name_of a) (name_of b) ≡ eqb a b
name_same a b small other = elim (cases_Bool (eqb a b)) [
  | inl same ↦
      let is : a ≡ b = grind (arith, nat_tests) in
      (bytes_decides (name_of a) (name_of b)).1 (ap name_of is) ∙ sym same
  | inr apart ↦ elim (cases_Bool (bytes_eq (name_of a) (name_of b))) [
    | inl same ↦
        let is : name_of a ≡ name_of b = (bytes_decides (name_of a) (name_of b)).0 same in
        let tails : decimal a ≡ decimal b = cc in
        let number = decimal_injective a b (omega (arith, small)) (omega (arith, other)) tails in
        let bad : eqb a b ≡ true = grind (arith, nat_tests) in
        let worse : true ≡ false = sym bad ∙ apart in cc
    | inr other_name ↦ other_name ∙ sym apart
  ]
]

abbrev pub AreSmall : List ℕ → Type 0
AreSmall callers = All (λ n. n < 2 ^ 16) callers

number_named : (callers : List ℕ) (c : ℕ) → AreSmall callers → c < 2 ^ 16 → number_of (map name_of callers) (name_of c) ≡ position_or_len (eqb c) callers
unfolding number_of
number_named [] c all small = refl
number_named (n ∷ ns) c all small =
    let first = name_same c n small (All-head (λ m. m < 2 ^ 16) n ns all) in
    let rest = number_named ns c (All-tail (λ m. m < 2 ^ 16) n ns all) small in
    ap₂ (λ (same : Bool) (k : ℕ). cond (not same) (1 + k) 0) first rest

any_named : (callers : List ℕ) (c : ℕ) → AreSmall callers → c < 2 ^ 16 → list_any (bytes_eq (name_of c)) (map name_of callers) ≡ list_any (eqb c) callers
any_named [] c all small = refl
any_named (n ∷ ns) c all small =
    let first = name_same c n small (All-head (λ m. m < 2 ^ 16) n ns all) in
    let rest = any_named ns c (All-tail (λ m. m < 2 ^ 16) n ns all) small in
    ap₂ (λ (same : Bool) (more : Bool). same || more) first rest

noted_named : (callers : List ℕ) (c : ℕ) → AreSmall callers → c < 2 ^ 16 → noted (map name_of callers) (name_of c) ≡ map name_of (met callers c)
unfolding noted
noted_named callers c all small = elim (cases_Bool (list_any (eqb c) callers)) [
  | inl known ↦ rw (any_named callers c all small, known) refl
  | inr new ↦ rw (any_named callers c all small, new) (sym (map-append name_of callers (c ∷ [])))
]

-- ---- callers that were met

position_within : (p : ℕ → Bool) (xs : List ℕ) → list_any p xs ≡ true → position_or_len p xs < length xs
position_within p [] some = cc
position_within p (x ∷ xs) some = elim (cases_Bool (p x)) [
  | inl found ↦ rw found (omega arith)
  | inr other ↦
      let more : list_any p xs ≡ true = rw other at some in
      let rest = position_within p xs more in rw other (omega (arith, rest))
]

position_past : (p : ℕ → Bool) (xs : List ℕ) → list_any p xs ≡ false → position_or_len p xs ≡ length xs
position_past p [] none = refl
position_past p (x ∷ xs) none = elim (cases_Bool (p x)) [
  | inl found ↦ let bad : true ≡ false = rw found at none in cc
  | inr other ↦
      let more : list_any p xs ≡ false = rw other at none in
      let rest = position_past p xs more in rw other (omega (arith, rest))
]

-- the callers that were met are distinct and small
pub record Met (callers : List ℕ) : Type 0 where
  pub small : AreSmall callers
  pub apart : IsDistinct eqb callers

any_small : (callers : List ℕ) → AreSmall callers → (q : ℕ) → list_any (eqb q) callers ≡ true → q < 65536
any_small [] all q some = cc
any_small (n ∷ ns) all q some = elim (cases_Bool (eqb q n)) [
  | inl same ↦
      let is : q ≡ n = grind (arith, nat_tests) in
      let less = All-head (λ m. m < 2 ^ 16) n ns all in omega (arith, is, less)
  | inr other ↦
      let more : list_any (eqb q) ns ≡ true = rw other at some in
      any_small ns (All-tail (λ m. m < 2 ^ 16) n ns all) q more
]

few : (callers : List ℕ) → Met callers → length callers ≤ 65536
few callers is =
    length-le_from_distinct_below callers 65536 is.apart (any_small callers is.small)

met_one : (callers : List ℕ) (c : ℕ) → Met callers → c < 2 ^ 16 → Met (met callers c)
met_one callers c is small = elim (cases_Bool (list_any (eqb c) callers)) [
  | inl known ↦ rw known is
  | inr new ↦ rw new (record {
    small = All-append (λ m. m < 2 ^ 16) callers (c ∷ []) is.small (All-cons (λ m. m < 2 ^ 16) c [] small (All-nil (λ m. m < 2 ^ 16)));
    apart = IsDistinct-push nat_eq_equiv callers c is.apart new;
  })
]

-- a caller's number is below 65,536
number_small : (callers : List ℕ) (c : ℕ) → Met callers → c < 2 ^ 16 → position_or_len (eqb c) callers < 65536
number_small callers c is small = elim (cases_Bool (list_any (eqb c) callers)) [
  | inl known ↦
      let least = position_within (eqb c) callers known in
      let most = few callers is in omega (arith, least, most)
  | inr new ↦
      let at = position_past (eqb c) callers new in
      let more : length (met callers c) ≤ 65536 = few (met callers c) (met_one callers c is small) in
      let one : length (callers ++ c ∷ []) ≤ 65536 = rw new at more in
      let len = length-append callers (c ∷ []) in omega (arith, at, one, len)
]

-- a caller keeps its number
stays : (callers : List ℕ) (c : ℕ) → position_or_len (eqb c) callers ≡ position_or_len (eqb c) (met callers c)
stays callers c = elim (cases_Bool (list_any (eqb c) callers)) [
  | inl known ↦ rw known refl
  | inr new ↦
      let at = position_past (eqb c) callers new in
      let past : eqb (position_or_len (eqb c) callers) (length callers) ≡ true = grind (arith, nat_tests) in
      let self : eqb c c ≡ true = grind (arith, nat_tests) in
      let push = position_or_len_push (eqb c) callers c in
      let grown : position_or_len (eqb c) (callers ++ c ∷ []) ≡ length callers + 0 = rw (past, self) at push in
      rw new (omega (arith, at, grown))
]

is_met : (callers : List ℕ) (c : ℕ) → list_any (eqb c) (met callers c) ≡ true
is_met callers c = elim (cases_Bool (list_any (eqb c) callers)) [
  | inl known ↦ rw known known
  | inr new ↦
      let self : eqb c c ≡ true = grind (arith, nat_tests) in
      let both = list_any-append (eqb c) callers (c ∷ []) in
      rw new (both ∙ (rw (new, self) refl))
]

any_one : (callers : List ℕ) (c n : ℕ) → list_any (eqb c) callers ≡ true → list_any (eqb c) (met callers n) ≡ true
any_one callers c n known = elim (cases_Bool (list_any (eqb n) callers)) [
  | inl old ↦ rw old known
  | inr new ↦ rw new (list_any-append (eqb c) callers (n ∷ []) ∙ rw known refl)
]

kept_one : (callers : List ℕ) (c n : ℕ) → list_any (eqb c) callers ≡ true → position_or_len (eqb c) callers ≡ position_or_len (eqb c) (met callers n)
kept_one callers c n known = elim (cases_Bool (list_any (eqb n) callers)) [
  | inl old ↦ rw old refl
  | inr new ↦
      let less = position_within (eqb c) callers known in
      let other : eqb (position_or_len (eqb c) callers) (length callers) ≡ false = grind (arith, nat_tests) in
      let push = position_or_len_push (eqb c) callers n in
      let grown : position_or_len (eqb c) (callers ++ n ∷ []) ≡ position_or_len (eqb c) callers = rw other at push in
      rw new (sym grown)
]

kept_all : (callers ns : List ℕ) (c : ℕ) → list_any (eqb c) callers ≡ true → position_or_len (eqb c) callers ≡ position_or_len (eqb c) (fold met callers ns)
kept_all callers [] c known = refl
kept_all callers (n ∷ ns) c known =
    kept_one callers c n known ∙ kept_all (met callers n) ns c (any_one callers c n known)

-- the number at which a caller is recorded is the one that it has at the end
last_number : (callers ns : List ℕ) (c : ℕ) → position_or_len (eqb c) callers ≡ position_or_len (eqb c) (fold met callers (c ∷ ns))
last_number callers ns c = stays callers c ∙ kept_all (met callers c) ns c (is_met callers c)

-- ---- line by line

abbrev caller_of : Call → ℕ
caller_of call = call.caller

-- some calls were read, with these lines and callers
abbrev state : List Call → List ℕ → List ℕ → Text
state calls lines callers = record { calls = calls; lines = lines; callers = map name_of callers }

-- a line that reads is recorded
line_after : (text : Text) (number : ℕ) (call : Call) → Reads call → number ≤ 9223372036854775807 → after_line of_history whole text number (line call) ≡ recorded of_history text number (spelled call)
unfolding after_line recorded_if is_in_share
line_after text number call is few =
    let short : nat_lt 8192 (length (line call)) ≡ false = not_less 8192 (length (line call)) is.fits in
    let early : nat_lt 9223372036854775807 number ≡ false = not_less 9223372036854775807 number few in
    rw (short, early, is.spells) refl

recorded_is : (calls : List Call) (lines callers : List ℕ) (number : ℕ) (call : Call) → Met callers → call.caller < 2 ^ 16 → length calls < 268435456 → recorded of_history (state calls lines callers) number (spelled call) ≡ Ok (state (calls ++ call_by (position_or_len (eqb call.caller) callers) (spelled call) ∷ []) (lines ++ number ∷ []) (met callers call.caller))
unfolding recorded
recorded_is calls lines callers number call is small room =
    let numbered = number_named callers call.caller is.small small in
    let fits = lt-ltb (position_or_len (eqb call.caller) callers) 65536 (number_small callers call.caller is small) in
    rw (lt-ltb (length calls) 268435456 room, numbered, fits, noted_named callers call.caller is.small small) refl

lines_next : (call : Call) (calls : List Call) → Reads call → lines_of (written None (call ∷ calls)) ≡ line call ∷ lines_of (written None calls)
unfolding line_where
lines_next call calls is =
    let rest = written None calls in
    let whole : text_line call ++ rest ≡ line call ++ 10 ∷ rest = ap (λ bytes. bytes ++ rest) (line_is call) ∙ append_assoc (line call) (10 ∷ []) rest in
    ap lines_of whole ∙ line_first (line call) rest is.within

-- what is read of the calls that are left, after those that were read
goes : (after calls : List Call) (lines callers : List ℕ) (number : ℕ) → Met callers → All IsTold after → length calls + length after ≤ 268435456 → number ≡ length calls + 1 → read_from of_history whole (read_by (state calls lines callers) 0) number (lines_of (written None after)) ≡ Ok (read_by (state (calls ++ map (numbered (fold met callers (map caller_of after))) after) (lines ++ range_with_len number (length after)) (fold met callers (map caller_of after))) 0)
goes [] calls lines callers number is told room at =
    ap₂ (λ (cs : List Call) (ls : List ℕ). Ok (read_by (state cs ls callers) 0)) (sym (append-nil calls)) (sym (append-nil lines))
goes (call ∷ after) calls lines callers number is told room at =
    let here = All-head IsTold call after told in
    let readable = reads call here in
    let small : call.caller < 2 ^ 16 = here.is_call.caller in
    let last = fold met callers (map caller_of (call ∷ after)) in
    let new = call_by (position_or_len (eqb call.caller) callers) (spelled call) in
    let same : new ≡ numbered last call = ap (λ n. call_by n (spelled call)) (last_number callers (map caller_of after) call.caller) in
    let taken : after_line of_history whole (state calls lines callers) number (line call) ≡ Ok (state (calls ++ new ∷ []) (lines ++ number ∷ []) (met callers call.caller)) =
    line_after (state calls lines callers) number call readable (omega (arith, at, room)) ∙ recorded_is calls lines callers number call is small (omega (arith, room)) in
    let len = length-append calls (new ∷ []) in
    let next : suc number ≡ number + 1 = omega arith in
    let rest = goes after (calls ++ new ∷ []) (lines ++ number ∷ []) (met callers call.caller) (suc number) (met_one callers call.caller is small) (All-tail IsTold call after told) (omega (arith, room, len)) (omega (arith, at, len)) in
    let all_calls : (calls ++ new ∷ []) ++ map (numbered last) after ≡ calls ++ map (numbered last) (call ∷ after) =
    append_assoc calls (new ∷ []) (map (numbered last) after) ∙ ap (λ x. calls ++ x ∷ map (numbered last) after) same in
    let all_lines : (lines ++ number ∷ []) ++ range_with_len (suc number) (length after) ≡ lines ++ range_with_len number (length (call ∷ after)) =
    append_assoc lines (number ∷ []) (range_with_len (suc number) (length after)) ∙ ap (λ n. lines ++ number ∷ range_with_len n (length after)) next in
    ap (read_from of_history whole (read_by (state calls lines callers) 0) number) (lines_next call after readable)
    ∙ ap (λ (said : Result Text LineCause). by_line number (passing whole (read_by (state calls lines callers) 0) said) (λ r. read_from of_history whole r (suc number) (lines_of (written None after)))) taken
    ∙ rest
    ∙ ap₂ (λ (cs : List Call) (ls : List ℕ). Ok (read_by (state cs ls last) 0)) all_calls all_lines

nothing_met : Met []
unfolding IsDistinct
nothing_met = record { small = All-nil (λ m. m < 2 ^ 16); apart = tt }

pub histories_read : (calls : List Call) → length calls ≤ 268435456 → All IsTold calls → text_of whole (written None calls) ≡ Ok (read_by (read_back calls) 0)
histories_read calls most told = goes calls [] [] [] 1 nothing_met told (omega (arith, most)) refl
