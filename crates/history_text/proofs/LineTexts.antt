-- The line of a call reads back as the call.
use Rattle.std.proofs.Common.{◌≡◌, ℕ, ◌+◌, ◌^◌, ◌<◌, ◌≤◌, Bool, true, false, not, ◌&&◌, ◌||◌, ◌==◌, nat_lt, nat_le, eqb, if◌then◌else◌, List, [], ◌∷◌, ◌++◌, length, All, Some, Ok, refl, sym, ap, ◌∙◌, arith, inl, inr, append_assoc}
use Rattle.std.specs.Prelude.{codes}
use Rattle.std.specs.Fmt.{decimal}
use Rattle.std.specs.List.{list_all, slice_split, onto_first}
use Rattle.std.specs.Cmp.{first_so, second_so}
use Rattle.std.proofs.lemmas.Bool.{cases_Bool, and_from}
use Rattle.std.proofs.lemmas.Bool.Decides.{nat_tests}
use Rattle.std.proofs.lemmas.List.{length-append}
use Rattle.std.proofs.lemmas.List.Elements.{All-weaker}
use Rattle.std.proofs.lemmas.List.Folds.{list_all-append}
use Rattle.std.proofs.lemmas.List.Splits.{slice_split_at, slice_split_none}
use Rattle.std.proofs.lemmas.List.Sums.{AllPass-from_list_all}
use borrow.Author.Tests.{ltb-true}
use Rattle.record_pages.specs.Bounded.{IsKey, IsValue}
use Rattle.record_pages.specs.Expiry.{never}
use Rattle.script_words.specs.Lines.{lines_of}
use Rattle.script_words.specs.Words.{is_word, words_of}
use Rattle.trace_file.specs.declared.act.Act.{Act}
use Rattle.trace_file.specs.declared.act.Act.TheVariants.{Put, Remove, Hit, Miss}
use Rattle.trace_file.specs.declared.call.Call.{Call}
use Rattle.trace_file.specs.Calls.{value_of as act_value, time_of}
use Rattle.trace_file.specs.declared.call_kind.CallKind.{CallKind}
use Rattle.trace_file.specs.declared.call_kind.CallKind.TheVariants as kinds
use Rattle.history_text.specs.Coding.{word_of}
use Rattle.history_text.specs.ReadingBack.{IsTold, name_of}
use Rattle.history_text.specs.Spelling.{Spelled, act_of, has_words, head_of, key_of, kind_of, returns, spelled_of, spelled_of_words, time_at, value_of}
use Rattle.history_text.specs.Writing.{act_has_text, act_text, has_number, end_text, text_line}
use Rattle.history_text.proofs.CodingLaws.{word_reads}
use Rattle.history_text.proofs.WordTexts.{first_holds, plain, stamp_reads, end_reads, number_word, name_word, end_word, word_word, length_end, length_name, length_number, length_word}

-- ---- words that are parted by spaces

-- a word and others after it, each after a space
abbrev pub joined : List ℕ → List (List ℕ) → List ℕ
joined word [] = word
joined word (next ∷ words) = word ++ 32 ∷ joined next words

no_space : (word : List ℕ) → is_word word ≡ true → All (λ b. eqb b 32 ≡ false) word
no_space word is =
    let all : list_all plain word ≡ true = second_so (not (length word == 0)) (list_all plain word) is in
    All-weaker (λ b. plain b ≡ true) (λ b. eqb b 32 ≡ false) (λ b h. grind (arith, nat_tests)) word (AllPass-from_list_all plain word all)

parts : (word : List ℕ) (words : List (List ℕ)) → list_all is_word (word ∷ words) ≡ true → slice_split (λ b. eqb b 32) (joined word words) ≡ word ∷ words
parts word [] all =
    slice_split_none (λ b. eqb b 32) word (no_space word (first_so (is_word word) true all))
parts word (next ∷ words) all =
    let first = first_so (is_word word) (list_all is_word (next ∷ words)) all in
    let others = second_so (is_word word) (list_all is_word (next ∷ words)) all in
    slice_split_at (λ b. eqb b 32) word 32 (joined next words) (no_space word first) refl
    ∙ ap (λ rest. word ∷ rest) (parts next words others)

words_read : (word : List ℕ) (words : List (List ℕ)) → list_all is_word (word ∷ words) ≡ true → words_of (joined word words) ≡ Some (word ∷ words)
words_read word words all = rw (parts word words all, all) refl

-- a byte of a line
abbrev pub within : ℕ → Bool
within b = nat_le 32 b && nat_le b 126

plain_within : (bytes : List ℕ) → list_all plain bytes ≡ true → list_all within bytes ≡ true
plain_within [] all = refl
plain_within (b ∷ bs) all =
    let first : plain b ≡ true = first_so (plain b) (list_all plain bs) all in
    let others : list_all plain bs ≡ true = second_so (plain b) (list_all plain bs) all in
    let here : within b ≡ true = grind (arith, nat_tests) in
    and_from (within b) (list_all within bs) here (plain_within bs others)

word_within : (word : List ℕ) → is_word word ≡ true → list_all within word ≡ true
word_within word is =
    plain_within word (second_so (not (length word == 0)) (list_all plain word) is)

joined_within : (word : List ℕ) (words : List (List ℕ)) → list_all is_word (word ∷ words) ≡ true → list_all within (joined word words) ≡ true
joined_within word [] all = word_within word (first_so (is_word word) true all)
joined_within word (next ∷ words) all =
    let first = word_within word (first_so (is_word word) (list_all is_word (next ∷ words)) all) in
    let others = joined_within next words (second_so (is_word word) (list_all is_word (next ∷ words)) all) in
    list_all-append within word (32 ∷ joined next words) ∙ and_from (list_all within word) (list_all within (joined next words)) first others

-- the bytes of words, with one after each
abbrev pub total : List (List ℕ) → ℕ
total [] = 0
total (word ∷ words) = length word + (1 + total words)

length_joined : (word : List ℕ) (words : List (List ℕ)) → length (joined word words) + 1 ≡ total (word ∷ words)
length_joined word [] = omega arith
length_joined word (next ∷ words) =
    let rest = length_joined next words in
    let both = length-append word (32 ∷ joined next words) in omega (arith, rest, both)

-- ---- the first line

pub line_first : (line rest : List ℕ) → list_all within line ≡ true → lines_of (line ++ 10 ∷ rest) ≡ line ∷ lines_of rest
line_first [] rest all = refl
line_first (b ∷ bs) rest all =
    let here : within b ≡ true = first_so (within b) (list_all within bs) all in
    let others : list_all within bs ≡ true = second_so (within b) (list_all within bs) all in
    let other : eqb b 10 ≡ false = grind (arith, nat_tests) in
    rw other (ap (onto_first b) (line_first bs rest others))

-- ---- the words of a call

-- a time, unless it is the one that is left out
abbrev pub time_words : ℕ → ℕ → List (List ℕ)
time_words other time = if time == other then [] else decimal time ∷ []

-- the words from the fourth on
abbrev pub act_words : List ℕ → Act → List (List ℕ)
act_words key (Put value expires) = codes "put" ∷ key ∷ word_of value ∷ time_words never expires
act_words key Remove = codes "remove" ∷ key ∷ []
act_words key (Hit value moment) = codes "hit" ∷ key ∷ word_of value ∷ time_words 0 moment
act_words key Miss = codes "miss" ∷ key ∷ []

-- the words after the caller
abbrev pub call_words : Call → List (List ℕ)
call_words call = decimal call.start ∷ end_text call.end ∷ act_words (word_of call.key) call.act

-- the line of a call without its line feed
abbrev pub line : Call → List ℕ
line call = joined (name_of call.caller) (call_words call)

put_six : (d s e key value : List ℕ) → (codes "c" ++ d ++ codes " " ++ s ++ codes " " ++ e) ++ codes " put " ++ key ++ codes " " ++ value ++ codes "\n" ≡ joined (codes "c" ++ d) (s ∷ e ∷ codes "put" ∷ key ∷ value ∷ []) ++ 10 ∷ []
put_six d s e key value = simp append_assoc refl

put_seven : (d s e key value time : List ℕ) → (codes "c" ++ d ++ codes " " ++ s ++ codes " " ++ e) ++ codes " put " ++ key ++ codes " " ++ value ++ codes " " ++ time ++ codes "\n" ≡ joined (codes "c" ++ d) (s ∷ e ∷ codes "put" ∷ key ∷ value ∷ time ∷ []) ++ 10 ∷ []
put_seven d s e key value time = simp append_assoc refl

hit_six : (d s e key value : List ℕ) → (codes "c" ++ d ++ codes " " ++ s ++ codes " " ++ e) ++ codes " hit " ++ key ++ codes " " ++ value ++ codes "\n" ≡ joined (codes "c" ++ d) (s ∷ e ∷ codes "hit" ∷ key ∷ value ∷ []) ++ 10 ∷ []
hit_six d s e key value = simp append_assoc refl

hit_seven : (d s e key value time : List ℕ) → (codes "c" ++ d ++ codes " " ++ s ++ codes " " ++ e) ++ codes " hit " ++ key ++ codes " " ++ value ++ codes " " ++ time ++ codes "\n" ≡ joined (codes "c" ++ d) (s ∷ e ∷ codes "hit" ∷ key ∷ value ∷ time ∷ []) ++ 10 ∷ []
hit_seven d s e key value time = simp append_assoc refl

bare_five : (d s e kind key : List ℕ) → (codes "c" ++ d ++ codes " " ++ s ++ codes " " ++ e) ++ codes " " ++ kind ++ codes " " ++ key ++ codes "\n" ≡ joined (codes "c" ++ d) (s ∷ e ∷ kind ∷ key ∷ []) ++ 10 ∷ []
bare_five d s e kind key = simp append_assoc refl

line_by : (d s e key : List ℕ) (act : Act) → act_text (codes "c" ++ d ++ codes " " ++ s ++ codes " " ++ e) key act ≡ joined (codes "c" ++ d) (s ∷ e ∷ act_words key act) ++ 10 ∷ []
line_by d s e key (Put value expires) = elim (cases_Bool (eqb expires never)) [
  | inl last ↦ rw last (put_six d s e key (word_of value))
  | inr other ↦ rw other (put_seven d s e key (word_of value) (decimal expires))
]
line_by d s e key Remove = bare_five d s e (codes "remove") key
line_by d s e key (Hit value moment) = elim (cases_Bool (eqb moment 0)) [
  | inl first ↦ rw first (hit_six d s e key (word_of value))
  | inr other ↦ rw other (hit_seven d s e key (word_of value) (decimal moment))
]
line_by d s e key Miss = bare_five d s e (codes "miss") key

-- the line of a call is its words
pub line_is : (call : Call) → text_line call ≡ line call ++ 10 ∷ []
line_is call = line_by (decimal call.caller) (decimal call.start) (end_text call.end) (word_of call.key) call.act

-- ---- each word reads back

key_reads : (key : List ℕ) → IsKey key → All (λ b. b < 256) key → key_of (word_of key) ≡ Ok key
unfolding key_of
key_reads key is small =
    let some = is.0 in
    let few = is.1 in
    let fits : (nat_lt 0 (length key) && nat_le (length key) 255) ≡ true = grind (arith, nat_tests) in
    rw (word_reads key small, fits) refl

value_reads : (value : List ℕ) → IsValue value → All (λ b. b < 256) value → value_of (word_of value) ≡ Ok value
unfolding value_of
value_reads value few small =
    let fits : nat_le (length value) 2048 ≡ true = grind (arith, nat_tests) in rw (word_reads value small, fits) refl

put_reads : (name s e kind key value : List ℕ) (expires : ℕ) → IsValue value → All (λ b. b < 256) value → (has_number expires || (expires == never)) ≡ true → act_of kinds.Put (name ∷ s ∷ e ∷ kind ∷ key ∷ word_of value ∷ time_words never expires) ≡ Ok (Put value expires)
unfolding act_of time_at
put_reads name s e kind key value expires few small has = elim (cases_Bool (eqb expires never)) [
  | inl last ↦
      let is : expires ≡ never = grind (arith, nat_tests) in
      rw (last, value_reads value few small) (ap (λ t. Ok (Put value t)) (sym is))
  | inr other ↦
      let number : has_number expires ≡ true = first_holds (has_number expires) (expires == never) has other in
      rw (other, value_reads value few small, stamp_reads expires number) refl
]

hit_reads : (name s e kind key value : List ℕ) (moment : ℕ) → IsValue value → All (λ b. b < 256) value → has_number moment ≡ true → act_of kinds.Hit (name ∷ s ∷ e ∷ kind ∷ key ∷ word_of value ∷ time_words 0 moment) ≡ Ok (Hit value moment)
unfolding act_of time_at
hit_reads name s e kind key value moment few small has = elim (cases_Bool (eqb moment 0)) [
  | inl first ↦
      let is : moment ≡ 0 = grind (arith, nat_tests) in
      rw (first, value_reads value few small) (ap (λ t. Ok (Hit value t)) (sym is))
  | inr other ↦ rw (other, value_reads value few small, stamp_reads moment has) refl
]

act_misses : (words : List (List ℕ)) → act_of kinds.Miss words ≡ Ok Miss
unfolding act_of
act_misses words = refl

act_removes : (words : List (List ℕ)) → act_of kinds.Remove words ≡ Ok Remove
unfolding act_of
act_removes words = refl

head_reads : (name key : List ℕ) (rest : List (List ℕ)) (start end : ℕ) (text : List ℕ) (kind : CallKind) → has_number start ≡ true → (has_number end || (end == never)) ≡ true → kind_of text ≡ Ok kind → has_words kind (length (name ∷ decimal start ∷ end_text end ∷ text ∷ key ∷ rest)) ≡ true → (returns kind && (end == never)) ≡ false → head_of (name ∷ decimal start ∷ end_text end ∷ text ∷ key ∷ rest) ≡ Ok (record { start = start; end = end; kind = kind })
unfolding head_of
head_reads name key rest start end text kind starts ends is counted done =
    rw (stamp_reads start starts, end_reads end ends, is, counted, done) refl

-- words spell a call if each does
words_spell : (name key : List ℕ) (rest : List (List ℕ)) (start end : ℕ) (text : List ℕ) (kind : CallKind) (act : Act) → head_of (name ∷ decimal start ∷ end_text end ∷ text ∷ word_of key ∷ rest) ≡ Ok (record { start = start; end = end; kind = kind }) → key_of (word_of key) ≡ Ok key → act_of kind (name ∷ decimal start ∷ end_text end ∷ text ∷ word_of key ∷ rest) ≡ Ok act → spelled_of_words (name ∷ decimal start ∷ end_text end ∷ text ∷ word_of key ∷ rest) ≡ Ok (record { caller = name; start = start; end = end; key = key; act = act })
unfolding spelled_of_words
words_spell name key rest start end text kind act head keyed acted = rw (head, keyed, acted) refl

line_spells : (word : List ℕ) (words : List (List ℕ)) → list_all is_word (word ∷ words) ≡ true → (nat_le 5 (length (word ∷ words)) && nat_le (length (word ∷ words)) 7) ≡ true → spelled_of (joined word words) ≡ spelled_of_words (word ∷ words)
unfolding spelled_of
line_spells word words all few = rw (words_read word words all, few) refl

-- ---- the whole line

has_some : (end : ℕ) → has_number end ≡ true → (has_number end || (end == never)) ≡ true
has_some end has = rw has refl

returned : (end : ℕ) → has_number end ≡ true → eqb end never ≡ false
returned end has = let less : end < 2 ^ 63 = ltb-true end (2 ^ 63) has in grind (arith, nat_tests)

module _ (caller start end : ℕ) (key : List ℕ) (owned : caller < 2 ^ 64) (is_key : IsKey key) (key_bytes : All (λ b. b < 256) key) (starts : has_number start ≡ true) (ends : end < 2 ^ 64) where
  began : start < 2 ^ 64
  began = let less : start < 2 ^ 63 = ltb-true start (2 ^ 63) starts in omega (arith, less)

  pub are_words : (act : Act) → time_of act < 2 ^ 64 → list_all is_word (name_of caller ∷ decimal start ∷ end_text end ∷ act_words (word_of key) act) ≡ true
  are_words (Put value expires) small = elim (cases_Bool (eqb expires never)) [
    | inl last ↦
        rw (last, name_word caller owned, number_word start began, end_word end ends, word_word key, word_word value) refl
    | inr other ↦
        rw (other, name_word caller owned, number_word start began, end_word end ends, word_word key, word_word value, number_word expires small) refl
  ]
  are_words Remove small =
      rw (name_word caller owned, number_word start began, end_word end ends, word_word key) refl
  are_words (Hit value moment) small = elim (cases_Bool (eqb moment 0)) [
    | inl first ↦
        rw (first, name_word caller owned, number_word start began, end_word end ends, word_word key, word_word value) refl
    | inr other ↦
        rw (other, name_word caller owned, number_word start began, end_word end ends, word_word key, word_word value, number_word moment small) refl
  ]
  are_words Miss small =
      rw (name_word caller owned, number_word start began, end_word end ends, word_word key) refl

  -- a line fits
  front_len : (rest : ℕ) → rest ≤ 7000 → length (name_of caller) + (1 + (length (decimal start) + (1 + (length (end_text end) + (1 + rest))))) ≤ 8192
  front_len rest few =
      let a = length_name caller owned in
      let b = length_number start began in let c = length_end end ends in omega (arith, a, b, c, few)

  time_len : (other time : ℕ) → time < 2 ^ 64 → total (time_words other time) ≤ 21
  time_len other time small = elim (cases_Bool (eqb time other)) [
    | inl left ↦ rw left (omega arith)
    | inr said ↦ let few = length_number time small in rw said (omega (arith, few))
  ]

  value_len : (value : List ℕ) (other time : ℕ) → IsValue value → All (λ b. b < 256) value → time < 2 ^ 64 → 3 + (1 + (length (word_of key) + (1 + (length (word_of value) + (1 + total (time_words other time)))))) ≤ 7000
  value_len value other time few bytes small =
      let a = length_word key key_bytes in
      let b = length_word value bytes in
      let c = time_len other time small in let d = is_key.1 in omega (arith, a, b, c, d, few)

  act_len : (act : Act) → IsValue (act_value act) → All (λ b. b < 256) (act_value act) → time_of act < 2 ^ 64 → total (act_words (word_of key) act) ≤ 7000
  act_len (Put value expires) few bytes small = value_len value never expires few bytes small
  act_len Remove few bytes small = let a = length_word key key_bytes in let d = is_key.1 in omega (arith, a, d)
  act_len (Hit value moment) few bytes small = value_len value 0 moment few bytes small
  act_len Miss few bytes small = let a = length_word key key_bytes in let d = is_key.1 in omega (arith, a, d)

  pub fits : (act : Act) → IsValue (act_value act) → All (λ b. b < 256) (act_value act) → time_of act < 2 ^ 64 → length (joined (name_of caller) (decimal start ∷ end_text end ∷ act_words (word_of key) act)) ≤ 8192
  fits act few bytes small =
      let whole = length_joined (name_of caller) (decimal start ∷ end_text end ∷ act_words (word_of key) act) in
      let front = front_len (total (act_words (word_of key) act)) (act_len act few bytes small) in
      omega (arith, whole, front)

  pub spells : (act : Act) → IsValue (act_value act) → All (λ b. b < 256) (act_value act) → time_of act < 2 ^ 64 → act_has_text act end ≡ true → spelled_of (joined (name_of caller) (decimal start ∷ end_text end ∷ act_words (word_of key) act)) ≡ Ok (record { caller = name_of caller; start = start; end = end; key = key; act = act })
  spells (Put value expires) few bytes small has =
      let ended = first_so (has_number end || (end == never)) (has_number expires || (expires == never)) has in
      let timed = second_so (has_number end || (end == never)) (has_number expires || (expires == never)) has in
      let acted = put_reads (name_of caller) (decimal start) (end_text end) (codes "put") (word_of key) value expires few bytes timed in
      let keyed = key_reads key is_key key_bytes in
      let words = are_words (Put value expires) small in
      elim (cases_Bool (eqb expires never)) [
        | inl last ↦
            line_spells (name_of caller) (decimal start ∷ end_text end ∷ act_words (word_of key) (Put value expires)) words (rw last refl)
            ∙ words_spell (name_of caller) key (word_of value ∷ time_words never expires) start end (codes "put") kinds.Put (Put value expires) (head_reads (name_of caller) (word_of key) (word_of value ∷ time_words never expires) start end (codes "put") kinds.Put starts ended refl (rw last refl) refl) keyed acted
        | inr other ↦
            line_spells (name_of caller) (decimal start ∷ end_text end ∷ act_words (word_of key) (Put value expires)) words (rw other refl)
            ∙ words_spell (name_of caller) key (word_of value ∷ time_words never expires) start end (codes "put") kinds.Put (Put value expires) (head_reads (name_of caller) (word_of key) (word_of value ∷ time_words never expires) start end (codes "put") kinds.Put starts ended refl (rw other refl) refl) keyed acted
      ]
  spells Remove few bytes small has =
      line_spells (name_of caller) (decimal start ∷ end_text end ∷ act_words (word_of key) Remove) (are_words Remove small) refl
      ∙ words_spell (name_of caller) key [] start end (codes "remove") kinds.Remove Remove (head_reads (name_of caller) (word_of key) [] start end (codes "remove") kinds.Remove starts has refl refl refl) (key_reads key is_key key_bytes) (act_removes (name_of caller ∷ decimal start ∷ end_text end ∷ codes "remove" ∷ word_of key ∷ []))
  spells (Hit value moment) few bytes small has =
      let ended = first_so (has_number end) (has_number moment) has in
      let timed = second_so (has_number end) (has_number moment) has in
      let acted = hit_reads (name_of caller) (decimal start) (end_text end) (codes "hit") (word_of key) value moment few bytes timed in
      let keyed = key_reads key is_key key_bytes in
      let words = are_words (Hit value moment) small in
      elim (cases_Bool (eqb moment 0)) [
        | inl first ↦
            line_spells (name_of caller) (decimal start ∷ end_text end ∷ act_words (word_of key) (Hit value moment)) words (rw first refl)
            ∙ words_spell (name_of caller) key (word_of value ∷ time_words 0 moment) start end (codes "hit") kinds.Hit (Hit value moment) (head_reads (name_of caller) (word_of key) (word_of value ∷ time_words 0 moment) start end (codes "hit") kinds.Hit starts (has_some end ended) refl (rw first refl) (returned end ended)) keyed acted
        | inr other ↦
            line_spells (name_of caller) (decimal start ∷ end_text end ∷ act_words (word_of key) (Hit value moment)) words (rw other refl)
            ∙ words_spell (name_of caller) key (word_of value ∷ time_words 0 moment) start end (codes "hit") kinds.Hit (Hit value moment) (head_reads (name_of caller) (word_of key) (word_of value ∷ time_words 0 moment) start end (codes "hit") kinds.Hit starts (has_some end ended) refl (rw other refl) (returned end ended)) keyed acted
      ]
  spells Miss few bytes small has =
      line_spells (name_of caller) (decimal start ∷ end_text end ∷ act_words (word_of key) Miss) (are_words Miss small) refl
      ∙ words_spell (name_of caller) key [] start end (codes "miss") kinds.Miss Miss (head_reads (name_of caller) (word_of key) [] start end (codes "miss") kinds.Miss starts (has_some end has) refl refl (returned end has)) (key_reads key is_key key_bytes) (act_misses (name_of caller ∷ decimal start ∷ end_text end ∷ codes "miss" ∷ word_of key ∷ []))

-- the call that a line spells
abbrev pub spelled : Call → Spelled
spelled call = record { caller = name_of call.caller; start = call.start; end = call.end; key = call.key; act = call.act }

-- what the line of a call gives
pub record Reads (call : Call) : Type 0 where
  pub within : list_all within (line call) ≡ true
  pub fits : length (line call) ≤ 8192
  pub spells : spelled_of (line call) ≡ Ok (spelled call)

pub reads : (call : Call) → IsTold call → Reads call
reads call told =
    let is = told.is_call in
    let caller = is.caller in
    let owned : call.caller < 2 ^ 64 = omega (arith, caller) in
    let starts = first_so (has_number call.start) (act_has_text call.act call.end) told.has in
    let acts = second_so (has_number call.start) (act_has_text call.act call.end) told.has in
    record {
      within = joined_within (name_of call.caller) (call_words call) (are_words call.caller call.start call.end call.key owned is.key told.key starts is.end call.act is.time);
      fits = fits call.caller call.start call.end call.key owned is.key told.key starts is.end call.act is.value told.value is.time;
      spells = spells call.caller call.start call.end call.key owned is.key told.key starts is.end call.act is.value told.value is.time acts;
    }
