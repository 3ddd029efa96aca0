-- An answer with a value, or to a meta command, has at most 400 bytes more than the value.
use Rattle.std.proofs.Common.{◌≡◌, ℕ, ◌+◌, ◌<◌, ◌≤◌, ◌^◌, ◌==◌, ◌||◌, nat_lt, Bool, true, false, List, [], ◌∷◌, ◌++◌, length, map, if◌then◌else◌, Option, Some, None, refl, arith, inl, inr, lit<, lit≤}
use Rattle.std.specs.Prelude.{IfSome, codes, decimal}
use Rattle.std.specs.List.{concat}
use Rattle.std.proofs.lemmas.Bool.{cases_Bool, eqb-true, eq-eqb}
use Rattle.std.proofs.lemmas.Fmt.{length-decimal-le}
use Rattle.std.proofs.lemmas.List.{length-append}
use Rattle.std.proofs.lemmas.List.Folds.{list_any-append}
use borrow.Author.Tests.{ltb-false}
use Rattle.memcached_text.specs.declared.line_error.LineError.TheVariants.{OpaqueTooLong, DuplicateFlag}
use Rattle.memcached_text.specs.declared.meta_answer.MetaAnswer.{MetaAnswer}
use Rattle.memcached_text.specs.declared.meta_answer.MetaFields.{MetaFields}
use Rattle.memcached_text.specs.declared.meta_answer.MetaStatus.{MetaStatus}
use Rattle.memcached_text.specs.declared.meta_answer.MetaStatus.TheVariants as statuses
use Rattle.memcached_text.specs.declared.meta_answer.Ttl.{Ttl}
use Rattle.memcached_text.specs.declared.meta_answer.Ttl.TheVariants.{Unlimited, Seconds}
use Rattle.memcached_text.specs.Answers.{value_text, number_text, ttl_text, hit_text, said, flag_text, flags_text, status_text, block_text, meta_text, line_text}
use Rattle.memcached_text.specs.Limits.{AreFlags, IsTtl, AreFields, IsBlockWithin}
use Rattle.memcached_text.specs.Meta.{letter_of, has_letter, flag_fault, fault_after, gravest}
use Rattle.memcached_text.specs.Words.{words_of}
use Rattle.memcached_text.proofs.Faults.{none_each}

-- a number of 64 bits has at most 20 digits
digits_few : (n : ℕ) → n < 2 ^ 64 → length (decimal n) ≤ 20
digits_few n small = length-decimal-le 20 n (lit< tt) (omega (arith, small)) small

-- one of 32 bits at most 10
digits_fewer : (n : ℕ) → n < 2 ^ 32 → length (decimal n) ≤ 10
digits_fewer n small = length-decimal-le 10 n (lit< tt) (omega (arith, small)) (omega (arith, small))

-- a letter with a number
wide_few : (letter : List ℕ) (number : Option ℕ) → length letter ≡ 2 → IfSome number (λ n. n < 2 ^ 64) → length (number_text letter number) ≤ 22
wide_few letter None two small = omega arith
wide_few letter (Some n) two small = let few = digits_few n small in simp length-append (omega (arith, two, few))

narrow_few : (letter : List ℕ) (number : Option ℕ) → length letter ≡ 2 → IfSome number (λ n. n < 2 ^ 32) → length (number_text letter number) ≤ 12
narrow_few letter None two small = omega arith
narrow_few letter (Some n) two small = let few = digits_fewer n small in simp length-append (omega (arith, two, few))

ttl_few : (ttl : Option Ttl) → IfSome ttl IsTtl → length (ttl_text ttl) ≤ 12
ttl_few None small = lit≤ tt
ttl_few (Some Unlimited) small = lit≤ tt
ttl_few (Some (Seconds seconds)) small = let few = digits_fewer seconds small in simp length-append (omega (arith, few))

hit_few : (hit : Option Bool) → length (hit_text hit) ≤ 3
hit_few None = lit≤ tt
hit_few (Some false) = lit≤ tt
hit_few (Some true) = lit≤ tt

-- what is said if so has no more bytes
said_few : (is : Bool) (text : List ℕ) → length (said is text) ≤ length text
said_few true text = omega arith
said_few false text = omega arith

key_few : (key : List ℕ) (is : Bool) → length key ≤ 255 → length (concat (codes " k" ∷ key ∷ said is (codes " b") ∷ [])) ≤ 259
key_few key is short = let few = said_few is (codes " b") in simp length-append (omega (arith, short, few))

-- how many bytes what a flag with this letter asks for may have, if no flag before has the letter
left : ℕ → List (List ℕ) → ℕ → ℕ
left letter before most = if has_letter letter before then 0 else most

if_less : (one other : Bool) (most : ℕ) → (if (one || other) then 0 else most) ≤ (if one then 0 else most)
if_less true other most = omega arith
if_less false true most = omega arith
if_less false false most = omega arith

-- each flag leaves no more to those after it
left_less : (letter : ℕ) (before : List (List ℕ)) (flag : List ℕ) (most : ℕ) → left letter (before ++ flag ∷ []) most ≤ left letter before most
unfolding left
left_less letter before flag most = rw (list_any-append (λ (f : List ℕ). letter_of f == letter) before (flag ∷ [])) (if_less (has_letter letter before) (has_letter letter (flag ∷ [])) most)

if_used : (one other : Bool) (most : ℕ) → one ≡ false → other ≡ true → ((if (one || other) then 0 else most) ≡ 0) × ((if one then 0 else most) ≡ most)
if_used one other most fresh here = rw (fresh, here) (refl, refl)

-- a flag that no flag before has the letter of uses up what its letter may have
left_used : (letter : ℕ) (before : List (List ℕ)) (flag : List ℕ) (most : ℕ) → letter_of flag ≡ letter → has_letter (letter_of flag) before ≡ false → (left letter (before ++ flag ∷ []) most ≡ 0) × (left letter before most ≡ most)
unfolding left
left_used letter before flag most is fresh =
    let none : has_letter letter before ≡ false = rw (← is) fresh in
    let here : has_letter letter (flag ∷ []) ≡ true = rw (eq-eqb (letter_of flag) letter is) refl in
    rw (list_any-append (λ (f : List ℕ). letter_of f == letter) before (flag ∷ [])) (if_used (has_letter letter before) (has_letter letter (flag ∷ [])) most none here)

-- what the flags after these may have in all
budget : List (List ℕ) → ℕ
budget before = left 107 before 259 + left 79 before 33 + left 99 before 22 + left 102 before 12 + left 115 before 12 + left 108 before 12 + left 116 before 12 + left 104 before 3

-- a flag leaves no more of each letter
record LeavesLess (before : List (List ℕ)) (flag : List ℕ) : Type 0 where
  of_k : left 107 (before ++ flag ∷ []) 259 ≤ left 107 before 259
  of_O : left 79 (before ++ flag ∷ []) 33 ≤ left 79 before 33
  of_c : left 99 (before ++ flag ∷ []) 22 ≤ left 99 before 22
  of_f : left 102 (before ++ flag ∷ []) 12 ≤ left 102 before 12
  of_s : left 115 (before ++ flag ∷ []) 12 ≤ left 115 before 12
  of_l : left 108 (before ++ flag ∷ []) 12 ≤ left 108 before 12
  of_t : left 116 (before ++ flag ∷ []) 12 ≤ left 116 before 12
  of_h : left 104 (before ++ flag ∷ []) 3 ≤ left 104 before 3

leaves_less : (before : List (List ℕ)) (flag : List ℕ) → LeavesLess before flag
leaves_less before flag = record {
  of_k = left_less 107 before flag 259;
  of_O = left_less 79 before flag 33;
  of_c = left_less 99 before flag 22;
  of_f = left_less 102 before flag 12;
  of_s = left_less 115 before flag 12;
  of_l = left_less 108 before flag 12;
  of_t = left_less 116 before flag 12;
  of_h = left_less 104 before flag 3;
}

opaque_few : (flag : List ℕ) → letter_of flag ≡ 79 → flag_fault flag ≡ None → length flag ≤ 32
unfolding flag_fault
opaque_few flag is none =
    let given : (if nat_lt 32 (length flag) then Some OpaqueTooLong else None) ≡ None = rw is at none in
    elim (cases_Bool (nat_lt 32 (length flag))) [
      | inl long ↦ let never : Some OpaqueTooLong ≡ None = rw long at given in cc
      | inr short ↦ ltb-false _ _ short
    ]

opaque_text_few : (flag : List ℕ) → length flag ≤ 32 → length (concat (codes " " ∷ flag ∷ [])) ≤ 33
opaque_text_few flag few = simp length-append (omega (arith, few))

-- what a flag asks for fits into what it leaves less
flag_few : (fields : MetaFields) → AreFields fields → (before : List (List ℕ)) (flag : List ℕ) → has_letter (letter_of flag) before ≡ false → flag_fault flag ≡ None → length (flag_text fields flag) + budget (before ++ flag ∷ []) ≤ budget before
unfolding flag_text budget
flag_few fields are before flag fresh none =
    let less = leaves_less before flag in
    elim (cases_Bool (letter_of flag == 107)) [
      | inl is_k ↦
          let used = left_used 107 before flag 259 (eqb-true (letter_of flag) 107 is_k) fresh in
          let few = key_few fields.key.now fields.is_base64 are.key in
          rw (is_k) (omega (arith, used.0, used.1, few, less))
      | inr not_k ↦
          elim (cases_Bool (letter_of flag == 79)) [
            | inl is_O ↦
                let used = left_used 79 before flag 33 (eqb-true (letter_of flag) 79 is_O) fresh in
                let few = opaque_text_few flag (opaque_few flag (eqb-true (letter_of flag) 79 is_O) none) in
                rw (not_k, is_O) (omega (arith, used.0, used.1, few, less))
            | inr not_O ↦
                elim (cases_Bool (letter_of flag == 99)) [
                  | inl is_c ↦
                      let used = left_used 99 before flag 22 (eqb-true (letter_of flag) 99 is_c) fresh in
                      let few = wide_few (codes " c") fields.cas refl are.cas in
                      rw (not_k, not_O, is_c) (omega (arith, used.0, used.1, few, less))
                  | inr not_c ↦
                      elim (cases_Bool (letter_of flag == 102)) [
                        | inl is_f ↦
                            let used = left_used 102 before flag 12 (eqb-true (letter_of flag) 102 is_f) fresh in
                            let few = narrow_few (codes " f") fields.flags refl are.flags in
                            rw (not_k, not_O, not_c, is_f) (omega (arith, used.0, used.1, few, less))
                        | inr not_f ↦
                            elim (cases_Bool (letter_of flag == 115)) [
                              | inl is_s ↦
                                  let used = left_used 115 before flag 12 (eqb-true (letter_of flag) 115 is_s) fresh in
                                  let few = narrow_few (codes " s") fields.size refl are.size in
                                  rw (not_k, not_O, not_c, not_f, is_s) (omega (arith, used.0, used.1, few, less))
                              | inr not_s ↦
                                  elim (cases_Bool (letter_of flag == 108)) [
                                    | inl is_l ↦
                                        let used = left_used 108 before flag 12 (eqb-true (letter_of flag) 108 is_l) fresh in
                                        let few = narrow_few (codes " l") fields.last_used refl are.last_used in
                                        rw (not_k, not_O, not_c, not_f, not_s, is_l) (omega (arith, used.0, used.1, few, less))
                                    | inr not_l ↦
                                        elim (cases_Bool (letter_of flag == 116)) [
                                          | inl is_t ↦
                                              let used = left_used 116 before flag 12 (eqb-true (letter_of flag) 116 is_t) fresh in
                                              let few = ttl_few fields.ttl are.ttl in
                                              rw (not_k, not_O, not_c, not_f, not_s, not_l, is_t) (omega (arith, used.0, used.1, few, less))
                                          | inr not_t ↦
                                              elim (cases_Bool (letter_of flag == 104)) [
                                                | inl is_h ↦
                                                    let used = left_used 104 before flag 3 (eqb-true (letter_of flag) 104 is_h) fresh in
                                                    let few = hit_few fields.was_hit in
                                                    rw (not_k, not_O, not_c, not_f, not_s, not_l, not_t, is_h) (omega (arith, used.0, used.1, few, less))
                                                | inr not_h ↦
                                                    rw (not_k, not_O, not_c, not_f, not_s, not_l, not_t, not_h) (omega (arith, less))
                                              ]
                                        ]
                                  ]
                            ]
                      ]
                ]
          ]
    ]

after_none : (before : List (List ℕ)) (flag : List ℕ) → fault_after before flag ≡ None → (has_letter (letter_of flag) before ≡ false) × (flag_fault flag ≡ None)
unfolding fault_after
after_none before flag none = elim (cases_Bool (has_letter (letter_of flag) before)) [
  | inl stands ↦ let never : Some DuplicateFlag ≡ None = rw stands at none in cc
  | inr fresh ↦ let own : flag_fault flag ≡ None = rw fresh at none in (fresh, own)
]

flags_few : (fields : MetaFields) → AreFields fields → (before flags : List (List ℕ)) → gravest before None flags ≡ None → length (concat (map (flag_text fields) flags)) ≤ budget before
flags_few fields are before [] none = omega arith
flags_few fields are before (flag ∷ rest) none =
    let both = none_each before flag rest none in
    let own = after_none before flag both.0 in
    let this = flag_few fields are before flag own.0 own.1 in
    let those = flags_few fields are (before ++ flag ∷ []) rest both.1 in
    let in_all = length-append (flag_text fields flag) (concat (map (flag_text fields) rest)) in
    omega (arith, this, those, in_all)

all_few : (fields : MetaFields) → AreFields fields → (flags : List ℕ) → AreFlags flags → length (flags_text fields flags) ≤ 365
unfolding budget left
all_few fields are flags fair = let few = flags_few fields are [] (words_of flags) fair in omega (arith, few)

status_few : (status : MetaStatus) (most : ℕ) → most < 2 ^ 32 → IsBlockWithin most status → length (status_text status) + length (block_text status) ≤ 15 + most
status_few statuses.Header most small within = omega arith
status_few (statuses.Value block) most small within =
    let few = digits_fewer (length block.now) (omega (arith, small, within)) in
    simp length-append (omega (arith, few, within))
status_few statuses.Miss most small within = omega arith
status_few statuses.NotFound most small within = omega arith
status_few statuses.NotStored most small within = omega arith
status_few statuses.Exists most small within = omega arith

-- an answer to a meta command whose flags have no fault
pub meta_few : (a : MetaAnswer) (most : ℕ) → most < 2 ^ 32 → AreFields a.fields → AreFlags a.flags.now → IsBlockWithin most a.status → length (meta_text a) ≤ 400 + most
meta_few a most small are fair within =
    let flags = all_few a.fields are a.flags.now fair in
    let awaited = said_few a.marks.is_awaited (codes " Z") in
    let stale = said_few a.marks.is_stale (codes " X") in
    let won = said_few a.marks.has_won (codes " W") in
    let status = status_few a.status most small within in
    simp length-append (omega (arith, flags, awaited, stale, won, status))

-- the answer to one key of a get
pub value_few : (key : List ℕ) (flags : ℕ) (cas : Option ℕ) (block : List ℕ) (most : ℕ) → most < 2 ^ 32 → length key ≤ 255 → flags < 2 ^ 32 → IfSome cas (λ n. n < 2 ^ 64) → length block ≤ most → length (value_text key flags cas block) ≤ 400 + most
value_few key flags None block most small key_short flags_small cas_small within =
    let flags_digits = digits_fewer flags flags_small in
    let size_digits = digits_fewer (length block) (omega (arith, small, within)) in
    simp length-append (omega (arith, key_short, within, flags_digits, size_digits))
value_few key flags (Some cas) block most small key_short flags_small cas_small within =
    let flags_digits = digits_fewer flags flags_small in
    let size_digits = digits_fewer (length block) (omega (arith, small, within)) in
    let cas_digits = digits_few cas cas_small in
    simp length-append (omega (arith, key_short, within, flags_digits, size_digits, cas_digits))

-- the line of a number
pub number_line_few : (n : ℕ) → n < 2 ^ 64 → length (line_text (decimal n)) ≤ 22
number_line_few n small = let few = digits_few n small in simp length-append (omega (arith, few))
