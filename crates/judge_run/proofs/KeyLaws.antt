-- How many keys faults are about, by the set of their keys.
use Rattle.std.proofs.Common.{◌≡◌, ◌∙◌, ℕ, ◌+◌, Bool, true, false, cond, ◌||◌, List, [], ◌∷◌, ◌++◌, Some, ap, length, map, refl, suc, sym, take}
use Rattle.std.proofs.lemmas.List.Folds.{list_any-append}
use Rattle.std.proofs.lemmas.Map.Made.{length-from_keys}
use Rattle.std.specs.Cmp.{IsEquivalence, on_equiv}
use Rattle.std.specs.Cmp.Lexicographic.{nat_list_eq_equiv}
use Rattle.std.specs.HashSet.{HashSet, contains_by}
use Rattle.std.specs.List.{IsDistinct}
use Rattle.std.specs.Set.{distinct_count, is_member, unique_keys}
use Rattle.std.specs.Str.{bytes_eq}
use Rattle.std.proofs.lemmas.List.{map-append}
use Rattle.std.specs.Prelude.{slice_get}
use Rattle.certificate_checker.proofs.public_laws.Lookups.{take_next}
use Rattle.judge_run.specs.declared.told_fault.ToldFault.{ToldFault}
use Rattle.trace_file.specs.declared.call.Call.{Call}
use Rattle.judge_run.specs.Listing.{HasKeys, keys_of}
use Rattle.judge_run.specs.Telling.{first_position, key_at}
use Rattle.trace_file.specs.declared.lent_word.LentWord.{LentWord}

-- keys are equal if their bytes are
abbrev pub same : LentWord → LentWord → Bool
same one other = bytes_eq one.bytes.now other.bytes.now

same_laws : IsEquivalence same
same_laws = on_equiv (λ key. key.bytes.now) nat_list_eq_equiv

-- a key of these bytes, wherever they stand
abbrev pub lent : List ℕ → LentWord
lent word = record { bytes = record { ref_ptr = (0, 0); now = word } }

member_lent : (words : List (List ℕ)) (key : LentWord) → is_member same (map lent words) key ≡ is_member bytes_eq words key.bytes.now
member_lent [] key = refl
member_lent (word ∷ words) key = ap (λ b. bytes_eq key.bytes.now word || b) (member_lent words key)

count_lent : (words : List (List ℕ)) → length (unique_keys same (map lent words)) ≡ distinct_count bytes_eq words
count_lent [] = refl
count_lent (word ∷ words) = elim (is_member bytes_eq words word) as (λ b. is_member same (map lent words) (lent word) ≡ b → length (cond (is_member same (map lent words) (lent word)) (unique_keys same (map lent words)) (lent word ∷ unique_keys same (map lent words))) ≡ length (cond b (unique_keys bytes_eq words) (word ∷ unique_keys bytes_eq words))) [
  | true ↦ λ is. rw is (count_lent words)
  | false ↦ λ is. rw is (ap suc (count_lent words))
] (member_lent words (lent word))

either : (b m : Bool) → cond b true m ≡ (m || (b || false))
either true true = refl
either true false = refl
either false true = refl
either false false = refl

module _ {S : Type 0} where
  -- a set that was given one key more has it, and those that it had
  pub one_more : (old new : HashSet LentWord S) (key : LentWord) (words : List (List ℕ)) → ((q : LentWord) → contains_by (same q) new ≡ cond (same key q) true (contains_by (same q) old)) → HasKeys old words → HasKeys new (words ++ key.bytes.now ∷ [])
  one_more old new key words updates has word =
      updates (lent word)
      ∙ ap (λ b. cond b true (contains_by (same (lent word)) old)) (nat_list_eq_equiv.symm key.bytes.now word)
      ∙ ap (λ m. cond (bytes_eq word key.bytes.now) true m) (has word)
      ∙ either (bytes_eq word key.bytes.now) (is_member bytes_eq words word)
      ∙ sym (list_any-append (bytes_eq word) words (key.bytes.now ∷ []))

  -- a set that has these keys has as many as there are
  pub count_is : (set : HashSet LentWord S) (words : List (List ℕ)) → IsDistinct same set.keys → HasKeys set words → length set.keys ≡ distinct_count bytes_eq words
  count_is set words distinct has =
      length-from_keys same_laws set.keys (map lent words) distinct (λ key. has key.bytes.now ∙ sym (member_lent words key))
      ∙ count_lent words

-- the keys of one fault more
pub keys_next : (history : List Call) (faults : List ToldFault) (i : ℕ) (fault : ToldFault) (word : List ℕ) → slice_get faults i ≡ Some fault → word ≡ key_at history (first_position fault.reason) → keys_of history (take (i + 1) faults) ≡ keys_of history (take i faults) ++ word ∷ []
keys_next history faults i fault word found is =
    ap (keys_of history) (take_next faults i fault found)
    ∙ map-append (λ (one : ToldFault). key_at history (first_position one.reason)) (take i faults) (fault ∷ [])
    ∙ ap (λ w. keys_of history (take i faults) ++ w ∷ []) (sym is)
