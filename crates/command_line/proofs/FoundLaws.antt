-- What was found for an argument, by the rows of what was found.
use Rattle.std.proofs.Common.{◌≡◌, ◌∙◌, ◌<◌, ◌+◌, ◌&&◌, ℕ, Bool, true, false, List, [], ◌∷◌, Option, Some, None, ap, ap₂, arith, codes, inl, inr, zero, suc, if◌then◌else◌, is_some, length, map, not, option_map, refl, subst, sym, take, unwrap_or}
use Rattle.std.proofs.lemmas.Bool.{cases_Bool}
use Rattle.std.proofs.Math.ListN.{get_or}
use Rattle.std.specs.Borrow.{Bor}
use Rattle.std.specs.List.{find, list_all}
use Rattle.load.specs.declared.load.Load.{Load}
use Rattle.load.specs.Asked.{numbers_of, served_numbers_of}
use Rattle.load.specs.Sizes.{name_of}
use Rattle.load.specs.declared.serve_load.ServeLoad.{ServeLoad}
use Rattle.load.specs.declared.size_setting.SizeSetting.{SizeSetting}
use Rattle.load.specs.declared.size_setting.SizeSetting.TheVariants.{Size, MemoryBytes}
use Rattle.command_line.specs.declared.line.Line.TheVariants.{Run, Serve}
use Rattle.clap.specs.Words.{Row, Text, first_of, first_value, rows_of}
use Rattle.clap.specs.declared.parser.matches.Found.{Found}
use Rattle.clap.proofs.WalkLemmas.{first_value-rows}
use Rattle.load.specs.declared.setting.Setting.{Setting}
use Rattle.load.specs.declared.setting.Setting.TheVariants.{Lanes}
use Rattle.load.specs.Settings.{AreAdmitted, bytes_in, is_admitted, is_decimal, number_in, row_of, served_settings, settings, value_of_text}
use Rattle.command_line.specs.CommandLine.{Loaded, Served, Wanted, bytes_found, bytes_given, determines_given, has_numbers, has_sizes, is_given, is_on, load_wanted, number_found, numbers_found, served_wanted, shape_given, wanted_of}

-- a text that was found for a name is that of the name's rows
pub found_text : (found : Found) (id name : Text) (text : Option Text) → id ≡ name → text ≡ first_value found id → text ≡ first_of name (rows_of found)
found_text found id name text same is = is ∙ first_value-rows found id ∙ ap (λ n. first_of n (rows_of found)) same

-- and the number that it gives is the setting's
pub found_number : (found : Found) (setting : Setting) (id : Text) (text : Option Text) (number : Option ℕ) → id ≡ (row_of setting).name → text ≡ first_value found id → number ≡ number_in setting (unwrap_or text (row_of setting).default) → number ≡ number_found (rows_of found) setting
found_number found setting id text number same is by = by ∙ ap (λ t. number_in setting (unwrap_or t (row_of setting).default)) (found_text found id (row_of setting).name text same is)

-- what was found for the setting at a place is the number there
found_at : (f : Setting → Option ℕ) (settings : List Setting) (numbers : List ℕ) → map f settings ≡ map Some numbers → (place : ℕ) → place < length settings → f (get_or settings place Lanes) ≡ Some (get_or numbers place 0)
found_at f [] numbers e place less = absurd (omega arith)
found_at f (s ∷ settings) [] e place less = absurd cc
found_at f (s ∷ settings) (n ∷ numbers) e zero less = cc
found_at f (s ∷ settings) (n ∷ numbers) e (suc place) less = let rest : map f settings ≡ map Some numbers = cc in found_at f settings numbers rest place (omega arith)

both : (a b : Bool) → (a && b) ≡ true → (a ≡ true) × (b ≡ true)
both true b h = (refl, h)
both false b h = absurd cc

by_test : (setting : Setting) (text : Text) (n : ℕ) (test : Bool) → (is_decimal text && is_admitted setting (value_of_text text)) ≡ test → (if test then Some (value_of_text text) else None) ≡ Some n → is_admitted setting n ≡ true
by_test setting text n true is e =
    let same : value_of_text text ≡ n = cc in
    subst (λ k. is_admitted setting k ≡ true) same (both (is_decimal text) _ is).1
by_test setting text n false is e = absurd cc

in_range : (setting : Setting) (text : Text) (n : ℕ) → number_in setting text ≡ Some n → is_admitted setting n ≡ true
in_range setting text n e = by_test setting text n (is_decimal text && is_admitted setting (value_of_text text)) refl e

-- the numbers that were found are in the ranges of their settings
pub admitted : (settings : List Setting) (rows : List Row) (numbers : List ℕ) → map (number_found rows) settings ≡ map Some numbers → AreAdmitted settings numbers
admitted settings rows numbers e = λ place less. in_range (get_or settings place Lanes) (unwrap_or (first_of (row_of (get_or settings place Lanes)).name rows) (row_of (get_or settings place Lanes)).default) (get_or numbers place 0) (found_at (number_found rows) settings numbers e place less)

or_zero : (f : Setting → Option ℕ) (settings : List Setting) (numbers : List ℕ) → map f settings ≡ map Some numbers → map (λ setting. unwrap_or (f setting) 0) settings ≡ numbers
or_zero f [] [] e = refl
or_zero f [] (n ∷ numbers) e = absurd cc
or_zero f (s ∷ settings) [] e = absurd cc
or_zero f (s ∷ settings) (n ∷ numbers) e =
    let one : f s ≡ Some n = cc in
    let rest : map f settings ≡ map Some numbers = cc in
    ap₂ (λ m ms. m ∷ ms) (ap (λ o. unwrap_or o 0) one) (or_zero f settings numbers rest)

all_found : (f : Setting → Option ℕ) (settings : List Setting) (numbers : List ℕ) → map f settings ≡ map Some numbers → list_all (λ setting. is_some (f setting)) settings ≡ true
all_found f [] numbers e = refl
all_found f (s ∷ settings) [] e = absurd cc
all_found f (s ∷ settings) (n ∷ numbers) e =
    let one : f s ≡ Some n = cc in
    let rest : map f settings ≡ map Some numbers = cc in
    rw one (all_found f settings numbers rest)

-- the load with the numbers that were found is the one that the rows ask for
pub asks : (rows : List Row) (load : Load) (numbers : List ℕ) (json : Bool) (folder : Option Text) (trace : Text) → map (number_found rows) settings ≡ map Some numbers → numbers_of load ≡ numbers → load.json ≡ json → json ≡ is_on (codes "json") rows → load.device ≡ folder → folder ≡ first_of (codes "device") rows → load.trace ≡ trace → Some trace ≡ first_of (codes "trace") rows → load_wanted rows ≡ Some (wanted_of (Run load))
asks rows load numbers json folder trace e has is_json found_json is_device found_device is_trace found =
    let given : has_numbers settings rows ≡ true = all_found (number_found rows) settings numbers e in
    let all : numbers_found settings rows ≡ numbers_of load = or_zero (number_found rows) settings numbers e ∙ sym has in
    let device : first_of (codes "device") rows ≡ load.device = sym (is_device ∙ found_device) in
    let flag : is_on (codes "json") rows ≡ load.json = sym (is_json ∙ found_json) in
    let loaded : Loaded (numbers_found settings rows) (is_on (codes "json") rows) (first_of (codes "device") rows) trace ≡ wanted_of (Run load) =
    (λ i. Loaded (all i) (flag i) (device i) (sym is_trace i)) in
    rw given (ap (option_map (Loaded (numbers_found settings rows) (is_on (codes "json") rows) (first_of (codes "device") rows))) (sym found) ∙ ap Some loaded)

served_if : (a b c : Bool) → a ≡ true → b ≡ true → c ≡ false → (w : Wanted) → (if a && (b && not c) then Some w else None) ≡ Some w
served_if true true false is_a is_b is_c w = refl
served_if true true true is_a is_b is_c w = absurd cc
served_if true false c is_a is_b is_c w = absurd cc
served_if false b c is_a is_b is_c w = absurd cc

-- and so is the load of a cache that serves
pub asks_served : (rows : List Row) (load : ServeLoad) (numbers : List ℕ) (size memory : Option ℕ) (zipf json : Bool) (folder : Option Text) → map (number_found rows) served_settings ≡ map Some numbers → bytes_found rows Size ≡ Some size → bytes_found rows MemoryBytes ≡ Some memory → determines_given rows ≡ false → served_numbers_of load ≡ numbers → load.size ≡ size → load.memory_bytes ≡ memory → load.zipf ≡ zipf → zipf ≡ is_on (codes "zipf") rows → load.json ≡ json → json ≡ is_on (codes "json") rows → load.device ≡ folder → folder ≡ first_of (codes "device") rows → served_wanted rows ≡ Some (wanted_of (Serve load))
asks_served rows load numbers size memory zipf json folder e found_size found_memory free has is_size is_memory is_zipf found_zipf is_json found_json is_device found_device =
    let given : has_numbers served_settings rows ≡ true = all_found (number_found rows) served_settings numbers e in
    let sized : has_sizes rows ≡ true = rw (found_size, found_memory) refl in
    let all : numbers_found served_settings rows ≡ served_numbers_of load = or_zero (number_found rows) served_settings numbers e ∙ sym has in
    let of_size : unwrap_or (bytes_found rows Size) None ≡ load.size = ap (λ o. unwrap_or o None) found_size ∙ sym is_size in
    let of_memory : unwrap_or (bytes_found rows MemoryBytes) None ≡ load.memory_bytes = ap (λ o. unwrap_or o None) found_memory ∙ sym is_memory in
    let device : first_of (codes "device") rows ≡ load.device = sym (is_device ∙ found_device) in
    let flag : is_on (codes "json") rows ≡ load.json = sym (is_json ∙ found_json) in
    let drawn : is_on (codes "zipf") rows ≡ load.zipf = sym (is_zipf ∙ found_zipf) in
    let served : Served (numbers_found served_settings rows) (unwrap_or (bytes_found rows Size) None) (unwrap_or (bytes_found rows MemoryBytes) None) (is_on (codes "zipf") rows) (is_on (codes "json") rows) (first_of (codes "device") rows) ≡ wanted_of (Serve load) =
    (λ i. Served (all i) (of_size i) (of_memory i) (drawn i) (flag i) (device i)) in
    served_if _ _ _ given sized free _ ∙ ap Some served

all_at : {X : Type 0} (p : X → Bool) (xs : List X) (i : ℕ) (d : X) → i < length xs → list_all p xs ≡ true → p (get_or xs i d) ≡ true
all_at {X} p [] i d less h = absurd (omega arith)
all_at {X} p (x ∷ xs) zero d less h = (both (p x) (list_all p xs) h).0
all_at {X} p (x ∷ xs) (suc i) d less h = all_at p xs i d (omega arith) (both (p x) (list_all p xs) h).1

-- a setting with no number, and the numbers are not all there
pub lacks : (settings : List Setting) (rows : List Row) (place : ℕ) → place < length settings → number_found rows (get_or settings place Lanes) ≡ None → has_numbers settings rows ≡ false
lacks settings rows place less none = elim (cases_Bool (has_numbers settings rows)) [
  | inl all ↦
      let some = all_at (λ setting. is_some (number_found rows setting)) settings place Lanes less all in
      let bad : false ≡ true = ap is_some (sym none) ∙ some in absurd cc
  | inr other ↦ other
]

-- no load is asked for if a number or the file of the trace is missing
pub no_numbers : (rows : List Row) → has_numbers settings rows ≡ false → load_wanted rows ≡ None
no_numbers rows h = rw h refl

pub no_trace : (rows : List Row) → None ≡ first_of (codes "trace") rows → load_wanted rows ≡ None
no_trace rows none = elim (cases_Bool (has_numbers settings rows)) [
  | inl all ↦ rw (all, ← none) refl
  | inr other ↦ rw other refl
]

-- and none of a cache that serves if a number is missing, or that of a size that is given, or if a setting is given that a given
-- size determines
pub no_served_numbers : (rows : List Row) → has_numbers served_settings rows ≡ false → served_wanted rows ≡ None
no_served_numbers rows h = rw h refl

no_both : (b : Bool) (w : Wanted) → (if b && false then Some w else None) ≡ None
no_both true w = refl
no_both false w = refl

pub no_served_sizes : (rows : List Row) → has_sizes rows ≡ false → served_wanted rows ≡ None
no_served_sizes rows h = rw h (no_both (has_numbers served_settings rows) _)

none_free : (a b c : Bool) (w : Wanted) → c ≡ true → (if a && (b && not c) then Some w else None) ≡ None
none_free true true true w is_c = refl
none_free true true false w is_c = absurd cc
none_free true false c w is_c = refl
none_free false b c w is_c = refl

pub no_determined : (rows : List Row) → determines_given rows ≡ true → served_wanted rows ≡ None
no_determined rows h = none_free (has_numbers served_settings rows) (has_sizes rows) (determines_given rows) _ h

-- the first of a list that passes a test, as the elements are tested one after the other
module _ (test : Setting → Bool) where
  find_next : (settings : List Setting) (place : ℕ) → place < length settings → find test (take place settings) ≡ None → test (get_or settings place Lanes) ≡ false → find test (take (suc place) settings) ≡ None
  find_next [] place less none fails = absurd (omega arith)
  find_next (s ∷ settings) zero less none fails = rw fails refl
  find_next (s ∷ settings) (suc place) less none fails = elim (cases_Bool (test s)) [
    | inl passes ↦
        let bad : Some s ≡ None = sym (ap (λ b. if b then Some s else find test (take place settings)) passes) ∙ none in absurd cc
    | inr other ↦
        let rest : find test (take place settings) ≡ None = sym (ap (λ b. if b then Some s else find test (take place settings)) other) ∙ none in
        rw other (find_next settings place (omega arith) rest fails)
  ]

  pub find_more : (settings : List Setting) (place : ℕ) → place < length settings → find test (take place settings) ≡ None → test (get_or settings place Lanes) ≡ false → find test (take (place + 1) settings) ≡ None
  find_more settings place less none fails =
      let next : suc place ≡ place + 1 = omega arith in
      subst (λ n. find test (take n settings) ≡ None) next (find_next settings place less none fails)

  pub find_here : (settings : List Setting) (place : ℕ) → place < length settings → find test (take place settings) ≡ None → test (get_or settings place Lanes) ≡ true → find test settings ≡ Some (get_or settings place Lanes)
  find_here [] place less none passes = absurd (omega arith)
  find_here (s ∷ settings) zero less none passes = rw passes refl
  find_here (s ∷ settings) (suc place) less none passes = elim (cases_Bool (test s)) [
    | inl this ↦
        let bad : Some s ≡ None = sym (ap (λ b. if b then Some s else find test (take place settings)) this) ∙ none in absurd cc
    | inr other ↦
        let rest : find test (take place settings) ≡ None = sym (ap (λ b. if b then Some s else find test (take place settings)) other) ∙ none in
        rw other (find_here settings place (omega arith) rest passes)
  ]

is_some_map : (seen : Option (Bor Text)) → is_some (option_map (λ (word : Bor Text). word.now) seen) ≡ is_some seen
is_some_map None = refl
is_some_map (Some word) = refl

-- whether an option is given, by what was found for it
pub found_given : (found : Found) (setting : Setting) (id : Text) (seen : Option (Bor Text)) → id ≡ (row_of setting).name → option_map (λ (word : Bor Text). word.now) seen ≡ first_value found id → is_some seen ≡ is_given (rows_of found) setting
found_given found setting id seen same is = sym (is_some_map seen) ∙ ap is_some (found_text found id (row_of setting).name (option_map (λ (word : Bor Text). word.now) seen) same is)

-- a setting that a size determines is given if a size and such a setting are
pub with_size : (rows : List Row) (size : ℕ) → bytes_found rows Size ≡ Some (Some size) → is_some (shape_given rows) ≡ determines_given rows
with_size rows size e = rw e refl

pub without_size : (rows : List Row) → bytes_found rows Size ≡ Some None → false ≡ determines_given rows
without_size rows e = rw e refl

-- the bytes that a text gives a size are those found
pub given_bytes : (found : Found) (size : SizeSetting) (id text : Text) (bytes : Option ℕ) → id ≡ name_of size → Some text ≡ first_value found id → bytes ≡ bytes_in text → bytes_found (rows_of found) size ≡ option_map Some bytes
given_bytes found size id text bytes same is by = ap bytes_given (sym (found_text found id (name_of size) (Some text) same is)) ∙ ap (option_map Some) (sym by)

pub no_bytes_given : (found : Found) (size : SizeSetting) (id : Text) → id ≡ name_of size → None ≡ first_value found id → bytes_found (rows_of found) size ≡ Some None
no_bytes_given found size id same is = ap bytes_given (sym (found_text found id (name_of size) None same is))

no_more : (b : Bool) → (b && false) ≡ false
no_more true = refl
no_more false = refl

-- if one of the sizes has no number, not all have
pub lacks_first : (rows : List Row) → bytes_found rows Size ≡ None → has_sizes rows ≡ false
lacks_first rows none = rw none refl

pub lacks_second : (rows : List Row) → bytes_found rows MemoryBytes ≡ None → has_sizes rows ≡ false
lacks_second rows none = rw none (no_more (is_some (bytes_found rows Size)))
