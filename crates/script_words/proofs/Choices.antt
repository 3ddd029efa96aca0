-- The command of words is that of the first line of the table that is named so.
use Rattle.std.proofs.Common.{◌≡◌, ◌<◌, ◌+◌, ◌&&◌, ℕ, Bool, true, false, List, [], length, map, get_or, Bor, Option, Some, Result, refl, sym, ap, ◌∙◌, arith}
use Rattle.std.specs.Prelude.{IfOk, if◌then◌else◌, slice_index_or, codes, option_map}
use Rattle.std.proofs.lemmas.Bool.{cond-true, eqb-true}
use Rattle.std.proofs.lemmas.List.{get_or-map, length-map}
use Rattle.std.proofs.lemmas.Result.{IfOk-weaker}
use Rattle.record_pages.specs.Expiry.{never}
use Rattle.script_words.specs.Words.{time_of}
use Rattle.script_words.specs.declared.command.Command.{Command}
use Rattle.script_words.specs.declared.command.Command.TheVariants.{Remove, Forget}
use Rattle.script_words.specs.Commands.{is_named, key_of, get_words, put_words, bare_of, command_of_words}

-- the words that are lent
abbrev pub lent : List (Bor (List ℕ)) → List (List ℕ)
lent words = map (λ (word : Bor (List ℕ)). word.now) words

-- a line of the table that is not meant
passed : {X : Type 0} (b : Bool) (x y z : X) → b ≡ false → y ≡ z → (if b then x else y) ≡ z
passed b x y z other rest = rw other rest

both : (a b : Bool) → (a && b) ≡ true → a ≡ true
both true b is = refl
both false b is = is

counted : (words : List (List ℕ)) (count : ℕ) (name : List ℕ) → is_named words count name ≡ true → length words ≡ count
counted words count name is = eqb-true (length words) count (both _ _ is)

-- one of the words that are counted
pub bound : (words : List (Bor (List ℕ))) (i more : ℕ) (name : List ℕ) → is_named (lent words) (i + 1 + more) name ≡ true → i < length words
bound words i more name is =
    let count = counted (lent words) (i + 1 + more) name is in
    let many = length-map words (λ (word : Bor (List ℕ)). word.now) in
    omega (arith, count, many)

-- a word that is lent, by its place
word_at : (words : List (Bor (List ℕ))) (i : ℕ) (d : Bor (List ℕ)) → i < length words → (get_or words i d).now ≡ slice_index_or (lent words) i []
word_at words i d within = sym (get_or-map (λ (word : Bor (List ℕ)). word.now) words i d [] within)

module _ {E : Type 0} (words : List (Bor (List ℕ))) (r : Result (Option Command) E) where
  -- the result, if there is one
  abbrev pub Spells : Option Command → Type 0
  Spells command = IfOk r (λ c. c ≡ command)

  so : (x y : Option Command) → x ≡ y → Spells x → Spells y
  so x y same is = IfOk-weaker r (λ c. c ≡ x) (λ c. c ≡ y) (λ c e. e ∙ same) is

  pub get_now : (d : Bor (List ℕ)) → is_named (lent words) 2 (codes "get") ≡ true → Spells (get_words (get_or words 1 d).now (Some 0)) → Spells (command_of_words (lent words))
  get_now d named is = so _ _ (ap (λ k. get_words k (Some 0)) (word_at words 1 d (bound words 1 0 _ named)) ∙ sym (cond-true _ _ _ named)) is

  module _ (get_2 : is_named (lent words) 2 (codes "get") ≡ false) where
    pub get_at : (d e : Bor (List ℕ)) (moment : Option ℕ) → is_named (lent words) 3 (codes "get") ≡ true → moment ≡ time_of (get_or words 2 e).now → Spells (get_words (get_or words 1 d).now moment) → Spells (command_of_words (lent words))
    get_at d e moment named when is =
        so _ _ (ap (λ k. get_words k moment) (word_at words 1 d (bound words 1 1 _ named))
        ∙ ap (λ m. get_words (slice_index_or (lent words) 1 []) m) (when ∙ ap time_of (word_at words 2 e (bound words 2 0 _ named)))
        ∙ sym (passed _ _ _ _ get_2 (cond-true _ _ _ named))) is

    module _ (get_3 : is_named (lent words) 3 (codes "get") ≡ false) where
      pub removed : (d : Bor (List ℕ)) → is_named (lent words) 2 (codes "remove") ≡ true → Spells (option_map Remove (key_of (get_or words 1 d).now)) → Spells (command_of_words (lent words))
      removed d named is =
          so _ _ (ap (λ k. option_map Remove (key_of k)) (word_at words 1 d (bound words 1 0 _ named))
          ∙ sym (passed _ _ _ _ get_2 (passed _ _ _ _ get_3 (cond-true _ _ _ named)))) is

      module _ (remove : is_named (lent words) 2 (codes "remove") ≡ false) where
        pub forgotten : (d : Bor (List ℕ)) → is_named (lent words) 2 (codes "forget") ≡ true → Spells (option_map Forget (key_of (get_or words 1 d).now)) → Spells (command_of_words (lent words))
        forgotten d named is =
            so _ _ (ap (λ k. option_map Forget (key_of k)) (word_at words 1 d (bound words 1 0 _ named))
            ∙ sym (passed _ _ _ _ get_2 (passed _ _ _ _ get_3 (passed _ _ _ _ remove (cond-true _ _ _ named))))) is

        module _ (forget : is_named (lent words) 2 (codes "forget") ≡ false) where
          pub put_for_ever : (d e f : Bor (List ℕ)) → is_named (lent words) 4 (codes "put") ≡ true → Spells (put_words (get_or words 1 d).now (get_or words 2 e).now (get_or words 3 f).now (Some never)) → Spells (command_of_words (lent words))
          put_for_ever d e f named is =
              so _ _ (ap (λ k. put_words k (get_or words 2 e).now (get_or words 3 f).now (Some never)) (word_at words 1 d (bound words 1 2 _ named))
              ∙ ap (λ v. put_words (slice_index_or (lent words) 1 []) v (get_or words 3 f).now (Some never)) (word_at words 2 e (bound words 2 1 _ named))
              ∙ ap (λ n. put_words (slice_index_or (lent words) 1 []) (slice_index_or (lent words) 2 []) n (Some never)) (word_at words 3 f (bound words 3 0 _ named))
              ∙ sym (passed _ _ _ _ get_2 (passed _ _ _ _ get_3 (passed _ _ _ _ remove (passed _ _ _ _ forget (cond-true _ _ _ named)))))) is

          module _ (put_4 : is_named (lent words) 4 (codes "put") ≡ false) where
            pub put_until : (d e f h : Bor (List ℕ)) (expires : Option ℕ) → is_named (lent words) 5 (codes "put") ≡ true → expires ≡ time_of (get_or words 4 h).now → Spells (put_words (get_or words 1 d).now (get_or words 2 e).now (get_or words 3 f).now expires) → Spells (command_of_words (lent words))
            put_until d e f h expires named when is =
                so _ _ (ap (λ k. put_words k (get_or words 2 e).now (get_or words 3 f).now expires) (word_at words 1 d (bound words 1 3 _ named))
                ∙ ap (λ v. put_words (slice_index_or (lent words) 1 []) v (get_or words 3 f).now expires) (word_at words 2 e (bound words 2 2 _ named))
                ∙ ap (λ n. put_words (slice_index_or (lent words) 1 []) (slice_index_or (lent words) 2 []) n expires) (word_at words 3 f (bound words 3 1 _ named))
                ∙ ap (λ t. put_words (slice_index_or (lent words) 1 []) (slice_index_or (lent words) 2 []) (slice_index_or (lent words) 3 []) t) (when ∙ ap time_of (word_at words 4 h (bound words 4 0 _ named)))
                ∙ sym (passed _ _ _ _ get_2 (passed _ _ _ _ get_3 (passed _ _ _ _ remove (passed _ _ _ _ forget (passed _ _ _ _ put_4 (cond-true _ _ _ named))))))) is

-- none of them is meant
pub bare : (words : List (Bor (List ℕ))) → is_named (lent words) 2 (codes "get") ≡ false → is_named (lent words) 3 (codes "get") ≡ false → is_named (lent words) 2 (codes "remove") ≡ false → is_named (lent words) 2 (codes "forget") ≡ false → is_named (lent words) 4 (codes "put") ≡ false → is_named (lent words) 5 (codes "put") ≡ false
    → (command : Option Command) → command ≡ bare_of (lent words) → command ≡ command_of_words (lent words)
bare words get_2 get_3 remove forget put_4 put_5 command is = is ∙ sym (passed _ _ _ _ get_2 (passed _ _ _ _ get_3 (passed _ _ _ _ remove (passed _ _ _ _ forget (passed _ _ _ _ put_4 (passed _ _ _ _ put_5 refl))))))
