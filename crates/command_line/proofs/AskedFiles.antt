-- What is asked of files, by the rows of what was found.
use Rattle.std.proofs.Common.{◌≡◌, ◌∙◌, ℕ, Bool, IsSome, List, Option, Some, None, ap, codes, option_and_then, option_map, subst, sym}
use Rattle.clap.specs.Words.{Row, Text, all_of, first_of}
use Rattle.history_text.specs.declared.share.Share.{Share}
use Rattle.command_line.specs.CommandLine.{Checked, Shown, Wanted, check_wanted, is_on, judge_wanted_of, judge_wanted_on, show_wanted}

-- with no file nothing is asked for
no_file : (f : Text → Wanted) (file : Option Text) → None ≡ file → IsSome (option_map f file) → ⊥
no_file f None is some = absurd cc
no_file f (Some file) is some = absurd cc

module _ (rows : List Row) where
  pub no_check : None ≡ first_of (codes "FILE") rows → IsSome (check_wanted rows) → ⊥
  no_check is some = no_file _ (first_of (codes "FILE") rows) is some

  pub no_showing : None ≡ first_of (codes "FILE") rows → IsSome (show_wanted rows) → ⊥
  no_showing is some = no_file _ (first_of (codes "FILE") rows) is some

  module _ (file : Text) (found : Some file ≡ first_of (codes "FILE") rows) where
    pub asks_check : (explain json : Bool) (picture : Option Text) → explain ≡ is_on (codes "explain") rows → json ≡ is_on (codes "json") rows → picture ≡ first_of (codes "picture") rows → check_wanted rows ≡ Some (Checked file explain json picture)
    asks_check explain json picture e j p =
        ap (option_map (λ f. Checked f (is_on (codes "explain") rows) (is_on (codes "json") rows) (first_of (codes "picture") rows))) (sym found)
        ∙ (λ i. Some (Checked file (sym e i) (sym j i) (sym p i)))

    pub asks_showing : (key : Option Text) → key ≡ first_of (codes "key") rows → show_wanted rows ≡ Some (Shown file key)
    asks_showing key k =
        ap (option_map (λ f. Shown f (first_of (codes "key") rows))) (sym found)
        ∙ ap (λ (word : Option Text). Some (Shown file word)) (sym k)

-- ---- judging

module _ (rows : List Row) (least skew : ℕ) (share : Share) (window : Option ℕ) where
  -- with no files nothing is asked for
  pub no_judging : None ≡ all_of (codes "FILE") rows → IsSome (judge_wanted_of rows least skew share window) → ⊥
  no_judging none some =
      let bad : IsSome (option_and_then (judge_wanted_on rows least skew share window) None) = subst (λ (files : Option (List Text)). IsSome (option_and_then (judge_wanted_on rows least skew share window) files)) (sym none) some in absurd cc

  -- what is asked is asked of the files that were found
  pub of_files : (files : List Text) → Some files ≡ all_of (codes "FILE") rows → judge_wanted_of rows least skew share window ≡ judge_wanted_on rows least skew share window files
  of_files files found = ap (option_and_then (judge_wanted_on rows least skew share window)) (sym found)
