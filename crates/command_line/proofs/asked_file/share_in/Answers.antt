-- With no slash in a text there is no second number.
use Rattle.std.proofs.Common.{◌≡◌, ◌∙◌, ◌+◌, ◌==◌, ℕ, List, [], Option, Some, None, ap, arith, length, option_and_then, refl, sym}
use Rattle.std.proofs.lemmas.List.{drop_all}
use Rattle.std.specs.List.{after_first, before_first, position_or_len}
use Rattle.command_line.specs.CommandLine.{number_to, share_from, share_in}
use Rattle.command_line.proofs.asked_file.share_in.Goals as goal

no_second : (part : Option ℕ) → option_and_then (λ (p : ℕ). option_and_then (share_from p) (number_to 4294967295 [])) part ≡ None
no_second None = refl
no_second (Some part) = refl

no_slash : (text : List ℕ) → position_or_len (λ b. b == 47) text ≡ length text → share_in text ≡ None
no_slash text none =
    let nothing : after_first (λ b. b == 47) text ≡ [] = drop_all (position_or_len (λ b. b == 47) text + 1) text (omega arith) in
    ap (λ (second : List ℕ). option_and_then (λ (p : ℕ). option_and_then (share_from p) (number_to 4294967295 second)) (number_to 4294967295 (before_first (λ b. b == 47) text))) nothing
    ∙ no_second (number_to 4294967295 (before_first (λ b. b == 47) text))

pub returns-in_default : goal.returns-in_default
returns-in_default c = sym (no_slash c.args.text.now (c.in_default.ensures.byte (omega arith) (λ w o h. h)))
