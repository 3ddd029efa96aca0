-- The pieces of the text, as they are made.
use Rattle.std.proofs.Common.{◌≡◌, ℕ, List, Result, Ok, Err, IfOk, string_bytes, ◌++◌, ap, ◌∙◌}
use Rattle.std.specs.Prelude.{codes}
use Rattle.history_text.specs.Coding.{word_of}
use Rattle.judge_run.specs.Telling.{ascending, first_position, key_at, lines_at, spaced, witness_positions, witness_word}
use Rattle.judge_run.proofs.reason_text.reason_text.Goals as goal

told : {X E : Type 0} (bytes : X → List ℕ) (result : Result X E) (a b kind key numbers p q r : List ℕ) → kind ≡ p → key ≡ q → numbers ≡ r → IfOk result (λ text. bytes text ≡ kind ++ (a ++ (key ++ (b ++ numbers)))) → IfOk result (λ text. bytes text ≡ p ++ (a ++ (q ++ (b ++ r))))
told bytes (Ok text) a b kind key numbers p q r x y z h =
    h ∙ (λ i. x i ++ (a ++ (y i ++ (b ++ z i))))
told bytes (Err refused) a b kind key numbers p q r x y z h = tt

pub returns : goal.returns
returns c =
    let first = first_position c.args.witness.now in
    let lines = ascending (lines_at c.args.lines.now (witness_positions c.args.witness.now)) in
    let numbers = c.in_ok-numbers.ensures ∙ ap spaced (c.deref.ensures.value ∙ c.in_ok-told.ensures) in
    told (λ text. string_bytes text) c.format.result (codes " key ") (codes " lines") c.kind_word-kind.result.now (string_bytes c.in_ok-key.key) (string_bytes c.in_ok-numbers.numbers) (witness_word c.args.witness.now) (word_of (key_at c.args.history.now first)) (spaced lines) c.kind_word-kind.ensures c.in_ok-key.ensures numbers c.format.ensures.ok
