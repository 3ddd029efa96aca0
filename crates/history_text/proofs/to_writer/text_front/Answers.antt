-- The pieces of the line, grouped as the definition has them.
use Rattle.std.proofs.Common.{◌≡◌, ℕ, List, Result, Ok, Err, IfOk, string_bytes, ◌++◌, ap, sym, ◌∙◌, append_assoc}
use Rattle.std.specs.Fmt.{decimal}
use Rattle.std.specs.Prelude.{codes}
use Rattle.history_text.specs.Writing.{end_text}
use Rattle.history_text.proofs.to_writer.text_front.Goals as goal

grouped : (name caller space start end : List ℕ) → name ++ caller ++ space ++ start ++ space ++ end ≡ name ++ (caller ++ (space ++ (start ++ (space ++ end))))
grouped name caller space start end = simp append_assoc

told : {X E : Type 0} (bytes : X → List ℕ) (result : Result X E) (name caller space start end other : List ℕ) → other ≡ end → IfOk result (λ text. bytes text ≡ name ++ (caller ++ (space ++ (start ++ (space ++ other))))) → IfOk result (λ text. bytes text ≡ name ++ caller ++ space ++ start ++ space ++ end)
told bytes (Ok text) name caller space start end other is h =
    h ∙ sym (grouped name caller space start other) ∙ ap (λ e. name ++ caller ++ space ++ start ++ space ++ e) is
told bytes (Err refused) name caller space start end other is h = tt

pub returns : goal.returns
returns c =
    told (λ text. string_bytes text) c.format.result (codes "c") (decimal c.args.caller) (codes " ") (decimal c.args.start) (end_text c.args.end) (string_bytes c.in_ok-end.end) c.in_ok-end.ensures c.format.ensures.ok
