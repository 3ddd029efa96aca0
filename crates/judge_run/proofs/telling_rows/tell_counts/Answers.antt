-- The second row stands after the first.
use Rattle.std.proofs.Common.{◌≡◌, ◌∙◌, ℕ, List, Result, Ok, Err, OnOk, ap, codes, string_bytes}
use Rattle.figures.specs.Figures.{number, row, with_row}
use Rattle.judge_run.proofs.telling_rows.tell_counts.Goals as goal

next : {X E : Type 0} (result : Result X E) (new mid wanted : List ℕ) (f : List ℕ → List ℕ) → mid ≡ wanted → OnOk result (new ≡ f mid) → OnOk result (new ≡ f wanted)
next (Ok x) new mid wanted f is told = told ∙ ap f is
next (Err refused) new mid wanted f is told = tt

pub returns : goal.returns
returns c =
    next c.tell-2.result (string_bytes c.tell-2.new.text) (string_bytes c.tell.new.text) (with_row c.args.form (string_bytes c.args.text.now) (row (codes "fault-count") (number c.args.faults))) (λ text. with_row c.args.form text (row (codes "fault-keys") (number c.args.keys))) c.in_ok-tell.ensures c.tell-2.ensures
