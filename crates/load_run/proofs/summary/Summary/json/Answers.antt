-- One figure after the other.
use Rattle.std.proofs.Common.{◌≡◌, ◌∙◌, [], List, ℕ, ap, codes, string_bytes}
use Rattle.figures.specs.declared.form.Form.TheVariants.{Json}
use Rattle.figures.specs.Figures.{ended, number, row, with_row, with_rows}
use Rattle.figures.specs.Verdicts.{verdict_rows}
use Rattle.load_run.proofs.summary.Summary.json.Goals as goal

pub returns : goal.returns
returns c =
    let calls = row (codes "calls") (number c.args.self.now.calls) in
    let hits = row (codes "hits") (number c.args.self.now.hits) in
    let stopped = row (codes "stopped") (number c.args.self.now.stopped) in
    let one : string_bytes c.tell.new.text ≡ with_row Json [] calls =
    c.in_ok-tell.ensures ∙ ap (λ (t : List ℕ). with_row Json t calls) c.new-text.ensures.bytes in
    let two : string_bytes c.tell-2.new.text ≡ with_row Json (with_row Json [] calls) hits =
    c.in_ok-tell-2.ensures ∙ ap (λ (t : List ℕ). with_row Json t hits) one in
    let three : string_bytes c.tell-3.new.text ≡ with_row Json (with_row Json (with_row Json [] calls) hits) stopped =
    c.in_ok-tell-3.ensures ∙ ap (λ (t : List ℕ). with_row Json t stopped) two in
    c.in_ok-end.ensures
    ∙ ap (ended Json) (c.in_ok-tell_verdict.ensures ∙ ap (λ (t : List ℕ). with_rows Json t (verdict_rows c.args.self.now.verdict)) three)
