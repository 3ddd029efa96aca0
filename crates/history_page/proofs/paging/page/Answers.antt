-- The parts of a page, one after the other.
use Rattle.std.proofs.Common.{◌≡◌, ℕ, List, [], ◌++◌, ap, ◌∙◌, append_assoc}
use Rattle.history_picture.specs.Names.{names_of}
use Rattle.history_page.specs.declared.fixed.TheConstants.{HEAD, MIDDLE, TAIL}
use Rattle.history_page.specs.CallLines.{calls_text}
use Rattle.history_page.specs.Guarding.{guard}
use Rattle.history_page.proofs.paging.page.Goals as goal

grouped : (a b c d e : List ℕ) → ((((a ++ b) ++ c) ++ d) ++ e) ≡ a ++ (b ++ (c ++ (d ++ e)))
grouped a b c d e = simp append_assoc

joined : (a b c d e none one two three four all : List ℕ) → none ≡ [] → one ≡ none ++ a → two ≡ one ++ b → three ≡ two ++ c → four ≡ three ++ d → all ≡ four ++ e → all ≡ a ++ (b ++ (c ++ (d ++ e)))
joined a b c d e none one two three four all n i ii iii iv v =
    v ∙ ap (λ t. t ++ e) (iv ∙ ap (λ t. t ++ d) (iii ∙ ap (λ t. t ++ c) (ii ∙ ap (λ t. t ++ b) (i ∙ ap (λ t. t ++ a) n)))) ∙ grouped a b c d e

pub returns : goal.returns
returns c =
    let scene = c.args.scene.now in
    joined HEAD.now (guard (calls_text scene.history.now scene.lines.now (names_of scene.callers.now) c.args.recorded)) MIDDLE.now (guard c.args.report.now) TAIL.now
    c.new-page.result.items c.push_text.new.page.items c.push_calls.new.page.items c.push_text-2.new.page.items c.push_guarded.new.page.items c.push_text-3.new.page.items
    c.new-page.ensures.items c.in_ok-push_text.ensures c.in_ok-push_calls.ensures c.in_ok-push_text-2.ensures c.in_ok-push_guarded.ensures c.in_ok-push_text-3.ensures
