use Rattle.std.proofs.Common.{List, ℕ, ◌∙◌, map, ap, None}
use Rattle.memcached_text.specs.Words.{after_word}
use Rattle.memcached_text.specs.Meta.{request_after}
use Rattle.memcached_text.proofs.MetaLines.{as_faulted, as_refused}
use Rattle.memcached_text.proofs.meta.meta_request.Goals as goal

pub returns-in-None : goal.returns-in-None
returns-in-None c =
    let words = map (λ w. w.now) c.args.words.now in
    c.request_after.ensures
    ∙ (ap (λ (rest : List ℕ). request_after c.args.command words rest) (c.after_word-in-None.ensures ∙ ap after_word c.after_word.ensures)
    ∙ as_faulted c.args.command words c.args.line.now None c.in-None.ensures.exact)

pub returns-in-Some : goal.returns-in-Some
returns-in-Some c = as_refused c.args.command (map (λ w. w.now) c.args.words.now) c.args.line.now c.in-Some.fault c.refusal.result c.refusal.ensures c.in-Some.ensures.exact
