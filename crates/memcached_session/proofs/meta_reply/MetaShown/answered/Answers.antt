-- The bytes of an answer are its text.
use Rattle.std.proofs.Common.{ℕ, ◌≤◌, List, length, ap, sym, subst}
use Rattle.memcached_text.specs.Asked.{meta_shown}
use Rattle.memcached_session.specs.MetaSaying.{IsMetaText, shown_of}
use Rattle.memcached_session.specs.Saying.{Said}
use Rattle.memcached_session.proofs.meta_reply.MetaShown.answered.Goals as goal

pub returns-clause-text : goal.returns-clause-text
returns-clause-text c =
    subst (λ (t : List ℕ). IsMetaText (meta_shown c.args.request.now) (shown_of c.args.self) t) (sym (ap (λ (s : Said). s.text) c.loud.ensures)) c.answer-answer.ensures.text

pub returns-clause-few : goal.returns-clause-few
returns-clause-few c = subst (λ (t : List ℕ). length t ≤ 2448) (sym (ap (λ (s : Said). s.text) c.loud.ensures)) c.answer-answer.ensures.few
