-- The answer is made of its parts.
use Rattle.std.proofs.Common.{false, None, refl, rules, lit<}
use Rattle.memcached_text.specs.declared.meta_answer.MetaAnswer.{MetaAnswer}
use Rattle.memcached_text.proofs.public_laws.AnswerLengths.{meta_few}
use Rattle.memcached_session.proofs.Fitting.{block_within}
use Rattle.memcached_session.proofs.meta_reply.MetaShown.answer.Goals as goal

pub returns-clause-text : goal.returns-clause-text
returns-clause-text c =
    let r = c.args.request.now in
    let s = c.args.self in
    record {
      answer = record {
        status = s.status;
        flags = r.flags;
        fields = record {
          key = r.key;
          is_base64 = false;
          cas = s.returned.cas;
          flags = s.returned.flags;
          size = s.returned.size;
          ttl = s.returned.ttl;
          was_hit = None;
          last_used = None;
        };
        marks = s.marks;
      };
      text_is = refl;
      went_is = refl;
      key_is = refl;
      flags_are = refl;
      plain_key = refl;
      cas_is = refl;
      item_flags_are = refl;
      size_is = refl;
      ttl_is = refl;
      no_hit = refl;
      no_use = refl;
      marks_are = refl;
    }

pub returns-clause-few : goal.returns-clause-few
returns-clause-few c =
    let r = c.args.request.now in
    let s = c.args.self in
    let answer : MetaAnswer = record {
      status = s.status;
      flags = r.flags;
      fields = record {
        key = r.key;
        is_base64 = false;
        cas = s.returned.cas;
        flags = s.returned.flags;
        size = s.returned.size;
        ttl = s.returned.ttl;
        was_hit = None;
        last_used = None;
      };
      marks = s.marks;
    } in
    meta_few answer 2048 (lit< tt)
    (record { key = c.requires.key.1; cas = search rules; flags = search rules; size = search rules; last_used = tt; ttl = search rules })
    c.requires.flags (block_within s.status c.requires.within)
