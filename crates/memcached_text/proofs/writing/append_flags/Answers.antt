use Rattle.std.proofs.Common.{List, ℕ, Bor, refl}
use Rattle.memcached_text.specs.Answers.{flag_text}
use Rattle.memcached_text.proofs.Lists.{text_more, text_over}
use Rattle.memcached_text.proofs.writing.append_flags.Goals as goal

pub loop-flag-preserved : goal.loop-flag-preserved
loop-flag-preserved c = text_more (flag_text c.args.fields.now) (λ (f : Bor (List ℕ)). f.now) c.args.flags.now c.loop-flag.flag-index _ c.args.out.now.items c.loop-flag.out.items c.append_flag.new.out.items _ c.loop-flag-test.true c.loop-flag.invariant c.in-Ok.ensures.ok refl

-- where a flag's text does not fit, all of them do not
pub returns-in_default-clause-full : goal.returns-in_default-clause-full
returns-in_default-clause-full c = text_over 4096 (flag_text c.args.fields.now) (λ (f : Bor (List ℕ)). f.now) c.args.flags.now c.loop-flag.flag-index _ c.args.out.now.items c.loop-flag.out.items _ c.loop-flag-test.true c.loop-flag.invariant refl c.in_default.ensures.full
