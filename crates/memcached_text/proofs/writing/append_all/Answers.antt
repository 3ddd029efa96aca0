use Rattle.std.proofs.Common.{List, ℕ, Bor, refl}
use Rattle.memcached_text.proofs.Lists.{piece_more, piece_over, not_fitting}
use Rattle.memcached_text.proofs.writing.append_all.Goals as goal

pub loop-piece-preserved : goal.loop-piece-preserved
loop-piece-preserved c = piece_more (λ (p : Bor (List ℕ)). p.now) c.args.pieces.now c.loop-piece.piece-index _ c.args.out.now.items c.loop-piece.out.items c.try_extend_from_slice.new.self.items _ c.loop-piece-test.true c.loop-piece.invariant c.in-Ok.ensures.ok refl

-- where a piece does not fit, all of them do not
pub returns-in_default-clause-full : goal.returns-in_default-clause-full
returns-in_default-clause-full c = piece_over 4096 (λ (p : Bor (List ℕ)). p.now) c.args.pieces.now c.loop-piece.piece-index _ c.args.out.now.items c.loop-piece.out.items _ c.loop-piece-test.true c.loop-piece.invariant refl (not_fitting _ 4096 c.in_default.ensures.variant.1)
