use Rattle.std.proofs.Common.{◌≡◌, true, false, refl, inl, inr}
use Rattle.certificate_finder.proofs.zoning.list_zone.Goals as goal

pub returns : goal.returns
returns c = inl (c.if-not-is_write.ensures.0 refl, (c.args.zone, refl, c.in_ok-push.ensures.items))

pub returns-then-not-is_write : goal.returns-then-not-is_write
returns-then-not-is_write c = inr ((λ p. let h : false ≡ true = c.if-not-is_write.ensures.1 p in cc), refl)
