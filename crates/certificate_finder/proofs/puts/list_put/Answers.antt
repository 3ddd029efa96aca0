use Rattle.std.proofs.Common.{◌≡◌, true, false, refl, inl, inr}
use Rattle.certificate_finder.proofs.puts.list_put.Goals as goal

pub returns : goal.returns
returns c = inl (c.if-not-is_put.ensures.0 refl, (c.of-put.result, c.of-put.ensures, c.in_ok-push.ensures.items))

pub returns-then-not-is_put : goal.returns-then-not-is_put
returns-then-not-is_put c = inr ((λ p. let h : false ≡ true = c.if-not-is_put.ensures.1 p in cc), refl)
