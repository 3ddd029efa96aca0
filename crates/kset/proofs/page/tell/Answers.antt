use Rattle.std.proofs.Common.{List, Some, None, cond, sym, ap, ◌∙◌}
use Rattle.record_pages.specs.Recs.{Rec}
use Rattle.record_pages.specs.Lent.{record_shown}
use Rattle.record_pages.specs.Looking.{first_with}
use Rattle.kset.proofs.LookLaws.{tells_hit, tells_expired}
use Rattle.kset.proofs.page.tell.Goals as goal

pub returns-then-not-is_live-clause-tells : goal.returns-then-not-is_live-clause-tells
returns-then-not-is_live-clause-tells g c =
    let f = c.in-Some-find_key.found in
    tells_expired c.args.key.now c.args.moment c.args.into.now f.slot c.in-Some.page (record_shown f.lent) _ c.in-Some.ensures.page
    (ap (λ (rs : List Rec). first_with c.args.key.now rs) (sym c.records.ensures) ∙ sym c.in-Some-find_key.ensures.value)
    (sym (ap (λ b. cond b (Some f.lent.value.now) None) c.if-not-is_live.ensures))

pub returns-clause-tells : goal.returns-clause-tells
returns-clause-tells g c =
    let f = c.in-Some-find_key.found in
    tells_hit c.args.key.now c.args.moment c.set.new.self f.slot c.in-Some.page (record_shown f.lent) _ c.in-Some.ensures.page c.in-Some.ensures.few
    (ap (λ (rs : List Rec). first_with c.args.key.now rs) (sym c.records.ensures) ∙ sym c.in-Some-find_key.ensures.value)
    (sym (ap (λ b. cond b (Some f.lent.value.now) None) c.if-not-is_live.ensures) ∙ ap Some (sym c.set.ensures))
