-- The store after a get that no copy answered.
use Rattle.std.proofs.Common.{◌≡◌, Option, None, Some, ap, sym, ◌∙◌, subst}
use Rattle.std.specs.Prelude.{IsTrue, IfSome, option_map}
use Rattle.record_pages.specs.Expiry.{timed}
use Rattle.mover.specs.Get.{answer_of}
use Rattle.certificate_checker.specs.Current.{current}
use Rattle.service_lane.specs.Copies.{CopyAsked, GetsCopied, HitLeaves, copy_in}
use Rattle.service_lane.specs.declared.copied.Copied.TheVariants.{Nothing, Made}
use Rattle.service_lane.specs.declared.new_copy.NewCopy.{NewCopy}
use Rattle.service_lane.proofs.public_laws.Returning.{back_device}
use Rattle.service_lane.proofs.Copying.{got_right, gone_current, got_copied, got_uncopied}
use denote.Param.{param, number}
use Rattle.service_lane.proofs.Fitting.{store_fits}
use Rattle.service_lane.proofs.copy_store.CopyStore.get_into.Goals as goal

pub invariant_of-self : goal.invariant_of-self
invariant_of-self g c is =
    let d = g.D.PageDevice in
    let i = c.self.inside in
    let got = c.get_into-kind in
    let was = subst (λ b. IsTrue b) got.ensures.gets.reads.honesty is in
    got_right (IsTrue (d.honest i.asked.store.device)) i.asked.deeds got.new.self.deeds c.args.key.now c.args.moment got.result got.new.found c.copy_hit.result i.copies c.copy_hit.new.copies got.ensures.deeds c.copy_hit.ensures got.ensures.expires was (c.self.invariant was)

pub returns-in_default-copy_hit-clause-gets : goal.returns-in_default-copy_hit-clause-gets
returns-in_default-copy_hit-clause-gets g c =
    let d = g.D.PageDevice in
    let i = c.self.inside in
    let a = c.args in
    let got = c.get_into-kind in
    let mid : CopyAsked g.row.D.Denot = record { store = i.asked.store; deeds = i.asked.deeds; copies = i.copies } in
    let new : CopyAsked g.row.D.Denot = record { store = got.new.self.store; deeds = got.new.self.deeds; copies = c.copy_hit.new.copies } in
    let same : mid ≡ a.self.now = c.self.view_is ∙ c.recall.ensures.stays c.in_default.is in
    let none : copy_in a.key.now a.moment mid.copies ≡ None = ap (λ (s : CopyAsked g.row.D.Denot). copy_in a.key.now a.moment s.copies) same ∙ c.recall.ensures.copy ∙ ap (option_map (timed c.recall.new.found)) c.in_default.is in
    let leaves : HitLeaves None a.key.now got.result got.new.found mid.copies new.copies = subst (λ (m : Option NewCopy). HitLeaves m a.key.now got.result got.new.found mid.copies new.copies) c.in_default-copy_hit.is c.copy_hit.ensures in
    subst (λ (s : CopyAsked g.row.D.Denot). GetsCopied g.row.PAGE d.honest d.failures d.held Nothing a.key.now a.moment (answer_of got.result got.new.found) s new) same
    (got_uncopied g.row.PAGE d.honest d.failures d.held a.key.now a.moment got.new.found mid new got.result none got.ensures.gets leaves)

pub put_back-fate-requires : goal.put_back-fate-requires
put_back-fate-requires g c =
    let d = g.D.PageDevice in
    let i = c.self.inside in
    let a = c.args in
    let got = c.get_into-kind in
    let made = c.in-Some-copy_hit.made in
    let leaves : HitLeaves (Some made) a.key.now got.result got.new.found i.copies c.copy_hit.new.copies = subst (λ (m : Option NewCopy). HitLeaves m a.key.now got.result got.new.found i.copies c.copy_hit.new.copies) c.in-Some-copy_hit.is c.copy_hit.ensures in (
      store_fits (param 0 g.row.D) (param 1 (number g.row.PAGE)) g.D.PageDevice assumption,
      subst (λ b. IfSome made.pushed (λ q. IsTrue b → current got.new.self.deeds q.key ≡ Some q.value)) (sym got.ensures.gets.reads.honesty)
          (gone_current (IsTrue (d.honest i.asked.store.device)) i.asked.deeds got.new.self.deeds a.key.now a.moment got.result got.new.found made i.copies c.copy_hit.new.copies got.ensures.deeds leaves got.ensures.expires c.self.invariant),
    )

pub invariant_of-self-2 : goal.invariant_of-self-2
invariant_of-self-2 g c is =
    let d = g.D.PageDevice in
    let i = c.self.inside in
    let got = c.get_into-kind in
    let back = c.put_back-fate in
    let between = subst (λ b. IsTrue b) (ap d.honest (back_device g.row.PAGE d.held c.in-Some-copy_hit.made.pushed got.new.self.store back.result back.new.asked.store back.ensures.puts_back)) is in
    let was = subst (λ b. IsTrue b) got.ensures.gets.reads.honesty between in
    got_right (IsTrue (d.honest i.asked.store.device)) i.asked.deeds back.new.asked.deeds c.args.key.now c.args.moment got.result got.new.found c.copy_hit.result i.copies c.copy_hit.new.copies (back.ensures.deeds ∙ got.ensures.deeds) c.copy_hit.ensures got.ensures.expires was (c.self.invariant was)

pub returns-clause-gets : goal.returns-clause-gets
returns-clause-gets g c =
    let d = g.D.PageDevice in
    let i = c.self.inside in
    let a = c.args in
    let got = c.get_into-kind in
    let back = c.put_back-fate in
    let made = c.in-Some-copy_hit.made in
    let mid : CopyAsked g.row.D.Denot = record { store = i.asked.store; deeds = i.asked.deeds; copies = i.copies } in
    let new : CopyAsked g.row.D.Denot = record { store = back.new.asked.store; deeds = back.new.asked.deeds; copies = c.copy_hit.new.copies } in
    let same : mid ≡ a.self.now = c.self.view_is ∙ c.recall.ensures.stays c.in_default.is in
    let none : copy_in a.key.now a.moment mid.copies ≡ None = ap (λ (s : CopyAsked g.row.D.Denot). copy_in a.key.now a.moment s.copies) same ∙ c.recall.ensures.copy ∙ ap (option_map (timed c.recall.new.found)) c.in_default.is in
    let leaves : HitLeaves (Some made) a.key.now got.result got.new.found mid.copies new.copies = subst (λ (m : Option NewCopy). HitLeaves m a.key.now got.result got.new.found mid.copies new.copies) c.in-Some-copy_hit.is c.copy_hit.ensures in
    subst (λ (s : CopyAsked g.row.D.Denot). GetsCopied g.row.PAGE d.honest d.failures d.held (Made back.result) a.key.now a.moment (answer_of got.result got.new.found) s new) same
    (got_copied g.row.PAGE d.honest d.failures d.held a.key.now a.moment got.new.found mid new got.result got.new.self.store made back.result none got.ensures.gets got.ensures.expires leaves back.ensures.puts_back)

pub returns-clause-untouched : goal.returns-clause-untouched
returns-clause-untouched g c misses = c.get_into-kind.ensures.untouched misses ∙ c.recall.ensures.untouched c.in_default.is

pub get_into-kind-requires : goal.get_into-kind-requires
get_into-kind-requires g c = store_fits (param 0 g.row.D) (param 1 (number g.row.PAGE)) g.D.PageDevice assumption

pub recall-requires : goal.recall-requires
recall-requires g c = assumption
