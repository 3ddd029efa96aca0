use Rattle.std.proofs.Common.{◌≡◌, ℕ, ◌<◌, List, Option, sym, ap, subst, ◌∙◌, arith}
use Rattle.klog_index.specs.declared.entry.Entry.{Entry}
use Rattle.klog_index.specs.First.{oldest_but}
use Rattle.klog.specs.Log.{LogState}
use Rattle.klog.specs.Keeps.{IsLog}
use Rattle.klog.specs.Names.{name_of}
use Rattle.klog.proofs.OldestLaws.{none_last, other_last, some_last, found_first, found_next, none_other}
use Rattle.klog.proofs.log.KLog.oldest.Goals as goal

pub returns-in_default-clause-tells : goal.returns-in_default-clause-tells
returns-in_default-clause-tells g c =
    let k = c.args.self.now in
    let some : 0 < k.stored = omega (arith, c.if-self-eq0.false, ap (λ (v : LogState). v.stored) c.self.view_is) in
    (some, none_last _ k c.oldest.result (name_of k k.first) c.self.view_is c.oldest.ensures c.in_default.is)

pub returns-then-number_of-self-clause-tells : goal.returns-then-number_of-self-clause-tells
returns-then-number_of-self-clause-tells g c =
    let k = c.args.self.now in
    let some : 0 < k.stored = omega (arith, c.if-self-eq0.false, ap (λ (v : LogState). v.stored) c.self.view_is) in
    let first = ap (λ (v : LogState). v.first) c.self.view_is in (
      some,
      other_last _ k c.oldest.result c.in-Some.entry c.self.view_is c.oldest.ensures c.in-Some.is (subst IsLog c.self.view_is c.self.invariant.0)
          (λ same. c.if-number_of-self.true (c.number_of.ensures ∙ same ∙ sym first)),
    )

-- what the index tells of the oldest segment
told_but : (v k : LogState) (passed : List ℕ) (segment : ℕ) (o : Option Entry) → v ≡ k → segment ≡ name_of k k.first → o ≡ oldest_but segment passed v.entries → oldest_but (name_of k k.first) passed k.entries ≡ o
told_but v k passed segment o same named told = (λ i. oldest_but (sym named i) passed (sym same i).entries) ∙ sym told

pub returns-in-Some-oldest_but-clause-tells : goal.returns-in-Some-oldest_but-clause-tells
returns-in-Some-oldest_but-clause-tells g c =
    let k = c.args.self.now in
    let some : 0 < k.stored = omega (arith, c.if-self-eq0.false, ap (λ (v : LogState). v.stored) c.self.view_is) in
    let log = subst IsLog c.self.view_is c.self.invariant.0 in
    let first = ap (λ (v : LogState). v.first) c.self.view_is in
    let last = some_last _ k c.oldest.result c.in-Some.entry c.self.view_is c.oldest.ensures c.in-Some.is log (sym c.number_of.ensures ∙ c.if-number_of-self.false ∙ first) in
    let told = told_but _ k c.args.passed.now c.in-Some.entry.place.segment c.oldest_but.result c.self.view_is last.0 c.oldest_but.ensures in
    (some, found_first k c.args.passed.now c.in-Some-oldest_but.first log (told ∙ c.in-Some-oldest_but.is))

pub returns-in-Some-oldest_but-clause-first : goal.returns-in-Some-oldest_but-clause-first
returns-in-Some-oldest_but-clause-first g c =
    let k = c.args.self.now in
    let some : 0 < k.stored = omega (arith, c.if-self-eq0.false, ap (λ (v : LogState). v.stored) c.self.view_is) in
    let log = subst IsLog c.self.view_is c.self.invariant.0 in
    let first = ap (λ (v : LogState). v.first) c.self.view_is in
    let last = some_last _ k c.oldest.result c.in-Some.entry c.self.view_is c.oldest.ensures c.in-Some.is log (sym c.number_of.ensures ∙ c.if-number_of-self.false ∙ first) in
    let told = told_but _ k c.args.passed.now c.in-Some.entry.place.segment c.oldest_but.result c.self.view_is last.0 c.oldest_but.ensures in
    found_next k c.args.passed.now c.in-Some-oldest_but.first log some (told ∙ c.in-Some-oldest_but.is)

pub returns-in-None-clause-tells : goal.returns-in-None-clause-tells
returns-in-None-clause-tells g c =
    let k = c.args.self.now in
    let log = subst IsLog c.self.view_is c.self.invariant.0 in
    let first = ap (λ (v : LogState). v.first) c.self.view_is in
    let last = some_last _ k c.oldest.result c.in-Some.entry c.self.view_is c.oldest.ensures c.in-Some.is log (sym c.number_of.ensures ∙ c.if-number_of-self.false ∙ first) in
    let told = told_but _ k c.args.passed.now c.in-Some.entry.place.segment c.oldest_but.result c.self.view_is last.0 c.oldest_but.ensures in
    record {
      stored = omega (arith, c.if-self-eq0.false, ap (λ (v : LogState). v.stored) c.self.view_is);
      some = last.1;
      no_other = none_other k c.args.passed.now log (told ∙ c.in-None.is);
    }
