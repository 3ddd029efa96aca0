use Rattle.std.proofs.Common.{◌-◌, List, length, take, drop, Some, sym, ap, subst, ◌∙◌}
use Rattle.std.specs.Prelude.{is_some}
use Rattle.record_pages.specs.Recs.{Rec}
use Rattle.record_pages.specs.Lent.{record_shown}
use Rattle.record_pages.specs.Making.{HoldsRecords}
use Rattle.record_pages.proofs.FrontLaws.{some_is}
use Rattle.record_pages.proofs.MakingLaws.{Stands, stands}
use Rattle.record_pages.proofs.page_body.PageBody.there.Goals as goal

read : (g : _) (c : goal.After-record_there-arg-1 g) → Stands c.args.self.now c.args.slot (take (length c.self.inside.bytes - c.args.start) (drop c.args.start c.self.inside.bytes))
read g c =
    let b = c.self.inside in
    stands g.row.PAGE b.bytes b.used b.count c.args.self.now c.args.slot c.args.start (subst (HoldsRecords g.row.PAGE b.bytes b.used b.count) c.self.view_is c.self.invariant) c.requires.place c.requires.start

pub record_there-requires : goal.record_there-requires
record_there-requires g c = ap is_some (read g c).read

pub returns-clause-value : goal.returns-clause-value
returns-clause-value g c =
    let b = c.self.inside in
    let s = stands g.row.PAGE b.bytes b.used b.count c.args.self.now c.args.slot c.args.start (subst (HoldsRecords g.row.PAGE b.bytes b.used b.count) c.self.view_is c.self.invariant) c.requires.place c.requires.start in
    let same = some_is (s.r, s.rest) (record_shown c.record_there.result.0, c.record_there.result.1.now) (sym s.read ∙ c.record_there.ensures.value) in
    s.at ∙ ap (λ (x : Rec × List _). Some x.0) same
