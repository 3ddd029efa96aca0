use Rattle.std.proofs.Common.{◌+◌, ◌∷◌, ◌++◌, []}
use Rattle.record_pages.specs.Lent.{record_shown}
use Rattle.record_pages.specs.Making.{HoldsRecords}
use Rattle.record_pages.proofs.MakingLaws.{in_the_making, holds_push, shows}
use Rattle.record_pages.proofs.page_body.PageBody.push.Goals as goal

holds : (g : _) (c : goal.After-self-3-1 g) → HoldsRecords g.row.PAGE c.put_record-self-inside.new.into c.put_record-self-inside.result (c.self.inside.count + 1) (c.args.self.now ++ record_shown c.args.added ∷ [])
holds g c =
    let b = c.self.inside in
    let put = c.put_record-self-inside in
    holds_push g.row.PAGE b.bytes b.used b.count c.args.self.now (record_shown c.args.added) put.new.into put.result c.self.invariant c.self.view_is c.requires.lawful c.requires.fits put.ensures.text put.ensures.end

pub invariant_of-self : goal.invariant_of-self
invariant_of-self g c = in_the_making g.row.PAGE c.put_record-self-inside.new.into c.put_record-self-inside.result (c.self.inside.count + 1) _ (holds g c)

pub returns : goal.returns
returns g c = shows g.row.PAGE c.put_record-self-inside.new.into c.put_record-self-inside.result (c.self.inside.count + 1) _ (holds g c)
