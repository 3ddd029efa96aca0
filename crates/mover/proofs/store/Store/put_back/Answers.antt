use Rattle.std.proofs.Common.{refl, sym, ◌∙◌, subst}
use Rattle.std.proofs.lemmas.Bool.{false≢true}
use Rattle.mover.specs.declared.copy_fate.CopyFate.{CopyFate}
use Rattle.mover.specs.Lane.{lane_of}
use Rattle.mover.specs.Put.{IsStep}
use Rattle.mover.specs.PutBack.{put_back_step}
use Rattle.mover.proofs.PuttingBack.{large_told, entered_told}
use Rattle.mover.proofs.store.Store.put_back.Goals as goal

pub returns-then-is_too_large : goal.returns-then-is_too_large
returns-then-is_too_large g c = record {
  layout = refl;
  device = refl;
  gives = large_told g.row.PAGE c.args.pair.now (lane_of g.D.PageDevice.held c.args.self.now) c.place-placed.result c.place-placed.ensures.at (sym c.may_show.ensures ∙ c.if-may_show.false) (c.is_too_large.ensures.0 c.if-is_too_large.true);
}

pub returns : goal.returns
returns g c =
    let lane = lane_of g.D.PageDevice.held c.args.self.now in
    let new = lane_of g.D.PageDevice.held c.append-pushed.new.self in
    record {
      layout = c.append-pushed.ensures.layout;
      device = c.append-pushed.ensures.device;
      gives = subst (λ (fate : CopyFate). IsStep (put_back_step g.row.PAGE c.args.pair.now lane) fate new) (sym c.fate_of.ensures)
          (entered_told g.row.PAGE c.args.pair.now lane c.place-placed.result c.place-placed.ensures.at (sym c.may_show.ensures ∙ c.if-may_show.false)
          (λ large. false≢true (sym c.if-is_too_large.false ∙ c.is_too_large.ensures.1 large)) c.append-pushed.result new c.append-pushed.ensures.gives);
    }
