-- A device that was found large enough has room for the configuration's pages.
use Rattle.std.proofs.Common.{◌≡◌, ℕ, ◌+◌, ◌*◌, ◌≤◌, refl, arith}
use Rattle.record_pages.specs.Asked.{HasNumbersOf, layout_pages}
use Rattle.record_pages.specs.declared.config.Config.{Config}
use Rattle.record_pages.specs.declared.layout.Layout.{Layout}
use Rattle.mover.specs.Store.{IsTooSmall}
use Rattle.mover.proofs.store.Store.layout_for.Goals as goal

large_enough : (l : Layout) (c : Config) (count : ℕ) → HasNumbersOf l c → layout_pages l ≤ count → IsTooSmall c count → ⊥
large_enough l c count has enough small =
    let same : layout_pages l ≡ c.sets + c.segments * c.segment_pages = rw has.sets (rw has.segments (rw has.segment_pages refl)) in
    omega (arith, same, enough, small)

pub returns-clause-serves : goal.returns-clause-serves
returns-clause-serves g c = record {
  numbers = c.in_ok-layout.ensures.0;
  page_size = (omega (arith, c.if-this-lt256.false), omega (arith, c.if-this-gt4096.false));
  large = large_enough c.in_ok-layout.layout c.args.config.now (g.D.PageDevice.page_count c.args.device.now) c.in_ok-layout.ensures.1 (omega (arith, c.if-pages.false, c.pages.ensures, c.pages-2.ensures.pages));
}
