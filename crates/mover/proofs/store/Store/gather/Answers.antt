use Rattle.mover.specs.Flight.{Flight, most_flights, is_any, sets_in_flight}
use Rattle.std.proofs.Common.{◌≡◌, ◌<◌, List, length, false, rules, refl, sym, ap, subst, ◌+◌, ◌∙◌}
use Rattle.record_pages.specs.declared.layout.Layout.{Layout}
use Rattle.mover.specs.declared.moving.Moving.{Moving}
use Rattle.mover.specs.Store.{StoreState, most_moves}
use Rattle.mover.specs.Lane.{lane_of}
use Rattle.mover.specs.Begin.{LaneTakes, LaneReads}
use Rattle.mover.specs.Leaving.{TakingLeaves, ReadingLeaves}
use Rattle.mover.proofs.Gathering.{gathered_few, gathered_placed}
use Rattle.mover.proofs.public_laws.Beginning.{all_again, flown_after}
use Rattle.mover.proofs.store.Store.gather.Goals as goal

pub fly-requires : goal.fly-requires
fly-requires g c =
    let held = g.D.PageDevice.held in
    let moving : Moving = record { number = c.fly.inside.moves + 1; set = c.args.set; visible = c.in-Records-2.visible; taken = c.in-Records.taken } in
    let takes = subst (λ t. TakingLeaves c.args.set c.args.self.now t c.take_set.new.self) c.in-Records.is c.in_ok-taken.ensures.leaves in
    let reads = subst (λ r. ReadingLeaves c.args.set c.take_set.new.self r c.read_set.new.self) c.in-Records-2.is c.in_ok-visible.ensures.leaves in
    let all = all_again c.args.self.now c.take_set.new.self c.read_set.new.self takes.1 reads.1 in
    let moves = ap (λ (x : StoreState g.row.D.Denot). x.moves) all in
    let flights = ap (λ (x : StoreState g.row.D.Denot). x.flights) all in
    let layout = ap (λ (x : StoreState g.row.D.Denot). x.layout) all in (
      search rules,
      (
        subst (λ (fs : List Flight). length fs < most_flights) (sym flights) c.requires.free,
        (
          subst (λ (fs : List Flight). is_any c.args.set (sets_in_flight fs) ≡ false) (sym flights) c.requires.apart,
          (
            subst (λ (l : Layout). c.args.set < l.sets) (sym layout) c.requires.set,
            (
              ap (λ (x : StoreState g.row.D.Denot). x.moves + 1) c.fly.view_is,
              (
                subst (λ n. n < most_moves) (sym moves) c.requires.number,
                (
                  gathered_few moving takes.0 reads.0,
                  λ is.
                      let between = sym c.in_ok-visible.ensures.writes.honesty ∙ is in
                      let was = sym c.in_ok-taken.ensures.writes.honesty ∙ between in
                      let placed = (c.layout-layout.ensures.order was).placed in
                      gathered_placed (lane_of held c.args.self.now) (lane_of held c.take_set.new.self) (lane_of held c.read_set.new.self) c.args.set moving
                      (subst (λ t. LaneTakes c.args.set (lane_of held c.args.self.now) t (lane_of held c.take_set.new.self)) c.in-Records.is (c.in_ok-taken.ensures.gives was))
                      (subst (λ r. LaneReads c.args.set (lane_of held c.take_set.new.self) r (lane_of held c.read_set.new.self)) c.in-Records-2.is (c.in_ok-visible.ensures.gives between))
                      refl placed.log placed.sets,
                ),
              ),
            ),
          ),
        ),
      ),
    )

pub returns-clause-leaves : goal.returns-clause-leaves
returns-clause-leaves g c =
    let moving : Moving = record { number = c.fly.inside.moves + 1; set = c.args.set; visible = c.in-Records-2.visible; taken = c.in-Records.taken } in
    let takes = subst (λ t. TakingLeaves c.args.set c.args.self.now t c.take_set.new.self) c.in-Records.is c.in_ok-taken.ensures.leaves in
    let reads = subst (λ r. ReadingLeaves c.args.set c.take_set.new.self r c.read_set.new.self) c.in-Records-2.is c.in_ok-visible.ensures.leaves in
    let all = all_again c.args.self.now c.take_set.new.self c.read_set.new.self takes.1 reads.1 in
    flown_after g.row.PAGE c.args.set c.args.self.now c.read_set.new.self c.fly-2.new.self moving c.in_ok-job.job all refl (ap (λ (x : StoreState g.row.D.Denot). x.moves + 1) c.fly.view_is) c.in_ok-job.ensures.job c.in_ok-job.ensures.flies
