use Rattle.std.proofs.Common.{◌≡◌, ◌<◌, ◌≤◌, refl, sym, ap, subst, ◌∙◌}
use Rattle.mover.specs.Store.{StoreState, most_moves}
use Rattle.mover.specs.Lane.{lane_of}
use Rattle.klog.specs.declared.oldest.Oldest.TheVariants as oldest
use Rattle.klog.specs.Moves.{freed}
use Rattle.mover.specs.declared.begin.Begin.TheVariants as begin
use Rattle.mover.proofs.Begun.{may_begin, stepped, oldest_leaves, oldest_begins, none_leaves, none_begins, stays_unwritten, log_unwritten}
use Rattle.mover.proofs.Ending.{first_begins, first_leaves}
use Rattle.mover.proofs.store.Store.begin_oldest.Goals as goal

pub returns-then-self-eq-MAX_MOVES-clause-leaves : goal.returns-then-self-eq-MAX_MOVES-clause-leaves
returns-then-self-eq-MAX_MOVES-clause-leaves g c =
    let old = c.args.self.now in
    let all : old.moves ≡ most_moves = sym (ap (λ (x : StoreState g.row.D.Denot). x.moves) c.self.view_is) ∙ c.if-self-eq-MAX_MOVES.true in
    none_leaves g.row.PAGE old c.requires all

pub returns-then-self-eq-MAX_MOVES-clause-gives : goal.returns-then-self-eq-MAX_MOVES-clause-gives
returns-then-self-eq-MAX_MOVES-clause-gives g c = λ is.
    let old = c.args.self.now in
    let all : old.moves ≡ most_moves = sym (ap (λ (x : StoreState g.row.D.Denot). x.moves) c.self.view_is) ∙ c.if-self-eq-MAX_MOVES.true in
    none_begins g.row.PAGE old.layout.threshold (lane_of g.D.PageDevice.held old) c.requires all

pub returns-in-NoSegment-clause-writes : goal.returns-in-NoSegment-clause-writes
returns-in-NoSegment-clause-writes g c = stays_unwritten g.D.PageDevice.honest g.D.PageDevice.held c.args.self.now

pub returns-in-NoSegment-clause-faults : goal.returns-in-NoSegment-clause-faults
returns-in-NoSegment-clause-faults g c = λ is. refl

pub returns-in-NoSegment-clause-leaves : goal.returns-in-NoSegment-clause-leaves
returns-in-NoSegment-clause-leaves g c =
    let old = c.args.self.now in
    let room : old.moves < most_moves = may_begin c.self.inside.moves c.args.self.now.moves most_moves (ap (λ (x : StoreState g.row.D.Denot). x.moves) c.self.view_is) c.if-self-eq-MAX_MOVES.false (subst (λ (x : StoreState g.row.D.Denot). x.moves ≤ most_moves) c.self.view_is c.self.invariant.numbered) in
    oldest_leaves g.row.PAGE old old oldest.NoSegment begin.Nothing c.requires room c.in-NoSegment.ensures.is (refl, refl)

pub returns-in-NoSegment-clause-gives : goal.returns-in-NoSegment-clause-gives
returns-in-NoSegment-clause-gives g c = λ is.
    let old = c.args.self.now in
    let room : old.moves < most_moves = may_begin c.self.inside.moves c.args.self.now.moves most_moves (ap (λ (x : StoreState g.row.D.Denot). x.moves) c.self.view_is) c.if-self-eq-MAX_MOVES.false (subst (λ (x : StoreState g.row.D.Denot). x.moves ≤ most_moves) c.self.view_is c.self.invariant.numbered) in
    let held = g.D.PageDevice.held in
    stepped g.row.PAGE old.layout.threshold (lane_of held old) (lane_of held old) oldest.NoSegment begin.Nothing (oldest_begins g.row.PAGE old.layout.threshold (lane_of held old) oldest.NoSegment c.requires room c.in-NoSegment.ensures.is) (refl, refl)

pub returns-in-Empty-clause-writes : goal.returns-in-Empty-clause-writes
returns-in-Empty-clause-writes g c = log_unwritten g.D.PageDevice.honest g.D.PageDevice.held c.args.self.now c.free_oldest.new.self (freed c.args.self.now.log) c.free_oldest.ensures.leaves

pub returns-in-Empty-clause-faults : goal.returns-in-Empty-clause-faults
returns-in-Empty-clause-faults g c = λ is. ap (λ (x : StoreState g.row.D.Denot). g.D.PageDevice.failures x.device) c.free_oldest.ensures.leaves

pub returns-in-Empty-clause-leaves : goal.returns-in-Empty-clause-leaves
returns-in-Empty-clause-leaves g c =
    let old = c.args.self.now in
    let room : old.moves < most_moves = may_begin c.self.inside.moves c.args.self.now.moves most_moves (ap (λ (x : StoreState g.row.D.Denot). x.moves) c.self.view_is) c.if-self-eq-MAX_MOVES.false (subst (λ (x : StoreState g.row.D.Denot). x.moves ≤ most_moves) c.self.view_is c.self.invariant.numbered) in
    oldest_leaves g.row.PAGE old c.free_oldest.new.self oldest.Empty begin.Freed c.requires room c.in-Empty.ensures.is (refl, c.free_oldest.ensures.leaves)

pub returns-in-Empty-clause-gives : goal.returns-in-Empty-clause-gives
returns-in-Empty-clause-gives g c = λ is.
    let old = c.args.self.now in
    let room : old.moves < most_moves = may_begin c.self.inside.moves c.args.self.now.moves most_moves (ap (λ (x : StoreState g.row.D.Denot). x.moves) c.self.view_is) c.if-self-eq-MAX_MOVES.false (subst (λ (x : StoreState g.row.D.Denot). x.moves ≤ most_moves) c.self.view_is c.self.invariant.numbered) in
    let held = g.D.PageDevice.held in
    stepped g.row.PAGE old.layout.threshold (lane_of held old) (lane_of held c.free_oldest.new.self) oldest.Empty begin.Freed (oldest_begins g.row.PAGE old.layout.threshold (lane_of held old) oldest.Empty c.requires room c.in-Empty.ensures.is) (refl, c.free_oldest.ensures.freed)

pub returns-in-Passed-clause-writes : goal.returns-in-Passed-clause-writes
returns-in-Passed-clause-writes g c = stays_unwritten g.D.PageDevice.honest g.D.PageDevice.held c.args.self.now

pub returns-in-Passed-clause-faults : goal.returns-in-Passed-clause-faults
returns-in-Passed-clause-faults g c = λ is. refl

pub returns-in-Passed-clause-leaves : goal.returns-in-Passed-clause-leaves
returns-in-Passed-clause-leaves g c =
    let old = c.args.self.now in
    let room : old.moves < most_moves = may_begin c.self.inside.moves c.args.self.now.moves most_moves (ap (λ (x : StoreState g.row.D.Denot). x.moves) c.self.view_is) c.if-self-eq-MAX_MOVES.false (subst (λ (x : StoreState g.row.D.Denot). x.moves ≤ most_moves) c.self.view_is c.self.invariant.numbered) in
    oldest_leaves g.row.PAGE old old oldest.Passed begin.Busy c.requires room c.in-Passed.ensures.is (refl, refl)

pub returns-in-Passed-clause-gives : goal.returns-in-Passed-clause-gives
returns-in-Passed-clause-gives g c = λ is.
    let old = c.args.self.now in
    let room : old.moves < most_moves = may_begin c.self.inside.moves c.args.self.now.moves most_moves (ap (λ (x : StoreState g.row.D.Denot). x.moves) c.self.view_is) c.if-self-eq-MAX_MOVES.false (subst (λ (x : StoreState g.row.D.Denot). x.moves ≤ most_moves) c.self.view_is c.self.invariant.numbered) in
    let held = g.D.PageDevice.held in
    stepped g.row.PAGE old.layout.threshold (lane_of held old) (lane_of held old) oldest.Passed begin.Busy (oldest_begins g.row.PAGE old.layout.threshold (lane_of held old) oldest.Passed c.requires room c.in-Passed.ensures.is) (refl, refl)

pub returns-in_ok-begun-in-First-clause-gives : goal.returns-in_ok-begun-in-First-clause-gives
returns-in_ok-begun-in-First-clause-gives g c = λ is.
    let held = g.D.PageDevice.held in
    let room : c.args.self.now.moves < most_moves = may_begin c.self.inside.moves c.args.self.now.moves most_moves (ap (λ (x : StoreState g.row.D.Denot). x.moves) c.self.view_is) c.if-self-eq-MAX_MOVES.false (subst (λ (x : StoreState g.row.D.Denot). x.moves ≤ most_moves) c.self.view_is c.self.invariant.numbered) in
    first_begins g.row.PAGE c.args.self.now.layout.threshold (lane_of held c.args.self.now) (lane_of held c.begin_with.new.self) c.in-First.entry c.in_ok-begun-in-First.begun c.requires room c.in-First.ensures.is (c.in_ok-begun-in-First.ensures.gives is)

pub returns-in_ok-begun-in-First-clause-leaves : goal.returns-in_ok-begun-in-First-clause-leaves
returns-in_ok-begun-in-First-clause-leaves g c =
    let room : c.args.self.now.moves < most_moves = may_begin c.self.inside.moves c.args.self.now.moves most_moves (ap (λ (x : StoreState g.row.D.Denot). x.moves) c.self.view_is) c.if-self-eq-MAX_MOVES.false (subst (λ (x : StoreState g.row.D.Denot). x.moves ≤ most_moves) c.self.view_is c.self.invariant.numbered) in
    first_leaves g.row.PAGE c.args.self.now c.begin_with.new.self c.in-First.entry c.in_ok-begun-in-First.begun c.requires room c.in-First.ensures.is c.in_ok-begun-in-First.ensures.leaves
