use Rattle.std.proofs.Common.{◌≡◌, ℕ, ◌<◌, ◌≤◌, Bool, refl, sym, ap, subst, ◌∙◌, arith}
use Rattle.std.specs.Prelude.{IsTrue}
use Rattle.std.proofs.lemmas.List.Elements.{All-nil}
use Rattle.klog_index.specs.Entries.{of_tag}
use Rattle.klog.specs.Names.{HasRoom}
use Rattle.klog.specs.Known.{is_buffered}
use Rattle.klog.specs.Find.{with_tag}
use Rattle.klog.proofs.CallLaws.{reads_on, unbuffered}
use Rattle.klog.proofs.KnownLaws.{held_still}
use Rattle.klog.specs.Keeps.{IsLog}
use Rattle.klog.proofs.OrderLaws.{newer_buffered}
use Rattle.klog.proofs.LookLaws.{turn_at, turn_rest, turn_listed, turn_its, turn_buffered, turn_before, turn_first, turn_reached, turn_other, turns_over, got, got_none, all_left, all_seen}
use Rattle.klog.proofs.LocateLaws.{locates}
use Rattle.klog.proofs.log.KLog.locate.Goals as goal

-- the size of an entry's own memory is one that a reference has
fits : 192 < 9223372036854775808
fits = omega arith

pub ask-requires : goal.ask-requires
ask-requires g c =
    let k = c.args.self.now in
    let room : HasRoom (g.D.PageDevice.page_count c.loop.device) k = subst (λ (count : ℕ). HasRoom count k) (sym c.loop.invariant.pages) c.requires.room in
    let at = turn_at k c.args.placed.now.set c.args.placed.now.tag c.loop.counter c.in-Some.entry (with_tag c.args.placed.now.tag c.loop.entries) (with_tag c.args.placed.now.tag c.next_with_tag.new.entries) c.loop.invariant.rest c.in-Some.ensures in
    (fits, (c.requires.page_size, (room, (turn_listed k c.args.placed.now.set c.args.placed.now.tag c.loop.counter c.in-Some.entry at, turn_its k c.args.key.now c.args.placed.now c.loop.counter c.in-Some.entry c.requires.place at))))

pub returns-in_default : goal.returns-in_default
returns-in_default g c =
    let k = c.args.self.now in
    locates {device' = c.loop.device} {buffer = c.loop.found} c.requires.place (record { pages = c.loop.invariant.pages; honest = c.loop.invariant.honest; faults = c.loop.invariant.failures; same = c.loop.invariant.same }) tt c.loop.invariant.stays
    (λ all. c.loop.invariant.buffered (turn_before k c.args.placed.now.set c.args.placed.now.tag c.loop.counter all))
    (λ known knows.
    turns_over g.row.PAGE known k c.args.placed.now.set c.args.placed.now.tag c.args.key.now c.loop.counter
    (got_none k c.args.placed.now.set c.args.placed.now.tag c.loop.counter _ c.loop.invariant.rest c.in_default.ensures.0)
    (c.loop.invariant.newer known knows))

pub returns-in-Hit : goal.returns-in-Hit
returns-in-Hit g c =
    let k = c.args.self.now in
    let at = turn_at k c.args.placed.now.set c.args.placed.now.tag c.loop.counter c.in-Some.entry (with_tag c.args.placed.now.tag c.loop.entries) (with_tag c.args.placed.now.tag c.next_with_tag.new.entries) c.loop.invariant.rest c.in-Some.ensures in
    let is : IsLog k = subst IsLog c.self.view_is c.self.invariant.0 in
    let uncalled : IsTrue (is_buffered k c.in-Some.entry) → c.ask.new.device ≡ c.args.device.now = λ here. c.ask.ensures.buffered here ∙ c.loop.invariant.buffered (newer_buffered k c.args.placed.now.set c.args.placed.now.tag c.loop.counter c.in-Some.entry is at here) in
    locates {device' = c.ask.new.device} {buffer = c.ask.new.found} c.requires.place (reads_on c.in-Hit.ensures.reads (record { pages = c.loop.invariant.pages; honest = c.loop.invariant.honest; faults = c.loop.invariant.failures; same = c.loop.invariant.same })) (got (of_tag c.args.placed.now.set c.args.placed.now.tag k.entries) c.loop.counter c.in-Some.entry at, uncalled) tt
    (λ all. c.ask.ensures.buffered (turn_buffered k c.args.placed.now.set c.args.placed.now.tag c.loop.counter c.in-Some.entry at all) ∙ c.loop.invariant.buffered (turn_before k c.args.placed.now.set c.args.placed.now.tag c.loop.counter all))
    (λ known knows.
    let on = held_still g.D.PageDevice.honest g.D.PageDevice.held c.args.device.now c.loop.device known c.loop.invariant.honest c.loop.invariant.same knows in (
      turn_reached g.row.PAGE known k c.args.placed.now.set c.args.placed.now.tag c.args.key.now c.loop.counter c.in-Some.entry at (c.loop.invariant.newer known knows),
      c.in-Hit.ensures.tells known on,
    ))

pub returns-in-Expired : goal.returns-in-Expired
returns-in-Expired g c =
    let k = c.args.self.now in
    let at = turn_at k c.args.placed.now.set c.args.placed.now.tag c.loop.counter c.in-Some.entry (with_tag c.args.placed.now.tag c.loop.entries) (with_tag c.args.placed.now.tag c.next_with_tag.new.entries) c.loop.invariant.rest c.in-Some.ensures in
    let is : IsLog k = subst IsLog c.self.view_is c.self.invariant.0 in
    locates {device' = c.ask.new.device} {buffer = c.ask.new.found} c.requires.place (reads_on c.in-Expired.ensures.reads (record { pages = c.loop.invariant.pages; honest = c.loop.invariant.honest; faults = c.loop.invariant.failures; same = c.loop.invariant.same })) tt (c.in-Expired.ensures.stays ∙ c.loop.invariant.stays)
    (λ all. c.ask.ensures.buffered (turn_buffered k c.args.placed.now.set c.args.placed.now.tag c.loop.counter c.in-Some.entry at all) ∙ c.loop.invariant.buffered (turn_before k c.args.placed.now.set c.args.placed.now.tag c.loop.counter all))
    (λ known knows.
    let on = held_still g.D.PageDevice.honest g.D.PageDevice.held c.args.device.now c.loop.device known c.loop.invariant.honest c.loop.invariant.same knows in
    record {
      entry = c.in-Some.entry;
      reached = turn_reached g.row.PAGE known k c.args.placed.now.set c.args.placed.now.tag c.args.key.now c.loop.counter c.in-Some.entry at (c.loop.invariant.newer known knows);
      stays = refl;
      shows = c.in-Expired.ensures.tells known on;
      uncalled = λ here. c.ask.ensures.buffered here ∙ c.loop.invariant.buffered (newer_buffered k c.args.placed.now.set c.args.placed.now.tag c.loop.counter c.in-Some.entry is at here);
    })

pub returns-in-Fault : goal.returns-in-Fault
returns-in-Fault g c =
    let k = c.args.self.now in
    let at = turn_at k c.args.placed.now.set c.args.placed.now.tag c.loop.counter c.in-Some.entry (with_tag c.args.placed.now.tag c.loop.entries) (with_tag c.args.placed.now.tag c.next_with_tag.new.entries) c.loop.invariant.rest c.in-Some.ensures in
    let failed = c.in-Fault.ensures.reads.faults in
    locates {device' = c.ask.new.device} {buffer = c.ask.new.found} c.requires.place (reads_on c.in-Fault.ensures.reads (record { pages = c.loop.invariant.pages; honest = c.loop.invariant.honest; faults = c.loop.invariant.failures; same = c.loop.invariant.same })) tt (c.in-Fault.ensures.stays ∙ c.loop.invariant.stays)
    (λ all. c.ask.ensures.buffered (turn_buffered k c.args.placed.now.set c.args.placed.now.tag c.loop.counter c.in-Some.entry at all) ∙ c.loop.invariant.buffered (turn_before k c.args.placed.now.set c.args.placed.now.tag c.loop.counter all))
    (λ known knows. record {
      entry = c.in-Some.entry;
      reached = turn_reached g.row.PAGE known k c.args.placed.now.set c.args.placed.now.tag c.args.key.now c.loop.counter c.in-Some.entry at (c.loop.invariant.newer known knows);
      stored = unbuffered (is_buffered k c.in-Some.entry) (g.D.PageDevice.failures c.loop.device) (g.D.PageDevice.failures c.ask.new.device) (λ b. ap g.D.PageDevice.failures (c.ask.ensures.buffered b)) failed;
    })

pub returns-in-Damaged : goal.returns-in-Damaged
returns-in-Damaged g c =
    let k = c.args.self.now in
    let at = turn_at k c.args.placed.now.set c.args.placed.now.tag c.loop.counter c.in-Some.entry (with_tag c.args.placed.now.tag c.loop.entries) (with_tag c.args.placed.now.tag c.next_with_tag.new.entries) c.loop.invariant.rest c.in-Some.ensures in
    locates {device' = c.ask.new.device} {buffer = c.ask.new.found} c.requires.place (reads_on c.in-Damaged.ensures.reads (record { pages = c.loop.invariant.pages; honest = c.loop.invariant.honest; faults = c.loop.invariant.failures; same = c.loop.invariant.same })) tt (c.in-Damaged.ensures.stays ∙ c.loop.invariant.stays)
    (λ all. c.ask.ensures.buffered (turn_buffered k c.args.placed.now.set c.args.placed.now.tag c.loop.counter c.in-Some.entry at all) ∙ c.loop.invariant.buffered (turn_before k c.args.placed.now.set c.args.placed.now.tag c.loop.counter all))
    (λ known knows.
    let on = held_still g.D.PageDevice.honest g.D.PageDevice.held c.args.device.now c.loop.device known c.loop.invariant.honest c.loop.invariant.same knows in
    record {
      entry = c.in-Some.entry;
      reached = turn_reached g.row.PAGE known k c.args.placed.now.set c.args.placed.now.tag c.args.key.now c.loop.counter c.in-Some.entry at (c.loop.invariant.newer known knows);
      dead = c.in-Damaged.ensures.tells known on;
    })

pub loop-preserved : goal.loop-preserved
loop-preserved g c =
    let k = c.args.self.now in
    let at = turn_at k c.args.placed.now.set c.args.placed.now.tag c.loop.counter c.in-Some.entry (with_tag c.args.placed.now.tag c.loop.entries) (with_tag c.args.placed.now.tag c.next_with_tag.new.entries) c.loop.invariant.rest c.in-Some.ensures in
    record {
      pages = c.in-Other.ensures.reads.pages ∙ c.loop.invariant.pages;
      honest = c.in-Other.ensures.reads.honest ∙ c.loop.invariant.honest;
      failures = c.in-Other.ensures.reads.faults ∙ c.loop.invariant.failures;
      stays = c.in-Other.ensures.stays ∙ c.loop.invariant.stays;
      same = λ honest. c.ask.ensures.reads.same (subst (λ (b : Bool). IsTrue b) (sym c.loop.invariant.honest) honest) ∙ c.loop.invariant.same honest;
      buffered = λ all.
          let both = turn_first (λ e. IsTrue (is_buffered k e)) k c.args.placed.now.set c.args.placed.now.tag c.loop.counter c.in-Some.entry at all in
          c.ask.ensures.buffered both.1 ∙ c.loop.invariant.buffered both.0;
      rest = turn_rest k c.args.placed.now.set c.args.placed.now.tag c.loop.counter c.in-Some.entry (with_tag c.args.placed.now.tag c.loop.entries) (with_tag c.args.placed.now.tag c.next_with_tag.new.entries) c.loop.invariant.rest c.in-Some.ensures;
      newer = λ known knows.
          let on = held_still g.D.PageDevice.honest g.D.PageDevice.held c.args.device.now c.loop.device known c.loop.invariant.honest c.loop.invariant.same knows in
          turn_other g.row.PAGE known k c.args.placed.now.set c.args.placed.now.tag c.args.key.now c.loop.counter c.in-Some.entry at (c.loop.invariant.newer known knows)
          (c.in-Other.ensures.tells known on);
    }

pub returns : goal.returns
returns g c =
    let k = c.args.self.now in
    locates {device' = c.loop.device} {buffer = c.loop.found} c.requires.place (record { pages = c.loop.invariant.pages; honest = c.loop.invariant.honest; faults = c.loop.invariant.failures; same = c.loop.invariant.same }) tt c.loop.invariant.stays
    (λ all. c.loop.invariant.buffered (turn_before k c.args.placed.now.set c.args.placed.now.tag c.loop.counter all))
    (λ known knows.
    turns_over g.row.PAGE known k c.args.placed.now.set c.args.placed.now.tag c.args.key.now c.loop.counter
    (all_seen _ k c.args.placed.now.set c.args.placed.now.tag c.loop.counter c.self.view_is (subst (λ (n : ℕ). n ≤ c.loop.counter) c.len-end.ensures.len c.loop-test.false))
    (c.loop.invariant.newer known knows))

pub loop-init : goal.loop-init
loop-init g c =
    let k = c.args.self.now in
    record {
      pages = refl;
      honest = refl;
      failures = refl;
      stays = refl;
      same = λ honest. refl;
      buffered = λ all. refl;
      rest = all_left _ k c.args.placed.now.set c.args.placed.now.tag c.entries_of-entries.result c.self.view_is c.entries_of-entries.ensures;
      newer = λ known knows. All-nil _;
    }
