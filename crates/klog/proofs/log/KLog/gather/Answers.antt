use Rattle.std.proofs.Common.{◌≡◌, ℕ, ◌+◌, List, length, take, Bool, refl, sym, ap, subst, ◌∙◌, false, arith}
use Rattle.std.specs.Prelude.{IsTrue, Some, Result, Ok, Err}
use Rattle.std.specs.declared.alloc.AllocError.{AllocError}
use Rattle.std.proofs.lemmas.List.{length_push}
use Rattle.std.proofs.lemmas.Result.{err_from_is_err_and}
use Rattle.klog_index.specs.declared.entry.Entry.{Entry}
use Rattle.klog_index.specs.Entries.{of_set}
use Rattle.klog.specs.declared.gathered.Gathered.{Gathered}
use Rattle.klog.specs.declared.taken_record.TakenRecord.{TakenRecord}
use Rattle.page_device.specs.Lending.{ReadsOrStops}
use Rattle.klog.specs.Names.{HasRoom}
use Rattle.klog.specs.Shown.{live_on}
use Rattle.klog.specs.Moves.{taken_as, AreCopies}
use Rattle.klog.specs.Take.{IsToBeTaken, Gathers, GathersAt}
use Rattle.klog.specs.Known.{is_buffered}
use Rattle.klog.proofs.CallLaws.{stops_on, unbuffered}
use Rattle.klog.proofs.KnownLaws.{shows_weaker}
use Rattle.klog.proofs.TakeLaws.{reads_had, reads_lost, reads_wanted, wanted_if_ok, faults_wanted, turn_at, turn_rest, turn_listed, turn_live, turn_taken, turn_buffered, turn_copies, turn_fails, turn_more, taken_of_copies, taken_all}
use Rattle.klog.proofs.log.KLog.gather.Goals as goal

pub returns-in_default-clause-reads : goal.returns-in_default-clause-reads
returns-in_default-clause-reads g c = record { pages = c.loop.invariant.pages; honest = c.loop.invariant.honest; may_fail = c.loop.invariant.failures; same = c.loop.invariant.same }

pub returns-in_default-clause-buffered : goal.returns-in_default-clause-buffered
returns-in_default-clause-buffered g c = c.loop.invariant.buffered

pub returns-in_default-clause-faults : goal.returns-in_default-clause-faults
returns-in_default-clause-faults g c = λ honest spelled. c.loop.invariant.failures

pub returns-in_default-clause-gathers_at : goal.returns-in_default-clause-gathers_at
returns-in_default-clause-gathers_at g c = λ honest.
    let k = c.args.self.now in
    let held = g.D.PageDevice.held c.args.device.now in
    subst (λ (es : List Entry). AreCopies g.row.PAGE held k es c.loop.records)
    (taken_all k c.args.set c.loop.counter c.loop.entries c.loop.invariant.rest c.in_default.ensures.steps.0 (omega (arith, c.loop-test.true)))
    (c.loop.invariant.copies honest)

pub returns-in_default-clause-its : goal.returns-in_default-clause-its
returns-in_default-clause-its g c = omega (arith, c.loop.invariant.count, c.loop-test.true)

pub returns-in_default-clause-gathers : goal.returns-in_default-clause-gathers
returns-in_default-clause-gathers g c = λ honest spelled.
    taken_of_copies g.row.PAGE (g.D.PageDevice.held c.args.device.now) c.args.self.now c.args.set c.loop.records (returns-in_default-clause-gathers_at g c honest) spelled

pub copy-requires : goal.copy-requires
copy-requires g c =
    let k = c.args.self.now in
    let room : HasRoom (g.D.PageDevice.page_count c.loop.device) k = subst (λ (count : ℕ). HasRoom count k) (sym c.loop.invariant.pages) c.requires.room in
    let at = turn_at k c.args.set c.loop.counter c.in-Some.entry c.loop.entries c.next.new.self c.loop.invariant.rest c.in-Some.ensures.steps in
    (omega arith, (omega (arith, c.requires.page_size.1), (c.requires.page_size, (room, turn_listed k c.args.set c.loop.counter c.in-Some.entry at))))

pub returns-in_err-taken-clause-reads : goal.returns-in_err-taken-clause-reads
returns-in_err-taken-clause-reads g c =
    let failed = err_from_is_err_and c.from_residual.result c.from_residual.ensures.1 in
    reads_wanted c.from_residual.result failed.0 failed.1 (stops_on {stopped = false} c.in_err-taken.ensures.reads (record { pages = c.loop.invariant.pages; honest = c.loop.invariant.honest; may_fail = c.loop.invariant.failures; same = c.loop.invariant.same }))

pub returns-in_err-taken-clause-its : goal.returns-in_err-taken-clause-its
returns-in_err-taken-clause-its g c =
    let failed = err_from_is_err_and c.from_residual.result c.from_residual.ensures.1 in
    wanted_if_ok (IsToBeTaken c.args.self.now c.args.set) c.from_residual.result failed.0 failed.1

pub returns-in_err-taken-clause-faults : goal.returns-in_err-taken-clause-faults
returns-in_err-taken-clause-faults g c = λ honest spelled.
    let failed = err_from_is_err_and c.from_residual.result c.from_residual.ensures.1 in
    faults_wanted c.from_residual.result failed.0 failed.1 (stops_on {stopped = false} c.in_err-taken.ensures.reads (record { pages = c.loop.invariant.pages; honest = c.loop.invariant.honest; may_fail = c.loop.invariant.failures; same = c.loop.invariant.same })).may_fail

pub returns-in_err-taken-clause-gathers : goal.returns-in_err-taken-clause-gathers
returns-in_err-taken-clause-gathers g c = λ honest spelled.
    let failed = err_from_is_err_and c.from_residual.result c.from_residual.ensures.1 in
    wanted_if_ok (Gathers c.args.self.now c.args.set (live_on (g.D.PageDevice.held c.args.device.now) c.args.self.now)) c.from_residual.result failed.0 failed.1

pub returns-in_err-taken-clause-buffered : goal.returns-in_err-taken-clause-buffered
returns-in_err-taken-clause-buffered g c = λ all.
    let k = c.args.self.now in
    let at = turn_at k c.args.set c.loop.counter c.in-Some.entry c.loop.entries c.next.new.self c.loop.invariant.rest c.in-Some.ensures.steps in
    c.copy.ensures.buffered (turn_buffered k c.args.set c.loop.counter c.in-Some.entry c.loop-test.true at all) ∙ c.loop.invariant.buffered all

pub returns-in_err-taken-clause-gathers_at : goal.returns-in_err-taken-clause-gathers_at
returns-in_err-taken-clause-gathers_at g c = λ honest.
    let k = c.args.self.now in
    let held = g.D.PageDevice.held c.args.device.now in
    let at = turn_at k c.args.set c.loop.counter c.in-Some.entry c.loop.entries c.next.new.self c.loop.invariant.rest c.in-Some.ensures.steps in
    let on : IsTrue (g.D.PageDevice.honest c.loop.device) = subst (λ (b : Bool). IsTrue b) (sym c.loop.invariant.honest) honest in
    let failed = err_from_is_err_and c.from_residual.result c.from_residual.ensures.1 in
    let gathers : GathersAt g.row.PAGE held k c.args.set (g.D.PageDevice.failures c.args.device.now) (Err failed.0) (g.D.PageDevice.failures c.copy.new.device) = record {
      entry = c.in-Some.entry;
      listed = turn_taken k c.args.set c.loop.counter c.in-Some.entry c.loop-test.true at;
      shows = turn_copies g.row.PAGE held (g.D.PageDevice.held c.loop.device) k c.in-Some.entry (Err failed.0) (Err failed.0) (c.loop.invariant.same honest) refl (c.in_err-taken.ensures.copies on);
    } in
    subst (λ (r : Result Gathered AllocError). GathersAt g.row.PAGE held k c.args.set (g.D.PageDevice.failures c.args.device.now) r (g.D.PageDevice.failures c.copy.new.device)) (sym failed.1) gathers

pub returns-in_default-2-clause-reads : goal.returns-in_default-2-clause-reads
returns-in_default-2-clause-reads g c = reads_lost c.in_ok-taken.field-0 c.in_default-2.is c.in_ok-taken.ensures.reads (record { pages = c.loop.invariant.pages; honest = c.loop.invariant.honest; may_fail = c.loop.invariant.failures; same = c.loop.invariant.same })

pub returns-in_default-2-clause-gathers : goal.returns-in_default-2-clause-gathers
returns-in_default-2-clause-gathers g c = λ honest spelled. tt

pub returns-in_default-2-clause-its : goal.returns-in_default-2-clause-its
returns-in_default-2-clause-its g c =
    let k = c.args.self.now in
    let at = turn_at k c.args.set c.loop.counter c.in-Some.entry c.loop.entries c.next.new.self c.loop.invariant.rest c.in-Some.ensures.steps in
    turn_taken k c.args.set c.loop.counter c.in-Some.entry c.loop-test.true at

pub returns-in_default-2-clause-buffered : goal.returns-in_default-2-clause-buffered
returns-in_default-2-clause-buffered g c = λ all.
    let k = c.args.self.now in
    let at = turn_at k c.args.set c.loop.counter c.in-Some.entry c.loop.entries c.next.new.self c.loop.invariant.rest c.in-Some.ensures.steps in
    c.copy.ensures.buffered (turn_buffered k c.args.set c.loop.counter c.in-Some.entry c.loop-test.true at all) ∙ c.loop.invariant.buffered all

pub returns-in_default-2-clause-gathers_at : goal.returns-in_default-2-clause-gathers_at
returns-in_default-2-clause-gathers_at g c = λ honest live.
    let k = c.args.self.now in
    let held = g.D.PageDevice.held c.args.device.now in
    let on : IsTrue (g.D.PageDevice.honest c.loop.device) = subst (λ (b : Bool). IsTrue b) (sym c.loop.invariant.honest) honest in
    let failed = turn_fails g.row.PAGE held (g.D.PageDevice.held c.loop.device) k c.in-Some.entry c.in_ok-taken.field-0
    _ _ _ (c.loop.invariant.same honest) c.in_default-2.is c.loop.invariant.failures (c.in_ok-taken.ensures.faults on) live in
    (failed, unbuffered (is_buffered k c.in-Some.entry) (g.D.PageDevice.failures c.args.device.now) (g.D.PageDevice.failures c.copy.new.device) (λ b. ap g.D.PageDevice.failures (c.copy.ensures.buffered b) ∙ c.loop.invariant.failures) failed)

pub returns-in_default-2-clause-faults : goal.returns-in_default-2-clause-faults
returns-in_default-2-clause-faults g c = λ honest spelled.
    let k = c.args.self.now in
    let held = g.D.PageDevice.held c.args.device.now in
    let at = turn_at k c.args.set c.loop.counter c.in-Some.entry c.loop.entries c.next.new.self c.loop.invariant.rest c.in-Some.ensures.steps in
    (returns-in_default-2-clause-gathers_at g c honest (turn_live g.row.PAGE held k c.args.set c.loop.counter c.in-Some.entry at spelled)).0

pub returns-in_err-push-clause-reads : goal.returns-in_err-push-clause-reads
returns-in_err-push-clause-reads g c =
    let failed = err_from_is_err_and c.from_residual-in_err-push.result c.from_residual-in_err-push.ensures.1 in
    reads_wanted c.from_residual-in_err-push.result failed.0 failed.1 (reads_had c.in_ok-taken.field-0 c.in-Some-2.taken c.in-Some-2.is c.in_ok-taken.ensures.reads (record { pages = c.loop.invariant.pages; honest = c.loop.invariant.honest; may_fail = c.loop.invariant.failures; same = c.loop.invariant.same }))

pub returns-in_err-push-clause-its : goal.returns-in_err-push-clause-its
returns-in_err-push-clause-its g c =
    let failed = err_from_is_err_and c.from_residual-in_err-push.result c.from_residual-in_err-push.ensures.1 in
    wanted_if_ok (IsToBeTaken c.args.self.now c.args.set) c.from_residual-in_err-push.result failed.0 failed.1

pub returns-in_err-push-clause-faults : goal.returns-in_err-push-clause-faults
returns-in_err-push-clause-faults g c = λ honest spelled.
    let failed = err_from_is_err_and c.from_residual-in_err-push.result c.from_residual-in_err-push.ensures.1 in
    faults_wanted c.from_residual-in_err-push.result failed.0 failed.1 (reads_had c.in_ok-taken.field-0 c.in-Some-2.taken c.in-Some-2.is c.in_ok-taken.ensures.reads (record { pages = c.loop.invariant.pages; honest = c.loop.invariant.honest; may_fail = c.loop.invariant.failures; same = c.loop.invariant.same })).may_fail

pub returns-in_err-push-clause-gathers : goal.returns-in_err-push-clause-gathers
returns-in_err-push-clause-gathers g c = λ honest spelled.
    let failed = err_from_is_err_and c.from_residual-in_err-push.result c.from_residual-in_err-push.ensures.1 in
    wanted_if_ok (Gathers c.args.self.now c.args.set (live_on (g.D.PageDevice.held c.args.device.now) c.args.self.now)) c.from_residual-in_err-push.result failed.0 failed.1

pub returns-in_err-push-clause-buffered : goal.returns-in_err-push-clause-buffered
returns-in_err-push-clause-buffered g c = λ all.
    let k = c.args.self.now in
    let at = turn_at k c.args.set c.loop.counter c.in-Some.entry c.loop.entries c.next.new.self c.loop.invariant.rest c.in-Some.ensures.steps in
    c.copy.ensures.buffered (turn_buffered k c.args.set c.loop.counter c.in-Some.entry c.loop-test.true at all) ∙ c.loop.invariant.buffered all

pub returns-in_err-push-clause-gathers_at : goal.returns-in_err-push-clause-gathers_at
returns-in_err-push-clause-gathers_at g c = λ honest.
    let k = c.args.self.now in
    let held = g.D.PageDevice.held c.args.device.now in
    let at = turn_at k c.args.set c.loop.counter c.in-Some.entry c.loop.entries c.next.new.self c.loop.invariant.rest c.in-Some.ensures.steps in
    let on : IsTrue (g.D.PageDevice.honest c.loop.device) = subst (λ (b : Bool). IsTrue b) (sym c.loop.invariant.honest) honest in
    let failed = err_from_is_err_and c.from_residual-in_err-push.result c.from_residual-in_err-push.ensures.1 in
    let gathers : GathersAt g.row.PAGE held k c.args.set (g.D.PageDevice.failures c.args.device.now) (Err failed.0) (g.D.PageDevice.failures c.copy.new.device) = record {
      entry = c.in-Some.entry;
      listed = turn_taken k c.args.set c.loop.counter c.in-Some.entry c.loop-test.true at;
      shows = shows_weaker g.row.PAGE held k c.in-Some.entry (λ r. c.in-Some-2.taken ≡ taken_as k (c.in-Some.entry, r)) (λ r. Unit {0}) (λ r is. tt)
          (turn_copies g.row.PAGE held (g.D.PageDevice.held c.loop.device) k c.in-Some.entry (Ok c.in_ok-taken.field-0) (Ok (Some c.in-Some-2.taken)) (c.loop.invariant.same honest) (ap Ok c.in-Some-2.is) (c.in_ok-taken.ensures.copies on));
    } in
    subst (λ (r : Result Gathered AllocError). GathersAt g.row.PAGE held k c.args.set (g.D.PageDevice.failures c.args.device.now) r (g.D.PageDevice.failures c.copy.new.device)) (sym failed.1) gathers

pub loop-preserved : goal.loop-preserved
loop-preserved g c =
    let k = c.args.self.now in
    let at = turn_at k c.args.set c.loop.counter c.in-Some.entry c.loop.entries c.next.new.self c.loop.invariant.rest c.in-Some.ensures.steps in
    let reads : ReadsOrStops g.D.PageDevice.page_count g.D.PageDevice.honest g.D.PageDevice.failures g.D.PageDevice.held c.args.device.now false c.copy.new.device =
    reads_had c.in_ok-taken.field-0 c.in-Some-2.taken c.in-Some-2.is c.in_ok-taken.ensures.reads (record { pages = c.loop.invariant.pages; honest = c.loop.invariant.honest; may_fail = c.loop.invariant.failures; same = c.loop.invariant.same }) in
    record {
      pages = reads.pages;
      honest = reads.honest;
      failures = reads.may_fail;
      same = λ honest. c.copy.ensures.reads.same (subst (λ (b : Bool). IsTrue b) (sym c.loop.invariant.honest) honest) ∙ c.loop.invariant.same honest;
      buffered = λ all. c.copy.ensures.buffered (turn_buffered k c.args.set c.loop.counter c.in-Some.entry c.loop-test.true at all) ∙ c.loop.invariant.buffered all;
      rest = turn_rest k c.args.set c.loop.counter c.in-Some.entry c.loop.entries c.next.new.self c.loop.invariant.rest c.in-Some.ensures.steps;
      count = ap (λ (rs : List TakenRecord). length rs) c.in_ok-push.ensures.ok ∙ length_push c.loop.records c.in-Some-2.taken ∙ ap (λ (n : ℕ). n + 1) c.loop.invariant.count;
      copies = λ honest.
          let held = g.D.PageDevice.held c.args.device.now in
          let on : IsTrue (g.D.PageDevice.honest c.loop.device) = subst (λ (b : Bool). IsTrue b) (sym c.loop.invariant.honest) honest in
          let shows = turn_copies g.row.PAGE held (g.D.PageDevice.held c.loop.device) k c.in-Some.entry (Ok c.in_ok-taken.field-0) (Ok (Some c.in-Some-2.taken)) (c.loop.invariant.same honest) (ap Ok c.in-Some-2.is) (c.in_ok-taken.ensures.copies on) in
          let more = turn_more g.row.PAGE held k c.args.set c.loop.counter c.in-Some.entry c.in-Some-2.taken c.loop.records at (c.loop.invariant.copies honest) shows in
          subst (AreCopies g.row.PAGE held k (take (c.loop.counter + 1) (of_set c.args.set k.entries))) (sym c.in_ok-push.ensures.ok) more;
    }

pub returns-clause-reads : goal.returns-clause-reads
returns-clause-reads g c = record { pages = c.loop.invariant.pages; honest = c.loop.invariant.honest; may_fail = c.loop.invariant.failures; same = c.loop.invariant.same }

pub returns-clause-buffered : goal.returns-clause-buffered
returns-clause-buffered g c = c.loop.invariant.buffered

pub returns-clause-faults : goal.returns-clause-faults
returns-clause-faults g c = λ honest spelled. c.loop.invariant.failures

pub returns-clause-gathers_at : goal.returns-clause-gathers_at
returns-clause-gathers_at g c = λ honest.
    let k = c.args.self.now in
    let held = g.D.PageDevice.held c.args.device.now in
    let all : c.loop.counter ≡ 32 = omega (arith, c.loop-test.false, c.loop.auto.counter-end) in
    subst (λ (n : ℕ). AreCopies g.row.PAGE held k (take n (of_set c.args.set k.entries)) c.loop.records) all (c.loop.invariant.copies honest)

pub returns-clause-its : goal.returns-clause-its
returns-clause-its g c = omega (arith, c.loop.invariant.count, c.loop-test.false, c.loop.auto.counter-end)

pub returns-clause-gathers : goal.returns-clause-gathers
returns-clause-gathers g c = λ honest spelled.
    taken_of_copies g.row.PAGE (g.D.PageDevice.held c.args.device.now) c.args.self.now c.args.set c.loop.records (returns-clause-gathers_at g c honest) spelled
