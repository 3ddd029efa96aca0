use Rattle.std.proofs.Common.{◌≡◌, ℕ, List, Option, refl, sym, subst, rules, ◌∙◌}
use Rattle.record_pages.specs.Recs.{Rec}
use Rattle.kset.specs.Look.{SetLookGives}
use Rattle.kset.specs.Pages.{AreSpelledOn}
use Rattle.kset.specs.Shown.{visible_in}
use Rattle.std.specs.Bool.{OnFalse}
use Rattle.record_pages.specs.declared.answer.Answer.{Answer}
use Rattle.record_pages.specs.declared.answer.Answer.TheVariants.{Hit, Miss}
use Rattle.record_pages.specs.declared.looked.Looked.TheVariants as look
use Rattle.record_pages.specs.declared.miss_cause.MissCause.TheVariants.{Expired, Fault, Damaged}
use Rattle.record_pages.specs.declared.tier.Tier.TheVariants.{Log}
use Rattle.klog.specs.declared.located_in_log.LocatedInLog.TheVariants as in_log
use Rattle.kset.specs.Locate.{looked_of, sets_after, NamesFirst}
use Rattle.mover.specs.Get.{answer_of_set}
use Rattle.mover.specs.Store.{StoreState}
use Rattle.mover.specs.Touch.{answer_at, has_value, in_set, with_flash, LooksBelow}
use Rattle.mover.proofs.public_laws.Keeping.{kept_device}
use Rattle.mover.proofs.Touching.{below_by_log, below_by_set, log_looks, set_looks, in_set_answer, in_set_touched, in_set_can, in_set_stays}
use Rattle.mover.specs.Lane.{lane_of}
use Rattle.mover.specs.Timed.{flash_timed, expiry_at, expiry_at_memory}
use Rattle.mover.proofs.Timing.{log_hit_timed, set_hit_timed, not_in_memory}
use Rattle.mover.proofs.store.locate.locate_below.Goals as goal

pub returns-in-Hit-clause-looks : goal.returns-in-Hit-clause-looks
returns-in-Hit-clause-looks g c = λ s is.
    let d = g.D.PageDevice in
    let old = with_flash s c.args.device.now c.args.log.now c.args.sets.now in
    below_by_log g.row.PAGE d.honest d.failures d.held c.args.placed.now c.args.key.now c.args.moment old c.requires.at (look.Hit c.locate.new.found) (Hit c.locate.new.found Log) _ refl
    (log_looks g.row.PAGE d.page_count d.honest d.failures d.held old c.args.placed.now c.args.key.now c.args.moment c.locate.new.device c.args.found.now _ c.locate.new.found is.log_spelled c.in-Hit.ensures)

pub returns-in-Expired-clause-looks : goal.returns-in-Expired-clause-looks
returns-in-Expired-clause-looks g c = λ s is.
    let d = g.D.PageDevice in
    let old = with_flash s c.args.device.now c.args.log.now c.args.sets.now in
    below_by_log g.row.PAGE d.honest d.failures d.held c.args.placed.now c.args.key.now c.args.moment old c.requires.at look.Expired (Miss Expired) _ refl
    (log_looks g.row.PAGE d.page_count d.honest d.failures d.held old c.args.placed.now c.args.key.now c.args.moment c.locate.new.device c.args.found.now _ c.locate.new.found is.log_spelled c.in-Expired.ensures)

pub returns-in-Fault-clause-looks : goal.returns-in-Fault-clause-looks
returns-in-Fault-clause-looks g c = λ s is.
    let d = g.D.PageDevice in
    let old = with_flash s c.args.device.now c.args.log.now c.args.sets.now in
    below_by_log g.row.PAGE d.honest d.failures d.held c.args.placed.now c.args.key.now c.args.moment old c.requires.at look.Fault (Miss Fault) _ refl
    (log_looks g.row.PAGE d.page_count d.honest d.failures d.held old c.args.placed.now c.args.key.now c.args.moment c.locate.new.device c.args.found.now _ c.locate.new.found is.log_spelled c.in-Fault.ensures)

pub returns-in-Damaged-clause-looks : goal.returns-in-Damaged-clause-looks
returns-in-Damaged-clause-looks g c = λ s is.
    let d = g.D.PageDevice in
    let old = with_flash s c.args.device.now c.args.log.now c.args.sets.now in
    below_by_log g.row.PAGE d.honest d.failures d.held c.args.placed.now c.args.key.now c.args.moment old c.requires.at look.Damaged (Miss Damaged) _ refl
    (log_looks g.row.PAGE d.page_count d.honest d.failures d.held old c.args.placed.now c.args.key.now c.args.moment c.locate.new.device c.args.found.now _ c.locate.new.found is.log_spelled c.in-Damaged.ensures)

pub returns-in-Absent-clause-looks : goal.returns-in-Absent-clause-looks
returns-in-Absent-clause-looks g c = λ s is.
    let d = g.D.PageDevice in
    let key = c.args.key.now in
    let placed = c.args.placed.now in
    let located = c.locate-located.result in
    let buffer = c.locate-located.new.found in
    let read = c.in-Absent.ensures.reads in
    let old = with_flash s c.args.device.now c.args.log.now c.args.sets.now in
    let mid = with_flash s c.locate.new.device c.args.log.now c.args.sets.now in
    let new = with_flash s c.locate-located.new.device c.args.log.now c.args.sets.now in
    let kept = kept_device g.row.PAGE d.page_count d.honest d.held old is c.locate.new.device read.pages read.honest read.same in
    let log = log_looks g.row.PAGE d.page_count d.honest d.failures d.held old placed key c.args.moment c.locate.new.device c.args.found.now in_log.Absent c.locate.new.found is.log_spelled c.in-Absent.ensures in
    let set = set_looks g.row.PAGE d.page_count d.honest d.failures d.held mid placed key c.args.moment c.locate-located.new.device c.locate.new.found located buffer c.requires.at kept.sets_spelled c.locate-located.ensures in
    rw c.in_set.ensures
    (subst (λ (x : StoreState g.row.D.Denot). LooksBelow g.row.PAGE d.honest d.failures d.held key c.args.moment old (answer_at (in_set placed.set located) buffer) x) (in_set_touched key placed.set located new)
    (subst (λ (a : Answer). LooksBelow g.row.PAGE d.honest d.failures d.held key c.args.moment old a (record new { sets = sets_after located placed.set new.sets })) (in_set_answer placed.set located buffer)
    (below_by_set g.row.PAGE d.honest d.failures d.held placed key c.args.moment old c.requires.at mid (answer_of_set (looked_of located buffer)) _ log set)))

pub returns-in-Absent-clause-can : goal.returns-in-Absent-clause-can
returns-in-Absent-clause-can g c = rw c.in_set.ensures (in_set_can c.args.placed.now.set c.locate-located.result _ c.locate-located.ensures.slot (search rules))

pub returns-in-Absent-clause-stays : goal.returns-in-Absent-clause-stays
returns-in-Absent-clause-stays g c =
    rw c.in_set.ensures (subst (λ b. OnFalse (has_value (in_set c.args.placed.now.set c.locate-located.result)) (c.locate-located.new.found ≡ b)) c.in-Absent.ensures.stays
    (in_set_stays c.args.placed.now.set c.locate-located.result _ c.locate-located.ensures.stays))

pub returns-in-Hit-clause-timed : goal.returns-in-Hit-clause-timed
returns-in-Hit-clause-timed g c = λ s is on.
    let d = g.D.PageDevice in
    let lane = lane_of d.held (with_flash s c.args.device.now c.args.log.now c.args.sets.now) in
    log_hit_timed c.args.key.now c.args.moment lane c.locate.new.found c.in-Hit.entry c.in-Hit.expires (c.in-Hit.ensures.names on (is.log_spelled on))

pub returns-in-Absent-clause-timed : goal.returns-in-Absent-clause-timed
returns-in-Absent-clause-timed g c = λ s is on.
    let d = g.D.PageDevice in
    let key = c.args.key.now in
    let placed = c.args.placed.now in
    let located = c.locate-located.result in
    let buffer = c.locate-located.new.found in
    let sets = c.args.sets.now in
    let read = c.in-Absent.ensures.reads in
    let lane = lane_of d.held (with_flash s c.args.device.now c.args.log.now sets) in
    let on_mid = read.honest ∙ on in
    let same = read.same on in
    let spelled = subst (λ (h : ℕ → Option (List ℕ)). AreSpelledOn g.row.PAGE h sets) (sym same) (is.sets_spelled on) in
    let l = c.locate-located.ensures in
    let of : (ℕ → Option (List ℕ)) → List (ℕ × Rec) = λ h. visible_in h sets placed.set in
    let names = subst (λ (h : ℕ → Option (List ℕ)). NamesFirst (of h) key located) same (l.names on_mid spelled) in
    let gives = subst (λ (h : ℕ → Option (List ℕ)). SetLookGives (of h) key c.args.moment sets placed.set (looked_of located buffer) (sets_after located placed.set sets)) same (l.gives on_mid spelled) in
    rw c.in_set.ensures
    (set_hit_timed key c.args.moment lane buffer placed sets (sets_after located placed.set sets) located c.requires.at (c.in-Absent.ensures.gives on (is.log_spelled on)).0 names gives)

pub returns-in-Absent-clause-below : goal.returns-in-Absent-clause-below
returns-in-Absent-clause-below g c = rw c.in_set.ensures (not_in_memory c.args.placed.now.set c.locate-located.result)
