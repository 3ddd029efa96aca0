use Rattle.std.proofs.Common.{◌≡◌, ℕ, Contains, not, sym, ap, subst, rules, ◌∙◌}
use Rattle.std.proofs.lemmas.List.Elements.{All-contains}
use Rattle.klog_index.specs.declared.entry.Entry.{Entry}
use Rattle.klog_index.specs.Entries.{is_on, without}
use Rattle.klog.specs.Log.{LogState, with_list}
use Rattle.klog.specs.Names.{name_of, segment_of}
use Rattle.klog.specs.Flush.{is_on_page}
use Rattle.klog.specs.Shown.{IsSpelledOn, live_on}
use Rattle.klog.specs.Keeps.{IsHeld, IsLog}
use Rattle.klog.specs.Moves.{without_its_page}
use Rattle.klog.proofs.RingLaws.{name_again}
use Rattle.klog.proofs.LiveLaws.{log_kept, spelled_kept, live_on-kept}
use Rattle.klog.proofs.log.KLog.lose_page_of.Goals as goal

pub invariant_of-self : goal.invariant_of-self
invariant_of-self g c =
    let kept = log_kept _ (λ e. not (is_on c.args.entry.now.place.segment c.args.entry.now.place.page e)) c.self.invariant.0 in
    rw c.drop_page.ensures (kept, c.self.invariant.1, c.self.invariant.2, c.self.invariant.3, c.self.invariant.4)

-- the page's segment has the entry's name
same_name : (k : LogState) (e : Entry) → IsLog k → Contains k.entries e → name_of k (segment_of k e) ≡ e.place.segment
same_name k e log listed = name_again k e.place.segment (All-contains (IsHeld k) k.entries e log.held listed).name

-- so the log without the page named by its segment's name is the log without the entry's page
by_name : (v k : LogState) (e : Entry) → IsLog k → Contains k.entries e → v ≡ with_list k (without (is_on e.place.segment e.place.page) k.entries) → v ≡ without_its_page k e
by_name v k e log listed is = is ∙ ap (λ (n : ℕ). with_list k (without (is_on n e.place.page) k.entries)) (sym (same_name k e log listed))

pub returns-clause-lost : goal.returns-clause-lost
returns-clause-lost g c = by_name _ c.args.self.now c.args.entry.now (subst IsLog c.self.view_is c.self.invariant.0) c.requires.listed (search rules)

pub returns-clause-spelled : goal.returns-clause-spelled
returns-clause-spelled g c = λ held h.
    subst (IsSpelledOn g.row.PAGE held) (sym (returns-clause-lost g c)) (spelled_kept g.row.PAGE held c.args.self.now (λ e. not (is_on_page c.args.self.now (segment_of c.args.self.now c.args.entry.now) c.args.entry.now.place.page e)) h)

pub returns-clause-shown : goal.returns-clause-shown
returns-clause-shown g c = λ held.
    ap (live_on held) (returns-clause-lost g c) ∙ live_on-kept held c.args.self.now (λ e. not (is_on_page c.args.self.now (segment_of c.args.self.now c.args.entry.now) c.args.entry.now.place.page e))
