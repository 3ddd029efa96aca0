use Rattle.std.proofs.Common.{◌≡◌, ℕ, List, not, sym, ap, subst, ◌∙◌, rules}
use Rattle.klog_index.specs.Entries.{without, passes_of}
use Rattle.klog.specs.declared.taken_record.TakenRecord.{TakenRecord}
use Rattle.klog.specs.Log.{LogState, with_list}
use Rattle.klog.specs.Names.{names}
use Rattle.klog.specs.Sources.{is_source_by}
use Rattle.klog.specs.Shown.{IsSpelledOn, live_on}
use Rattle.klog.specs.Moves.{is_taken, dropped}
use Rattle.klog.proofs.LiveLaws.{log_kept, spelled_kept, live_on-kept}
use Rattle.klog.proofs.log.KLog.drop_taken.Goals as goal

-- a log without the entries that pass, by this number and this many names, is one of which the records were dropped
by_names : (x k : LogState) (set : ℕ) (ts : List TakenRecord) (f n : ℕ) → f ≡ k.first → n ≡ names k → x ≡ with_list k (without (passes_of set (is_source_by (record { taken = ts; first = f; names = n }))) k.entries) → x ≡ dropped k set ts
by_names x k set ts f n first many is =
    is
    ∙ ap (λ (m : ℕ). with_list k (without (passes_of set (is_source_by (record { taken = ts; first = m; names = n }))) k.entries)) first
    ∙ ap (λ (m : ℕ). with_list k (without (passes_of set (is_source_by (record { taken = ts; first = k.first; names = m }))) k.entries)) many

pub invariant_of-self : goal.invariant_of-self
invariant_of-self g c =
    let kept = log_kept _ (λ e. not (passes_of c.args.set (is_source_by (record { taken = c.args.taken.now; first = c.self.inside.first; names = c.names.result })) e)) c.self.invariant.0 in
    rw c.drop_passing.ensures (kept, c.self.invariant.1, c.self.invariant.2, c.self.invariant.3, c.self.invariant.4)

pub returns-clause-dropped : goal.returns-clause-dropped
returns-clause-dropped g c =
    by_names _ c.args.self.now c.args.set c.args.taken.now c.self.inside.first c.names.result (ap (λ (k : LogState). k.first) c.self.view_is) c.names.ensures.names (search rules)

pub returns-clause-spelled : goal.returns-clause-spelled
returns-clause-spelled g c = λ held h.
    subst (IsSpelledOn g.row.PAGE held) (sym (returns-clause-dropped g c)) (spelled_kept g.row.PAGE held c.args.self.now (λ e. not (is_taken c.args.self.now c.args.set c.args.taken.now e)) h)

pub returns-clause-shown : goal.returns-clause-shown
returns-clause-shown g c = λ held.
    ap (live_on held) (returns-clause-dropped g c) ∙ live_on-kept held c.args.self.now (λ e. not (is_taken c.args.self.now c.args.set c.args.taken.now e))
