use Rattle.std.proofs.Common.{◌≡◌, ℕ, List, Option, sym, ap, subst, ◌∙◌, rules}
use Rattle.std.specs.Prelude.{IsTrue}
use Rattle.record_pages.specs.Recs.{Rec}
use Rattle.record_pages.specs.Lent.{record_shown}
use Rattle.klog.specs.Shown.{IsLiveOn, IsSpelledOn, live_on}
use Rattle.klog.specs.Moves.{live_anew, MovesTo}
use Rattle.klog.proofs.MoveLaws.{oldest_live, oldest_record, oldest_damaged, leaves_anew, moves_to, oldest_given, oldest_back}
use Rattle.klog.proofs.KnownLaws.{all_held}
use Rattle.klog.proofs.log.KLog.readmit.Goals as goal

pub returns-in-Fault : goal.returns-in-Fault
returns-in-Fault g c =
    let held = g.D.PageDevice.held c.args.device.now in
    record {
      reads = search rules;
      shape = c.lose_page_of.ensures.shape;
      leaves = c.lose_page_of.ensures.lost;
      reads_back = λ honest. tt;
      gives = λ honest h.
          let r = oldest_record g.row.PAGE held c.args.self.now c.args.entry.now c.requires.oldest h in
          record {
            its = r.0;
            was_live = r.2;
            moved = c.lose_page_of.ensures.lost;
            left = ap (λ (now : ℕ → Option (List ℕ)). live_on now c.lose_page_of.new.self) (c.fetch_stored.ensures.reads.same honest) ∙ c.lose_page_of.ensures.shown held;
          };
      spelled = λ honest h.
          subst (λ (now : ℕ → Option (List ℕ)). IsSpelledOn g.row.PAGE now c.lose_page_of.new.self) (sym (c.fetch_stored.ensures.reads.same honest)) (c.lose_page_of.ensures.spelled held h);
    }

pub returns-in-Damaged : goal.returns-in-Damaged
returns-in-Damaged g c =
    let held = g.D.PageDevice.held c.args.device.now in
    let dead : IsTrue (g.D.PageDevice.honest c.args.device.now) → IsLiveOn g.row.PAGE held c.args.self.now c.args.entry.now → ⊥ = λ honest.
    oldest_damaged g.row.PAGE held c.args.self.now c.args.entry.now c.requires.oldest (c.in-Damaged.ensures.gives held (all_held g.D.PageDevice.honest g.D.PageDevice.held c.args.device.now honest)) in
    record {
      reads = search rules;
      shape = c.lose_page_of-in-Damaged.ensures.shape;
      leaves = c.lose_page_of-in-Damaged.ensures.lost;
      reads_back = dead;
      gives = λ honest h. absurd (dead honest (oldest_live g.row.PAGE held c.args.self.now c.args.entry.now c.requires.oldest h));
      spelled = λ honest h.
          subst (λ (now : ℕ → Option (List ℕ)). IsSpelledOn g.row.PAGE now c.lose_page_of-in-Damaged.new.self) (sym (c.fetch_stored.ensures.reads.same honest)) (c.lose_page_of-in-Damaged.ensures.spelled held h);
    }

pub returns-in-Record : goal.returns-in-Record
returns-in-Record g c =
    let held = g.D.PageDevice.held c.args.device.now in
    let k = c.args.self.now in
    let e = c.args.entry.now in
    record {
      reads = search rules;
      shape = c.enter_anew.ensures.shape;
      leaves = leaves_anew g.row.PAGE k e (record_shown c.in-Record.found) c.enter_anew.result c.enter_anew.new.self c.in-Record.ensures.its c.enter_anew.ensures.enters;
      reads_back = λ honest.
          oldest_back g.row.PAGE held k e c.in-Record.found c.enter_anew.result c.enter_anew.new.self c.requires.oldest
          (c.in-Record.ensures.gives held (all_held g.D.PageDevice.honest g.D.PageDevice.held c.args.device.now honest)) c.in-Record.ensures.its c.enter_anew.ensures.enters;
      gives = λ honest h.
          let r = oldest_record g.row.PAGE held k e c.requires.oldest h in
          let same : record_shown c.in-Record.found ≡ r.0 = oldest_given g.row.PAGE held k e c.in-Record.found r.0 c.requires.oldest h (c.in-Record.ensures.gives held (all_held g.D.PageDevice.honest g.D.PageDevice.held c.args.device.now honest)) r.1 in
          record {
            its = r.0;
            was_live = r.2;
            moved = subst (λ (x : Rec). MovesTo g.row.PAGE k e x c.enter_anew.result c.enter_anew.new.self) same (moves_to g.row.PAGE k e (record_shown c.in-Record.found) c.enter_anew.result c.enter_anew.new.self c.enter_anew.ensures.enters);
            left = ap (λ (now : ℕ → Option (List ℕ)). live_on now c.enter_anew.new.self) (c.fetch_stored.ensures.reads.same honest)
                ∙ c.enter_anew.ensures.shown held
                ∙ ap (λ (x : Rec). live_anew g.row.PAGE k e x c.enter_anew.result (live_on held k)) same;
          };
      spelled = λ honest h.
          subst (λ (now : ℕ → Option (List ℕ)). IsSpelledOn g.row.PAGE now c.enter_anew.new.self) (sym (c.fetch_stored.ensures.reads.same honest)) (c.enter_anew.ensures.spelled held h);
    }
