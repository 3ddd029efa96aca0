use Rattle.std.proofs.Common.{ℕ, List, Option, refl, sym, ap, subst, ◌∙◌, rules, arith}
use Rattle.std.specs.Prelude.{IsTrue, Ok}
use Rattle.std.proofs.lemmas.List.Elements.{All-contains}
use Rattle.klog.specs.declared.gathered.Gathered.{Gathered}
use Rattle.klog.specs.declared.gathered.Gathered.TheVariants as gathered
use Rattle.klog.specs.Shown.{IsLiveOn, IsSpelledOn, live_on}
use Rattle.klog.specs.Take.{IsToBeTaken, GathersAt}
use Rattle.klog.proofs.TakeLaws.{listed_taken}
use Rattle.klog.proofs.log.KLog.take_set.Goals as goal

pub lose_page_of-requires : goal.lose_page_of-requires
lose_page_of-requires g c =
    let its = subst (IsToBeTaken c.args.self.now c.args.set) c.in-Lost.is c.in_ok-records.ensures.its in
    (omega arith, listed_taken c.args.self.now c.args.set c.in-Lost.entry its)

pub returns-in-Lost : goal.returns-in-Lost
returns-in-Lost g c =
    let k = c.args.self.now in
    let set = c.args.set in
    let e = c.in-Lost.entry in
    let held = g.D.PageDevice.held c.args.device.now in
    let its = subst (IsToBeTaken k set) c.in-Lost.is c.in_ok-records.ensures.its in
    let at : IsTrue (g.D.PageDevice.honest c.args.device.now) → GathersAt g.row.PAGE held k set (g.D.PageDevice.failures c.args.device.now) (Ok (gathered.Lost e)) (g.D.PageDevice.failures c.gather.new.device) = λ honest.
    subst (λ (x : Gathered). GathersAt g.row.PAGE held k set (g.D.PageDevice.failures c.args.device.now) (Ok x) (g.D.PageDevice.failures c.gather.new.device)) c.in-Lost.is (c.in_ok-records.ensures.gathers_at honest) in
    record {
      reads = search rules;
      shape = c.lose_page_of.ensures.shape;
      leaves = record { entry = e; listed = its; left = c.lose_page_of.ensures.lost };
      buffered = c.gather.ensures.buffered;
      takes_at = λ honest. record { entry = e; listed = its; left = c.lose_page_of.ensures.lost; failed = λ live. (at honest live).0; stored = λ live. (at honest live).1 };
      faults = search rules;
      gives = λ honest h.
          let live : IsLiveOn g.row.PAGE held k e = All-contains (IsLiveOn g.row.PAGE held k) k.entries e h.live (listed_taken k set e its) in
          record {
            entry = e;
            listed = its;
            stored = (at honest live).1;
            left = c.lose_page_of.ensures.lost;
            live_left = ap (λ (now : ℕ → Option (List ℕ)). live_on now c.lose_page_of.new.self) (c.gather.ensures.reads.same honest) ∙ c.lose_page_of.ensures.shown held;
          };
      spelled = λ honest h. subst (λ (now : ℕ → Option (List ℕ)). IsSpelledOn g.row.PAGE now c.lose_page_of.new.self) (sym (c.gather.ensures.reads.same honest)) (c.lose_page_of.ensures.spelled held h);
    }

pub returns-in-Records : goal.returns-in-Records
returns-in-Records g c = record {
  reads = search rules;
  shape = refl;
  leaves = (refl, subst (IsToBeTaken c.args.self.now c.args.set) c.in-Records.is c.in_ok-records.ensures.its);
  buffered = c.gather.ensures.buffered;
  takes_at = search rules;
  faults = search rules;
  gives = search rules;
  spelled = search rules;
}
