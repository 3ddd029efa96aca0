use Rattle.std.proofs.Common.{◌≡◌, ℕ, List, Option, All, take, drop}
use Rattle.std.specs.Prelude.{IsTrue}
use Rattle.klog_index.specs.Entries.{of_tag}
use Rattle.klog.specs.Known.{AreHeldBy, AreBuffered}
use Rattle.klog.specs.Find.{with_tag}
use Rattle.klog.specs.Look.{ShowsOther}
use Rattle.klog.proofs.log.KLog.locate.Given as goal

abbrev pub invariant-loop : goal.invariant-loop
invariant-loop g l = record {
  pages : g.D.PageDevice.page_count l.device ≡ g.D.PageDevice.page_count l.initial.device;
  honest : g.D.PageDevice.honest l.device ≡ g.D.PageDevice.honest l.initial.device;
  failures : g.D.PageDevice.failures l.device ≡ g.D.PageDevice.failures l.initial.device;
  stays : l.found ≡ l.initial.found;
  same : IsTrue (g.D.PageDevice.honest l.initial.device) → g.D.PageDevice.held l.device ≡ g.D.PageDevice.held l.initial.device;
  buffered : AreBuffered l.self (take l.counter (of_tag l.placed.set l.placed.tag l.self.entries)) → l.device ≡ l.initial.device;
  rest : with_tag l.placed.tag l.entries ≡ drop l.counter (of_tag l.placed.set l.placed.tag l.self.entries);
  newer : (known : ℕ → Option (List ℕ)) → AreHeldBy g.D.PageDevice.honest g.D.PageDevice.held l.initial.device known
      → All (ShowsOther g.row.PAGE known l.self l.key) (take l.counter (of_tag l.placed.set l.placed.tag l.self.entries));
}
