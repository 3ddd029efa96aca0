use Rattle.std.proofs.Common.{◌≡◌, length, take, drop}
use Rattle.std.specs.Prelude.{IsTrue}
use Rattle.klog_index.specs.Entries.{of_set}
use Rattle.klog.specs.Known.{AreBuffered}
use Rattle.klog.specs.Moves.{taken_entries, AreCopies}
use Rattle.klog.proofs.log.KLog.gather.Given as goal

abbrev pub invariant-loop : goal.invariant-loop
invariant-loop g l = record {
  pages : g.D.PageDevice.page_count l.device ≡ g.D.PageDevice.page_count l.initial.device;
  honest : g.D.PageDevice.honest l.device ≡ g.D.PageDevice.honest l.initial.device;
  failures : g.D.PageDevice.failures l.device ≡ g.D.PageDevice.failures l.initial.device;
  same : IsTrue (g.D.PageDevice.honest l.initial.device) → g.D.PageDevice.held l.device ≡ g.D.PageDevice.held l.initial.device;
  buffered : AreBuffered l.self (taken_entries l.self l.set) → l.device ≡ l.initial.device;
  rest : l.entries ≡ drop l.counter (of_set l.set l.self.entries);
  count : length l.records ≡ l.counter;
  copies : IsTrue (g.D.PageDevice.honest l.initial.device) → AreCopies g.row.PAGE (g.D.PageDevice.held l.initial.device) l.self (take l.counter (of_set l.set l.self.entries)) l.records;
}
