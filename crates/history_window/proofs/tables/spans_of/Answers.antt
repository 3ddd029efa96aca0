use Rattle.std.proofs.Common.{◌≡◌, rules, tests, vec_items}
use Rattle.std.specs.List.{filter_map}
use Rattle.std.proofs.lemmas.Iterator.{YieldsList-from_slice, items_from_collect}
use Rattle.std.proofs.lemmas.Iterator.Consumers.{YieldsList-from_filter_map}
use Rattle.std.proofs.lemmas.Result.{IfOk-at_ok}
use Rattle.history_window.specs.Tables.{write_span}
use Rattle.history_window.proofs.PeakLemmas.{peaks_made}
use Rattle.history_window.proofs.tables.spans_of.Goals as goal

pub returns-in-Ok : goal.returns-in-Ok
returns-in-Ok c = peaks_made (filter_map write_span c.args.codes.now) c.in_ok-made.made.items c.in-Ok.spans (IfOk-at_ok (λ w. vec_items w ≡ filter_map write_span c.args.codes.now) c.in_ok-made.was (items_from_collect _ c.collect.ensures.ran (YieldsList-from_filter_map _ write_span (YieldsList-from_slice c.args.codes.now cc) c.filter_map.ensures.closure (λ x r q k. search (rules, tests))))) c.in-Ok.ensures
