use Rattle.std.proofs.Common.{◌≡◌, rules, tests, vec_items}
use Rattle.std.specs.List.{filter_map}
use Rattle.std.proofs.lemmas.Iterator.{YieldsList-from_slice, items_from_collect}
use Rattle.std.proofs.lemmas.Iterator.Consumers.{YieldsList-from_filter_map}
use Rattle.std.proofs.lemmas.Result.{IfOk-at_ok}
use Rattle.history_window.specs.Tables.{put_start}
use Rattle.history_window.proofs.RankLemmas.{sorted_made}
use Rattle.history_window.proofs.tables.starts_of.Goals as goal

pub returns : goal.returns
returns c = sorted_made (filter_map put_start c.args.codes.now) c.in_ok-starts.starts.items c.sort_ranks.result.items (IfOk-at_ok (λ w. vec_items w ≡ filter_map put_start c.args.codes.now) c.in_ok-starts.was (items_from_collect _ c.collect.ensures.ran (YieldsList-from_filter_map _ put_start (YieldsList-from_slice c.args.codes.now cc) c.filter_map.ensures.closure (λ x r q k. search (rules, tests))))) c.sort_ranks.ensures
