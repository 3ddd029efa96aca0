use Rattle.std.proofs.Common.{◌≡◌, ◌<◌, ℕ, List, length, sym, subst, arith}
use Rattle.std.specs.Prelude.{All, slice_get}
use Rattle.std.specs.List.{filter_map}
use Rattle.trace_file.specs.declared.call.Call.{Call}
use Rattle.certificate_finder.proofs.WarmingLemmas.{are_warm, is_warmed, puts_end}
use Rattle.certificate_finder.proofs.warming.warm_with_hasher.Goals as goal

pub warm_puts_of-requires : goal.warm_puts_of-requires
warm_puts_of-requires g c =
    let are = are_warm c.args.history c.in_ok-steps.steps.items c.as_slice.result.now c.in_ok-steps.ensures c.as_slice.ensures.value (omega arith) c.in_ok-hits.hits.items c.in_ok-hits.ensures in
    subst (λ (hits : List ℕ). All (λ hit. hit < length c.args.history) hits) (sym c.as_slice-2.ensures.value) are.below

pub with_puts-requires : goal.with_puts-requires
with_puts-requires g c = subst (λ (calls : List Call). All (λ (call : Call). call.end ≡ 0) calls) (sym c.in_ok-puts.ensures) (puts_end (filter_map (slice_get c.args.history) c.as_slice-2.result.now))

pub returns-in-Ok : goal.returns-in-Ok
returns-in-Ok g c = is_warmed c.args.history (record { history = c.in-Ok.history; hits = c.in_ok-hits.hits }) c.as_slice-2.result.now c.in_ok-puts.puts
    (are_warm c.args.history c.in_ok-steps.steps.items c.as_slice.result.now c.in_ok-steps.ensures c.as_slice.ensures.value (omega arith) c.in_ok-hits.hits.items c.in_ok-hits.ensures)
    c.as_slice-2.ensures.value c.in_ok-puts.ensures c.in-Ok.ensures
