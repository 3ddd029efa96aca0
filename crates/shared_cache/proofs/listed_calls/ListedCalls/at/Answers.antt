use Rattle.std.proofs.Common.{List, ◌<◌, length, subst, sym}
use Rattle.trace_file.specs.Lent.{call_shown}
use Rattle.shared_cache.specs.Listed.{Listed}
use Rattle.shared_cache.proofs.Keeping.{kept_shown, kept_within}
use Rattle.shared_cache.proofs.listed_calls.ListedCalls.at.Goals as goal

pub lent-call-requires : goal.lent-call-requires
lent-call-requires c =
    let p = c.self.inside in
    let low = kept_within p.bytes.now p.entries.now c.args.place (subst (λ (ls : List Listed). c.args.place < length ls) (sym c.self.view_is) c.requires) in
    c.self.invariant.lie c.args.place _ low

pub returns : goal.returns
returns c =
    let p = c.self.inside in
    let low = kept_within p.bytes.now p.entries.now c.args.place (subst (λ (ls : List Listed). c.args.place < length ls) (sym c.self.view_is) c.requires) in
    rw (← c.self.view_is) (kept_shown p.bytes.now p.entries.now c.args.place _ (call_shown c.lent-call.result) low c.lent-call.ensures.call)
