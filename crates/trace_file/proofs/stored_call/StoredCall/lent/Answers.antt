use Rattle.std.proofs.Common.{◌+◌, List, ℕ, ap, refl, sym, ◌∙◌}
use Rattle.trace_file.specs.Stored.{act_of}
use Rattle.trace_file.proofs.public_laws.StoreLaws.{lent_call, slice_is}
use Rattle.trace_file.proofs.stored_call.StoredCall.lent.Goals as goal

pub returns-clause-call : goal.returns-clause-call
returns-clause-call c =
    let e = c.args.self.now in
    let store = c.args.store.now in
    sym (lent_call store e _ refl refl refl (slice_is store store e.offset e.key_len refl) (ap (λ (b : List ℕ). act_of e.kind b e.time) (slice_is store store (e.offset + e.key_len) e.value_len refl) ∙ sym c.lent.ensures))
