-- One key more, and how many there are.
use Rattle.std.proofs.Common.{◌∙◌, Some, ap, arith, sym, subst, take}
use Rattle.std.proofs.lemmas.List.{take_all}
use Rattle.std.proofs.lemmas.Option.{slice_get-get_or}
use Rattle.judge_run.specs.Listing.{HasKeys, key_count, keys_of}
use Rattle.judge_run.specs.Telling.{key_at}
use Rattle.judge_run.proofs.KeyLaws.{count_is, keys_next, one_more}
use Rattle.judge_run.proofs.fault_keys.key_count.Goals as goal

pub loop-fault-preserved : goal.loop-fault-preserved
loop-fault-preserved g c =
    let history = c.args.history.now in
    let faults = c.args.faults.now in
    let i = c.loop-fault.fault-index in
    subst (λ words. HasKeys c.insert.new.self words)
    (sym (keys_next history faults i c.fault-item.result c.key_at-bytes.result.now (slice_get-get_or faults i c.fault-item.result (omega arith) ∙ ap Some (sym c.fault-item.is)) (c.key_at-bytes.ensures ∙ ap (key_at history) c.first_position.ensures)))
    (one_more c.loop-fault.keys c.insert.new.self (record { bytes = c.key_at-bytes.result }) (keys_of history (take i faults)) c.in_ok-insert.ensures.updates.0 c.loop-fault.invariant)

pub returns : goal.returns
returns g c =
    let faults = c.args.faults.now in
    let i = c.loop-fault.fault-index in
    c.len.ensures.len
    ∙ count_is c.loop-fault.keys (keys_of c.args.history.now (take i faults)) c.len.ensures.unique c.loop-fault.invariant
    ∙ ap (key_count c.args.history.now) (take_all i faults (omega arith))
