use Rattle.std.proofs.Common.{sym, ap, ◌∙◌}
use Rattle.std.specs.Prelude.{slice_get}
use Rattle.std.proofs.lemmas.List.Elements.{All-contains}
use Rattle.certificate_finder.specs.declared.stamp.Stamp.TheVariants.{End}
use Rattle.certificate_finder.specs.Owning.{IsRefused}
use Rattle.certificate_finder.proofs.FaultLemmas.{first_is, none_by_stamps, told_first}
use Rattle.certificate_finder.proofs.FindLemmas.{reads_none}
use Rattle.certificate_finder.proofs.FoundLemmas.{no_items}
use Rattle.certificate_finder.proofs.OwnLemmas.{all_sure}
use Rattle.certificate_finder.proofs.finding.found_of.Goals as goal

pub excluded_of-requires-clause-refused : goal.excluded_of-requires-clause-refused
excluded_of-requires-clause-refused c =
    let reads = c.in_ok-reads.ensures in
    let at = sym (ap (λ l. slice_get l 0) c.as_slice-listed.ensures.value) ∙ c.item_at-first.ensures in
    All-contains (IsRefused c.args.steps.now) c.in_ok-reads.reads.owners.wrong.items c.item_at-first.result.position reads.owners.wrong.each (first_is End c.args.steps.now c.in_ok-reads.reads.owners.wrong.items c.in_ok-reads.reads.wrong.items c.item_at-first.result reads.wrong at)

pub returns-then-not-is_empty : goal.returns-then-not-is_empty
returns-then-not-is_empty c =
    let reads = c.in_ok-reads.ensures in
    let at = sym (ap (λ l. slice_get l 0) c.as_slice-listed.ensures.value) ∙ c.item_at-first.ensures in
    λ history are forward. record {
      accepted = tt;
      rejected = reads_none history c.args.steps.now are c.item_at-first.result.position c.in_ok-excluded.excluded.items c.in_ok-excluded.ensures;
      first = (forward, told_first history c.args.steps.now are c.in_ok-reads.reads.owners c.in_ok-reads.reads.wrong.items c.item_at-first.result reads.owners reads.wrong at);
      undecided = tt;
    }

pub arranged-requires-clause-owners : goal.arranged-requires-clause-owners
arranged-requires-clause-owners c =
    let reads = c.in_ok-reads.ensures in
    all_sure c.args.steps.now c.in_ok-reads.reads.owners reads.owners (none_by_stamps End c.args.steps.now c.in_ok-reads.reads.owners.wrong.items c.in_ok-reads.reads.wrong.items reads.wrong (no_items c.in_ok-reads.reads.wrong.items c.as_slice-listed.result.now c.as_slice-listed.ensures.value c.if-not-is_empty.ensures))
