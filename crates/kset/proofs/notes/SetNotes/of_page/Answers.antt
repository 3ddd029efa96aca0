use Rattle.std.proofs.Common.{◌≡◌, ℕ, sym, ap, ◌∙◌}
use Rattle.bloom.specs.Filter.{with_bits}
use Rattle.set_hash.specs.Place.{probes_of}
use Rattle.set_hash.specs.declared.placed.Placed.{Placed}
use Rattle.record_pages.specs.Lent.{record_shown}
use Rattle.kset.specs.Notes.{Notes}
use Rattle.kset.proofs.PageNotes.{with_all, with_record, with_all-none}
use Rattle.kset.proofs.notes.SetNotes.of_page.Goals as goal

pub loop-lent-preserved : goal.loop-lent-preserved
loop-lent-preserved c =
    let notes = c.loop-lent.notes in
    let hashed = ap (λ (p : Placed). p.hash) c.place.ensures.placed in
    let joined : c.admit.new.self ≡ with_record notes (record_shown c.in-Some.lent) =
    c.admit.ensures ∙ ap (λ (h : ℕ). record notes { filter = with_bits notes.filter (probes_of h) }) hashed in
    ap (λ (n : Notes). with_all n c.next.new.self) joined
    ∙ ap (with_all notes) (sym c.in-Some.ensures.steps.steps)
    ∙ c.loop-lent.invariant

pub returns : goal.returns
returns c =
    ap (with_all c.loop-lent.notes) (sym c.in-None.ensures.steps.steps.0)
    ∙ c.loop-lent.invariant
    ∙ ap (λ (n : Notes). with_all n c.into_iter-lent-iterator.result) c.empty-notes.ensures
    ∙ ap (with_all _) c.into_iter-lent-iterator.ensures.into_iter_gives
    ∙ with_all-none c.args.records
