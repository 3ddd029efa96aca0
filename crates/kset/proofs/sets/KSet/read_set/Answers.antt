use Rattle.std.proofs.Common.{rules, ◌≡◌, ◌≢◌, List, refl, sym, ap, ◌∙◌}
use Rattle.std.proofs.lemmas.Bool.{false≢true}
use Rattle.std.specs.FinSet.{empty}
use Rattle.page_device.specs.Frames.{pages_before}
use Rattle.record_pages.specs.Recs.{Rec}
use Rattle.kset.specs.Sets.{SetsState, notes_of, set_count}
use Rattle.kset.specs.Pages.{page_records}
use Rattle.kset.specs.Shown.{with_flags, visible_from}
use Rattle.kset.proofs.LookLaws.{reads_page, records_read, some_read, visible_from-empty}
use Rattle.kset.proofs.public_laws.ShownLaws.{shown-lost}
use Rattle.kset.proofs.sets.KSet.read_set.Goals as goal

pub returns-then-is_empty : goal.returns-then-is_empty
returns-then-is_empty g c =
    let notes = notes_of c.args.self.now c.args.set in
    let records = page_records (g.D.PageDevice.held c.args.device.now) c.args.self.now c.args.set in
    let none : notes.filter ≡ empty = sym (ap (λ (k : SetsState). (notes_of k c.args.set).filter) c.self.view_is) ∙ c.if-is_empty.ensures.0 refl in
    record {
      reads = search rules;
      keeps = search rules;
      leaves = search rules;
      unread = search rules;
      gives = λ honest spelled. c.new.ensures ∙ ap (with_flags notes) (sym (visible_from-empty notes none 0 records));
      foreign = λ _ _ some. absurd (some none);
      short = search rules;
      shown = search rules;
    }

pub returns-in_default : goal.returns-in_default
returns-in_default g c =
    let d = g.D.PageDevice in
    let some : (notes_of c.args.self.now c.args.set).filter ≢ empty =
    λ e. false≢true (c.if-is_empty.ensures.1 (ap (λ (k : SetsState). (notes_of k c.args.set).filter) c.self.view_is ∙ e)) in
    record {
      reads = search rules;
      keeps = search rules;
      leaves = search rules;
      unread = λ none. absurd (some none);
      gives = search rules;
      foreign = search rules;
      short = search rules;
      shown = λ honest. shown-lost (d.held c.args.device.now) (d.held c.read.new.self) c.args.self.now c.lose.new.self c.args.set c.lose.result
          c.requires.set (c.read.ensures.same honest) c.lose.ensures.lost c.lose.ensures.forgotten;
    }

pub returns-in_default-page_of : goal.returns-in_default-page_of
returns-in_default-page_of g c =
    let d = g.D.PageDevice in
    let set = c.args.set in
    let held = d.held c.args.device.now in
    let count = set_count c.args.self.now in
    let lose = c.lose-in_default-page_of in
    let some : (notes_of c.args.self.now set).filter ≢ empty =
    λ e. false≢true (c.if-is_empty.ensures.1 (ap (λ (k : SetsState). (notes_of k c.args.set).filter) c.self.view_is ∙ e)) in
    record {
      reads = search rules;
      keeps = search rules;
      leaves = search rules;
      unread = λ none. absurd (some none);
      gives = λ honest spelled. absurd (some_read g.row.PAGE set (pages_before count held set) c.read.new.into
          (reads_page g.row.PAGE count set held c.read.new.into c.requires.set (spelled set some) (c.in-Ok.ensures.known honest)) c.in_default-page_of.ensures.page);
      foreign = search rules;
      short = search rules;
      shown = λ honest. shown-lost held (d.held c.read.new.self) c.args.self.now lose.new.self set lose.result
          c.requires.set (c.read.ensures.same honest) lose.ensures.lost lose.ensures.forgotten;
    }

pub returns : goal.returns
returns g c =
    let set = c.args.set in
    let held = g.D.PageDevice.held c.args.device.now in
    let count = set_count c.args.self.now in
    let notes = notes_of c.args.self.now set in
    let some : notes.filter ≢ empty =
    λ e. false≢true (c.if-is_empty.ensures.1 (ap (λ (k : SetsState). (notes_of k c.args.set).filter) c.self.view_is ∙ e)) in
    record {
      reads = search rules;
      keeps = search rules;
      leaves = search rules;
      unread = λ none. absurd (some none);
      gives = λ honest spelled.
          let r = reads_page g.row.PAGE count set held c.read.new.into c.requires.set (spelled set some) (c.in-Ok.ensures.known honest) in
          c.in_ok-records.ensures.visible
          ∙ ap (λ (k : SetsState). with_flags (notes_of k set) (visible_from (notes_of k set) 0 c.records.result)) c.self.view_is
          ∙ ap (λ (rs : List Rec). with_flags notes (visible_from notes 0 rs))
          (c.records.ensures ∙ records_read g.row.PAGE set (pages_before count held set) c.read.new.into c.in-Some.page r c.in-Some.ensures.page);
      foreign = search rules;
      short = search rules;
      shown = search rules;
    }
