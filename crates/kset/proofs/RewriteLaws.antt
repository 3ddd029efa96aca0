-- What a rewriting of a set does, exit by exit.
use Rattle.std.proofs.Common.{◌≡◌, ℕ, ◌<◌, Bool, true, false, List, [], Option, Some, Ok, Err, ap, ◌∙◌}
use Rattle.std.specs.Prelude.{IsTrue}
use Rattle.page_device.specs.Device.{WritesPage}
use Rattle.page_device.specs.Lending.{OnlyWrites}
use Rattle.page_device.proofs.public_laws.FrameLaws.{write_below}
use Rattle.record_pages.specs.Recs.{Rec}
use Rattle.record_pages.specs.PageText.{SpellsSetPage, set_page_text}
use Rattle.kset.specs.declared.rewritten.Rewritten.TheVariants.{Written, Forgotten}
use Rattle.kset.specs.Notes.{no_notes, notes_of_page}
use Rattle.kset.specs.Sets.{SetsState, set_count, notes_of, next_write, tried}
use Rattle.kset.specs.Pages.{page_records}
use Rattle.kset.specs.Rewrite.{after_rewrite}
use Rattle.kset.specs.Keeps.{KeepsSets}
use Rattle.kset.specs.Calls.{SetRewrites}
use Rattle.kset.proofs.public_laws.NotesLaws.{notes_of-with}
use Rattle.kset.proofs.PageNotes.{visible_from-page}
use Rattle.kset.proofs.LookLaws.{written_records}
use Rattle.kset.proofs.public_laws.ShownLaws.{set_count-with, shown-anew, shown-refused}

module _ {D T E : Type 0} (size : ℕ) (pages : D → ℕ) (honest : D → Bool) (failures : D → ℕ) (held : D → ℕ → Option (List ℕ)) (set : ℕ) (rs : List Rec) (old : SetsState) (device : D) (new : SetsState) (device' : D) (bytes : List ℕ) (within : set < set_count old) where
  -- the page is written
  pub rewrites-written : (wrote : T) → new ≡ after_rewrite old set rs Written → OnlyWrites pages honest failures held set device false device' → KeepsSets size (honest device) (held device) old (held device') new →
      (IsTrue (honest device) → WritesPage {E = E} (held device) (held device') set bytes (Ok wrote)) →
      bytes ≡ set_page_text size set (next_write old) rs → SpellsSetPage size bytes (record { set = set; write = next_write old; records = rs }) →
      SetRewrites size pages honest failures held set rs old device Written new device'
  rewrites-written wrote leaves writes keeps page text spelled =
      let count = ap set_count leaves ∙ set_count-with (tried old) set (notes_of_page rs) in
      let noted = ap (λ (k : SetsState). notes_of k set) leaves ∙ notes_of-with (tried old) set (notes_of_page rs) within in
      let records : IsTrue (honest device) → page_records (held device') new set ≡ rs =
      λ is. written_records size (set_count old) (set_count new) set (held device') bytes (record { set = set; write = next_write old; records = rs }) count within (page is).written spelled in
      record {
        writes = writes;
        keeps = keeps;
        leaves = leaves;
        text = λ is. (page is).written ∙ ap Some text;
        records = records;
        shown = λ is. shown-anew (held device) (held device') old new set (notes_of_page rs) _ leaves (page is).others (visible_from-page _ _ rs noted (records is));
        apart = λ is. write_below (set_count old) set (held device) (held device') bytes _ (page is) within;
      }

  -- the device fails
  pub rewrites-forgotten : (e : E) → new ≡ after_rewrite old set rs Forgotten → OnlyWrites pages honest failures held set device true device' → KeepsSets size (honest device) (held device) old (held device') new →
      (IsTrue (honest device) → WritesPage {T = T} (held device) (held device') set bytes (Err e)) → SetRewrites size pages honest failures held set rs old device Forgotten new device'
  rewrites-forgotten e leaves writes keeps page = record {
    writes = writes;
    keeps = keeps;
    leaves = leaves;
    text = λ _. tt;
    records = λ _. tt;
    shown = λ is. shown-anew (held device) (held device') old new set no_notes [] leaves (page is).others (shown-refused (held device') old new set within leaves);
    apart = λ is. write_below (set_count old) set (held device) (held device') bytes _ (page is) within;
  }
