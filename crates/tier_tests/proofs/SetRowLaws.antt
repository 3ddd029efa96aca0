-- What the rows stand on.
use Rattle.std.proofs.Common.{◌≡◌, ◌≢◌, ℕ, ◌<◌, Bool, true, false, ◌||◌, cond, eqb, List, Option, Some, None, Result, Ok, sym, ap, subst, ◌∙◌}
use Rattle.std.proofs.lemmas.Bool.{ne_eqb, OnTrue_at, OnFalse_at}
use Rattle.std.specs.Bool.{OnTrue, OnFalse}
use Rattle.std.specs.Prelude.{IsSomeAnd}
use Rattle.std.specs.declared.alloc.AllocError.{AllocError}
use Rattle.std.specs.Cmp.{nat_cmp_total, unsigned_tied}
use Rattle.std.specs.FinSet.{contains, contains-insert}
use Rattle.record_pages.specs.PageText.{SetPageParts}
use Rattle.record_pages.specs.Reading.{set_page_at}
use Rattle.record_pages.specs.declared.looked.Looked.{Looked}
use Rattle.record_pages.specs.declared.looked.Looked.TheVariants as looked
use Rattle.kset.specs.declared.set_read.SetRead.{SetRead}
use Rattle.kset.specs.declared.set_read.SetRead.TheVariants as read
use Rattle.kset.specs.declared.set_record.SetRecord.{SetRecord}
use Rattle.kset.specs.Notes.{Notes, with_hit}
use Rattle.kset.specs.Sets.{SetsState, set_count, notes_of, hit_in}
use Rattle.kset.specs.Telling.{page_if_of}
use Rattle.kset.specs.After.{IsForeign}
use Rattle.kset.specs.Look.{is_set_fault}
use Rattle.kset.proofs.public_laws.NotesLaws.{notes_of-with}
use Rattle.tier_tests.specs.Another.{IsOfAnother}

-- what is noted of a set once a slot of it is touched
pub touched-own : (old new : SetsState) (set slot other : ℕ) → set < set_count old → new ≡ hit_in old set slot →
    contains (notes_of new set).hits other ≡ (eqb other slot || contains (notes_of old set).hits other)
touched-own old new set slot other within touched =
    ap (λ (k : SetsState). contains (notes_of k set).hits other) touched
    ∙ ap (λ (n : Notes). contains n.hits other) (notes_of-with old set (with_hit (notes_of old set) slot) within)
    ∙ contains-insert nat_cmp_total (notes_of old set).hits slot other
    ∙ ap (λ b. b || contains (notes_of old set).hits other) (unsigned_tied other slot)

-- the page of another set is foreign
pub foreign : (set : ℕ) (known : Option (List ℕ)) → IsOfAnother set known → IsForeign set known
foreign set None another = another
foreign set (Some bytes) another = none (set_page_at bytes) another
  where
    none : (o : Option SetPageParts) → IsSomeAnd o (λ p. p.set ≢ set) → page_if_of set o ≡ None
    none None differs = absurd differs
    none (Some p) differs = ap (λ b. cond b (Some p) None) (ne_eqb p.set set differs)

-- off a foreign page nothing is answered but a fault or damage
pub off_foreign : (shows : Bool) (result other : Result Looked AllocError) → shows ≡ true → OnTrue shows (OnFalse (is_set_fault result) (result ≡ Ok looked.Damaged)) →
    is_set_fault other ≡ false → other ≢ Ok looked.Damaged → result ≢ other
off_foreign shows result other on damaged sound differs same =
    let here : OnFalse (is_set_fault result) (result ≡ Ok looked.Damaged) = OnTrue_at on damaged in
    let there : OnFalse (is_set_fault other) (other ≡ Ok looked.Damaged) = subst (λ (r : Result Looked AllocError). OnFalse (is_set_fault r) (r ≡ Ok looked.Damaged)) same here in
    differs (OnFalse_at sound there)

pub hit_or_damaged : (value : List ℕ) → ◌≢◌ {A = Result Looked AllocError} (Ok (looked.Hit value)) (Ok looked.Damaged)
hit_or_damaged value same = cc

pub absent_or_damaged : ◌≢◌ {A = Result Looked AllocError} (Ok looked.Absent) (Ok looked.Damaged)
absent_or_damaged same = cc

-- no records are read if the page is lost
pub none_read : (answer : Result SetRead AllocError) (records : List SetRecord) → answer ≡ Ok read.PageLost → answer ≢ Ok (read.Records records)
none_read answer records lost same = let both : ◌≡◌ {A = Result SetRead AllocError} (Ok (read.Records records)) (Ok read.PageLost) = sym same ∙ lost in cc
