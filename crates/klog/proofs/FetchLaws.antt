-- What reading the record of an entry gives.
use Rattle.std.proofs.Common.{◌≡◌, ◌≢◌, ℕ, ◌<◌, Bool, true, false, eqb, ◌&&◌, ◌||◌, List, Option, Some, None, Contains, sym, ap, subst, ◌∙◌}
use Rattle.std.specs.Prelude.{IsSome}
use Rattle.std.proofs.lemmas.Bool.{eq-eqb, ne_eqb}
use Rattle.std.proofs.lemmas.List.Elements.{All-contains}
use Rattle.page_device.specs.Device.{IsKnown}
use Rattle.page_device.specs.Frames.{pages_from}
use Rattle.record_pages.specs.Recs.{Rec}
use Rattle.record_pages.specs.Reading.{log_page_at}
use Rattle.klog_index.specs.declared.entry.Entry.{Entry}
use Rattle.klog.specs.declared.fetched.Fetched.{Fetched}
use Rattle.klog.specs.Log.{Shape, LogState}
use Rattle.klog.specs.Buffer.{record_in}
use Rattle.klog.specs.Names.{segment_of, flushed_number, filled_number, device_page}
use Rattle.klog.specs.Shown.{record_on, record_of_held, shown_on}
use Rattle.klog.specs.Known.{IsBufferOf, IsPageKnown}
use Rattle.klog.specs.Keeps.{IsHeld, IsLog}
use Rattle.klog.specs.Fetch.{stored_on, FetchGives}
use Rattle.klog.proofs.ShownLaws.{shown_filled, shown_flushed, shown_stored}

-- an entry of a log is of a page of its segments
pub page_within : (k : LogState) (e : Entry) → IsLog k → Contains k.entries e → e.place.page < k.shape.segment_pages
page_within k e log listed = (All-contains (IsHeld k) k.entries e log.held listed).page

-- what is read of a page gives what the page is known to hold, if it is known
pub read_gives : (bytes : ℕ) (shape : Shape) (e : Entry) (segment page slot : ℕ) (known : Option (List ℕ)) (text : List ℕ) (f : Fetched) → IsKnown known text → IsSome known
    → FetchGives bytes shape e (record_on segment page slot (log_page_at text)) f → FetchGives bytes shape e (record_of_held segment page slot known) f
unfolding record_on
read_gives bytes shape e segment page slot (Some text') text f is some h = subst (λ (t : List ℕ). FetchGives bytes shape e (record_on segment page slot (log_page_at t)) f) is h
read_gives bytes shape e segment page slot None text f is some h = absurd cc

-- the same of an entry's page
pub stored_gives : (bytes : ℕ) (held : ℕ → Option (List ℕ)) (k : LogState) (e : Entry) (number at : ℕ) (text : List ℕ) (found : Option Rec) (f : Fetched) → IsPageKnown held k e → number ≡ segment_of k e
    → at ≡ device_page k (segment_of k e) e.place.page → IsKnown (held at) text → found ≡ record_on number e.place.page e.place.slot (log_page_at text)
    → FetchGives bytes k.shape e found f → FetchGives bytes k.shape e (stored_on held k e) f
stored_gives bytes held k e number at text found f some number_is at_is known found_is h =
    read_gives bytes k.shape e (segment_of k e) e.place.page e.place.slot (held (device_page k (segment_of k e) e.place.page)) text f
    (subst (λ (n : ℕ). IsKnown (held n) text) at_is known) some
    (subst (λ (o : Option Rec). FetchGives bytes k.shape e o f) (found_is ∙ ap (λ (n : ℕ). record_on n e.place.page e.place.slot (log_page_at text)) number_is) h)

-- what a buffer has of an entry is what the log shows of it
pub buffered_gives : (bytes : ℕ) (held : ℕ → Option (List ℕ)) (pages : List (List Rec)) (k : LogState) (e : Entry) (found : Option Rec) (f : Fetched) → IsBufferOf pages k e
    → found ≡ record_in pages e.place.page e.place.slot → FetchGives bytes k.shape e found f → FetchGives bytes k.shape e (shown_on held k e) f
buffered_gives bytes held pages k e found f its found_is h = subst (λ (o : Option Rec). FetchGives bytes k.shape e o f) (found_is ∙ its.shows held) h

-- the segment that is filled is the buffer of its entries
pub filled_buffer : (v k : LogState) (e : Entry) → v ≡ k → segment_of k e ≡ filled_number k → IsBufferOf v.filling k e
filled_buffer v k e is at = record {
  held = ap (λ (b : Bool). b || (k.is_flushing && eqb (segment_of k e) (flushed_number k))) (eq-eqb (segment_of k e) (filled_number k) at);
  shows = λ held. ap (λ (k : LogState). record_in k.filling e.place.page e.place.slot) is ∙ sym (shown_filled (pages_from k.shape.sets held) k e at);
}

-- and the segment that is flushed of its own
pub flushed_buffer : (v k : LogState) (e : Entry) → v ≡ k → segment_of k e ≢ filled_number k → k.is_flushing ≡ true → segment_of k e ≡ flushed_number k → IsBufferOf v.flushing k e
flushed_buffer v k e is not_filled flushing at = record {
  held = ap (λ (b : Bool). b || (k.is_flushing && eqb (segment_of k e) (flushed_number k))) (ne_eqb (segment_of k e) (filled_number k) not_filled)
      ∙ ap (λ (b : Bool). b && eqb (segment_of k e) (flushed_number k)) flushing ∙ eq-eqb (segment_of k e) (flushed_number k) at;
  shows = λ held. ap (λ (k : LogState). record_in k.flushing e.place.page e.place.slot) is ∙ sym (shown_flushed (pages_from k.shape.sets held) k e not_filled flushing at);
}

-- an entry whose segment is on the device
pub record IsStored (k : LogState) (e : Entry) : Type 0 where
  pub not_filled : segment_of k e ≢ filled_number k
  pub not_flushed : (k.is_flushing && eqb (segment_of k e) (flushed_number k)) ≡ false

pub stored_shows : (held : ℕ → Option (List ℕ)) (k : LogState) (e : Entry) → IsStored k e → shown_on held k e ≡ stored_on held k e
stored_shows held k e h = shown_stored (pages_from k.shape.sets held) k e h.not_filled h.not_flushed
