-- How a move ends, tier by tier.
use Rattle.std.proofs.Common.{append_assoc, ◌≡◌, ◌+◌, ℕ, List, [], ◌∷◌, ◌++◌, map, take, Option, Some, sym, ap, ◌∙◌}
use Rattle.std.specs.Prelude.{slice_get}
use Rattle.std.specs.List.{filter_map}
use Rattle.std.specs.Option.{option_map}
use Rattle.std.proofs.lemmas.List.{take_more, map-append}
use Rattle.std.proofs.lemmas.Option.{slice_get_within, get_or_from_slice_get}
use Rattle.page_device.specs.Frames.{pages_from}
use Rattle.record_pages.specs.Recs.{Rec}
use Rattle.klog.specs.Log.{LogState}
use Rattle.klog.specs.Shown.{live_on, shown}
use Rattle.kset.specs.declared.rewritten.Rewritten.{Rewritten}
use Rattle.kset.specs.declared.rewritten.Rewritten.TheVariants as rewritten
use Rattle.kset.specs.Rewrite.{after_rewrite}
use Rattle.kset.specs.After.{shown_after_rewriting}
use Rattle.kset.specs.Sets.{SetsState}
use Rattle.kset.specs.Shown.{visible_in}
use Rattle.mover.specs.Store.{StoreState}
use Rattle.mover.specs.Lane.{lane_of}
use Rattle.mover.specs.Commit.{lane_rewritten}

-- the same later pages show the same live records
pub live_framed : (old new : ℕ → Option (List ℕ)) (k : LogState) → pages_from k.shape.sets new ≡ pages_from k.shape.sets old → live_on new k ≡ live_on old k
live_framed old new k frame = λ i. filter_map (λ e. option_map (λ r. (e, r)) (shown (frame i) k e)) k.entries

-- a rewriting of a set is one of the lane
pub lane_rewrote : {D : Type 0} (held : D → ℕ → Option (List ℕ)) (s : StoreState D) (d : D) (q : SetsState) (set : ℕ) (rs : List Rec) (answer : Rewritten) → q ≡ after_rewrite s.sets set rs answer →
    pages_from s.log.shape.sets (held d) ≡ pages_from s.log.shape.sets (held s.device) →
    visible_in (held d) q ≡ shown_after_rewriting answer set rs (visible_in (held s.device) s.sets) →
    lane_of held (record s { device = d; sets = q }) ≡ lane_rewritten set rs answer (lane_of held s)
lane_rewrote held s d q set rs answer is apart shown = step answer is shown
  where
    lane_as : (sets : SetsState) (visible : ℕ → List (ℕ × Rec)) → q ≡ sets → visible_in (held d) q ≡ visible →
        lane_of held (record s { device = d; sets = q }) ≡ record (lane_of held s) { sets = sets; visible = visible }
    lane_as sets visible e f = λ i. record {
      memory = s.memory;
      log = s.log;
      live = live_framed (held s.device) (held d) s.log apart i;
      sets = e i;
      flights = s.flights;
      visible = f i;
      moves = s.moves;
    }

    step : (answer : Rewritten) → q ≡ after_rewrite s.sets set rs answer → visible_in (held d) q ≡ shown_after_rewriting answer set rs (visible_in (held s.device) s.sets) →
        lane_of held (record s { device = d; sets = q }) ≡ lane_rewritten set rs answer (lane_of held s)
    step rewritten.Written is shown = lane_as _ _ is shown
    step rewritten.Forgotten is shown = lane_as _ _ is shown

-- the places of one record more
pub map_more : {X Y : Type 0} (f : X → Y) (xs : List X) (n : ℕ) (x : X) → slice_get xs n ≡ Some x → map f (take (n + 1) xs) ≡ map f (take n xs) ++ f x ∷ []
map_more f xs n x at =
    ap (map f) (take_more xs n x (slice_get_within xs n x at) ∙ ap (λ y. take n xs ++ y ∷ []) (get_or_from_slice_get xs n x x at)) ∙ map-append f (take n xs) (x ∷ [])

-- one item more is listed
pub added_more : {X Y : Type 0} (f : X → Y) (xs : List X) (n : ℕ) (x : X) (y : Y) (first before after : List Y) → slice_get xs n ≡ Some x → before ≡ first ++ map f (take n xs) → after ≡ before ++ y ∷ [] → y ≡ f x →
    after ≡ first ++ map f (take (n + 1) xs)
added_more f xs n x y first before after at so_far step is =
    step ∙ (λ i. so_far i ++ is i ∷ []) ∙ append_assoc first (map f (take n xs)) (f x ∷ []) ∙ ap (λ ys. first ++ ys) (sym (map_more f xs n x at))
