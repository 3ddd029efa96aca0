-- What a lane is that was opened for callers in C.
use Rattle.std.proofs.Common.{◌≡◌, ℕ, ap, ◌∙◌, subst}
use Rattle.record_pages.specs.declared.layout.Layout.{Layout}
use Rattle.key_hash.specs.declared.random_seed.RandomSeed.{RandomSeed}
use Rattle.key_hash.specs.Hashing.{derived}
use Rattle.page_device.specs.Counting.{CountedDevice, no_device_counts}
use Rattle.rand_pcg.specs.Lcg.{Lcg}
use Rattle.service_lane.specs.Serving.{Serving, OpensServing}
use Rattle.c_lane.specs.declared.lane_shape.LaneShape.{LaneShape}
use Rattle.c_lane.specs.declared.seed.Seed.{Seed}
use Rattle.service_lane.specs.Words.{words_for}
use Rattle.c_lane.specs.Opening.{Opens}
use Rattle.c_lane.specs.Placing.{seed_of}
use Rattle.c_lane.specs.Shapes.{IsLayoutOf}

-- what the lane below was opened as, is what is promised
pub opens : {D : Type 0} (s : LaneShape) (layout : Layout) (seed : Seed) (number : ℕ) (device boxed : D) (counted : CountedDevice D) (random table : RandomSeed) (words : Lcg) (serving : Serving (CountedDevice D)) →
    IsLayoutOf s layout → boxed ≡ device → counted ≡ record { device = boxed; counts = no_device_counts } → random ≡ seed_of seed → words ≡ words_for random number → table ≡ derived random number →
    OpensServing layout s.lease_slots s.bring_back number table counted serving →
    Opens s seed number device (record { serving = serving; words = words })
opens {D} s layout seed number device boxed counted random table words serving is boxed_is counted_is random_is words_is table_is opened =
    let table_is_derived : table ≡ derived (seed_of seed) number = table_is ∙ ap (λ (r : RandomSeed). derived r number) random_is in
    let device_is : counted ≡ record { device = device; counts = no_device_counts } = counted_is ∙ ap (λ (d : D). record { device = d; counts = no_device_counts }) boxed_is in
    record {
      layout = layout;
      numbers = is.numbers;
      serving =
          subst (λ (t : RandomSeed). OpensServing layout s.lease_slots s.bring_back number t (record { device = device; counts = no_device_counts }) serving) table_is_derived
          (subst (λ (d : CountedDevice D). OpensServing layout s.lease_slots s.bring_back number table d serving) device_is opened);
      words = words_is ∙ ap (λ (r : RandomSeed). words_for r number) random_is;
    }
