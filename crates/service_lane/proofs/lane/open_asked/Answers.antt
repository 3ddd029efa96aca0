-- What the store of a new lane is.
use Rattle.std.proofs.Common.{◌≡◌, ℕ, [], Option, ap, sym, ◌∙◌, subst}
use Rattle.cache_sizes.specs.Memory.{strikes_of}
use Rattle.record_pages.specs.Asked.{HasNumbersOf}
use Rattle.record_pages.specs.declared.layout.Layout.{Layout}
use Rattle.mover.specs.Store.{StoreState, opening_with}
use Rattle.service_lane.specs.Copies.{CopyAsked, CopyList, copies_for, copies_of, numbers_without}
use Rattle.service_lane.specs.Serving.{opening_to_serve}
use Rattle.service_lane.proofs.lane.open_asked.Goals as goal

-- nothing was asked of it yet
abbrev unasked : {D : Type 0} → StoreState D → Option CopyList → CopyAsked D
unasked store copies = record { store = store; deeds = []; copies = copies }

is_opened :
    {D : Type 0} (asked : CopyAsked D) (layout parted : Layout) (device : D) (strikes bring_back objects : ℕ) (copies : Option CopyList) → asked ≡ unasked (opening_with strikes parted device) copies → strikes ≡ strikes_of layout.sets → parted.sets ≡ layout.sets →
    copies ≡ copies_for bring_back objects → objects ≡ copies_of bring_back layout.memory → asked ≡ unasked (opening_to_serve asked.store.layout device) (copies_for bring_back (copies_of bring_back layout.memory))
is_opened {D} asked layout parted device strikes bring_back objects copies is strikes_are sets copies_are objects_are =
    let same : asked.store.layout ≡ parted = ap (λ (s : CopyAsked D). s.store.layout) is in
    is ∙ ap (λ (n : ℕ). unasked (opening_with n parted device) copies) (strikes_are ∙ ap strikes_of (sym sets)) ∙ ap (λ (l : Layout). unasked (opening_to_serve l device) copies) (sym same)
    ∙ ap (λ (c : Option CopyList). unasked (opening_to_serve asked.store.layout device) c) (copies_are ∙ ap (copies_for bring_back) objects_are)

pub returns-clause-numbers : goal.returns-clause-numbers
returns-clause-numbers g c =
    let layout = c.args.layout.now in
    subst (λ (s : CopyAsked g.row.D.Denot). HasNumbersOf s.store.layout (numbers_without layout (copies_of c.args.bring_back layout.memory))) (sym c.in_ok-asked.ensures)
    (subst (λ (n : ℕ). HasNumbersOf c.without_copies-parted.result (numbers_without layout n)) c.copies_of-objects.ensures.share c.without_copies-parted.ensures)

pub returns-clause-opened : goal.returns-clause-opened
returns-clause-opened g c =
    is_opened c.in_ok-asked.asked c.args.layout.now c.without_copies-parted.result c.args.device c.strikes_of-strikes.result c.args.bring_back c.copies_of-objects.result c.in_ok-copies.copies c.in_ok-asked.ensures c.strikes_of-strikes.ensures.strikes c.without_copies-parted.ensures.sets
    c.in_ok-copies.ensures.kept c.copies_of-objects.ensures.share
