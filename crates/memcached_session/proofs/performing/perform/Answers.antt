-- What is asked is done by its own function, and answered so.
use Rattle.std.proofs.Common.{◌≡◌, Ok, sym, subst}
use Rattle.record_pages.specs.Bounded.{IsKey}
use Rattle.service_lane.specs.Serving.{Serving}
use Rattle.memcached_session.specs.declared.keyed.Keyed.{Keyed}
use Rattle.memcached_session.specs.Doing.{DoesKeyed}
use Rattle.memcached_session.specs.Fitting.{AsksFlags}
use Rattle.memcached_session.specs.Framing.{Frame, frame_of}
use Rattle.memcached_session.specs.Keyed.{keyed_shown, key_in}
use Rattle.memcached_session.specs.Saying.{Said, said_shown}
use Rattle.memcached_session.proofs.performing.perform.Goals as goal

-- what was done is what was asked
as_asked : {D : Type 0} (f : Frame D) (old : Serving D) (said : Said) (new : Serving D) (keyed other : Keyed) → keyed ≡ other → DoesKeyed f (keyed_shown other) old said new → DoesKeyed f (keyed_shown keyed) old said new
as_asked f old said new keyed other is does = subst (λ (k : Keyed). DoesKeyed f (keyed_shown k) old said new) (sym is) does

-- its key is one
key_of : (keyed other : Keyed) → keyed ≡ other → IsKey (key_in (keyed_shown keyed)) → IsKey (key_in (keyed_shown other))
key_of keyed other is key = subst (λ (k : Keyed). IsKey (key_in (keyed_shown k))) is key

-- its flags have no fault
flags_of : (keyed other : Keyed) → keyed ≡ other → AsksFlags (keyed_shown keyed) → AsksFlags (keyed_shown other)
flags_of keyed other is flags = subst (λ (k : Keyed). AsksFlags (keyed_shown k)) is flags

pub returns-in-Get-clause-does : goal.returns-in-Get-clause-does
returns-in-Get-clause-does g c =
    let d = g.D.PageDevice in
    let a = c.args in
    as_asked (frame_of g.row.PAGE d.honest d.failures d.held a.turn.command a.turn.cas) a.lane.now (said_shown c.to_item.result) c.get.new.lane a.keyed _ c.in-Get.is
    (record { item = c.get.result; looks = c.get.ensures.looks; said_is = c.to_item.ensures.said })

pub returns-in-Get-clause-fits : goal.returns-in-Get-clause-fits
returns-in-Get-clause-fits g c = c.to_item.ensures.fits

pub returns-in-GetAndTouch-clause-does : goal.returns-in-GetAndTouch-clause-does
returns-in-GetAndTouch-clause-does g c =
    let d = g.D.PageDevice in
    let a = c.args in
    as_asked (frame_of g.row.PAGE d.honest d.failures d.held a.turn.command a.turn.cas) a.lane.now (said_shown c.find_and_touch.result) c.find_and_touch.new.lane a.keyed _ c.in-GetAndTouch.is
    (c.find_and_touch.ensures.does a.turn.cas)

pub returns-in-GetAndTouch-clause-fits : goal.returns-in-GetAndTouch-clause-fits
returns-in-GetAndTouch-clause-fits g c = c.find_and_touch.ensures.fits

pub returns-in-Store-clause-does : goal.returns-in-Store-clause-does
returns-in-Store-clause-does g c =
    let d = g.D.PageDevice in
    let a = c.args in
    as_asked (frame_of g.row.PAGE d.honest d.failures d.held a.turn.command a.turn.cas) a.lane.now (said_shown c.to_reply.result) c.store.new.lane a.keyed _ c.in-Store.is
    (record { result = c.store.result; does_it = c.store.ensures; said_is = c.to_reply.ensures.said })

pub returns-in-Store-clause-fits : goal.returns-in-Store-clause-fits
returns-in-Store-clause-fits g c = c.to_reply.ensures.fits

pub returns-in-TooLarge-clause-does : goal.returns-in-TooLarge-clause-does
returns-in-TooLarge-clause-does g c =
    let d = g.D.PageDevice in
    let a = c.args in
    as_asked (frame_of g.row.PAGE d.honest d.failures d.held a.turn.command a.turn.cas) a.lane.now (said_shown c.remove_large.result) c.remove_large.new.lane a.keyed _ c.in-TooLarge.is
    (c.remove_large.ensures.does)

pub returns-in-TooLarge-clause-fits : goal.returns-in-TooLarge-clause-fits
returns-in-TooLarge-clause-fits g c = c.remove_large.ensures.fits

pub returns-in-Delete-clause-does : goal.returns-in-Delete-clause-does
returns-in-Delete-clause-does g c =
    let d = g.D.PageDevice in
    let a = c.args in
    as_asked (frame_of g.row.PAGE d.honest d.failures d.held a.turn.command a.turn.cas) a.lane.now (said_shown c.to_reply-in-Delete.result) c.delete.new.lane a.keyed _ c.in-Delete.is
    (record { result = Ok c.delete.result; does_it = c.delete.ensures; said_is = c.to_reply-in-Delete.ensures.said })

pub returns-in-Delete-clause-fits : goal.returns-in-Delete-clause-fits
returns-in-Delete-clause-fits g c = c.to_reply-in-Delete.ensures.fits

pub returns-in-Delta-clause-does : goal.returns-in-Delta-clause-does
returns-in-Delta-clause-does g c =
    let d = g.D.PageDevice in
    let a = c.args in
    as_asked (frame_of g.row.PAGE d.honest d.failures d.held a.turn.command a.turn.cas) a.lane.now (said_shown c.to_reply-in-Delta.result) c.count.new.lane a.keyed _ c.in-Delta.is
    (record { result = c.count.result; does_it = c.count.ensures; said_is = c.to_reply-in-Delta.ensures.said })

pub returns-in-Delta-clause-fits : goal.returns-in-Delta-clause-fits
returns-in-Delta-clause-fits g c = c.to_reply-in-Delta.ensures.fits

pub returns-in-Touch-clause-does : goal.returns-in-Touch-clause-does
returns-in-Touch-clause-does g c =
    let d = g.D.PageDevice in
    let a = c.args in
    as_asked (frame_of g.row.PAGE d.honest d.failures d.held a.turn.command a.turn.cas) a.lane.now (said_shown c.to_reply-in-Touch.result) c.touch_key.new.lane a.keyed _ c.in-Touch.is
    (record { result = c.touch_key.result; does_it = c.touch_key.ensures; said_is = c.to_reply-in-Touch.ensures.said })

pub returns-in-Touch-clause-fits : goal.returns-in-Touch-clause-fits
returns-in-Touch-clause-fits g c = c.to_reply-in-Touch.ensures.fits

pub returns-in-MetaGet-clause-does : goal.returns-in-MetaGet-clause-does
returns-in-MetaGet-clause-does g c =
    let d = g.D.PageDevice in
    let a = c.args in
    as_asked (frame_of g.row.PAGE d.honest d.failures d.held a.turn.command a.turn.cas) a.lane.now (said_shown c.perform_get.result) c.perform_get.new.lane a.keyed _ c.in-MetaGet.is
    (c.perform_get.ensures.does)

pub returns-in-MetaGet-clause-fits : goal.returns-in-MetaGet-clause-fits
returns-in-MetaGet-clause-fits g c = c.perform_get.ensures.fits

pub returns-in-MetaSet-clause-does : goal.returns-in-MetaSet-clause-does
returns-in-MetaSet-clause-does g c =
    let d = g.D.PageDevice in
    let a = c.args in
    as_asked (frame_of g.row.PAGE d.honest d.failures d.held a.turn.command a.turn.cas) a.lane.now (said_shown c.perform_set.result) c.perform_set.new.lane a.keyed _ c.in-MetaSet.is
    (c.perform_set.ensures.does)

pub returns-in-MetaSet-clause-fits : goal.returns-in-MetaSet-clause-fits
returns-in-MetaSet-clause-fits g c = c.perform_set.ensures.fits

pub returns-in-MetaDelete-clause-does : goal.returns-in-MetaDelete-clause-does
returns-in-MetaDelete-clause-does g c =
    let d = g.D.PageDevice in
    let a = c.args in
    as_asked (frame_of g.row.PAGE d.honest d.failures d.held a.turn.command a.turn.cas) a.lane.now (said_shown c.perform_delete.result) c.perform_delete.new.lane a.keyed _ c.in-MetaDelete.is
    (c.perform_delete.ensures.does)

pub returns-in-MetaDelete-clause-fits : goal.returns-in-MetaDelete-clause-fits
returns-in-MetaDelete-clause-fits g c = c.perform_delete.ensures.fits

pub returns-in-MetaDelta-clause-does : goal.returns-in-MetaDelta-clause-does
returns-in-MetaDelta-clause-does g c =
    let d = g.D.PageDevice in
    let a = c.args in
    as_asked (frame_of g.row.PAGE d.honest d.failures d.held a.turn.command a.turn.cas) a.lane.now (said_shown c.perform_delta.result) c.perform_delta.new.lane a.keyed _ c.in-MetaDelta.is
    (c.perform_delta.ensures.does)

pub returns-in-MetaDelta-clause-fits : goal.returns-in-MetaDelta-clause-fits
returns-in-MetaDelta-clause-fits g c = c.perform_delta.ensures.fits

pub get-requires : goal.get-requires
get-requires g c = (assumption, key_of c.args.keyed _ c.in-Get.is c.requires.key)

pub find_and_touch-requires : goal.find_and_touch-requires
find_and_touch-requires g c = (assumption, key_of c.args.keyed _ c.in-GetAndTouch.is c.requires.key)

pub store-requires : goal.store-requires
store-requires g c = (assumption, key_of c.args.keyed _ c.in-Store.is c.requires.key)

pub remove_large-requires : goal.remove_large-requires
remove_large-requires g c = (assumption, key_of c.args.keyed _ c.in-TooLarge.is c.requires.key)

pub delete-requires : goal.delete-requires
delete-requires g c = (assumption, key_of c.args.keyed _ c.in-Delete.is c.requires.key)

pub count-requires : goal.count-requires
count-requires g c = (assumption, key_of c.args.keyed _ c.in-Delta.is c.requires.key)

pub touch_key-requires : goal.touch_key-requires
touch_key-requires g c = (assumption, key_of c.args.keyed _ c.in-Touch.is c.requires.key)

pub perform_get-requires : goal.perform_get-requires
perform_get-requires g c = (assumption, (key_of c.args.keyed _ c.in-MetaGet.is c.requires.key, flags_of c.args.keyed _ c.in-MetaGet.is c.requires.flags))

pub perform_set-requires : goal.perform_set-requires
perform_set-requires g c = (assumption, (key_of c.args.keyed _ c.in-MetaSet.is c.requires.key, flags_of c.args.keyed _ c.in-MetaSet.is c.requires.flags))

pub perform_delete-requires : goal.perform_delete-requires
perform_delete-requires g c = (assumption, (key_of c.args.keyed _ c.in-MetaDelete.is c.requires.key, flags_of c.args.keyed _ c.in-MetaDelete.is c.requires.flags))

pub perform_delta-requires : goal.perform_delta-requires
perform_delta-requires g c = (assumption, (key_of c.args.keyed _ c.in-MetaDelta.is c.requires.key, flags_of c.args.keyed _ c.in-MetaDelta.is c.requires.flags))

pub to_item-requires : goal.to_item-requires
to_item-requires g c = record { key = key_of c.args.keyed _ c.in-Get.is c.requires.key; within = c.get.ensures.within }
