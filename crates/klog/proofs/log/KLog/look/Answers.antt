use Rattle.std.proofs.Common.{refl, sym, ◌∙◌}
use Rattle.klog.proofs.LocateLaws.{looks, wants}
use Rattle.klog.proofs.log.KLog.look.Goals as goal

pub returns-in-Absent : goal.returns-in-Absent
returns-in-Absent g c = looks c.args.key.now c.locate.new.found c.args.self.now c.bytes.ensures.value refl refl c.in-Absent.ensures

pub returns-in-Expired : goal.returns-in-Expired
returns-in-Expired g c = looks c.args.key.now c.locate.new.found c.args.self.now c.bytes.ensures.value refl refl c.in-Expired.ensures

pub returns-in-Fault : goal.returns-in-Fault
returns-in-Fault g c = looks c.args.key.now c.locate.new.found c.args.self.now c.bytes.ensures.value refl refl c.in-Fault.ensures

pub returns-in-Damaged : goal.returns-in-Damaged
returns-in-Damaged g c = looks c.args.key.now c.locate.new.found c.args.self.now c.bytes.ensures.value refl refl c.in-Damaged.ensures

pub returns-in-Ok : goal.returns-in-Ok
returns-in-Ok g c = looks c.args.key.now c.in-Ok.value c.touch.new.self c.bytes.ensures.value (sym (c.in-Ok.ensures.ok.0 ∙ c.bytes-in-Hit.ensures.value)) c.touch.ensures.touched c.in-Hit.ensures

pub returns-in_default : goal.returns-in_default
returns-in_default g c = wants c.args.key.now _ c.bytes.ensures.value c.in-Hit.ensures
