use Rattle.std.proofs.Common.{◌∷◌, [], ◌++◌, ◌<◌, length, arith, ap}
use Rattle.std.proofs.lemmas.List.{length-append}
use Rattle.record_pages.specs.Sizes.{max_log_records}
use Rattle.record_pages.specs.Lent.{record_shown}
use Rattle.record_pages.proofs.MakingLaws.{fit_log_parts, sizes_small, log_push}
use Rattle.record_pages.proofs.log_page_writer.LogPageWriter.push.Goals as goal

pub overflow_cast-self : goal.overflow_cast-self
overflow_cast-self g c = omega (arith, c.text.ensures.size, sizes_small g.row.PAGE c.self.inside.body c.len-slot.ensures.fits c.len-slot.ensures.each)

pub invariant_of-self : goal.invariant_of-self
invariant_of-self g c =
    let w = c.self.inside in
    let r = record_shown c.args.added in
    let few = (fit_log_parts g.row.PAGE (c.args.self.now ++ r ∷ []) c.requires.fits).few in
    let less : length w.body < max_log_records = omega (arith, few, length-append c.args.self.now (r ∷ []), ap length c.self.view_is) in
    rw (c.push.ensures, c.len-slot.ensures.len, c.text.ensures.size) (log_push w.body w.starts r c.self.invariant less (omega (arith, less, c.self.told)))
