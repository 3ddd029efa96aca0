-- A time that is cut at the longest is added as the whole time is.
use Rattle.std.proofs.Common.{rules, arith, ◌≡◌, ◌∙◌, ap}
use Rattle.std.specs.Prelude.{min}
use Rattle.load.specs.Cells.{longest}
use Rattle.serve_load.specs.Times.{nanos_between}
use Rattle.serve_load.proofs.Sampling.{noted_cut}
use Rattle.serve_load.proofs.call_times.CallTimes.add_between.Goals as goal

pub returns : goal.returns
returns c =
    let a = c.args in
    let whole = c.as_nanos-taken.ensures ∙ c.duration_since.ensures in
    let bound = c.from.ensures in
    let cut : c.min.result ≡ min (nanos_between a.begin a.end) longest = omega (arith, whole, bound, c.min.ensures) in
    noted_cut a.operation (nanos_between a.begin a.end) c.min.result a.self.now.gets c.add.new.self.gets a.self.now.puts c.add.new.self.puts cut c.add.ensures
