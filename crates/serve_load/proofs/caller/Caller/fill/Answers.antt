-- The word and the list after a fill.
use Rattle.std.proofs.Common.{rules, ◌≡◌, ap, get_or}
use Rattle.service_cache.specs.Seated.{put_of}
use Rattle.serve_load.specs.Calls.{put_by}
use Rattle.serve_load.proofs.Leasing.{looks}
use Rattle.serve_load.proofs.caller.Caller.fill.Goals as goal

pub returns-clause-looks : goal.returns-clause-looks
returns-clause-looks g c =
    let a = c.args in
    let load = a.shared.now.load.now in
    let o = c.object in
    let f = c.fill-filled in
    let words : o.new.self.words.items ≡ a.self.now.words.items = ap (λ w. w.items) o.ensures.words in
    let put : put_of c.in-Ok.name c.in-Ok.value c.expires_of.result ≡ put_by load a.self.now.number a.key a.number = search rules in
    let known : get_or o.new.self.words.items a.key c.index_mut-known.result.now ≡ c.index_mut-known.result.now = search rules in
    looks load a.self.now.number a.key a.number c.requires.leases a.self.now.words.items o.new.self.words.items c.index_mut-known.result.now c.word_after_fill.result a.self.now.seat o.new.self.seat f.new.seat (put_of c.in-Ok.name c.in-Ok.value c.expires_of.result) words o.ensures.seat put known f.result c.step_of_fill.result c.word_after_fill.ensures c.step_of_fill.ensures f.ensures.entered f.ensures.refused
