use Rattle.std.proofs.Common.{◌≡◌, true, rules}
use Rattle.admission.specs.Chance.{is_admitted}
use Rattle.mover.proofs.store.Store.push_out.Goals as goal

pub returns-clause-gives : goal.returns-clause-gives
returns-clause-gives g c =
    let admitted : is_admitted c.args.self.now.layout.admit c.args.word ≡ true = search rules in
    rw admitted c.append.ensures.gives
