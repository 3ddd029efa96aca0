-- The counts are those of one of the load's callers.
use Rattle.std.proofs.Common.{arith, refl, sym}
use Rattle.serve_load.specs.Calls.{begun, first_generator, standing}
use Rattle.serve_load.proofs.Making.{complete, has_ended, is_tally, no_operations, none}
use Rattle.serve_load.proofs.caller.Caller.make_all.Goals as goal

pub invariant_of-result : goal.invariant_of-result
invariant_of-result g c = record {
  some = omega arith;
  few_refused = omega arith;
  whole = complete c.args.shared.now.load.now c.args.self.number (first_generator c.args.shared.now.load.now.seed c.args.self.number) (begun c.args.shared.now.load.now) none _ _ c.requires.seconds c.requires.most (no_operations c.args.shared.now.load.now c.args.self.number);
  is = c.requires.tallies none (is_tally c.args.shared.now.load.now c.args.self.number c.args.self.generator c.args.self.words.items c.args.self.seat c.requires.begun none (no_operations c.args.shared.now.load.now c.args.self.number));
}

pub returns-in_default-clause-ended : goal.returns-in_default-clause-ended
returns-in_default-clause-ended g c = no_operations c.args.shared.now.load.now c.args.self.number

pub invariant_of-result-2 : goal.invariant_of-result-2
invariant_of-result-2 g c =
    let ended = c.make_each-counted.ensures.ended in
    record {
      some = omega (arith, ended.some, c.requires.most);
      few_refused = ended.few_refused;
      whole = complete c.args.shared.now.load.now c.args.self.number c.args.self.generator (standing c.args.self.words.items c.args.self.seat) c.make_each-counted.result _ _ c.requires.seconds c.requires.most ended;
      is = c.requires.tallies c.make_each-counted.result (is_tally c.args.shared.now.load.now c.args.self.number c.args.self.generator c.args.self.words.items c.args.self.seat c.requires.begun c.make_each-counted.result (has_ended c.args.shared.now.load.now c.args.self.number c.args.self.generator c.args.self.words.items c.args.self.seat c.requires.begun c.make_each-counted.result ended));
    }

pub returns-clause-ended : goal.returns-clause-ended
returns-clause-ended g c = has_ended c.args.shared.now.load.now c.args.self.number c.args.self.generator c.args.self.words.items c.args.self.seat c.requires.begun c.make_each-counted.result c.make_each-counted.ensures.ended
