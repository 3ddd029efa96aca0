use Rattle.std.proofs.Common.{rules, ◌≡◌, ◌≢◌, ◌∙◌, ap, sym, Err, Some, slice_get}
use Rattle.std.proofs.lemmas.Option.{same_Some}
use Rattle.std.specs.Option.{option_map}
use Rattle.recorded_lane.specs.Points.{noted_shown}
use Rattle.shared_cache.specs.declared.act_fault.ActFault.TheVariants.{OutOfMemory}
use Rattle.shared_cache.specs.Listed.{listed_shown}
use Rattle.shared_cache.specs.Passes.{former}
use Rattle.shared_cache.proofs.books.LaneBook.check.Goals as goal

pub returns-in_err-found-clause-refused : goal.returns-in_err-found-clause-refused
returns-in_err-found-clause-refused g c =
    let is : c.from_residual.result ≡ Err OutOfMemory = search rules in
    let shown : option_map listed_shown c.former.result ≡ Some (listed_shown c.in-Some.listed) = ap (option_map listed_shown) c.in-Some.is in
    let last : former c.args.self.now.lane c.args.pass.now.calls ≡ Some (listed_shown c.in-Some.listed) = search rules in
    let other : noted_shown c.in-Some.listed.call ≢ noted_shown c.at-recorded.result = λ same. let never = c.if-is_recorded_as.ensures.1 same in absurd cc in
    let here : slice_get c.args.self.now.calls c.in-Some.listed.position ≡ Some (noted_shown c.at-recorded.result) = search rules in
    rw is (λ stands. absurd (other (same_Some (noted_shown c.in-Some.listed.call) (noted_shown c.at-recorded.result) (sym (stands (listed_shown c.in-Some.listed) last) ∙ here))), λ e. absurd cc, λ e. absurd cc)

pub returns-clause-refused : goal.returns-clause-refused
returns-clause-refused g c =
    let shown : option_map listed_shown c.former.result ≡ Some (listed_shown c.in-Some.listed) = ap (option_map listed_shown) c.in-Some.is in
    let last : former c.args.self.now.lane c.args.pass.now.calls ≡ Some (listed_shown c.in-Some.listed) = search rules in
    let other : noted_shown c.in-Some.listed.call ≢ noted_shown c.at-recorded.result = λ same. let never = c.if-is_recorded_as.ensures.1 same in absurd cc in
    let here : slice_get c.args.self.now.calls c.in-Some.listed.position ≡ Some (noted_shown c.at-recorded.result) = search rules in (
      record {
        call = listed_shown c.in-Some.listed;
        last = last;
        position_is = search rules;
        stands = ap Some c.in_ok-found.ensures ∙ sym here;
        other = λ same. other (sym (same_Some (noted_shown c.at-recorded.result) (noted_shown c.in-Some.listed.call) (sym (ap Some c.in_ok-found.ensures) ∙ same)));
      },
      λ e. absurd cc,
      λ e. absurd cc,
    )
