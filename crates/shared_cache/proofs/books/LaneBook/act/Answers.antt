-- One call more in the book and in the pass.
use Rattle.std.proofs.Common.{rules, ap, sym, subst, arith, refl, ◌≡◌, ◌<◌, ◌∙◌, ◌++◌, ◌∷◌, [], List, ℕ, All, length}
use Rattle.trace_file.specs.Calls.{value_of}
use Rattle.trace_file.specs.Lent.{act_shown}
use Rattle.recorded_lane.specs.declared.noted.Noted.{Noted}
use Rattle.recorded_lane.specs.Lane.{Lane, IsOfLane, max_calls}
use Rattle.recorded_lane.specs.Points.{noted_shown}
use Rattle.history_recorder.specs.Operations.{key_of}
use Rattle.shared_cache.specs.declared.listed_entry.ListedEntry.{ListedEntry}
use Rattle.shared_cache.specs.Acts.{ActGives, request_shown, made}
use Rattle.shared_cache.specs.Listed.{Listed, calls_listed, listed_in}
use Rattle.shared_cache.specs.Passes.{Ticket}
use Rattle.shared_cache.proofs.Keeping.{kept_more, last_is, listed_push}
use Rattle.shared_cache.proofs.Passing.{stamps_more}
use Rattle.shared_cache.proofs.books.LaneBook.act.Goals as goal

pub perform-requires : goal.perform-requires
perform-requires g c =
    let ready = c.in_ok-point.ensures.point in
    let back = sym c.self.view_is in (
      search rules,
      (
        omega (arith, c.requires.start, ready.unseen),
        (
          subst (λ (l : Lane g.row.D.Denot). All (λ (n : Noted). n.point < c.in_ok-point.point) l.calls) back ready.above,
          (subst (λ (l : Lane g.row.D.Denot). IsOfLane l.store.layout l.lane (key_of (request_shown c.args.asked))) back c.requires.own, (c.requires.fits, subst (λ (l : Lane g.row.D.Denot). length l.calls < max_calls) back ready.room)),
        ),
      ),
    )

pub invariant_of-self-2 : goal.invariant_of-self-2
invariant_of-self-2 g c =
    let n : Noted = made c.pass.inside.caller c.args.start c.in_ok-point.point (request_shown c.args.asked) c.in_ok-outcome.outcome in
    stamps_more c.self.inside.recorded.calls c.perform.new.lane.calls n (ap (λ (l : Lane g.row.D.Denot). l.calls) c.in_ok-outcome.ensures.recorded) c.self.invariant c.in_ok-point.ensures.point.small

pub invariant_of-pass-2 : goal.invariant_of-pass-2
invariant_of-pass-2 g c =
    let p = c.pass.inside in
    let new = c.keep-entry.new.bytes.items in
    let key = c.at.result.key.now in
    let value = value_of (act_shown c.at.result.act) in
    let e : ListedEntry = record { lane = c.lane-lane.result; position = c.len-position.result; end = c.in_ok-point.point; entry = c.keep-entry.result } in
    let n : Noted = made p.caller c.args.start c.in_ok-point.point (request_shown c.args.asked) c.in_ok-outcome.outcome in
    let more = ap (λ (l : Lane g.row.D.Denot). l.calls) c.in_ok-outcome.ensures.recorded in
    let is : noted_shown c.at.result ≡ n = last_is c.self.inside.recorded.calls c.perform.new.lane.calls n (noted_shown c.at.result) c.len-position.result more c.len-position.ensures.count c.at.ensures.call in
    let grown : new ≡ (p.bytes.items ++ key) ++ value = c.keep-entry.ensures.bytes ∙ ap (λ (b : List ℕ). (b ++ key) ++ value) c.take_room.ensures.bytes in
    let point : (listed_in new e).call.point ≡ c.in_ok-point.point = ap (λ (m : Noted). m.point) (c.keep-entry.ensures.call ∙ is) in
    let seen : p.seat.seen ≡ c.in_ok-point.point = ap (λ (t : Ticket). t.sight.seen) c.pass.view_is ∙ c.in_ok-point.ensures.point.seen in
    rw (c.list.ensures.former, c.list.ensures.calls, c.take_room.ensures.calls)
    (kept_more p.seat.seen p.bytes.items key value new p.calls.items p.former e c.pass.invariant grown c.keep-entry.ensures.lies (record { ended = omega (arith, point); met = omega (arith, seen) }) (search rules) (search rules))

pub returns-clause-acts : goal.returns-clause-acts
returns-clause-acts g c =
    let d = g.D.PageDevice in
    let p = c.pass.inside in
    let new = c.keep-entry.new.bytes.items in
    let key = c.at.result.key.now in
    let value = value_of (act_shown c.at.result.act) in
    let operation = request_shown c.args.asked in
    let outcome = c.in_ok-outcome.outcome in
    let at = c.in_ok-point.point in
    let ready = c.in_ok-point.ensures.point in
    let done = c.perform.new.lane in
    let e : ListedEntry = record { lane = c.lane-lane.result; position = c.len-position.result; end = at; entry = c.keep-entry.result } in
    let n : Noted = made p.caller c.args.start at operation outcome in
    let more = ap (λ (l : Lane g.row.D.Denot). l.calls) c.in_ok-outcome.ensures.recorded in
    let is : noted_shown c.at.result ≡ n = last_is c.self.inside.recorded.calls done.calls n (noted_shown c.at.result) c.len-position.result more c.len-position.ensures.count c.at.ensures.call in
    let grown : new ≡ (p.bytes.items ++ key) ++ value = c.keep-entry.ensures.bytes ∙ ap (λ (b : List ℕ). (b ++ key) ++ value) c.take_room.ensures.bytes in
    let entries : c.list.new.calls.items ≡ p.calls.items ++ e ∷ [] = c.list.ensures.calls ∙ ap (λ (es : List ListedEntry). es ++ e ∷ []) c.take_room.ensures.calls in
    let were : calls_listed p.bytes.items p.calls.items ≡ c.args.pass.now.calls = ap (λ (t : Ticket). t.calls) c.pass.view_is ∙ c.ready.ensures.calls in
    let lane : c.lane-lane.result ≡ c.args.self.now.lane = c.lane-lane.ensures.number ∙ ap (λ (l : Lane g.row.D.Denot). l.lane) c.self.view_is in
    let position : c.len-position.result ≡ length c.args.self.now.calls = c.len-position.ensures.count ∙ ap (λ (l : Lane g.row.D.Denot). length l.calls) c.self.view_is in
    let caller : p.caller ≡ c.args.pass.now.caller = ap (λ (t : Ticket). t.caller) c.pass.view_is ∙ c.ready.ensures.tie.caller in
    record {
      recorded =
          c.in_ok-outcome.ensures.recorded
          ∙ ap (λ (l : Lane g.row.D.Denot). record l { store = done.store; calls = l.calls ++ n ∷ [] }) c.self.view_is
          ∙ ap (λ (k : ℕ). record c.args.self.now { store = done.store; calls = c.args.self.now.calls ++ made k c.args.start at operation outcome ∷ [] }) caller;
      gives = subst (λ (l : Lane g.row.D.Denot). ActGives d.honest d.failures d.held g.row.PAGE operation l.store outcome done.store) c.self.view_is c.in_ok-outcome.ensures.gives;
      listed =
          ap (calls_listed new) entries
          ∙ listed_push p.bytes.items key value new p.calls.items e grown c.pass.invariant.lie
          ∙ ap (λ (ls : List Listed). ls ++ listed_in new e ∷ []) were
          ∙ ap (λ (m : Noted). c.args.pass.now.calls ++ (record { lane = c.lane-lane.result; position = c.len-position.result; call = m; end = at }) ∷ []) (c.keep-entry.ensures.call ∙ is)
          ∙ rw (lane, position, caller) refl;
      unseen = ready.unseen;
      above = ready.above;
      seen = ap (λ (t : Ticket). t.sight.seen) c.pass.view_is ∙ ready.seen;
      stands = ready.stands;
      room = ready.room;
    }
