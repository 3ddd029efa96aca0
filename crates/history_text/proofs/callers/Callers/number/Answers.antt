-- A name's number is its place among those that are kept.
use Rattle.std.proofs.Common.{◌≡◌, ◌≤◌, length, true, false, None, is_some, rules, sym, ap, ◌∙◌, refl, arith}
use Rattle.std.specs.List.{list_any, position_or_len}
use Rattle.std.specs.Str.{bytes_eq}
use Rattle.history_text.specs.Text.{noted, number_of}
use Rattle.history_text.proofs.NameLaws.{is, number_by, any_by, some_at, none_at, noted_known, grown, within}
use Rattle.history_text.proofs.callers.Callers.number.Goals as goal

pub returns-in-Some-clause-number : goal.returns-in-Some-clause-number
returns-in-Some-clause-number g c =
    let keys = c.self.inside.names.keys in
    let at = some_at (position_or_len (is c.args.name.now) keys) (length keys) c.in-Some.known c.in-Some.ensures.index in
    at.0 ∙ sym (number_by c.args.name.now keys) ∙ ap (λ names. number_of names c.args.name.now) c.self.view_is

pub returns-in-Some-clause-noted : goal.returns-in-Some-clause-noted
returns-in-Some-clause-noted g c =
    let keys = c.self.inside.names.keys in
    let known : list_any (bytes_eq c.args.name.now) c.args.self.now ≡ true = ap (list_any (bytes_eq c.args.name.now)) (sym c.self.view_is) ∙ any_by c.args.name.now keys ∙ sym c.in-Some.ensures.found in
    sym (noted_known c.args.self.now c.args.name.now known)

pub returns-then-number-ge-MAX_CALLERS-clause-refused :
    goal.returns-then-number-ge-MAX_CALLERS-clause-refused
returns-then-number-ge-MAX_CALLERS-clause-refused g c =
    let keys = c.self.inside.names.keys in
    let none : c.get_index_of.result ≡ None = search rules in
    let past : length keys ≤ position_or_len (is c.args.name.now) keys = none_at (position_or_len (is c.args.name.now) keys) (length keys) c.get_index_of.result none c.get_index_of.ensures.index in
    let same : number_of c.args.self.now c.args.name.now ≡ position_or_len (is c.args.name.now) keys = ap (λ names. number_of names c.args.name.now) (sym c.self.view_is) ∙ number_by c.args.name.now keys in
    let count : c.len-number.result ≡ length keys = c.len-number.ensures.len in
    (refl, omega (arith, past, same, count))

pub returns-clause-number : goal.returns-clause-number
returns-clause-number g c =
    let keys = c.self.inside.names.keys in
    let none : c.get_index_of.result ≡ None = search rules in
    let past : length keys ≤ position_or_len (is c.args.name.now) keys = none_at (position_or_len (is c.args.name.now) keys) (length keys) c.get_index_of.result none c.get_index_of.ensures.index in
    let most = within (is c.args.name.now) keys in
    let same : number_of c.args.self.now c.args.name.now ≡ position_or_len (is c.args.name.now) keys = ap (λ names. number_of names c.args.name.now) (sym c.self.view_is) ∙ number_by c.args.name.now keys in
    let count : c.len-number.result ≡ length keys = c.len-number.ensures.len in
    omega (arith, past, most, same, count)

pub returns-clause-noted : goal.returns-clause-noted
returns-clause-noted g c =
    let keys = c.self.inside.names.keys in
    let none : c.get_index_of.result ≡ None = search rules in
    let absent : list_any (is c.args.name.now) keys ≡ false = sym c.get_index_of.ensures.found ∙ ap is_some none in
    grown c.args.name.now keys c.insert.new.self.keys c.in-Ok.name c.in-Ok.ensures.items absent c.in-Ok-insert.ensures.keys
    ∙ ap (λ names. noted names c.args.name.now) c.self.view_is
