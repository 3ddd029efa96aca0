-- Each line of the table, after those before it were passed.
use Rattle.std.proofs.Common.{sym, ◌∙◌, codes}
use Rattle.script_words.proofs.Choices.{bound, get_now, get_at, removed, forgotten, put_for_ever, put_until, bare}
use Rattle.script_words.proofs.command.command_of_words.Goals as goal

pub bounds-words-1 : goal.bounds-words-1
bounds-words-1 c = bound c.args.words.now 1 0 (codes "get") (sym c.is_named.ensures ∙ c.if-is_named.true)

pub bounds-words-1-then-is_named-2 : goal.bounds-words-1-then-is_named-2
bounds-words-1-then-is_named-2 c = bound c.args.words.now 1 1 (codes "get") (sym c.is_named-else-is_named.ensures ∙ c.if-is_named-2.true)

pub bounds-words-2 : goal.bounds-words-2
bounds-words-2 c = bound c.args.words.now 2 0 (codes "get") (sym c.is_named-else-is_named.ensures ∙ c.if-is_named-2.true)

pub bounds-words-1-then-is_named-3 : goal.bounds-words-1-then-is_named-3
bounds-words-1-then-is_named-3 c = bound c.args.words.now 1 0 (codes "remove") (sym c.is_named-else-is_named-2.ensures ∙ c.if-is_named-3.true)

pub bounds-words-1-then-is_named-4 : goal.bounds-words-1-then-is_named-4
bounds-words-1-then-is_named-4 c = bound c.args.words.now 1 0 (codes "forget") (sym c.is_named-else-is_named-3.ensures ∙ c.if-is_named-4.true)

pub bounds-words-1-then-is_named-5 : goal.bounds-words-1-then-is_named-5
bounds-words-1-then-is_named-5 c = bound c.args.words.now 1 2 (codes "put") (sym c.is_named-else-is_named-4.ensures ∙ c.if-is_named-5.true)

pub bounds-words-2-then-is_named-5 : goal.bounds-words-2-then-is_named-5
bounds-words-2-then-is_named-5 c = bound c.args.words.now 2 1 (codes "put") (sym c.is_named-else-is_named-4.ensures ∙ c.if-is_named-5.true)

pub bounds-words-3 : goal.bounds-words-3
bounds-words-3 c = bound c.args.words.now 3 0 (codes "put") (sym c.is_named-else-is_named-4.ensures ∙ c.if-is_named-5.true)

pub bounds-words-1-then-is_named-6 : goal.bounds-words-1-then-is_named-6
bounds-words-1-then-is_named-6 c = bound c.args.words.now 1 3 (codes "put") (sym c.is_named-else-is_named-5.ensures ∙ c.if-is_named-6.true)

pub bounds-words-2-then-is_named-6 : goal.bounds-words-2-then-is_named-6
bounds-words-2-then-is_named-6 c = bound c.args.words.now 2 2 (codes "put") (sym c.is_named-else-is_named-5.ensures ∙ c.if-is_named-6.true)

pub bounds-words-3-then-is_named-6 : goal.bounds-words-3-then-is_named-6
bounds-words-3-then-is_named-6 c = bound c.args.words.now 3 1 (codes "put") (sym c.is_named-else-is_named-5.ensures ∙ c.if-is_named-6.true)

pub bounds-words-4 : goal.bounds-words-4
bounds-words-4 c = bound c.args.words.now 4 0 (codes "put") (sym c.is_named-else-is_named-5.ensures ∙ c.if-is_named-6.true)

pub returns-then-is_named : goal.returns-then-is_named
returns-then-is_named c = get_now c.args.words.now c.get_command.result _ (sym c.is_named.ensures ∙ c.if-is_named.true) c.get_command.ensures

pub returns-then-is_named-2 : goal.returns-then-is_named-2
returns-then-is_named-2 c =
    get_at c.args.words.now c.get_command-then-is_named-2.result (sym c.is_named.ensures ∙ c.if-is_named.false) _ _ _ (sym c.is_named-else-is_named.ensures ∙ c.if-is_named-2.true) c.time.ensures.value c.get_command-then-is_named-2.ensures

pub returns-then-is_named-3 : goal.returns-then-is_named-3
returns-then-is_named-3 c =
    removed c.args.words.now c.remove_command.result (sym c.is_named.ensures ∙ c.if-is_named.false) (sym c.is_named-else-is_named.ensures ∙ c.if-is_named-2.false) _ (sym c.is_named-else-is_named-2.ensures ∙ c.if-is_named-3.true) c.remove_command.ensures

pub returns-then-is_named-4 : goal.returns-then-is_named-4
returns-then-is_named-4 c =
    forgotten c.args.words.now c.forget_command.result (sym c.is_named.ensures ∙ c.if-is_named.false) (sym c.is_named-else-is_named.ensures ∙ c.if-is_named-2.false) (sym c.is_named-else-is_named-2.ensures ∙ c.if-is_named-3.false) _
    (sym c.is_named-else-is_named-3.ensures ∙ c.if-is_named-4.true) c.forget_command.ensures

pub returns-then-is_named-5 : goal.returns-then-is_named-5
returns-then-is_named-5 c =
    put_for_ever c.args.words.now c.put_command.result (sym c.is_named.ensures ∙ c.if-is_named.false) (sym c.is_named-else-is_named.ensures ∙ c.if-is_named-2.false) (sym c.is_named-else-is_named-2.ensures ∙ c.if-is_named-3.false)
    (sym c.is_named-else-is_named-3.ensures ∙ c.if-is_named-4.false) _ _ _ (sym c.is_named-else-is_named-4.ensures ∙ c.if-is_named-5.true) c.put_command.ensures

pub returns-then-is_named-6 : goal.returns-then-is_named-6
returns-then-is_named-6 c =
    put_until c.args.words.now c.put_command-then-is_named-6.result (sym c.is_named.ensures ∙ c.if-is_named.false) (sym c.is_named-else-is_named.ensures ∙ c.if-is_named-2.false) (sym c.is_named-else-is_named-2.ensures ∙ c.if-is_named-3.false)
    (sym c.is_named-else-is_named-3.ensures ∙ c.if-is_named-4.false) (sym c.is_named-else-is_named-4.ensures ∙ c.if-is_named-5.false) _ _ _ _ _ (sym c.is_named-else-is_named-5.ensures ∙ c.if-is_named-6.true) c.time-then-is_named-6.ensures.value c.put_command-then-is_named-6.ensures

pub returns-else-is_named-6 : goal.returns-else-is_named-6
returns-else-is_named-6 c =
    bare c.args.words.now (sym c.is_named.ensures ∙ c.if-is_named.false) (sym c.is_named-else-is_named.ensures ∙ c.if-is_named-2.false) (sym c.is_named-else-is_named-2.ensures ∙ c.if-is_named-3.false) (sym c.is_named-else-is_named-3.ensures ∙ c.if-is_named-4.false)
    (sym c.is_named-else-is_named-4.ensures ∙ c.if-is_named-5.false) (sym c.is_named-else-is_named-5.ensures ∙ c.if-is_named-6.false) _ c.bare_command.ensures
