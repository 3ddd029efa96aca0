use Rattle.std.proofs.Common.{◌≡◌, ◌++◌, map, take}
use Rattle.std.specs.List.{concat}
use Rattle.memcached_text.specs.Answers.{flag_text}
use Rattle.memcached_text.proofs.writing.append_flags.Given as goal

-- what the flags so far ask for is appended
abbrev pub invariant-loop-flag : goal.invariant-loop-flag
invariant-loop-flag l = l.out.items ≡ l.initial.out.items ++ concat (map (flag_text l.fields) (take l.flag-index (map (λ f. f.now) l.flags)))
