-- The last piece of a stream: with what it is judged, what is told of it, and what is kept of it.
use Rattle.std.proofs.Common.{◌≡◌, ◌∙◌, ◌≤◌, ◌+◌, ◌-◌, ℕ, Bool, true, false, not, cond, List, [], ◌∷◌, ◌++◌, Option, Some, None, Ok, IfSome, IsSomeAnd, length, unwrap_or, ap, ap₂, arith, refl, sym, subst, append_assoc, append-nil, inl, inr}
use Rattle.std.specs.Prelude.{◌↔◌}
use Rattle.std.specs.Io.KnownBytes.{IsAtEnd, prepend_known}
use Rattle.std.proofs.lemmas.List.{length-append}
use Rattle.std.proofs.lemmas.List.Sums.{sum_by-append}
use Rattle.trace_file.specs.declared.call.Call.{Call}
use Rattle.certificate_checker.proofs.public_laws.Listing.{all_member, member_all}
use Rattle.certificate_finder.specs.declared.found.Found.{Found}
use Rattle.certificate_finder.specs.declared.found.Found.TheVariants as verdicts
use Rattle.certificate_finder.specs.Finding.{IsFound}
use Rattle.certificate_finder.specs.Laws.{WitnessExcludes}
use Rattle.certificate_finder.specs.Warming.{warm_puts}
use Rattle.history_text.specs.declared.reading.Reading.{Reading}
use Rattle.history_text.specs.Reading.{IsAhead}
use Rattle.history_text.specs.Pieces.{AreFirst, GoesOn, Progress, left_of}
use Rattle.history_text.specs.Text.{Text, endless, no_text, read_by, text_by}
use Rattle.history_window.specs.Standing.{Acceptable}
use Rattle.history_window.specs.Streams.{ArePuts, IsKept, IsLastOf, IsPartedIf, Piece, PiecesExclude, PiecesStand, added_in, bound_after, calls_in, decided_in, first_start, judged_in, judged_lines, lines_in, lines_of, waiting_in, waiting_lines_in}
use Rattle.judge_run.specs.declared.forgotten.Forgotten.{Forgotten}
use Rattle.judge_run.specs.declared.kind_counts.KindCounts.{KindCounts}
use Rattle.trace_file.specs.declared.call_kind.CallKind.{CallKind}
use Rattle.trace_file.specs.declared.call_kind.CallKind.TheVariants.{Put, Remove, Hit, Miss}
use Rattle.judge_run.specs.declared.scope.Scope.{Scope}
use Rattle.judge_run.specs.Kinds as kinds
use Rattle.judge_run.specs.Kinds.{counts_in}
use Rattle.judge_run.specs.Scopes.{IsCounted, IsWarmedIf}
use Rattle.judge_run.specs.Streams as streams
use Rattle.judge_run.specs.Streams.{AreCounted, HasUndecided, IsGoing, IsGrown, IsJudgedLast, IsReadSoFar, IsStreamed, IsTaken, IsToldOf, added_if, was_accepted, was_decided}
use Rattle.judge_run.proofs.WarmLaws.{puts_count}

-- ---- counting

pub count_both : (kind : CallKind) (xs ys : List Call) → kinds.calls_of kind (xs ++ ys) ≡ kinds.calls_of kind xs + kinds.calls_of kind ys
count_both kind xs ys = sum_by-append (λ c. cond (kinds.is_of kind c) 1 0) xs ys

counted_more : (forgotten : Forgotten) (all list more : List Call) → AreCounted forgotten all list → AreCounted forgotten (all ++ more) (list ++ more)
counted_more forgotten all list more are = λ kind.
    let a = count_both kind all more in
    let b = count_both kind list more in
    let c = are kind in
    omega (arith, a, b, c)

grown_of : (kind : CallKind) (forgotten new : Forgotten) (before after : KindCounts) (from_start : Option ℕ) (all judged kept : List Call) → before ≡ counts_in judged → after ≡ counts_in kept → IsGrown forgotten new before after from_start → AreCounted forgotten all judged → kinds.calls_of kind all ≡ kinds.calls_of kind kept + kinds.gone_of kind (Some new)
grown_of Put forgotten new before after from_start all judged kept b a grown are =
    let c = are Put in
    let x = ap (λ (n : KindCounts). n.puts) b in
    let y = ap (λ (n : KindCounts). n.puts) a in
    let g = grown.puts in
    omega (arith, c, x, y, g)
grown_of Remove forgotten new before after from_start all judged kept b a grown are =
    let c = are Remove in
    let x = ap (λ (n : KindCounts). n.removals) b in
    let y = ap (λ (n : KindCounts). n.removals) a in
    let g = grown.removals in
    omega (arith, c, x, y, g)
grown_of Hit forgotten new before after from_start all judged kept b a grown are =
    let c = are Hit in
    let x = ap (λ (n : KindCounts). n.hits) b in
    let y = ap (λ (n : KindCounts). n.hits) a in
    let g = grown.hits in
    omega (arith, c, x, y, g)
grown_of Miss forgotten new before after from_start all judged kept b a grown are =
    let c = are Miss in
    let x = ap (λ (n : KindCounts). n.misses) b in
    let y = ap (λ (n : KindCounts). n.misses) a in
    let g = grown.misses in
    omega (arith, c, x, y, g)

-- what is counted of a kind is the same in both words
same_gone : (kind : CallKind) (new : Forgotten) (all kept : List Call) → kinds.calls_of kind all ≡ kinds.calls_of kind kept + kinds.gone_of kind (Some new) → kinds.calls_of kind all ≡ kinds.calls_of kind kept + streams.forgotten_of kind new
same_gone Put new all kept is = is
same_gone Remove new all kept is = is
same_gone Hit new all kept is = is
same_gone Miss new all kept is = is

-- ---- the puts that are added

record Added (warm : Bool) (calls : List Call) (lines : List ℕ) (callers : List (List ℕ)) (judged : Text) (from_start : Option ℕ) : Type 0 where
  puts : List Call
  put_lines : List ℕ
  are : ArePuts warm calls lines puts put_lines
  calls_are : judged.calls ≡ calls ++ puts
  lines_are : judged.lines ≡ lines ++ put_lines
  callers_are : judged.callers ≡ callers
  added : from_start ≡ added_if warm puts

added_by : (warm : Bool) (text judged : Text) (from_start : Option ℕ) → IsWarmedIf warm text judged from_start → Added warm text.calls text.lines text.callers judged from_start
added_by true text judged from_start is = record {
  puts = warm_puts text.calls is.warm.hits.items;
  put_lines = lines_of text.lines is.warm.hits.items;
  are = (is.warm, is.is, refl, refl);
  calls_are = is.calls_are ∙ is.is.calls;
  lines_are = is.lines_are;
  callers_are = is.callers_are;
  added = is.added_is ∙ ap Some (sym (puts_count text.calls is.warm is.is));
}
added_by false text judged from_start is = record {
  puts = [];
  put_lines = [];
  are = (refl, refl);
  calls_are = ap (λ (t : Text). t.calls) is.0 ∙ sym (append-nil text.calls);
  lines_are = ap (λ (t : Text). t.lines) is.0 ∙ sym (append-nil text.lines);
  callers_are = ap (λ (t : Text). t.callers) is.0;
  added = is.1;
}

pub puts_added : (warm : Bool) (calls : List Call) (lines : List ℕ) (puts : List Call) (put_lines : List ℕ) (from_start : Option ℕ) → ArePuts warm calls lines puts put_lines → from_start ≡ added_if warm puts → unwrap_or from_start 0 ≡ length puts
puts_added true calls lines puts put_lines from_start are is = ap (λ (o : Option ℕ). unwrap_or o 0) is
puts_added false calls lines puts put_lines from_start are is = ap (λ (o : Option ℕ). unwrap_or o 0) is ∙ sym (ap length are.0)

-- what was taken is judged as the last piece
pub judged_last : (scope : Scope) (window least : ℕ) (known left : Option (List ℕ)) (progress : Progress) (kept : List Call) (kept_lines : List ℕ) (asked decided whole judged : Text) (waiting : List Call) (waiting_lines : List ℕ) (latest : ℕ) (forgotten : Forgotten) (over : Bool) (bound : ℕ) (from_start : Option ℕ) → bound ≡ latest - window → IsPartedIf (not over) bound asked.calls asked.lines decided.calls decided.lines waiting waiting_lines → decided.callers ≡ asked.callers → whole ≡ text_by (kept ++ decided.calls) (kept_lines ++ decided.lines) decided.callers → IsWarmedIf scope.warm whole judged from_start → length judged.lines ≡ length judged.calls → length waiting_lines ≡ length waiting → IsTaken scope window least known left progress kept kept_lines asked latest forgotten over → IsJudgedLast scope window least (not over) known left progress judged waiting waiting_lines latest forgotten from_start
judged_last scope window least known left progress kept kept_lines asked decided whole judged waiting waiting_lines latest forgotten over bound from_start bound_is parted callers_are whole_is warmed many waiting_many t =
    let a = added_by scope.warm whole judged from_start warmed in
    let calls_whole = ap (λ (text : Text). text.calls) whole_is in
    let lines_whole = ap (λ (text : Text). text.lines) whole_is in
    let puts_are : ArePuts scope.warm (kept ++ decided.calls) (kept_lines ++ decided.lines) a.puts a.put_lines =
    subst (λ (ls : List ℕ). ArePuts scope.warm (kept ++ decided.calls) ls a.puts a.put_lines) lines_whole (subst (λ (cs : List Call). ArePuts scope.warm cs whole.lines a.puts a.put_lines) calls_whole a.are) in
    let stamp : bound ≡ bound_after window (calls_in t.pieces ++ t.calls) = bound_is ∙ ap (λ n. n - window) t.latest_is in
    let parted_here : IsPartedIf (not over) (bound_after window (calls_in t.pieces ++ t.calls)) (waiting_in t.pieces ++ t.calls) (waiting_lines_in t.pieces ++ t.lines) decided.calls decided.lines waiting waiting_lines =
    subst (λ (b : ℕ). IsPartedIf (not over) b (waiting_in t.pieces ++ t.calls) (waiting_lines_in t.pieces ++ t.lines) decided.calls decided.lines waiting waiting_lines) stamp
    (subst (λ (cs : List Call). IsPartedIf (not over) bound cs (waiting_lines_in t.pieces ++ t.lines) decided.calls decided.lines waiting waiting_lines) t.calls_are
    (subst (λ (ls : List ℕ). IsPartedIf (not over) bound asked.calls ls decided.calls decided.lines waiting waiting_lines) t.lines_are parted)) in record {
      last = record {
        bound = first_start (bound_after window (calls_in t.pieces)) (waiting_in t.pieces);
        kept = kept;
        kept_lines = kept_lines;
        calls = t.calls;
        lines = t.lines;
        decided = decided.calls;
        decided_lines = decided.lines;
        puts = a.puts;
        put_lines = a.put_lines;
        waiting = waiting;
        waiting_lines = waiting_lines;
      };
      earlier = t.pieces;
      are = (t.are, record { bound_is = refl; kept = t.after; late = t.late; parted = parted_here; puts = puts_are });
      large = t.large;
      enough = λ unended. t.enough (not_over over unended);
      sized = t.sized;
      full = λ unended. t.full (not_over over unended);
      latest_is = t.latest_is;
      calls_are = a.calls_are ∙ ap (λ (cs : List Call). cs ++ a.puts) calls_whole ∙ append_assoc kept decided.calls a.puts;
      lines_are = a.lines_are ∙ ap (λ (ls : List ℕ). ls ++ a.put_lines) lines_whole ∙ append_assoc kept_lines decided.lines a.put_lines;
      waiting_are = refl;
      waiting_lines_are = refl;
      as_many = many;
      waiting_many = waiting_many;
      read = subst (IsReadSoFar scope known left progress (calls_in t.pieces ++ t.calls) (lines_in t.pieces ++ t.lines)) (sym (a.callers_are ∙ ap (λ (text : Text). text.callers) whole_is ∙ callers_are)) t.read;
      added = a.added;
      counted = counted_more forgotten (decided_in t.pieces) kept (decided.calls ++ a.puts) t.counted;
      added_before = t.added;
    }
  where
    not_over : (over : Bool) → not over ≡ true → over ≡ false
    not_over true is = let both : false ≡ true = is in absurd cc
    not_over false is = refl

-- ---- going on

module _ (scope : Scope) (window least : ℕ) (known left : Option (List ℕ)) (progress : Progress) (judged : Text) (waiting : List Call) (waiting_lines : List ℕ) (latest : ℕ) (forgotten : Forgotten) (from_start : Option ℕ) (l : IsJudgedLast scope window least true known left progress judged waiting waiting_lines latest forgotten from_start) where
  abbrev pieces : List Piece
  pieces = l.last ∷ l.earlier

  puts_are_many : unwrap_or from_start 0 ≡ length l.last.puts
  puts_are_many = puts_added scope.warm (l.last.kept ++ l.last.decided) (l.last.kept_lines ++ l.last.decided_lines) l.last.puts l.last.put_lines from_start l.are.1.puts l.added

  -- it is accepted, and so much of it is kept
  pub goes_on : (kept : Text) (bound first : ℕ) (new : Forgotten) (before after : KindCounts) → Acceptable judged.calls → bound ≡ latest - window → first ≡ first_start bound waiting → IsKept first judged.calls judged.lines kept.calls kept.lines → kept.callers ≡ judged.callers → length kept.lines ≡ length kept.calls → before ≡ counts_in judged.calls → after ≡ counts_in kept.calls → IsGrown forgotten new before after from_start → IsGoing scope window least known left progress kept waiting waiting_lines bound latest new
  goes_on kept bound first new before after past bound_is first_is is_kept callers many b a grown =
      let stays : IsKept (first_start bound waiting) (judged_in l.last) (judged_lines l.last) kept.calls kept.lines =
      subst (λ (stamp : ℕ). IsKept stamp (judged_in l.last) (judged_lines l.last) kept.calls kept.lines) first_is
      (subst (λ (ls : List ℕ). IsKept first (judged_in l.last) ls kept.calls kept.lines) l.lines_are
      (subst (λ (cs : List Call). IsKept first cs judged.lines kept.calls kept.lines) l.calls_are is_kept)) in
      let more = grown.added in
      let earlier = l.added_before in
      let here_more = puts_are_many in
      record {
        pieces = pieces;
        are = l.are;
        large = member_all (λ (p : Piece). least ≤ length p.calls) pieces (λ p m. elim m [
          | inl same ↦ subst (λ (q : Piece). least ≤ length q.calls) (sym same) (l.enough refl)
          | inr later ↦ all_member (λ (q : Piece). least ≤ length q.calls) l.earlier p l.large later
        ]);
        sized = (l.sized, l.full refl);
        after = (subst Acceptable l.calls_are past, stays);
        waiting_are = l.waiting_are;
        waiting_lines_are = l.waiting_lines_are;
        bound_is = bound_is ∙ ap (λ n. n - window) l.latest_is;
        latest_is = l.latest_is;
        as_many = many;
        waiting_many = l.waiting_many;
        read = subst (IsReadSoFar scope known left progress (calls_in pieces) (lines_in pieces)) (sym callers) l.read;
        counted = λ kind. same_gone kind new (decided_in pieces) kept.calls (grown_of kind forgotten new before after from_start (decided_in pieces) (judged_in l.last) kept.calls (b ∙ ap counts_in l.calls_are) a grown l.counted);
        added = omega (arith, more, earlier, here_more);
      }

-- ---- what was found

-- what is not decided
undecided_by : (calls : List Call) (found : Found) → IsFound calls found → was_decided found ≡ false → HasUndecided calls
undecided_by calls (verdicts.Accepted certificate) is is_open = absurd cc
undecided_by calls (verdicts.Rejected witness) is is_open = absurd cc
undecided_by calls (verdicts.Undecided hits) is is_open = (hits.items, is.undecided)

-- what was decided and not accepted is not acceptable
unacceptable_by : WitnessExcludes → (calls : List Call) (found : Found) → IsFound calls found → was_accepted found ≡ false → was_decided found ≡ true → ¬ Acceptable calls
unacceptable_by excludes calls (verdicts.Accepted certificate) is no_one yes_one past = absurd cc
unacceptable_by excludes calls (verdicts.Rejected witness) is no_one yes_one past = excludes calls witness past.0 is.rejected past.1
unacceptable_by excludes calls (verdicts.Undecided hits) is no_one yes_one past = absurd cc

-- calls behind calls have lines behind lines
pub joined_many : (first more : List Call) (first_lines more_lines : List ℕ) (whole : Text) (callers : List (List ℕ)) → whole ≡ text_by (first ++ more) (first_lines ++ more_lines) callers → length first_lines ≡ length first → length more_lines ≡ length more → length whole.lines ≡ length whole.calls
joined_many first more first_lines more_lines whole callers is one other =
    subst (λ (t : Text). length t.lines ≡ length t.calls) (sym is) (length-append first_lines more_lines ∙ ap₂ (λ m n. m + n) one other ∙ sym (length-append first more))

-- no more than a number
plus_none : (n : ℕ) → n + 0 ≡ n
plus_none n = omega arith

-- the calls that wait are counted among those that are gone
gone_with : (kind : CallKind) (forgotten gone : Forgotten) (all told waiting : List Call) → IsGrown forgotten gone (counts_in waiting) (counts_in []) None → AreCounted forgotten all told → kinds.calls_of kind (all ++ waiting) ≡ kinds.calls_of kind told + streams.forgotten_of kind gone
gone_with Put forgotten gone all told waiting grown are =
    let a = count_both Put all waiting in
    let c = are Put in
    let g = grown.puts in
    omega (arith, a, c, g)
gone_with Remove forgotten gone all told waiting grown are =
    let a = count_both Remove all waiting in
    let c = are Remove in
    let g = grown.removals in
    omega (arith, a, c, g)
gone_with Hit forgotten gone all told waiting grown are =
    let a = count_both Hit all waiting in
    let c = are Hit in
    let g = grown.hits in
    omega (arith, a, c, g)
gone_with Miss forgotten gone all told waiting grown are =
    let a = count_both Miss all waiting in
    let c = are Miss in
    let g = grown.misses in
    omega (arith, a, c, g)

-- ---- telling

module _ (stand : PiecesStand) (exclude : PiecesExclude) (excludes : WitnessExcludes) (scope : Scope) (window : ℕ) (known left : Option (List ℕ)) (last : Piece) (earlier : List Piece) (calls : List Call) (calls_are : calls ≡ judged_in last) (found : Found) (is : IsFound calls found) where
  told_of : (over : Bool) → (over ≡ false → was_accepted found ≡ false) → (over ≡ true → IfSome known (λ _. IsAtEnd left)) → IsLastOf window scope.warm (not over) last earlier → (told : Text) → told.calls ≡ calls → IsToldOf (not over) window (was_accepted found) (was_decided found) known left last earlier told
  told_of true unaccepted ended are told told_is = record {
    stand = subst (λ (cs : List Call). Acceptable cs ↔ Acceptable (calls_in (last ∷ earlier) ++ added_in (last ∷ earlier))) (sym (told_is ∙ calls_are)) (stand window scope.warm last earlier are);
    ended = ended refl;
  }
  told_of false unaccepted ended are told told_is = record {
    unaccepted = unaccepted refl;
    excluded = λ decided later from. exclude window scope.warm true last earlier later are (λ past. unacceptable_by excludes calls found is (unaccepted refl) decided (subst Acceptable (sym calls_are) past)) from;
  }

-- what was judged is told
pub streamed : PiecesStand → PiecesExclude → WitnessExcludes → (scope : Scope) (window least : ℕ) (over : Bool) (known left : Option (List ℕ)) (progress : Progress) (judged : Text) (waiting : List Call) (waiting_lines : List ℕ) (latest : ℕ) (forgotten : Forgotten) (from_start : Option ℕ) (gone : Forgotten) (found : Found) (skipped : Option ℕ) → IsFound judged.calls found → (over ≡ false → was_accepted found ≡ false) → IsGrown forgotten gone (counts_in waiting) (counts_in []) None → IsJudgedLast scope window least (not over) known left progress judged waiting waiting_lines latest forgotten from_start → (over ≡ true → IfSome known (λ _. IsAtEnd left)) → IsCounted scope.reading.skip_bad progress.skipped skipped → IsStreamed scope window least known (was_accepted found) (was_decided found) judged (record { from_start = from_start; skipped = skipped; forgotten = Some gone })
streamed stand exclude excludes scope window least over known left progress judged waiting waiting_lines latest forgotten from_start gone found skipped is unaccepted grown l ended counted = record {
  unended = not over;
  left = left;
  progress = progress;
  waiting = waiting;
  waiting_lines = waiting_lines;
  latest = latest;
  forgotten = forgotten;
  is = l;
  told_is = told_of stand exclude excludes scope window known left l.last l.earlier judged.calls l.calls_are found is over unaccepted ended l.are judged refl;
  gone = gone;
  gone_is = refl;
  undecided = undecided_by judged.calls found is;
  counted = λ kind. gone_with kind forgotten gone (decided_in (l.last ∷ l.earlier)) judged.calls waiting grown (subst (AreCounted forgotten (decided_in (l.last ∷ l.earlier))) (sym l.calls_are) l.counted);
  added = grown.added ∙ plus_none forgotten.added ∙ l.added_before;
  skipped = counted;
}

-- ---- the reader

-- all known bytes were taken, if all that were left were
pub ended_so : (known old new : Option (List ℕ)) (P : List ℕ → List ℕ → Type 0) → IfSome known (λ bytes. IsSomeAnd old (P bytes)) → IfSome old (λ _. IsAtEnd new) → IfSome known (λ _. IsAtEnd new)
ended_so None old new P goes end = goes
ended_so (Some bytes) None new P goes end = absurd goes
ended_so (Some bytes) (Some left) new P goes end = end

-- ---- what comes of a piece

-- one fact of what is told gives another one
pub some_map : {A : Type 0} (end : Option A) (P Q : A → Type 0) → ((told : A) → P told → Q told) → IfSome end P → IfSome end Q
some_map None P Q f is = is
some_map (Some told) P Q f is = f told is

-- a test can't be both
pub never_accepted : (P : Type 0) (one : Bool) → one ≡ false → one ≡ true → P
never_accepted P true is yes_one = absurd cc
never_accepted P false is yes_one = absurd cc

none_of : (kind : CallKind) → streams.forgotten_of kind (record { puts = 0; removals = 0; hits = 0; misses = 0; added = 0 }) ≡ 0
none_of Put = refl
none_of Remove = refl
none_of Hit = refl
none_of Miss = refl

goes_first : (scope : Scope) (known : Option (List ℕ)) → GoesOn endless scope.reading known (read_by no_text 0) 1 (prepend_known [] known) (read_by no_text 0) 1
goes_first scope None = tt
goes_first scope (Some bytes) = refl

none_first : (known : Option (List ℕ)) → AreFirst known [] (prepend_known [] known)
none_first None = tt
none_first (Some bytes) = refl

-- nothing was read yet
none_counted : (forgotten : Forgotten) → forgotten ≡ record { puts = 0; removals = 0; hits = 0; misses = 0; added = 0 } → AreCounted forgotten [] []
none_counted forgotten none = λ kind.
    let gone : streams.forgotten_of kind forgotten ≡ 0 = ap (streams.forgotten_of kind) none ∙ none_of kind in
    omega (arith, gone)

pub going_first : (scope : Scope) (window least : ℕ) (known : Option (List ℕ)) (progress : Progress) (kept : Text) (waiting : List Call) (waiting_lines : List ℕ) (bound latest : ℕ) (forgotten : Forgotten) → progress ≡ record { reading = scope.reading; number = 1; skipped = 0; ahead = record { bytes = []; over = false } } → kept ≡ no_text → waiting ≡ [] → waiting_lines ≡ [] → bound ≡ 0 → latest ≡ 0 → forgotten ≡ record { puts = 0; removals = 0; hits = 0; misses = 0; added = 0 } → IsGoing scope window least known (left_of progress known) progress kept waiting waiting_lines bound latest forgotten
going_first scope window least known progress kept waiting waiting_lines bound latest forgotten progress_is kept_is none_wait no_lines bound_is latest_is none =
    let calls = ap (λ (t : Text). t.calls) kept_is in
    let lines = ap (λ (t : Text). t.lines) kept_is in
    let callers = ap (λ (t : Text). t.callers) kept_is in
    record {
      pieces = [];
      are = tt;
      large = λ k d less. absurd (omega (arith, less));
      sized = tt;
      after = (calls, lines);
      waiting_are = none_wait;
      waiting_lines_are = no_lines;
      bound_is = bound_is ∙ (let least : 0 ≡ 0 - window = omega arith in least);
      latest_is = latest_is;
      as_many = ap length lines ∙ sym (ap length calls);
      waiting_many = ap length no_lines ∙ sym (ap length none_wait);
      read = record {
        spelled = no_text;
        reading = ap (λ (p : Progress). p.reading) progress_is;
        goes_on = subst (λ (p : Progress). GoesOn endless scope.reading known (read_by no_text 0) 1 (left_of p known) (read_by no_text p.skipped) p.number) (sym progress_is) (goes_first scope known);
        calls_are = refl;
        lines_are = refl;
        callers_are = callers;
        front = [];
        first = subst (λ (p : Progress). AreFirst known [] (left_of p known)) (sym progress_is) (none_first known);
        number_is = ap (λ (p : Progress). p.number) progress_is;
        good = ap (λ (p : Progress). Ok (read_by no_text p.skipped)) (sym progress_is);
      };
      counted = subst (AreCounted forgotten []) (sym calls) (none_counted forgotten none);
      added = ap (λ (f : Forgotten). f.added) none;
    }

pub nothing_ahead : (progress : Progress) (how : Reading) (unread : Option (List ℕ)) → progress ≡ record { reading = how; number = 1; skipped = 0; ahead = record { bytes = []; over = false } } → IsAhead progress.ahead unread
nothing_ahead progress how unread is = λ over. never_accepted (IsAtEnd unread) progress.ahead.over (ap (λ (p : Progress). p.ahead.over) is) over
