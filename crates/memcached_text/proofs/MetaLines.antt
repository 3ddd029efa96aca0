-- What a meta command's line asks for, by the fault of its words, and by what is after its key.
use Rattle.std.proofs.Common.{◌≡◌, ◌≢◌, ◌≤◌, ◌∙◌, ℕ, Bool, true, false, List, length, Option, Some, None, Result, Err, refl, ap, arith}
use Rattle.std.specs.Prelude.{if◌then◌else◌, nat_lt, ◌||◌, not}
use Rattle.memcached_text.specs.declared.line_error.LineError.{LineError}
use Rattle.memcached_text.specs.declared.line_error.LineError.TheVariants.{Unknown, BadFormat}
use Rattle.memcached_text.specs.declared.line_refusal.LineRefusal.{LineRefusal}
use Rattle.memcached_text.specs.declared.verb.MetaCommand.{MetaCommand}
use Rattle.memcached_text.specs.declared.verb.MetaCommand.TheVariants as metas
use Rattle.memcached_text.specs.Asked.{Asked}
use Rattle.memcached_text.specs.Meta.{keyed_of, first_flag, many_fault, meta_refusal, meta_request_of, request_after, words_fault}
use Rattle.memcached_text.specs.Words.{word_at, after_word, is_key}

spread : {A B : Type 0} (h : A → B) (b : Bool) (x y : A) → h (if b then x else y) ≡ (if b then h x else h y)
spread h true x y = refl
spread h false x y = refl

-- a meta command's request, by the fault of its words
abbrev pub request_or : Option LineError → MetaCommand → List (List ℕ) → List ℕ → Result Asked LineRefusal
request_or None command words rest = request_after command words rest
request_or (Some fault) command words rest = Err (meta_refusal command words fault)

pub as_faulted : (command : MetaCommand) (words : List (List ℕ)) (line : List ℕ) (fault : Option LineError) → fault ≡ words_fault command words → request_or fault command words (after_word (after_word line)) ≡ meta_request_of command words line
unfolding meta_request_of
as_faulted command words line fault is =
    let rest = after_word (after_word line) in
    let h = λ (f : Option LineError). request_or f command words rest in
    let few = nat_lt (length words) 2 in
    let bad = not (is_key (word_at words 1)) || nat_lt (length words) (first_flag command) in
    let many = nat_lt 19 (length words) in
    ap h is
    ∙ (spread h few (Some Unknown) _
    ∙ ap (λ (r : Result Asked LineRefusal). if few then h (Some Unknown) else r)
    (spread h bad (Some BadFormat) _ ∙ ap (λ (r : Result Asked LineRefusal). if bad then h (Some BadFormat) else r) (spread h many (Some (many_fault command)) None)))

-- all but ms have their flags after the key
pub keyed_after : (command : MetaCommand) (words : List (List ℕ)) (rest : List ℕ) → command ≢ metas.Set → keyed_of command words rest ≡ request_after command words rest
keyed_after metas.Get words rest other = refl
keyed_after metas.Set words rest other = absurd (other refl)
keyed_after metas.Delete words rest other = refl
keyed_after metas.Arithmetic words rest other = refl
keyed_after metas.Debug words rest other = refl

pub two_first : (command : MetaCommand) (n : ℕ) → first_flag command ≤ n → 2 ≤ n
two_first metas.Get n least = least
two_first metas.Set n least = omega (arith, least)
two_first metas.Delete n least = least
two_first metas.Arithmetic n least = least
two_first metas.Debug n least = least

abbrev refused_so : LineRefusal → Result Asked LineRefusal
refused_so refusal = Err refusal

pub as_refused : (command : MetaCommand) (words : List (List ℕ)) (line : List ℕ) (fault : LineError) (refusal : LineRefusal) → refusal ≡ meta_refusal command words fault → Some fault ≡ words_fault command words → refused_so refusal ≡ meta_request_of command words line
as_refused command words line fault refusal is because = ap refused_so is ∙ as_faulted command words line (Some fault) because
