-- Files that are judged in turn.
use Rattle.std.proofs.Common.{◌≡◌, ◌<◌, ◌+◌, ◌∙◌, ℕ, Bool, ap, length, sym, take, List, [], ◌∷◌, ◌++◌, Option, fold, refl, subst}
use Rattle.std.proofs.Math.ListN.{get_or}
use Rattle.std.proofs.lemmas.List.{take_more}
use Rattle.figures.specs.declared.form.Form.{Form}
use Rattle.judge_run.specs.declared.detail.Detail.{Detail}
use Rattle.judge_run.specs.declared.scope.Scope.{Scope}
use Rattle.judge_run.specs.declared.tell_fault.TellFault.{TellFault}
use Rattle.judge_run.specs.declared.tell_fault.TellFault.TheVariants.{OutOfMemory, CountFull, ReadFault, WriteFault}
use Rattle.judge_run.specs.Ends.{end_of_fault, status_of}
use Rattle.judge_run.specs.Inputs.{IsStandardInput}
use Rattle.judge_run.specs.Runs.{AreJudged, IsHeaded, IsJudgeRunOn, JudgedFile, JudgedInTurn, is_headed, name_in, worse_of, worst_of}

module _ (form : Form) (scope : Scope) (detail : Detail) (least : ℕ) (several : Bool) where
  -- one file
  pub one_judged : (file : List ℕ) (status : ℕ) (input left old new : Option (List ℕ)) → JudgedFile form scope detail least several file input left old new status → AreJudged form scope detail least several (file ∷ []) (status ∷ []) input left old new
  one_judged file status input left old new is = (left, new, is, (refl, refl))

  at_end : (file : List ℕ) (status : ℕ) (input among left old between new : Option (List ℕ)) → (among ≡ input) × (between ≡ old) → JudgedFile form scope detail least several file among left between new status → JudgedFile form scope detail least several file input left old new status
  at_end file status input among left old between new same is =
      subst (λ (from : Option (List ℕ)). JudgedFile form scope detail least several file from left old new status) same.0 (subst (λ (start : Option (List ℕ)). JudgedFile form scope detail least several file among left start new status) same.1 is)

  -- one file more
  pub more_judged : (files : List (List ℕ)) (statuses : List ℕ) (file : List ℕ) (status : ℕ) (input among left old between new : Option (List ℕ)) → AreJudged form scope detail least several files statuses input among old between → JudgedFile form scope detail least several file among left between new status → AreJudged form scope detail least several (files ++ file ∷ []) (statuses ++ status ∷ []) input left old new
  more_judged [] [] file status input among left old between new are is =
      (left, new, at_end file status input among left old between new are is, (refl, refl))
  more_judged [] (s ∷ statuses) file status input among left old between new are is = absurd are
  more_judged (f ∷ files) [] file status input among left old between new are is = absurd are
  more_judged (f ∷ files) (s ∷ statuses) file status input among left old between new are is =
      (are.0, are.1, are.2, more_judged files statuses file status are.0 among left are.1 between new are.3 is)

pub fold_more : (statuses : List ℕ) (worst status : ℕ) → fold worse_of worst (statuses ++ status ∷ []) ≡ worse_of (fold worse_of worst statuses) status
fold_more [] worst status = refl
fold_more (s ∷ statuses) worst status = fold_more statuses (worse_of worst s) status

-- one that has no verdict
pub no_verdict : (form : Form) (scope : Scope) (detail : Detail) (least : ℕ) (several : Bool) (file : List ℕ) (input old new : Option (List ℕ)) (status : ℕ) → status ≡ 3 → JudgedFile form scope detail least several file input input old new status
no_verdict form scope detail least several file input old new status is = record {
  begun = new;
  head = λ other. absurd (other is);
  judged = λ other. absurd (other is);
  standard_input = λ _. λ other. absurd (other is);
  unread = λ _. refl;
}

-- the text of the standard input
pub input_judged : (form : Form) (scope : Scope) (detail : Detail) (least : ℕ) (several : Bool) (file : List ℕ) (input left old begun new : Option (List ℕ)) (status : ℕ) → IsStandardInput file → IsHeaded (is_headed form several) file old begun → IsJudgeRunOn form scope input detail (name_in form several file) least begun new status → JudgedFile form scope detail least several file input left old new status
input_judged form scope detail least several file input left old begun new status named head judged = record {
  begun = begun;
  head = λ _. head;
  judged = λ other. record { known = input; is = judged other };
  standard_input = λ _. judged;
  unread = λ isnt. absurd (isnt named);
}

-- the text of a file
pub file_judged : (form : Form) (scope : Scope) (detail : Detail) (least : ℕ) (several : Bool) (file : List ℕ) (known input old begun new : Option (List ℕ)) (status : ℕ) → ¬ IsStandardInput file → IsHeaded (is_headed form several) file old begun → IsJudgeRunOn form scope known detail (name_in form several file) least begun new status → JudgedFile form scope detail least several file input input old new status
file_judged form scope detail least several file known input old begun new status isnt head judged = record {
  begun = begun;
  head = λ _. head;
  judged = λ other. record { known = known; is = judged other };
  standard_input = λ named. absurd (isnt named);
  unread = λ _. refl;
}

module _ (form : Form) (scope : Scope) (detail : Detail) (least : ℕ) (several : Bool) (first : List ℕ) where
  pub first_turn : (status : ℕ) (input left old new : Option (List ℕ)) → JudgedFile form scope detail least several first input left old new status → JudgedInTurn form scope detail least several (first ∷ []) input left old new status
  first_turn status input left old new is = record {
    statuses = status ∷ [];
    are = one_judged form scope detail least several first status input left old new is;
    status_is = refl;
  }

  grown : (files : List (List ℕ)) (statuses : List ℕ) (worst : ℕ) (file : List ℕ) (status : ℕ) (input among left old between new : Option (List ℕ)) → AreJudged form scope detail least several (first ∷ files) statuses input among old between → worst ≡ worst_of statuses → JudgedFile form scope detail least several file among left between new status → JudgedInTurn form scope detail least several (first ∷ (files ++ file ∷ [])) input left old new (worse_of worst status)
  grown files [] worst file status input among left old between new are is judged = absurd are
  grown files (s ∷ statuses) worst file status input among left old between new are is judged = record {
    statuses = s ∷ (statuses ++ status ∷ []);
    are = more_judged form scope detail least several (first ∷ files) (s ∷ statuses) file status input among left old between new are judged;
    status_is = ap (λ w. worse_of w status) is ∙ sym (fold_more statuses s status);
  }

  -- one turn more
  pub next_turn : (others : List (List ℕ)) (place : ℕ) (file : List ℕ) (worst : ℕ) (status : ℕ) (input among left old between new : Option (List ℕ)) → place < length others → file ≡ get_or others place file → JudgedInTurn form scope detail least several (first ∷ take place others) input among old between worst → JudgedFile form scope detail least several file among left between new status → JudgedInTurn form scope detail least several (first ∷ take (place + 1) others) input left old new (worse_of worst status)
  next_turn others place file worst status input among left old between new less is turn judged =
      let more : take (place + 1) others ≡ take place others ++ file ∷ [] = take_more others place file less ∙ ap (λ (f : List ℕ). take place others ++ f ∷ []) (sym is) in
      subst (λ (files : List (List ℕ)). JudgedInTurn form scope detail least several (first ∷ files) input left old new (worse_of worst status)) (sym more) (grown (take place others) turn.statuses worst file status input among left old between new turn.are turn.status_is judged)

-- a fault has a status of its own
pub fault_status : (fault : TellFault) → status_of (end_of_fault fault) ≡ 3
fault_status OutOfMemory = refl
fault_status CountFull = refl
fault_status ReadFault = refl
fault_status WriteFault = refl
