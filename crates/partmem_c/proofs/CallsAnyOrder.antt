-- Two lists of calls that attempt the same under each lock are lists of actions that attempt the same.
use Rattle.std.proofs.Common.{◌≡◌, List, [], ◌∷◌, ◌++◌, Option, Some, None, Result, Ok, Err, map, ap, sym, ◌∙◌}
use Rattle.std.proofs.lemmas.List.{map-append}
use Rattle.std.specs.Prelude.{ℕ, filter, flat_map}
use Rattle.words_core.specs.declared.event.Event as events
use Rattle.words_core.specs.declared.event.LineFault.{LineFault}
use Rattle.words_core.specs.Grammar.{reading_of}
use Rattle.kernel_core.specs.Actions.{Action}
use Rattle.kernel_core.specs.ActionLocks.{attempt_of, attempt_needs, AttemptTheSame, SameWorldAfterActions, SameOutcomesInAnyOrder, SameSightsInAnyOrder}
use Rattle.partmem_c.specs.Actions.{Done, Line, Event, Call, FindObject, FindBlock, Lend, LendBlock, LendObject, Direct, IsOfReading, IsOf, AreOf}
use Rattle.partmem_c.specs.CallLocks.{attempt_of_event, attempt_of_reading, attempts_in, SameCallsInAnyOrder}
use Rattle.partmem_c.proofs.ActionLemmas.{all_are}

reading_attempts : (reading : Result (Option events.Event) LineFault) (text : List ℕ) (actions : List Action) → IsOfReading reading text actions
    → map attempt_of actions ≡ attempt_of_reading reading
reading_attempts (Ok (Some event)) text actions of = ap (map attempt_of) of.1
reading_attempts (Ok None) text actions of = ap (map attempt_of) of.0
reading_attempts (Err fault) text actions of = ap (map attempt_of) of.0

done_attempts : (done : Done) (actions : List Action) → IsOf done actions → map attempt_of actions ≡ attempts_in done
done_attempts (Line line text) actions of = reading_attempts (reading_of line) text actions of
done_attempts (Event a bytes numbers buffer buffer') actions (event, reply, says, are, told, over) =
    ap (map attempt_of) are ∙ sym (ap attempt_of_event says)
done_attempts (Call event reply status) actions of = ap (map attempt_of) of.0
done_attempts (FindObject t place outcome) actions of = ap (map attempt_of) of.2
done_attempts (FindBlock t place outcome) actions of = ap (map attempt_of) of.2
done_attempts (Lend t place len outcome) actions of = ap (map attempt_of) of
done_attempts (LendBlock t place outcome) actions of = ap (map attempt_of) of
done_attempts (LendObject t cache place outcome) actions of = ap (map attempt_of) of
done_attempts (Direct action) actions of = ap (map attempt_of) of

all_attempts : (all : List Done) (actions : List Action) → AreOf all actions → map attempt_of actions ≡ flat_map attempts_in all
all_attempts [] actions of = ap (map attempt_of) of
all_attempts (done ∷ all) actions (first, rest, one, others, is) =
    ap (map attempt_of) is ∙ map-append attempt_of first rest
    ∙ ap (λ xs. xs ++ map attempt_of rest) (done_attempts done first one) ∙ ap (λ xs. attempts_in done ++ xs) (all_attempts all rest others)

pub same_calls : SameWorldAfterActions → SameOutcomesInAnyOrder → SameSightsInAnyOrder → SameCallsInAnyOrder
same_calls worlds outcomes sights k k' l l' all all' alike did did' same =
    let (actions, are, acts) = all_are k k' all did in
    let (actions', are', acts') = all_are l l' all' did' in
    let attempts : AttemptTheSame actions actions' = λ lock. ap (filter (attempt_needs lock)) (all_attempts all actions are) ∙ same lock
    ∙ sym (ap (filter (attempt_needs lock)) (all_attempts all' actions' are')) in
    record {
      actions = actions;
      actions' = actions';
      are = are;
      are' = are';
      outcomes = outcomes k k' l l' actions actions' alike acts acts' attempts;
      sights = λ t tenant. sights k k' l l' actions actions' t alike tenant acts acts' attempts;
      world = worlds k k' l l' actions actions' alike acts acts' attempts;
    }
