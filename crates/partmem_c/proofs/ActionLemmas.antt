-- Everything that is done with a machine of the library is a list of actions of its kernel. In this list, each tenant sees what
-- its private machine returns.
use Rattle.std.proofs.Common.{ℕ, List, [], ◌∷◌, ◌++◌, Option, Some, None, Result, Ok, Err, refl, ap, subst, inl}
use Rattle.words_core.specs.declared.event.Event as events
use Rattle.words_core.specs.declared.event.LineFault.{LineFault}
use Rattle.words_core.specs.Grammar.{reading_of}
use Rattle.kernel_core.specs.Content.{KernelContent}
use Rattle.kernel_core.specs.Stores.{IsKernel}
use Rattle.kernel_core.specs.Lookups.{HolderOf, RangeAt, PageAround, ObjectAt, BlockAround, FoundHolder, FoundBlock, Refused, found_or_refused}
use Rattle.kernel_core.specs.Actions.{Action, Runs, Finds, AllAct, OwnSights}
use Rattle.partmem_c.specs.Lends.{lent_range, lent_page, lent_object}
use Rattle.partmem_c.specs.Lines.{AnswersLine}
use Rattle.partmem_c.specs.Actions.{Done, Line, Event, Call, FindObject, FindBlock, Lend, LendBlock, LendObject, Direct, Did, AllDid, IsOfReading, IsOf, AreOf, OwnSightsOfCalls}

line_is : (k k' : KernelContent) (reading : Result (Option events.Event) LineFault) (text : List ℕ) → AnswersLine k reading k' text → IsKernel k'
    → (actions : List Action) × IsOfReading reading text actions × AllAct k actions k'
line_is k k' (Ok (Some event)) text did is = (Runs event did.0 ∷ [], (did.0, refl, did.2), (k', (did.1, is), refl))
line_is k k' (Ok None) text did is = ([], (refl, did.1), did.0)
line_is k k' (Err fault) text did is = ([], (refl, did.1), did.0)

done_is : (k k' : KernelContent) (done : Done) → Did k done k' → (actions : List Action) × IsOf done actions × AllAct k actions k'
done_is k k' (Line line text) did = line_is k k' (reading_of line) text did.0 did.1
done_is k k' (Event a bytes numbers buffer buffer') did =
    let (event, says, answers, is) = did in (
      Runs event answers.reply ∷ [],
      (event, answers.reply, says, refl, answers.are, answers.over),
      (k', (answers.steps, is), refl),
    )
done_is k k' (Call event reply status) did = (Runs event reply ∷ [], (refl, did.1), (k', did.0, refl))
done_is k k' (FindObject t place (Ok numbers)) did =
    let found = FoundHolder did.0.0 in
    (Finds t (HolderOf place) found ∷ [], (found, (did.0.0, did.0.1, refl), refl), (k', (did.0.2, did.1), refl))
done_is k k' (FindObject t place (Err refusal)) did =
    (Finds t (HolderOf place) (Refused refusal) ∷ [], (Refused refusal, refl, refl), (k', (did.0.1, did.1), refl))
done_is k k' (FindBlock t place (Ok block)) did =
    let is = did.0.1 in
    let found = FoundBlock is.usage block.place block.bytes in
    (Finds t (BlockAround place) found ∷ [], (found, (is.usage, is.uses, refl), refl), (k', (is.is, did.1), refl))
done_is k k' (FindBlock t place (Err refusal)) did = (
  Finds t (BlockAround place) (Refused refusal) ∷ [],
  (Refused refusal, refl, refl),
  (k', (inl (did.0.0, ap (λ why. Refused why) did.0.1), did.1), refl),
)
done_is k k' (Lend t place len outcome) did =
    (Finds t (RangeAt place len) (found_or_refused lent_range outcome) ∷ [], refl, (k', (did.0.1, did.1), refl))
done_is k k' (LendBlock t place outcome) did =
    (Finds t (PageAround place) (found_or_refused lent_page outcome) ∷ [], refl, (k', (did.0.1, did.1), refl))
done_is k k' (LendObject t cache place outcome) did =
    (Finds t (ObjectAt cache place) (found_or_refused (lent_object cache) outcome) ∷ [], refl, (k', (did.0.1, did.1), refl))
done_is k k' (Direct action) did = (action ∷ [], refl, (k', did, refl))

both_act : (k m k' : KernelContent) (xs ys : List Action) → AllAct k xs m → AllAct m ys k' → AllAct k (xs ++ ys) k'
both_act k m k' [] ys first rest = subst (λ (x : KernelContent). AllAct x ys k') first rest
both_act k m k' (x ∷ xs) ys first rest = (first.0, first.1, both_act first.0 m k' xs ys first.2 rest)

pub all_are : (k k' : KernelContent) (all : List Done) → AllDid k all k' → (actions : List Action) × AreOf all actions × AllAct k actions k'
all_are k k' [] did = ([], refl, did)
all_are k k' (done ∷ all) did =
    let first = done_is k did.0 done did.1 in let rest = all_are did.0 k' all did.2 in (
      first.0 ++ rest.0,
      (first.0, rest.0, first.1, rest.1, refl),
      both_act k did.0 k' first.0 rest.0 first.2 rest.2,
    )

pub own_sights_of : OwnSights → OwnSightsOfCalls
own_sights_of own k k' superblocks tenants t all booted here did =
    let are = all_are k k' all did in
    (are.0, are.1, are.2, (own k k' superblocks tenants t are.0 booted here are.2).0)
