-- If a tenant's own lines are run alone on a new machine of the same sizes, its own list there is the same as in the whole trace.
use Rattle.std.proofs.Common.{◌≡◌, ℕ, ◌+◌, ◌*◌, ◌^◌, ◌<◌, ◌≤◌, Bool, true, false, cond, ◌==◌, ◌&&◌, List, [], ◌∷◌, ◌++◌, length, map, filter, Option, Some, None, Result, Ok, Err, is_none, position, slice_get, refl, ap, sym, subst, ◌∙◌, arith}
use Rattle.std.specs.Prelude.{if◌then◌else◌, slice_set}
use Rattle.std.specs.List.{list_all, onto_first}
use Rattle.std.proofs.lemmas.Bool.{eqb-true, false≢true}
use Rattle.std.proofs.lemmas.List.{append-nil, length-map, length-set}
use Rattle.model_core.specs.Machine.{Machine, empty_machine}
use Rattle.model_core.specs.Operations.{next_slot, take_back_step}
use Rattle.model_core.specs.declared.owner.Owner.{Owner}
use Rattle.model_core.specs.declared.refusals.TakeBackRefusal.{TakeBackRefusal}
use Rattle.model_core.specs.Owners.{owned_by, is_of, is_owner}
use Rattle.model_core.proofs.ConstructedObjects.{next_unheld}
use Rattle.words_core.specs.declared.event.Command.{Command}
use Rattle.words_core.specs.declared.event.Event.{Event}
use Rattle.words_core.specs.declared.event.Event.TheVariants as On
use Rattle.words_core.specs.declared.event.AdminCommand.TheVariants as Do
use Rattle.words_core.specs.declared.event.LineFault.{LineFault}
use Rattle.words_core.specs.Cutting.{lines_of_trace}
use Rattle.words_core.specs.Grammar.{reading_of}
use Rattle.world_core.specs.PrivateStep.{Entry, Grant, TakeBack}
use Rattle.world_core.specs.PrivateRun.{private_run}
use Rattle.world_core.specs.World.{World, WorldStep, answer, given_up, grant_step, tenant_step, take_back_answered, slot_step, reset_step, moved_to, move_step, opening_world, world_step, world_after, history}
use Rattle.world_core.specs.OwnList.{is_refused, if_named, own_entries, own_list}
use Rattle.world_core.specs.Output.{event_in, events_of, with_line_feeds}
use Rattle.world_core.specs.Laws.{opening_history}
use Rattle.world_core.proofs.OwnListRuns.{is_same, opening-machine, step_leaves}
use Rattle.world_core.proofs.TenantLines.{same_lines}
use Rattle.promise_core.specs.State.{Known}
use Rattle.promise_kept.specs.MeetsWorld.{MeetsWorld}
use Rattle.promise_kept.specs.WorldLaws.{CanBeRequested}
use Rattle.promise_kept.proofs.SuperblockOwners.{pool_first}
use Rattle.promise_kept.proofs.WorldSteps.{event_kept, read_asked, opening_meets}
use Rattle.replay_core.specs.Standing.{AreLines}
use Rattle.replay_core.proofs.LineLemmas.{lines_cut}
use Rattle.own_trace.specs.Kept.{RunLine, run_lines, has_entry, is_own_line, own_lines, own_trace}
use Rattle.own_trace.specs.Laws.{OwnListAlone, LinesAlone}
use Rattle.own_trace.proofs.Superblocks.{Owners, is_own_or_free, one, times, no_times, alone_has_room, granted_times, granted_all, given_times, given_all, new_all, new_times}

-- every superblock is free or the tenant's, and no slot of the tenant has two superblocks
pub record IsAlone (t : ℕ) (owners : Owners) : Type 0 where
  pub only : list_all (is_own_or_free t) owners ≡ true
  pub once : (u : ℕ) → times (is_owner t u) owners ≤ 1

-- The tenant has the same machine in both worlds: the world `whole` of all tenants, and the world `alone`, in which only its own
-- lines were run. Both worlds have the same number of superblocks. In `alone`, every superblock is free or the tenant's.
pub record Beside (limit order t : ℕ) (whole alone : World) : Type 0 where
  pub machine : Machine
  pub here : slice_get whole.machines t ≡ Some machine
  pub there : slice_get alone.machines t ≡ Some machine
  pub known : Known
  pub meets : MeetsWorld limit order known whole
  pub known_alone : Known
  pub meets_alone : MeetsWorld limit order known_alone alone
  pub size : length alone.owners ≡ length whole.owners
  pub by_itself : IsAlone t alone.owners

-- No step changes the number of superblocks

if_size : (b : Bool) (x y : WorldStep) (n : ℕ) → length x.world.owners ≡ n → length y.world.owners ≡ n → length (if b then x else y).world.owners ≡ n
if_size true x y n p q = p
if_size false x y n p q = q

tenant_size : (limit order t : ℕ) (command : Command) (w : World) (m : Option Machine) → length (tenant_step limit order t command w m).world.owners ≡ length w.owners
unfolding tenant_step answer
tenant_size limit order t command w None = refl
tenant_size limit order t command w (Some m) = refl

grant_size : (order t : ℕ) (w : World) (m : Option Machine) (free : Option ℕ) → length (grant_step order t w m free).world.owners ≡ length w.owners
unfolding grant_step answer
grant_size order t w None free = refl
grant_size order t w (Some m) None = refl
grant_size order t w (Some m) (Some j) = length-set w.owners j (Some (owned_by t (next_slot m)))

answered_size : (t slot : ℕ) (w : World) (after : Machine) (answered : Result (Unit {0}) TakeBackRefusal) → length (take_back_answered t slot w after answered).world.owners ≡ length w.owners
unfolding answer
answered_size t slot w after (Ok done) = length-map w.owners (given_up (is_owner t slot))
answered_size t slot w after (Err TakeBackRefusal.NoSlot) = refl
answered_size t slot w after (Err TakeBackRefusal.SlotBusy) = refl

slot_size : (order t slot : ℕ) (w : World) (m : Option Machine) → length (slot_step order t slot w m).world.owners ≡ length w.owners
unfolding slot_step answer
slot_size order t slot w None = refl
slot_size order t slot w (Some m) = answered_size t slot w (take_back_step order slot m).machine (take_back_step order slot m).answer

reset_size : (t : ℕ) (w : World) (m : Option Machine) → length (reset_step t w m).world.owners ≡ length w.owners
unfolding reset_step answer
reset_size t w None = refl
reset_size t w (Some m) = length-map w.owners (given_up (is_of t))

moved_size : (t slot : ℕ) (w : World) (free : Option ℕ) → length (moved_to t slot w free).world.owners ≡ length w.owners
unfolding answer
moved_size t slot w None = refl
moved_size t slot w (Some j) =
    length-set (map (given_up (is_owner t slot)) w.owners) j (Some (owned_by t slot)) ∙ length-map w.owners (given_up (is_owner t slot))

move_size : (t slot : ℕ) (w : World) (m : Option Machine) (free : Option ℕ) → length (move_step t slot w m free).world.owners ≡ length w.owners
unfolding move_step answer
move_size t slot w None free = refl
move_size t slot w (Some m) free = if_size _ _ _ (length w.owners) refl (moved_size t slot w free)

step_size : (limit order : ℕ) (event : Event) (w : World) → length (world_step limit order event w).world.owners ≡ length w.owners
unfolding world_step answer
step_size limit order (On.Tenant t command) w = tenant_size limit order t command w (slice_get w.machines t)
step_size limit order (On.Admin (Do.Grant t)) w = grant_size order t w (slice_get w.machines t) (position is_none w.owners)
step_size limit order (On.Admin (Do.TakeBack t slot)) w = slot_size order t slot w (slice_get w.machines t)
step_size limit order (On.Admin (Do.Reset t)) w = reset_size t w (slice_get w.machines t)
step_size limit order (On.Admin (Do.Move t slot)) w = move_size t slot w (slice_get w.machines t) (position is_none w.owners)
step_size limit order (On.Admin Do.Pool) w = refl

-- One event in the own list: it is the same entry in both worlds, and in the tenant's own world the tenant is still alone

abbrev entries_at : ℕ → ℕ → ℕ → Event → World → List Entry
entries_at limit order t event w = own_entries t event (world_step limit order event w).reply.body

record IsOwnStep (limit order t : ℕ) (event : Event) (whole alone : World) : Type 0 where
  entries : entries_at limit order t event alone ≡ entries_at limit order t event whole
  by_itself : IsAlone t (world_step limit order event alone).world.owners

given_alone : (t : ℕ) (gone : Option Owner → Bool) (owners : Owners) → IsAlone t owners → IsAlone t (map (given_up gone) owners)
given_alone t gone owners h = record {
  only = given_all (is_own_or_free t) gone owners refl h.only;
  once = λ u. omega (arith, h.once u, given_times (is_owner t u) gone owners refl);
}

tenant_alone : (limit order t : ℕ) (command : Command) (w : World) (m : Option Machine) → IsAlone t w.owners → IsAlone t (tenant_step limit order t command w m).world.owners
unfolding tenant_step answer
tenant_alone limit order t command w None h = h
tenant_alone limit order t command w (Some m) h = h

own_command : (limit order t : ℕ) (command : Command) (w v : World) → Beside limit order t w v → IsOwnStep limit order t (On.Tenant t command) w v
unfolding world_step
own_command limit order t command w v b = record {
  entries = refl;
  by_itself = tenant_alone limit order t command v (slice_get v.machines t) b.by_itself;
}

reset_alone : (t : ℕ) (w : World) (m : Option Machine) → IsAlone t w.owners → IsAlone t (reset_step t w m).world.owners
unfolding reset_step answer
reset_alone t w None h = h
reset_alone t w (Some m) h = given_alone t (is_of t) w.owners h

own_reset : (limit order t : ℕ) (w v : World) → Beside limit order t w v → IsOwnStep limit order t (On.Admin (Do.Reset t)) w v
unfolding world_step
own_reset limit order t w v b = record {
  entries = refl;
  by_itself = reset_alone t v (slice_get v.machines t) b.by_itself;
}

back_refused : Result (Unit {0}) TakeBackRefusal → Bool
back_refused (Ok done) = false
back_refused (Err refusal) = true

answered_refused : (t slot : ℕ) (w : World) (after : Machine) (answered : Result (Unit {0}) TakeBackRefusal)
    → is_refused (take_back_answered t slot w after answered).reply.body ≡ back_refused answered
unfolding answer back_refused
answered_refused t slot w after (Ok done) = refl
answered_refused t slot w after (Err TakeBackRefusal.NoSlot) = refl
answered_refused t slot w after (Err TakeBackRefusal.SlotBusy) = refl

slot_refused : (order t slot : ℕ) (w : World) (m : Machine) → slice_get w.machines t ≡ Some m
    → is_refused (slot_step order t slot w (slice_get w.machines t)).reply.body ≡ back_refused (take_back_step order slot m).answer
unfolding slot_step
slot_refused order t slot w m is =
    subst (λ o. is_refused (slot_step order t slot w o).reply.body ≡ back_refused (take_back_step order slot m).answer) (sym is)
    (answered_refused t slot w (take_back_step order slot m).machine (take_back_step order slot m).answer)

answered_alone : (t slot : ℕ) (w : World) (after : Machine) (answered : Result (Unit {0}) TakeBackRefusal) → IsAlone t w.owners → IsAlone t (take_back_answered t slot w after answered).world.owners
unfolding answer
answered_alone t slot w after (Ok done) h = given_alone t (is_owner t slot) w.owners h
answered_alone t slot w after (Err TakeBackRefusal.NoSlot) h = h
answered_alone t slot w after (Err TakeBackRefusal.SlotBusy) h = h

slot_alone : (order t slot : ℕ) (w : World) (m : Option Machine) → IsAlone t w.owners → IsAlone t (slot_step order t slot w m).world.owners
unfolding slot_step answer
slot_alone order t slot w None h = h
slot_alone order t slot w (Some m) h = answered_alone t slot w (take_back_step order slot m).machine (take_back_step order slot m).answer h

own_take_back : (limit order t slot : ℕ) (w v : World) → Beside limit order t w v → IsOwnStep limit order t (On.Admin (Do.TakeBack t slot)) w v
unfolding world_step
own_take_back limit order t slot w v b = record {
  entries = ap (λ (refused : Bool). if refused then [] else if_named t t (TakeBack slot)) (slot_refused order t slot v b.machine b.there ∙ sym (slot_refused order t slot w b.machine b.here));
  by_itself = slot_alone order t slot v (slice_get v.machines t) b.by_itself;
}

granted_refused : (order t : ℕ) (w : World) (m : Machine) (free : Option ℕ) → is_refused (grant_step order t w (Some m) free).reply.body ≡ is_none free
unfolding grant_step answer
granted_refused order t w m None = refl
granted_refused order t w m (Some j) = refl

grant_refused : (order t : ℕ) (w : World) (m : Machine) → slice_get w.machines t ≡ Some m
    → is_refused (grant_step order t w (slice_get w.machines t) (position is_none w.owners)).reply.body ≡ is_none (position is_none w.owners)
grant_refused order t w m is =
    subst (λ o. is_refused (grant_step order t w o (position is_none w.owners)).reply.body ≡ is_none (position is_none w.owners)) (sym is)
    (granted_refused order t w m (position is_none w.owners))

-- `IsAlone` still holds after a grant, since no superblock was in the slot that the tenant gets
granted_alone : (limit order t : ℕ) (k : Known) (w : World) (m : Machine) (free : Option ℕ) → MeetsWorld limit order k w → slice_get w.machines t ≡ Some m → position is_none w.owners ≡ free
    → IsAlone t w.owners → IsAlone t (grant_step order t w (Some m) free).world.owners
unfolding grant_step answer
granted_alone limit order t k w m None met is found h = h
granted_alone limit order t k w m (Some j) met is found h =
    let new : Option Owner = Some (owned_by t (next_slot m)) in
    let free_there = pool_first w.owners j found in record {
      only = granted_all (is_own_or_free t) w.owners j new h.only (is_same t);
      once = λ u. go u (is_owner t u new) refl (granted_times (is_owner t u) w.owners j new free_there refl);
    }
  where
    none : (u : ℕ) → next_slot m == u ≡ true → times (is_owner t u) w.owners ≡ 0
    none u same = subst (λ n. times (is_owner t n) w.owners ≡ 0) (eqb-true (next_slot m) u same)
        (no_times (is_owner t (next_slot m)) w.owners (sym (met.held t (next_slot m) m is) ∙ next_unheld order m (met.formed t m is)))

    go : (u : ℕ) (b : Bool) → is_owner t u (Some (owned_by t (next_slot m))) ≡ b
        → times (is_owner t u) (slice_set w.owners j (Some (owned_by t (next_slot m)))) ≡ one (is_owner t u (Some (owned_by t (next_slot m)))) + times (is_owner t u) w.owners
        → times (is_owner t u) (slice_set w.owners j (Some (owned_by t (next_slot m)))) ≤ 1
    go u true mine count = omega (arith, count, ap one mine, none u (subst (λ (b : Bool). b && (next_slot m == u) ≡ true) (is_same t) mine))
    go u false mine count = omega (arith, count, ap one mine, h.once u)

own_grant : (limit order t : ℕ) (w v : World) → Beside limit order t w v → is_none (position is_none w.owners) ≡ false → IsOwnStep limit order t (On.Admin (Do.Grant t)) w v
unfolding world_step
own_grant limit order t w v b room =
    let found = alone_has_room t w.owners v.owners (position is_none v.owners) b.by_itself.only b.by_itself.once
    (λ u. sym (b.meets_alone.held t u b.machine b.there) ∙ b.meets.held t u b.machine b.here) b.size refl room in record {
      entries = ap (λ (refused : Bool). if refused then [] else if_named t t Grant)
          (grant_refused order t v b.machine b.there ∙ found ∙ sym room ∙ sym (grant_refused order t w b.machine b.here));
      by_itself = subst (λ o. IsAlone t (grant_step order t v o (position is_none v.owners)).world.owners) (sym b.there)
          (granted_alone limit order t b.known_alone v b.machine (position is_none v.owners) b.meets_alone b.there refl b.by_itself);
    }

-- An event that is in the own list

if_has : (b : Bool) (entry : Entry) → has_entry (if b then entry ∷ [] else []) ≡ true → b ≡ true
if_has true entry has = refl
if_has false entry has = absurd (false≢true has)

granted_has : (refused b : Bool) (entry : Entry) → has_entry (if refused then [] else (if b then entry ∷ [] else [])) ≡ true → (refused ≡ false) × (b ≡ true)
granted_has true b entry has = absurd (false≢true has)
granted_has false b entry has = (refl, if_has b entry has)

own_step : (limit order t : ℕ) (event : Event) (w v : World) → Beside limit order t w v → has_entry (entries_at limit order t event w) ≡ true → IsOwnStep limit order t event w v
unfolding world_step
own_step limit order t (On.Tenant named command) w v b has =
    subst (λ n. IsOwnStep limit order t (On.Tenant n command) w v) (sym (eqb-true named t (if_has (named == t) (Entry.Ask command) has))) (own_command limit order t command w v b)
own_step limit order t (On.Admin (Do.Grant named)) w v b has =
    let parts = granted_has _ (named == t) Grant has in
    let same : named ≡ t = eqb-true named t parts.1 in
    let room = subst (λ n. is_refused (grant_step order n w (slice_get w.machines n) (position is_none w.owners)).reply.body ≡ false) same parts.0 in
    subst (λ n. IsOwnStep limit order t (On.Admin (Do.Grant n)) w v) (sym same)
    (own_grant limit order t w v b (sym (grant_refused order t w b.machine b.here) ∙ room))
own_step limit order t (On.Admin (Do.TakeBack named slot)) w v b has =
    let parts = granted_has _ (named == t) (TakeBack slot) has in
    subst (λ n. IsOwnStep limit order t (On.Admin (Do.TakeBack n slot)) w v) (sym (eqb-true named t parts.1)) (own_take_back limit order t slot w v b)
own_step limit order t (On.Admin (Do.Reset named)) w v b has =
    subst (λ n. IsOwnStep limit order t (On.Admin (Do.Reset n)) w v) (sym (eqb-true named t (if_has (named == t) Entry.Reset has))) (own_reset limit order t w v b)
own_step limit order t (On.Admin (Do.Move named slot)) w v b has = absurd (false≢true has)
own_step limit order t (On.Admin Do.Pool) w v b has = absurd (false≢true has)

-- Both worlds after an event that is in the own list

both_after : (limit order t : ℕ) (event : Event) (w v : World) → 3 ≤ order → CanBeRequested event → (b : Beside limit order t w v) → IsOwnStep limit order t event w v
    → Beside limit order t (world_step limit order event w).world (world_step limit order event v).world
both_after limit order t event w v le can b step =
    let whole = event_kept limit order event le can b.known w b.meets in
    let alone = event_kept limit order event le can b.known_alone v b.meets_alone in record {
      machine = (private_run limit order (entries_at limit order t event w) b.machine).machine;
      here = (step_leaves limit order t event w b.machine b.here).machine;
      there = (step_leaves limit order t event v b.machine b.there).machine
          ∙ ap (λ entries. Some (private_run limit order entries b.machine).machine) step.entries;
      known = whole.after;
      meets = whole.meets;
      known_alone = alone.after;
      meets_alone = alone.meets;
      size = step_size limit order event v ∙ b.size ∙ sym (step_size limit order event w);
      by_itself = step.by_itself;
    }

-- if an event is not in the own list, and is run only in the world of all tenants, the tenant still has the same machine in both
-- worlds
other_after : (limit order t : ℕ) (event : Event) (w v : World) → 3 ≤ order → CanBeRequested event → (b : Beside limit order t w v) → entries_at limit order t event w ≡ []
    → Beside limit order t (world_step limit order event w).world v
other_after limit order t event w v le can b none =
    let whole = event_kept limit order event le can b.known w b.meets in record {
      machine = b.machine;
      here = (step_leaves limit order t event w b.machine b.here).machine
          ∙ ap (λ entries. Some (private_run limit order entries b.machine).machine) none;
      there = b.there;
      known = whole.after;
      meets = whole.meets;
      known_alone = b.known_alone;
      meets_alone = b.meets_alone;
      size = b.size ∙ sym (step_size limit order event w);
      by_itself = b.by_itself;
    }

no_entry : (entries : List Entry) → has_entry (entries ++ []) ≡ false → entries ≡ []
no_entry [] none = refl
no_entry (entry ∷ entries) none = absurd (false≢true (sym none))

some_entry : (entries : List Entry) → has_entry (entries ++ []) ≡ true → has_entry entries ≡ true
some_entry [] some = some
some_entry (entry ∷ entries) some = refl

abbrev lines_in : List RunLine → List (List ℕ)
lines_in runs = map (λ run. run.line) runs

-- Suppose that the later kept lines, run alone, give the own list of the later events. Then the line of this event, if it is
-- kept, and the later kept lines, run alone, give the own list of this event and the later events.
one_event : (limit order t : ℕ) (line : List ℕ) (event : Event) (w v : World) (later : List RunLine) (more : List Event) → 3 ≤ order → reading_of line ≡ Ok (Some event)
    → Beside limit order t w v
    → ((next : World) → Beside limit order t (world_step limit order event w).world next
    → own_list t (history limit order next (events_of (lines_in later))) ≡ own_list t (history limit order (world_step limit order event w).world more))
    → (test : Bool) → has_entry (entries_at limit order t event w ++ []) ≡ test
    → own_list t (history limit order v (events_of (lines_in (cond test (record { line = line; exchanges = history limit order w (event ∷ []) } ∷ later) later))))
    ≡ entries_at limit order t event w ++ own_list t (history limit order (world_step limit order event w).world more)
one_event limit order t line event w v later more le is b rest true has =
    let step = own_step limit order t event w v b (some_entry (entries_at limit order t event w) has) in
    ap (λ r. own_list t (history limit order v (event_in r ++ events_of (lines_in later)))) is
    ∙ ap (λ entries. entries ++ own_list t (history limit order (world_step limit order event v).world (events_of (lines_in later)))) step.entries
    ∙ ap (λ entries. entries_at limit order t event w ++ entries)
    (rest (world_step limit order event v).world (both_after limit order t event w v le (read_asked line event is) b step))
one_event limit order t line event w v later more le is b rest false has =
    let none = no_entry (entries_at limit order t event w) has in
    rest v (other_after limit order t event w v le (read_asked line event is) b none)
    ∙ ap (λ entries. entries ++ own_list t (history limit order (world_step limit order event w).world more)) (sym none)

pub alone_from : (limit order t : ℕ) (lines : List (List ℕ)) (w v : World) → 3 ≤ order → Beside limit order t w v
    → own_list t (history limit order v (events_of (own_lines t limit order lines w))) ≡ own_list t (history limit order w (events_of lines))
alone_from limit order t [] w v le b = refl
alone_from limit order t (line ∷ lines) w v le b = go (reading_of line) refl (λ whole alone beside. alone_from limit order t lines whole alone le beside)
  where
    go : (reading : Result (Option Event) LineFault) → reading_of line ≡ reading
        → ((whole alone : World) → Beside limit order t whole alone
        → own_list t (history limit order alone (events_of (own_lines t limit order lines whole))) ≡ own_list t (history limit order whole (events_of lines)))
        → own_list t (history limit order v (events_of (lines_in (cond (has_entry (own_list t (history limit order w (event_in reading))))
        (record { line = line; exchanges = history limit order w (event_in reading) } ∷ filter (is_own_line t) (run_lines limit order lines (world_after limit order w (event_in reading))))
        (filter (is_own_line t) (run_lines limit order lines (world_after limit order w (event_in reading))))))))
        ≡ own_list t (history limit order w (event_in reading ++ events_of lines))
    go (Ok None) is rest = rest w v b
    go (Err fault) is rest = rest w v b
    go (Ok (Some event)) is rest =
        let next : World = (world_step limit order event w).world in
        one_event limit order t line event w v (filter (is_own_line t) (run_lines limit order lines next)) (events_of lines) le is b
        (rest next)
        (has_entry (entries_at limit order t event w ++ [])) refl

pub opening_beside : (limit order superblocks tenants t : ℕ) → superblocks * 2 ^ order * 4096 ≤ 2 ^ 32 → t < tenants
    → Beside limit order t (opening_world superblocks tenants) (opening_world superblocks tenants)
unfolding opening_world
opening_beside limit order superblocks tenants t ram here = record {
  machine = empty_machine;
  here = opening-machine superblocks tenants t here;
  there = opening-machine superblocks tenants t here;
  known = _;
  meets = opening_meets limit order superblocks tenants ram;
  known_alone = _;
  meets_alone = opening_meets limit order superblocks tenants ram;
  size = refl;
  by_itself = record {
    only = new_all t superblocks;
    once = λ u. omega (arith, new_times t u superblocks);
  };
}

-- The text of the kept lines is cut into the same lines again

onto_one : (b : ℕ) (lines : List (List ℕ)) → b == 10 ≡ false → AreLines lines → AreLines (onto_first b lines)
onto_one b [] other h = ((other, tt), tt)
onto_one b (line ∷ lines) other h = ((other, h.0), h.1)

are_lines : (bytes : List ℕ) → AreLines (lines_of_trace bytes)
are_lines [] = tt
are_lines (b ∷ bytes) = go (b == 10) refl (are_lines bytes)
  where
    go : (test : Bool) → b == 10 ≡ test → AreLines (lines_of_trace bytes) → AreLines (if test then [] ∷ lines_of_trace bytes else onto_first b (lines_of_trace bytes))
    go true is later = (tt, later)
    go false is later = onto_one b (lines_of_trace bytes) is later

kept_are_lines : (t limit order : ℕ) (lines : List (List ℕ)) (w : World) → AreLines lines → AreLines (own_lines t limit order lines w)
kept_are_lines t limit order [] w h = tt
kept_are_lines t limit order (line ∷ lines) w h =
    go (has_entry (own_list t (history limit order w (event_in (reading_of line)))))
    (kept_are_lines t limit order lines (world_after limit order w (event_in (reading_of line))) h.1)
  where
    go : (test : Bool) → AreLines (own_lines t limit order lines (world_after limit order w (event_in (reading_of line))))
        → AreLines (lines_in (cond test (record { line = line; exchanges = history limit order w (event_in (reading_of line)) }
        ∷ filter (is_own_line t) (run_lines limit order lines (world_after limit order w (event_in (reading_of line)))))
        (filter (is_own_line t) (run_lines limit order lines (world_after limit order w (event_in (reading_of line)))))))
    go true later = (h.0, later)
    go false later = later

own_cut : (limit order superblocks tenants t : ℕ) (trace : List ℕ) → lines_of_trace (own_trace limit order superblocks tenants t trace)
    ≡ own_lines t limit order (lines_of_trace trace) (opening_world superblocks tenants)
own_cut limit order superblocks tenants t trace =
    let lines : List (List ℕ) = own_lines t limit order (lines_of_trace trace) (opening_world superblocks tenants) in
    ap lines_of_trace (sym (append-nil (with_line_feeds lines)))
    ∙ lines_cut lines [] (kept_are_lines t limit order (lines_of_trace trace) (opening_world superblocks tenants) (are_lines trace))
    ∙ append-nil lines

pub own_list_alone : OwnListAlone
unfolding opening_history
own_list_alone limit order superblocks tenants t trace le ram here =
    let w : World = opening_world superblocks tenants in
    ap (λ lines. own_list t (history limit order w (events_of lines))) (own_cut limit order superblocks tenants t trace)
    ∙ alone_from limit order t (lines_of_trace trace) w w le (opening_beside limit order superblocks tenants t ram here)

pub lines_alone : LinesAlone
lines_alone limit order superblocks tenants t trace le ram many here =
    same_lines limit order superblocks tenants superblocks tenants t (own_trace limit order superblocks tenants t trace) trace many many
    (record { tenant = here; tenant' = here; own = own_list_alone limit order superblocks tenants t trace le ram here })
