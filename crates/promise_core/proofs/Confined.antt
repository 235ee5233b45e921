-- The bytes that a tenant reads are its own, by induction over the exchanges.
use Rattle.std.proofs.Common.{◌≡◌, ℕ, zero, suc, ◌+◌, ◌-◌, ◌<◌, Bool, true, false, not, ◌&&◌, ◌||◌, List, [], ◌∷◌, length, Option, Some, None, Result, Ok, Err, slice_get, refl, ap, sym, subst, ◌∙◌, inl, inr, arith}
use Rattle.std.specs.Prelude.{slice_index, if◌then◌else◌, ◌==◌}
use Rattle.std.specs.List.{list_any}
use Rattle.std.specs.Option.{option_map_or}
use Rattle.std.proofs.lemmas.Bool.{eq-eqb, ne_eqb, false≢true, or_left, or_right, and_left, and_right, and_from, and_parts, not-true, le-leb, lt-ltb}
use Rattle.arrayvec.specs.ArrayVec.{ArrayVec}
use Rattle.model_core.specs.Blocks.{block}
use Rattle.model_core.specs.Machine.{in_block, slot_of}
use Rattle.model_core.specs.Elements.{IsIn}
use Rattle.model_core.proofs.Lists.{filter_in, map_in}
use Rattle.words_core.specs.declared.event.Event.{Event}
use Rattle.words_core.specs.declared.event.Event.TheVariants as On
use Rattle.words_core.specs.declared.event.AdminCommand.TheVariants as Do
use Rattle.words_core.specs.declared.event.Command.TheVariants as Command
use Rattle.words_core.specs.declared.reply.Body.{Body}
use Rattle.words_core.specs.declared.reply.Body.TheVariants as Say
use Rattle.words_core.specs.declared.reply.Refusal.{Refusal}
use Rattle.words_core.specs.declared.reply.Reply.{Reply}
use Rattle.world_core.specs.World.{Exchange}
use Rattle.promise_core.specs.declared.promise.Promise.{Promise}
use Rattle.promise_core.specs.Holdings.{KnownCache, has_slot, known_cache, with_live_places}
use Rattle.promise_core.specs.Bytes.{Holder, is_object, is_same, Cell, known_fresh_byte, may_be, with_bytes, may_all_be, holder_of}
use Rattle.promise_core.specs.State.{State, Known, opening_state, opening, is_in_no_slab, state_after}
use Rattle.promise_core.specs.Promises.{is_no_tenant, named, owners, bytes, allowed, all_allowed}
use Rattle.promise_core.specs.Laws.{gives_pattern, writes_byte, grants_slot, was_given, was_written, is_own, Confined}
use Rattle.promise_core.specs.Lying.{AreOfHeld}
use Rattle.promise_core.proofs.AllowedReplies.{ok_same, allowed_is}
use Rattle.promise_core.proofs.ExplainedBytes.{own, IsExplained, own_written, own_more, may_own, each_may}
use Rattle.promise_core.proofs.Steps.{in_put, replicated, some_state, some_number, none_named, states_at, same_cells, without_cells, object_cells, range_cells, doubted_cells}
use Rattle.promise_core.proofs.ReachedStates.{AllLaid, allowed_laid, opening_laid}

-- Lists

get_index : (xs : List ℕ) (i : ℕ) → i < length xs → slice_get xs i ≡ Some (slice_index xs i)
get_index [] i h = absurd (omega arith)
get_index (x ∷ xs) zero h = refl
get_index (x ∷ xs) (suc i) h = get_index xs i (omega arith)

-- Patterns and bytes carried over from the state before

-- each pattern of a cache in s' is the pattern of a cache in s, and the byte left at the place in s' was left there in s too
pub record IsCarried (place : ℕ) (s s' : State) : Type 0 where
  pub patterns : (c : KnownCache) → IsIn c s'.has.caches → (d : KnownCache) × IsIn d s.has.caches × (d.pattern ≡ c.pattern)
  pub cells : (cell : Cell) → s'.cells place ≡ Some cell → (old : Cell) × (s.cells place ≡ Some old) × (old.byte ≡ cell.byte)

pub carried : (given written given' written' : ℕ → Bool) (place : ℕ) (s s' : State) → ((b : ℕ) → given b ≡ true → given' b ≡ true)
    → ((b : ℕ) → written b ≡ true → written' b ≡ true) → IsCarried place s s' → IsExplained given written place s → IsExplained given' written' place s'
carried given written given' written' place s s' more_given more_written c x = record {
  patterns = λ cache i b e. let d = c.patterns cache i in more_given b (x.patterns d.0 d.1 b (subst (λ p. list_any (λ y. y == b) p ≡ true) (sym d.2) e));
  cells = λ cell e. let d = c.cells cell e in
      subst (λ b. own given' written' b ≡ true) d.2 (own_more given written given' written' more_given more_written _ (x.cells d.0 d.1));
}

same_patterns : (s : State) (c : KnownCache) → IsIn c s.has.caches → (d : KnownCache) × IsIn d s.has.caches × (d.pattern ≡ c.pattern)
same_patterns s c i = (c, i, refl)

live_pattern : (b : Bool) (c : KnownCache) (live : List ℕ) → (if b then record c { live = live } else c).pattern ≡ c.pattern
live_pattern true c live = refl
live_pattern false c live = refl

live_patterns : (s : State) (number : ℕ) (change : List ℕ → List ℕ) (c : KnownCache) → IsIn c (with_live_places number change s.has).caches
    → (d : KnownCache) × IsIn d s.has.caches × (d.pattern ≡ c.pattern)
live_patterns s number change c i =
    let from : (d : KnownCache) × IsIn d s.has.caches × ((if d.number == number then record d { live = change d.live } else d) ≡ c) = map_in _ c s.has.caches i in
    (from.0, from.1, sym (live_pattern (from.0.number == number) from.0 (change from.0.live)) ∙ ap (λ x. x.pattern) from.2)

-- Which exchanges give a pattern, write a byte, or grant a slot

grants_refused : (order t place : ℕ) (event : Event) (r : Refusal) → grants_slot order t place event (Say.Refused r) ≡ false
grants_refused order t place (On.Admin (Do.Grant n)) r = refl
grants_refused order t place event r = refl

-- an event that does not name tenant t does not grant t the slot of the place
grants_other : (order t place : ℕ) (event : Event) (body : Body) → (named event ≡ Some t → ⊥) → grants_slot order t place event body ≡ false
grants_other order t place (On.Admin (Do.Grant n)) (Say.Granted told u superblock) other = and_left _ _ (ne_eqb n t (λ e. other (ap Some e)))
grants_other order t place event body other = refl

-- if the reply is the refusal `NoTenant`, the slot of the place is not granted
grants_none : (order t place : ℕ) (event : Event) (body : Body) → is_no_tenant body ≡ true → grants_slot order t place event body ≡ false
grants_none order t place event (Say.Refused r) e = grants_refused order t place event r
grants_none order t place event body e = absurd (cc)

-- after the event, the byte is in a pattern that the tenant gave
abbrev given_after : ℕ → (ℕ → Bool) → Event → ℕ → Bool
given_after t given event b = given b || gives_pattern t b event

abbrev written_after : ℕ → ℕ → ℕ → (ℕ → Bool) → Event → Body → ℕ → Bool
written_after order t place written event body b = writes_byte t place b event body || (written b && not (grants_slot order t place event body))

still_given : (t : ℕ) (given : ℕ → Bool) (event : Event) (b : ℕ) → given b ≡ true → given_after t given event b ≡ true
still_given t given event b e = or_left _ _ e

still_written : (order t place : ℕ) (written : ℕ → Bool) (event : Event) (body : Body) (b : ℕ) → grants_slot order t place event body ≡ false
    → written b ≡ true → written_after order t place written event body b ≡ true
still_written order t place written event body b none e = or_right (writes_byte t place b event body) _ (and_from _ _ e (ap not none))

-- One step, for the tenant that its event names
module _ (order t place : ℕ) (given written : ℕ → Bool) where
  abbrev After : Event → Body → State → Type 0
  After event body s = IsExplained (given_after t given event) (written_after order t place written event body) place s

  own_stays : (event : Event) (body : Body) (byte : ℕ) → grants_slot order t place event body ≡ false → own given written byte ≡ true
      → own (given_after t given event) (written_after order t place written event body) byte ≡ true
  own_stays event body byte none = own_more given written (given_after t given event) (written_after order t place written event body)
      (still_given t given event) (λ b. still_written order t place written event body b none) byte

  own_wrote : (event : Event) (body : Body) (byte : ℕ) → writes_byte t place byte event body ≡ true
      → own (given_after t given event) (written_after order t place written event body) byte ≡ true
  own_wrote event body byte e = own_written (given_after t given event) (written_after order t place written event body) byte (or_left _ _ e)

  carry : (event : Event) (body : Body) (s mid s' : State) → grants_slot order t place event body ≡ false → Some mid ≡ Some s' → IsCarried place s mid
      → IsExplained given written place s → After event body s'
  carry event body s mid s' none e c x = subst (After event body) (some_state e)
      (carried given written (given_after t given event) (written_after order t place written event body) place s mid
      (still_given t given event) (λ b. still_written order t place written event body b none) c x)

  -- after a read, the byte that is left at the place is the tenant's own
  read_step : (begin len : ℕ) (told : List ℕ) (s : State) (holder : Option Holder) (cell : Cell) → IsExplained given written place s
      → option_map_or (λ x. may_all_be s.has s.cells x begin told) holder false ≡ true
      → option_map_or (λ x. with_bytes x begin told s.cells) holder s.cells place ≡ Some cell → own given written cell.byte ≡ true
  read_step begin len told s holder cell x all e = elim (range_cells begin place told s holder cell e) [
    | inl (y, is, low, high, byte) ↦
        let j : place - begin < length told = omega arith in
        let whole : begin + (place - begin) ≡ place = omega arith in
        let may = each_may s.has s.cells y begin told (place - begin) _ (subst (λ o. option_map_or (λ x. may_all_be s.has s.cells x begin told) o false ≡ true) is all)
        (get_index told (place - begin) j) in
        subst (λ b. own given written b ≡ true) (sym byte)
        (may_own given written place s y _ x (subst (λ p. may_be y (known_fresh_byte s.has y p) (s.cells p) (slice_index told (place - begin)) ≡ true) whole may))
    | inr was ↦ x.cells cell was
  ]

  write_step : (n begin : ℕ) (new : ArrayVec ℕ) (count : ℕ) (s : State) (holder : Option Holder) (cell : Cell) → n ≡ t → IsExplained given written place s
      → option_map_or (λ x. with_bytes x begin new.items s.cells) holder s.cells place ≡ Some cell
      → own (given_after t given (On.Tenant n (Command.Write begin new)))
      (written_after order t place written (On.Tenant n (Command.Write begin new)) (Say.Written count)) cell.byte ≡ true
  write_step n begin new count s holder cell is x e = elim (range_cells begin place new.items s holder cell e) [
    | inl (y, h, low, high, byte) ↦ own_wrote (On.Tenant n (Command.Write begin new)) (Say.Written count) cell.byte (and_from _ _ (eq-eqb n t is)
        (and_from _ _ (and_from _ _ (le-leb begin place low) (lt-ltb place _ high)) (eq-eqb _ _ (sym byte))))
    | inr was ↦ own_stays (On.Tenant n (Command.Write begin new)) (Say.Written count) cell.byte refl (x.cells cell was)
  ]

  opened : (event : Event) (body : Body) → After event body opening_state
  unfolding opening_state
  opened event body = record { patterns = λ c m. elim m [ ]; cells = λ cell e. absurd (cc) }

  -- if a byte was left at the place, a grant of a slot that is not held does not grant the slot of the place
  grants_no_held : (n u superblock told : ℕ) (s : State) (cell : Cell) → not (has_slot s.has u) ≡ true → AreOfHeld order s.has s.cells
      → s.cells place ≡ Some cell → grants_slot order t place (On.Admin (Do.Grant n)) (Say.Granted told u superblock) ≡ false
  grants_no_held n u superblock told s cell new held is = and_right (n == t) _
      (ne_eqb (slot_of order place) u (λ same. false≢true (sym (not-true _ new) ∙ subst (λ v. has_slot s.has v ≡ true) same (held place cell is))))

  step : (w : Known) (event : Event) (body : Body) (s s' : State) → state_after w.order event body s ≡ Some s' → owners event body w s ≡ true
      → bytes event body w s ≡ true → AreOfHeld order s.has s.cells → named event ≡ Some t → IsExplained given written place s → After event body s'
  unfolding state_after
  step w event (Say.Refused r) s s' e own b l n x =
      carry event (Say.Refused r) s s s' (grants_refused order t place event r) e (record { patterns = same_patterns s; cells = same_cells place s }) x
  step w (On.Tenant i (Command.Alloc k)) (Say.Frame f) s s' e own b l n x =
      carry (On.Tenant i (Command.Alloc k)) (Say.Frame f) s _ s' refl e
      (record { patterns = same_patterns s; cells = without_cells (λ p holder. in_block p (block f k) && not (is_same Holder.Page holder)) place s }) x
  step w (On.Tenant i (Command.Free f)) (Say.Freed k) s s' e own b l n x =
      carry (On.Tenant i (Command.Free f)) (Say.Freed k) s _ s' refl e
      (record { patterns = same_patterns s; cells = doubted_cells (λ p holder. in_block p (block f k) && is_same Holder.Page holder) place s }) x
  step w (On.Tenant i (Command.Read begin len)) (Say.Bytes told) s s' e own b l n x = subst (After (On.Tenant i (Command.Read begin len)) (Say.Bytes told)) (some_state e)
      (record {
        patterns = λ c m y g. or_left _ _ (x.patterns c m y g);
        cells = λ cell h. own_stays (On.Tenant i (Command.Read begin len)) (Say.Bytes told) cell.byte refl
            (read_step begin len told.items s (holder_of s.has begin len) cell x (and_parts _ _ b).1 h);
      })
  step w (On.Tenant i (Command.Write begin new)) (Say.Written count) s s' e own b l n x = subst (After (On.Tenant i (Command.Write begin new)) (Say.Written count)) (some_state e)
      (record {
        patterns = λ c m y g. or_left _ _ (x.patterns c m y g);
        cells = λ cell h. write_step i begin new count s (holder_of s.has begin count) cell (some_number n) x h;
      })
  step w (On.Tenant i (Command.Cache size align pattern)) (Say.Cache number chunk q c colours) s s' e own b l n x =
      subst (After (On.Tenant i (Command.Cache size align pattern)) (Say.Cache number chunk q c colours)) (some_state e)
      (record {
        patterns = λ d m y g. elim (in_put (λ z. z.number) _ d s.has.caches m) [
          | inl same ↦ or_right (given y) _ (and_from _ _ (eq-eqb i t (some_number n)) (subst (λ z. list_any (λ v. v == y) z.pattern ≡ true) (sym same) g))
          | inr old ↦ or_left _ _ (x.patterns d old y g)
        ];
        cells = λ cell h. own_stays (On.Tenant i (Command.Cache size align pattern)) (Say.Cache number chunk q c colours) cell.byte refl (x.cells cell h);
      })
  step w (On.Tenant i (Command.Destroy number)) (Say.Destroyed frames) s s' e own b l n x =
      carry (On.Tenant i (Command.Destroy number)) (Say.Destroyed frames) s _ s' refl e
      (record { patterns = λ c m. (c, (filter_in _ c s.has.caches m).0, refl); cells = without_cells (λ p. is_object (λ m q. m == number)) place s }) x
  step w (On.Tenant i (Command.Take number)) (Say.Object first) s s' e own b l n x =
      carry (On.Tenant i (Command.Take number)) (Say.Object first) s _ s' refl e (record { patterns = live_patterns s number _; cells = object_cells first place s (known_cache s.has number) }) x
  step w (On.Tenant i (Command.Give number first)) Say.Given s s' e own b l n x =
      carry (On.Tenant i (Command.Give number first)) Say.Given s _ s' refl e
      (record { patterns = live_patterns s number _; cells = doubted_cells (λ p. is_same (Holder.Object number first)) place s }) x
  step w (On.Tenant i Command.Reap) (Say.Reaped frames) s s' e own b l n x =
      carry (On.Tenant i Command.Reap) (Say.Reaped frames) s _ s' refl e
      (record { patterns = same_patterns s; cells = without_cells (λ p. is_object (is_in_no_slab s.has)) place s }) x
  step w (On.Tenant i Command.Report) (Say.Report r) s s' e own b l n x =
      carry (On.Tenant i Command.Report) (Say.Report r) s _ s' refl e (record { patterns = same_patterns s; cells = same_cells place s }) x
  step w (On.Admin (Do.Grant i)) (Say.Granted told u superblock) s s' e own b l n x = subst (After (On.Admin (Do.Grant i)) (Say.Granted told u superblock)) (some_state e)
      (record {
        patterns = λ c m y g. or_left _ _ (x.patterns c m y g);
        cells = λ cell h. own_stays (On.Admin (Do.Grant i)) (Say.Granted told u superblock) cell.byte
            (grants_no_held i u superblock told s cell (and_parts _ _ (and_parts _ _ own).1).0 l h) (x.cells cell h);
      })
  step w (On.Admin (Do.TakeBack i u)) (Say.TakenBack superblock) s s' e own b l n x =
      carry (On.Admin (Do.TakeBack i u)) (Say.TakenBack superblock) s _ s' refl e
      (record { patterns = same_patterns s; cells = without_cells (λ p holder. slot_of w.order p == u) place s }) x
  step w (On.Admin (Do.Reset i)) (Say.WasReset told superblocks) s s' e own b l n x = subst (After (On.Admin (Do.Reset i)) (Say.WasReset told superblocks)) (some_state e)
      (opened (On.Admin (Do.Reset i)) (Say.WasReset told superblocks))
  step w (On.Admin (Do.Move i u)) (Say.Moved told slot superblock) s s' e own b l n x =
      carry (On.Admin (Do.Move i u)) (Say.Moved told slot superblock) s s s' refl e (record { patterns = same_patterns s; cells = same_cells place s }) x
  step w (On.Admin Do.Pool) (Say.Owners owners) s s' e own b l n x = absurd (none_named n)
  step w event body s s' e own b l n x = absurd (cc)

  stays : (event : Event) (body : Body) (s : State) → grants_slot order t place event body ≡ false → IsExplained given written place s → After event body s
  stays event body s none x = carry event body s s s none refl (record { patterns = same_patterns s; cells = same_cells place s }) x

-- in the state of tenant t, all patterns were given, and the byte left at the place is zero, given or written
abbrev Holds : ℕ → ℕ → (ℕ → Bool) → (ℕ → Bool) → Known → Type 0
Holds t place given written w = (s : State) → slice_get w.states t ≡ Some s → IsExplained given written place s

allowed_step : (order t place : ℕ) (given written : ℕ → Bool) (event : Event) (reply : Reply) (w v : Known) → allowed event reply w ≡ Ok v → AllLaid order w
    → Holds t place given written w → Holds t place (given_after t given event) (written_after order t place written event reply.body) v
allowed_step order t place given written event reply w v e laid holds = elim (allowed_is event reply w v e) [
  | inl none ↦ λ s h. stays order t place given written event reply.body s (grants_none order t place event reply.body none.said)
      (holds s (subst (λ k. slice_get k.states t ≡ Some s) none.is h))
  | inr a ↦ λ x h. elim (states_at t (named event) w.states a.after x (subst (λ k. slice_get k.states t ≡ Some x) a.is h)) [
    | inl (same, is) ↦ let here = subst (λ n. option_map_or (slice_get w.states) n (Some opening_state) ≡ Some a.state) same a.here in
        subst (λ y. IsExplained (given_after t given event) (written_after order t place written event reply.body) place y) (sym is)
        (step order t place given written w event reply.body a.state a.after a.next a.owners a.bytes (laid.1 t a.state here).held same (holds a.state here))
    | inr (other, was) ↦ stays order t place given written event reply.body x (grants_other order t place event reply.body other) (holds x was)
  ]
]

run : (order t place : ℕ) (given written : ℕ → Bool) (es : List Exchange) (w v : Known) → all_allowed es (Ok w) ≡ Ok v → AllLaid order w
    → Holds t place given written w → Holds t place (λ b. was_given t b (given b) es) (λ b. was_written order t place b (written b) es) v
run order t place given written [] w v e laid holds = subst (Holds t place given written) (sym (ok_same e)) holds
run order t place given written (x ∷ xs) w v e laid holds =
    go (allowed x.event x.reply w) refl e
    (λ u r l h. run order t place (given_after t given x.event) (written_after order t place written x.event x.reply.body) xs u v r l h)
  where
    go : (r : Result Known Promise) → allowed x.event x.reply w ≡ r → all_allowed xs r ≡ Ok v
        → ((u : Known) → all_allowed xs (Ok u) ≡ Ok v → AllLaid order u
        → Holds t place (given_after t given x.event) (written_after order t place written x.event x.reply.body) u → Holds t place (λ b. was_given t b (given b) (x ∷ xs)) (λ b. was_written order t place b (written b) (x ∷ xs)) v)
        → Holds t place (λ b. was_given t b (given b) (x ∷ xs)) (λ b. was_written order t place b (written b) (x ∷ xs)) v
    go (Err promise) is r rest = absurd (cc)
    go (Ok u) is r rest = rest u r (allowed_laid order x.event x.reply w u is laid) (allowed_step order t place given written x.event x.reply w u is laid holds)

opening_holds : (limit order superblocks tenants t place : ℕ) (given written : ℕ → Bool) → Holds t place given written (opening limit order superblocks tenants)
unfolding opening opening_state
opening_holds limit order superblocks tenants t place given written s h =
    subst (IsExplained given written place) (sym (replicated tenants t opening_state s h))
    (record { patterns = λ c m. elim m [ ]; cells = λ cell e. absurd (cc) })

pub confined : Confined
unfolding opening
confined limit order superblocks tenants t begin len j byte es addressee told w v e r at =
    elim (allowed_is (On.Tenant t (Command.Read begin len)) (record { addressee = addressee; body = Say.Bytes told }) w v r) [
      | inl none ↦ absurd (false≢true none.said)
      | inr a ↦ go a.state (reached a.state a.here) (holder_of a.state.has begin len) (and_parts _ _ a.bytes).1
    ]
  where
    reached : Holds t (begin + j) (λ b. was_given t b false es) (λ b. was_written order t (begin + j) b false es) w
    reached = run order t (begin + j) (λ b. false) (λ b. false) es (opening limit order superblocks tenants) w e
        (opening_laid limit order superblocks tenants) (opening_holds limit order superblocks tenants t (begin + j) (λ b. false) (λ b. false))

    go : (s : State) → IsExplained (λ b. was_given t b false es) (λ b. was_written order t (begin + j) b false es) (begin + j) s → (holder : Option Holder)
        → option_map_or (λ x. may_all_be s.has s.cells x begin told.items) holder false ≡ true → is_own order t (begin + j) byte es ≡ true
    go s x None all = absurd (false≢true all)
    go s x (Some holder) all = may_own (λ b. was_given t b false es) (λ b. was_written order t (begin + j) b false es) (begin + j) s holder byte x
        (each_may s.has s.cells holder begin told.items j byte all at)
