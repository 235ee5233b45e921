-- Bytes were left only in held slots. Each step keeps this.
use Rattle.std.proofs.Common.{◌≡◌, ℕ, ◌+◌, ◌-◌, ◌*◌, ◌/◌, ◌^◌, ◌<◌, ◌≤◌, Bool, true, false, not, ◌&&◌, length, List, [], ◌∷◌, Option, Some, None, refl, ap, sym, subst, ◌∙◌, inl, inr, arith}
use Rattle.std.specs.Prelude.{◌==◌, if◌then◌else◌, filter, find, nat_lt}
use Rattle.std.specs.List.{list_any}
use Rattle.std.specs.Option.{option_map_or}
use Rattle.std.proofs.lemmas.Bool.{and_parts, leb-true, eqb-true}
use Rattle.std.proofs.lemmas.Nat.{mul-le}
use Rattle.model_core.specs.Elements.{IsIn}
use Rattle.model_core.proofs.Lists.{find_in, in_filter, some_any, any_in}
use Rattle.model_core.proofs.MemoryKept.{frame_slot}
use Rattle.model_core.specs.Blocks.{Block, block, HasFrame, IsAligned}
use Rattle.model_core.specs.Machine.{in_block, slot_of}
use Rattle.model_core.specs.Reach.{is_within, within_block}
use Rattle.words_core.specs.declared.event.Event.{Event}
use Rattle.words_core.specs.declared.event.Event.TheVariants as On
use Rattle.words_core.specs.declared.event.AdminCommand.TheVariants as Do
use Rattle.words_core.specs.declared.event.Command.TheVariants as Command
use Rattle.words_core.specs.declared.reply.Body.{Body}
use Rattle.words_core.specs.declared.reply.Body.TheVariants as Say
use Rattle.promise_core.specs.Bytes.{Holder, is_object, is_same, Cell, without, object_with, holder_of}
use Rattle.promise_core.specs.Holdings.{KnownCache, Holdings, has_slot, known_cache, slab_around}
use Rattle.promise_core.specs.Lying.{IsLaid, AllGridded, AreOfHeld}
use Rattle.promise_core.specs.State.{State, Known, opening_state, with_range, is_in_no_slab, state_after}
use Rattle.promise_core.specs.Promises.{bytes}
use Rattle.promise_core.proofs.Steps.{some_state, without_left, same_cells, without_cells, object_cells, range_cells, doubted_cells}
use Rattle.promise_core.proofs.LiveApart.{slot_put}

-- The holder of a range of bytes lies in a held slot

in_slot : (order p : ℕ) (h : Holdings) (b : Block) → IsAligned order b → has_slot h (b.first / 2 ^ order) ≡ true
    → 4096 * b.first ≤ p → p < 4096 * (b.first + 2 ^ b.order) → has_slot h (slot_of order p) ≡ true
in_slot order p h b aligned held low high =
    let frame : HasFrame b (p / 4096) = (omega (arith, low), omega (arith, high)) in
    subst (λ u. has_slot h u ≡ true) (sym (frame_slot order (p / 4096) b aligned frame)) held

-- the holder is a live object of one of these caches, and contains the whole range
pub record HasRange (place len : ℕ) (holder : Holder) (cs : List KnownCache) : Type 0 where
  pub cache : KnownCache
  pub first : ℕ
  pub listed : IsIn cache cs
  pub live : IsIn first cache.live
  pub is : holder ≡ Holder.Object cache.number first
  pub within : is_within place len first cache.size ≡ true

pub object_has : (place len : ℕ) (holder : Holder) (cs : List KnownCache) → object_with place len cs ≡ Some holder → HasRange place len holder cs
object_has place len holder [] e = absurd (cc)
object_has place len holder (c ∷ cs) e = go (find (λ p. is_within place len p c.size) c.live) refl e (object_has place len holder cs)
  where
    go : (o : Option ℕ) → find (λ p. is_within place len p c.size) c.live ≡ o
        → option_map_or (λ p. Some (Holder.Object c.number p)) o (object_with place len cs) ≡ Some holder
        → (object_with place len cs ≡ Some holder → HasRange place len holder cs) → HasRange place len holder (c ∷ cs)
    go None is later rest = let r = rest later in
        record { cache = r.cache; first = r.first; listed = inr r.listed; live = r.live; is = r.is; within = r.within }
    go (Some p) is here rest =
        let f = find_in (λ q. is_within place len q c.size) p c.live is in
        let same : Holder.Object c.number p ≡ holder = cc in
        record { cache = c; first = p; listed = inl refl; live = f.0; is = sym same; within = f.1 }

last_ends : (j n k : ℕ) → j < n → j * k ≤ (n - 1) * k
last_ends j n k lt = mul-le j k (n - 1) k (omega (arith, lt)) (omega arith)

pub range_held : (order : ℕ) (h : Holdings) → IsLaid order h → AllGridded order h → (place len : ℕ) (holder : Holder) → holder_of h place len ≡ Some holder
    → (j : ℕ) → j < len → has_slot h (slot_of order (place + j)) ≡ true
unfolding holder_of
range_held order h laid gridded place len holder is j lt = go (not (nat_lt 0 len)) (list_any (within_block place len) h.pages) refl is
  where
    go : (a b : Bool) → list_any (within_block place len) h.pages ≡ b
        → (if a then None else (if b then Some Holder.Page else object_with place len h.caches)) ≡ Some holder
        → has_slot h (slot_of order (place + j)) ≡ true
    go true b found e = absurd (cc)
    go false true found e =
        let page = some_any (within_block place len) h.pages found in
        let b = page.0 in
        let range = and_parts _ _ page.2 in
        let low : 4096 * b.first ≤ place = leb-true (4096 * b.first) place range.0 in
        let high : place + len ≤ 4096 * b.first + 4096 * 2 ^ b.order = leb-true (place + len) (4096 * b.first + 4096 * 2 ^ b.order) range.1 in
        let at = laid.placed None b page.1 in
        in_slot order (place + j) h b at.0 at.1 (omega (arith, low)) (omega (arith, high, lt))
    go false false found e =
        let o = object_has place len holder h.caches e in
        let b = slab_around o.cache o.first in
        let at = laid.placed (Some o.cache.number) b (o.cache, o.first, o.listed, o.live, refl, refl) in
        let grid = (gridded o.cache o.listed).grids b.first in
        let on = grid.on o.first o.live refl in
        let row = last_ends on.0 o.cache.count o.cache.chunk on.1 in
        let is : o.first ≡ grid.origin + on.0 * o.cache.chunk = on.2 in
        let low = grid.low in
        let high = grid.high in
        let at_byte = and_parts _ _ o.within in
        let begins : o.first ≤ place = leb-true o.first place at_byte.0 in
        let ends : place + len ≤ o.first + o.cache.size = leb-true (place + len) (o.first + o.cache.size) at_byte.1 in
        in_slot order (place + j) h b at.0 at.1 (omega (arith, low, is, begins)) (omega (arith, high, is, row, ends, lt))

-- A step

-- if a step leaves only bytes that were left before, and drops no slot, all bytes that are left are still in held slots
stays_held : (order : ℕ) (s mid s' : State) → Some mid ≡ Some s' → ((u : ℕ) → has_slot s.has u ≡ true → has_slot mid.has u ≡ true)
    → ((place : ℕ) (cell : Cell) → mid.cells place ≡ Some cell → (old : Cell) × (s.cells place ≡ Some old) × (old.byte ≡ cell.byte))
    → AreOfHeld order s.has s.cells → AreOfHeld order s'.has s'.cells
stays_held order s mid s' e slots cells held = subst (λ y. AreOfHeld order y.has y.cells) (some_state e)
    (λ place cell is. let old = cells place cell is in slots (slot_of order place) (held place old.0 old.1))

-- after the bytes of a range are read or written, all bytes that are left are still in held slots
put_held : (order begin len : ℕ) (new : List ℕ) (s : State) → IsLaid order s.has → AllGridded order s.has → length new ≡ len → AreOfHeld order s.has s.cells
    → AreOfHeld order s.has (with_range begin new s (holder_of s.has begin len)).cells
put_held order begin len new s laid gridded all held place cell is = elim (range_cells begin place new s (holder_of s.has begin len) cell is) [
  | inl (holder, here, low, high, byte) ↦
      let at : begin + (place - begin) ≡ place = omega (arith, low) in
      subst (λ p. has_slot s.has (slot_of order p) ≡ true) at (range_held order s.has laid gridded begin len holder here (place - begin) (omega (arith, low, high, all)))
  | inr old ↦ held place cell old
]

back_held : (order u : ℕ) (s : State) → AreOfHeld order s.has s.cells → AreOfHeld order (record s.has { slots = filter (λ v. not (v == u)) s.has.slots })
    (without (λ place holder. slot_of order place == u) s.cells)
back_held order u s held place cell is =
    let left = without_left (λ p holder. slot_of order p == u) s.cells place cell is in
    let v : (x : ℕ) × IsIn x s.has.slots × ((x == slot_of order place) ≡ true) = some_any _ s.has.slots (held place left.old left.was) in
    any_in _ v.0 (filter (λ x. not (x == u)) s.has.slots)
    (in_filter (λ x. not (x == u)) v.0 s.has.slots v.1 (ap (λ n. not (n == u)) (eqb-true v.0 (slot_of order place) v.2) ∙ ap not left.fails)) v.2

pub held_step : (w : Known) (event : Event) (body : Body) (s s' : State) → state_after w.order event body s ≡ Some s' → bytes event body w s ≡ true
    → IsLaid w.order s.has → AllGridded w.order s.has → AreOfHeld w.order s.has s.cells → AreOfHeld w.order s'.has s'.cells
unfolding state_after opening_state
held_step w event (Say.Refused r) s s' e b l g h = stays_held w.order s s s' e (λ u is. is) (λ place. same_cells place s) h
held_step w (On.Tenant i (Command.Alloc k)) (Say.Frame f) s s' e b l g h = stays_held w.order s _ s' e (λ u is. is)
    (λ place. without_cells (λ p holder. in_block p (block f k) && not (is_same Holder.Page holder)) place s) h
held_step w (On.Tenant i (Command.Free f)) (Say.Freed k) s s' e b l g h = stays_held w.order s _ s' e (λ u is. is)
    (λ place. doubted_cells (λ p holder. in_block p (block f k) && is_same Holder.Page holder) place s) h
held_step w (On.Tenant i (Command.Read begin len)) (Say.Bytes told) s s' e b l g h = subst (λ y. AreOfHeld w.order y.has y.cells) (some_state e)
    (put_held w.order begin len told.items s l g (eqb-true (length told.items) len (and_parts _ _ b).0) h)
held_step w (On.Tenant i (Command.Write begin new)) (Say.Written n) s s' e b l g h = subst (λ y. AreOfHeld w.order y.has y.cells) (some_state e)
    (put_held w.order begin n new.items s l g (eqb-true (length new.items) n b) h)
held_step w (On.Tenant i (Command.Cache size align pattern)) (Say.Cache number chunk q n colours) s s' e b l g h =
    stays_held w.order s _ s' e (λ u is. is) (λ place. same_cells place s) h
held_step w (On.Tenant i (Command.Destroy number)) (Say.Destroyed frames) s s' e b l g h = stays_held w.order s _ s' e (λ u is. is)
    (λ place. without_cells (λ p. is_object (λ m q. m == number)) place s) h
held_step w (On.Tenant i (Command.Take number)) (Say.Object first) s s' e b l g h = stays_held w.order s _ s' e (λ u is. is)
    (λ place. object_cells first place s (known_cache s.has number)) h
held_step w (On.Tenant i (Command.Give number first)) Say.Given s s' e b l g h = stays_held w.order s _ s' e (λ u is. is)
    (λ place. doubted_cells (λ p. is_same (Holder.Object number first)) place s) h
held_step w (On.Tenant i Command.Reap) (Say.Reaped frames) s s' e b l g h = stays_held w.order s _ s' e (λ u is. is)
    (λ place. without_cells (λ p. is_object (is_in_no_slab s.has)) place s) h
held_step w (On.Tenant i Command.Report) (Say.Report r) s s' e b l g h = stays_held w.order s _ s' e (λ u is. is) (λ place. same_cells place s) h
held_step w (On.Admin (Do.Grant i)) (Say.Granted told u superblock) s s' e b l g h =
    stays_held w.order s _ s' e (slot_put u s.has) (λ place. same_cells place s) h
held_step w (On.Admin (Do.TakeBack i u)) (Say.TakenBack superblock) s s' e b l g h =
    subst (λ y. AreOfHeld w.order y.has y.cells) (some_state e) (back_held w.order u s h)
held_step w (On.Admin (Do.Reset i)) (Say.WasReset told superblocks) s s' e b l g h =
    subst (λ y. AreOfHeld w.order y.has y.cells) (some_state e) (λ place cell is. absurd (cc))
held_step w (On.Admin (Do.Move i u)) (Say.Moved told slot superblock) s s' e b l g h =
    stays_held w.order s s s' e (λ u is. is) (λ place. same_cells place s) h
held_step w (On.Admin Do.Pool) (Say.Owners owners) s s' e b l g h = stays_held w.order s s s' e (λ u is. is) (λ place. same_cells place s) h
held_step w event body s s' e b l g h = absurd (cc)
