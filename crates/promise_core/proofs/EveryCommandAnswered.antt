-- Each command by which a tenant uses its memory has an allowed reply.
use Rattle.std.proofs.Common.{◌≡◌, ℕ, zero, suc, ◌+◌, Bool, true, false, not, ◌&&◌, ◌||◌, List, [], ◌∷◌, length, Option, Some, None, is_none, slice_get, refl, ap, ◌∙◌}
use Rattle.std.specs.Prelude.{is_ok, if◌then◌else◌, nat_le, nat_lt, ◌==◌}
use Rattle.std.specs.List.{list_any, list_all, AllByRecursion as Each}
use Rattle.std.specs.Option.{option_map_or, option_eq}
use Rattle.std.proofs.lemmas.Bool.{false≢true, and_from, eq-eqb, ltb-false, or_left}
use Rattle.arrayvec.specs.ArrayVec.{ArrayVec}
use Rattle.model_core.specs.Machine.{order_in}
use Rattle.model_core.specs.declared.limits.TheConstants.{MAX_BYTES}
use Rattle.words_core.specs.declared.event.Command.{Command}
use Rattle.words_core.specs.declared.event.Event.TheVariants as On
use Rattle.words_core.specs.declared.reply.Addressee.TheVariants as To
use Rattle.words_core.specs.declared.reply.Body.{Body}
use Rattle.words_core.specs.declared.reply.Body.TheVariants as Say
use Rattle.words_core.specs.declared.reply.Refusal.{Refusal}
use Rattle.words_core.specs.declared.reply.Reply.{Reply}
use Rattle.promise_core.specs.declared.promise.Promise.{Promise}
use Rattle.promise_core.specs.Holdings.{KnownCache, Holdings, known_cache}
use Rattle.promise_core.specs.Bytes.{Holder, is_same, Cell, Cells, known_fresh_byte, may_be, may_all_be, holder_of}
use Rattle.promise_core.specs.State.{State, Known, state_after}
use Rattle.promise_core.specs.Promises.{first_due, is_one, due, form, refusals, room, busy, blocks, objects, new_layout, gives, owners, bytes, report, still, kept, judged, allowed}
use Rattle.promise_core.specs.Laws.{may_tell, uses_memory, UseAnswerable}
use Rattle.promise_core.proofs.RefusalCauses.{tells_as, refused_for_cause, take_refused_for_cause}

each_all : (ps : List (Promise × Bool)) → Each (λ p. p.1 ≡ true) ps → list_all (λ p. p.1) ps ≡ true
each_all [] e = refl
each_all ((promise, b) ∷ ps) (e, rest) = and_from b (list_all (λ p. p.1) ps) e (each_all ps rest)

-- Bytes that a read may return

one_byte : (holder : Holder) (fresh : ℕ) (cell : Option Cell) → (b : ℕ) × (may_be holder fresh cell b ≡ true)
one_byte holder fresh None = (fresh, eq-eqb fresh fresh refl)
one_byte holder fresh (Some cell) = go (is_same cell.holder holder)
  where
    go : (same : Bool) → (b : ℕ) × ((if same then b == cell.byte || (not cell.sure && b == fresh) else b == fresh) ≡ true)
    go true = (cell.byte, or_left (cell.byte == cell.byte) (not cell.sure && cell.byte == fresh) (eq-eqb cell.byte cell.byte refl))
    go false = (fresh, eq-eqb fresh fresh refl)

some_bytes : (h : Holdings) (cells : Cells) (holder : Holder) (place n : ℕ) → (bs : List ℕ) × (length bs ≡ n) × (may_all_be h cells holder place bs ≡ true)
some_bytes h cells holder place zero = ([], refl, refl)
some_bytes h cells holder place (suc n) =
    let b : (b : ℕ) × (may_be holder (known_fresh_byte h holder place) (cells place) b ≡ true) = one_byte holder (known_fresh_byte h holder place) (cells place) in
    let rest : (bs : List ℕ) × (length bs ≡ n) × (may_all_be h cells holder (place + 1) bs ≡ true) = some_bytes h cells holder (place + 1) n in
    (b.0 ∷ rest.0, ap suc rest.1, and_from _ _ b.1 rest.2)

-- Command by command

abbrev HasReply : Known → ℕ → Command → Type 0
HasReply w t command = (body : Body) × (may_tell w t command body ≡ true)

module _ (w : Known) (s : State) (t : ℕ) (is : slice_get w.states t ≡ Some s) where
  told : (command : Command) (body : Body) → let event = On.Tenant t command in form event (record { addressee = To.Tenant t; body = body }) w s ≡ true
      → refusals event body w s ≡ true → room event body w s ≡ true → busy event body w s ≡ true → blocks event body w s ≡ true → objects event body w s ≡ true
      → new_layout event body w s ≡ true → gives event body w s ≡ true → owners event body w s ≡ true → bytes event body w s ≡ true → report event body w s ≡ true
      → still event body w s ≡ true → HasReply w t command
  told command body a b c d e f g h i j k l = (
    body,
    tells_as w s t command body is ∙ each_all (kept (On.Tenant t command) (record { addressee = To.Tenant t; body = body }) w s)
        (a, (b, (c, (d, (e, (f, (g, (h, (i, (j, (k, (l, tt)))))))))))),
  )

  to_it : ((t == t) && true) ≡ true
  to_it = and_from (t == t) true (eq-eqb t t refl) refl

  free_reply : (f : ℕ) → HasReply w t (Command.Free f)
  unfolding due state_after
  free_reply f = go (order_in s.has.pages f) refl
    where
      go : (o : Option ℕ) → order_in s.has.pages f ≡ o → HasReply w t (Command.Free f)
      go None e = told (Command.Free f) (Say.Refused Refusal.NotABlock)
          to_it
          (ap (λ o. option_map_or (is_one Refusal.NotABlock) (first_due ((is_none o, Refusal.NotABlock) ∷ [])) false) e)
          refl refl refl refl refl refl refl refl refl refl
      go (Some k) e = told (Command.Free f) (Say.Freed k)
          to_it
          (ap (λ o. is_none (first_due ((is_none o, Refusal.NotABlock) ∷ []))) e)
          refl refl refl refl refl
          (ap (λ o. option_eq (λ i j. i == j) o (Some k)) e ∙ eq-eqb k k refl)
          refl refl refl refl

  write_reply : (place : ℕ) (new : ArrayVec ℕ) → HasReply w t (Command.Write place new)
  unfolding due state_after
  write_reply place new = go (holder_of s.has place (length new.items)) refl
    where
      go : (o : Option Holder) → holder_of s.has place (length new.items) ≡ o → HasReply w t (Command.Write place new)
      go None e = told (Command.Write place new) (Say.Refused Refusal.OutOfReach)
          to_it
          (ap (λ o. option_map_or (is_one Refusal.OutOfReach) (first_due ((is_none o, Refusal.OutOfReach) ∷ [])) false) e)
          refl refl refl refl refl refl refl refl refl refl
      go (Some holder) e = told (Command.Write place new) (Say.Written (length new.items))
          to_it
          (ap (λ o. is_none (first_due ((is_none o, Refusal.OutOfReach) ∷ []))) e)
          refl refl refl refl refl refl refl
          (eq-eqb (length new.items) (length new.items) refl)
          refl refl

  read_reply : (place len : ℕ) → HasReply w t (Command.Read place len)
  unfolding due state_after
  read_reply place len = go (nat_le 1 len && nat_le len MAX_BYTES) refl (holder_of s.has place len) refl
    where
      go : (b : Bool) → (nat_le 1 len && nat_le len MAX_BYTES) ≡ b → (o : Option Holder) → holder_of s.has place len ≡ o → HasReply w t (Command.Read place len)
      go false bad o e = told (Command.Read place len) (Say.Refused Refusal.BadLength)
          to_it
          (ap (λ b. option_map_or (is_one Refusal.BadLength) (first_due ((not b, Refusal.BadLength) ∷ (is_none (holder_of s.has place len), Refusal.OutOfReach) ∷ [])) false) bad)
          refl refl refl refl refl refl refl refl refl refl
      go true fits None e = told (Command.Read place len) (Say.Refused Refusal.OutOfReach)
          to_it
          (ap (λ b. option_map_or (is_one Refusal.OutOfReach) (first_due ((not b, Refusal.BadLength) ∷ (is_none (holder_of s.has place len), Refusal.OutOfReach) ∷ [])) false) fits
          ∙ ap (λ o. option_map_or (is_one Refusal.OutOfReach) (first_due ((is_none o, Refusal.OutOfReach) ∷ [])) false) e)
          refl refl refl refl refl refl refl refl refl refl
      go true fits (Some holder) e =
          let bs : (bs : List ℕ) × (length bs ≡ len) × (may_all_be s.has s.cells holder place bs ≡ true) = some_bytes s.has s.cells holder place len in
          told (Command.Read place len) (Say.Bytes (record { items = bs.0 }))
          to_it
          (ap (λ b. is_none (first_due ((not b, Refusal.BadLength) ∷ (is_none (holder_of s.has place len), Refusal.OutOfReach) ∷ []))) fits
          ∙ ap (λ o. is_none (first_due ((is_none o, Refusal.OutOfReach) ∷ []))) e)
          refl refl refl refl refl refl refl
          (and_from (length bs.0 == len) _ (eq-eqb (length bs.0) len bs.1) (ap (λ o. option_map_or (λ holder. may_all_be s.has s.cells holder place bs.0) o false) e ∙ bs.2))
          refl refl

  give_reply : (number place : ℕ) → HasReply w t (Command.Give number place)
  unfolding due state_after
  give_reply number place = go (known_cache s.has number) refl (option_map_or (λ c. list_any (λ p. p == place) c.live) (known_cache s.has number) false) refl
    where
      go : (o : Option KnownCache) → known_cache s.has number ≡ o → (b : Bool) → option_map_or (λ c. list_any (λ p. p == place) c.live) (known_cache s.has number) false ≡ b
          → HasReply w t (Command.Give number place)
      go None e b live = told (Command.Give number place) (Say.Refused Refusal.NoCache)
          to_it
          (ap (λ o. option_map_or (is_one Refusal.NoCache) (first_due ((is_none o, Refusal.NoCache)
          ∷ (not (option_map_or (λ c. list_any (λ p. p == place) c.live) (known_cache s.has number) false), Refusal.NotAnObject) ∷ [])) false) e)
          refl refl refl refl refl refl refl refl refl refl
      go (Some c) e false live = told (Command.Give number place) (Say.Refused Refusal.NotAnObject)
          to_it
          (ap (λ o. option_map_or (is_one Refusal.NotAnObject) (first_due ((is_none o, Refusal.NoCache)
          ∷ (not (option_map_or (λ c. list_any (λ p. p == place) c.live) (known_cache s.has number) false), Refusal.NotAnObject) ∷ [])) false) e
          ∙ ap (λ b. option_map_or (is_one Refusal.NotAnObject) (first_due ((not b, Refusal.NotAnObject) ∷ [])) false) live)
          refl refl refl refl refl refl refl refl refl refl
      go (Some c) e true live = told (Command.Give number place) Say.Given
          to_it
          (ap (λ o. is_none (first_due ((is_none o, Refusal.NoCache)
          ∷ (not (option_map_or (λ c. list_any (λ p. p == place) c.live) (known_cache s.has number) false), Refusal.NotAnObject) ∷ []))) e
          ∙ ap (λ b. is_none (first_due ((not b, Refusal.NotAnObject) ∷ []))) live)
          refl refl refl refl refl refl refl refl refl refl

  alloc_reply : (k : ℕ) → HasReply w t (Command.Alloc k)
  unfolding due state_after
  alloc_reply k = go (nat_lt w.order k) refl (may_tell w t (Command.Alloc k) (Say.Refused Refusal.NoFrames)) refl
    where
      go : (b : Bool) → nat_lt w.order k ≡ b → (full : Bool) → may_tell w t (Command.Alloc k) (Say.Refused Refusal.NoFrames) ≡ full → HasReply w t (Command.Alloc k)
      go true e full refused = told (Command.Alloc k) (Say.Refused Refusal.BadOrder)
          to_it
          (ap (λ b. option_map_or (is_one Refusal.BadOrder) (first_due ((b, Refusal.BadOrder) ∷ [])) false) e)
          refl refl refl refl refl refl refl refl refl refl
      go false e true refused = (Say.Refused Refusal.NoFrames, refused)
      go false e false refused = let f = (refused_for_cause w s t k is (ltb-false w.order k e)).answered refused in (Say.Frame f.0, f.1)

  no_cache_reply : (number : ℕ) → known_cache s.has number ≡ None → HasReply w t (Command.Take number)
  unfolding due state_after
  no_cache_reply number e = told (Command.Take number) (Say.Refused Refusal.NoCache)
      to_it
      (ap (λ o. option_map_or (is_one Refusal.NoCache) (first_due ((is_none o, Refusal.NoCache) ∷ [])) false) e)
      refl refl refl refl refl refl refl refl refl refl

-- a command of a tenant that does not exist has an allowed reply: `NoTenant`
no_tenant_reply : (w : Known) (t : ℕ) (command : Command) → slice_get w.states t ≡ None → (reply : Reply) × (is_ok (allowed (On.Tenant t command) reply w) ≡ true)
unfolding allowed
no_tenant_reply w t command e =
    let reply : Reply = record { addressee = To.Nobody; body = Say.Refused Refusal.NoTenant } in
    (reply, ap (λ o. is_ok (judged (On.Tenant t command) reply w o)) e)

pub use_answerable : UseAnswerable
use_answerable limit order superblocks tenants t command es w run used = go (slice_get w.states t) refl
  where
    take_reply : (s : State) → slice_get w.states t ≡ Some s → (number : ℕ) → (o : Option KnownCache) → known_cache s.has number ≡ o
        → (full : Bool) → may_tell w t (Command.Take number) (Say.Refused Refusal.NoFrames) ≡ full → HasReply w t (Command.Take number)
    take_reply s is number None e full refused = no_cache_reply w s t is number e
    take_reply s is number (Some c) e true refused = (Say.Refused Refusal.NoFrames, refused)
    take_reply s is number (Some c) e false refused =
        let p = (take_refused_for_cause limit order superblocks tenants t number es w s c run is e).answered refused in (Say.Object p.0, p.1)

    body_of : (s : State) → slice_get w.states t ≡ Some s → (command : Command) → uses_memory command ≡ true → HasReply w t command
    body_of s is (Command.Alloc k) used = alloc_reply w s t is k
    body_of s is (Command.Free f) used = free_reply w s t is f
    body_of s is (Command.Read place len) used = read_reply w s t is place len
    body_of s is (Command.Write place new) used = write_reply w s t is place new
    body_of s is (Command.Take number) used = take_reply s is number (known_cache s.has number) refl (may_tell w t (Command.Take number) (Say.Refused Refusal.NoFrames)) refl
    body_of s is (Command.Give number place) used = give_reply w s t is number place
    body_of s is command used = absurd (false≢true used)

    go : (o : Option State) → slice_get w.states t ≡ o → (reply : Reply) × (is_ok (allowed (On.Tenant t command) reply w) ≡ true)
    go None e = no_tenant_reply w t command e
    go (Some s) e = let b : HasReply w t command = body_of s e command used in (record { addressee = To.Tenant t; body = b.0 }, b.1)
