-- The bytes that a holder may have at a place, after cells are put in doubt or dropped, or if the holder is not live.
use Rattle.std.proofs.Common.{◌≡◌, ℕ, Bool, true, false, not, ◌||◌, ◌&&◌, eqb, Option, Some, None, refl, sym, ap, ◌∙◌, List}
use Rattle.std.specs.Prelude.{if◌then◌else◌, is_some, drop}
use Rattle.std.specs.List.{list_all}
use Rattle.std.proofs.lemmas.Bool.{false≢true, and_parts, and_from, or_right, eqb-true, eq-eqb, not-true}
use Rattle.model_core.specs.declared.owner.Owner.{Owner}
use Rattle.model_core.specs.Machine.{Machine}
use Rattle.words_core.specs.declared.event.Event.{Event}
use Rattle.words_core.specs.declared.event.Event.TheVariants as On
use Rattle.words_core.specs.declared.event.Command.{Command}
use Rattle.words_core.specs.declared.reply.Addressee.TheVariants as To
use Rattle.words_core.specs.declared.reply.Body.TheVariants as Say
use Rattle.words_core.specs.declared.reply.Refusal.{Refusal}
use Rattle.words_core.specs.declared.reply.Reply.{Reply}
use Rattle.promise_core.specs.Holdings.{Holdings}
use Rattle.promise_core.specs.Bytes.{Holder, is_same, Cell, Cells, may_be, doubted, without}
use Rattle.promise_core.specs.State.{State, Known, state_after}
use Rattle.promise_core.specs.Promises.{form, refusals, room, busy, blocks, objects, new_layout, gives, owners, bytes, report, still, kept}
use Rattle.promise_kept.specs.Meets.{is_object_live, Meets, IsKeptBy}

-- if each of the twelve tests is true, the reply keeps all promises of the list `kept`
pub all_kept : (event : Event) (reply : Reply) (w : Known) (s : State) → form event reply w s ≡ true → refusals event reply.body w s ≡ true → room event reply.body w s ≡ true
    → busy event reply.body w s ≡ true → blocks event reply.body w s ≡ true → objects event reply.body w s ≡ true → new_layout event reply.body w s ≡ true
    → gives event reply.body w s ≡ true → owners event reply.body w s ≡ true → bytes event reply.body w s ≡ true → report event reply.body w s ≡ true
    → still event reply.body w s ≡ true → list_all (λ p. p.1) (kept event reply w s) ≡ true
all_kept event reply w s a b c d e f g h i j k l =
    and_from _ _ a (and_from _ _ b (and_from _ _ c (and_from _ _ d (and_from _ _ e (and_from _ _ f (and_from _ _ g (and_from _ _ h (and_from _ _ i (and_from _ _ j (and_from _ _ k (and_from _ _ l refl)))))))))))

pub formed : (t : ℕ) (o : Option State) → is_some o ≡ true → (eqb t t && is_some o) ≡ true
formed t o e = and_from (eqb t t) (is_some o) (eq-eqb t t refl) e

-- A refusal that leaves the machine as it was keeps all promises, if it keeps `Refusals` and all promises after `Refusals` in the
-- list `kept`. What is known stays true.
pub refused : (limit order : ℕ) (command : Command) (refusal : Refusal) (s : State) (m : Machine) → Meets order s m
    → ((t : ℕ) (owners : List (Option Owner)) (states : List State) → let w : Known = record { limit = limit; order = order; owners = owners; states = states } in
    (refusals (On.Tenant t command) (Say.Refused refusal) w s ≡ true)
    × (list_all (λ p. p.1) (drop 2 (kept (On.Tenant t command) (record { addressee = To.Tenant t; body = Say.Refused refusal }) w s)) ≡ true))
    → IsKeptBy limit order command s (Say.Refused refusal) m
unfolding state_after
refused limit order command refusal s m h is_due = record {
  allowed = λ t owners states. and_from _ _ (formed t (Some s) refl) (and_from _ _ (is_due t owners states).0 (is_due t owners states).1);
  meets = λ t. (s, refl, h);
}

-- Holders

pub same_holder : (a b : Holder) → is_same a b ≡ true → a ≡ b
same_holder Holder.Page Holder.Page e = refl
same_holder Holder.Page (Holder.Object n p) e = absurd (false≢true e)
same_holder (Holder.Object n p) Holder.Page e = absurd (false≢true e)
same_holder (Holder.Object n p) (Holder.Object i q) e =
    let both = and_parts (eqb i n) (eqb q p) e in
    let number : i ≡ n = eqb-true i n both.0 in
    let first : q ≡ p = eqb-true q p both.1 in
    ap (λ x. Holder.Object x p) (sym number) ∙ ap (λ x. Holder.Object i x) (sym first)

pub is_same_refl : (a : Holder) → is_same a a ≡ true
is_same_refl Holder.Page = refl
is_same_refl (Holder.Object n p) = and_from (eqb n n) (eqb p p) (eq-eqb n n refl) (eq-eqb p p refl)

-- Cells

-- the holder of every sure cell is live
abbrev pub IsLiving : Holdings → Cells → Type 0
IsLiving h cells = (place : ℕ) (cell : Cell) → cells place ≡ Some cell → cell.sure ≡ true → is_object_live h cell.holder place ≡ true

-- if the holder of every sure cell is live, a holder that is not live at a place may have the fresh byte there
pub fresh_may : (h : Holdings) (cells : Cells) → IsLiving h cells → (holder : Holder) (place fresh : ℕ) → is_object_live h holder place ≡ false
    → may_be holder fresh (cells place) fresh ≡ true
fresh_may h cells lives holder place fresh dead = go (cells place) refl
  where
    sure : (cell : Cell) → cells place ≡ Some cell → cell.holder ≡ holder → (b : Bool) → cell.sure ≡ b → (eqb fresh cell.byte || (not b && eqb fresh fresh)) ≡ true
    sure cell e same true is = absurd (false≢true (sym dead ∙ (ap (λ x. is_object_live h x place) (sym same) ∙ lives place cell e is)))
    sure cell e same false is = or_right (eqb fresh cell.byte) (eqb fresh fresh) (eq-eqb fresh fresh refl)

    cell_may : (cell : Cell) → cells place ≡ Some cell → (b : Bool) → is_same cell.holder holder ≡ b
        → (if b then (eqb fresh cell.byte || (not cell.sure && eqb fresh fresh)) else eqb fresh fresh) ≡ true
    cell_may cell e true same = sure cell e (same_holder cell.holder holder same) cell.sure refl
    cell_may cell e false same = eq-eqb fresh fresh refl

    go : (o : Option Cell) → cells place ≡ o → may_be holder fresh o fresh ≡ true
    go None e = eq-eqb fresh fresh refl
    go (Some cell) e = cell_may cell e (is_same cell.holder holder) refl

-- if a holder may have a byte at a place, it may still have that byte after cells are put in doubt
pub doubt_may : (test : ℕ → Holder → Bool) (cells : Cells) (holder : Holder) (place fresh byte : ℕ) → may_be holder fresh (cells place) byte ≡ true
    → may_be holder fresh (doubted test cells place) byte ≡ true
doubt_may test cells holder place fresh byte = go (cells place)
  where
    cell_may : (same sure doubt is fresh_is : Bool) → (if same then (is || (not sure && fresh_is)) else fresh_is) ≡ true
        → (if same then (is || (not (sure && not doubt) && fresh_is)) else fresh_is) ≡ true
    cell_may false sure doubt is fresh_is e = e
    cell_may true sure doubt true fresh_is e = refl
    cell_may true true doubt false fresh_is e = absurd (false≢true e)
    cell_may true false doubt false fresh_is e = e

    go : (o : Option Cell) → may_be holder fresh o byte ≡ true
        → may_be holder fresh (elim o as (λ x. Option Cell) [ None ↦ None | Some cell ↦ Some (record cell { sure = cell.sure && not (test place cell.holder) }) ]) byte ≡ true
    go None e = e
    go (Some cell) e = cell_may (is_same cell.holder holder) cell.sure (test place cell.holder) (eqb byte cell.byte) (eqb byte fresh) e

pub doubt_lives : (test : ℕ → Holder → Bool) (cells : Cells) (place : ℕ) (cell : Cell) → doubted test cells place ≡ Some cell → cell.sure ≡ true
    → (was : Cell) × (cells place ≡ Some was) × (was.sure ≡ true) × (was.holder ≡ cell.holder) × (test place cell.holder ≡ false)
doubt_lives test cells place cell e sure = go (cells place) refl e
  where
    go : (o : Option Cell) → cells place ≡ o
        → elim o as (λ x. Option Cell) [ None ↦ None | Some was ↦ Some (record was { sure = was.sure && not (test place was.holder) }) ] ≡ Some cell
        → (was : Cell) × (cells place ≡ Some was) × (was.sure ≡ true) × (was.holder ≡ cell.holder) × (test place cell.holder ≡ false)
    go None is none = absurd (cc)
    go (Some was) is some =
        let same : record was { sure = was.sure && not (test place was.holder) } ≡ cell = cc in
        let both = and_parts was.sure (not (test place was.holder)) (ap (λ x. x.sure) same ∙ sure) in
        (was, is, both.0, ap (λ x. x.holder) same, ap (λ x. test place x) (sym (ap (λ x. x.holder) same)) ∙ not-true _ both.1)

-- a cell that is left after cells are dropped was there before, and its holder does not pass the test
pub without_some : (test : ℕ → Holder → Bool) (cells : Cells) (place : ℕ) (cell : Cell) → without test cells place ≡ Some cell
    → (cells place ≡ Some cell) × (test place cell.holder ≡ false)
without_some test cells place cell e = go (cells place) refl e
  where
    one : (was : Cell) (b : Bool) → test place was.holder ≡ b → cells place ≡ Some was → (if b then None else Some was) ≡ Some cell
        → (cells place ≡ Some cell) × (test place cell.holder ≡ false)
    one was true t is some = absurd (cc)
    one was false t is some = let same : was ≡ cell = cc in (is ∙ ap (λ x. Some x) same, ap (λ x. test place x.holder) (sym same) ∙ t)

    go : (o : Option Cell) → cells place ≡ o → elim o as (λ x. Option Cell) [ None ↦ None | Some was ↦ (if test place was.holder then None else Some was) ] ≡ Some cell
        → (cells place ≡ Some cell) × (test place cell.holder ≡ false)
    go None is none = absurd (cc)
    go (Some was) is some = one was (test place was.holder) refl is some

-- if a holder that does not pass the test may have a byte at a place, it may still have that byte after the cells that pass the
-- test are dropped
pub without_may : (test : ℕ → Holder → Bool) (cells : Cells) (holder : Holder) (place fresh byte : ℕ) → test place holder ≡ false
    → may_be holder fresh (cells place) byte ≡ true → may_be holder fresh (without test cells place) byte ≡ true
without_may test cells holder place fresh byte spared = go (cells place)
  where
    one : (was : Cell) (same : Bool) → is_same was.holder holder ≡ same → (b : Bool) → test place was.holder ≡ b
        → (if same then (eqb byte was.byte || (not was.sure && eqb byte fresh)) else eqb byte fresh) ≡ true
        → may_be holder fresh (if b then None else Some was) byte ≡ true
    one was same e false t may = ap (λ x. if x then (eqb byte was.byte || (not was.sure && eqb byte fresh)) else eqb byte fresh) e ∙ may
    one was true e true t may = absurd (false≢true (sym spared ∙ (ap (test place) (sym (same_holder was.holder holder e)) ∙ t)))
    one was false e true t may = may

    go : (o : Option Cell) → may_be holder fresh o byte ≡ true
        → may_be holder fresh (elim o as (λ x. Option Cell) [ None ↦ None | Some was ↦ (if test place was.holder then None else Some was) ]) byte ≡ true
    go None may = may
    go (Some was) may = one was (is_same was.holder holder) refl (test place was.holder) refl may
