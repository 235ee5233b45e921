-- A `write` keeps the promises.
use Rattle.std.proofs.Common.{◌≡◌, ℕ, ◌+◌, ◌-◌, Bool, true, false, ltb, leb, length, Option, Some, None, refl, sym, ap, ◌∙◌, subst, arith}
use Rattle.std.specs.Prelude.{if◌then◌else◌, is_some, slice_get}
use Rattle.std.proofs.lemmas.Bool.{and_from, le-leb, lt-ltb, eq-eqb}
use Rattle.std.proofs.lemmas.Option.{slice_get-get_or}
use Rattle.arrayvec.specs.ArrayVec.{ArrayVec}
use Rattle.model_core.specs.Machine.{Machine}
use Rattle.model_core.specs.Reach.{in_reach}
use Rattle.model_core.specs.Operations.{Step, written, write_step}
use Rattle.model_core.specs.WellFormed.{IsWellFormed}
use Rattle.model_core.proofs.Lists.{none_of, some_of}
use Rattle.words_core.specs.declared.event.Event.TheVariants as On
use Rattle.words_core.specs.declared.event.Command.TheVariants as Command
use Rattle.words_core.specs.declared.reply.Addressee.TheVariants as To
use Rattle.words_core.specs.declared.reply.Body.TheVariants as Say
use Rattle.words_core.specs.declared.reply.Refusal.{Refusal}
use Rattle.world_core.specs.PrivateStep.{write_body, command_step}
use Rattle.promise_core.specs.Bytes.{Holder, with_bytes, holder_of}
use Rattle.promise_core.specs.State.{State, with_range, state_after}
use Rattle.promise_core.specs.Promises.{due}
use Rattle.promise_kept.specs.Meets.{Meets, IsKeptBy, IsPromiseKept}
use Rattle.promise_kept.proofs.EmptySlabsUnseen.{reach_same}
use Rattle.promise_kept.proofs.PlaceCells.{all_kept, formed, refused}
use Rattle.promise_kept.proofs.RangeHolders.{range_meets}

-- a holder of a range is seen exactly if the range is in reach
pub reach_seen : (order : ℕ) (m : Machine) (s : State) (place len : ℕ) → Meets order s m → is_some (holder_of s.has place len) ≡ in_reach m place len
reach_seen order m s place len h = ap (λ x. is_some (holder_of x place len)) h.has ∙ reach_same m place len

module _ (limit order place : ℕ) (new : ArrayVec ℕ) (m : Machine) (s : State) (w : IsWellFormed limit order m) (h : Meets order s m) where
  out_of_reach : in_reach m place (length new.items) ≡ false → IsKeptBy limit order (Command.Write place new) s (Say.Refused Refusal.OutOfReach) m
  unfolding due
  out_of_reach out =
      let none : holder_of s.has place (length new.items) ≡ None = none_of (holder_of s.has place (length new.items)) (reach_seen order m s place (length new.items) h ∙ out) in
      refused limit order (Command.Write place new) Refusal.OutOfReach s m h (λ t owners states. (rw none refl, refl))

  write_meets : (holder : Holder) → holder_of s.has place (length new.items) ≡ Some holder
      → Meets order (record s { cells = with_bytes holder place new.items s.cells }) (record m { bytes = written place new.items m.bytes })
  write_meets holder reach = range_meets order s m w h place new.items holder reach (written place new.items m.bytes)
      (λ p low high. ap (λ b. if b then slice_get new.items (p - place) else m.bytes p)
      (and_from (leb place p) (ltb p (place + length new.items)) (le-leb place p low) (lt-ltb p (place + length new.items) high))
      ∙ slice_get-get_or new.items (p - place) 0 (omega (arith, low, high)))
      (λ p out. ap (λ b. if b then slice_get new.items (p - place) else m.bytes p) out)

  in_order : in_reach m place (length new.items) ≡ true
      → IsKeptBy limit order (Command.Write place new) s (Say.Written (length new.items)) (record m { bytes = written place new.items m.bytes })
  unfolding due state_after
  in_order within =
      let some = some_of (holder_of s.has place (length new.items)) (reach_seen order m s place (length new.items) h ∙ within) in
      record {
        allowed = λ t owners states. all_kept (On.Tenant t (Command.Write place new)) (record { addressee = To.Tenant t; body = Say.Written (length new.items) })
            (record { limit = limit; order = order; owners = owners; states = states }) s
            (formed t (Some (with_range place new.items s (holder_of s.has place (length new.items)))) refl) (rw some.1 refl) refl refl refl refl refl refl refl
            (eq-eqb (length new.items) (length new.items) refl) refl refl;
        meets = λ t. (
          with_range place new.items s (holder_of s.has place (length new.items)),
          refl,
          subst (λ o. Meets order (with_range place new.items s o) (record m { bytes = written place new.items m.bytes })) (sym some.1) (write_meets some.0 some.1),
        );
      }

  pub write_is_kept : IsPromiseKept limit order (Command.Write place new) m s
  unfolding command_step write_step
  write_is_kept = go (in_reach m place (length new.items)) refl
    where
      go : (b : Bool) → in_reach m place (length new.items) ≡ b
          → let step : Step (Option ℕ) = if b then record { answer = Some (length new.items); machine = record m { bytes = written place new.items m.bytes } } else record { answer = None; machine = m } in
          IsKeptBy limit order (Command.Write place new) s (write_body step.answer) step.machine
      go true e = in_order e
      go false e = out_of_reach e
