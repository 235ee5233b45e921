-- If the answer to a command for a new cache is allowed, the cache's number is new, and its layout is one that a cache may have.
use Rattle.std.proofs.Common.{◌≡◌, ℕ, ◌+◌, ◌-◌, ◌*◌, ◌%◌, ◌^◌, ◌≤◌, Bool, true, false, not, ◌&&◌, refl, arith, [], ◌∷◌, Option, Some, None, Ok}
use Rattle.std.specs.Prelude.{if◌then◌else◌, is_none, nat_le, nat_lt, ◌==◌, length}
use Rattle.std.proofs.lemmas.Bool.{and_parts, leb-true, eqb-true}
use Rattle.arrayvec.specs.ArrayVec.{ArrayVec}
use Rattle.model_core.specs.declared.limits.TheConstants.{FRAME_BYTES, MAX_ORDER, MAX_SIZE}
use Rattle.model_core.specs.Layouts.{is_size, is_alignment}
use Rattle.words_core.specs.declared.event.Event.TheVariants as On
use Rattle.words_core.specs.declared.event.Command.TheVariants as Command
use Rattle.words_core.specs.declared.reply.Body.TheVariants as Say
use Rattle.words_core.specs.declared.reply.Refusal.{Refusal}
use Rattle.promise_core.specs.Holdings.{known_cache}
use Rattle.promise_core.specs.State.{Known}
use Rattle.promise_core.specs.Promises.{first_due, due, new_layout}
use Rattle.known_holdings.specs.Inside.{IsKnownLayout}
use Rattle.reply_judge.specs.Judged.{known_at, tenant_verdict}
use Rattle.model_core.specs.declared.limits.TheConstants.{MAX_CACHES}
use Rattle.reply_judge.specs.Seen.{Seen, state_of}
use Rattle.reply_judge.proofs.SoundVerdicts.{kept_all}

none_is : {X : Type 0} (o : Option X) → is_none o ≡ true → o ≡ None
none_is None e = refl
none_is (Some x) e = absurd (cc)

passed : (a : Bool) (r : Refusal) (rest : Option Refusal) → is_none (if not a then Some r else rest) ≡ true
    → (a ≡ true) × (is_none rest ≡ true)
passed true r rest e = (refl, e)
passed false r rest e = absurd (cc)

module _ (size align t number chunk q n colours : ℕ) (p : ArrayVec ℕ) (w : Known) (x : Seen) where
  kept : tenant_verdict (On.Tenant t (Command.Cache size align p)) (Say.Cache number chunk q n colours) w x ≡ Ok tt
      → (is_none (due (On.Tenant t (Command.Cache size align p)) (known_at x w) (state_of x)) ≡ true)
      × (new_layout (On.Tenant t (Command.Cache size align p)) (Say.Cache number chunk q n colours) (known_at x w) (state_of x) ≡ true)
  kept ok = let all = kept_all (On.Tenant t (Command.Cache size align p)) (Say.Cache number chunk q n colours) w x ok in (all.refusals, all.layout)

  abbrev new : Bool
  new = nat_lt number MAX_CACHES && is_none (known_cache x.has number)

  abbrev told : Bool
  told = nat_le size chunk && (chunk % align == 0 && nat_le q x.left.order)

  abbrev counts : Bool
  counts = nat_le 1 n && nat_le 1 colours

  abbrev inside : Bool
  inside = nat_le (align * (colours - 1) + n * chunk) (FRAME_BYTES * 2 ^ q)

  -- if the answer is allowed, no cache had the number of the new cache
  pub new_where_allowed : tenant_verdict (On.Tenant t (Command.Cache size align p)) (Say.Cache number chunk q n colours) w x ≡ Ok tt
      → known_cache x.has number ≡ None
  new_where_allowed ok = none_is (known_cache x.has number)
      (and_parts (nat_lt number MAX_CACHES) (is_none (known_cache x.has number))
      (and_parts new (told && (counts && inside)) (kept ok).1).0).1

  sized : is_none (due (On.Tenant t (Command.Cache size align p)) (known_at x w) (state_of x)) ≡ true → (is_size size ≡ true) × (is_alignment align ≡ true)
  unfolding due
  sized none =
      let a = passed (is_size size) Refusal.BadSize (first_due ((not (is_alignment align), Refusal.BadAlign)
      ∷ (nat_le MAX_CACHES (length x.has.caches), Refusal.NoCacheSlot) ∷ [])) none in (
        a.0,
        (passed (is_alignment align) Refusal.BadAlign
            (first_due ((nat_le MAX_CACHES (length x.has.caches), Refusal.NoCacheSlot) ∷ [])) a.1).0,
      )

  -- if the answer is allowed, the new cache has a layout that a cache may have, and its objects fit into a slab
  pub cut_where_allowed : x.left.order ≤ MAX_ORDER
      → tenant_verdict (On.Tenant t (Command.Cache size align p)) (Say.Cache number chunk q n colours) w x ≡ Ok tt
      → IsKnownLayout size align chunk q n
  cut_where_allowed order ok =
      let sizes = sized (kept ok).0 in
      let range = and_parts (nat_le 1 size) (nat_le size MAX_SIZE) sizes.0 in
      let layout = and_parts told (counts && inside) (and_parts new (told && (counts && inside)) (kept ok).1).1 in
      let chunked = and_parts (nat_le size chunk) (chunk % align == 0 && nat_le q x.left.order) layout.0 in
      let aligned = and_parts (chunk % align == 0) (nat_le q x.left.order) chunked.1 in
      let counted = and_parts counts inside layout.1 in
      record {
        some = leb-true 1 size range.0;
        most = leb-true size MAX_SIZE range.1;
        alignment = sizes.1;
        chunked = leb-true size chunk chunked.0;
        aligned = eqb-true (chunk % align) 0 aligned.0;
        small = let least : q ≤ x.left.order = leb-true q x.left.order aligned.1 in omega arith;
        counted = leb-true 1 n (and_parts (nat_le 1 n) (nat_le 1 colours) counted.0).0;
        fits = let all : align * (colours - 1) + n * chunk ≤ FRAME_BYTES * 2 ^ q
            = leb-true (align * (colours - 1) + n * chunk) (FRAME_BYTES * 2 ^ q) counted.1 in omega arith;
      }
