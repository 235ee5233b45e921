-- A `read` keeps the promises.
use Rattle.std.proofs.Common.{◌≡◌, ℕ, zero, suc, ◌+◌, ◌-◌, ◌*◌, ◌^◌, ◌<◌, ◌≤◌, Bool, true, false, not, ◌&&◌, eqb, leb, List, [], ◌∷◌, length, get_or, Option, Some, None, refl, sym, ap, ◌∙◌, subst, arith}
use Rattle.std.specs.Prelude.{if◌then◌else◌, Result, is_some, filter_map, Ok}
use Rattle.std.specs.List.{range_with_len, cons_option}
use Rattle.std.specs.Option.{option_map_or}
use Rattle.std.proofs.lemmas.Bool.{and_from, eq-eqb}
use Rattle.model_core.specs.declared.limits.TheConstants.{MAX_BYTES}
use Rattle.model_core.specs.declared.refusals.ReadRefusal.{ReadRefusal}
use Rattle.model_core.specs.Layouts.{pattern_byte}
use Rattle.model_core.specs.Machine.{Machine}
use Rattle.model_core.specs.Reach.{in_reach}
use Rattle.model_core.specs.Operations.{Step, refuse, read_step}
use Rattle.model_core.specs.WellFormed.{IsWellFormed}
use Rattle.model_core.specs.Laws.{place_of}
use Rattle.model_core.proofs.BlocksApart.{in_block-from}
use Rattle.model_core.proofs.LaidSlabs.{laid_out, in_slab_laid}
use Rattle.model_core.proofs.Objects.{IsPageByte, page_apart, reached, reached_mapped, within_is}
use Rattle.model_core.proofs.ObjectsApart.{contains_in}
use Rattle.model_core.proofs.Lists.{none_of, some_of}
use Rattle.words_core.specs.declared.event.Event.TheVariants as On
use Rattle.words_core.specs.declared.event.Command.TheVariants as Command
use Rattle.words_core.specs.declared.reply.Addressee.TheVariants as To
use Rattle.words_core.specs.declared.reply.Body.TheVariants as Say
use Rattle.words_core.specs.declared.reply.Refusal.{Refusal}
use Rattle.world_core.specs.PrivateStep.{read_body, command_step}
use Rattle.promise_core.specs.Holdings.{Holdings, known_cache}
use Rattle.promise_core.specs.Bytes.{Holder, Cells, known_fresh_byte, may_be, may_all_be, with_bytes, holder_of}
use Rattle.promise_core.specs.State.{State, with_range, state_after}
use Rattle.promise_core.specs.Promises.{due}
use Rattle.promise_kept.specs.Meets.{cache_as_known, Meets, IsKeptBy, IsPromiseKept}
use Rattle.promise_kept.proofs.PlaceCells.{all_kept, formed, refused}
use Rattle.promise_kept.proofs.RangeHolders.{IsHolder, holder_is, range_meets}
use Rattle.promise_kept.proofs.Write.{reach_seen}
use Rattle.promise_kept.proofs.KnownCaches.{cache_known}

-- if each place of a range has a byte, the list of these bytes has the length of the range, and element p - place is the byte at
-- place p
read_all : (bytes : ℕ → Option ℕ) (place len : ℕ) → ((p : ℕ) → place ≤ p → p < place + len → is_some (bytes p) ≡ true)
    → (length (filter_map bytes (range_with_len place len)) ≡ len) × ((p : ℕ) → place ≤ p → p < place + len → bytes p ≡ Some (get_or (filter_map bytes (range_with_len place len)) (p - place) 0))
read_all bytes place zero all = (refl, λ p low high. absurd (omega arith))
read_all bytes place (suc n) all =
    let first = some_of (bytes place) (all place (omega arith) (omega arith)) in
    let rest = read_all bytes (place + 1) n (λ p low high. all p (omega arith) (omega arith)) in
    let is : filter_map bytes (range_with_len place (suc n)) ≡ first.0 ∷ filter_map bytes (range_with_len (place + 1) n) = ap (λ o. cons_option o (filter_map bytes (range_with_len (place + 1) n))) first.1 in
    (ap length is ∙ ap suc rest.0, λ p low high. go is first.1 rest.1 p low high (p - place) refl)
  where
    go : {x : ℕ} → filter_map bytes (range_with_len place (suc n)) ≡ x ∷ filter_map bytes (range_with_len (place + 1) n) → bytes place ≡ Some x
        → ((p : ℕ) → place + 1 ≤ p → p < place + 1 + n → bytes p ≡ Some (get_or (filter_map bytes (range_with_len (place + 1) n)) (p - (place + 1)) 0))
        → (p : ℕ) → place ≤ p → p < place + suc n → (i : ℕ) → p - place ≡ i → bytes p ≡ Some (get_or (filter_map bytes (range_with_len place (suc n))) i 0)
    go is here later p low high zero e = let same : p ≡ place = omega arith in ap bytes same ∙ (here ∙ ap (λ xs. Some (get_or xs 0 0)) (sym is))
    go is here later p low high (suc i) e =
        let next : p - (place + 1) ≡ i = omega arith in
        later p (omega arith) (omega arith) ∙ (ap (λ k. Some (get_or (filter_map bytes (range_with_len (place + 1) n)) k 0)) next ∙ ap (λ xs. Some (get_or xs (suc i) 0)) (sym is))

all_may : (h : Holdings) (cells : Cells) (holder : Holder) (place : ℕ) (bytes : List ℕ)
    → ((p : ℕ) → place ≤ p → p < place + length bytes → may_be holder (known_fresh_byte h holder p) (cells p) (get_or bytes (p - place) 0) ≡ true)
    → may_all_be h cells holder place bytes ≡ true
all_may h cells holder place [] all = refl
all_may h cells holder place (byte ∷ bytes) all =
    let first : place - place ≡ 0 = omega arith in
    and_from (may_be holder (known_fresh_byte h holder place) (cells place) byte) _
    (ap (λ k. may_be holder (known_fresh_byte h holder place) (cells place) (get_or (byte ∷ bytes) k 0)) (sym first) ∙ all place (omega arith) (omega arith))
    (all_may h cells holder (place + 1) bytes (λ p low high. let next : p - place ≡ suc (p - (place + 1)) = omega (arith, low) in
    ap (λ k. may_be holder (known_fresh_byte h holder p) (cells p) (get_or (byte ∷ bytes) k 0)) (sym next) ∙ all p (omega (arith, low)) (omega (arith, high))))

-- at each place of a range, the machine's byte is one that the holder of the range may have there
byte_may : {limit : ℕ} (order : ℕ) (s : State) (m : Machine) (place len : ℕ) (holder : Holder) → IsWellFormed limit order m → Meets order s m → IsHolder m place len holder
    → (p byte : ℕ) → place ≤ p → p < place + len → m.bytes p ≡ Some byte → may_be holder (known_fresh_byte s.has holder p) (s.cells p) byte ≡ true
byte_may {limit} order s m place len holder w h (IsHolder.page is b i t) p byte low high there =
    let r = within_is place len (4096 * b.first) (4096 * 2 ^ b.order) t in
    let at : IsPageByte m p = record { page = b; page_in = i; in_page = in_block-from p b (omega (arith, r.0), omega (arith, r.1)) } in
    ap (λ x. may_be x (known_fresh_byte s.has x p) (s.cells p) byte) is ∙ h.page_bytes p byte (in_slab_laid m p ∙ page_apart order m p (laid_out order m w) at) there
byte_may {limit} order s m place len holder w h (IsHolder.object o i is t l) p byte low high there =
    let r = within_is place len (place_of o) o.cache.size t in
    let j : ℕ = p - place_of o in
    let at : place_of o + j ≡ p = omega (arith, r.0, low) in
    let seen : known_cache s.has o.cache.number ≡ Some (cache_as_known o.cache) = ap (λ x. known_cache x o.cache.number) h.has ∙ cache_known order m o.cache w (contains_in m.caches o.cache i.cache_in) in
    ap (λ x. may_be x (known_fresh_byte s.has x p) (s.cells p) byte) is
    ∙ (ap (λ x. may_be (Holder.Object o.cache.number (place_of o)) (option_map_or (λ c. pattern_byte c.pattern j) x 0) (s.cells p) byte) seen
    ∙ (ap (λ q. may_be (Holder.Object o.cache.number (place_of o)) (pattern_byte o.cache.pattern j) (s.cells q) byte) (sym at)
    ∙ h.object_bytes o j byte i (omega (arith, r.0, r.1, low, high)) (ap m.bytes at ∙ there)))

module _ (limit order place len : ℕ) (m : Machine) (s : State) (w : IsWellFormed limit order m) (h : Meets order s m) where
  abbrev is_length : Bool
  is_length = leb 1 len && leb len MAX_BYTES

  bad_length : is_length ≡ false → IsKeptBy limit order (Command.Read place len) s (Say.Refused Refusal.BadLength) m
  unfolding due
  bad_length e = refused limit order (Command.Read place len) Refusal.BadLength s m h (λ t owners states. (rw e refl, refl))

  unreached : is_length ≡ true → in_reach m place len ≡ false → IsKeptBy limit order (Command.Read place len) s (Say.Refused Refusal.OutOfReach) m
  unfolding due
  unreached e out =
      let none : holder_of s.has place len ≡ None = none_of (holder_of s.has place len) (reach_seen order m s place len h ∙ out) in
      refused limit order (Command.Read place len) Refusal.OutOfReach s m h (λ t owners states. (rw e (rw none refl), refl))

  there : List ℕ
  there = filter_map m.bytes (range_with_len place len)

  all_there : in_reach m place len ≡ true → (length there ≡ len) × ((p : ℕ) → place ≤ p → p < place + len → m.bytes p ≡ Some (get_or there (p - place) 0))
  unfolding there
  all_there within = read_all m.bytes place len (λ p low high. reached_mapped order m p w (reached m place len p within low high))

  bytes_may : (holder : Holder) → in_reach m place len ≡ true → holder_of s.has place len ≡ Some holder → may_all_be s.has s.cells holder place there ≡ true
  bytes_may holder within reach =
      let is = all_there within in
      all_may s.has s.cells holder place there (λ p low high. let inside : p < place + len = omega (arith, high, is.0) in
      byte_may order s m place len holder w h (holder_is order m place len holder w (ap (λ x. holder_of x place len) (sym h.has) ∙ reach)) p (get_or there (p - place) 0) low inside (is.1 p low inside))

  read_meets : (holder : Holder) → in_reach m place len ≡ true → holder_of s.has place len ≡ Some holder → Meets order (record s { cells = with_bytes holder place there s.cells }) m
  read_meets holder within reach =
      let is = all_there within in
      range_meets order s m w h place there holder (ap (λ n. holder_of s.has place n) is.0 ∙ reach) m.bytes
      (λ p low high. is.1 p low (omega (arith, high, is.0))) (λ p out. refl)

  read_out : in_reach m place len ≡ true → is_length ≡ true → IsKeptBy limit order (Command.Read place len) s (Say.Bytes (record { items = there })) m
  unfolding due state_after
  read_out within e =
      let some = some_of (holder_of s.has place len) (reach_seen order m s place len h ∙ within) in
      record {
        allowed = λ t owners states. all_kept (On.Tenant t (Command.Read place len)) (record { addressee = To.Tenant t; body = Say.Bytes (record { items = there }) })
            (record { limit = limit; order = order; owners = owners; states = states }) s
            (formed t (Some (with_range place there s (holder_of s.has place len))) refl) (rw e (rw some.1 refl)) refl refl refl refl refl refl refl
            (and_from (eqb (length there) len) _ (eq-eqb (length there) len (all_there within).0)
            (ap (λ o. option_map_or (λ holder. may_all_be s.has s.cells holder place there) o false) some.1 ∙ bytes_may some.0 within some.1)) refl refl;
        meets = λ t. (
          with_range place there s (holder_of s.has place len),
          refl,
          subst (λ o. Meets order (with_range place there s o) m) (sym some.1) (read_meets some.0 within some.1),
        );
      }

  pub read_is_kept : IsPromiseKept limit order (Command.Read place len) m s
  unfolding command_step read_step there
  read_is_kept = go is_length refl (in_reach m place len) refl
    where
      go : (b : Bool) → is_length ≡ b → (c : Bool) → in_reach m place len ≡ c
          → let step : Step (Result (List ℕ) ReadRefusal) = if not b then refuse ReadRefusal.BadLength m
          else (if not c then refuse ReadRefusal.OutOfReach m else record { answer = Ok (filter_map m.bytes (range_with_len place len)); machine = m }) in
          IsKeptBy limit order (Command.Read place len) s (read_body step.answer) step.machine
      go false e c f = bad_length e
      go true e false f = unreached e f
      go true e true f = read_out f e
