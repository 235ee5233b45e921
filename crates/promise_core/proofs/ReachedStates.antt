-- After every run of allowed replies, each tenant's used blocks lie apart, its live objects lie on grids, and bytes were left
-- only in slots that it holds. The proof is by induction over the exchanges.
use Rattle.std.proofs.Common.{◌≡◌, ℕ, List, [], ◌∷◌, Option, Some, None, Result, Ok, Err, slice_get, refl, ap, sym, subst, ◌∙◌, inl, inr}
use Rattle.std.specs.Option.{option_map_or}
use Rattle.model_core.specs.Blocks.{Block}
use Rattle.model_core.specs.Elements.{IsIn}
use Rattle.model_core.proofs.ObjectsApart.{contains_in}
use Rattle.words_core.specs.declared.event.Event.{Event}
use Rattle.words_core.specs.declared.reply.Reply.{Reply}
use Rattle.world_core.specs.World.{Exchange}
use Rattle.promise_core.specs.declared.promise.Promise.{Promise}
use Rattle.promise_core.specs.Holdings.{KnownCache, Holdings}
use Rattle.promise_core.specs.Lying.{Used, IsLaid, IsGridded, AllGridded, AreOfHeld}
use Rattle.promise_core.specs.State.{State, Known, opening_state, opening}
use Rattle.promise_core.specs.Promises.{named, allowed, all_allowed}
use Rattle.promise_core.specs.Laws.{Uses, LiveApart, LeftInHeld}
use Rattle.promise_core.proofs.AllowedReplies.{ok_same, allowed_is}
use Rattle.promise_core.proofs.Steps.{replicated, states_at}
use Rattle.promise_core.proofs.LiveApart.{nothing_laid, step, nothing_gridded, grid_step}
use Rattle.promise_core.proofs.LeftInHeldSlots.{held_step}

-- a tenant's used blocks lie apart, its live objects lie on grids, and bytes were left only in held slots
pub record LiesSound (order : ℕ) (s : State) : Type 0 where
  pub laid : IsLaid order s.has
  pub gridded : AllGridded order s.has
  pub held : AreOfHeld order s.has s.cells

abbrev pub AllLaid : ℕ → Known → Type 0
AllLaid order w = (w.order ≡ order) × ((t : ℕ) (s : State) → slice_get w.states t ≡ Some s → LiesSound order s)

pub allowed_laid : (order : ℕ) (event : Event) (reply : Reply) (w v : Known) → allowed event reply w ≡ Ok v → AllLaid order w → AllLaid order v
allowed_laid order event reply w v e (o, l) = elim (allowed_is event reply w v e) [
  | inl none ↦ subst (AllLaid order) (sym none.is) (o, l)
  | inr a ↦ (
    ap (λ k. k.order) a.is ∙ o,
    λ t x h. elim (states_at t (named event) w.states a.after x (subst (λ k. slice_get k.states t ≡ Some x) a.is h)) [
      | inl (same, is) ↦
          let before : LiesSound w.order a.state = subst (λ k. LiesSound k a.state) (sym o)
          (l t a.state (subst (λ n. option_map_or (slice_get w.states) n (Some opening_state) ≡ Some a.state) same a.here)) in
          subst (LiesSound order) (sym is) (subst (λ k. LiesSound k a.after) o (record {
            laid = step w event reply.body a.state a.after a.next a.refusals a.blocks a.objects a.layout before.laid;
            gridded = grid_step w event reply.body a.state a.after a.next a.refusals a.objects a.layout before.laid.numbers before.gridded;
            held = held_step w event reply.body a.state a.after a.next a.bytes before.laid before.gridded before.held;
          }))
      | inr (other, was) ↦ l t x was
    ],
  )
]

run : (order : ℕ) (es : List Exchange) (w v : Known) → all_allowed es (Ok w) ≡ Ok v → AllLaid order w → AllLaid order v
run order [] w v e l = subst (AllLaid order) (sym (ok_same e)) l
run order (x ∷ xs) w v e l = go (allowed x.event x.reply w) refl e (λ u r m. run order xs u v r m)
  where
    go : (r : Result Known Promise) → allowed x.event x.reply w ≡ r → all_allowed xs r ≡ Ok v
        → ((u : Known) → all_allowed xs (Ok u) ≡ Ok v → AllLaid order u → AllLaid order v) → AllLaid order v
    go (Err promise) is r rest = absurd (cc)
    go (Ok u) is r rest = rest u r (allowed_laid order x.event x.reply w u is l)

pub opening_laid : (limit order superblocks tenants : ℕ) → AllLaid order (opening limit order superblocks tenants)
unfolding opening opening_state
opening_laid limit order superblocks tenants = (
  refl,
  λ t s h. subst (LiesSound order) (sym (replicated tenants t opening_state s h))
      (record { laid = nothing_laid order; gridded = nothing_gridded order; held = λ place cell is. absurd (cc) }),
)

used_of : (h : Holdings) (by : Option ℕ) (b : Block) → Uses h by b → Used h by b
used_of h None b i = contains_in h.pages b i
used_of h (Some n) b (c, p, i, j, e, is) = (c, p, contains_in h.caches c i, contains_in c.live p j, e, is)

reached : (limit order superblocks tenants : ℕ) (es : List Exchange) (w : Known) → all_allowed es (Ok (opening limit order superblocks tenants)) ≡ Ok w → AllLaid order w
reached limit order superblocks tenants es w e = run order es (opening limit order superblocks tenants) w e (opening_laid limit order superblocks tenants)

pub reached_gridded : (limit order superblocks tenants t : ℕ) (es : List Exchange) (w : Known) (s : State) → all_allowed es (Ok (opening limit order superblocks tenants)) ≡ Ok w
    → slice_get w.states t ≡ Some s → (c : KnownCache) → IsIn c s.has.caches → IsGridded w.order c
reached_gridded limit order superblocks tenants t es w s e h c i =
    let r = reached limit order superblocks tenants es w e in subst (λ k. IsGridded k c) (sym r.0) ((r.1 t s h).gridded c i)

pub live_apart : LiveApart
live_apart limit order superblocks tenants t es w s e h =
    let l = ((reached limit order superblocks tenants es w e).1 t s h).laid in
    record {
      placed = λ by b u. l.placed by b (used_of s.has by b u);
      apart = λ by other a b x ua ub. l.apart by other a b x (used_of s.has by a ua) (used_of s.has other b ub);
    }

pub left_in_held : LeftInHeld
left_in_held limit order superblocks tenants t es w s e h = ((reached limit order superblocks tenants es w e).1 t s h).held
