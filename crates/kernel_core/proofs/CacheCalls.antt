-- A call that takes an object or makes a cache is the step of its command.
use Rattle.std.proofs.Common.{◌≡◌, ◌≢◌, ℕ, Bool, true, false, List, Option, IfNone, Result, Ok, Err, if◌then◌else◌, refl, sym, ap, ◌∙◌, subst}
use Rattle.std.specs.Prelude.{not, ok_or, OnErr}
use Rattle.model_core.specs.Layouts.{is_size, is_alignment}
use Rattle.model_core.specs.Machine.{Machine}
use Rattle.model_core.specs.CacheOperations.{create_step, cache_answer, cache_step, take_step}
use Rattle.model_core.specs.Operations.{Step}
use Rattle.model_core.specs.declared.limits.TheConstants.{MAX_CACHES}
use Rattle.model_core.specs.declared.refusals.CacheRefusal.{CacheRefusal}
use Rattle.model_core.specs.declared.refusals.TakeRefusal.{TakeRefusal}
use Rattle.layout_core.specs.Cut.{Cut, cut, layout_or_refusal}
use Rattle.layout_core.specs.declared.layout.LayoutRefusal.{LayoutRefusal}
use Rattle.layout_core.specs.declared.layout.LayoutRefusal.TheVariants as cutting
use Rattle.words_core.specs.declared.event.Command.TheVariants as Command
use Rattle.world_core.specs.PrivateStep.{command_step, with_body, cache_body, take_body}
use Rattle.space_core.specs.Content as spaces
use Rattle.buddy_core.specs.Content as buddies
use Rattle.slab_tables.specs.Content as tables
use Rattle.machine_changes.specs.Shows.{Agree}
use Rattle.machine_changes.specs.Keeps.{Keeps, Spares}
use Rattle.slab_core.specs.declared.taking.Taken.{Taken}
use Rattle.slab_core.specs.Taking.{place_taken}
use Rattle.kernel_core.specs.Content.{KernelContent, content_of}
use Rattle.kernel_core.specs.Shows.{ShowsMachine}
use Rattle.kernel_core.specs.Steps.{StepsMachine}
use Rattle.kernel_core.proofs.CallsAsCommands.{answered, called, commanded, by_err, by_none}
use Rattle.kernel_core.proofs.CallEffects.{marks_kept}

-- A call is the step of a `take` command if it does `take_step` to the machine of tenant t, changes nothing of other tenants, and
-- changes nothing at all when it is refused. `take_step` gets the order of a slot from the tables.
pub taken : (r r' : spaces.Content) (b b' : buddies.Content) (s s' : tables.Content) (t : ℕ) → Agree r b s → Spares t r r' b b' s s'
    → (number : ℕ) (told : Result ℕ TakeRefusal)
    → ((m : Machine) → ShowsMachine (content_of r b s) t m → told ≡ (take_step s.top number m).answer)
    → ((m : Machine) → ShowsMachine (content_of r b s) t m → ShowsMachine (content_of r' b' s') t (take_step s.top number m).machine)
    → OnErr told ((r' ≡ r) × ((b' ≡ b) × (s' ≡ s)))
    → StepsMachine (content_of r b s) t (Command.Take number) (content_of r' b' s') (take_body told)
unfolding command_step
taken r r' b b' s s' t agree spares number told answer shows refused =
    let order : s.top ≡ b.top = sym agree.order in
    called r r' b b' s s' t spares (Command.Take number) take_body (take_step b.top number) told (λ m. refl)
    (λ m shown. answer m shown ∙ ap (λ top. (take_step top number m).answer) order)
    (λ m shown. subst (λ top. ShowsMachine (content_of r' b' s') t (take_step top number m).machine) order (shows m shown))
    (by_err take_body told (λ place. refl) refused)

-- if P holds when the result of `take_object` is a refusal, P also holds when `place_taken` of this result is a refusal
pub untaken : (P : Type 0) (told : Result Taken TakeRefusal) → OnErr told P → OnErr (place_taken told) P
untaken P (Ok it) left = left
untaken P (Err refusal) left = left

-- New caches: the layout of a size and an alignment, or the refusal if there is no layout

abbrev judged : ℕ → ℕ → Bool → Bool → Result Cut LayoutRefusal
judged size align v w = if v then (if w then Ok (cut size align) else Err cutting.BadAlign) else Err cutting.BadSize

abbrev by_layout : List ℕ → Machine → Result Cut LayoutRefusal → Step (Result ℕ CacheRefusal)
by_layout pattern m (Ok l) = cache_answer (create_step MAX_CACHES l.size l.align pattern m)
by_layout pattern m (Err cutting.BadSize) = record { answer = Err CacheRefusal.BadSize; machine = m }
by_layout pattern m (Err cutting.BadAlign) = record { answer = Err CacheRefusal.BadAlign; machine = m }

step_is : (size align : ℕ) (pattern : List ℕ) (m : Machine) → cache_step MAX_CACHES size align pattern m ≡ by_layout pattern m (layout_or_refusal size align)
unfolding cache_step
step_is size align pattern m = go (is_size size) (is_alignment align)
  where
    go : (v w : Bool) → (if not v then record { answer = Err CacheRefusal.BadSize; machine = m }
        else (if not w then record { answer = Err CacheRefusal.BadAlign; machine = m } else cache_answer (create_step MAX_CACHES size align pattern m)))
        ≡ by_layout pattern m (judged size align v w)
    go false w = refl
    go true false = refl
    go true true = refl

pub cut_is : (size align : ℕ) (l : Cut) → Ok l ≡ layout_or_refusal size align → l ≡ cut size align
cut_is size align l = go (is_size size) (is_alignment align)
  where
    go : (v w : Bool) → Ok l ≡ judged size align v w → l ≡ cut size align
    go false w is = absurd (cc)
    go true false is = absurd (cc)
    go true true is = cc

-- if a size and an alignment have no layout, the refused call is the step of the command for a new cache
pub cache_refused : (k : KernelContent) (t size align : ℕ) (pattern : List ℕ) (limit : LayoutRefusal) (refusal : CacheRefusal) → Err limit ≡ layout_or_refusal size align
    → ((m : Machine) → by_layout pattern m (Err limit) ≡ record { answer = Err refusal; machine = m })
    → StepsMachine k t (Command.Cache size align (record { items = pattern })) k (cache_body size align (Err refusal))
unfolding command_step
cache_refused k t size align pattern limit refusal is same =
    answered k t (Command.Cache size align (record { items = pattern })) (cache_body size align (Err refusal))
    (λ m shown. ap (with_body (cache_body size align)) (step_is size align pattern m ∙ ap (by_layout pattern m) (sym is) ∙ same m))

-- if a size and an alignment have a layout, a call that does `create_step` is the step of the command for a new cache; it is
-- refused with `NoCacheSlot` if all numbers are used
pub created : (r : spaces.Content) (b : buddies.Content) (s s' : tables.Content) (t : ℕ) → ((u : ℕ) → u ≢ t → Keeps r r b b s s' u)
    → (size align : ℕ) (pattern : List ℕ) (l : Cut) (result : Option ℕ) → Ok l ≡ layout_or_refusal size align
    → ((m : Machine) → ShowsMachine (content_of r b s) t m → result ≡ (create_step MAX_CACHES l.size l.align pattern m).answer)
    → ((m : Machine) → ShowsMachine (content_of r b s) t m
    → ShowsMachine (content_of r b s') t (create_step MAX_CACHES l.size l.align pattern m).machine)
    → IfNone result (s' ≡ s)
    → StepsMachine (content_of r b s) t (Command.Cache size align (record { items = pattern })) (content_of r b s')
    (cache_body size align (ok_or result CacheRefusal.NoCacheSlot))
unfolding command_step
created r b s s' t others size align pattern l result is answer shows refused =
    let step : (m : Machine) → cache_step MAX_CACHES size align pattern m ≡ cache_answer (create_step MAX_CACHES l.size l.align pattern m) = λ m.
    step_is size align pattern m ∙ ap (by_layout pattern m) (sym is) in
    commanded (content_of r b s) (content_of r b s') t (Command.Cache size align (record { items = pattern })) (cache_body size align)
    (cache_step MAX_CACHES size align pattern) (ok_or result CacheRefusal.NoCacheSlot) (λ m. refl) (record {
      sizes = record { order = refl; superblocks = refl; tenants = refl };
      shows = λ m shown. subst (λ (x : Step (Result ℕ CacheRefusal)). ShowsMachine (content_of r b s') t x.machine) (sym (step m)) (shows m shown);
      answer = λ m shown. ap (λ o. ok_or o CacheRefusal.NoCacheSlot) (answer m shown) ∙ sym (ap (λ (x : Step (Result ℕ CacheRefusal)). x.answer) (step m));
      others = others;
      owners = refl;
      marks = marks_kept r r refl refl;
      spare = λ m free. refl;
    })
    (λ told. ap (content_of r b) (by_none (λ o. cache_body size align (ok_or o CacheRefusal.NoCacheSlot)) result (λ number. refl) refused told))
