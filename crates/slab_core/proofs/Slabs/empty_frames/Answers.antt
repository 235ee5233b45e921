use Rattle.std.proofs.Common.{◌≡◌, ℕ, ◌+◌, ◌≤◌, None, sym, ap, ◌∙◌, subst, arith}
use Rattle.slab_tables.specs.Content.{cache_at}
use Rattle.std.specs.Prelude.{flat_map}
use Rattle.model_core.specs.Slabs.{empty_blocks}
use Rattle.model_core.specs.CacheOperations.{frames_of}
use Rattle.slab_core.proofs.EmptySlabFrames.{below, frames_first, frames_next, below_all, numbers_below}
use Rattle.slab_core.proofs.Slabs.empty_frames.Goals as goal

pub loop-c-init : goal.loop-c-init
loop-c-init c = record { few = omega arith; frames = λ r b m a st h. sym (frames_first m.caches) }

pub loop-c-preserved : goal.loop-c-preserved
loop-c-preserved c = record {
  few = omega (arith, c.loop-c.invariant.few, c.empty_frames_of-frames.ensures.few);
  frames = λ r b m a st h.
      ap (λ n. n + c.empty_frames_of-frames.result) (c.loop-c.invariant.frames r b m a st h)
      ∙ ap (λ n. frames_of (flat_map empty_blocks (below c.loop-c.c m.caches)) + n) (c.empty_frames_of-frames.ensures.frames r b m a st h)
      ∙ sym (frames_next c.loop-c.c 0 m.caches h.caches_rise);
}

pub returns : goal.returns
returns c = λ r b m a st h.
    let none : (d : ℕ) → c.loop-c.c ≤ d → cache_at c.args.self.now c.args.t d ≡ None =
    λ d from. subst (λ s. cache_at s c.args.t d ≡ None) c.self.view_is (c.caches_below-c-end.ensures.none d (omega (arith, from, c.loop-c-test.false))) in
    c.loop-c.invariant.frames r b m a st h
    ∙ ap (λ xs. frames_of (flat_map empty_blocks xs)) (below_all c.loop-c.c m.caches (numbers_below r b c.args.self.now c.args.t c.loop-c.c m none h))
