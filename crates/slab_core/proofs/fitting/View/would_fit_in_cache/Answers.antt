use Rattle.std.proofs.Common.{◌≡◌, ℕ, ◌*◌, ◌/◌, ◌%◌, ◌^◌, ◌<◌, ◌≤◌, length, true, refl, sym, ap, ◌∙◌, subst, mod-eq_of_lt, arith}
use Rattle.std.proofs.Math.Nat.{div-lt_iff_lt-mul}
use Rattle.std.proofs.lemmas.Nat.{pow_pos}
use Rattle.std.proofs.lemmas.Bool.{false≢true}
use Rattle.model_core.specs.declared.limits.TheConstants.{WIDE_FRAMES}
use Rattle.model_core.specs.Blocks.{around}
use Rattle.klist_core.specs.Places.{IsPlacedByKey}
use Rattle.slab_tables.specs.Content.{head_of}
use Rattle.slab_core.specs.Fitting.{IsWhole, IsUnusedBlock, has_number}
use Rattle.slab_core.proofs.IdleFrames.{listed_taken}
use Rattle.slab_core.proofs.NoLargerTakenBlock.{whole_around}
use Rattle.slab_core.proofs.FittingCache.{IsNextSlab, left, next_is, slab_small, slab_within, first_small, after_is, left_less, goes_on, refused_more}
use Rattle.slab_core.proofs.fitting.View.would_fit_in_cache.Goals as goal
use Rattle.slab_core.proofs.fitting.View.would_fit_in_cache.Goals.{In-Some, then-not-has_block+else-is_unused_block, else-not-has_block}

-- no block of order k fits around the empty slabs of cache c before the slab that the search has reached
here : (c : In-Some) → IsNextSlab c.args.self.space.now c.args.self.buddy.now c.args.self.tables.now c.args.self.tenant c.args.c c.args.k c.in-Some.slab c.in-Some.machine_frame
here c = next_is c.loop-next.invariant.searched c.in-Some.is

small : (c : In-Some) → c.in-Some.slab < WIDE_FRAMES
small c = slab_small (here c) c.requires.parts.slabs c.requires.parts.agree c.requires.steady c.requires.cache

number_within : (c : In-Some) → c.in-Some.slab / 2 ^ c.args.k < 64 * length c.loop-next.refused
number_within c =
    let x = c.args in
    let within = slab_within (here c) c.requires.parts.slabs c.requires.parts.agree c.requires.steady c.requires.parts.buddy.sizes (omega (arith, c.requires.tenant, c.requires.parts.agree.rows)) c.requires.cache in
    let words : length x.self.tables.now.lists.places ≤ 64 * length c.loop-next.refused * 2 ^ x.k =
    subst (λ n. length x.self.tables.now.lists.places ≤ 64 * n * 2 ^ x.k) (sym c.loop-next.invariant.len) c.requires.words in
    (div-lt_iff_lt-mul (pow_pos c.args.k)).1 (omega (arith, within, words))

-- the code computes the first frame of the block of order k around the slab's first frame
first_is : (c : In-Some) → c.in-Some.slab / 2 ^ c.args.k * 2 ^ c.args.k % 4294967296 ≡ (around c.in-Some.slab c.args.k).first
first_is c = let first = first_small c.in-Some.slab c.args.k (small c) in mod-eq_of_lt (omega arith)

pub has_block-requires : goal.has_block-requires
has_block-requires c = number_within (goal.at.has_block-requires c).In-Some

pub is_unused_block-requires-clause-first : goal.is_unused_block-requires-clause-first
is_unused_block-requires-clause-first c =
    let at = (goal.at.is_unused_block-requires-clause-first c).In-Some in
    subst (λ n. n < WIDE_FRAMES) (sym (first_is at)) (first_small c.in-Some.slab c.args.k (small at))

pub is_unused_block-requires-clause-block : goal.is_unused_block-requires-clause-block
is_unused_block-requires-clause-block c =
    let x = c.args in
    let at = (goal.at.is_unused_block-requires-clause-block c).In-Some in
    let taken = listed_taken x.self.space.now x.self.buddy.now x.self.tables.now x.self.tenant x.c c.in-Some.slab c.in-Some.machine_frame c.requires.parts.slabs c.requires.parts.agree c.requires.cache (here at).placed in
    subst (λ n. IsWhole x.self.buddy.now x.self.tenant n x.k) (sym (first_is at))
    (whole_around x.self.space.now x.self.buddy.now x.self.tables.now x.self.tenant c.requires.parts.agree c.requires.steady c.in-Some.slab x.k c.requires.order taken.0 taken.1)

pub returns-then-is_unused_block-clause-fits : goal.returns-then-is_unused_block-clause-fits
returns-then-is_unused_block-clause-fits c =
    let x = c.args in
    let at = (goal.at.returns-then-is_unused_block-clause-fits c).In-Some in
    let yes : true ≡ true = refl in (
      λ e. record {
        first = c.in-Some.slab;
        machine_frame = c.in-Some.machine_frame;
        empty = (here at).placed;
        unused = subst (λ n. IsUnusedBlock x.self.space.now x.self.buddy.now x.self.tables.now x.self.tenant n x.k) (first_is at) (c.is_unused_block.ensures.0 c.if-is_unused_block.true);
      },
      λ fits. yes,
    )

pub add_block-requires : goal.add_block-requires
add_block-requires c = number_within (goal.at.add_block-requires c).In-Some

pub after-next-requires-clause-placed : goal.after-next-requires-clause-placed
after-next-requires-clause-placed c =
    let at = (goal.at.after-next-requires-clause-placed c).In-Some in
    subst (λ places. IsPlacedByKey places c.in-Some.machine_frame) (sym (ap (λ l. l.places) c.lists.ensures))
    (record { list = head_of c.args.self.tenant c.args.c 2; key = c.in-Some.slab; here = (here at).placed; by_key = omega arith })

pub loop-next-smaller : goal.loop-next-smaller
loop-next-smaller c =
    let x = c.args in
    let at = (goal.at.loop-next-smaller c).In-Some in
    let after = after_is (here at) c.lists.result.now.places c.after-next.result (ap (λ l. l.places) c.lists.ensures) c.after-next.ensures in
    subst (λ o. left c.after-next.result < left o) (sym c.in-Some.is)
    (left_less (here at) c.after-next.result (small at) after)

pub loop-next-preserved : goal.loop-next-preserved
loop-next-preserved c =
    let x = c.args in
    let at = (goal.at.loop-next-preserved c).In-Some in
    let after = after_is (here at) c.lists.result.now.places c.after-next.result (ap (λ l. l.places) c.lists.ensures) c.after-next.ensures in
    let block : ℕ = c.in-Some.slab / 2 ^ x.k in
    elim c.if-not-has_block.branch [
      | then-not-has_block+else-is_unused_block a ↦
          let none : IsUnusedBlock x.self.space.now x.self.buddy.now x.self.tables.now x.self.tenant (around c.in-Some.slab x.k).first x.k → ⊥ =
          λ unused. false≢true (sym a.if-is_unused_block.false
          ∙ a.is_unused_block.ensures.1 (subst (λ f. IsUnusedBlock x.self.space.now x.self.buddy.now x.self.tables.now x.self.tenant f x.k) (sym (first_is at)) unused)) in
          record {
            searched = goes_on (here at) c.after-next.result none after;
            len = ap length a.refused-is ∙ (a.add_block.ensures.len ∙ c.loop-next.invariant.len);
            refused = λ n. subst (λ ws. has_number ws n ≡ true → IsUnusedBlock x.self.space.now x.self.buddy.now x.self.tables.now x.self.tenant (n * 2 ^ x.k) x.k → ⊥) (sym a.refused-is)
                (refused_more x.self.space.now x.self.buddy.now x.self.tables.now x.self.tenant x.k (has_number c.loop-next.refused) _ block c.loop-next.invariant.refused a.add_block.ensures.has none n);
          }
      | else-not-has_block a ↦ record {
        searched = goes_on (here at) c.after-next.result
            (c.loop-next.invariant.refused block (sym c.has_block.ensures ∙ a.if-not-has_block.false)) after;
        len = ap length a.refused-is ∙ c.loop-next.invariant.len;
        refused = λ n. subst (λ ws. has_number ws n ≡ true → IsUnusedBlock x.self.space.now x.self.buddy.now x.self.tables.now x.self.tenant (n * 2 ^ x.k) x.k → ⊥) (sym a.refused-is)
            (c.loop-next.invariant.refused n);
      }
    ]
