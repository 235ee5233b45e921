use Rattle.std.proofs.Common.{◌≡◌, ℕ, ◌+◌, ◌*◌, ◌/◌, ◌^◌, ◌<◌, ◌≤◌, ◌%◌, None, length, slice_index_or, sym, ap, subst, ◌∙◌, arith}
use Rattle.std.proofs.lemmas.Option.{slice_get_within}
use Rattle.buddy_core.specs.Content.{Content, holding_of, taken_of}
use Rattle.kernel_core.specs.Frames.{IsFrame, AreEndedBefore}
use Rattle.kernel_core.proofs.FrameKinds.{slot_begins, frame_of_slot, runs_more}
use Rattle.kernel_core.proofs.kernel.Kernel.show_held.Goals as goal

pub runs-init : goal.runs-init
runs-init c =
    let k = c.args.self.now in
    let less : c.args.t < length k.buddy.tenants = omega (arith, c.laws.ensures.agree.holdings, c.requires.tenant) in
    let begins : AreEndedBefore (taken_of (holding_of c.args.t k.buddy)) (c.args.slot * 2 ^ k.buddy.top) =
    slot_begins k.buddy.top _ _ (c.laws.ensures.together.buddy.sound c.args.t less) c.args.slot in
    record {
      ended = λ f j is less. omega (arith, subst (λ (n : ℕ). f + 2 ^ j ≤ c.args.slot * 2 ^ n) c.laws.ensures.agree.top (begins f j is (subst (λ (n : ℕ). f < c.args.slot * 2 ^ n) (sym c.laws.ensures.agree.top) (omega (arith, less)))));
      told = λ m j cell shown within less. absurd (omega (arith, less));
      free = λ j cell from to is. c.set_more_cells.ensures.set j cell from to is;
    }

pub run_at-kind-requires-clause-held : goal.run_at-kind-requires-clause-held
run_at-kind-requires-clause-held c =
    let k = c.args.self.now in
    let size : length c.orders_under-orders.result.now ≡ 2 ^ k.order = c.orders_under-orders.ensures.size ∙ ap (λ (b : Content). 2 ^ b.top) c.buddy.ensures ∙ ap (λ n. 2 ^ n) c.laws.ensures.agree.top in
    let inside : c.runs.at < 2 ^ k.order = omega (arith, size, c.min-most.ensures, c.runs-test.true) in
    rw c.slot_start-base.ensures (rw ((frame_of_slot c.args.slot k.order c.runs.at inside).0) c.requires.held)

pub run_at-kind-requires-clause-taken : goal.run_at-kind-requires-clause-taken
run_at-kind-requires-clause-taken c =
    let k = c.args.self.now in
    let size : length c.orders_under-orders.result.now ≡ 2 ^ k.order = c.orders_under-orders.ensures.size ∙ ap (λ (b : Content). 2 ^ b.top) c.buddy.ensures ∙ ap (λ n. 2 ^ n) c.laws.ensures.agree.top in
    let inside : c.runs.at < 2 ^ k.order = omega (arith, size, c.min-most.ensures, c.runs-test.true) in
    let at = frame_of_slot c.args.slot k.order c.runs.at inside in
    let top : c.buddy.result.now.top ≡ k.order = ap (λ (b : Content). b.top) c.buddy.ensures ∙ c.laws.ensures.agree.top in
    let orders : (f : ℕ) → f / 2 ^ k.order ≡ c.args.slot → slice_index_or c.orders_under-orders.result.now (f % 2 ^ k.order) None ≡ taken_of (holding_of c.args.t k.buddy) f =
    subst (λ (n : ℕ). (f : ℕ) → f / 2 ^ n ≡ c.args.slot → slice_index_or c.orders_under-orders.result.now (f % 2 ^ n) None ≡ taken_of (holding_of c.args.t k.buddy) f) top
    (subst (λ (b : Content). (f : ℕ) → f / 2 ^ c.buddy.result.now.top ≡ c.args.slot → slice_index_or c.orders_under-orders.result.now (f % 2 ^ c.buddy.result.now.top) None ≡ taken_of (holding_of c.args.t b) f)
    c.buddy.ensures (λ f is. c.orders_under-orders.ensures.orders f (is ∙ sym c.from.ensures))) in
    rw c.slot_start-base.ensures (ap (λ (n : ℕ). slice_index_or c.orders_under-orders.result.now n None) (sym at.1) ∙ orders (c.args.slot * 2 ^ k.order + c.runs.at) at.0)

pub set_cells-requires-clause-free : goal.set_cells-requires-clause-free
set_cells-requires-clause-free c = λ j cell from to is. c.runs.invariant.free j cell from (omega (arith, to, c.min.ensures)) is

pub runs-preserved : goal.runs-preserved
runs-preserved c =
    let k = c.args.self.now in
    let base : ℕ = c.args.slot * 2 ^ k.order in
    let ran = rw c.slot_start-base.ensures at c.run_at-kind.ensures in
    record {
      ended = subst (λ (x : ℕ). AreEndedBefore (taken_of (holding_of c.args.t k.buddy)) x) (omega arith) (ran.next c.runs.invariant.ended);
      told = λ m j cell shown within less is.
          runs_more (λ j x. IsFrame k.order m (base + j) x) c.runs.cells c.set_cells.new.cells c.runs.at c.run_at-kind.result.1 c.min-most.result c.run_at-kind.result.0
          (λ j x below there. c.runs.invariant.told m j x shown (omega (arith, below, c.runs-test.true)) below there)
          c.set_cells.ensures.before
          (λ j x from to there. c.set_cells.ensures.set j x from (omega (arith, to, c.min.ensures)) there)
          (λ j from to. ran.kinds m (base + j) shown c.runs.invariant.ended (omega (arith, from)) (omega (arith, to)))
          j cell within less is;
      free = λ j cell from to is.
          c.runs.invariant.free j cell (omega (arith, from)) to (sym (c.set_cells.ensures.behind j (omega (arith, from, c.min.ensures))) ∙ is);
    }

pub returns : goal.returns
returns c = λ m j cell shown less is.
    let k = c.args.self.now in
    let size : length c.orders_under-orders.result.now ≡ 2 ^ k.order = c.orders_under-orders.ensures.size ∙ ap (λ (b : Content). 2 ^ b.top) c.buddy.ensures ∙ ap (λ n. 2 ^ n) c.laws.ensures.agree.top in
    let within : j < c.min-most.result = omega (arith, slice_get_within _ j cell is, c.runs.auto.cells, size, less, c.min-most.ensures) in
    c.runs.invariant.told m j cell shown within (omega (arith, within, c.runs-test.false)) is
