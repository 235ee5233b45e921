use Rattle.std.proofs.Common.{◌≡◌, ℕ, ◌<◌, length, sym, ap, subst, ◌∙◌, arith}
use Rattle.std.specs.Prelude.{is_some}
use Rattle.buddy_core.specs.Content.{holding_of, taken_of}
use Rattle.kernel_core.specs.Frames.{IsFrame}
use Rattle.kernel_core.specs.declared.frames.FrameKind.TheVariants.{Free}
use Rattle.kernel_core.proofs.FrameKinds.{free_told, free_here, block_next, small_shift}
use Rattle.kernel_core.proofs.CallEffects.{with_space}
use Rattle.kernel_core.proofs.kernel.Kernel.run_at.Goals as goal

pub overflow_shl-result : goal.overflow_shl-result
overflow_shl-result c =
    let taken = sym c.requires.taken ∙ c.in-Some.is in
    let less : c.args.t < length c.args.self.now.buddy.tenants = omega (arith, c.laws.ensures.agree.holdings, c.requires.tenant) in
    omega (arith, ((c.laws.ensures.together.buddy.sound c.args.t less).placed _ _ taken).0.0, c.laws.ensures.agree.top, c.laws.ensures.agree.order)

pub returns-in-None-clause-kinds : goal.returns-in-None-clause-kinds
returns-in-None-clause-kinds c m frame h ended from to =
    let k = c.args.self.now in
    let here : c.args.first ≡ frame = omega (arith, from, to) in
    let none = sym c.in-None.is ∙ c.requires.taken in
    subst (λ (x : ℕ). IsFrame k.order m x Free) here (
      h.slots _ ∙ ap is_some c.requires.held,
      free_told k.space k.buddy k.slabs c.args.t k (with_space k k.space c.laws.ensures.agree) c.laws.ensures.together c.requires.tenant m h c.args.first
          (free_here (taken_of (holding_of c.args.t k.buddy)) c.args.first ended none),
    )

pub returns-in-Some-clause-some : goal.returns-in-Some-clause-some
returns-in-Some-clause-some c =
    let taken = sym c.requires.taken ∙ c.in-Some.is in
    let less : c.args.t < length c.args.self.now.buddy.tenants = omega (arith, c.laws.ensures.agree.holdings, c.requires.tenant) in
    let shift = small_shift c.in-Some.order (omega (arith, ((c.laws.ensures.together.buddy.sound c.args.t less).placed _ _ taken).0.0, c.laws.ensures.agree.top, c.laws.ensures.agree.order)) in
    rw shift.0 shift.1

pub returns-in-Some-clause-few : goal.returns-in-Some-clause-few
returns-in-Some-clause-few c =
    let taken = sym c.requires.taken ∙ c.in-Some.is in
    let less : c.args.t < length c.args.self.now.buddy.tenants = omega (arith, c.laws.ensures.agree.holdings, c.requires.tenant) in
    let shift = small_shift c.in-Some.order (omega (arith, ((c.laws.ensures.together.buddy.sound c.args.t less).placed _ _ taken).0.0, c.laws.ensures.agree.top, c.laws.ensures.agree.order)) in
    rw shift.0 shift.2

pub returns-in-Some-clause-kinds : goal.returns-in-Some-clause-kinds
returns-in-Some-clause-kinds c =
    let taken = sym c.requires.taken ∙ c.in-Some.is in
    let less : c.args.t < length c.args.self.now.buddy.tenants = omega (arith, c.laws.ensures.agree.holdings, c.requires.tenant) in
    let shift = small_shift c.in-Some.order (omega (arith, ((c.laws.ensures.together.buddy.sound c.args.t less).placed _ _ taken).0.0, c.laws.ensures.agree.top, c.laws.ensures.agree.order)) in
    rw shift.0 (λ m frame h ended from to. c.kind_of_block.ensures m c.in-Some.order frame h taken (from, to))

pub returns-in-Some-clause-next : goal.returns-in-Some-clause-next
returns-in-Some-clause-next c =
    let taken = sym c.requires.taken ∙ c.in-Some.is in
    let less : c.args.t < length c.args.self.now.buddy.tenants = omega (arith, c.laws.ensures.agree.holdings, c.requires.tenant) in
    let sound = c.laws.ensures.together.buddy.sound c.args.t less in
    let shift = small_shift c.in-Some.order (omega (arith, (sound.placed _ _ taken).0.0, c.laws.ensures.agree.top, c.laws.ensures.agree.order)) in
    rw shift.0 (λ ended. block_next _ _ (taken_of (holding_of c.args.t c.args.self.now.buddy)) sound c.args.first c.in-Some.order ended taken)
