use Rattle.std.proofs.Common.{refl}
use Rattle.kernel_core.proofs.FrameKinds.{slab_told, kind_small}
use Rattle.kernel_core.proofs.CallEffects.{with_space}
use Rattle.kernel_core.proofs.kernel.Kernel.kind_of_block.Goals as goal

pub returns-in-Some : goal.returns-in-Some
returns-in-Some c m order frame h taken here =
    let k = c.args.self.now in
    c.kind_in.ensures _ m frame
    (slab_told k.space k.buddy k.slabs c.args.t k (with_space k k.space c.laws.ensures.agree) c.laws.ensures.together c.requires.tenant m h frame _ _ taken here _ _
    c.in-Some.ensures (kind_small _) refl)
