use Rattle.std.proofs.Common.{refl, ap, arith}
use Rattle.words_core.specs.Requests.{command_of}
use Rattle.kernel_core.specs.Content.{KernelContent}
use Rattle.kernel_core.proofs.KernelToWorld.{unknown_tenant}
use Rattle.kernel_core.proofs.kernel.Kernel.ask.Goals as goal

pub returns-then-tenant-from : goal.returns-then-tenant-from
returns-then-tenant-from c = (
  (
    refl,
    λ _. tt,
    unknown_tenant _ c.args.tenant (command_of c.args.request)
        (omega (arith, c.from.ensures, c.tenants.ensures, ap (λ (k : KernelContent). k.tenants) c.self.view_is)),
  ),
  record { asked = tt; few = tt; bytes = tt },
)

pub returns : goal.returns
returns c =
    let done = c.ask_known.follows.holds-at-none in (
      (refl, λ _. tt, (refl, done)),
      record { asked = tt; few = c.ask_known.ensures.few; bytes = c.ask_known.ensures.bytes },
    )
