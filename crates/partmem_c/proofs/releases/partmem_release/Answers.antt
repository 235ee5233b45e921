use Rattle.std.proofs.Common.{Option, Some, refl, sym, subst}
use Rattle.kernel_core.specs.Content.{KernelContent}
use Rattle.partmem_c.specs.Releases.{FreesPlace}
use Rattle.partmem_c.proofs.releases.partmem_release.Goals as goal

pub returns : goal.returns
returns c =
    let x = c.args in
    subst (λ (held : Option KernelContent). FreesPlace held x.tenant x.place x.sizes.now.bytes (Some c.release-outcome.new.self) c.tell_freed.result c.tell_freed.new.freed)
    (sym c.in-Some.ensures.value)
    (record {
      after = c.release-outcome.new.self;
      is = refl;
      outcome = c.release-outcome.result;
      releases = c.release-outcome.ensures;
      tells = c.tell_freed.ensures;
    })
