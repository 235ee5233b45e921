use Rattle.std.proofs.Common.{Option, Some, inl, inr, refl, sym, subst}
use Rattle.kernel_core.specs.Content.{KernelContent}
use Rattle.partmem_c.specs.Releases.{FreesUnder, FreesIn}
use Rattle.partmem_c.proofs.releases.partmem_release_in_kernel.Goals as goal

pub returns-in_default-place_under : goal.returns-in_default-place_under
returns-in_default-place_under c =
    let x = c.args in
    subst (λ (held : Option KernelContent). FreesUnder held x.tenant x.superblock x.offset x.sizes.now.bytes (Some c.in-Some.kernel.now) 4294967295 (record { cache = 0; place = 0; bytes = 0 }))
    (sym c.in-Some.ensures.value)
    (inr (c.in_default-place_under.ensures, refl, refl, refl))

pub returns : goal.returns
returns c =
    let x = c.args in
    let at = c.in-Some-place_under.ensures in
    subst (λ (held : Option KernelContent). FreesUnder held x.tenant x.superblock x.offset x.sizes.now.bytes (Some c.release-outcome.new.self) c.tell_freed.result c.tell_freed.new.freed)
    (sym c.in-Some.ensures.value)
    (inl (
      at.0,
      at.1,
      subst (λ place. FreesIn c.in-Some.kernel.now x.tenant place x.sizes.now.bytes (Some c.release-outcome.new.self) c.tell_freed.result c.tell_freed.new.freed) at.2 (record {
        after = c.release-outcome.new.self;
        is = refl;
        outcome = c.release-outcome.result;
        releases = c.release-outcome.ensures;
        tells = c.tell_freed.ensures;
      }),
    ))
