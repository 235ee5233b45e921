use Rattle.std.proofs.Common.{◌*◌, inr, ap, ◌∙◌}
use Rattle.kernel_core.specs.Lookups.{FoundBlock}
use Rattle.kernel_core.proofs.BlockAnswers.{usage_of}
use Rattle.partmem_c.proofs.BlockLemmas.{use_is, bytes_is, around_found}
use Rattle.partmem_c.proofs.lookups.block_around.Goals as goal

pub returns : goal.returns
returns c =
    let k = c.args.kernel.now in
    let kind = c.frame_at-kind.result in
    let around = c.frames_around-first.result in
    record {
      usage = usage_of kind;
      uses = c.use_of.ensures ∙ use_is kind;
      is = inr (
        c.requires,
        λ m shown. ap (λ n. FoundBlock (usage_of kind) (around.0 * 4096) n) (c.block_bytes.ensures ∙ bytes_is around.1 c.frames_around-first.ensures.order)
            ∙ around_found k c.args.t c.requires c.is_kernel.ensures c.args.place kind around.0 around.1
            c.frame_at-kind.ensures c.frames_around-first.ensures.around m shown,
      );
    }
