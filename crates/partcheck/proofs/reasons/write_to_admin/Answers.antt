use Rattle.partcheck.specs.Reasons.{admin_text}
use Rattle.partcheck.proofs.JoinedTexts.{only_text}
use Rattle.partcheck.proofs.reasons.write_to_admin.Goals as goal

pub returns : goal.returns
returns g c =
    only_text (g.W.Write.contents c.args.out.now) (g.W.Write.contents c.write.new.self) c.write.result _ (admin_text c.args.kind) c.write.ensures.bytes
    (simp c.form_of_kind-form.ensures)
