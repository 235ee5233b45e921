use Rattle.std.proofs.Common.{rules, ◌≡◌, List, Some, slice_get, refl, subst}
use Rattle.std.proofs.lemmas.List.{with_items_is, places}
use Rattle.std.specs.Vec.{with_items}
use Rattle.framemap.specs.declared.peaks.Peak.{Peak}
use Rattle.framemap.proofs.peaks.Peaks.widen.Goals as goal

pub returns : goal.returns
returns c =
    let items : (with_items c.args.self.now.of_tenants c.join_all.new.peaks).items ≡ c.join_all.new.peaks =
    with_items_is c.args.self.now.of_tenants c.join_all.new.peaks (search (rules, places)) in record {
      same = λ e. absurd (c.if-self-width.false e);
      width = refl;
      ended = λ _. refl;
      tenants = refl;
      joined = λ _ t after there.
          let step = c.join_all.ensures.joined t after (subst (λ (xs : List Peak). slice_get xs t ≡ Some after) items there) in
          (step.0, subst (λ (xs : List Peak). slice_get xs t ≡ Some step.0) c.deref_mut.ensures.value step.1, step.2);
    }
