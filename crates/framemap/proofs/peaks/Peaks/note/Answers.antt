use Rattle.std.proofs.Common.{◌≡◌, ℕ, ◌+◌, ◌<◌, Some, slice_get, slice_set, vec_len, refl, ap, subst, sym, ◌∙◌, ⊎_elim, arith}
use Rattle.std.proofs.lemmas.Bool.{cases_eq}
use Rattle.std.proofs.lemmas.Option.{slice_get_read, slice_get_within}
use Rattle.world_core.proofs.MachineLists.{slice_get-set_other, slice_get-set_same}
use Rattle.framemap.specs.declared.peaks.Peak.{Peak}
use Rattle.framemap.specs.Peaks.{IsPeak, frames_taken_in}
use Rattle.framemap.proofs.PeakLemmas.{unchanged}
use Rattle.framemap.proofs.peaks.Peaks.note.Goals as goal

pub returns-in_default : goal.returns-in_default
returns-in_default c = record {
  width = refl;
  ended = refl;
  tenants = refl;
  each = λ taken lines next t after there. (
    after,
    there,
    λ width ended most_columns from is. unchanged (taken t) lines width ended most_columns after
        (next.others t (λ e. c.in_default.not-Some t e)) from is,
  );
}

pub returns-in-Some-get_mut : goal.returns-in-Some-get_mut
returns-in-Some-get_mut c =
    let peaks = c.args.self.now.of_tenants.items in
    let t : ℕ = c.in-Some.t in
    let old : Peak = c.in-Some-get_mut.peak.now in
    let new : Peak = c.note.new.self in
    let within : t < vec_len c.args.self.now.of_tenants = c.in-Some-get_mut.ensures.variant.0 refl in
    let was : slice_get peaks t ≡ Some old =
    slice_get_read peaks _ t old refl (omega (arith, within, c.args.self.now.of_tenants.ok.0)) c.in-Some-get_mut.ensures.value in record {
      width = refl;
      ended = refl;
      tenants = refl;
      each = λ taken lines next u after there. ⊎_elim
          (λ same.
          let here : slice_get (slice_set peaks t new) t ≡ Some after = subst (λ v. slice_get (slice_set peaks t new) v ≡ Some after) same there in
          let both : Some new ≡ Some after = sym (slice_get-set_same peaks t old new was) ∙ here in
          let is_new : new ≡ after = cc in
          let frames : taken u (lines + 1) ≡ c.frames_taken_of.result =
          next.after u ∙ ap (frames_taken_in next.world) same ∙ sym (c.frames_taken_of.ensures next.world next.shown) in (
            old,
            subst (λ v. slice_get peaks v ≡ Some old) (sym same) was,
            λ width ended most_columns from is.
                subst (IsPeak (taken u) (lines + 1) width ended most_columns) is_new (c.note.ensures (taken u) lines width ended most_columns frames from is),
          ))
          (λ other.
          let here : slice_get peaks u ≡ Some after = sym (slice_get-set_other peaks t u new (λ e. other (sym e))) ∙ there in (
            after,
            here,
            λ width ended most_columns from is. unchanged (taken u) lines width ended most_columns after
                (next.others u (λ e. let both : Some t ≡ Some u = sym c.in-Some.is ∙ e in let same : t ≡ u = cc in other (sym same))) from is,
          ))
          (cases_eq u t);
    }

pub returns-in_default-get_mut : goal.returns-in_default-get_mut
returns-in_default-get_mut c =
    let past : c.in-Some.t < vec_len c.args.self.now.of_tenants → ⊥ = λ less. let clash = c.in_default-get_mut.ensures.variant.1 less in cc in record {
      width = refl;
      ended = refl;
      tenants = refl;
      each = λ taken lines next u after there.
          let within : u < vec_len c.args.self.now.of_tenants =
          omega (arith, slice_get_within c.args.self.now.of_tenants.items u after there, c.args.self.now.of_tenants.ok.0) in (
            after,
            there,
            λ width ended most_columns from is. unchanged (taken u) lines width ended most_columns after
                (next.others u (λ e.
                let both : Some c.in-Some.t ≡ Some u = sym c.in-Some.is ∙ e in
                let same : c.in-Some.t ≡ u = cc in
                past (omega (arith, same, within)))) from is,
          );
    }
