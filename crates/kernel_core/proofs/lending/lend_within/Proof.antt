-- `lend_within` lends the bytes that `window_in` returns, under a new ghost name. The proof goes through the function's MIR by
-- hand.
use Rattle.std.proofs.Common.{◌≡◌, ℕ, List, [], ◌∷◌, Option, Some, unwrap_or, length, refl, sym, ap, w8, w16, w32, MutBor}
use mir.Syntax.{named}
use mir.Val.{vptr, vint}
use base.Logic.{emp, id⊢}
use base.Fml.{ftrue, flft}
use types.Kit.{‵, raw, ◌⊛◌, some, later, ◌$◌, ◌∵◌, !, qed, by, move, keep, drop, split, split3, join, learn, fjoin, use0, use1, use2, await, pick, rewrite}
use types.Run.{stop, addr, and_then, no_more, returns, enter}
use types.ByLocal.{alloc_all, pass_all, free_all, look_at, get, through, sets, lands_as}
use contract.Monad.{fact, fact_i}
use contract.Running.{tables}
use denote.Exit.{yes, no}
use denote.Plain.{uint_vals, uint_Tells}
use denote.Ref.{mut_vals, mut_Tells}
use denote.Array.{Array}
use denote.Builtin.{u8, u16, u32}
use denote.Follow.{follows, follows_then}
use denote.Signature.{plain, mut_ref_to}
use denote.Slice.{MutSlice, slice_val}
use denote.Steps.{nothing, only, heard}
use denote.Triple.Clauses.{Lasts, lasts}
use denote.Triple.Spec.{triple_of}
use denote.Triple.Call.{calls_at}
use denote.Triple.Table.{framed}
use denote.Triple.Walked.{Stays, stay_dropped, walk_of, Goes-dropped, Goes-spent_ref}
use Rattle.std.proofs.raw_atomic.Walks.{proved, leaves}
use Rattle.space_core.specs.Content.{Content}
use Rattle.space_core.specs.Windows.{window_of, with_window}
use Rattle.space_core.specs.contracts.Space.{the_row}
use Rattle.space_core.specs.contracts.Space.window_in as callee
use Rattle.space_core.proofs.Space.window_in.Met.{met}
use Rattle.kernel_core.specs.Lending.{fit}
use Rattle.kernel_core.proofs.LentSliceLength.{fitted_lent, lends_fitted}
use Rattle.kernel_core.specs.contracts.lending.lend_within as f
use Rattle.kernel_core.specs.contracts.lending.lend_within.Key.{name as #self}
use Rattle.kernel_core.proofs.lending.lend_within.Statement.{statement}
use Rattle.kernel_core.proofs.lending.lend_within.Code as code

abbrev stayed : Stays f.ended.signature.params f.ended.kept
stayed = (stay_dropped (mut_ref_to (0 ∷ []) tt (plain (λ _. the_row))) no, (stay_dropped (plain (λ _. u16)) yes, (stay_dropped (plain (λ _. u8)) yes, (stay_dropped (plain (λ _. u32)) yes, (stay_dropped (plain (λ _. u32)) yes, tt)))))

pub lend_within_spec : {M : Type 1} → statement M
lend_within_spec 𝓤 𝓛 𝓜 𝓡 wired =
    let H = 𝓛.H in let 𝓣 = tables 𝓤 H 𝓜 𝓡 𝓡.env in let c = f.clauses 𝓛 𝓜.mem 𝓡.returns in
    proved 𝓛 f.ended stayed c 𝓜 𝓡 (
      Goes-spent_ref 𝓛 1 (0 ∷ []) tt (plain (λ _. the_row)),
      (
        Goes-dropped 𝓛 1 (plain (λ _. u16)) yes (λ κs x w. refl),
        (
          Goes-dropped 𝓛 1 (plain (λ _. u8)) yes (λ κs x w. refl),
          (Goes-dropped 𝓛 1 (plain (λ _. u32)) yes (λ κs x w. refl), (Goes-dropped 𝓛 1 (plain (λ _. u32)) yes (λ κs x w. refl), tt)),
        ),
      ),
    )
    #self code.function (code.unfolded 𝓤 H 𝓜 𝓡 wired)
    (λ κs. (mut_vals, (uint_vals w16, (uint_vals w8, (uint_vals w32, (uint_vals w32, tt))))))
    (λ κs. (mut_Tells (named 0) κs.0 the_row, (uint_Tells w16, (uint_Tells w8, (uint_Tells w32, (uint_Tells w32, tt))))))
    (λ κs qs bounds a g are.
    let space = a.0 in let m = a.1.0 in let t = a.1.1.0 in let place = a.1.1.1.0 in let len = a.1.1.1.1.0 in
    let z : (walk_of 𝓛 f.ended stayed c).Ghost = ((κs, qs, bounds, a, (mut_vals space, (uint_vals w16 m, (uint_vals w8 t, (uint_vals w32 place, (uint_vals w32 len, tt)))))), g) in
    let k = triple_of 𝓛 callee.signature (callee.spec 𝓛 𝓜.mem 𝓡.returns) in
    let y : k.Ghost = ((κs, qs, bounds, a, (mut_vals space, (uint_vals w16 m, (uint_vals w8 t, (uint_vals w32 place, (uint_vals w32 len, tt)))))), tt) in
    let within : List ℕ → Content = with_window space.now t place len in
    qed 𝓛 (raw (k.pre y) ∷ []) ∵
    enter ! 𝓣.C 𝓣.Λ code.function (vptr space.ref_ptr.0 space.ref_ptr.1 ∷ vint w16 m ∷ vint w8 t ∷ vint w32 place ∷ vint w32 len ∷ []) ((walk_of 𝓛 f.ended stayed c).post z) $
    alloc_all ! (λ l. pass_all ! refl ((tt, tt), ((tt, record { fits = are.1.0.1 }), ((tt, record { fits = are.1.1.0.1 }), ((tt, record { fits = are.1.1.1.0.1 }), ((tt, record { fits = are.1.1.1.1.0.1 }), tt))))) $
    sets ! (addr ! (through ! refl (stop !))) refl (tt, tt) $
    calls_at ! (framed 𝓤 H 𝓜 𝓣) k (met 𝓤 𝓛 𝓜 𝓡 (code.calls-space_core::Space::window_in 𝓡.env wired)) y
    (and_then ! (get ! refl) (and_then ! (get ! refl) (and_then ! (get ! refl) (and_then ! (get ! refl) (and_then ! (get ! refl) (no_more !)))))) (λ u.
    use1 𝓛 (later (some (λ (r : MutBor (List ℕ)). ((‵ (flft κs.0 qs.0) ⊛ ‵ ftrue) ⊛ ‵ ((MutSlice (named 0) κs.0 u8).own_val r (u ∷ []))) ⊛ some (λ (ws : Lasts callee.ended κs a).
    ‵ (lasts callee.ended κs a ws) ⊛ (‵ (follows the_row (Array u8 0) space.ghost_name r.ghost_name within) ⊛ (raw (fact 𝓤 (window_of space.now t place len ≡ Some r.now)) ⊛ raw (fact 𝓤 (length r.now ≡ len)))))))) (id⊢ 𝓤 _) $
    await ! tt $ pick ! (λ r. split ! $ move ! (1 ∷ []) $ pick ! (λ ws. split3 ! $ drop ! $ move ! (1 ∷ []) $ split ! $ heard ! (window_of space.now t place len ≡ Some r.now) (λ is. drop ! $
    move ! (1 ∷ []) $ split ! $ split ! $ move ! (2 ∷ 0 ∷ []) $
    use2 𝓛 (later (some (fitted_lent 𝓛 (named 0) κs.0 qs.0 r.ref_ptr.0 r.ref_ptr.1 r.ghost_name r.now (u ∷ [])))) (lends_fitted 𝓛 (named 0) κs.0 qs.0 r.ref_ptr.0 r.ref_ptr.1 r.ghost_name r.now (u ∷ [])) $
    await ! tt $ pick ! (λ δ. learn ! (λ eu. learn ! (λ rm. split3 ! $
    lands_as ! (ap only eu) refl (tt, (tt, (record { fits = rm.0 }, tt))) $
    move ! (4 ∷ 2 ∷ []) $ use2 𝓛 (‵ (follows the_row (Array u8 0) space.ghost_name δ (λ w. within (fit r.now w)))) (follows_then 𝓛 the_row (Array u8 0) (Array u8 0) within (fit r.now) space.ghost_name r.ghost_name δ) $
    rewrite ! 0 (λ (ys : List ℕ). ‵ (follows the_row (Array u8 0) space.ghost_name δ (λ w. within (fit ys w)))) (sym (ap (λ (o : Option (List ℕ)). unwrap_or o []) is)) refl $
    move ! (2 ∷ 3 ∷ []) $ join ! $ use0 𝓛 (raw (fact 𝓤 (window_of space.now t place len ≡ Some r.now))) (fact_i 𝓤 _ (emp 𝓤) is) $ move ! (2 ∷ 0 ∷ []) $ join ! $
    nothing ! $ nothing ! $ fjoin ! $ nothing ! $ fjoin ! $ nothing ! $ fjoin ! $ nothing ! $ fjoin ! $ nothing ! $ fjoin ! $
    returns ! (look_at ! 0 refl) $ free_all ! refl $ keep ! (2 ∷ 0 ∷ 3 ∷ 1 ∷ []) $
    by ! (leaves 𝓛 f.ended stayed c z (slice_val r.ref_ptr (length r.now)) (record { ref_ptr = r.ref_ptr; ghost_name = δ; now = r.now }) (tt, (tt, (tt, (tt, (tt, tt))))) (tt, (tt, (tt, (tt, (tt, tt)))))))))))))))
