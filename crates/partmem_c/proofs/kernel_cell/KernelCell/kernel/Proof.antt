-- `kernel` lends the kernel at the cell's pointer. When the borrow ends, the cell holds the kernel as the borrower left it.
use Rattle.std.proofs.Common.{◌≡◌, List, [], ◌∷◌, Option, Some, is_some, true, refl, sym, ap, ◌∙◌}
use Prim.Native.Nat.{ℕ}
use seplogic.Ra.Ura.{Ura}
use base.Fraction.{full_share}
use base.Fml.{Fml, GName, ftrue, fsep, flft}
use base.Logic.{ent, sep, never, fst∗}
use mir.Raw.{raw as bare}
use mir.Syntax.{named}
use mir.Val.{Val, vptr}
use types.Logic.{Logic, sem}
use types.Kit.{‵, raw, ◌⊛◌, some, later, at_ret, ◌$◌, ◌∵◌, !, qed, done, move, keep, drop, use1, split, split3, join, pick, await, group, rewrite, frame, fsplit, fsplit3, fjoin, fpick, fpack, suffices}
use types.Part.{whole, sub, look_in}
use types.Run.{stop, fld, addr, load, of_opd, first, blocks, exec, returns, enter}
use types.ByLocal.{alloc_all, pass_all, free_all, look_at, get, through, sets, sets_last, env}
use contract.Monad.{fact}
use contract.Running.{tables}
use denote.Exit.{no}
use denote.Follow.{follows, lends_Part}
use denote.Memory.{part_at, part_of, mem, cell_at, lone}
use denote.RawPtr.{Ptr, block_ptr, null_ptr, in_a_block}
use denote.Ref.{MutBor, MutRef, mut_vals, mut_Tells}
use denote.Signature.{plain, mut_ref_to}
use denote.Steps.{nothing, opens, heard}
use denote.Triple.Walked.{says, Stays, stay_dropped, walk_of, ends_at, Goes-spent_ref}
use Rattle.std.proofs.raw_atomic.Walks.{proved}
use Rattle.std.specs.declared.alloc.Global.{Global}
use Rattle.std.specs.contracts.impls.GlobalAllocator.TheImpl.{ghosts}
use Rattle.std_alloc.specs.Box.Ownership.{box_owns}
use Rattle.kernel_core.specs.Content.{KernelContent}
use Rattle.kernel_core.specs.contracts.kernel.Kernel.{the_row}
use Rattle.partmem_c.specs.KernelCells.{cell_owns}
use Rattle.partmem_c.specs.Borrowing.{with_held}
use Rattle.partmem_c.specs.contracts.kernel_cell.KernelCell as cell
use Rattle.partmem_c.proofs.KernelCellSteps.{word, holds, cell_out, cell_in}
use Rattle.partmem_c.specs.contracts.kernel_cell.KernelCell.kernel as f
use Rattle.partmem_c.proofs.kernel_cell.KernelCell.kernel.Statement.{statement}
use Rattle.partmem_c.proofs.kernel_cell.KernelCell.kernel.Code as code

abbrev stayed : Stays f.ended.signature.params f.ended.kept
stayed = (stay_dropped (mut_ref_to (0 ∷ []) tt (plain (λ _. cell.the_row))) no, tt)

module _ {M : Type 1} {𝓤 : Ura M} (𝓛 : Logic 𝓤) (s : cell.the_row.Denot) (from : Global) (b o rb ro : ℕ) where
  -- what the cell keeps while its kernel is lent: the right to free the kernel's block, and the memory of the cell itself
  abbrev Rest : Fml
  Rest = fsep (ghosts.dealloc_token from (bare (lone the_row.mir)) (block_ptr b o)) (cell_at full_share cell.the_row.mir (word (block_ptr b o) ∷ []) rb ro)

  back : s.at ≡ block_ptr b o → (w : KernelContent) → ent 𝓤 (sep 𝓤 (sem 𝓛 ((mem the_row).own_at w b o)) (sem 𝓛 Rest)) (sem 𝓛 ((mem cell.the_row).own_at (with_held s w) rb ro))
  unfolding part_of
  back e w =
      qed 𝓛 (‵ (part_at the_row full_share w b o) ∷ ‵ Rest ∷ []) ∵ move ! (1 ∷ []) $ fsplit ! $ move ! (2 ∷ 0 ∷ []) $ fjoin ! $
      rewrite ! 0 (λ (p : Ptr). ‵ (box_owns (ghosts.dealloc_token from) the_row p w)) (sym e) refl $
      rewrite ! 1 (λ (p : Ptr). ‵ (cell_at full_share cell.the_row.mir (word p ∷ []) rb ro)) (sym e) refl $
      fpack ! Global (λ heap. box_owns (ghosts.dealloc_token heap) the_row s.at w) from $ cell_in ! s.at (Some w) $ move ! (1 ∷ 0 ∷ []) $ fjoin ! $
      fpack ! (List Val) (λ us. fsep (cell_at full_share cell.the_row.mir us rb ro) (cell.the_row.own_val (with_held s w) us)) (word s.at ∷ []) $ done !

pub kernel_spec : {M : Type 1} → statement M
kernel_spec 𝓤 𝓛 𝓜 𝓡 wired =
    let c = f.clauses 𝓛 𝓜.mem 𝓡.returns in let W = walk_of 𝓛 f.ended stayed c in let 𝓣 = tables 𝓤 𝓛.H 𝓜 𝓡 𝓡.env in
    proved 𝓛 f.ended stayed c 𝓜 𝓡 (Goes-spent_ref 𝓛 1 (0 ∷ []) tt (plain (λ _. cell.the_row)), tt)
    f.Key.name code.function (code.unfolded 𝓤 𝓛.H 𝓜 𝓡 wired)
    (λ κs. (mut_vals, tt)) (λ κs. (mut_Tells (named 0) κs.0 cell.the_row, tt)) (λ κs qs bounds a n are.
    let κ = κs.0 in let q = qs.0 in let rb = a.0.ref_ptr.0 in let ro = a.0.ref_ptr.1 in let γ = a.0.ghost_name in let s = a.0.now in let vs = mut_vals a.0 in
    let y : W.Ghost = ((κs, qs, bounds, a, (vs, tt)), n) in let coded = cell.the_row.coded.code s in
    qed 𝓛 (((‵ (flft κ q) ⊛ ‵ ftrue) ⊛ ‵ ((MutRef (named 0) κ cell.the_row).own_val a.0 vs) ⊛ ‵ ftrue) ∷ raw (fact 𝓤 (is_some s.held ≡ true)) ∷ []) ∵
    move ! (1 ∷ []) $ heard ! (is_some s.held ≡ true) (λ is. let held = holds s.held is in
    split ! $ split ! $ move ! (2 ∷ []) $ split ! $ keep ! (0 ∷ 2 ∷ []) $
    enter ! _ _ _ _ _ $ alloc_all ! (λ l. pass_all ! refl ((tt, tt), tt) $
    fsplit3 ! $ drop ! $ move ! (0 ∷ 1 ∷ 2 ∷ []) $ opens ! tt cell.the_row {h = s} rb ro (λ us. move ! (1 ∷ []) $ cell_out ! s us (λ ws.
    rewrite ! 0 (λ (h : Option KernelContent). ‵ (cell_owns s.at h)) held.1 refl $ fpick ! (λ from.
    in_a_block ! s.at (λ p. box_owns (ghosts.dealloc_token from) the_row p held.0) (fst∗ 𝓤 (never 𝓤) (sem 𝓛 (ghosts.dealloc_token from (bare (lone the_row.mir)) null_ptr))) (λ b o e. fsplit ! $
    rewrite ! 2 (λ (ps : List Val). ‵ (cell_at full_share cell.the_row.mir ps rb ro)) (ws ∙ ap (λ (p : Ptr). word p ∷ []) e) refl $
    -- [the kernel; the right to free its block; the pointer's cell; the open borrow; obs; auth]
    first ! $ blocks ! $ sets ! (of_opd ! (load ! (through ! refl (fld ! refl (stop !))) (look_in ! 2 (sub ! 0 refl (whole !))))) refl (tt, tt) $
    sets ! (of_opd ! (get ! refl)) refl (tt, tt) $ sets_last ! (addr ! (through ! refl (stop !))) refl (tt, tt) $
    exec ! 𝓣.C 𝓣.Λ (env code.Mir.locals l) code.Mir.t-2 (at_ret _ (W.post y)) $ sets ! (of_opd ! (get ! refl)) refl (tt, tt) $
    let rest = sem 𝓛 (Rest 𝓛 s from b o rb ro) in let way = back 𝓛 s from b o rb ro e in let lent : GName → MutBor KernelContent = λ δ. record { ref_ptr = (b, o); ghost_name = δ; now = held.0 } in
    move ! (1 ∷ 2 ∷ []) $ fjoin ! $ move ! (2 ∷ 3 ∷ 4 ∷ 1 ∷ 0 ∷ []) $ group ! 5 $
    use1 𝓛 (later (some (λ (δ : GName). ‵ ((MutRef (named 0) κ the_row).own_val (lent δ) (vptr b o ∷ [])) ⊛ ‵ (flft κ q) ⊛ ‵ (follows cell.the_row the_row γ δ (with_held s)))))
    (lends_Part 𝓛 cell.the_row the_row (with_held s) (named 0) κ q rb ro b o γ rest way coded coded held.0) $ await ! tt $ pick ! (λ δ. split3 ! $
    returns ! (look_at ! 0 refl) $ free_all ! refl $ keep ! (0 ∷ 1 ∷ 2 ∷ []) $
    suffices ! _ (ends_at 𝓛 f.ended stayed c y (vptr b o) (lent δ) (tt, tt) (tt, tt)) $
    nothing ! $ nothing ! $ fjoin ! $ join ! $ nothing ! $ move ! (2 ∷ 0 ∷ []) $ join ! $ join ! $ frame ! $ says ! held.1 $ done !))))))))
