-- `unpark` makes a `RawBox` of a cell's pointer and a given handle. The `RawBox` then owns the cell's kernel.
use Rattle.std.proofs.Common.{◌≡◌, List, [], ◌∷◌, ◌++◌, Option, Some, is_some, true, refl, sym, subst, ap, ◌∙◌}
use mir.Val.{Val, vptr}
use mir.Raw.{raw as bare}
use base.Logic.{SProp, ent, emp, never, id⊢, fst∗}
use prog.Wp.{WpFn}
use types.Logic.{sem}
use types.Kit.{‵, raw, ◌⊛◌, ◌$◌, ◌∵◌, !, qed, by, move, keep, split, fsplit, fjoin, fpick, use0, suffices, rewrite}
use types.Run.{stop, fld, of_opd, no_more, and_then, returns, enter}
use types.ByLocal.{alloc_all, pass_all, free_all, look_at, get, get_in, sets}
use types.Part.{agg, sub, whole}
use contract.Monad.{fact, fact_i}
use contract.Running.{tables}
use denote.Exit.{yes}
use denote.Memory.{lone}
use denote.Param.{layout}
use denote.RattleType.{RattleType, owns}
use denote.RawPtr.{Ptr, block_ptr, null_ptr, in_a_block}
use denote.Signature.{types_at, plain}
use denote.Steps.{nothing, heard}
use denote.Triple.Entry.{alive}
use denote.Triple.Walked.{Stays, stay_dropped, walk_of, Goes-dropped}
use Rattle.std.proofs.cell.Inside.{one}
use Rattle.std.proofs.raw_atomic.Walks.{proved_at, leaves}
use Rattle.std.specs.contracts.alloc.Global as heap
use Rattle.std.proofs.alloc.Global.TheLaws as heap_laws
use Rattle.std.specs.contracts.impls.GlobalAllocator.TheImpl.{ghosts}
use Rattle.std_alloc.specs.Box.Ownership.{box_owns}
use Rattle.partmem_c.proofs.RawBoxValues.{both, raw_good, raw_in}
use Rattle.kernel_core.specs.contracts.kernel.Kernel.{the_row}
use Rattle.kernel_core.specs.Content.{KernelContent}
use Rattle.partmem_c.specs.KernelCells.{cell_owns}
use Rattle.partmem_c.specs.contracts.kernel_cell.KernelCell as cell
use Rattle.partmem_c.proofs.KernelCellSteps.{word, holds, cell_out}
use Rattle.partmem_c.specs.contracts.kernel_cell.KernelCell.unpark as f
use Rattle.partmem_c.proofs.kernel_cell.KernelCell.unpark.Statement.{statement}
use Rattle.partmem_c.proofs.kernel_cell.KernelCell.unpark.Code as code

pub unpark_spec : {M : Type 1} → statement M
unpark_spec 𝓤 𝓛 𝓜 𝓡 wired =
    let H = 𝓛.H in let 𝓣 = tables 𝓤 H 𝓜 𝓡 𝓡.env in let c = f.clauses 𝓛 𝓜.mem 𝓡.returns in
    let Z : RattleType = heap.the_row in let LZ = heap_laws.the_row_laws in
    let hs : Stays f.ended.signature.params f.ended.kept = (stay_dropped (plain (λ _. cell.the_row)) yes, (stay_dropped (plain (λ _. Z)) yes, tt)) in
    proved_at 𝓛 f.ended hs c 𝓜 𝓡 (Goes-dropped 𝓛 0 (plain (λ _. cell.the_row)) yes (λ κs x w. refl), (Goes-dropped 𝓛 0 (plain (λ _. Z)) yes (λ κs x w. refl), tt))
    f.Key.name code.function (code.unfolded 𝓤 H 𝓜 𝓡 wired) (λ z are.
    let κs = z.0.0 in let qs = z.0.1 in let s = z.0.3.0 in let a = z.0.3.1.0 in let Post = (walk_of 𝓛 f.ended hs c).post z in
    let Run : List Val → SProp 𝓤 = λ ws. WpFn 𝓤 H 𝓣.C 𝓣.Λ code.function ws Post in
    let h = one (layout Z) z.0.4.1.0 ((LZ.lawful 𝓛).typed a z.0.4.1.0 are.1.0) in
    qed 𝓛 ((raw (alive 𝓛 f.signature κs qs) ⊛ ‵ (owns (types_at f.signature.params κs) z.0.3 z.0.4)) ∷ raw (fact 𝓤 (is_some s.held ≡ true)) ∷ []) ∵
    move ! (1 ∷ []) $ heard ! (is_some s.held ≡ true) (λ some. let held = holds s.held some in split ! $ move ! (1 ∷ []) $ fsplit ! $ cell_out ! s z.0.4.0 (λ ws.
    rewrite ! 0 (λ (o : Option KernelContent). ‵ (cell_owns s.at o)) held.1 refl $ fpick ! (λ from.
    in_a_block ! s.at (λ p. box_owns (ghosts.dealloc_token from) the_row p held.0) (fst∗ 𝓤 (never 𝓤) (sem 𝓛 (ghosts.dealloc_token from (bare (lone the_row.mir)) null_ptr))) (λ b o e.
    let p = block_ptr b o in let made : Val = both (vptr b o) h.0 in let typed = raw_good the_row Z LZ ghosts b o h.0 h.2 in
    move ! (1 ∷ []) $ fsplit ! $ rewrite ! 0 (λ (us : List Val). ‵ (Z.own_val a us)) h.1 refl $ move ! (2 ∷ 0 ∷ []) $ raw_in the_row Z LZ ghosts ! b o h.0 a held.0 $
    suffices ! (Run (word p ∷ h.0 ∷ [])) (subst (λ (us : List Val). ent 𝓤 (Run (word p ∷ h.0 ∷ [])) (Run us)) (sym ((λ i. ws i ++ (h.1 i ++ [])) ∙ ap (λ (q : Ptr). word q ∷ h.0 ∷ []) e)) (id⊢ 𝓤 (Run (word p ∷ h.0 ∷ [])))) $
    enter ! 𝓣.C 𝓣.Λ code.function (word p ∷ h.0 ∷ []) Post $ alloc_all ! (λ l. pass_all ! refl ((tt, (tt, tt)), (h.2, tt)) $
    sets ! (of_opd ! (get_in ! (fld ! refl (stop !)) (sub ! 0 refl (whole !)))) refl (tt, tt) $
    sets ! (of_opd ! (get ! refl)) refl (tt, tt) $
    sets ! (agg ! (and_then ! (get ! refl) (and_then ! (get ! refl) (no_more !)))) refl typed $
    returns ! (look_at ! 0 refl) $ free_all ! refl $
    use0 𝓛 (raw (fact 𝓤 (s.held ≡ Some held.0))) (fact_i 𝓤 (s.held ≡ Some held.0) (emp 𝓤) held.1) $
    nothing ! $ nothing ! $ fjoin ! $ nothing ! $ fjoin ! $
    keep ! (4 ∷ 0 ∷ 2 ∷ 1 ∷ []) $ by ! (leaves 𝓛 f.ended hs c z made (record { at = p; alloc = a; value = held.0 }) (tt, (tt, tt)) (tt, (tt, tt)))))))))
