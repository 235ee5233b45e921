-- Two steps of handwritten proofs: `cell_out` replaces a cell by what it owns, and `cell_in` makes a cell from what it owns.
-- Assumes `Logic`.
use Rattle.std.proofs.Common.{◌≡◌, List, [], ◌∷◌, ◌++◌, true, Option, Some, None, is_some, refl, subst}
use mathlib.Core.Bool.{◌&&◌}
use lib.Dec.{T, lit<}
use seplogic.Ra.Ura.{Ura}
use mir.Syntax.{ty_ptr}
use mir.Val.{Val, vstruct, vcons, vnil, of_list, has_ty_of, WT}
use types.Logic.{Logic}
use types.Kit.{Item, Goal, Seq, Step, step, ‵, ◌$◌, drop, fsplit, fjoin, fpick, fpack, feq_i, feq_l}
use denote.RattleType.{Valss}
use denote.Builtin.{RawPtr}
use denote.RawPtr.{Ptr, block_ptr, null_ptr, ptr_val}
use denote.Steps.{nothing}
use denote.Struct.Struct.{within}
use denote.Struct.Owning.{shape}
use Rattle.kernel_core.specs.Content.{KernelContent}
use Rattle.partmem_c.specs.KernelCells.{cell_owns}
use Rattle.partmem_c.specs.contracts.kernel_cell.KernelCell as cell

abbrev pub word : Ptr → Val
word p = vstruct (vcons (ptr_val p) vnil)

-- if a cell's `held` is not None, it is Some k for a kernel k
pub holds : (held : Option KernelContent) → is_some held ≡ true → (k : KernelContent) × (held ≡ Some k)
holds (Some k) some = (k, refl)
holds None some = cc

pub word_good : (p : Ptr) → T (has_ty_of ty_ptr (ptr_val p) && true) × (WT (ptr_val p) × Unit {0})
word_good (block_ptr b o) = (tt, (tt, tt))
word_good null_ptr = (tt, (record { fits = lit< tt }, tt))

module _ {M : Type 1} {𝓤 : Ura M} {𝓛 : Logic 𝓤} {K : Type 0} {Γ : List (Item 𝓤)} {G : Goal 𝓤 𝓛.H} where
  pub cell_out : K → (s : cell.the_row.Denot) (vs : List Val)
      → (vs ≡ word s.at ∷ [] → Seq K 𝓛 (‵ (cell_owns s.at s.held) ∷ Γ) G)
      → Seq K 𝓛 (‵ (cell.the_row.own_val s vs) ∷ Γ) G
  cell_out t s vs k = fsplit t $ fpick t (λ vss. fsplit t $ feq_l t (λ whole. fsplit t $ feq_l t (λ part. drop t $
      k (subst (λ (ps : List Val). vs ≡ vstruct (of_list (ps ++ [])) ∷ []) part whole))))

  pub cell_in : K → (p : Ptr) (held : Option KernelContent)
      → Step K 𝓛 (‵ (cell.the_row.own_val (record { at = p; held = held }) (word p ∷ [])) ∷ Γ) G (‵ (cell_owns p held) ∷ Γ) G
  cell_in t p held = step (λ s. nothing t $ feq_i t (List Val) (ptr_val p ∷ []) (ptr_val p ∷ []) refl $ fjoin t $
      feq_i t (List Val) (word p ∷ []) (word p ∷ []) refl $ fjoin t $
      fpack t (Valss (RawPtr ∷ [])) (within (shape cell.the_type) (p, tt) (word p ∷ [])) (ptr_val p ∷ [], tt) $ fjoin t $ s)
