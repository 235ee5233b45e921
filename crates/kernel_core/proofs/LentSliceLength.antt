-- A borrowed slice is lent again. When the new borrow ends, its list is cut or extended to the length of the slice. Assumes
-- `Logic`.
use mathlib.Core.Path.{◌≡◌, refl, sym, ap, ◌∙◌}
use Prim.Native.Nat.{ℕ}
use mathlib.Core.List.{List, [], ◌∷◌}
use lib.ListN.{length}
use seplogic.Ra.Ura.{Ura}
use mir.Syntax.{Lifetime}
use mir.Val.{Val}
use base.Logic.{SProp, ent, sep, ex, emp, guard}
use base.Stored.{coded_list}
use base.Fml.{Lft, GName, Share, flft, fobs, fbor}
use types.Logic.{Logic, sem}
use types.Kit.{Item, ‵, ◌⊛◌, raw, given, check, ◌$◌, ◌∵◌, !, qed, move, keep, fsplit, fsplit3, fjoin, updating, await, later, some, use1, use2, group, pick, now, show, done, split3, rewrite, feq_l, feq_i}
use types.SemTy.{cells, Arr, Body}
use types.Follow.{takes_part}
use types.Mut.{open_ref}
use denote.Memory.{mem}
use denote.Ref.{MutBor}
use denote.Array.{Array}
use denote.Builtin.{u8}
use denote.Slice.{MutSlice, Room, room, slice_val}
use denote.Shadow.{pure_l}
use denote.Steps.{nothing}
use denote.Follow.{follows}
use denote.FollowSlice.{heres_id, slice_of}
use Rattle.std.proofs.Common.{◌++◌, take, arith}
use Rattle.std.proofs.Math.ListN.{drop_of_length-le}
use Rattle.std.proofs.lemmas.List.{append-nil, take_all}
use Rattle.kernel_core.specs.Lending.{fit}

-- if ws has the length of xs, `fit xs ws` is ws
pub fit-same : (xs ws : List ℕ) → length ws ≡ length xs → fit xs ws ≡ ws
fit-same xs ws e =
    ap (λ (rest : List ℕ). take (length xs) (ws ++ rest)) (drop_of_length-le xs (omega (arith, e)))
    ∙ (ap (take (length xs)) (append-nil ws) ∙ take_all (length xs) ws (omega (arith, e)))

module _ {M : Type 1} {𝓤 : Ura M} (𝓛 : Logic 𝓤) (ℓ : Lifetime) (κ : Lft) (q : Share) (b o : ℕ) (γ : GName) (xs : List ℕ) where
  open 𝓛 use {H, A}

  abbrev lent : GName → MutBor (List ℕ)
  lent δ = record { ref_ptr = (b, o); ghost_name = δ; now = xs }

  put_back : (ws : List ℕ)
      → ent 𝓤 (sep 𝓤 (sem 𝓛 ((Arr (mem u8) (length xs)).own_at ws b o)) (emp 𝓤)) (sem 𝓛 ((Arr (mem u8) (length xs)).own_at (fit xs ws) b o))
  put_back ws = qed 𝓛 (‵ ((Arr (mem u8) (length xs)).own_at ws b o) ∷ raw (emp 𝓤) ∷ []) ∵ fsplit ! $ feq_l ! (λ e.
      rewrite ! 0 (λ (l : List ℕ). ‵ (cells (mem u8) l b o)) (sym (fit-same xs ws e)) refl $
      feq_i ! ℕ (length (fit xs ws)) (length xs) (ap length (fit-same xs ws e) ∙ e) $ fjoin ! $ keep ! (0 ∷ []) $ done !)

  -- The slice with the length of xs, under a new ghost name δ. The old name γ follows δ: γ's value will be `fit xs` of δ's last
  -- value.
  abbrev pub fitted_lent : List Val → GName → Item 𝓤
  fitted_lent vs δ = given (vs ≡ slice_val (b, o) (length xs) ∷ []) (given (Room u8 (length xs))
      (‵ ((MutSlice ℓ κ u8).own_val (lent δ) (slice_val (b, o) (length xs) ∷ [])) ⊛ ‵ (flft κ q) ⊛ ‵ (follows (Array u8 0) (Array u8 0) γ δ (fit xs))))

  abbrev pub FittedLent : List Val → GName → SProp 𝓤
  FittedLent vs δ = guard 𝓤 (vs ≡ slice_val (b, o) (length xs) ∷ []) (guard 𝓤 (Room u8 (length xs))
      (sep 𝓤 (sem 𝓛 ((MutSlice ℓ κ u8).own_val (lent δ) (slice_val (b, o) (length xs) ∷ []))) (sep 𝓤 (A.lft κ q) (sem 𝓛 (follows (Array u8 0) (Array u8 0) γ δ (fit xs))))))

  pub lends_fitted : (vs : List Val) → ent 𝓤 (sep 𝓤 (sem 𝓛 ((MutSlice ℓ κ u8).own_val (lent γ) vs)) (A.lft κ q)) (H.⇛ (ex 𝓤 (FittedLent vs)))
  lends_fitted vs = qed 𝓛 (‵ ((MutSlice ℓ κ u8).own_val (lent γ) vs) ∷ ‵ (flft κ q) ∷ []) ∵ updating ! $ fsplit3 ! $ fsplit ! $ feq_l ! (λ e. pure_l ! (room u8 (length xs)) (λ rm.
      rewrite ! 0 (λ (l : List ℕ). ‵ (fobs γ ((coded_list u8.coded).code l))) (heres_id u8 xs) refl $ open_ref ! tt (Arr (mem u8) (length xs)) {b = b} {o = o} $
      nothing ! $ move ! (2 ∷ 3 ∷ 4 ∷ 1 ∷ 0 ∷ []) $ group ! 5 $
      use1 𝓛 (later (some (λ (δ : GName). ‵ (fobs δ ((coded_list u8.coded).code xs)) ⊛ ‵ (fbor κ (Body (Arr (mem u8) (length xs)) b o δ)) ⊛ ‵ (flft κ q) ⊛ ‵ (follows (Array u8 0) (Array u8 0) γ δ (fit xs)))))
      (takes_part 𝓛 (Arr (mem u8) (length xs)) (Arr (mem u8) (length xs)) (fit xs) κ q b o b o γ (emp 𝓤) put_back ((coded_list u8.coded).code xs) ((coded_list u8.coded).code xs) xs) $ await ! tt $ pick ! (λ δ. split3 ! $
      use2 𝓛 (‵ ((MutSlice ℓ κ u8).own_val (lent δ) (slice_val (b, o) (length xs) ∷ []))) (slice_of 𝓛 u8 ℓ κ b o δ xs rm) $ now ! $ show ! (FittedLent vs) δ $ check ! e $ check ! rm $ done !)))
