-- If the holder of a range is an object, the object begins at or before the range.
use Rattle.std.proofs.Common.{◌≡◌, ℕ, ◌+◌, ◌<◌, ◌≤◌, Bool, true, false, leb, List, [], ◌∷◌, length, get_or, drop, Option, Some, None, refl, sym, ap, ◌∙◌, arith}
use Rattle.std.specs.Prelude.{if◌then◌else◌, ◌&&◌, not, find, nat_lt}
use Rattle.std.specs.List.{list_any}
use Rattle.std.specs.Option.{option_map_or}
use Rattle.std.proofs.lemmas.Bool.{leb-true}
use Rattle.model_core.specs.Reach.{is_within, within_block}
use Rattle.promise_core.specs.Holdings.{Holdings, KnownCache}
use Rattle.promise_core.specs.Bytes.{Holder, Cells, may_be, may_all_be, known_fresh_byte, object_with, holder_of}

-- if a search finds an object that contains a range, the object begins at or before the range
found_begins : (place len size : ℕ) (live : List ℕ) (p : ℕ) → find (λ first. is_within place len first size) live ≡ Some p → p ≤ place
found_begins place len size [] p e = cc
found_begins place len size (q ∷ live) p e =
    go (leb q place) (leb (place + len) (q + size)) refl (found_begins place len size live p) e
  where
    go : (a b : Bool) → leb q place ≡ a → (find (λ first. is_within place len first size) live ≡ Some p → p ≤ place)
        → (if a && b then Some q else find (λ first. is_within place len first size) live) ≡ Some p → p ≤ place
    go true true le rest e = let s : q ≡ p = cc in let l = leb-true q place le in omega arith
    go true false le rest e = rest e
    go false b le rest e = rest e

object_with_begins : (place len number first : ℕ) (cs : List KnownCache) → object_with place len cs ≡ Some (Holder.Object number first) → first ≤ place
object_with_begins place len number first [] e = cc
object_with_begins place len number first (c ∷ cs) e =
    go (find (λ p. is_within place len p c.size) c.live) refl (object_with_begins place len number first cs) e
  where
    go : (o : Option ℕ) → find (λ p. is_within place len p c.size) c.live ≡ o
        → (object_with place len cs ≡ Some (Holder.Object number first) → first ≤ place)
        → option_map_or (λ p. Some (Holder.Object c.number p)) o (object_with place len cs) ≡ Some (Holder.Object number first) → first ≤ place
    go None is rest e = rest e
    go (Some p) is rest e = let s : p ≡ first = cc in let l = found_begins place len c.size c.live p is in omega arith

pub begins : (h : Holdings) (place len number first : ℕ) → holder_of h place len ≡ Some (Holder.Object number first) → first ≤ place
unfolding holder_of
begins h place len number first e = go (not (nat_lt 0 len)) (list_any (within_block place len) h.pages) e
  where
    go : (a b : Bool) → (if a then None else (if b then Some Holder.Page else object_with place len h.caches)) ≡ Some (Holder.Object number first) → first ≤ place
    go true b e = cc
    go false true e = cc
    go false false e = object_with_begins place len number first h.caches e
