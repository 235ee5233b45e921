-- If a slab's number of live objects is updated after an object's bit is flipped, the parts agree again.
use Rattle.std.proofs.Common.{◌≡◌, ℕ, ◌≤◌, Bool, false, sym, subst, arith}
use Rattle.space_core.specs.Content as spaces
use Rattle.buddy_core.specs.Content as buddies
use Rattle.slab_tables.specs.Content.{Content, IsPlacedIn, kept_at, layout_numbers}
use Rattle.slab_tables.specs.Changes.{with_count}
use Rattle.machine_changes.specs.Changes.{Found}
use Rattle.slab_core.specs.Objects.{IsTurned, IsToCount, IsRecounted}
use Rattle.slab_core.proofs.ObjectMarked.{IsCountOf, some_live, count_below, is_placed, alone, counted}

module _ {r r' : spaces.Content} {b : buddies.Content} {s s' : Content} {t c : ℕ} {o : Found} {v : Bool} (k : IsToCount r r' b s s' t c o v) where
  -- the tables meet the preconditions of `set_count`
  pub some_now : v ≡ false → 1 ≤ (kept_at s'.kept o.machine_frame).live
  some_now dead = let x = some_live k.slabs k.agree k.slab k.index v k.was dead in let same = k.turned.live in omega arith

  pub placed_now : IsPlacedIn s' t c o.first o.machine_frame
  placed_now =
      let p = is_placed k.slabs k.agree k.slab k.index v k.was in
      subst (λ (x : Content). IsPlacedIn x t c o.first o.machine_frame) (sym k.turned.tables) (record { kind = p.kind; few = p.few; placed = p.placed })

  pub alone_now : (m : ℕ) → IsPlacedIn s' t c o.first m → m ≡ o.machine_frame
  alone_now m e =
      let p = subst (λ (x : Content). IsPlacedIn x t c o.first m) k.turned.tables e in
      alone k.slabs k.agree k.slab k.index v k.was m (record { kind = p.kind; few = p.few; placed = p.placed })

  -- the slab's number of live objects is updated to `count`
  module _ (count : ℕ) (is_now : IsCountOf v (kept_at s'.kept o.machine_frame).live count) where
    is_count : IsCountOf v (kept_at s.kept o.machine_frame).live count
    is_count = subst (λ x. IsCountOf v x count) k.turned.live is_now

    pub below_now : count ≤ (layout_numbers o.cache).count
    below_now = count_below k.slabs k.agree k.slab k.index v k.was count is_count

    abbrev space_now : spaces.Content
    space_now = record r { banks = r'.banks }

    abbrev tables : Content
    tables = record s { kept = s'.kept }

    turned : IsTurned r space_now s tables t o
    turned =
        subst (λ (x : spaces.Content). IsTurned r x s tables t o) k.turned.space
        (subst (λ (x : Content). IsTurned r r' s x t o) k.turned.tables k.turned)

    pub counted_now : IsRecounted r r' b s (with_count s' t c o.cache o.first o.machine_frame count) t c o v
    counted_now =
        subst (λ (x : spaces.Content). IsRecounted r x b s (with_count s' t c o.cache o.first o.machine_frame count) t c o v) (sym k.turned.space)
        (subst (λ (x : Content). IsRecounted r space_now b s (with_count x t c o.cache o.first o.machine_frame count) t c o v) (sym k.turned.tables)
        (counted k.slabs k.agree k.slab k.index v k.was k.laws r'.banks s'.kept count is_count turned))
