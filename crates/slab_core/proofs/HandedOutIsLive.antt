-- An object that a take has allocated is live.
use Rattle.std.proofs.Common.{◌≡◌, ℕ, ◌<◌, true, false, get_or, sym, ap, ◌∙◌, arith}
use Rattle.std.proofs.lemmas.List.{get_or-set_same}
use Rattle.model_core.specs.Layouts.{object_place}
use Rattle.space_core.specs.Content as spaces
use Rattle.buddy_core.specs.Content as buddies
use Rattle.slab_tables.specs.Content.{Content, kept_at, layout_numbers}
use Rattle.machine_changes.specs.Shows.{is_live, live_of, IsSlab}
use Rattle.machine_changes.specs.Steady.{IsSteady}
use Rattle.machine_changes.specs.Changes.{Found, IsMarked}
use Rattle.machine_changes.specs.Objects.{IsLiveObject}
use Rattle.machine_changes.proofs.ObjectFlags.{length_flags, flag_at}
use Rattle.machine_changes.proofs.ObjectMarked.{slab_is}

pub marked_object : {r r' : spaces.Content} {b : buddies.Content} {s s' : Content} {t c place : ℕ} {o : Found} → IsMarked r r' s s' t c o true → IsSteady r b s t
    → IsSlab r s t c o.first o.machine_frame o.cache → o.index < (layout_numbers o.cache).count
    → object_place (layout_numbers o.cache) o.first (kept_at s.kept o.machine_frame).colour o.index ≡ place → IsLiveObject r' s' t c place o
marked_object {r = r} {r' = r'} {b = b} {s = s} {s' = s'} {t = t} {c = c} {o = o} marked st slab below is =
    let count = (layout_numbers o.cache).count in
    let before = live_of r t o.cache (kept_at s.kept o.machine_frame) o.first in
    let long = length_flags 0 count (is_live r t o.cache (kept_at s.kept o.machine_frame) o.first) in
    record {
      slab = slab_is r r' b s s' t c o true marked st slab c o.first o.machine_frame o.cache slab;
      index = below;
      live = sym (flag_at count o.index (is_live r' t o.cache (kept_at s'.kept o.machine_frame) o.first) false below)
          ∙ (ap (λ flags. get_or flags o.index false) marked.live ∙ get_or-set_same before o.index true false (omega (arith, long, below)));
      begins = ap (λ colour. object_place (layout_numbers o.cache) o.first colour o.index) marked.colour ∙ is;
    }
