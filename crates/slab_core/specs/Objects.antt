-- What the internal steps of a take or a give do.
use Rattle.std.specs.Prelude.{◌≡◌, ◌≢◌, ℕ, ◌+◌, ◌*◌, ◌/◌, ◌%◌, ◌^◌, ◌<◌, Bool, not, true, false, List, Some, length, slice_index, slice_set}
use Rattle.std.specs.Int.Bits.{bit_xor}
use Rattle.model_core.specs.declared.limits.TheConstants.{FRAME_BYTES, RECORD_BYTES, RECORD_OFFSET}
use Rattle.model_core.specs.Layouts.{is_small}
use Rattle.space_core.specs.Content as spaces
use Rattle.space_core.specs.Laws.{SpaceLaws, IsSameFor, SpareStays}
use Rattle.space_core.specs.Windows.{byte_at, window_of, with_window}
use Rattle.buddy_core.specs.Content as buddies
use Rattle.slab_tables.specs.declared.cache.Cache as own
use Rattle.slab_tables.specs.Content.{Content, IsSlabs, kept_at, layout_numbers}
use Rattle.machine_changes.specs.Records.{is_set}
use Rattle.machine_changes.specs.Shows.{is_live, IsSlab, Agree}
use Rattle.machine_changes.specs.Keeps.{Spares}
use Rattle.machine_changes.specs.Changes.{Found, found, IsMarked}
use Rattle.machine_changes.specs.Objects.{Standing}
use Rattle.slab_core.specs.declared.objects.Slab.{Slab}
use Rattle.slab_core.specs.declared.objects.Object.{Object}

-- the code's `Slab` and `Object`, as the laws' `Standing` and `Found`
abbrev pub standing : Slab → Standing
standing slab = record { first = slab.first; machine_frame = slab.machine_frame }

abbrev pub found_in : own.Cache → Object → Found
found_in cache o = found cache o.slab.first o.slab.machine_frame o.index

-- The bit of object o of tenant t is flipped: o is live if it was free, and free if it was live. No other bit of the slab's
-- record changes, and no byte of memory outside the record. The other slabs' stored states, and this slab's colour and stored
-- number of live objects, are unchanged.
pub record IsTurned (r r' : spaces.Content) (s s' : Content) (t : ℕ) (o : Found) : Type 0 where
  pub turned : is_live r' t o.cache (kept_at s'.kept o.machine_frame) o.first o.index
      ≡ not (is_live r t o.cache (kept_at s.kept o.machine_frame) o.first o.index)
  pub stay : (i : ℕ) → i < 256 → i ≢ o.index
      → is_live r' t o.cache (kept_at s'.kept o.machine_frame) o.first i
      ≡ is_live r t o.cache (kept_at s.kept o.machine_frame) o.first i
  pub space : r' ≡ record r { banks = r'.banks }
  pub others : (u : ℕ) → u ≢ t → IsSameFor u r r'
  pub spare : SpareStays r r'
  pub bytes : (place : ℕ) → ((k : ℕ) → k < RECORD_BYTES → place ≢ FRAME_BYTES * o.first + RECORD_OFFSET + k) → byte_at r' t place ≡ byte_at r t place
  pub large : is_small (layout_numbers o.cache).chunk ≢ true → (place : ℕ) → byte_at r' t place ≡ byte_at r t place
  pub tables : s' ≡ record s { kept = s'.kept }
  pub machine_frames : length s'.kept ≡ length s.kept
  pub kept : (n : ℕ) → n ≢ o.machine_frame → kept_at s'.kept n ≡ kept_at s.kept n
  pub colour : (kept_at s'.kept o.machine_frame).colour ≡ (kept_at s.kept o.machine_frame).colour
  pub live : (kept_at s'.kept o.machine_frame).live ≡ (kept_at s.kept o.machine_frame).live

-- The bit of object o of cache c of tenant t is flipped, but the stored number of live objects of its slab is not yet updated.
-- Before the flip, the parts (the memory, the buddy systems and the tables of the slabs) agreed. Object o was then free if `live`
-- is true, or live if `live` is false.
pub record IsToCount (r r' : spaces.Content) (b : buddies.Content) (s s' : Content) (t c : ℕ) (o : Found) (live : Bool) : Type 0 where
  pub tenant : t < length r.slots
  pub laws : SpaceLaws r
  pub slabs : IsSlabs s
  pub agree : Agree r b s
  pub slab : IsSlab r s t c o.first o.machine_frame o.cache
  pub index : o.index < (layout_numbers o.cache).count
  pub was : is_live r t o.cache (kept_at s.kept o.machine_frame) o.first o.index ≡ not live
  pub turned : IsTurned r r' s s' t o

-- Object o is marked live if `live` is true, or free if it is false. The number of live objects of its slab is updated, and the
-- parts agree again. All other tenants keep everything.
pub record IsRecounted (r r' : spaces.Content) (b : buddies.Content) (s s' : Content) (t c : ℕ) (o : Found) (live : Bool) : Type 0 where
  pub marked : IsMarked r r' s s' t c o live
  pub spares : Spares t r r' b b s s'
  pub agree : Agree r' b s'

-- some byte has a clear bit
pub record HasClear (bytes : List ℕ) : Type 0 where
  pub at : ℕ
  pub within : at < length bytes
  pub clear : slice_index bytes at ≢ 255

-- bit k was the first clear bit of the bytes, and only that bit has changed
pub record IsRaised (before after : List ℕ) (k : ℕ) : Type 0 where
  pub below : k < 8 * length before
  pub ones : (j : ℕ) → j < k → is_set (slice_index before (j / 8)) (j % 8) ≡ true
  pub clear : is_set (slice_index before (k / 8)) (k % 8) ≡ false
  pub turned : after ≡ slice_set before (k / 8) (bit_xor (slice_index before (k / 8)) (2 ^ (k % 8)))

-- the first clear bit of the control record that begins at `place` is set as in `IsRaised`; the rest of the memory is as before
pub record IsRecordRaised (r r' : spaces.Content) (t place k : ℕ) : Type 0 where
  pub before : List ℕ
  pub after : List ℕ
  pub read : window_of r t place 32 ≡ Some before
  pub raised : IsRaised before after k
  pub written : r' ≡ with_window r t place 32 after
