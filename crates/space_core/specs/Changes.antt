-- What a grant, a take-back and a move change.
use Rattle.std.specs.Prelude.{◌≡◌, ℕ, ◌<◌, true, false, List, Option, Some, None, IsSome, replicate, slice_set}
use Rattle.model_core.specs.Owners.{owned_by}
use Rattle.space_core.specs.Content.{Content, bank, slots_of, superblock_at}

-- u is the least slot number that tenant t does not hold
pub record IsLeastSlot (slots : List (List (Option ℕ))) (t u : ℕ) : Type 0 where
  pub vacant : superblock_at slots t u ≡ None
  pub below : (v : ℕ) → v < u → IsSome (superblock_at slots t v)

-- the slots, with the entry for slot u of tenant t replaced by x
abbrev pub with_entry : List (List (Option ℕ)) → ℕ → ℕ → Option ℕ → List (List (Option ℕ))
with_entry slots t u x = slice_set slots t (slice_set (slots_of slots t) u x)

-- superblock m is put into slot u of tenant t, and then reads as zero and has no mark
abbrev pub with_grant : Content → ℕ → ℕ → ℕ → Content
with_grant s t u m = record s {
  owners = slice_set s.owners m (Some (owned_by t u));
  slots = with_entry s.slots t u (Some m);
  banks = slice_set s.banks m (replicate s.unit 0);
  marks = slice_set s.marks m false;
}

-- superblock m, which is in slot u of tenant t, loses its owner: it keeps its bytes and gets a mark
abbrev pub with_take_back : Content → ℕ → ℕ → ℕ → Content
with_take_back s t u m = record s {
  owners = slice_set s.owners m None;
  slots = with_entry s.slots t u None;
  marks = slice_set s.marks m true;
}

-- Slot u of tenant t moves from superblock `from` to superblock `to`, which gets the same bytes and has no mark. Superblock
-- `from` loses its owner: it keeps its bytes and gets a mark.
abbrev pub with_move : Content → ℕ → ℕ → ℕ → ℕ → Content
with_move s t u from to = record s {
  owners = slice_set (slice_set s.owners from None) to (Some (owned_by t u));
  slots = with_entry s.slots t u (Some to);
  banks = slice_set s.banks to (bank s.banks from);
  marks = slice_set (slice_set s.marks from true) to false;
}
