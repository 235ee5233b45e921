-- Facts about a tenant in a kernel, and what a call does to the marks, the other tenants and the tenant's machine.
use Rattle.std.proofs.Common.{◌≡◌, ℕ, ◌^◌, ◌≤◌, false, refl, arith, ◌<◌, Bool, Option, Some, None, length, slice_set, sym, ap, ◌∙◌, ⊎_elim, subst, ◌⊎◌, inl, inr, [], slice_index_or}
use Rattle.std.proofs.lemmas.Bool.{cases_eq, cases_lt}
use Rattle.std.proofs.Math.Pow.{pow-lt}
use Rattle.model_core.specs.declared.limits.TheConstants.{WIDE_ORDER}
use Rattle.model_core.specs.declared.owner.Owner.{Owner}
use Rattle.std.proofs.lemmas.List.{get_or-set_same, get_or-set_other, length-set, get_or_past}
use Rattle.kernel_core.specs.Content.{mark_after, MarksFollow, KernelContent, Keeps, content_of, PartsAgree, SameSizes}
use Rattle.model_core.specs.Machine.{Machine}
use Rattle.model_core.specs.Operations.{Step}
use Rattle.space_core.specs.Content as spaces
use Rattle.buddy_core.specs.Content as buddies
use Rattle.slab_tables.specs.Content as tables
use Rattle.machine_changes.specs.Keeps.{Spares}
use Rattle.kernel_core.specs.Shows.{ShowsMachine}
use Rattle.kernel_core.specs.Does.{Does}
use Rattle.machine_changes.proofs.Lookups.{some_none}
use Rattle.machine_changes.specs.Shows.{Agree}
use Rattle.machine_changes.specs.Steady.{IsSteady}
use Rattle.machine_changes.proofs.SteadyParts.{agree_steady}
use Rattle.machine_changes.proofs.PageHoldings.{same_space}
use Rattle.machine_changes.specs.Slots.{HoldTogether}

-- Marks

mark_kept : (o : Option Owner) (was : Bool) → mark_after o o was ≡ was
mark_kept None was = refl
mark_kept (Some o) was = refl

-- if neither the owners nor the marks change, `MarksFollow` holds
pub marks_kept : (old new : spaces.Content) → new.owners ≡ old.owners → new.marks ≡ old.marks → MarksFollow old new
marks_kept old new owners marks m =
    ap (λ bs. spaces.mark_at bs m) marks
    ∙ sym (ap (λ os. mark_after (spaces.owner_at old.owners m) (spaces.owner_at os m) (spaces.mark_at old.marks m)) owners
    ∙ mark_kept (spaces.owner_at old.owners m) (spaces.mark_at old.marks m))

-- `MarksFollow` stays true when superblock m gets owner o, if m also gets the mark that `mark_after` gives. The arguments of
-- `mark_after` are the owner of m before the call, o, and the mark of m before the call.
pub marks_replaced : (old now : spaces.Content) (m : ℕ) (o : Option Owner) (is : Bool) → MarksFollow old now → m < length now.owners → m < length now.marks
    → mark_after (spaces.owner_at old.owners m) o (spaces.mark_at old.marks m) ≡ is
    → MarksFollow old (record now { owners = slice_set now.owners m o; marks = slice_set now.marks m is })
marks_replaced old now m o is follows owner mark told n = ⊎_elim
    (λ same.
    ap (λ i. spaces.mark_at (slice_set now.marks m is) i) same
    ∙ get_or-set_same now.marks m is false mark
    ∙ sym told
    ∙ ap (λ x. mark_after (spaces.owner_at old.owners m) x (spaces.mark_at old.marks m)) (sym (get_or-set_same now.owners m o None owner))
    ∙ ap (λ i. mark_after (spaces.owner_at old.owners i) (spaces.owner_at (slice_set now.owners m o) i) (spaces.mark_at old.marks i)) (sym same))
    (λ other.
    get_or-set_other now.marks m n is false other
    ∙ follows n
    ∙ ap (λ x. mark_after (spaces.owner_at old.owners n) x (spaces.mark_at old.marks n)) (sym (get_or-set_other now.owners m n o None other)))
    (cases_eq n m)

-- Calls

-- a call for tenant t does the step if it changes nothing that other tenants have, returns the step's answer, and makes the parts
-- show the machine that the step makes
pub does_called : {A : Type 0} (r r' : spaces.Content) (b b' : buddies.Content) (s s' : tables.Content) (t : ℕ) → Spares t r r' b b' s s'
    → (step : Machine → Step A) (told : A)
    → ((m : Machine) → ShowsMachine (content_of r b s) t m → told ≡ (step m).answer)
    → ((m : Machine) → ShowsMachine (content_of r b s) t m → ShowsMachine (content_of r' b' s') t (step m).machine)
    → Does (content_of r b s) t step r.owners (content_of r' b' s') told
does_called r r' b b' s s' t spares step told answer shows =
    let owners : r'.owners ≡ r.owners = ap (λ (x : spaces.Content). x.owners) spares.space in
    record {
      sizes = record {
        order = ap (λ (x : buddies.Content). x.top) spares.buddy;
        superblocks = ap (λ (x : buddies.Content). x.superblocks) spares.buddy;
        tenants = ap (λ (x : buddies.Content). length x.tenants) spares.buddy ∙ length-set b.tenants t (buddies.holding_of t b');
      };
      shows = shows;
      answer = answer;
      others = spares.others;
      owners = owners;
      marks = marks_kept r r' owners (ap (λ (x : spaces.Content). x.marks) spares.space);
      spare = spares.spare;
    }

-- if a call changes none of the parts, it does not change the kernel's content
pub same_of : (r r' : spaces.Content) (b b' : buddies.Content) (s s' : tables.Content) → (r' ≡ r) × ((b' ≡ b) × (s' ≡ s)) → content_of r' b' s' ≡ content_of r b s
same_of r r' b b' s s' same = λ i. content_of (same.0 i) (same.1.0 i) (same.1.1 i)

-- if the kernel does not change, each tenant keeps everything
pub keeps_all : (k : KernelContent) (t : ℕ) → Keeps k k t
keeps_all k t = record {
  space = same_space t k.space;
  buddy = refl;
  slabs = record { top = refl; caches = λ c. refl; lists = λ f n under. refl; kept = λ f n under. refl };
}

-- if the step changes no machine that the parts show, a call that changes nothing and returns the step's answer does the step
pub does_nothing : {A : Type 0} (k : KernelContent) (t : ℕ) (step : Machine → Step A) (told : A)
    → ((m : Machine) → ShowsMachine k t m → step m ≡ record { answer = told; machine = m })
    → Does k t step k.space.owners k told
does_nothing {A} k t step told same = record {
  sizes = record { order = refl; superblocks = refl; tenants = refl };
  shows = λ m shown. subst (λ (x : Step A). ShowsMachine k t x.machine) (sym (same m shown)) shown;
  answer = λ m shown. sym (ap (λ (x : Step A). x.answer) (same m shown));
  others = λ u _. keeps_all k u;
  owners = refl;
  marks = marks_kept k.space k.space refl refl;
  spare = λ _ _. refl;
}

-- Facts about the parts of a kernel

-- each tenant has a row in the memory's table of slots
pub has_row : (r : spaces.Content) (b : buddies.Content) (s : tables.Content) (t : ℕ) → Agree r b s → t < length b.tenants → t < length r.slots
has_row r b s t agree known = omega (arith, agree.rows)

-- a tenant that does not exist holds no slot
pub no_row : (r : spaces.Content) (b : buddies.Content) (s : tables.Content) (t u : ℕ) → Agree r b s → length b.tenants ≤ t → spaces.superblock_at r.slots t u ≡ None
no_row r b s t u agree past = ap (λ row. slice_index_or row u None) (get_or_past r.slots t [] (omega (arith, agree.rows)))

order_few : (top : ℕ) → 2 ^ top ≤ 2 ^ WIDE_ORDER → top ≤ WIDE_ORDER
order_few top fits = elim (cases_lt WIDE_ORDER top) [ inl more ↦ absurd (let larger = pow-lt more in omega (arith, larger)) | inr few ↦ few ]

-- if `HoldTogether` is true of the parts of a kernel, the parts agree
pub parts_agree : (r : spaces.Content) (b : buddies.Content) (s : tables.Content) → HoldTogether r b s → PartsAgree (content_of r b s)
parts_agree r b s holds = record {
  space = holds.space.facts;
  order = order_few b.top (omega (arith, holds.space.facts.small, holds.agree.unit, ap (λ n. 2 ^ n) holds.agree.order));
  few = omega (arith, holds.space.facts.few, holds.agree.superblocks);
  tenants = omega (arith, holds.space.facts.tenants, holds.agree.rows);
  top = refl;
  sheets = refl;
  holdings = refl;
  agree = holds.agree;
}

-- if the parts hold together, `IsSteady`, which the laws require, holds for each tenant
pub steady : (r : spaces.Content) (b : buddies.Content) (s : tables.Content) (t : ℕ) → HoldTogether r b s → t < length b.tenants → IsSteady r b s t
steady r b s t holds known =
    (agree_steady r b s t holds.slabs holds.agree (has_row r b s t holds.agree known) holds.space.apart holds.buddy.sizes
    (λ u less. holds.buddy.sound u less)).0

-- if content k is made of the parts r, b and s, and the parts of k hold together, then r, b and s hold together
pub opened : (r : spaces.Content) (b : buddies.Content) (s : tables.Content) (k : KernelContent) → content_of r b s ≡ k → HoldTogether k.space k.buddy k.slabs → HoldTogether r b s
opened r b s k is holds = subst (λ (x : KernelContent). HoldTogether x.space x.buddy x.slabs) (sym is) holds

pub known : (r : spaces.Content) (b : buddies.Content) (s : tables.Content) (k : KernelContent) (t : ℕ) → content_of r b s ≡ k → t < k.tenants → t < length b.tenants
known r b s k t is less = subst (λ (x : KernelContent). t < x.tenants) (sym is) less

-- the sizes stay the same if the holding of one tenant is replaced and nothing else in the buddy systems changes
pub same_sizes : (r r' : spaces.Content) (b : buddies.Content) (s s' : tables.Content) (t : ℕ) (h : buddies.Holding)
    → SameSizes (content_of r b s) (content_of r' (buddies.with_holding t h b) s')
same_sizes r r' b s s' t h = record { order = refl; superblocks = refl; tenants = length-set b.tenants t h }

-- if superblock m is in a slot, m is less than the number of superblocks
pub superblock_there : (r : spaces.Content) → spaces.IsSpace r → (t u m : ℕ) → spaces.superblock_at r.slots t u ≡ Some m → m < length r.owners
superblock_there r facts t u m at = go (cases_lt m (length r.owners))
  where
    go : (m < length r.owners) ⊎ (length r.owners ≤ m) → m < length r.owners
    go (inl less) = less
    go (inr past) = absurd (some_none (sym ((facts.agree t u m).0 at) ∙ get_or_past r.owners m None past))

-- if the parts of k agree, the content with memory r and the other parts of k differs from k only in the memory
pub with_space : (k : KernelContent) (r : spaces.Content) → PartsAgree k → content_of r k.buddy k.slabs ≡ record k { space = r }
with_space k r agree = λ i. record {
  order = agree.top i;
  superblocks = agree.sheets i;
  tenants = agree.holdings i;
  space = r;
  buddy = k.buddy;
  slabs = k.slabs;
}
