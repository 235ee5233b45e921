-- After an allowed answer to a tenant's command, the judge stores the state that the definitions give.
use Rattle.std.proofs.Common.{◌≡◌, ℕ, ◌<◌, ◌≤◌, Bool, true, false, not, List, [], ◌∷◌, length, Option, Some, None, Ok, refl, ap, sym, subst, ◌∙◌, arith}
use Rattle.std.specs.Prelude.{◌==◌, ◌&&◌, ◌||◌, filter, nat_lt, slice_index_or}
use Rattle.std.proofs.lemmas.Bool.{ltb-true, ltb-false, eqb-true}
use Rattle.std.proofs.lemmas.List.{get_or_past}
use Rattle.arrayvec.specs.ArrayVec.{ArrayVec}
use Rattle.model_core.specs.Elements.{IsIn}
use Rattle.model_core.proofs.Lists.{find_in}
use Rattle.model_core.specs.Blocks.{Block, block}
use Rattle.model_core.specs.Machine.{in_block, put_rising}
use Rattle.model_core.specs.declared.limits.TheConstants.{MAX_CACHES}
use Rattle.words_core.specs.declared.event.Event.TheVariants as On
use Rattle.words_core.specs.declared.event.Command.TheVariants as Command
use Rattle.words_core.specs.declared.report.Report.{Report}
use Rattle.words_core.specs.declared.reply.Body.TheVariants as Say
use Rattle.promise_core.specs.Bytes.{Holder, is_same, is_object, with_bytes, doubted, without, holder_of}
use Rattle.promise_core.specs.Holdings.{KnownCache, Holdings, known_cache, with_live_places}
use Rattle.promise_core.specs.State.{Known, is_in_use, with_range, with_object, is_in_no_slab, state_after}
use Rattle.shadow_memory.specs.Left.{Left, left_slots, left_at, Becomes}
use Rattle.reply_judge.specs.Seen.{Seen, state_of, AreNumbered}
use Rattle.reply_judge.specs.Judged.{tenant_verdict, IsFollowed}

-- a machine about which nothing is known
pub nothing : Known
nothing = record { limit = 0; order = 0; owners = []; states = [] }

-- the stored state with these holdings and these left bytes, and without a valid report
abbrev pub changed : Seen → Holdings → Left → Seen
changed old h l = record old { has = h; left = l; last_report = None }

pub allocated : (t k f : ℕ) (w : Known) (b : Block) (old : Seen) (h : Holdings) (l : Left) → b ≡ block f k
    → tenant_verdict (On.Tenant t (Command.Alloc k)) (Say.Frame f) w old ≡ Ok tt
    → h ≡ record old.has { pages = put_rising (λ x. x.first) b old.has.pages }
    → Becomes old.left (left_slots old.left) (without (λ place holder. in_block place b && not (is_same Holder.Page holder))) l
    → IsFollowed (On.Tenant t (Command.Alloc k)) (Say.Frame f) w old (changed old h l)
unfolding state_after
allocated t k f w b old h l is kept has left = record {
  kept = kept;
  order = left.order;
  state = (λ i. Some (record {
    has = record old.has { pages = put_rising (λ x. x.first) (sym is i) old.has.pages };
    cells = without (λ place holder. in_block place (sym is i) && not (is_same Holder.Page holder)) (left_at old.left);
    may_have_empty = λ n. slice_index_or old.may_have_empty n false;
    last_report = None;
  })) ∙ (λ i. Some (record { has = sym has i; cells = sym left.cells i; may_have_empty = λ n. slice_index_or old.may_have_empty n false; last_report = None }));
}

pub freed : (t f k : ℕ) (w : Known) (b : Block) (old : Seen) (h : Holdings) (l : Left) → b ≡ block f k
    → tenant_verdict (On.Tenant t (Command.Free f)) (Say.Freed k) w old ≡ Ok tt
    → h ≡ record old.has { pages = filter (λ x. not (x.first == f)) old.has.pages }
    → Becomes old.left (left_slots old.left) (doubted (λ place holder. in_block place b && is_same Holder.Page holder)) l
    → IsFollowed (On.Tenant t (Command.Free f)) (Say.Freed k) w old (changed old h l)
unfolding state_after
freed t f k w b old h l is kept has left = record {
  kept = kept;
  order = left.order;
  state = (λ i. Some (record {
    has = record old.has { pages = filter (λ x. not (x.first == f)) old.has.pages };
    cells = doubted (λ place holder. in_block place (sym is i) && is_same Holder.Page holder) (left_at old.left);
    may_have_empty = λ n. slice_index_or old.may_have_empty n false;
    last_report = None;
  })) ∙ (λ i. Some (record { has = sym has i; cells = sym left.cells i; may_have_empty = λ n. slice_index_or old.may_have_empty n false; last_report = None }));
}

module _ (t place len : ℕ) (bytes : ArrayVec ℕ) (w : Known) (old : Seen) (l : Left) (holder : Holder) (is : holder_of old.has place len ≡ Some holder)
    (left : Becomes old.left (left_slots old.left) (with_bytes holder place bytes.items) l) where
  pub read : tenant_verdict (On.Tenant t (Command.Read place len)) (Say.Bytes bytes) w old ≡ Ok tt
      → IsFollowed (On.Tenant t (Command.Read place len)) (Say.Bytes bytes) w old (record old { left = l })
  unfolding state_after
  read kept = record {
    kept = kept;
    order = left.order;
    state = (λ i. Some (with_range place bytes.items (state_of old) (is i))) ∙ (λ i. Some (record (state_of old) { cells = sym left.cells i }));
  }

  pub written : tenant_verdict (On.Tenant t (Command.Write place bytes)) (Say.Written len) w old ≡ Ok tt
      → IsFollowed (On.Tenant t (Command.Write place bytes)) (Say.Written len) w old (record old { left = l })
  unfolding state_after
  written kept = record {
    kept = kept;
    order = left.order;
    state = (λ i. Some (with_range place bytes.items (state_of old) (is i))) ∙ (λ i. Some (record (state_of old) { cells = sym left.cells i }));
  }

pub made : (t size align : ℕ) (pattern : ArrayVec ℕ) (number chunk q n colours : ℕ) (w : Known) (c : KnownCache) (old : Seen) (h : Holdings)
    → c ≡ record { number = number; size = size; align = align; pattern = pattern.items; chunk = chunk; order = q; count = n; live = [] }
    → tenant_verdict (On.Tenant t (Command.Cache size align pattern)) (Say.Cache number chunk q n colours) w old ≡ Ok tt
    → h ≡ record old.has { caches = put_rising (λ x. x.number) c old.has.caches }
    → IsFollowed (On.Tenant t (Command.Cache size align pattern)) (Say.Cache number chunk q n colours) w old (changed old h old.left)
unfolding state_after
made t size align pattern number chunk q n colours w c old h is kept has = record {
  kept = kept;
  order = refl;
  state = λ i. Some (record {
    has = sym (has ∙ ap (λ (y : KnownCache). record old.has { caches = put_rising (λ x. x.number) y old.has.caches }) is) i;
    cells = left_at old.left;
    may_have_empty = λ n. slice_index_or old.may_have_empty n false;
    last_report = None;
  });
}

pub destroyed : (t number frames : ℕ) (w : Known) (old : Seen) (h : Holdings) (l : Left) (marks : List Bool)
    → tenant_verdict (On.Tenant t (Command.Destroy number)) (Say.Destroyed frames) w old ≡ Ok tt
    → h ≡ record old.has { caches = filter (λ c. not (c.number == number)) old.has.caches }
    → Becomes old.left (left_slots old.left) (without (λ place. is_object (λ n p. n == number))) l
    → ((n : ℕ) → slice_index_or marks n false ≡ (not (n == number) && slice_index_or old.may_have_empty n false))
    → IsFollowed (On.Tenant t (Command.Destroy number)) (Say.Destroyed frames) w old (record { has = h; left = l; may_have_empty = marks; last_report = None })
unfolding state_after
destroyed t number frames w old h l marks kept has left may_have_empty = record {
  kept = kept;
  order = left.order;
  state = λ i. Some (record { has = sym has i; cells = sym left.cells i; may_have_empty = λ n. sym (may_have_empty n) i; last_report = None });
}

pub taken : (t number place : ℕ) (w : Known) (c : KnownCache) (old : Seen) (h : Holdings) (l : Left) (marks : List Bool) → known_cache old.has number ≡ Some c
    → tenant_verdict (On.Tenant t (Command.Take number)) (Say.Object place) w old ≡ Ok tt
    → h ≡ with_live_places number (put_rising (λ p. p) place) old.has
    → Becomes old.left (left_slots old.left) (with_object place (Some c)) l
    → ((n : ℕ) → slice_index_or marks n false ≡ (n == number || slice_index_or old.may_have_empty n false))
    → IsFollowed (On.Tenant t (Command.Take number)) (Say.Object place) w old (record { has = h; left = l; may_have_empty = marks; last_report = None })
unfolding state_after
taken t number place w c old h l marks is kept has left may_have_empty = record {
  kept = kept;
  order = left.order;
  state = λ i. Some (record {
    has = sym has i;
    cells = (ap (λ o. with_object place o (left_at old.left)) is ∙ sym left.cells) i;
    may_have_empty = λ n. sym (may_have_empty n) i;
    last_report = None;
  });
}

pub given : (t number place : ℕ) (w : Known) (old : Seen) (h : Holdings) (l : Left)
    → tenant_verdict (On.Tenant t (Command.Give number place)) Say.Given w old ≡ Ok tt
    → h ≡ with_live_places number (filter (λ p. not (p == place))) old.has
    → Becomes old.left (left_slots old.left) (doubted (λ p. is_same (Holder.Object number place))) l
    → IsFollowed (On.Tenant t (Command.Give number place)) Say.Given w old (changed old h l)
unfolding state_after
given t number place w old h l kept has left = record {
  kept = kept;
  order = left.order;
  state = λ i. Some (record { has = sym has i; cells = sym left.cells i; may_have_empty = λ n. slice_index_or old.may_have_empty n false; last_report = None });
}

-- no cache with a number of `MAX_CACHES` or above is in use
in_use_below : (h : Holdings) (n : ℕ) → AreNumbered h → (nat_lt n MAX_CACHES && is_in_use (known_cache h n)) ≡ is_in_use (known_cache h n)
in_use_below h n low = go (nat_lt n MAX_CACHES) refl (known_cache h n) refl
  where
    go : (b : Bool) → nat_lt n MAX_CACHES ≡ b → (o : Option KnownCache) → known_cache h n ≡ o → (b && is_in_use o) ≡ is_in_use o
    go true lt o e = refl
    go false ge None e = refl
    go false ge (Some c) e =
        let at : IsIn c h.caches × ((c.number == n) ≡ true) = find_in (λ y. y.number == n) c h.caches e in
        let is : c.number ≡ n = eqb-true c.number n at.1 in
        let lt = low c at.0 in
        let beyond : MAX_CACHES ≤ n = ltb-false n MAX_CACHES ge in
        absurd (omega (arith, is, lt, beyond))

pub reaped : (t frames : ℕ) (w : Known) (old : Seen) (l : Left) (marks : List Bool) → AreNumbered old.has
    → tenant_verdict (On.Tenant t Command.Reap) (Say.Reaped frames) w old ≡ Ok tt
    → Becomes old.left (left_slots old.left) (without (λ place. is_object (is_in_no_slab old.has))) l
    → ((n : ℕ) → slice_index_or marks n false ≡ (nat_lt n MAX_CACHES && is_in_use (known_cache old.has n)))
    → IsFollowed (On.Tenant t Command.Reap) (Say.Reaped frames) w old (record { has = old.has; left = l; may_have_empty = marks; last_report = None })
unfolding state_after
reaped t frames w old l marks low kept left may_have_empty = record {
  kept = kept;
  order = left.order;
  state = λ i. Some (record {
    has = old.has;
    cells = sym left.cells i;
    may_have_empty = λ n. sym (may_have_empty n ∙ in_use_below old.has n low) i;
    last_report = None;
  });
}

pub reported : (t : ℕ) (r : Report) (w : Known) (old : Seen) → tenant_verdict (On.Tenant t Command.Report) (Say.Report r) w old ≡ Ok tt
    → IsFollowed (On.Tenant t Command.Report) (Say.Report r) w old (record old { last_report = Some r })
unfolding state_after
reported t r w old kept = record { kept = kept; order = refl; state = refl }

pub number_low : (h : Holdings) (number : ℕ) (c : KnownCache) → AreNumbered h → known_cache h number ≡ Some c → number < MAX_CACHES
number_low h number c low e =
    let at : IsIn c h.caches × ((c.number == number) ≡ true) = find_in (λ y. y.number == number) c h.caches e in
    subst (λ n. n < MAX_CACHES) (eqb-true c.number number at.1) (low c at.0)

pub all_marked : (h : Holdings) (marks : List Bool) → length marks ≡ 32 → ((k : ℕ) → k < 32 → slice_index_or marks k false ≡ is_in_use (known_cache h k))
    → (n : ℕ) → slice_index_or marks n false ≡ (nat_lt n MAX_CACHES && is_in_use (known_cache h n))
all_marked h marks len set n = go (nat_lt n MAX_CACHES) refl
  where
    go : (b : Bool) → nat_lt n MAX_CACHES ≡ b → slice_index_or marks n false ≡ (b && is_in_use (known_cache h n))
    go true lt = set n (ltb-true n MAX_CACHES lt)
    go false ge = let beyond : MAX_CACHES ≤ n = ltb-false n MAX_CACHES ge in get_or_past marks n false (omega (arith, len, beyond))

pub all_pass : {A : Type 0} (xs : List A) → filter (λ x. true) xs ≡ xs
all_pass [] = refl
all_pass (x ∷ xs) = ap (λ ys. x ∷ ys) (all_pass xs)
