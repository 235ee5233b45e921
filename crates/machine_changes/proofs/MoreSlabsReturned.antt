-- Freeing some slabs and then further slabs is the same as freeing all of them at once.
use Rattle.std.proofs.Common.{◌≡◌, ℕ, Bool, true, false, cond, ◌||◌, Some, None, refl, sym, ap, ◌∙◌}
use Rattle.std.specs.Prelude.{Option}
use Rattle.std.proofs.lemmas.Bool.{false≢true, or_left, or_right, false_from_ne_true}
use Rattle.space_core.specs.Content as spaces
use Rattle.space_core.specs.Windows.{byte_at}
use Rattle.buddy_core.specs.Content as buddies
use Rattle.slab_tables.specs.declared.cache.Cache as own
use Rattle.slab_tables.specs.Content.{Content}
use Rattle.machine_changes.specs.Shows.{machine_frame_of, has_slab, is_inside, IsSlab}
use Rattle.machine_changes.specs.Steady.{IsSteady}
use Rattle.machine_changes.specs.Changes.{IsReturned}
use Rattle.machine_changes.proofs.SlabFacts.{one_first}
use Rattle.machine_changes.proofs.SlabsReturned.{machine_frame_same, has_now, slab_was, slab_stays}

either : {A : Type 0} (v w : Bool) (x : Option A) → cond w None (cond v None x) ≡ cond (v || w) None x
either true true x = refl
either true false x = refl
either false true x = refl
either false false x = refl

or_second : (v w : Bool) → (v || w) ≡ true → v ≡ false → w ≡ true
or_second true w e is = absurd (false≢true (sym is))
or_second false w e is = e

module _ (r r' r'' : spaces.Content) (b b' b'' : buddies.Content) (s s' s'' : Content) (t : ℕ) (gone gone' : ℕ → Bool)
    (st : IsSteady r b s t) (k : IsReturned r r' b b' s s' t gone) (k' : IsReturned r' r'' b' b'' s' s'' t gone') where
  under : (f n : ℕ) → machine_frame_of s.top r.slots t f ≡ Some n → machine_frame_of s'.top r'.slots t f ≡ Some n
  under f n e = machine_frame_same r r' b b' s s' t gone k st f ∙ e

  was : (c f n : ℕ) (cache : own.Cache) → IsSlab r' s' t c f n cache → IsSlab r s t c f n cache × (gone f ≡ false)
  was = slab_was r r' b b' s s' t gone k st

  begun_either : (f : ℕ) → (gone f || gone' f) ≡ true → has_slab s (machine_frame_of s.top r.slots t f) ≡ true
  begun_either f e = go (gone f) refl
    where
      go : (v : Bool) → gone f ≡ v → has_slab s (machine_frame_of s.top r.slots t f) ≡ true
      go true goes = k.begun f goes
      go false stays =
          sym (has_now r r' b b' s s' t gone k st f ∙ ap (λ v. cond v false (has_slab s (machine_frame_of s.top r.slots t f))) stays)
          ∙ k'.begun f (or_second (gone f) (gone' f) e stays)

  zeroed_first : (place c f n : ℕ) (cache : own.Cache) → IsSlab r s t c f n cache → gone f ≡ true → is_inside place f cache ≡ true
      → byte_at r'' t place ≡ Some 0
  zeroed_first place c f n cache q goes inside =
      k'.bytes place (λ c' f' n' cache' p _. false_from_ne_true (is_inside place f' cache') (λ inside'.
      let before = was c' f' n' cache' p in
      false≢true (sym before.1 ∙ ap gone (one_first r b s t st place c f n c' f' n' cache cache' q before.0 inside inside') ∙ goes)))
      ∙ k.zeroed place c f n cache q goes inside

  zeroed_either : (place c f n : ℕ) (cache : own.Cache) → IsSlab r s t c f n cache → (gone f || gone' f) ≡ true → is_inside place f cache ≡ true
      → byte_at r'' t place ≡ Some 0
  zeroed_either place c f n cache q e inside = go (gone f) refl
    where
      go : (v : Bool) → gone f ≡ v → byte_at r'' t place ≡ Some 0
      go true goes = zeroed_first place c f n cache q goes inside
      go false stays =
          k'.zeroed place c f n cache (slab_stays r r' b b' s s' t gone k st c f n cache q stays) (or_second (gone f) (gone' f) e stays) inside

  pub twice : IsReturned r r'' b b'' s s'' t (λ f. gone f || gone' f)
  twice = record {
    top = k'.top ∙ k.top;
    slots = λ u. k'.slots u ∙ k.slots u;
    caches = λ c. k'.caches c ∙ k.caches c;
    lists = λ f n e. k'.lists f n (under f n e) ∙ ap (cond (gone' f) None) (k.lists f n e) ∙ either (gone f) (gone' f) _;
    kept = λ f n e. k'.kept f n (under f n e) ∙ k.kept f n e;
    begun = begun_either;
    taken = λ f. k'.taken f ∙ ap (cond (gone' f) None) (k.taken f) ∙ either (gone f) (gone' f) _;
    zeroed = zeroed_either;
    bytes = λ place out.
        k'.bytes place (λ c f n cache p goes. out c f n cache (was c f n cache p).0 (or_right (gone f) (gone' f) goes))
        ∙ k.bytes place (λ c f n cache q goes. out c f n cache q (or_left (gone f) (gone' f) goes));
  }
