-- The live page blocks, in ascending order of their first frames.
use Rattle.std.proofs.Common.{◌≡◌, ℕ, ◌+◌, ◌-◌, ◌*◌, ◌/◌, ◌^◌, ◌<◌, ◌≤◌, Bool, true, leb, ltb, List, get_or, take, drop, max, sym, subst, arith}
use Rattle.std.specs.Prelude.{◌&&◌, nat_le, nat_lt, filter}
use Rattle.std.specs.List.{All, list_any, prefix_len}
use Rattle.std.proofs.Math.Nat.{pow-le-pow_right}
use Rattle.std.proofs.lemmas.Bool.{and_from, and_parts, le-leb, lt-ltb, leb-true, ltb-true}
use Rattle.std.proofs.lemmas.List.Elements.{All-append, All-cons, All-take, All-drop, All-weaker, All-filter}
use Rattle.std.proofs.lemmas.List.Kept.{IsNonDecreasingBy-filter}
use Rattle.model_core.specs.declared.limits.TheConstants.{MAX_ORDER}
use Rattle.model_core.specs.Blocks.{Block}
use Rattle.model_core.specs.Machine.{put_rising}
use Rattle.model_core.specs.Operations.{overlaps}
use Rattle.model_core.specs.Reach.{within_block}
use Rattle.known_holdings.specs.Inside.{ArePages}
use Rattle.known_holdings.proofs.RisingKeys.{any_kept, each_from, put_rises, put_behind}

-- Suppose that every block that passes a test has its last frame at or after `begin` and its first frame before `end`. Then some
-- page block passes exactly if some page block passes whose first frame is from `low` to `end - 1`. Here `low` is
-- `begin` + 1 - 2 ^ `longest`.
pub near_part : (longest : ℕ) (pages : List Block) (begin end low : ℕ) → ArePages longest pages → low ≡ begin + 1 - 2 ^ longest → (test : Block → Bool)
    → ((b : Block) → test b ≡ true → (begin < b.first + 2 ^ b.order) × (b.first < end))
    → list_any test pages ≡ list_any test (filter (λ b. nat_le low b.first && nat_lt b.first end) pages)
near_part longest pages begin end low are is_low test tells =
    any_kept test (λ b. nat_le low b.first && nat_lt b.first end) pages (each_from _ pages (λ k d lt passes.
    let at = tells (get_or pages k d) passes in
    let short : (get_or pages k d).order ≤ longest = are.short k d (omega arith) in
    let few : 2 ^ (get_or pages k d).order ≤ 2 ^ longest = pow-le-pow_right (omega arith) short in
    and_from _ _ (le-leb low (get_or pages k d).first (omega (arith, at.0, few, is_low))) (lt-ltb (get_or pages k d).first end at.1)))

-- after a block is put in, the blocks still ascend, and no order is above the larger of `longest` and the new block's order
pub pages_put : (longest : ℕ) (b : Block) (pages : List Block) → ArePages longest pages → b.order ≤ MAX_ORDER
    → ArePages (max longest b.order) (put_rising (λ x. x.first) b pages)
pages_put longest b pages are small = record {
  most = omega (arith, are.most);
  rise = put_rises (λ x. x.first) b pages are.rise;
  short = subst (All within) (sym (put_behind (λ x. x.first) b pages))
      (All-append within (take at pages) _ (All-take within at pages wider) (All-cons within b (drop at pages) (omega arith) (All-drop within at pages wider)));
}
  where
    within : Block → Type 0
    within x = x.order ≤ max longest b.order

    at : ℕ
    at = prefix_len (λ x. nat_lt x.first (b.first + 1)) pages

    wider : All within pages
    wider = All-weaker (λ (x : Block). x.order ≤ longest) within (λ x le. omega arith) pages are.short

pub pages_less : (longest : ℕ) (test : Block → Bool) (pages : List Block) → ArePages longest pages → ArePages longest (filter test pages)
pages_less longest test pages are = record {
  most = are.most;
  rise = IsNonDecreasingBy-filter (λ (x : Block). x.first) test pages are.rise;
  short = All-filter test (λ (x : Block). x.order ≤ longest) pages are.short;
}

-- if block a has the frames from `begin` to `end - 1` and block b overlaps it, the last frame of b is at or after `begin`, and
-- the first frame of b is before `end`
pub overlap_near : (a b : Block) (begin end : ℕ) → begin ≡ a.first → end ≡ a.first + 2 ^ a.order → overlaps a b ≡ true
    → (begin < b.first + 2 ^ b.order) × (b.first < end)
overlap_near a b begin end is_begin is_end e = let p = and_parts (ltb a.first (b.first + 2 ^ b.order)) (ltb b.first (a.first + 2 ^ a.order)) e in
    let low : a.first < b.first + 2 ^ b.order = ltb-true _ _ p.0 in
    let high : b.first < a.first + 2 ^ a.order = ltb-true _ _ p.1 in
    (omega (arith, is_begin, low), omega (arith, is_end, high))

pub range_near : (place len frame : ℕ) (b : Block) → 1 ≤ len → frame ≡ place / 4096 → within_block place len b ≡ true
    → (frame < b.first + 2 ^ b.order) × (b.first < frame + 1)
range_near place len frame b some is e = let p = and_parts (leb (4096 * b.first) place) (leb (place + len) (4096 * b.first + 4096 * 2 ^ b.order)) e in
    let low : 4096 * b.first ≤ place = leb-true _ _ p.0 in
    let high : place + len ≤ 4096 * b.first + 4096 * 2 ^ b.order = leb-true _ _ p.1 in
    (omega (arith, is, low, high), omega (arith, is, low))
