use Rattle.std.proofs.Common.{◌≡◌, ℕ, ◌+◌, ◌*◌, ◌%◌, ◌^◌, ◌≤◌, ap, length, List, get_or, subst, sym, ◌∙◌, arith}
use Rattle.std.proofs.Math.Nat.{mul-le-mul_right}
use Rattle.std.proofs.Math.Pow.{pow_mono}
use Rattle.std.specs.Int.{div_ceil}
use Rattle.frame_picture.specs.declared.history.Column.{Column}
use Rattle.frame_picture.specs.Bounds.{IsGreatest}
use Rattle.frame_picture.specs.Histories.{columns_of}
use Rattle.frame_picture.specs.Slots.{IsAbove, HasSlot}
use Rattle.frame_picture.proofs.SlotLemmas.{AnyBefore, slots_none, slots_more}
use Rattle.frame_picture.proofs.grid.Grid.of.Goals as goal

-- if a slot has at most 2 ^ 10 frames, up to 2 ^ 16 slots have fewer than 2 ^ 32 frames
slots_fit : (slots p : ℕ) → slots ≤ 2 ^ 16 → p ≤ 2 ^ 10 → slots * p % 2 ^ 32 ≡ slots * p
slots_fit slots p few small = let most : slots * p ≤ 2 ^ 16 * p = mul-le-mul_right p few in omega (arith, most)

pub loop-column-init : goal.loop-column-init
loop-column-init c = record { few = omega arith; greatest = slots_none (HasSlot c.args.t) (columns_of c.args.history.now) 1 }

pub loop-column-preserved : goal.loop-column-preserved
loop-column-preserved c =
    let columns : List Column = columns_of c.args.history.now in
    let all : c.columns-column-items.result.now ≡ columns = c.columns-column-items.ensures.all in
    let long : length c.columns-column-items.result.now ≡ length columns = ap length all in
    let is : c.column-item.result ≡ get_or columns c.loop-column.column-index c.column-item.result =
    c.column-item.is ∙ ap (λ xs. get_or xs c.loop-column.column-index c.column-item.result) all in
    record {
      few = omega (arith, c.max-slots.ensures, c.slots_in.ensures.few, c.loop-column.invariant.few);
      greatest =
          subst (IsGreatest (IsAbove (λ slot. AnyBefore (HasSlot c.args.t slot) columns (c.loop-column.column-index + 1))) 1) (sym c.max-slots.ensures)
          (slots_more (HasSlot c.args.t) columns c.loop-column.column-index 1 c.loop-column.slots c.slots_in.result c.column-item.result
          (omega arith) is c.loop-column.invariant.greatest c.slots_in.ensures.greatest);
    }

pub returns : goal.returns
returns c =
    let columns : List Column = columns_of c.args.history.now in
    let long : length c.columns-column-items.result.now ≡ length columns = ap length c.columns-column-items.ensures.all in
    let all : c.loop-column.column-index ≡ length columns = omega arith in
    let rows : c.rows_up_to.result ≡ div_ceil (c.loop-column.slots * 2 ^ c.order-order.result % 2 ^ 32) c.frames_per_row-frames_per_row.result =
    c.rows_up_to.ensures in
    record {
      order = c.order-order.ensures.value;
      slots = c.loop-column.slots;
      held = subst (λ n. IsGreatest (IsAbove (λ slot. AnyBefore (HasSlot c.args.t slot) columns n)) 1 c.loop-column.slots) all c.loop-column.invariant.greatest;
      frames = slots_fit c.loop-column.slots (2 ^ c.order-order.result) c.loop-column.invariant.few (pow_mono c.order-order.ensures.small);
      few = omega (arith, rows, c.frames_per_row-frames_per_row.ensures.few);
      row = c.frames_per_row-frames_per_row.ensures.least;
    }
