use Rattle.std.proofs.Common.{◌≡◌, ◌+◌, List, ap, get_or, length, subst, sym, ◌∙◌, arith}
use Rattle.frame_picture.specs.declared.history.Sheet.{Sheet}
use Rattle.frame_picture.specs.Bounds.{IsGreatest}
use Rattle.frame_picture.specs.Slots.{IsAbove, IsSheetOf}
use Rattle.frame_picture.proofs.SlotLemmas.{AnyBefore, slots_none, slots_more}
use Rattle.frame_picture.proofs.grid.slots_in.Goals as goal

pub loop-sheet-init : goal.loop-sheet-init
loop-sheet-init c = record { few = omega arith; greatest = slots_none (IsSheetOf c.args.t) c.args.column.now.sheets.items 0 }

pub loop-sheet-preserved : goal.loop-sheet-preserved
loop-sheet-preserved c =
    let sheets : List Sheet = c.args.column.now.sheets.items in
    let all : c.deref-sheet-items.result.now ≡ sheets = c.deref-sheet-items.ensures.value in
    let long : length c.deref-sheet-items.result.now ≡ length sheets = ap length all in
    let is : c.sheet-item.result ≡ get_or sheets c.loop-sheet.sheet-index c.sheet-item.result =
    c.sheet-item.is ∙ ap (λ xs. get_or xs c.loop-sheet.sheet-index c.sheet-item.result) all in
    record {
      few = omega (arith, c.max-slots.ensures, c.slots_up_to.ensures.few, c.loop-sheet.invariant.few);
      greatest =
          subst (IsGreatest (IsAbove (λ slot. AnyBefore (IsSheetOf c.args.t slot) sheets (c.loop-sheet.sheet-index + 1))) 0) (sym c.max-slots.ensures)
          (slots_more (IsSheetOf c.args.t) sheets c.loop-sheet.sheet-index 0 c.loop-sheet.slots c.slots_up_to.result c.sheet-item.result
          (omega arith) is c.loop-sheet.invariant.greatest c.slots_up_to.ensures.greatest);
    }

pub returns-clause-greatest : goal.returns-clause-greatest
returns-clause-greatest c =
    let sheets : List Sheet = c.args.column.now.sheets.items in
    let long : length c.deref-sheet-items.result.now ≡ length sheets = ap length c.deref-sheet-items.ensures.value in
    let all : c.loop-sheet.sheet-index ≡ length sheets = omega arith in
    subst (λ n. IsGreatest (IsAbove (λ slot. AnyBefore (IsSheetOf c.args.t slot) sheets n)) 0 c.loop-sheet.slots) all c.loop-sheet.invariant.greatest
