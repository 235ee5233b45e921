use Rattle.std.proofs.Common.{◌≡◌, ℕ, ◌-◌, ◌<◌, ◌≤◌, length, take, slice_index}
use Rattle.frame_picture.specs.Rows.{row_cells}
use Rattle.frame_picture.specs.Owned.{listed_cells}
use Rattle.frame_picture.proofs.owned.OwnSheets.list.Given as goal

abbrev pub invariant-sheets : goal.invariant-sheets
invariant-sheets l = record {
  long : length l.self.listed ≡ 256;
  rest : l.rest ≤ l.most;
  few : l.len ≤ 256;
  inside : (j : ℕ) → j < l.len → slice_index l.self.listed j < length l.sheets;
  cells : (order first end : ℕ) → row_cells order l.t first end (take l.rest l.sheets)
      ≡ listed_cells order l.t first end l.sheets (take l.len l.self.listed);
}

abbrev pub decreases-sheets : goal.decreases-sheets
decreases-sheets l = l.most - l.rest
