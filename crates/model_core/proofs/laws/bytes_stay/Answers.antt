use Rattle.model_core.proofs.BytesStay.{alloc_keeps, free_keeps, take_keeps, give_keeps, bytes_stay, runs_keep_bytes}
use Rattle.model_core.proofs.WritesAlone.{writes_alone}
use Rattle.model_core.proofs.SlabsLeave.{slabs_leave_zeroes}
use Rattle.model_core.proofs.laws.bytes_stay.Goals as goal

pub returns : goal.returns
returns c = record {
  alloc = alloc_keeps;
  free = free_keeps;
  take = take_keeps;
  give = give_keeps;
  step = bytes_stay;
  run = runs_keep_bytes;
  writes = writes_alone;
  slabs = slabs_leave_zeroes;
}
