use Rattle.partmem_c.proofs.machine_storage.MachineStorage.TheSendSync.{the_send}
use Rattle.partmem_c.proofs.laws.may_change_threads.Goals as goal

pub returns : goal.returns
returns c = the_send
