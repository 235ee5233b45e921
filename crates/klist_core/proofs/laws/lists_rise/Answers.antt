use Rattle.klist_core.proofs.KeyNodePairs.{list_rises}
use Rattle.klist_core.proofs.laws.lists_rise.Goals as goal

pub returns : goal.returns
returns c = λ s h t. list_rises h 0 s.places (record { apart = λ i j k. t.apart i j h k })
