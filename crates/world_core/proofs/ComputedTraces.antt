-- Names for sets of definitions that the proofs of worked traces unfold. Unfolding a name unfolds all definitions of its set.
use Rattle.std.specs.Fmt.{digits}
use Rattle.hex.proofs.OnLiterals.{hex_on_literals}
use Rattle.hex.specs.Hex.{encode_with, decode_pairs}
use Rattle.model_core.specs.CacheOperations.{next_number, create_step, cache_step, destroy_step, take_step, give_step, reap_step}
use Rattle.model_core.specs.Layouts.{layout_of}
use Rattle.model_core.specs.Machine.{empty_machine, taken_blocks, choice}
use Rattle.model_core.specs.Operations.{alloc_step, free_step, read_step, write_step, next_slot, after_grant, after_take_back, take_back_step, is_busy}
use Rattle.model_core.specs.Reach.{in_reach}
use Rattle.model_core.specs.Slabs.{fresh_byte, grown_cache, grown, slab_to_use, reaped, by_need, destroyed}
use Rattle.words_core.specs.Grammar.{event_of, reading_of_words, reading_of}
use Rattle.words_core.specs.Words.{words_of}
use Rattle.world_core.specs.Laws.{opening_history}
use Rattle.world_core.specs.Output.{output_of}
use Rattle.world_core.specs.PrivateStep.{figures_of, report_step, command_step, private_step}
use Rattle.world_core.specs.World.{opening_world, world_step, grant_step, tenant_step, slot_step, reset_step, move_step, answer}

-- the definitions for the slots, page blocks and bytes of a machine
unfoldable pub computed_blocks : Unit {0}
unfolding empty_machine taken_blocks choice by_need reaped alloc_step free_step read_step write_step in_reach next_slot after_grant
computed_blocks = tt

-- the definitions for the caches of a machine
unfoldable pub computed_caches : Unit {0}
unfolding layout_of slab_to_use fresh_byte grown_cache grown destroyed next_number create_step cache_step destroy_step take_step
computed_caches = tt

-- the definitions for giving back objects, reaping slabs and taking back slots
unfoldable pub computed_returns : Unit {0}
unfolding give_step reap_step after_take_back take_back_step is_busy
computed_returns = tt

-- all definitions for a private machine
unfoldable pub computed_machine : Unit {0}
unfolding computed_blocks computed_caches computed_returns figures_of report_step command_step private_step
computed_machine = tt

-- the definitions for the world
unfoldable pub computed_world : Unit {0}
unfolding computed_machine opening_history opening_world world_step grant_step tenant_step slot_step reset_step move_step answer
computed_world = tt

-- the definitions for lines that are read and run in the world
unfoldable pub computed_lines : Unit {0}
unfolding computed_world reading_of reading_of_words event_of words_of hex_on_literals
computed_lines = tt

-- the definitions of `computed_lines`, and those for the text of the replies
unfoldable pub computed_texts : Unit {0}
unfolding computed_lines decode_pairs encode_with digits output_of
computed_texts = tt
