use Rattle.model_core.proofs.BuddyJoins.{reserve_stays_sound, release_stays_sound, grant_stays_sound, take_back_stays_sound}
use Rattle.model_core.proofs.block_laws.taken_stays_sound.Goals as goal

pub returns-clause-reserve : goal.returns-clause-reserve
returns-clause-reserve c = reserve_stays_sound

pub returns-clause-release : goal.returns-clause-release
returns-clause-release c = release_stays_sound

pub returns-clause-grant : goal.returns-clause-grant
returns-clause-grant c = grant_stays_sound

pub returns-clause-take_back : goal.returns-clause-take_back
returns-clause-take_back c = take_back_stays_sound
