-- One event; and event by event what is cached.
use Rattle.core_lives.proofs.Shrinking.{lives_shrink, stay_free}
use Rattle.core_lives.proofs.Syncing.{syncs}
use Rattle.core_lives.proofs.lives.syncs_lead_on.Goals as goal

pub returns : goal.returns
returns c = record { sync = syncs; shrink = lives_shrink; free = stay_free }
