-- Sector by sector, and step by step.
use Rattle.headline_histories.proofs.Others.{others_stay_empty}
use Rattle.headline_histories.proofs.Replays.{replays_are_as}
use Rattle.headline_histories.proofs.replayed_disks_are_the_worlds.Goals as goal

pub returns : goal.returns
returns c = record { same = replays_are_as c.replays_are_the_worlds.ensures; others = others_stay_empty c.leases_last.ensures.end c.writes_stand_once.ensures.sectors }
