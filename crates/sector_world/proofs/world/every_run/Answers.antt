-- By what every step keeps.
use Rattle.sector_world.specs.World.{start}
use Rattle.sector_world.proofs.Every.{good_start, good_run}
use Rattle.sector_world.proofs.Holding.{holds_good}
use Rattle.sector_world.proofs.OneDisk.{orderly_good, one_disk_good}
use Rattle.sector_world.proofs.Quiet.{quiet_good}
use Rattle.sector_world.proofs.Legal.{legal_run, legal_good}
use Rattle.sector_world.proofs.world.every_run.Goals as goal

pub returns-clause-holds : goal.returns-clause-holds
returns-clause-holds c = λ servers disk logged files home events w r. holds_good w (good_run (start servers disk logged files home) events w r (good_start servers disk logged files home))

pub returns-clause-orderly : goal.returns-clause-orderly
returns-clause-orderly c = λ servers disk logged files home events w r e can. orderly_good w (good_run (start servers disk logged files home) events w r (good_start servers disk logged files home)) e can

pub returns-clause-one_disk : goal.returns-clause-one_disk
returns-clause-one_disk c = λ servers disk logged files home events w r e can s. one_disk_good w (good_run (start servers disk logged files home) events w r (good_start servers disk logged files home)) e can s

pub returns-clause-quiet : goal.returns-clause-quiet
returns-clause-quiet c = λ servers disk logged files home events w r q. quiet_good w (good_run (start servers disk logged files home) events w r (good_start servers disk logged files home)) q

pub returns-clause-legal : goal.returns-clause-legal
returns-clause-legal c = λ plan frame servers disk logged files home events w r p.
    legal_good plan frame w (good_run (start servers disk logged files home) events w r (good_start servers disk logged files home)) (legal_run plan frame (start servers disk logged files home) events w r p (good_start servers disk logged files home) tt)
