-- By legality and what every step keeps.
use Rattle.std.proofs.Common.{subst, sym}
use Rattle.sector_world.specs.World.{start}
use Rattle.sector_world.specs.Trees.{Related}
use Rattle.sector_world.proofs.Every.{good_start, good_run}
use Rattle.sector_world.proofs.Legal.{legal_run, legal_good, opening_run}
use Rattle.sector_world.proofs.Trees.{distinct_run, stand_good}
use Rattle.sector_world.proofs.world.every_tree.Goals as goal

pub returns : goal.returns
returns g c = λ plan frame disk_of tree_of apply number_of new_to meets servers disk logged files home first begins events w r p n.
    stand_good plan (Related disk_of tree_of) apply (Related number_of new_to) meets first w (subst (λ o. Related disk_of tree_of o first) (sym (opening_run (start servers disk logged files home) events w r)) begins)
    (legal_good plan frame w (good_run (start servers disk logged files home) events w r (good_start servers disk logged files home)) (legal_run plan frame (start servers disk logged files home) events w r p (good_start servers disk logged files home) tt))
    (distinct_run (Related number_of new_to) first (start servers disk logged files home) events w r n tt)
    (good_run (start servers disk logged files home) events w r (good_start servers disk logged files home))
