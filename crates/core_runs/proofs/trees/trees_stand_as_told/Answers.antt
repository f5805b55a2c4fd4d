-- By the law of disks at rest, and by regions.
use Rattle.core_runs.specs.Kept.{Related}
use Rattle.core_runs.proofs.Standing.{disks_stand, trees_stand}
use Rattle.core_runs.proofs.trees.trees_stand_as_told.Goals as goal

pub returns-clause-world : goal.returns-clause-world
returns-clause-world g c = λ moment_of world_of journal_of.
    disks_stand c.read_scripts_have_own_numbers.ensures c.trees_are_read_at_rest.ensures.rest c.a_disk_at_rest_stands.ensures.stands (Related moment_of world_of journal_of)

pub returns-clause-disk : goal.returns-clause-disk
returns-clause-disk g c = λ moment_of world_of journal_of.
    trees_stand c.a_disk_stands_by_its_regions.ensures.stands c.read_scripts_have_own_numbers.ensures c.trees_are_read_at_rest.ensures.rest c.a_disk_at_rest_stands.ensures.stands
    (Related moment_of world_of journal_of)
