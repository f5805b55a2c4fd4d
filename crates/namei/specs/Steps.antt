-- What a walk answers.
use Rattle.std.specs.Prelude.{[]}
use Rattle.frang_base.specs.declared.reply.Reply.{Reply}
use Rattle.frang_base.specs.declared.reply.Reply.TheVariants as reply
use Rattle.disk_definitions.specs.Walks.{Spot, Walked, at_spot, at_target}
use Rattle.dir_lookup.specs.Reading.{Read, Lacks, Gives}
use Rattle.namei.specs.declared.walking.Step.{Step}
use Rattle.namei.specs.declared.walking.Step.TheVariants as step

-- how a walk was refused: by a node that is no directory, or by a name that isn't there
abbrev pub step_lost : Reply → Step
step_lost reply.NotDir = step.NotDir
step_lost _ = step.NoEnt

-- the inode of the node that the path names
abbrev pub step_at : Spot → Step
step_at s = at_spot s [] (λ r dirs. step_lost r) (λ t. step.At t.inode)

abbrev pub step_of : Read Walked → Step
step_of (Lacks sector) = step.Need (record { 0 = sector })
step_of (Gives w) = at_target w (λ r dirs. step_lost r) (λ t. step.At t.inode)
