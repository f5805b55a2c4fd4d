-- The name that is moved, as the code has it.
use Rattle.std.specs.Prelude.{◌<◌, ◌*◌}
use Rattle.frang_base.specs.declared.limits.TheConstants.{BLOCK_ENTRIES}
use Rattle.disk_definitions.specs.Store.{stored, entered}
use Rattle.disk_definitions.specs.NamePlans.{Moving}
use Rattle.plan_steps.specs.Nodes.{IsDirectory}
use Rattle.op_dir.specs.declared.named.Named.{Named}

-- the directory, the place there, and the entry
abbrev pub moving_of : Named → Moving
moving_of m = record { dir = m.directory.number; directory = stored m.directory.inode; slot = m.found.place; entry = entered m.found.entry }

-- the place is one of a directory
pub record IsNamed (m : Named) : Type 0 where
  pub directory : IsDirectory m.directory.inode
  pub place : m.found.place < BLOCK_ENTRIES * m.directory.inode.blocks
