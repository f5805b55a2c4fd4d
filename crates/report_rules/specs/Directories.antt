-- Blocks of directories that are reached.
use Rattle.std.specs.Prelude.{ℕ, ◌/◌, ◌%◌, Bool, if◌then◌else◌, Option, None}
use Rattle.frang_base.specs.declared.limits.TheConstants.{INODE_BLOCKS_MAX}
use Rattle.disk_definitions.specs.Store.{Store}
use Rattle.report_definitions.specs.Rules.{directory_block}

-- the small block at a place of the row of all inodes, where its inode is a directory that is reached
abbrev pub directory_row : Store → (ℕ → Bool) → ℕ → Option ℕ
directory_row s reached t = if reached (t / INODE_BLOCKS_MAX) then directory_block s (t / INODE_BLOCKS_MAX) (t % INODE_BLOCKS_MAX) else None
