-- How many entries an inode in use has, where it is a directory.
use Rattle.std.specs.Prelude.{ℕ, Option, is_some}
use Rattle.frang_base.specs.declared.limits.TheConstants.{DIRECTORY_ENTRIES_MAX}
use Rattle.disk_definitions.specs.Store.{Store, StoredNode}
use Rattle.report_definitions.specs.Sums.{count_below}
use Rattle.report_definitions.specs.View.{entry_in}

unfoldable pub entries_in : Store → Option StoredNode → ℕ
entries_in s o = count_below DIRECTORY_ENTRIES_MAX (λ q. is_some (entry_in s o q))
