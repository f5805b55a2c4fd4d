-- What is known of a disk before its faults are told.
use Rattle.std.specs.Prelude.{◌≡◌, ℕ, ◌*◌, false, length, replicate}
use Rattle.frang_base.specs.declared.limits.TheConstants.{SEGMENT_BLOCKS, SEGMENT_INODES, SMALL_BLOCK_SECTORS}
use Rattle.disk_definitions.specs.Store.{Store}
use Rattle.standing_laws.specs.Below.{lists}
use Rattle.disk_reading.specs.Marks.{flag_at}
use Rattle.disk_reading.specs.Reach.{AreFlaggedOn}
use Rattle.report_definitions.specs.View.{IsReach}
use Rattle.report_definitions.specs.Rules.{used, used_large}
use Rattle.report_rules.specs.declared.tables.Tables.{Tables}
use Rattle.report_rules.specs.Seen.{stored}
use Rattle.report_rules.specs.Users.{AreUsers}
use Rattle.report_rules.specs.Names.{AreNames}
use Rattle.report_rules.specs.Directories.{directory_row}
use Rattle.report_rules.specs.Repeats.{repeats_to}

pub record AreTables (segments : ℕ) (s : Store) (t : Tables) : Type 0 where
  pub long : length t.reached ≡ SEGMENT_INODES * segments
  pub reach : IsReach s (flag_at t.reached)
  pub names : AreNames segments s (flag_at t.reached) t.names
  pub small : AreUsers (used (stored segments s) (flag_at t.reached)) (SEGMENT_BLOCKS * segments) (SEGMENT_BLOCKS * segments) t.small.first.items t.small.fine
  pub large : AreUsers (used_large (stored segments s) (flag_at t.reached)) segments (SEGMENT_INODES * segments) t.large.first.items t.large.fine
  pub directories : AreFlaggedOn (lists (directory_row s (flag_at t.reached)) (SEGMENT_BLOCKS * segments)) (replicate (SEGMENT_BLOCKS * segments) false) t.directories
  pub repeats : AreFlaggedOn (repeats_to s (flag_at t.reached) (SEGMENT_INODES * segments)) (replicate (SMALL_BLOCK_SECTORS * SEGMENT_BLOCKS * segments) false) t.repeats
