-- How many blocks are used, by the tables of a disk.
use Rattle.std.proofs.Common.{◌≡◌, ℕ, ◌*◌, is_some, None, get_or}
use Rattle.disk_definitions.specs.Store.{Store}
use Rattle.standing_laws.specs.Below.{lists}
use Rattle.disk_reading.specs.Marks.{flag_at}
use Rattle.report_definitions.specs.Sums.{count_below}
use Rattle.report_definitions.specs.Rules.{used, used_large}
use Rattle.report_rules.specs.declared.tables.Tables.{Tables}
use Rattle.report_rules.specs.Seen.{stored}
use Rattle.report_rules.specs.Tables.{AreTables}
use Rattle.report_rules.proofs.FirstUsers.{users_counted}

module _ (segments : ℕ) (s : Store) (t : Tables) (are : AreTables segments s t) where
  pub small_counted : count_below (1024 * segments) (λ k. is_some (get_or t.small.first.items k None)) ≡ count_below (1024 * segments) (lists (used (stored segments s) (flag_at t.reached)) (1024 * segments))
  small_counted = users_counted (used (stored segments s) (flag_at t.reached)) (1024 * segments) (1024 * segments) t.small.first.items t.small.fine are.small

  pub large_counted : count_below segments (λ k. is_some (get_or t.large.first.items k None)) ≡ count_below segments (lists (used_large (stored segments s) (flag_at t.reached)) (64 * segments))
  large_counted = users_counted (used_large (stored segments s) (flag_at t.reached)) segments (64 * segments) t.large.first.items t.large.fine are.large
