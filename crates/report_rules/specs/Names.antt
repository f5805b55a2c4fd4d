-- How often each inode is named, by counts that stop at their greatest.
use Rattle.std.specs.Prelude.{◌≡◌, ◌<◌, ◌+◌, ◌*◌, ℕ, Bool, List, length, slice_index}
use Rattle.frang_base.specs.declared.limits.TheConstants.{SEGMENT_INODES}
use Rattle.disk_definitions.specs.Store.{Store}
use Rattle.disk_reading.specs.Names.{counted}
use Rattle.report_definitions.specs.Rules.{names_to}
use Rattle.report_rules.specs.Seen.{stored}

-- these counts with so many more of each, as far as they go
pub record HaveCounted (more : ℕ → ℕ) (before after : List ℕ) : Type 0 where
  pub long : length after ≡ length before
  pub each : (i : ℕ) → i < length before → counted (slice_index after i) ≡ counted (slice_index before i + more i)

-- the counts of the names of each inode by what is reached
pub record AreNames (segments : ℕ) (s : Store) (reached : ℕ → Bool) (counts : List ℕ) : Type 0 where
  pub long : length counts ≡ SEGMENT_INODES * segments
  pub each : (i : ℕ) → i < SEGMENT_INODES * segments → counted (slice_index counts i) ≡ counted (names_to (stored segments s) reached i)
