-- A walk along names from inode 0: what is reached so far, and which of it is to be taken later.
use Rattle.std.specs.Prelude.{◌≡◌, ℕ, ◌+◌, Bool, true, false, not, ◌&&◌, ◌||◌, List, length}
use Rattle.disk_definitions.specs.Store.{Store}
use Rattle.disk_reading.specs.Marks.{flag_at}
use Rattle.disk_reading.specs.Reach.{has_value, unflagged}
use Rattle.report_definitions.specs.View.{names, leads}

-- flags with those of what is named, of which the new ones are to be taken later
pub record HasFlagged (named : ℕ → Bool) (flags : List Bool) (later : List ℕ) (flagged : List Bool) (waiting : List ℕ) : Type 0 where
  pub long : length flagged ≡ length flags
  pub each : (k : ℕ) → flag_at flagged k ≡ (flag_at flags k || named k)
  pub waits : (k : ℕ) → has_value waiting k ≡ (has_value later k || (named k && not (flag_at flags k)))
  pub sum : unflagged flagged + length waiting ≡ unflagged flags + length later

-- inode 0 is flagged; what is flagged is reached, and what is to be taken is flagged; what was taken names nothing without a flag
pub record IsOnTheWay (s : Store) (flags : List Bool) (later : List ℕ) : Type 0 where
  pub root : flag_at flags 0 ≡ true
  pub led : (i : ℕ) → flag_at flags i ≡ true → (path : List ℕ) × (leads s 0 path i ≡ true)
  pub waits : (d : ℕ) → has_value later d ≡ true → flag_at flags d ≡ true
  pub taken : (d i : ℕ) → flag_at flags d ≡ true → has_value later d ≡ false → names s d i ≡ true → flag_at flags i ≡ true
