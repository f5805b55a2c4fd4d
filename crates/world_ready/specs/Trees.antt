-- The tree that the host reads and says: what is kept of it, and its next line.
use Rattle.std.specs.Prelude.{◌≡◌, ◌≤◌, ℕ, false, Option, Some, None, List, length}
use Rattle.std.specs.List.{slice_get}
use Rattle.frang_base.specs.declared.said.Said.{Said}
use Rattle.tree_definitions.specs.SaidLines.{said_line}
use Rattle.core_definitions.specs.Logs.{is_none}
use Rattle.host_tree.specs.Reading.{HostReading, all_lines, needed}

-- the same is read and said
pub record SameReading (old new : HostReading) : Type 0 where
  pub segments : new.segments ≡ old.segments
  pub read : new.read ≡ old.read
  pub shown : new.shown ≡ old.shown

-- nothing is said before all is read, and never more than there is
pub record IsSaidInTime (tree : HostReading) : Type 0 where
  pub unread : is_none (needed tree.segments tree.read) ≡ false → tree.shown ≡ 0
  pub most : tree.shown ≤ length (all_lines tree.segments tree.read)

-- the next line stands at this place, and this is its text
pub record IsShown (tree : HostReading) (place : ℕ) (said : List ℕ) : Type 0 where
  pub next : place ≡ tree.shown
  pub line : Said
  pub there : slice_get (all_lines tree.segments tree.read) place ≡ Some line
  pub text : said ≡ said_line line

-- there is no text where the next line stands at another place, or all are said
abbrev pub IsTextAt : HostReading → ℕ → Option (List ℕ) → Type 0
IsTextAt tree place None = place ≡ tree.shown → slice_get (all_lines tree.segments tree.read) place ≡ None
IsTextAt tree place (Some text) = IsShown tree place text
