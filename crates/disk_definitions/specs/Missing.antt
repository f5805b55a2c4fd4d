-- Which of the sectors that a computation looks at is the first that isn't at hand.
use Rattle.std.specs.Prelude.{Bool, if◌then◌else◌, is_some, Option, Some, None, List, [], ◌∷◌}
use Rattle.disk_definitions.specs.Ask.{Sector, InodeAt, DirectoryAt, SegmentAt, BytesAt, LargeAt, AtHand, Met, Needs, Has}

-- a sector is at hand
abbrev pub is_at_hand : AtHand → Sector → Bool
is_at_hand known (InodeAt inode) = is_some (known.inode inode)
is_at_hand known (DirectoryAt block part) = is_some (known.directory block part)
is_at_hand known (SegmentAt segment) = known.segment segment
is_at_hand known (BytesAt block part) = is_some (known.bytes block part)
is_at_hand known (LargeAt large part) = is_some (known.large large part)

-- the first of these that isn't at hand
abbrev pub first_missing : AtHand → List Sector → Option Sector
first_missing known [] = None
first_missing known (sector ∷ sectors) = if is_at_hand known sector then first_missing known sectors else Some sector

-- the value, where no sector is missing
abbrev pub unless_missing : {A : Type 0} → Option Sector → A → Met A
unless_missing None value = Has value
unless_missing (Some sector) value = Needs sector
