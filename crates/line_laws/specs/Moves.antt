-- What the edits of a finished line move, and under which of its locks: the laws of plans, of lines whose paths may lead through links.
use Rattle.plan_laws.specs.Plans.{OfEachFinish, MovesTidily, LeadsCovers, OwnsMoves, KeepsDirectories, OwnsBytes}
use Rattle.disk_definitions.specs.Lines.{plan_of_line}

-- the edits are tidy
abbrev pub LinesMove : Type 0
LinesMove = OfEachFinish plan_of_line MovesTidily

-- whatever tree the disk stands for after them, by whatever naming: each sector is under the lock that the edits say, or under its own
abbrev pub CoversFollowLines : Type 0
CoversFollowLines = OfEachFinish plan_of_line LeadsCovers

-- a sector that moves was under a lock that is held alone, and so is the lock that it comes under
abbrev pub LineMovesAreOwned : Type 0
LineMovesAreOwned = OfEachFinish plan_of_line OwnsMoves

-- a block that is or was a directory's stays one
abbrev pub LineDirectoriesStay : Type 0
LineDirectoriesStay = OfEachFinish plan_of_line KeepsDirectories

-- a sector into which file bytes are written, or which is given back, was under a lock that is held alone
abbrev pub LineBytesAreOwned : Type 0
LineBytesAreOwned = OfEachFinish plan_of_line OwnsBytes
