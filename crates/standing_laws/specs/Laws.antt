-- The laws.
use Rattle.std.specs.Prelude.{◌≡◌, ℕ, ◌*◌, Some}
use Rattle.tree_definitions.specs.Tree.{FileTree}
use Rattle.disk_definitions.specs.declared.param.Param.{Param}
use Rattle.disk_definitions.specs.Params.{param_in}
use Rattle.sector_bytes.specs.Sectors.{Sectors}
use Rattle.disk_definitions.specs.Standing.{HasNoDoubt, StandsByInodes, StandsFor}
use Rattle.standing_laws.specs.ReadTree.{read_tree}
use Rattle.standing_laws.specs.Soundness.{IsSound}
use Rattle.standing_laws.specs.Renaming.{IsRenaming}

-- a disk with these parameters is sound, by its own sectors
abbrev pub IsSoundDisk : Param → Sectors → Type 0
IsSoundDisk param sectors = IsSound (131072 * param.run) param.segments sectors

-- a sound disk stands for the tree that is read off it
abbrev pub SoundStands : Type 0
SoundStands = (param : Param) (sectors : Sectors) → param_in (sectors 0) ≡ Some param → IsSoundDisk param sectors → StandsByInodes sectors (read_tree param.segments sectors)

-- no cell that is read off a disk is doubtful
abbrev pub ReadingHasNoDoubt : Type 0
ReadingHasNoDoubt = (segments : ℕ) (sectors : Sectors) → HasNoDoubt (read_tree segments sectors)

-- a disk that stands for a tree is sound
abbrev pub StandingIsSound : Type 0
StandingIsSound = (sectors : Sectors) (tree : FileTree) (stands : StandsFor sectors tree) → IsSoundDisk stands.param sectors

-- trees for which one disk stands are the same but for their births
abbrev pub StandsForOne : Type 0
StandsForOne = (sectors : Sectors) (one two : FileTree) → StandsFor sectors one → StandsFor sectors two → (to : ℕ → ℕ) × (back : ℕ → ℕ) × IsRenaming to back one two
