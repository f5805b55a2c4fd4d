-- What contracts see of a ring in memory: the ring, and for how much more it has room.
use Rattle.std.specs.Prelude.{ℕ, ◌+◌, ◌≤◌, length}
use Rattle.frang_base.specs.declared.change.Redo.{Redo}
use Rattle.ring_definitions.specs.Rings.{Ring, need}

-- a ring, and how many more sectors of its log and names of sectors it takes without memory
pub record SpaciousRing : Type 0 where
  pub ring : Ring
  pub sectors : ℕ
  pub names : ℕ

-- there is room for a record
abbrev pub HasRoom : SpaciousRing → Redo → Type 0
HasRoom r redo = (need r.ring redo ≤ r.sectors) × (length redo.changes ≤ r.names)

-- there is no less room than before
abbrev pub KeepsRoom : SpaciousRing → SpaciousRing → Type 0
KeepsRoom old new = (old.sectors ≤ new.sectors) × (old.names ≤ new.names)

-- there is no less room than before but for what a record takes
abbrev pub KeepsRoomBut : Redo → SpaciousRing → SpaciousRing → Type 0
KeepsRoomBut redo old new = (old.sectors ≤ new.sectors + need old.ring redo) × (old.names ≤ new.names + length redo.changes)
