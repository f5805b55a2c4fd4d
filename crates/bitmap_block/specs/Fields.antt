-- What the fields of a segment hold.
use Rattle.std.specs.Prelude.{◌≡◌, ◌<◌, ◌^◌, length}
use Rattle.frang_base.specs.declared.bitmap.Bitmap.{Bitmap}

-- the numbers fit their fields, and there are 256 bytes of states, as in each value of the type
abbrev pub FillsItsFields : Bitmap → Type 0
FillsItsFields x = (x.version < 2 ^ 64) × (x.inodes < 2 ^ 64) × (length x.states ≡ 256)
