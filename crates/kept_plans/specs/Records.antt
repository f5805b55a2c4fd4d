-- Whether a log takes the record of a line.
use Rattle.std.specs.Prelude.{Bool, true, Option, Some, None}
use Rattle.frang_base.specs.declared.change.Redo.{Redo}
use Rattle.ring_definitions.specs.Rings.{is_record}

-- a record may stand in a log; a line without one needs no place
abbrev pub may_stand : Option Redo → Bool
may_stand None = true
may_stand (Some redo) = is_record redo
