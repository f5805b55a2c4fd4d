use Rattle.std.proofs.Common.{◌≡◌, ◌*◌, min}
use Rattle.disk_definitions.specs.Store.{stored}
use Rattle.standing_laws.specs.ReadTree.{byte_at, cells_to}
use Rattle.disk_reading.specs.Seen.{store_in}
use Rattle.disk_reading.proofs.files.read_cells.Given as goal

abbrev pub invariant-loop-part : goal.invariant-loop-part
invariant-loop-part l = l.cells ≡ cells_to (byte_at (store_in l.segments l.disk) (stored l.inode)) (min (l.part * 512) l.inode.size)
