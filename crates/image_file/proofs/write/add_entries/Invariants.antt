use Rattle.std.proofs.Common.{◌≡◌, ◌++◌, ◌*◌, length}
use Rattle.std.specs.List.{flat_map}
use Rattle.image_file.specs.Images.{image_entry, sectors_written}
use Rattle.image_file.specs.Entries.{HasRoom}
use Rattle.image_file.proofs.write.add_entries.Given as goal

-- the iterator of a map is seen as the entries that it has left
abbrev pub invariant-loop-sector : goal.invariant-loop-sector
invariant-loop-sector l = record {
  can : (goal.iterator-loop-sector).can_next l.sector-iterator;
  ends : (goal.iterator-loop-sector).is_finite l.sector-iterator;
  rest : l.to.items ++ flat_map image_entry (sectors_written l.sector-iterator) ≡ l.fn.to.items ++ flat_map image_entry (sectors_written l.disk);
  room : HasRoom l.to (520 * length (sectors_written l.sector-iterator));
}
