use Rattle.std.proofs.Common.{◌≡◌, ◌++◌, false, map, filter}
use Rattle.tree_definitions.specs.Numbers.{below}
use Rattle.tree_definitions.specs.Removal.{sector_cells, is_doubtful}
use Rattle.tree_model.proofs.settle.push_sectors.Given as goal

abbrev pub invariant-loop-sector : goal.invariant-loop-sector
invariant-loop-sector l = l.runs.items ≡ l.initial.runs.items ++ map (sector_cells l.birth l.size) (filter (λ sector. is_doubtful l.server.0 l.birth sector false l.opening l.list) (below l.sector))
