use Rattle.std.proofs.Common.{◌≡◌, ◌++◌, map, drop, nat_lt, true}
use Rattle.std.specs.List.{list_all}
use Rattle.tree_definitions.specs.declared.cells.Cell.TheVariants.{Byte}
use Rattle.file_tree.specs.Sure.{is_sure}
use Rattle.file_tree.proofs.bytes.bytes_of.Given as goal

abbrev pub invariant-loop-cell : goal.invariant-loop-cell
invariant-loop-cell l = record {
  rest : map Byte l.text ++ drop l.cell-index l.cells ≡ l.cells;
  bytes : list_all (λ b. nat_lt b 256) l.text ≡ true;
  sure : list_all is_sure (drop l.cell-index l.cells) ≡ true;
}
