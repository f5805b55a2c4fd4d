-- What contracts see of a writer and of a reader.
use Rattle.std.specs.Prelude.{List, []}
use Rattle.atomic_table.specs.Seated.{TableId}
use Rattle.frang_board.specs.declared.figures.Figures.{Figures}

-- the board that a writer writes, and what it has published
pub record Posted : Type 0 where
  pub board : TableId
  pub figures : List Figures

-- the board that a reader reads, what it has read, and the lists of the readers that it took in
pub record Seen : Type 0 where
  pub board : TableId
  pub figures : List Figures
  pub joined : List (List Figures)

-- nothing was published yet
abbrev pub none_posted : TableId → Posted
none_posted board = record { board = board; figures = [] }

-- nothing was read yet
abbrev pub none_seen : TableId → Seen
none_seen board = record { board = board; figures = []; joined = [] }
