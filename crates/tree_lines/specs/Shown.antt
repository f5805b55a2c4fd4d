-- The lines of a tree by what its nodes show.
use Rattle.std.specs.Prelude.{ℕ, zero, suc, Option, Some, None, List, [], ◌∷◌}
use Rattle.std.specs.List.{flat_map}
use Rattle.frang_base.specs.declared.said.Said.{Said}
use Rattle.frang_base.specs.declared.said.Said.TheVariants as said
use Rattle.tree_definitions.specs.Entries.{Entries}
use Rattle.tree_definitions.specs.TreeLines.{name_below, path_text}

-- what a node shows: the kind, size and links of its line, and the entries below it
pub record Shown : Type 0 where
  pub kind : ℕ
  pub size : ℕ
  pub links : ℕ
  pub entries : Entries

-- a node's own line, and then the lines of its entries
abbrev pub lines_shown : List ℕ → Option Shown → (List ℕ × ℕ → List Said) → List Said
lines_shown text None onward = []
lines_shown text (Some x) onward = said.Node (path_text text) x.kind x.size x.links ∷ flat_map onward x.entries

-- the lines from a node on, so many levels deep, by what each node shows
abbrev pub lines_by : (ℕ → Option Shown) → ℕ → List ℕ → ℕ → List Said
lines_by nodes zero text birth = []
lines_by nodes (suc depth) text birth = lines_shown text (nodes birth) (λ e. lines_by nodes depth (name_below text e.0) e.1)
