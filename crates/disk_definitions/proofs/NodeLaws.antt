-- What the first blocks of a node are, and what its kind and its bytes are by its shape alone.
use Rattle.std.proofs.Common.{ℕ, zero, suc, ◌<◌, ◌≤◌, ◌≡◌, Option, Some, None, List, [], ◌∷◌, refl, subst}
use Rattle.std.specs.List.{slice_get}
use Rattle.std.proofs.lemmas.Bool.{le-ltb, lt-ltb}
use Rattle.tree_definitions.specs.declared.cells.Cell.{Cell}
use Rattle.tree_definitions.specs.declared.cells.Cell.TheVariants as cell
use Rattle.tree_definitions.specs.declared.node.Node.{Node}
use Rattle.tree_definitions.specs.declared.node.Node.TheVariants.{Dir, File, Link}
use Rattle.tree_definitions.specs.Touched.{node_shape, shaped, doubts}
use Rattle.disk_definitions.specs.Naming.{Allows, cell_in, first_blocks, kind_of}

-- a block is the same among the first so many, and none behind them
pub first_is : (count : ℕ) (block : ℕ → ℕ) (m : ℕ) → m < count → first_blocks count block m ≡ block m
first_is count block m l = rw (lt-ltb m count l) refl

pub first_past : (count : ℕ) (block : ℕ → ℕ) (m : ℕ) → count ≤ m → first_blocks count block m ≡ 0
first_past count block m l = rw (le-ltb m count l) refl

pub kind_shape : (x : Node) → kind_of (node_shape x) ≡ kind_of x
kind_shape (Dir entries blocks) = refl
kind_shape (File cells links when) = refl
kind_shape (Link target links) = refl

-- a shape allows any bytes
any_byte : (cells : List Cell) (j : ℕ) (c : Cell) (v : ℕ) → slice_get (doubts cells) j ≡ Some c → Allows c v
any_byte [] zero c v e = absurd (cc)
any_byte [] (suc j) c v e = absurd (cc)
any_byte (x ∷ xs) zero c v e = let d : cell.Doubtful ≡ c = cc in subst (λ c. Allows c v) d tt
any_byte (x ∷ xs) (suc j) c v e = any_byte xs j c v e

pub any_cell : (o : Option Node) (j : ℕ) (c : Cell) (v : ℕ) → cell_in (shaped o) j ≡ Some c → Allows c v
any_cell (Some (Dir entries blocks)) j c v e = absurd (cc)
any_cell (Some (File cells links when)) j c v e = any_byte cells j c v e
any_cell (Some (Link target links)) j c v e = absurd (cc)
any_cell None j c v e = absurd (cc)
