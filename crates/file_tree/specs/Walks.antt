-- What the code's walks through links mean.
use Rattle.std.specs.Prelude.{ℕ, Option, Some, None, Result, Ok, Err, List, ◌++◌}
use Rattle.frang_base.specs.declared.fault.PathFault.{PathFault}
use Rattle.frang_base.specs.declared.op.Op.{Op}
use Rattle.frang_base.specs.declared.op.Op.TheVariants as op
use Rattle.tree_definitions.specs.Resolve.{WalkEnd as TheEnd, At as LeadsTo, Refused as IsRefused, Resolution, ends_at, refused}
use Rattle.tree_definitions.specs.Perform.{Step as TheStep, Goes as DoesGo, Stops as DoesStop, Resolved as TheResolved}
use Rattle.file_tree.specs.declared.resolve.Next.{Next}
use Rattle.file_tree.specs.declared.resolve.Next.TheVariants.{Ends, Into, Follows, Stays}
use Rattle.file_tree.specs.declared.resolve.WalkEnd.{WalkEnd}
use Rattle.file_tree.specs.declared.resolve.WalkEnd.TheVariants.{At, Refused}
use Rattle.file_tree.specs.declared.resolve.Walk.{Walk}
use Rattle.file_tree.specs.declared.perform.Step.{Step}
use Rattle.file_tree.specs.declared.perform.Step.TheVariants.{Goes, Stops}
use Rattle.file_tree.specs.declared.perform.Resolved.{Resolved}
use Rattle.file_tree.specs.Places.{reply_of}

-- how a walk goes on from a name: it ends, goes into a directory, follows a link, or is refused
abbrev pub next_by : Next → (ℕ → List ℕ → Resolution) → (ℕ → Resolution) → List (List ℕ) → Resolution
next_by (Ends found) follow into here = ends_at here found
next_by (Into birth) follow into here = into birth
next_by (Follows birth target) follow into here = follow birth target.now
next_by (Stays refusal) follow into here = refused (reply_of refusal)

-- the end of a walk
abbrev pub end_of : WalkEnd → TheEnd
end_of (At path found) = LeadsTo path found
end_of (Refused refusal) = IsRefused (reply_of refusal)

-- a walk with its trail
abbrev pub resolution_of : Walk → Resolution
resolution_of walk = record { end = end_of walk.end; trail = walk.trail.items }

-- nodes that a walk went through before
abbrev pub passes_all : List ℕ → Resolution → Resolution
passes_all trail walk = record { end = walk.end; trail = trail ++ walk.trail }

-- a walk that ends so, with this trail
abbrev pub went : WalkEnd → List ℕ → Resolution
went end trail = record { end = end_of end; trail = trail }

-- a path, or none
abbrev pub path_or_none : Result (List (List ℕ)) PathFault → Option (List (List ℕ))
path_or_none (Ok names) = Some names
path_or_none (Err fault) = None

-- an operation of one path, over another path
abbrev pub with_path : Op → List (List ℕ) → Op
with_path (op.Create path) p = op.Create p
with_path (op.Mkdir path) p = op.Mkdir p
with_path (op.Symlink path target) p = op.Symlink p target
with_path (op.Unlink path) p = op.Unlink p
with_path (op.Rmdir path) p = op.Rmdir p
with_path (op.Write path off bytes) p = op.Write p off bytes
with_path (op.Fill path off len byte) p = op.Fill p off len byte
with_path (op.Truncate path len) p = op.Truncate p len
with_path (op.Read path off len) p = op.Read p off len
with_path (op.Stat path) p = op.Stat p
with_path (op.List path) p = op.List p
with_path (op.Readlink path) p = op.Readlink p
with_path (op.Time path) p = op.Time p
with_path o p = o

-- a rename or a link, over two other paths
abbrev pub with_paths : Op → List (List ℕ) → List (List ℕ) → Op
with_paths (op.Rename path to) p q = op.Rename p q
with_paths _ p q = op.Link p q

-- what an operation comes to
abbrev pub step_by : Step → TheStep
step_by (Goes o) = DoesGo o
step_by (Stops refusal) = DoesStop (reply_of refusal)

-- with the trail of its walks
abbrev pub resolved_by : Resolved → TheResolved
resolved_by resolved = record { step = step_by resolved.step; trail = resolved.trail.items }
