-- What an operation answers and does where its paths may lead through symbolic links: its walks, in the order of its refusals, and then it
-- is applied to the paths without links that they lead to.
use Rattle.std.specs.Prelude.{ℕ, Bool, true, false, not, ◌||◌, Option, Some, None, List, [], ◌∷◌, ◌++◌}
use Rattle.frang_base.specs.declared.op.Op.{Op}
use Rattle.frang_base.specs.declared.op.Op.TheVariants as op
use Rattle.frang_base.specs.declared.reply.Reply.{Reply}
use Rattle.tree_definitions.specs.Tree.{FileTree, node_at}
use Rattle.tree_definitions.specs.Apply.{Applied, says, is_dir, apply}
use Rattle.tree_definitions.specs.Resolve.{WalkEnd, At, Refused, Resolution, resolve}

-- an operation over paths without links, or the refusal of a walk
pub data Step : Type 0 where
  Goes : (op : Op) → Step
  Stops : (reply : Reply) → Step

-- what an operation comes to, and the directories and links that its walks went through, in order
pub record Resolved : Type 0 where
  pub step : Step
  pub trail : List ℕ

-- an operation as it stands
abbrev pub goes : Op → Resolved
goes o = record { step = Goes o; trail = [] }

-- an operation over the path that a walk leads to
abbrev pub step_of : WalkEnd → (List (List ℕ) → Op) → Step
step_of (At path found) make = Goes (make path)
step_of (Refused reply) make = Stops reply

-- an operation over one path
abbrev pub by_path : Resolution → (List (List ℕ) → Op) → Resolved
by_path walk make = record { step = step_of walk.end make; trail = walk.trail }

-- a walk found a node; a directory only counts where that is asked
abbrev pub is_found : FileTree → Bool → Option ℕ → Bool
is_found tree dirs (Some birth) = dirs || not (is_dir (node_at tree birth))
is_found tree dirs None = false

-- what goes before
abbrev pub after_trail : List ℕ → Resolved → Resolved
after_trail trail resolved = record { step = resolved.step; trail = trail ++ resolved.trail }

-- the second path is walked only where the first walk found a node
abbrev pub by_second : Bool → List ℕ → Resolution → List (List ℕ) → (List (List ℕ) → Op) → Resolved
by_second true trail walk to make = after_trail trail (by_path walk make)
by_second false trail walk to make = record { step = Goes (make to); trail = trail }

-- an operation over two paths, from the end of the first walk and with its trail
abbrev pub by_first : FileTree → Bool → WalkEnd → List ℕ → Resolution → List (List ℕ) → (List (List ℕ) → List (List ℕ) → Op) → Resolved
by_first tree dirs (At path found) trail walk to make = by_second (is_found tree dirs found) trail walk to (make path)
by_first tree dirs (Refused reply) trail walk to make = record { step = Stops reply; trail = trail }

-- an operation over two paths
abbrev pub by_paths : FileTree → Bool → Resolution → Resolution → List (List ℕ) → (List (List ℕ) → List (List ℕ) → Op) → Resolved
by_paths tree dirs walk second to make = by_first tree dirs walk.end walk.trail second to make

-- the walks of an operation. The last name of a path is followed by what writes, reads or lists it and by `time`, and by nothing else; a rename from or to
-- the root is refused before any walk
abbrev pub resolved : FileTree → Op → Resolved
resolved tree (op.Create path) = by_path (resolve tree false path) (λ p. op.Create p)
resolved tree (op.Mkdir path) = by_path (resolve tree false path) (λ p. op.Mkdir p)
resolved tree (op.Symlink path target) = by_path (resolve tree false path) (λ p. op.Symlink p target)
resolved tree (op.Link path to) = by_paths tree false (resolve tree false path) (resolve tree false to) to (λ p q. op.Link p q)
resolved tree (op.Unlink path) = by_path (resolve tree false path) (λ p. op.Unlink p)
resolved tree (op.Rmdir path) = by_path (resolve tree false path) (λ p. op.Rmdir p)
resolved tree (op.Rename [] to) = goes (op.Rename [] to)
resolved tree (op.Rename (name ∷ names) []) = goes (op.Rename (name ∷ names) [])
resolved tree (op.Rename (name ∷ names) (new ∷ news)) = by_paths tree true (resolve tree false (name ∷ names)) (resolve tree false (new ∷ news)) (new ∷ news) (λ p q. op.Rename p q)
resolved tree (op.Write path off bytes) = by_path (resolve tree true path) (λ p. op.Write p off bytes)
resolved tree (op.Fill path off len byte) = by_path (resolve tree true path) (λ p. op.Fill p off len byte)
resolved tree (op.Truncate path len) = by_path (resolve tree true path) (λ p. op.Truncate p len)
resolved tree (op.Read path off len) = by_path (resolve tree true path) (λ p. op.Read p off len)
resolved tree (op.Stat path) = by_path (resolve tree false path) (λ p. op.Stat p)
resolved tree (op.List path) = by_path (resolve tree true path) (λ p. op.List p)
resolved tree (op.Readlink path) = by_path (resolve tree false path) (λ p. op.Readlink p)
resolved tree (op.Time path) = by_path (resolve tree true path) (λ p. op.Time p)
resolved tree op.Sync = goes op.Sync
resolved tree op.Mount = goes op.Mount
resolved tree op.Unmount = goes op.Unmount
resolved tree op.Crash = goes op.Crash
resolved tree (op.CrashAt k) = goes (op.CrashAt k)
resolved tree (op.CutAt k) = goes (op.CutAt k)
resolved tree op.Stall = goes op.Stall

-- what an operation comes to is applied; the refusal of a walk leaves the tree
abbrev pub perform_step : FileTree → Step → ℕ → ℕ → ℕ → Applied
perform_step tree (Goes o) birth when m = apply tree o birth when m
perform_step tree (Stops reply) birth when m = says tree reply

-- an operation whose paths may lead through links, at a birth that no node has and at a time; m as for `apply`
abbrev pub perform : FileTree → Op → ℕ → ℕ → ℕ → Applied
perform tree o birth when m = perform_step tree (resolved tree o).step birth when m
