-- The plan of a line: its paths are resolved, and what the operation comes to is planned. It mirrors how a tree performs an operation.
use Rattle.std.specs.Prelude.{ℕ, Bool, true, false, not, ◌||◌, ◌==◌, Option, Some, None, List, [], ◌∷◌, ◌++◌}
use Rattle.frang_base.specs.declared.limits.TheConstants.{KIND_DIRECTORY}
use Rattle.frang_base.specs.declared.op.Op.{Op}
use Rattle.frang_base.specs.declared.op.Op.TheVariants as op
use Rattle.frang_base.specs.declared.reply.Reply.{Reply}
use Rattle.tree_definitions.specs.Perform.{Step, Goes, Stops, Resolved}
use Rattle.disk_definitions.specs.Ask.{Ask, Got, bind}
use Rattle.disk_definitions.specs.Plans.{Hand, Plan, refuse, shared_nodes}
use Rattle.disk_definitions.specs.Plans.Plan.{Lacks, Clears, Finishes}
use Rattle.disk_definitions.specs.PlanOf.{plan_of}
use Rattle.disk_definitions.specs.Resolving.{PathEnd, Leads, Refused, Resolution, resolve}

-- ---- what an operation comes to: the trail has inodes here, where the tree's has births

-- an operation over the path that a walk leads to
abbrev pub step_of : PathEnd → (List (List ℕ) → Op) → Step
step_of (Leads path kind) make = Goes (make path)
step_of (Refused reply) make = Stops reply

-- an operation over one path, behind a trail
abbrev pub by_path : List ℕ → (List (List ℕ) → Op) → Resolution → Ask Resolved
by_path trail make walk = Got (record { step = step_of walk.end make; trail = trail ++ walk.trail })

-- a walk found a node; a directory only counts where that is asked
abbrev pub is_found : Bool → Option ℕ → Bool
is_found dirs (Some kind) = dirs || not (kind == KIND_DIRECTORY)
is_found dirs None = false

-- the second path is walked only where the first walk found a node
abbrev pub by_second : Bool → List ℕ → List (List ℕ) → (List (List ℕ) → Op) → Ask Resolved
by_second true trail to make = bind (resolve false to) (by_path trail make)
by_second false trail to make = Got (record { step = Goes (make to); trail = trail })

-- an operation over two paths, from the end of the first walk and with its trail
abbrev pub by_first : Bool → List (List ℕ) → (List (List ℕ) → List (List ℕ) → Op) → PathEnd → List ℕ → Ask Resolved
by_first dirs to make (Leads path kind) trail = by_second (is_found dirs kind) trail to (make path)
by_first dirs to make (Refused reply) trail = Got (record { step = Stops reply; trail = trail })

-- an operation over one path, whose last name is followed or not
abbrev pub over_path : Bool → List (List ℕ) → (List (List ℕ) → Op) → Ask Resolved
over_path last path make = bind (resolve last path) (by_path [] make)

-- an operation over two paths
abbrev pub over_paths : Bool → List (List ℕ) → List (List ℕ) → (List (List ℕ) → List (List ℕ) → Op) → Ask Resolved
over_paths dirs path to make = bind (resolve false path) (λ walk. by_first dirs to make walk.end walk.trail)

-- an operation as it stands
abbrev pub as_it_stands : Op → Ask Resolved
as_it_stands operation = Got (record { step = Goes operation; trail = [] })

-- the walks of an operation, as the tree has them
abbrev pub resolved : Op → Ask Resolved
resolved (op.Create path) = over_path false path (λ p. op.Create p)
resolved (op.Mkdir path) = over_path false path (λ p. op.Mkdir p)
resolved (op.Symlink path target) = over_path false path (λ p. op.Symlink p target)
resolved (op.Link path to) = over_paths false path to (λ p q. op.Link p q)
resolved (op.Unlink path) = over_path false path (λ p. op.Unlink p)
resolved (op.Rmdir path) = over_path false path (λ p. op.Rmdir p)
resolved (op.Rename [] to) = as_it_stands (op.Rename [] to)
resolved (op.Rename (name ∷ names) []) = as_it_stands (op.Rename (name ∷ names) [])
resolved (op.Rename (name ∷ names) (new ∷ news)) = over_paths true (name ∷ names) (new ∷ news) (λ p q. op.Rename p q)
resolved (op.Write path off bytes) = over_path true path (λ p. op.Write p off bytes)
resolved (op.Fill path off len byte) = over_path true path (λ p. op.Fill p off len byte)
resolved (op.Truncate path len) = over_path true path (λ p. op.Truncate p len)
resolved (op.Read path off len) = over_path true path (λ p. op.Read p off len)
resolved (op.Stat path) = over_path false path (λ p. op.Stat p)
resolved (op.List path) = over_path true path (λ p. op.List p)
resolved (op.Readlink path) = over_path false path (λ p. op.Readlink p)
resolved (op.Time path) = over_path true path (λ p. op.Time p)
resolved op.Sync = as_it_stands op.Sync
resolved op.Mount = as_it_stands op.Mount
resolved op.Unmount = as_it_stands op.Unmount
resolved op.Crash = as_it_stands op.Crash
resolved (op.CrashAt k) = as_it_stands (op.CrashAt k)
resolved (op.CutAt k) = as_it_stands (op.CutAt k)
resolved op.Stall = as_it_stands op.Stall

-- ---- the plan

-- the nodes of the trail are locked too, each shared
abbrev pub with_trail : List ℕ → Plan → Plan
with_trail trail Lacks = Lacks
with_trail trail (Clears block locks) = Clears block (shared_nodes trail ++ locks)
with_trail trail (Finishes finish) = Finishes (record finish { locks = shared_nodes trail ++ finish.locks })

-- what the operation comes to is planned; the refusal of a walk touches the nodes of its trail
abbrev pub plan_step : Hand → ℕ → ℕ → List ℕ → Step → Ask Plan
plan_step hand birth when trail (Goes operation) = bind (plan_of hand birth when operation) (λ plan. Got (with_trail trail plan))
plan_step hand birth when trail (Stops reply) = Got (refuse reply trail)

-- of an operation with a path at a time, whose new node would have this birth
abbrev pub plan_of_line : Hand → ℕ → ℕ → Op → Ask Plan
plan_of_line hand birth when operation = bind (resolved operation) (λ walked. plan_step hand birth when walked.trail walked.step)
