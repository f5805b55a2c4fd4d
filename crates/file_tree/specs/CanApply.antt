-- Which operations may be applied to a tree.
use Rattle.std.specs.Prelude.{Bool, false, ◌≡◌, true, IsTrue}
use Rattle.frang_base.specs.declared.op.Op.{Op}
use Rattle.frang_base.specs.declared.op.Op.TheVariants as op
use Rattle.frang_base.specs.Name.{is_target}
use Rattle.tree_definitions.specs.Tree.{FileTree}
use Rattle.tree_definitions.specs.Apply.{apply}
use Rattle.tree_definitions.specs.Perform.{Step, Goes, Stops, resolved}
use Rattle.file_tree.specs.Sure.{shows_sure}

-- one with a path; a target is one that scripts may have, and a read shows no cell in doubt
abbrev pub CanApply : FileTree → Op → Type 0
CanApply tree (op.Symlink path target) = IsTrue (is_target target)
CanApply tree (op.Read path off len) = shows_sure (apply tree (op.Read path off len) 0 0 0).answer ≡ true
CanApply tree op.Sync = ⊥
CanApply tree op.Mount = ⊥
CanApply tree op.Unmount = ⊥
CanApply tree op.Crash = ⊥
CanApply tree (op.CrashAt k) = ⊥
CanApply tree (op.CutAt k) = ⊥
CanApply tree op.Stall = ⊥
CanApply tree _ = Unit {0}

-- what it comes to may be applied
abbrev pub CanGo : FileTree → Step → Type 0
CanGo tree (Goes o) = CanApply tree o
CanGo tree (Stops reply) = Unit {0}

-- one with paths that may lead through links
abbrev pub CanPerform : FileTree → Op → Type 0
CanPerform tree o = CanGo tree (resolved tree o).step

-- an operation that makes, moves or removes names
abbrev pub names : Op → Bool
names (op.Create path) = true
names (op.Mkdir path) = true
names (op.Symlink path target) = true
names (op.Link path to) = true
names (op.Unlink path) = true
names (op.Rmdir path) = true
names (op.Rename path to) = true
names _ = false
