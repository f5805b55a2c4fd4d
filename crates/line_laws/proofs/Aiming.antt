-- What holds of each plan that refuses and of each that goes on holds of one that looks for a node or a file.
use Rattle.std.proofs.Common.{ℕ, ◌≡◌, ◌==◌, Bool, true, false, Option, Some, None, List, [], ◌∷◌, ◌++◌, if◌then◌else◌, refl}
use Rattle.frang_base.specs.declared.limits.TheConstants.{KIND_DIRECTORY, KIND_FILE}
use Rattle.frang_base.specs.declared.reply.Reply.{Reply}
use Rattle.frang_base.specs.declared.reply.Reply.TheVariants as reply
use Rattle.tree_definitions.specs.Touched.{is_ok}
use Rattle.disk_definitions.specs.Store.{Store, StoredNode}
use Rattle.disk_definitions.specs.Ask.{Ask, ReadInode, run}
use Rattle.disk_definitions.specs.Walks.{Spot, Target, AtRoot, AtName, AtGap, Lost, walk, at_spot, at_target}
use Rattle.disk_definitions.specs.Plans.{Plan, refuse, refused}
use Rattle.disk_definitions.specs.LookPlans.{plan_of_node, with_inode, at_inode}
use Rattle.disk_definitions.specs.FilePlans.{at_file, with_file}
use Rattle.plan_laws.proofs.Asking.{run-bind}
use Rattle.plan_laws.proofs.Quiet.{IsQuiet, walk_quiet}

module _ (s : Store) (P : Plan → Type 0) (refuses : (r : Reply) (touched : List ℕ) → is_ok r ≡ false → P (refuse r touched)) where
  spot_case : (next : Target → Ask Plan) → ((t : Target) → P (run (next t) s)) → (v : Spot) (dirs : List ℕ) → IsQuiet is_ok refl refl v → P (run (at_spot v dirs refused next) s)
  spot_case next each AtRoot dirs quiet = each (record { inode = 0; kind = 2; dirs = dirs })
  spot_case next each (AtName i x name q e) dirs quiet = each (record { inode = e.inode; kind = e.kind; dirs = dirs })
  spot_case next each (AtGap i x name) dirs quiet = refuses reply.NoEnt dirs refl
  spot_case next each (Lost r) dirs quiet = refuses r dirs quiet

  pub node_case : (next : Target → Ask Plan) → ((t : Target) → P (run (next t) s)) → (path : List (List ℕ)) → P (run (plan_of_node path next) s)
  node_case next each path = let w = run (walk path) s in rw (run-bind (walk path) (λ w. at_target w refused next) s) (spot_case next each w.spot w.dirs (walk_quiet is_ok refl refl s path))

  -- a node of this kind alone
  pub kind_case : (next : Target → Ask Plan) (kind : ℕ) (r : Reply) → is_ok r ≡ false → ((t : Target) → P (run (next t) s)) → (t : Target) → P (run (if t.kind == kind then next t else refused r t.dirs) s)
  kind_case next kind r e each t = go (t.kind == kind)
    where
      go : (c : Bool) → P (run (if c then next t else refused r t.dirs) s)
      go true = each t
      go false = refuses r t.dirs e

  -- its inode
  pub inode_case : (next : List ℕ → StoredNode → Ask Plan) → ((touched : List ℕ) (x : StoredNode) → P (run (next touched x) s)) → (t : Target) → P (run (at_inode next t) s)
  inode_case next each t = go (s.inode t.inode)
    where
      go : (o : Option StoredNode) → P (run (with_inode next (t.dirs ++ t.inode ∷ []) o) s)
      go None = refuses reply.NoEnt (t.dirs ++ t.inode ∷ []) refl
      go (Some x) = each (t.dirs ++ t.inode ∷ []) x

  -- a file
  pub file_case : (next : ℕ → List ℕ → StoredNode → Ask Plan) → ((i : ℕ) (touched : List ℕ) (x : StoredNode) → P (run (next i touched x) s)) → (t : Target) → P (run (at_file next t) s)
  file_case next each t = go (t.kind == KIND_DIRECTORY) (t.kind == KIND_FILE)
    where
      touched : List ℕ
      touched = t.dirs ++ t.inode ∷ []

      by_kind : (x : StoredNode) (c : Bool) → P (run (if c then next t.inode touched x else refused reply.Inval touched) s)
      by_kind x true = each t.inode touched x
      by_kind x false = refuses reply.Inval touched refl

      read : (o : Option StoredNode) → P (run (with_file (next t.inode touched) touched o) s)
      read None = refuses reply.NoEnt touched refl
      read (Some x) = by_kind x (x.kind == KIND_FILE)

      go : (a b : Bool) → P (run (if a then refused reply.IsDir t.dirs else (if b then ReadInode t.inode (with_file (next t.inode touched) touched) else refused reply.Inval t.dirs)) s)
      go true b = refuses reply.IsDir t.dirs refl
      go false true = read (s.inode t.inode)
      go false false = refuses reply.Inval t.dirs refl
