-- A walk is refused for a name that isn't there, or for what is no directory, and for nothing else.
use Rattle.std.proofs.Common.{ℕ, ◌≡◌, ◌*◌, ◌==◌, Bool, true, false, if◌then◌else◌, Option, Some, None, List, [], ◌∷◌, ◌++◌}
use Rattle.frang_base.specs.declared.reply.Reply.{Reply}
use Rattle.frang_base.specs.declared.reply.Reply.TheVariants as reply
use Rattle.disk_definitions.specs.Store.{Store, StoredNode}
use Rattle.disk_definitions.specs.Ask.{Ask, Got, ReadInode, run}
use Rattle.disk_definitions.specs.Walks.{Spot, Walked, Found, search, is_named, spot_by, look_up, in_inode, onward, walk_from, walk}
use Rattle.disk_definitions.specs.Walks.Spot.{AtRoot, AtName, AtGap, Lost}
use Rattle.plan_laws.proofs.Asking.{run-bind}

module _ (wants : Reply → Bool) (no_entry : wants reply.NoEnt ≡ false) (no_directory : wants reply.NotDir ≡ false) where
  -- the reply of a refused walk isn't wanted
  abbrev pub IsQuiet : Spot → Type 0
  IsQuiet AtRoot = Unit {0}
  IsQuiet (AtName i x name q e) = Unit {0}
  IsQuiet (AtGap i x name) = Unit {0}
  IsQuiet (Lost r) = wants r ≡ false

  found_quiet : (i : ℕ) (x : StoredNode) (name : List ℕ) (o : Option Found) → IsQuiet (spot_by i x name o)
  found_quiet i x name None = tt
  found_quiet i x name (Some (q, None)) = tt
  found_quiet i x name (Some (q, Some e)) = tt

  module _ (s : Store) where
    inode_quiet : (dirs : List ℕ) (i : ℕ) (name : List ℕ) (o : Option StoredNode) → IsQuiet (run (in_inode dirs i name o) s).spot
    inode_quiet dirs i name None = no_entry
    inode_quiet dirs i name (Some x) = go (x.kind == 2)
      where
        go : (b : Bool) → IsQuiet (run (if b then look_up dirs i x name else Got (record { spot = Lost reply.NotDir; dirs = dirs })) s).spot
        go false = no_directory
        go true = rw (run-bind {B = Walked} (search x.small (is_named name) 0 (8 * x.blocks)) (λ found. Got (record { spot = spot_by i x name found; dirs = dirs ++ i ∷ [] })) s) (found_quiet i x name (run (search x.small (is_named name) 0 (8 * x.blocks)) s))

    onward_quiet : (next : List ℕ → ℕ → Ask Walked) → ((more : List ℕ) (j : ℕ) → IsQuiet (run (next more j) s).spot) → (dirs : List ℕ) (v : Spot) → IsQuiet v → IsQuiet (run (onward next dirs v) s).spot
    onward_quiet next each dirs AtRoot f = each dirs 0
    onward_quiet next each dirs (AtGap i x name) f = no_entry
    onward_quiet next each dirs (Lost r) f = f
    onward_quiet next each dirs (AtName i x name q e) f = go (e.kind == 2)
      where
        go : (b : Bool) → IsQuiet (run (if b then next dirs e.inode else Got (record { spot = Lost reply.NotDir; dirs = dirs })) s).spot
        go true = each dirs e.inode
        go false = no_directory

    from_quiet : (path : List (List ℕ)) (dirs : List ℕ) (i : ℕ) → IsQuiet (run (walk_from dirs i path) s).spot
    from_quiet [] dirs i = tt
    from_quiet (name ∷ []) dirs i = inode_quiet dirs i name (s.inode i)
    from_quiet (name ∷ next ∷ names) dirs i =
        let w = run (in_inode dirs i name (s.inode i)) s in
        rw (run-bind (ReadInode i (in_inode dirs i name)) (λ w. onward (λ more j. walk_from more j (next ∷ names)) w.dirs w.spot) s)
        (onward_quiet (λ more j. walk_from more j (next ∷ names)) (λ more j. from_quiet (next ∷ names) more j) w.dirs w.spot (inode_quiet dirs i name (s.inode i)))

    pub walk_quiet : (path : List (List ℕ)) → IsQuiet (run (walk path) s).spot
    walk_quiet path = from_quiet path [] 0
