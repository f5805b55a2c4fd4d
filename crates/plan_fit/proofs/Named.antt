-- The name at which a walk ends is one of its path.
use Rattle.std.proofs.Common.{◌≡◌, ℕ, ◌*◌, ◌==◌, Bool, true, false, if◌then◌else◌, Option, Some, None, List, [], ◌∷◌, ◌++◌}
use Rattle.frang_base.specs.Name.{is_name}
use Rattle.frang_base.specs.declared.reply.Reply.TheVariants as reply
use Rattle.disk_definitions.specs.Store.{Store, StoredNode}
use Rattle.disk_definitions.specs.Ask.{Ask, Got, ReadInode, run}
use Rattle.disk_definitions.specs.Walks.{Spot, Walked, Found, search, is_named, spot_by, look_up, in_inode, onward, walk_from, walk}
use Rattle.disk_definitions.specs.Walks.Spot.{AtRoot, AtName, AtGap, Lost}
use Rattle.plan_laws.proofs.Asking.{run-bind}
use Rattle.disk_definitions.specs.Allowed.{AreNames}

-- its name may be an entry's
abbrev pub HasName : Spot → Type 0
HasName AtRoot = Unit {0}
HasName (AtName i x name q e) = is_name name ≡ true
HasName (AtGap i x name) = is_name name ≡ true
HasName (Lost r) = Unit {0}

found_named : (i : ℕ) (x : StoredNode) (name : List ℕ) → is_name name ≡ true → (o : Option Found) → HasName (spot_by i x name o)
found_named i x name h None = h
found_named i x name h (Some (q, None)) = h
found_named i x name h (Some (q, Some e)) = h

module _ (s : Store) where
  inode_named : (dirs : List ℕ) (i : ℕ) (name : List ℕ) → is_name name ≡ true → (o : Option StoredNode) → HasName (run (in_inode dirs i name o) s).spot
  inode_named dirs i name h None = tt
  inode_named dirs i name h (Some x) = go (x.kind == 2)
    where
      go : (b : Bool) → HasName (run (if b then look_up dirs i x name else Got (record { spot = Lost reply.NotDir; dirs = dirs })) s).spot
      go false = tt
      go true = rw (run-bind {B = Walked} (search x.small (is_named name) 0 (8 * x.blocks)) (λ found. Got (record { spot = spot_by i x name found; dirs = dirs ++ i ∷ [] })) s) (found_named i x name h (run (search x.small (is_named name) 0 (8 * x.blocks)) s))

  onward_named : (next : List ℕ → ℕ → Ask Walked) → ((more : List ℕ) (j : ℕ) → HasName (run (next more j) s).spot) → (dirs : List ℕ) (v : Spot) → HasName (run (onward next dirs v) s).spot
  onward_named next each dirs AtRoot = each dirs 0
  onward_named next each dirs (AtGap i x name) = tt
  onward_named next each dirs (Lost r) = tt
  onward_named next each dirs (AtName i x name q e) = go (e.kind == 2)
    where
      go : (b : Bool) → HasName (run (if b then next dirs e.inode else Got (record { spot = Lost reply.NotDir; dirs = dirs })) s).spot
      go true = each dirs e.inode
      go false = tt

  from_named : (path : List (List ℕ)) → AreNames path → (dirs : List ℕ) (i : ℕ) → HasName (run (walk_from dirs i path) s).spot
  from_named [] h dirs i = tt
  from_named (name ∷ []) h dirs i = inode_named dirs i name h.0 (s.inode i)
  from_named (name ∷ next ∷ names) h dirs i =
      let w = run (in_inode dirs i name (s.inode i)) s in
      rw (run-bind (ReadInode i (in_inode dirs i name)) (λ w. onward (λ more j. walk_from more j (next ∷ names)) w.dirs w.spot) s)
      (onward_named (λ more j. walk_from more j (next ∷ names)) (λ more j. from_named (next ∷ names) h.1 more j) w.dirs w.spot)

  pub walk_named : (path : List (List ℕ)) → AreNames path → HasName (run (walk path) s).spot
  walk_named path h = from_named path h [] 0
