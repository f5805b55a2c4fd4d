-- A walk looks only at sectors of blocks that are a directory's.
use Rattle.std.proofs.Common.{◌≡◌, ◌<◌, ◌≤◌, ◌+◌, ◌*◌, ◌/◌, ◌%◌, ◌==◌, ℕ, zero, suc, inl, Bool, true, false, Option, Some, None, List, [], ◌∷◌, ◌++◌, if◌then◌else◌, is_some, nat_lt, refl, sym, ◌∙◌, ap, subst, arith}
use Rattle.std.proofs.lemmas.Bool.Decides.{nat_tests}
use Rattle.std.specs.List.{AllByRecursion}
use Rattle.frang_base.specs.declared.reply.Reply.TheVariants as reply
use Rattle.tree_definitions.specs.declared.node.Node.{Node}
use Rattle.tree_definitions.specs.declared.node.Node.TheVariants.{Dir, File, Link}
use Rattle.tree_definitions.specs.Entries.{Entries}
use Rattle.tree_definitions.specs.Tree.{FileTree, node_at}
use Rattle.tree_definitions.specs.Place.{Place, place_in}
use Rattle.tree_laws.proofs.Places.{dir_is_some}
use Rattle.tree_laws.proofs.Keeping.{names_nodes}
use Rattle.disk_definitions.specs.Store.{Store, StoredEntry}
use Rattle.disk_definitions.specs.Store.Use.{Entries as OfEntries}
use Rattle.disk_definitions.specs.Naming.{Naming, first_blocks, use_for}
use Rattle.disk_definitions.proofs.Kept.{inode_is}
use Rattle.disk_definitions.specs.Least.{least}
use Rattle.disk_definitions.specs.Ask.{Sector, Ask, Got, ReadInode, bind, seven, run, looks}
use Rattle.disk_definitions.specs.Walks.{Spot, Lost, Found, or_on, hit, search, is_named, spot_by, in_inode, onward, walk_from, walk}
use Rattle.disk_definitions.specs.Meets.{IsOfTree, is_directory_use}
use Rattle.disk_definitions.specs.Plans.{Hand}
use Rattle.plan_laws.specs.Walking.{Mirrors}
use Rattle.plan_laws.proofs.Asking.{looks-bind}
use Rattle.plan_laws.proofs.Cases.{inode_by, by_spot}
use Rattle.plan_laws.proofs.Spots.{in_inode_leads}
use Rattle.line_sectors.specs.Looks.{IsOfDirectory}

module _ (h : Hand) (s : Store) where
  abbrev pub AreOfDirectories : List Sector → Type 0
  AreOfDirectories xs = AllByRecursion (IsOfDirectory h s) xs

  pub both_of : (xs ys : List Sector) → AreOfDirectories xs → AreOfDirectories ys → AreOfDirectories (xs ++ ys)
  both_of [] ys a b = b
  both_of (x ∷ xs) ys a b = (a.0, both_of xs ys a.1 b)

  pub then_of : {A B : Type 0} (p : Ask A) (f : A → Ask B) → AreOfDirectories (looks p s) → AreOfDirectories (looks (f (run p s)) s) → AreOfDirectories (looks (bind p f) s)
  then_of p f a b = subst AreOfDirectories (sym (looks-bind p f s)) (both_of (looks p s) (looks (f (run p s)) s) a b)

  -- a search of blocks that are a directory's
  pub search_of : (small : ℕ → ℕ) (test : Option StoredEntry → Bool) (n j : ℕ) → ((t : ℕ) → j ≤ t → t < j + n → is_directory_use (s.use_of (small (t / 8))) ≡ true) → AreOfDirectories (looks (search small test j n) s)
  search_of small test zero j f = tt
  search_of small test (suc n) j f =
      let v = seven s.place (small (j / 8)) (j % 8) in
      (inl (f j (omega arith) (omega arith)), on (search_of small test n (j + 1) (λ t a b. f t (omega arith) (omega arith))) (hit test j v (least (λ r. test (v r)) 7)))
    where
      on : AreOfDirectories (looks (search small test (j + 1) n) s) → (o : Option Found) → AreOfDirectories (looks (or_on o (search small test (j + 1) n)) s)
      on rest None = rest
      on rest (Some x) = tt

  module _ (tree : FileTree) (n : Naming) (of : IsOfTree s tree n) where
    -- a block of a directory
    pub block_of : (b j blocks : ℕ) (entries : Entries) → node_at tree b ≡ Some (Dir entries blocks) → j < blocks → is_directory_use (s.use_of (n.block b j)) ≡ true
    block_of b j blocks entries is l =
        let own = of.pictures.owned b j (rw is l) in
        let used : s.use_of (n.block b j) ≡ OfEntries = of.pictures.uses (n.block b j) ∙ ap (use_for (n.was (n.block b j)) (node_at tree)) own ∙ rw is refl in
        ap is_directory_use used

    -- all sectors of a directory
    pub directory_of : (d blocks : ℕ) (entries : Entries) → node_at tree d ≡ Some (Dir entries blocks) → (test : Option StoredEntry → Bool) →
        AreOfDirectories (looks (search (inode_by n d (Dir entries blocks)).small test 0 (8 * blocks)) s)
    directory_of d blocks entries is test = search_of (first_blocks blocks (n.block d)) test (8 * blocks) 0 (λ t a b.
        (let l : t / 8 < blocks = omega arith in let e : nat_lt (t / 8) blocks ≡ true = grind (arith, nat_tests) in rw e (block_of d (t / 8) blocks entries is l)))

    -- a name below a node
    below_of : (dirs : List ℕ) (d : ℕ) (name : List ℕ) (node : Node) → node_at tree d ≡ Some node → AreOfDirectories (looks (in_inode dirs (n.inode d) name (Some (inode_by n d node))) s)
    below_of dirs d name (Dir entries blocks) is =
        let x = inode_by n d (Dir entries blocks) in
        then_of (search x.small (is_named name) 0 (8 * blocks)) (λ found. Got (record { spot = spot_by (n.inode d) x name found; dirs = dirs ++ n.inode d ∷ [] }))
        (directory_of d blocks entries is (is_named name)) tt
    below_of dirs d name (File cells links when) is = tt
    below_of dirs d name (Link target links) is = tt

    step_of : (dirs : List ℕ) (d : ℕ) (name : List ℕ) (o : Option Node) → node_at tree d ≡ o → is_some o ≡ true → AreOfDirectories (looks (ReadInode (n.inode d) (in_inode dirs (n.inode d) name)) s)
    step_of dirs d name None is some = absurd (cc)
    step_of dirs d name (Some node) is some = (tt, subst (λ x. AreOfDirectories (looks (in_inode dirs (n.inode d) name x) s)) (sym (inode_is s (node_at tree) n of.pictures d node is)) (below_of dirs d name node is))

    -- on from a name on the way
    onward_of : (path : List (List ℕ)) → ((dirs : List ℕ) (d : ℕ) → is_some (node_at tree d) ≡ true → AreOfDirectories (looks (walk_from dirs (n.inode d) path) s)) →
        (dirs : List ℕ) (v : Spot) (p : Place) → Mirrors s (node_at tree) n v p → AreOfDirectories (looks (onward (λ more j. walk_from more j path) dirs v) s)
    onward_of path f dirs = by_spot s (node_at tree) n of.pictures (λ v p. AreOfDirectories (looks (onward (λ more j. walk_from more j path) dirs v) s))
        (subst (λ i. AreOfDirectories (looks (walk_from dirs i path) s)) of.root (f dirs 0 (dir_is_some (node_at tree 0) of.well_formed.rooted)))
        (λ r. tt)
        (λ d blocks entries name b is at. by_kind (n.kind b == 2) b (names_nodes tree of.well_formed d entries blocks name b is at))
        (λ d blocks entries name is at. tt)
      where
        by_kind : (c : Bool) (b : ℕ) → is_some (node_at tree b) ≡ true → AreOfDirectories (looks (if c then walk_from dirs (n.inode b) path else Got (record { spot = Lost reply.NotDir; dirs = dirs })) s)
        by_kind true b there = f dirs b there
        by_kind false b there = tt

    walk_of_from : (path : List (List ℕ)) (dirs : List ℕ) (d : ℕ) → is_some (node_at tree d) ≡ true → AreOfDirectories (looks (walk_from dirs (n.inode d) path) s)
    walk_of_from [] dirs d there = tt
    walk_of_from (name ∷ []) dirs d there = step_of dirs d name (node_at tree d) refl there
    walk_of_from (name ∷ next ∷ names) dirs d there =
        let w = run (ReadInode (n.inode d) (in_inode dirs (n.inode d) name)) s in
        let first = in_inode_leads s (node_at tree) n of.pictures dirs d name (node_at tree d) refl there in
        then_of (ReadInode (n.inode d) (in_inode dirs (n.inode d) name)) (λ w. onward (λ more j. walk_from more j (next ∷ names)) w.dirs w.spot)
        (step_of dirs d name (node_at tree d) refl there)
        (onward_of (next ∷ names) (λ more c t. walk_of_from (next ∷ names) more c t) w.dirs w.spot (place_in (node_at tree d) d name) first.spot)

    pub walk_of : (path : List (List ℕ)) → AreOfDirectories (looks (walk path) s)
    walk_of path = subst (λ i. AreOfDirectories (looks (walk_from [] i path) s)) of.root (walk_of_from path [] 0 (dir_is_some (node_at tree 0) of.well_formed.rooted))
