-- A walk looks only at inodes of nodes and at blocks of directories, which the disk has.
use Rattle.std.proofs.Common.{◌≡◌, ◌<◌, ◌≤◌, ◌+◌, ◌*◌, ◌/◌, ◌%◌, ◌==◌, ℕ, zero, suc, Bool, true, false, Option, Some, None, List, [], ◌∷◌, ◌++◌, if◌then◌else◌, is_some, nat_lt, refl, sym, ◌∙◌, ap, subst, arith, ⊎_elim}
use Rattle.std.proofs.lemmas.Bool.Decides.{nat_tests}
use Rattle.std.proofs.lemmas.Bool.{cases_lt}
use Rattle.frang_base.specs.declared.reply.Reply.TheVariants as reply
use Rattle.tree_definitions.specs.declared.node.Node.{Node}
use Rattle.tree_definitions.specs.declared.node.Node.TheVariants.{Dir, File, Link}
use Rattle.tree_definitions.specs.Entries.{Entries}
use Rattle.tree_definitions.specs.Tree.{FileTree, node_at}
use Rattle.tree_definitions.specs.Place.{Place, place_in}
use Rattle.tree_laws.proofs.Places.{dir_is_some}
use Rattle.tree_laws.proofs.Keeping.{names_nodes}
use Rattle.disk_definitions.specs.Store.{Store, StoredEntry}
use Rattle.disk_definitions.specs.Store.Use.{Fresh, Bytes as OfBytes, Entries as OfEntries}
use Rattle.disk_definitions.specs.Naming.{Naming, blocks_of, first_blocks, use_for}
use Rattle.disk_definitions.proofs.Kept.{inode_is}
use Rattle.disk_definitions.specs.Least.{least}
use Rattle.disk_definitions.specs.Ask.{Sector, Ask, Got, ReadInode, bind, seven, run, looks}
use Rattle.disk_definitions.specs.Walks.{Spot, Lost, Found, or_on, hit, search, is_named, spot_by, in_inode, onward, walk_from, walk}
use Rattle.disk_definitions.specs.Meets.{IsOfTree}
use Rattle.plan_laws.specs.Walking.{Mirrors}
use Rattle.plan_laws.proofs.Asking.{looks-bind}
use Rattle.plan_laws.proofs.Cases.{inode_by, by_spot}
use Rattle.plan_laws.proofs.Spots.{in_inode_leads}
use Rattle.plan_laws.specs.Inside.{AreInside}

pub inside_append : (segments : ℕ) (xs ys : List Sector) → AreInside segments xs → AreInside segments ys → AreInside segments (xs ++ ys)
inside_append segments [] ys a b = b
inside_append segments (x ∷ xs) ys a b = (a.0, inside_append segments xs ys a.1 b)

pub inside_bind : {A B : Type 0} (segments : ℕ) (p : Ask A) (f : A → Ask B) (s : Store) → AreInside segments (looks p s) → AreInside segments (looks (f (run p s)) s) → AreInside segments (looks (bind p f) s)
inside_bind segments p f s a b = subst (AreInside segments) (sym (looks-bind p f s)) (inside_append segments (looks p s) (looks (f (run p s)) s) a b)

-- a search of blocks that the disk has
pub search_inside : (segments : ℕ) (s : Store) (small : ℕ → ℕ) (test : Option StoredEntry → Bool) (n j : ℕ) → ((t : ℕ) → j ≤ t → t < j + n → small (t / 8) < 1024 * segments) → AreInside segments (looks (search small test j n) s)
search_inside segments s small test zero j f = tt
search_inside segments s small test (suc n) j f =
    let v = seven s.place (small (j / 8)) (j % 8) in
    (f j (omega arith) (omega arith), on (search_inside segments s small test n (j + 1) (λ t a b. f t (omega arith) (omega arith))) (hit test j v (least (λ r. test (v r)) 7)))
  where
    on : AreInside segments (looks (search small test (j + 1) n) s) → (o : Option Found) → AreInside segments (looks (or_on o (search small test (j + 1) n)) s)
    on rest None = rest
    on rest (Some x) = tt

module _ (s : Store) (tree : FileTree) (n : Naming) (of : IsOfTree s tree n) where
  abbrev Inside : List Sector → Type 0
  Inside = AreInside tree.segments

  pub inode_inside : (b : ℕ) → is_some (node_at tree b) ≡ true → n.inode b < 64 * tree.segments
  inode_inside b there = of.inodes (n.inode b) (of.pictures.bits (n.inode b) ∙ ap is_some (of.pictures.numbered b there))

  -- a block of a node is in use
  block_used : (k b j : ℕ) (o : Option Node) → node_at tree b ≡ o → n.owner k ≡ Some (b, j) → j < blocks_of o → s.use_of k ≡ Fresh → ⊥
  block_used k b j None is own l e = omega arith
  block_used k b j (Some (Link target links)) is own l e = omega arith
  block_used k b j (Some (Dir entries blocks)) is own l e = let used : s.use_of k ≡ OfEntries = of.pictures.uses k ∙ ap (use_for (n.was k) (node_at tree)) own ∙ rw is refl in let z : OfEntries ≡ Fresh = sym used ∙ e in cc
  block_used k b j (Some (File cells links when)) is own l e = let used : s.use_of k ≡ OfBytes = of.pictures.uses k ∙ ap (use_for (n.was k) (node_at tree)) own ∙ rw is refl in let z : OfBytes ≡ Fresh = sym used ∙ e in cc

  pub block_inside : (b j : ℕ) → j < blocks_of (node_at tree b) → n.block b j < 1024 * tree.segments
  block_inside b j l = ⊎_elim (λ below. below) (λ above. absurd (block_used (n.block b j) b j (node_at tree b) refl (of.pictures.owned b j l) l (of.blocks (n.block b j) above))) (cases_lt (n.block b j) (1024 * tree.segments))

  -- all sectors of a directory
  pub directory_inside : (d blocks : ℕ) (entries : Entries) → node_at tree d ≡ Some (Dir entries blocks) → (test : Option StoredEntry → Bool) → Inside (looks (search (inode_by n d (Dir entries blocks)).small test 0 (8 * blocks)) s)
  directory_inside d blocks entries is test = search_inside tree.segments s (first_blocks blocks (n.block d)) test (8 * blocks) 0 (λ t a b.
      (let l : t / 8 < blocks = omega arith in let e : nat_lt (t / 8) blocks ≡ true = grind (arith, nat_tests) in rw e (block_inside d (t / 8) (rw is l))))

  -- a name below a node
  below_inside : (dirs : List ℕ) (d : ℕ) (name : List ℕ) (node : Node) → node_at tree d ≡ Some node → Inside (looks (in_inode dirs (n.inode d) name (Some (inode_by n d node))) s)
  below_inside dirs d name (Dir entries blocks) is =
      let x = inode_by n d (Dir entries blocks) in
      inside_bind tree.segments (search x.small (is_named name) 0 (8 * blocks)) (λ found. Got (record { spot = spot_by (n.inode d) x name found; dirs = dirs ++ n.inode d ∷ [] })) s
      (directory_inside d blocks entries is (is_named name)) tt
  below_inside dirs d name (File cells links when) is = tt
  below_inside dirs d name (Link target links) is = tt

  step_inside : (dirs : List ℕ) (d : ℕ) (name : List ℕ) (o : Option Node) → node_at tree d ≡ o → is_some o ≡ true → Inside (looks (ReadInode (n.inode d) (in_inode dirs (n.inode d) name)) s)
  step_inside dirs d name None is some = absurd (cc)
  step_inside dirs d name (Some node) is some = (inode_inside d (ap is_some is), subst (λ x. Inside (looks (in_inode dirs (n.inode d) name x) s)) (sym (inode_is s (node_at tree) n of.pictures d node is)) (below_inside dirs d name node is))

  -- on from a name on the way
  onward_inside : (path : List (List ℕ)) → ((dirs : List ℕ) (d : ℕ) → is_some (node_at tree d) ≡ true → Inside (looks (walk_from dirs (n.inode d) path) s)) →
      (dirs : List ℕ) (v : Spot) (p : Place) → Mirrors s (node_at tree) n v p → Inside (looks (onward (λ more j. walk_from more j path) dirs v) s)
  onward_inside path f dirs = by_spot s (node_at tree) n of.pictures (λ v p. Inside (looks (onward (λ more j. walk_from more j path) dirs v) s))
      (subst (λ i. Inside (looks (walk_from dirs i path) s)) of.root (f dirs 0 (dir_is_some (node_at tree 0) of.well_formed.rooted)))
      (λ r. tt)
      (λ d blocks entries name b is at. by_kind (n.kind b == 2) b (names_nodes tree of.well_formed d entries blocks name b is at))
      (λ d blocks entries name is at. tt)
    where
      by_kind : (c : Bool) (b : ℕ) → is_some (node_at tree b) ≡ true → Inside (looks (if c then walk_from dirs (n.inode b) path else Got (record { spot = Lost reply.NotDir; dirs = dirs })) s)
      by_kind true b there = f dirs b there
      by_kind false b there = tt

  walk_inside_from : (path : List (List ℕ)) (dirs : List ℕ) (d : ℕ) → is_some (node_at tree d) ≡ true → Inside (looks (walk_from dirs (n.inode d) path) s)
  walk_inside_from [] dirs d there = tt
  walk_inside_from (name ∷ []) dirs d there = step_inside dirs d name (node_at tree d) refl there
  walk_inside_from (name ∷ next ∷ names) dirs d there =
      let w = run (ReadInode (n.inode d) (in_inode dirs (n.inode d) name)) s in
      let first = in_inode_leads s (node_at tree) n of.pictures dirs d name (node_at tree d) refl there in
      inside_bind tree.segments (ReadInode (n.inode d) (in_inode dirs (n.inode d) name)) (λ w. onward (λ more j. walk_from more j (next ∷ names)) w.dirs w.spot) s
      (step_inside dirs d name (node_at tree d) refl there)
      (onward_inside (next ∷ names) (λ more c t. walk_inside_from (next ∷ names) more c t) w.dirs w.spot (place_in (node_at tree d) d name) first.spot)

  pub walk_inside : (path : List (List ℕ)) → Inside (looks (walk path) s)
  walk_inside path = subst (λ i. Inside (looks (walk_from [] i path) s)) of.root (walk_inside_from path [] 0 (dir_is_some (node_at tree 0) of.well_formed.rooted))
