-- Sectors of the nodes of a trail, over the disk of a tree.
use Rattle.std.proofs.Common.{◌≡◌, ◌<◌, ◌≤◌, ◌+◌, ◌*◌, ◌/◌, ◌%◌, ℕ, zero, suc, Bool, true, nat_lt, Option, Some, None, List, [], ◌∷◌, ◌++◌, is_some, refl, sym, ap, subst, arith}
use Rattle.std.proofs.lemmas.Bool.Decides.{nat_tests}
use Rattle.std.specs.List.{AllByRecursion, Contains}
use Rattle.tree_definitions.specs.declared.node.Node.TheVariants.{Dir}
use Rattle.tree_definitions.specs.Entries.{Entries}
use Rattle.tree_definitions.specs.Tree.{FileTree, node_at}
use Rattle.disk_definitions.specs.Store.{Store, StoredEntry}
use Rattle.disk_definitions.specs.Naming.{Naming, blocks_of, first_blocks}
use Rattle.disk_definitions.specs.Least.{least}
use Rattle.disk_definitions.specs.Ask.{Sector, InodeAt, DirectoryAt, Ask, Got, bind, seven, run, looks}
use Rattle.disk_definitions.specs.Walks.{Found, or_on, hit, search}
use Rattle.plan_laws.proofs.Asking.{looks-bind}
use Rattle.plan_laws.proofs.Cases.{inode_by}
use Rattle.plan_laws.proofs.Covering.{has_more}

module _ (tree : FileTree) (n : Naming) where
  -- the inode of a node, or a sector of one of its small blocks
  abbrev pub IsSectorOf : ℕ → Sector → Type 0
  IsSectorOf b (InodeAt i) = i ≡ n.inode b
  IsSectorOf b (DirectoryAt k part) = (j : ℕ) × (j < blocks_of (node_at tree b)) × (k ≡ n.block b j)
  IsSectorOf b _ = ⊥

  -- a sector of a node of the tree that is on the trail
  pub record IsOnTrail (trail : List ℕ) (sector : Sector) : Type 0 where
    pub node : ℕ
    pub on : Contains trail node
    pub there : is_some (node_at tree node) ≡ true
    pub of_node : IsSectorOf node sector

  abbrev pub AreOnTrail : List ℕ → List Sector → Type 0
  AreOnTrail trail sectors = AllByRecursion (IsOnTrail trail) sectors

  pub on_longer : (trail longer : List ℕ) → ((b : ℕ) → Contains trail b → Contains longer b) → (xs : List Sector) → AreOnTrail trail xs → AreOnTrail longer xs
  on_longer trail longer f [] a = tt
  on_longer trail longer f (x ∷ xs) a = (record { node = a.0.node; on = f a.0.node a.0.on; there = a.0.there; of_node = a.0.of_node }, on_longer trail longer f xs a.1)

  pub on_behind : (b : ℕ) (trail : List ℕ) (xs : List Sector) → AreOnTrail trail xs → AreOnTrail (b ∷ trail) xs
  on_behind b trail = on_longer trail (b ∷ trail) (λ c h. has_more b c trail h)

  pub on_both : (trail : List ℕ) (xs ys : List Sector) → AreOnTrail trail xs → AreOnTrail trail ys → AreOnTrail trail (xs ++ ys)
  on_both trail [] ys a b = b
  on_both trail (x ∷ xs) ys a b = (a.0, on_both trail xs ys a.1 b)

  module _ (s : Store) where
    -- one computation, and then another
    pub on_bind : {A B : Type 0} (trail : List ℕ) (p : Ask A) (f : A → Ask B) → AreOnTrail trail (looks p s) → AreOnTrail trail (looks (f (run p s)) s) → AreOnTrail trail (looks (bind p f) s)
    on_bind trail p f a b = subst (AreOnTrail trail) (sym (looks-bind p f s)) (on_both trail (looks p s) (looks (f (run p s)) s) a b)

    -- a computation, and its value changed
    pub on_got : {A B : Type 0} (trail : List ℕ) (p : Ask A) (f : A → B) → AreOnTrail trail (looks p s) → AreOnTrail trail (looks (bind p (λ a. Got (f a))) s)
    on_got trail p f a = on_bind trail p (λ a. Got (f a)) a tt

    -- so many sectors of a node
    pub on_search : (trail : List ℕ) (small : ℕ → ℕ) (test : Option StoredEntry → Bool) (m j : ℕ) → ((t : ℕ) → j ≤ t → t < j + m → IsOnTrail trail (DirectoryAt (small (t / 8)) (t % 8))) → AreOnTrail trail (looks (search small test j m) s)
    on_search trail small test zero j f = tt
    on_search trail small test (suc m) j f =
        let v = seven s.place (small (j / 8)) (j % 8) in
        (f j (omega arith) (omega arith), rest (on_search trail small test m (j + 1) (λ t a b. f t (omega arith) (omega arith))) (hit test j v (least (λ r. test (v r)) 7)))
      where
        rest : AreOnTrail trail (looks (search small test (j + 1) m) s) → (o : Option Found) → AreOnTrail trail (looks (or_on o (search small test (j + 1) m)) s)
        rest on None = on
        rest on (Some x) = tt

    -- all sectors of a directory
    pub on_directory : (d blocks : ℕ) (entries : Entries) (trail : List ℕ) → node_at tree d ≡ Some (Dir entries blocks) → Contains trail d → (test : Option StoredEntry → Bool) →
        AreOnTrail trail (looks (search (inode_by n d (Dir entries blocks)).small test 0 (8 * blocks)) s)
    on_directory d blocks entries trail is on test = on_search trail (first_blocks blocks (n.block d)) test (8 * blocks) 0 (λ t a b.
        (let l : t / 8 < blocks = omega arith in
        let e : nat_lt (t / 8) blocks ≡ true = grind (arith, nat_tests) in
        record { node = d; on = on; there = ap is_some is; of_node = (t / 8, rw is l, rw e refl) }))

  -- the inode of a node
  pub on_inode : (b : ℕ) (trail : List ℕ) → is_some (node_at tree b) ≡ true → Contains trail b → IsOnTrail trail (InodeAt (n.inode b))
  on_inode b trail there on = record { node = b; on = on; there = there; of_node = refl }
