-- What a plan tests of inodes' numbers and kinds, the tree tests of births and nodes.
use Rattle.std.proofs.Common.{ℕ, ◌≡◌, Bool, true, false, ◌||◌, Option, Some, None, List, [], ◌∷◌, map, nat_eq, refl, sym, ◌∙◌, ap, ap₂, is_some, eqb-true, eq-eqb, ne_eqb}
use Rattle.std.proofs.lemmas.Bool.{eqb-false}
use Rattle.std.specs.List.{list_any}
use Rattle.tree_definitions.specs.declared.node.Node.{Node}
use Rattle.tree_definitions.specs.declared.node.Node.TheVariants.{Dir, File, Link}
use Rattle.tree_definitions.specs.Entries.{Entries, entry_at}
use Rattle.tree_definitions.specs.Tree.{FileTree, node_at}
use Rattle.tree_definitions.specs.Place.{place_by, place_in, walked_by, walked_from}
use Rattle.tree_definitions.specs.Apply.{is_dir}
use Rattle.disk_definitions.specs.Store.{Store}
use Rattle.disk_definitions.specs.Naming.{Naming, Nodes, Pictures}

module _ (s : Store) (at : Nodes) (n : Naming) (g : Pictures s at n) where
  -- nodes have inodes of their own
  pub own_inode : (c b : ℕ) → is_some (at c) ≡ true → is_some (at b) ≡ true → n.inode c ≡ n.inode b → c ≡ b
  own_inode c b i j e = let z : Some c ≡ Some b = sym (g.numbered c i) ∙ ap n.birth e ∙ g.numbered b j in cc

  pub same_inode_test : (c b : ℕ) → is_some (at c) ≡ true → is_some (at b) ≡ true → nat_eq (n.inode c) (n.inode b) ≡ nat_eq c b
  same_inode_test c b i j = go (nat_eq c b) refl
    where
      go : (t : Bool) → nat_eq c b ≡ t → nat_eq (n.inode c) (n.inode b) ≡ t
      go true e = eq-eqb (n.inode c) (n.inode b) (ap n.inode (eqb-true c b e))
      go false e = ne_eqb (n.inode c) (n.inode b) (λ q. eqb-false c b e (own_inode c b i j q))

  pub kind_test : (b : ℕ) (o : Option Node) → at b ≡ o → is_some o ≡ true → nat_eq (n.kind b) 2 ≡ is_dir o
  kind_test b None e some = absurd (cc)
  kind_test b (Some (Dir entries blocks)) e some = ap (λ k. nat_eq k 2) (g.kinds b (Dir entries blocks) e)
  kind_test b (Some (File cells links when)) e some = ap (λ k. nat_eq k 2) (g.kinds b (File cells links when) e)
  kind_test b (Some (Link target links)) e some = ap (λ k. nat_eq k 2) (g.kinds b (Link target links) e)

  -- there are nodes of these births
  abbrev pub AreThere : List ℕ → Type 0
  AreThere [] = Unit {0}
  AreThere (c ∷ cs) = (is_some (at c) ≡ true) × AreThere cs

  pub passes_test : (b : ℕ) → is_some (at b) ≡ true → (ds : List ℕ) → AreThere ds → list_any (λ i. nat_eq i (n.inode b)) (map n.inode ds) ≡ list_any (λ c. nat_eq c b) ds
  passes_test b j [] are = refl
  passes_test b j (c ∷ ds) are = ap₂ (λ t u. t || u) (same_inode_test c b are.0 j) (passes_test b j ds are.1)

pub same_order : (a b : ℕ) → nat_eq a b ≡ nat_eq b a
same_order a b = go (nat_eq b a) refl
  where
    go : (t : Bool) → nat_eq b a ≡ t → nat_eq a b ≡ t
    go true e = eq-eqb a b (sym (eqb-true b a e))
    go false e = ne_eqb a b (λ q. eqb-false b a e (sym q))

-- the directories of a walk are there
module _ (s : Store) (tree : FileTree) (n : Naming) (g : Pictures s (node_at tree) n) where
  abbrev Are : List ℕ → Type 0
  Are ds = AreThere s (node_at tree) n g ds

  by_birth : (d blocks : ℕ) (entries : Entries) (name : List ℕ) (o : Option ℕ) (next : ℕ → List ℕ) → is_some (node_at tree d) ≡ true → ((b : ℕ) → Are (next b)) → Are (walked_by (place_by d entries blocks name o) d next)
  by_birth d blocks entries name None next some f = (some, tt)
  by_birth d blocks entries name (Some b) next some f = (some, f b)

  in_node : (d : ℕ) (o : Option Node) (name : List ℕ) (next : ℕ → List ℕ) → node_at tree d ≡ o → ((b : ℕ) → Are (next b)) → Are (walked_by (place_in o d name) d next)
  in_node d None name next e f = tt
  in_node d (Some (Dir entries blocks)) name next e f = by_birth d blocks entries name (entry_at entries name) next (ap is_some e) f
  in_node d (Some (File cells links when)) name next e f = tt
  in_node d (Some (Link target links)) name next e f = tt

  pub walked_are : (path : List (List ℕ)) (d : ℕ) → Are (walked_from tree d path)
  walked_are [] d = tt
  walked_are (name ∷ names) d = in_node d (node_at tree d) name (λ b. walked_from tree b names) refl (λ b. walked_are names b)
