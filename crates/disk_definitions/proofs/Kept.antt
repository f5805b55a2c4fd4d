-- What a change of other things leaves.
use Rattle.std.proofs.Common.{ℕ, ◌≡◌, ◌↔◌, Bool, Option, Some, None, refl, ◌∙◌, ap}
use Rattle.tree_definitions.specs.declared.node.Node.{Node}
use Rattle.disk_definitions.specs.Store.{Store}
use Rattle.disk_definitions.specs.Naming.{Naming, Nodes, Pictures, inode_of, inode_by, inode_for, use_by, use_for}
use Rattle.disk_definitions.specs.Namings.{KeepsOthers}

pub both : {A : Type 0} → A ↔ A
both = (λ x. x, λ x. x)

pub same_inode : (n m : Naming) (at to : Nodes) (o : Option ℕ) → ((c : ℕ) → o ≡ Some c → (to c ≡ at c) × (m.stamp c ≡ n.stamp c) × (m.block c ≡ n.block c) × (m.large c ≡ n.large c)) → inode_for m to o ≡ inode_for n at o
same_inode n m at to None h = refl
same_inode n m at to (Some c) h = let q = h c refl in ap (inode_by m c) q.0 ∙ by_parts (at c)
  where
    by_parts : (x : Option Node) → inode_by m c x ≡ inode_by n c x
    by_parts None = refl
    by_parts (Some x) = let q = h c refl in λ i. Some (inode_of (q.1 i) (q.2 i) (q.3 i) x)

pub same_use : (was : Bool) (at to : Nodes) (o : Option (ℕ × ℕ)) → ((c j : ℕ) → o ≡ Some (c, j) → use_by (to c) ≡ use_by (at c)) → use_for was to o ≡ use_for was at o
same_use was at to None h = refl
same_use was at to (Some o) h = h o.0 o.1 refl

-- the inode of a node
pub inode_is : (s : Store) (at : Nodes) (n : Naming) → Pictures s at n → (b : ℕ) (node : Node) → at b ≡ Some node → s.inode (n.inode b) ≡ Some (inode_of (n.stamp b) (n.block b) (n.large b) node)
inode_is s at n g b node is = g.inodes (n.inode b) ∙ rw (g.numbered b (rw is refl), is) refl

-- where nothing of the naming changes
pub keeps_all : (at : Nodes) (b : ℕ) (n : Naming) → KeepsOthers at b n n
keeps_all at b n = record {
  inode = λ c e. refl;
  kind = λ c e. refl;
  stamp = λ c e. refl;
  block = λ c f. refl;
  large = λ c f. refl;
  spot = λ c f. refl;
  birth = λ i c f. both;
  owner = λ k c j f. both;
  large_owner = λ g c f. both;
}
