-- A fresh disk is the picture of the root alone.
use Rattle.std.proofs.Common.{◌≡◌, ◌≢◌, ℕ, ◌≤◌, true, false, Option, Some, None, List, [], is_some, refl, sym, ap, ◌∙◌, subst, arith}
use Rattle.tree_definitions.specs.declared.node.Node.{Node}
use Rattle.tree_definitions.specs.declared.node.Node.TheVariants.{Dir}
use Rattle.tree_definitions.specs.Tree.{fresh, node_at}
use Rattle.tree_definitions.proofs.Births.{each_but}
use Rattle.tree_laws.proofs.FreshLaws.{fresh_other}
use Rattle.disk_definitions.specs.Store.Use.{Fresh, Empty}
use Rattle.disk_definitions.specs.Naming.{Naming, Nodes, Pictures, kind_of, blocks_of, has_large, room_in, find_in, cell_in, inode_for}
use Rattle.code_plan_laws.proofs.Stored.{born, not_born, store, uses, large_bits, bits, root_node, no_node}

-- a fact of every node, by that of none and that of the root
pub each_node : (P : Option Node → Type 0) → P None → P (Some (Dir [] 0)) → (segments b : ℕ) → P (node_at (fresh segments) b)
each_node P none root segments = each_but (λ b. P (node_at (fresh segments) b)) 0 root (λ b far. subst P (sym (fresh_other segments b far)) none)

-- the root alone is there
pub root_only : (segments b : ℕ) → is_some (node_at (fresh segments) b) ≡ true → b ≡ 0
root_only segments =
    each_but (λ b. is_some (node_at (fresh segments) b) ≡ true → b ≡ 0) 0 (λ e. refl)
    (λ b far e. absurd (let z : false ≡ true = sym (ap is_some (fresh_other segments b far)) ∙ e in cc))

-- inodes by their births: the root has inode 0, and no block is in use
abbrev pub naming : Naming
naming = record {
  inode = λ b. b;
  birth = born;
  kind = λ b. 2;
  stamp = λ b. 0;
  block = λ b j. 0;
  owner = λ k. None;
  was = λ k. false;
  large = λ b. 0;
  large_owner = λ g. None;
  spot = λ d m. 0;
}

module _ (segments : ℕ) (some : 1 ≤ segments) (few : segments ≤ 64) where
  abbrev at : Nodes
  at = node_at (fresh segments)

  inodes : (i : ℕ) → (store segments some few).inode i ≡ inode_for naming at (born i)
  inodes = each_but (λ i. (store segments some few).inode i ≡ inode_for naming at (born i)) 0 (root_node segments some few)
      (λ i far. no_node segments some few i far ∙ sym (ap (inode_for naming at) (not_born i far)))

  numbered : (b : ℕ) → is_some (at b) ≡ true → born b ≡ Some b
  numbered b e = subst (λ b. born b ≡ Some b) (sym (root_only segments b e)) refl

  whose : (i b : ℕ) → born i ≡ Some b → (b ≡ i) × (is_some (at b) ≡ true)
  whose i b = each_but (λ i. born i ≡ Some b → (b ≡ i) × (is_some (at b) ≡ true)) 0 first other i
    where
      first : Some 0 ≡ Some b → (b ≡ 0) × (is_some (at b) ≡ true)
      first e = let z : b ≡ 0 = cc in (z, subst (λ b. is_some (at b) ≡ true) (sym z) refl)

      other : (i : ℕ) → i ≢ 0 → born i ≡ Some b → (b ≡ i) × (is_some (at b) ≡ true)
      other i far e = absurd (let z : None ≡ Some b = sym (not_born i far) ∙ e in cc)

  kinds : (b : ℕ) (x : Node) → at b ≡ Some x → 2 ≡ kind_of x
  kinds b x = each_node (λ o. o ≡ Some x → 2 ≡ kind_of x) (λ e. absurd cc) (λ e. let z : Dir [] 0 ≡ x = cc in ap kind_of z) segments b

  no_blocks : (b : ℕ) → blocks_of (at b) ≡ 0
  no_blocks = each_node (λ o. blocks_of o ≡ 0) refl refl segments

  no_large : (b : ℕ) → has_large (at b) ≡ false
  no_large = each_node (λ o. has_large o ≡ false) refl refl segments

  no_room : (b : ℕ) → room_in (at b) ≡ 0
  no_room = each_node (λ o. room_in o ≡ 0) refl refl segments

  pub no_names : (b : ℕ) (m : List ℕ) → find_in (at b) m ≡ None
  no_names b m = each_node (λ o. find_in o m ≡ None) refl refl segments b

  no_cells : (b j : ℕ) → cell_in (at b) j ≡ None
  no_cells b j = each_node (λ o. cell_in o j ≡ None) refl refl segments b

  pub picture : Pictures (store segments some few) at naming
  picture = record {
    inodes = inodes;
    bits = bits segments some few;
    numbered = numbered;
    whose = whose;
    kinds = kinds;
    owned = λ b j l. absurd (let z = no_blocks b in omega arith);
    owners = λ k b j e. absurd cc;
    uses = uses segments some few;
    emptied = λ k p l e. absurd (let z : Fresh ≡ Empty = sym (uses segments some few k) ∙ e in cc);
    larges = λ b e. absurd (let z : false ≡ true = sym (no_large b) ∙ e in cc);
    large_owners = λ g b e. absurd cc;
    large_bits = large_bits segments some few;
    names = λ d b m e. absurd (let z : None ≡ Some b = sym (no_names d m) ∙ e in cc);
    places = λ d q e l is. absurd (let z = no_room d in omega arith);
    bytes = λ b j c e. absurd (let z : None ≡ Some c = sym (no_cells b j) ∙ e in cc);
  }
