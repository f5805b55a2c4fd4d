-- Which inodes the nodes have that come and go: by what tidy edits say of bits.
use Rattle.std.proofs.Common.{◌≡◌, ℕ, Bool, true, false, Option, Some, None, List, is_some, refl, sym, ◌∙◌, ap}
use Rattle.std.specs.Option.{unwrap_or}
use Rattle.frang_base.specs.declared.lock.LockId.TheVariants as lock
use Rattle.tree_definitions.specs.declared.node.Node.{Node}
use Rattle.tree_definitions.specs.Tree.{FileTree, node_at}
use Rattle.disk_definitions.specs.Naming.{Naming}
use Rattle.disk_definitions.specs.Store.{Store}
use Rattle.disk_definitions.specs.Edits.{Edit}
use Rattle.disk_definitions.specs.Ask.{InodeAt}
use Rattle.disk_definitions.specs.Meets.{IsOfTree}
use Rattle.plan_laws.specs.Keeping.{KeepsInodes}
use Rattle.plan_laws.specs.Moves.{AreTidy}
use Rattle.disk_definitions.specs.Moves.{first_said, bit_said, inode_move, moved_by}
use Rattle.line_laws.proofs.Coming.{NoneSwaps}

module _ (s : Store) (tree : FileTree) (n : Naming) (of : IsOfTree s tree n) where
  pub bit_of : (b : ℕ) → is_some (node_at tree b) ≡ true → s.bit (n.inode b) ≡ true
  bit_of b there = of.pictures.bits (n.inode b) ∙ ap is_some (of.pictures.numbered b there)

  -- nodes of one inode are one
  pub one_node : (b c : ℕ) → is_some (node_at tree b) ≡ true → is_some (node_at tree c) ≡ true → n.inode b ≡ n.inode c → b ≡ c
  one_node b c x y e = let z : Some b ≡ Some c = sym (of.pictures.numbered b x) ∙ ap n.birth e ∙ of.pictures.numbered c y in cc

  -- an inode in use is a node's
  pub node_in : (i : ℕ) → s.bit i ≡ true → (b : ℕ) × (n.inode b ≡ i) × (is_some (node_at tree b) ≡ true)
  node_in i e = go (n.birth i) refl
    where
      go : (o : Option ℕ) → n.birth i ≡ o → (b : ℕ) × (n.inode b ≡ i) × (is_some (node_at tree b) ≡ true)
      go None q = absurd (let z : s.bit i ≡ false = of.pictures.bits i ∙ ap is_some q in cc)
      go (Some b) q = let w = of.pictures.whose i b q in (b, w.0, w.1)

  pub free_birth : (i : ℕ) → s.bit i ≡ false → n.birth i ≡ None
  free_birth i e = go (n.birth i) refl
    where
      go : (o : Option ℕ) → n.birth i ≡ o → n.birth i ≡ None
      go None q = q
      go (Some b) q = absurd (let z : s.bit i ≡ true = of.pictures.bits i ∙ ap is_some q in cc)

missing : {P : Type 0} (o : Option Node) → is_some o ≡ true → o ≡ None → P
missing o e q = absurd (let z : is_some o ≡ false = ap is_some q in cc)

module _ (s t : Store) (tree to : FileTree) (n m : Naming) (es : List Edit) (of : IsOfTree s tree n) (after : IsOfTree t to m) (tidy : AreTidy s t es) (keeps : KeepsInodes tree to n m) (swaps : NoneSwaps tree to) where
  -- ---- a node that comes
  module _ (b : ℕ) (none : node_at tree b ≡ None) (there : is_some (node_at to b) ≡ true) where
    -- the inode was nobody's
    was_free : s.bit (m.inode b) ≡ false
    was_free = go (s.bit (m.inode b)) refl
      where
        by_node : (c : ℕ) → n.inode c ≡ m.inode b → is_some (node_at tree c) ≡ true → (o : Option Node) → node_at to c ≡ o → ⊥
        by_node c e was None q = swaps b c none there was q
        by_node c e was (Some z) q =
            let stays : is_some (node_at to c) ≡ true = ap is_some q in
            let same : c ≡ b = one_node t to m after c b stays there (keeps c was stays ∙ e) in
            missing (node_at tree c) was (ap (node_at tree) same ∙ none)

        go : (v : Bool) → s.bit (m.inode b) ≡ v → s.bit (m.inode b) ≡ false
        go false q = q
        go true q = let r = node_in s tree n of (m.inode b) q in absurd (by_node r.0 r.1 r.2 (node_at to r.0) refl)

    pub comes_free : n.birth (m.inode b) ≡ None
    comes_free = free_birth s tree n of (m.inode b) was_free

    pub comes_said : first_said (bit_said (m.inode b)) es ≡ Some true
    comes_said = go (first_said (bit_said (m.inode b)) es) refl
      where
        go : (o : Option Bool) → first_said (bit_said (m.inode b)) es ≡ o → first_said (bit_said (m.inode b)) es ≡ Some true
        go (Some true) q = q
        go (Some false) q = absurd (let z : t.bit (m.inode b) ≡ false = tidy.bits (m.inode b) ∙ ap (λ o. unwrap_or o (s.bit (m.inode b))) q in let y : t.bit (m.inode b) ≡ true = bit_of t to m after b there in cc)
        go None q = absurd (let z : t.bit (m.inode b) ≡ s.bit (m.inode b) = tidy.bits (m.inode b) ∙ ap (λ o. unwrap_or o (s.bit (m.inode b))) q in let y : t.bit (m.inode b) ≡ true = bit_of t to m after b there in let x : s.bit (m.inode b) ≡ false = was_free in cc)

    pub comes_moved : moved_by es (InodeAt (m.inode b)) ≡ Some (lock.Node (m.inode b))
    comes_moved = ap (inode_move (m.inode b)) comes_said

  -- ---- a node that goes: something is said of its bit
  pub goes_said : (c : ℕ) → is_some (node_at tree c) ≡ true → node_at to c ≡ None → (v : Bool) × (first_said (bit_said (n.inode c)) es ≡ Some v)
  goes_said c was gone = go (first_said (bit_said (n.inode c)) es) refl
    where
      by_node : (b : ℕ) → m.inode b ≡ n.inode c → is_some (node_at to b) ≡ true → (o : Option Node) → node_at tree b ≡ o → ⊥
      by_node b e there None q = swaps b c q there was gone
      by_node b e there (Some z) q =
          let had : is_some (node_at tree b) ≡ true = ap is_some q in
          let same : b ≡ c = one_node s tree n of b c had was (sym (keeps b had there) ∙ e) in
          missing (node_at to b) there (ap (node_at to) same ∙ gone)

      go : (o : Option Bool) → first_said (bit_said (n.inode c)) es ≡ o → (v : Bool) × (first_said (bit_said (n.inode c)) es ≡ Some v)
      go (Some v) q = (v, q)
      go None q =
          let used : t.bit (n.inode c) ≡ true = tidy.bits (n.inode c) ∙ ap (λ o. unwrap_or o (s.bit (n.inode c))) q ∙ bit_of s tree n of c was in
          let r = node_in t to m after (n.inode c) used in
          absurd (by_node r.0 r.1 r.2 (node_at tree r.0) refl)
