-- The nodes of the tree that is read off a disk, as a function of their births.
use Rattle.std.proofs.Common.{◌≡◌, ℕ, zero, suc, ◌*◌, ◌<◌, ◌≤◌, ⊎_elim, Option, Some, None, List, [], refl, sym, ◌∙◌, ap, subst, arith}
use Rattle.std.specs.Option.{option_map}
use Rattle.std.proofs.lemmas.Bool.{cases_lt}
use Rattle.std.specs.List.Sorted.{IsStrictlySortedBy}
use Rattle.std.specs.Map.{keys_of, lookup}
use Rattle.std.specs.BTreeMap.{is_at}
use Rattle.std.specs.Ordering.{nat_cmp}
use Rattle.tree_definitions.specs.declared.node.Node.{Node}
use Rattle.tree_definitions.specs.Tree.{node_at}
use Rattle.tree_definitions.specs.WellFormed.{BirthsAscend}
use Rattle.tree_definitions.proofs.Pairs.{birth_exact, found_put, found_other, sorted_put}
use Rattle.disk_definitions.specs.Store.{Store, StoredNode}
use Rattle.standing_laws.specs.ReadTree.{read_node, with_inode, nodes_to, tree_in}
use Rattle.standing_laws.proofs.Bounded.{last_or_before}

none_sorted : IsStrictlySortedBy nat_cmp (keys_of {K = ℕ} {X = Node} [])
unfolding IsStrictlySortedBy
none_sorted = tt

module _ (s : Store) where
  with_one : (nodes : List (ℕ × Node)) (i : ℕ) (o : Option StoredNode) → IsStrictlySortedBy nat_cmp (keys_of nodes) → IsStrictlySortedBy nat_cmp (keys_of (with_inode s nodes i o))
  with_one nodes i None h = h
  with_one nodes i (Some x) h = sorted_put nat_cmp birth_exact nodes i (read_node s x) h

  pub births_to : (n : ℕ) → IsStrictlySortedBy nat_cmp (keys_of (nodes_to s n))
  births_to zero = none_sorted
  births_to (suc n) = with_one (nodes_to s n) n (s.inode n) (births_to n)

  abbrev pub seen : ℕ → ℕ → Option Node
  seen n b = lookup (is_at (nat_cmp b)) (nodes_to s n)

  pub past : (n b : ℕ) → n ≤ b → seen n b ≡ None
  past zero b h = refl
  past (suc n) b h = go (past n b (omega arith)) (s.inode n)
    where
      go : seen n b ≡ None → (o : Option StoredNode) → lookup (is_at (nat_cmp b)) (with_inode s (nodes_to s n) n o) ≡ None
      go before None = before
      go before (Some x) = found_other nat_cmp birth_exact (nodes_to s n) n (read_node s x) b (λ e. omega arith) ∙ before

  within : (n b : ℕ) → b < n → seen n b ≡ option_map (read_node s) (s.inode b)
  within zero b h = absurd (omega arith)
  within (suc n) b h = ⊎_elim (λ e. subst (λ c. seen (suc n) c ≡ option_map (read_node s) (s.inode c)) (sym e) (last n (s.inode n) refl)) (λ l. before n b l (within n b l) (s.inode n)) (last_or_before b n h)
    where
      last : (n : ℕ) (o : Option StoredNode) → s.inode n ≡ o → lookup (is_at (nat_cmp n)) (with_inode s (nodes_to s n) n (s.inode n)) ≡ option_map (read_node s) (s.inode n)
      last n None e = ap (λ o. lookup (is_at (nat_cmp n)) (with_inode s (nodes_to s n) n o)) e ∙ past n n (omega arith) ∙ sym (ap (option_map (read_node s)) e)
      last n (Some x) e = ap (λ o. lookup (is_at (nat_cmp n)) (with_inode s (nodes_to s n) n o)) e ∙ found_put nat_cmp birth_exact (nodes_to s n) n (read_node s x) ∙ sym (ap (option_map (read_node s)) e)

      before : (n b : ℕ) → b < n → seen n b ≡ option_map (read_node s) (s.inode b) → (o : Option StoredNode) → lookup (is_at (nat_cmp b)) (with_inode s (nodes_to s n) n o) ≡ option_map (read_node s) (s.inode b)
      before n b l h None = h
      before n b l h (Some x) = found_other nat_cmp birth_exact (nodes_to s n) n (read_node s x) b (λ e. omega arith) ∙ h

  -- inodes past the segments are free: then each inode in use has its node, and there is no other
  pub node_read : (segments : ℕ) → ((i : ℕ) → 64 * segments ≤ i → s.inode i ≡ None) → (b : ℕ) → node_at (tree_in segments s) b ≡ option_map (read_node s) (s.inode b)
  node_read segments range b = ⊎_elim (λ l. within (64 * segments) b l) (λ l. past (64 * segments) b l ∙ sym (ap (option_map (read_node s)) (range b l))) (cases_lt b (64 * segments))

  pub births_read : (segments : ℕ) → BirthsAscend (tree_in segments s)
  births_read segments = births_to (64 * segments)
