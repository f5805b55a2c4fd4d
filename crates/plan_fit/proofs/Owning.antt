-- The blocks of a file are in use for it, and the disk's.
use Rattle.std.proofs.Common.{ℕ, ◌≡◌, ◌+◌, ◌-◌, ◌*◌, ◌<◌, ⊎_elim, Bool, true, false, nat_lt, if◌then◌else◌, Some, List, length, refl, sym, ◌∙◌, ap, arith, is_some}
use Rattle.std.proofs.lemmas.Bool.{cases_lt, lt-ltb}
use Rattle.tree_definitions.specs.declared.cells.Cell.{Cell}
use Rattle.tree_definitions.specs.declared.node.Node.TheVariants.{File}
use Rattle.tree_definitions.specs.Tree.{FileTree, node_at, small_blocks_of}
use Rattle.disk_definitions.specs.Store.{Store, StoredNode}
use Rattle.disk_definitions.specs.Store.Use.{Fresh, Bytes}
use Rattle.disk_definitions.specs.Naming.{Naming, has_large, use_for}
use Rattle.disk_definitions.specs.Meets.{IsOfTree}
use Rattle.plan_laws.proofs.Cases.{inode_by}

pub record OwnsBlocks (segments : ℕ) (s : Store) (x : StoredNode) : Type 0 where
  pub smalls : (j : ℕ) → j < x.blocks → (x.small j < 1024 * segments) × (s.use_of (x.small j) ≡ Bytes)
  pub larges : 0 < x.large → (x.large - 1 < segments) × (s.large_bit (x.large - 1) ≡ true)

module _ (s : Store) (tree : FileTree) (n : Naming) (of : IsOfTree s tree n) (b links when : ℕ) (cells : List Cell) (is : node_at tree b ≡ Some (File cells links when)) where
  abbrev x : StoredNode
  x = inode_by n b (File cells links when)

  small_at : (j : ℕ) → j < small_blocks_of (length cells) → x.small j ≡ n.block b j
  small_at j l = rw (lt-ltb j (small_blocks_of (length cells)) l) refl

  small_used : (j : ℕ) → j < small_blocks_of (length cells) → s.use_of (n.block b j) ≡ Bytes
  small_used j l = of.pictures.uses (n.block b j) ∙ ap (use_for (n.was (n.block b j)) (node_at tree)) (of.pictures.owned b j (rw is l)) ∙ rw is refl

  within : (k : ℕ) → s.use_of k ≡ Bytes → k < 1024 * tree.segments
  within k u = ⊎_elim (λ l. l) (λ l. absurd (let z : Fresh ≡ Bytes = sym (of.blocks k l) ∙ u in cc)) (cases_lt k (1024 * tree.segments))

  large_used : nat_lt 65536 (length cells) ≡ true → s.large_bit (n.large b) ≡ true
  large_used e = of.pictures.large_bits (n.large b) ∙ ap is_some (of.pictures.larges b (ap has_large is ∙ e))

  large_owned : (c : Bool) → nat_lt 65536 (length cells) ≡ c → 0 < (if c then n.large b + 1 else 0) → ((if c then n.large b + 1 else 0) - 1 < tree.segments) × (s.large_bit ((if c then n.large b + 1 else 0) - 1) ≡ true)
  large_owned true e l = let z : n.large b + 1 - 1 ≡ n.large b = omega arith in rw z (of.larges (n.large b) (large_used e), large_used e)
  large_owned false e l = absurd (omega arith)

  pub owns : OwnsBlocks tree.segments s x
  owns = record {
    smalls = λ j l. rw (small_at j l) (within (n.block b j) (small_used j l), small_used j l);
    larges = large_owned (nat_lt 65536 (length cells)) refl;
  }
