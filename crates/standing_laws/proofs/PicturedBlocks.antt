-- The blocks of a consistent store are those of the tree that is read off it.
use Rattle.std.proofs.Common.{◌==◌, ◌≡◌, ℕ, ◌+◌, ◌-◌, ◌*◌, ◌/◌, ◌%◌, ◌<◌, ◌≤◌, ⊎_elim, Bool, true, false, not, ◌||◌, Option, Some, None, is_some, cond, refl, sym, ◌∙◌, ap, subst, arith, nat_lt, ltb-true, lt-ltb}
use Rattle.std.specs.Option.{option_map}
use Rattle.std.proofs.lemmas.Bool.{or_cases, cases_lt, cond-true, both_ways, not-true}
use Rattle.std.proofs.lemmas.Nat.{div-mul-add, mod-mul-add}
use Rattle.tree_definitions.specs.Tree.{small_blocks_of}
use Rattle.disk_definitions.specs.Store.{Store, StoredNode, StoredEntry, Use, is_unused}
use Rattle.disk_definitions.specs.Store.Use.{Fresh, Bytes, Empty, Entries as OfEntries}
use Rattle.disk_definitions.specs.Naming.{Naming, Nodes, blocks_of, has_large, use_by, use_for}
use Rattle.standing_laws.specs.Below.{find_below, holds, lists}
use Rattle.standing_laws.specs.ReadTree.{byte_at, read_node}
use Rattle.standing_laws.specs.Soundness.{block_in, block_at, is_used_for, use_agrees, is_cleared, large_in, large_at, is_marked, IsConsistent}
use Rattle.standing_laws.proofs.Bounded.{all_at, find_at, find_none, find_only, lists_at, holds_at, holds_from, distinct_at}
use Rattle.standing_laws.proofs.Shapes.{Shape, OfFile, OfDir, OfLink}
use Rattle.standing_laws.proofs.Pictured.{IsInRange, naming_of, slot_pair, is_emptied, length_cells, read_file, read_dir, read_link, at, at_some, at_none, node, below}

-- the place of index j of inode b
pub place_is : (b j : ℕ) → j < 16 → ((b * 16 + j) / 16 ≡ b) × ((b * 16 + j) % 16 ≡ j)
place_is b j h = (div-mul-add b 16 j h, mod-mul-add b 16 j h)

-- a block that is found at an index
pub in_slot : (o : Option StoredNode) (j k : ℕ) → block_in o j ≡ Some k → (x : StoredNode) × (o ≡ Some x) × (j < x.blocks) × (x.small j ≡ k)
in_slot None j k h = absurd (cc)
in_slot (Some x) j k h = go (nat_lt j x.blocks) refl h
  where
    go : (b : Bool) → nat_lt j x.blocks ≡ b → cond b (Some (x.small j)) None ≡ Some k → (y : StoredNode) × (Some x ≡ Some y) × (j < y.blocks) × (y.small j ≡ k)
    go true e h = (x, refl, ltb-true j x.blocks e, (let q : Some (x.small j) ≡ Some k = h in cc))
    go false e h = absurd (cc)

pub slot_in : (o : Option StoredNode) (x : StoredNode) (j : ℕ) → o ≡ Some x → j < x.blocks → block_in o j ≡ Some (x.small j)
slot_in o x j e l = ap (λ o. block_in o j) e ∙ cond-true (nat_lt j x.blocks) (Some (x.small j)) None (lt-ltb j x.blocks l)

-- a use that agrees with a kind
used_by : (k : ℕ) (u : Use) → is_used_for k u ≡ true → (k ≡ 2 → u ≡ OfEntries) × (k ≡ 1 → u ≡ Bytes)
used_by k Fresh h = absurd (cc)
used_by k Empty h = absurd (cc)
used_by k Bytes h = (λ e. absurd (let z : (not (k == 2)) ≡ false = ap (λ k. not (k == 2)) e in both_ways (not (k == 2)) z h), λ e. refl)
used_by k OfEntries h = (λ e. refl, λ e. absurd (let z : (k == 2) ≡ false = ap (λ k. k == 2) e in both_ways (k == 2) z h))

unused_use : (u : Use) (at : Nodes) → is_unused u ≡ true → u ≡ use_for (is_emptied u) at None
unused_use Fresh at h = refl
unused_use Empty at h = refl
unused_use Bytes at h = absurd (cc)
unused_use OfEntries at h = absurd (cc)

-- the block of a shape
pub few : (x : StoredNode) → Shape x → x.blocks ≤ 16
few x (OfFile f) = f.few
few x (OfDir f) = f.few
few x (OfLink f) = let b : x.blocks ≡ 0 = f.blocks in omega arith

pub blocks_are : (s : Store) (x : StoredNode) → Shape x → blocks_of (Some (read_node s x)) ≡ x.blocks
blocks_are s x (OfFile f) = ap (λ y. blocks_of (Some y)) (read_file s x f.kind) ∙ ap small_blocks_of (length_cells (byte_at s x) x.size) ∙ sym f.blocks
blocks_are s x (OfDir f) = ap (λ y. blocks_of (Some y)) (read_dir s x f.kind)
blocks_are s x (OfLink f) = ap (λ y. blocks_of (Some y)) (read_link s x f.kind) ∙ sym f.blocks

use_is : (s : Store) (x : StoredNode) (j : ℕ) (u : Use) → Shape x → j < x.blocks → is_used_for x.kind u ≡ true → u ≡ use_by (Some (read_node s x))
use_is s x j u (OfFile f) l h = (used_by x.kind u h).1 f.kind ∙ sym (ap (λ y. use_by (Some y)) (read_file s x f.kind))
use_is s x j u (OfDir f) l h = (used_by x.kind u h).0 f.kind ∙ sym (ap (λ y. use_by (Some y)) (read_dir s x f.kind))
use_is s x j u (OfLink f) l h = absurd (let b : x.blocks ≡ 0 = f.blocks in omega arith)

pub large_is : (s : Store) (x : StoredNode) → Shape x → has_large (Some (read_node s x)) ≡ nat_lt 0 x.large
large_is s x (OfFile f) = ap (λ y. has_large (Some y)) (read_file s x f.kind) ∙ ap (nat_lt 65536) (length_cells (byte_at s x) x.size) ∙ f.has
large_is s x (OfDir f) = ap (λ y. has_large (Some y)) (read_dir s x f.kind) ∙ sym (ap (nat_lt 0) f.large)
large_is s x (OfLink f) = ap (λ y. has_large (Some y)) (read_link s x f.kind) ∙ sym (ap (nat_lt 0) f.large)

-- a large block that is found
pub in_large : (o : Option StoredNode) (g : ℕ) → large_in o ≡ Some g → (x : StoredNode) × (o ≡ Some x) × (nat_lt 0 x.large ≡ true) × (x.large - 1 ≡ g)
in_large None g h = absurd (cc)
in_large (Some x) g h = go (nat_lt 0 x.large) refl h
  where
    go : (b : Bool) → nat_lt 0 x.large ≡ b → cond b (Some (x.large - 1)) None ≡ Some g → (y : StoredNode) × (Some x ≡ Some y) × (nat_lt 0 y.large ≡ true) × (y.large - 1 ≡ g)
    go true e h = (x, refl, e, (let q : Some (x.large - 1) ≡ Some g = h in cc))
    go false e h = absurd (cc)

cleared_at : (s : Store) (k : ℕ) (u : Use) → u ≡ Empty → is_cleared s k u ≡ true → (p : ℕ) → p < 56 → s.place k p ≡ None
cleared_at s k u e h p l = none (s.place k p) (not-true (is_some (s.place k p)) (all_at 56 (λ p. not (is_some (s.place k p))) (subst (λ u. is_cleared s k u ≡ true) e h) p l))
  where
    none : (o : Option StoredEntry) → is_some o ≡ false → o ≡ None
    none None h = refl
    none (Some e) h = absurd (cc)

module _ (segments : ℕ) (s : Store) (range : IsInRange segments s) (shapes : (i : ℕ) (x : StoredNode) → s.inode i ≡ Some x → Shape x) (c : IsConsistent segments s) where
  abbrev nodes : Nodes
  nodes = at segments s range shapes c

  abbrev m : Naming
  m = naming_of segments s

  abbrev its_node : (b : ℕ) (x : StoredNode) → s.inode b ≡ Some x → nodes b ≡ Some (read_node s x)
  its_node b x e = at_some segments s range shapes c b x e

  blocks_at : (b : ℕ) (x : StoredNode) → s.inode b ≡ Some x → blocks_of (nodes b) ≡ x.blocks
  blocks_at b x e = ap blocks_of (its_node b x e) ∙ blocks_are s x (shapes b x e)

  -- a block of a node is found at its place alone
  found : (b j : ℕ) (x : StoredNode) → s.inode b ≡ Some x → j < x.blocks → find_below (1024 * segments) (λ t. holds (block_at s t) (x.small j)) ≡ Some (b * 16 + j)
  found b j x e l =
      let f : x.blocks ≤ 16 = few x (shapes b x e) in
      let p = place_is b j (omega arith) in
      let u : b < 64 * segments = below segments s range shapes c b x e in
      let w : b * 16 + j < 1024 * segments = omega arith in
      let i : block_at s (b * 16 + j) ≡ Some (x.small j) = ap (λ q. block_in (s.inode q) ((b * 16 + j) % 16)) p.0 ∙ ap (block_in (s.inode b)) p.1 ∙ slot_in (s.inode b) x j e l in
      find_only (1024 * segments) (λ t. holds (block_at s t) (x.small j)) (b * 16 + j) w (holds_from (block_at s (b * 16 + j)) (x.small j) i)
      (λ t v h. distinct_at (block_at s) (1024 * segments) c.once t (b * 16 + j) (x.small j) v w (holds_at (block_at s t) (x.small j) h) i)

  pub owned_are : (b j : ℕ) → j < blocks_of (nodes b) → m.owner (m.block b j) ≡ Some (b, j)
  owned_are b j l = go (s.inode b) refl
    where
      go : (o : Option StoredNode) → s.inode b ≡ o → m.owner (m.block b j) ≡ Some (b, j)
      go None e = absurd (let z : blocks_of (nodes b) ≡ 0 = ap blocks_of (at_none segments s range shapes c b e) in omega arith)
      go (Some x) e =
          let l2 : j < x.blocks = subst (λ k. j < k) (blocks_at b x e) l in
          let f : x.blocks ≤ 16 = few x (shapes b x e) in
          let p = place_is b j (omega arith) in
          ap m.owner (ap (λ y. y.small j) (node segments s range shapes c b x e)) ∙ ap (option_map slot_pair) (found b j x e l2) ∙ (λ i. Some (p.0 i, p.1 i))

  -- where a block is found, a node has it
  owner_at : (k t : ℕ) → find_below (1024 * segments) (λ t. holds (block_at s t) k) ≡ Some t → (x : StoredNode) × (s.inode (t / 16) ≡ Some x) × (t % 16 < x.blocks) × (x.small (t % 16) ≡ k)
  owner_at k t e = in_slot (s.inode (t / 16)) (t % 16) k (holds_at (block_at s t) k (find_at (1024 * segments) (λ t. holds (block_at s t) k) t e).1)

  pub owners_are : (k b j : ℕ) → m.owner k ≡ Some (b, j) → (m.block b j ≡ k) × (j < blocks_of (nodes b))
  owners_are k b j h = go (find_below (1024 * segments) (λ t. holds (block_at s t) k)) refl h
    where
      go : (o : Option ℕ) → find_below (1024 * segments) (λ t. holds (block_at s t) k) ≡ o → option_map slot_pair o ≡ Some (b, j) → (m.block b j ≡ k) × (j < blocks_of (nodes b))
      go None e h = absurd (let z : None ≡ Some (b, j) = h in cc)
      go (Some t) e h =
          let a = owner_at k t e in
          let z : slot_pair t ≡ (b, j) = (let u : Some (slot_pair t) ≡ Some (b, j) = h in cc) in
          let p : t / 16 ≡ b = ap (λ v. v.0) z in
          let q : t % 16 ≡ j = ap (λ v. v.1) z in
          let e2 : s.inode b ≡ Some a.0 = ap s.inode (sym p) ∙ a.1 in
          let l2 : j < a.0.blocks = subst (λ r. r < a.0.blocks) q a.2 in
          (ap (λ y. y.small j) (node segments s range shapes c b a.0 e2) ∙ ap a.0.small (sym q) ∙ a.3, subst (λ k. j < k) (sym (blocks_at b a.0 e2)) l2)

  pub uses_are : (k : ℕ) → s.use_of k ≡ use_for (m.was k) nodes (m.owner k)
  uses_are k = go (find_below (1024 * segments) (λ t. holds (block_at s t) k)) refl
    where
      go : (o : Option ℕ) → find_below (1024 * segments) (λ t. holds (block_at s t) k) ≡ o → s.use_of k ≡ use_for (m.was k) nodes (m.owner k)
      go None e = ⊎_elim
          (λ l. (let h = all_at (1024 * segments) (λ k. lists (block_at s) (1024 * segments) k || is_unused (s.use_of k)) c.listed k l in
          ⊎_elim (λ i. absurd (let r = lists_at (block_at s) (1024 * segments) k i in find_none (1024 * segments) (λ t. holds (block_at s t) k) e r.0 r.1 (holds_from (block_at s r.0) k r.2)))
          (λ u. unused_use (s.use_of k) nodes u) (or_cases (lists (block_at s) (1024 * segments) k) (is_unused (s.use_of k)) h)))
          (λ l. unused_use (s.use_of k) nodes (ap is_unused (range.uses k l))) (cases_lt k (1024 * segments)) ∙ sym (ap (λ o. use_for (m.was k) nodes (option_map slot_pair o)) e)
      go (Some t) e =
          let a = owner_at k t e in
          let w = (find_at (1024 * segments) (λ t. holds (block_at s t) k) t e).0 in
          let h : use_agrees s (s.inode (t / 16)) (t % 16) ≡ true = all_at (1024 * segments) (λ t. use_agrees s (s.inode (t / 16)) (t % 16)) c.uses t w in
          let g : use_agrees s (Some a.0) (t % 16) ≡ true = sym (ap (λ o. use_agrees s o (t % 16)) a.1) ∙ h in
          let u : is_used_for a.0.kind (s.use_of (a.0.small (t % 16))) ≡ true = sym (cond-true (nat_lt (t % 16) a.0.blocks) (is_used_for a.0.kind (s.use_of (a.0.small (t % 16)))) true (lt-ltb (t % 16) a.0.blocks a.2)) ∙ g in
          let v : is_used_for a.0.kind (s.use_of k) ≡ true = subst (λ k. is_used_for a.0.kind (s.use_of k) ≡ true) a.3 u in
          use_is s a.0 (t % 16) (s.use_of k) (shapes (t / 16) a.0 a.1) a.2 v ∙ sym (ap (λ o. use_for (m.was k) nodes (option_map slot_pair o)) e ∙ ap use_by (its_node (t / 16) a.0 a.1))

  pub emptied_are : (k p : ℕ) → p < 56 → s.use_of k ≡ Empty → s.place k p ≡ None
  emptied_are k p l e = ⊎_elim
      (λ w. cleared_at s k (s.use_of k) e (all_at (1024 * segments) (λ k. is_cleared s k (s.use_of k)) c.cleared k w) p l)
      (λ w. absurd (let z : Fresh ≡ Empty = sym (range.uses k w) ∙ e in let y : false ≡ true = ap is_emptied z in cc)) (cases_lt k (1024 * segments))

  large_at_is : (b : ℕ) (x : StoredNode) → s.inode b ≡ Some x → nat_lt 0 x.large ≡ true → large_at s b ≡ Some (x.large - 1)
  large_at_is b x e h = ap large_in e ∙ cond-true (nat_lt 0 x.large) (Some (x.large - 1)) None h

  pub larges_are : (b : ℕ) → has_large (nodes b) ≡ true → m.large_owner (m.large b) ≡ Some b
  larges_are b h = go (s.inode b) refl
    where
      go : (o : Option StoredNode) → s.inode b ≡ o → m.large_owner (m.large b) ≡ Some b
      go None e = absurd (let z : has_large (nodes b) ≡ false = ap has_large (at_none segments s range shapes c b e) in both_ways (has_large (nodes b)) z h)
      go (Some x) e =
          let g : nat_lt 0 x.large ≡ true = sym (ap has_large (its_node b x e) ∙ large_is s x (shapes b x e)) ∙ h in
          let i : large_at s b ≡ Some (x.large - 1) = large_at_is b x e g in
          let w : b < 64 * segments = below segments s range shapes c b x e in
          ap m.large_owner (ap (λ y. y.large - 1) (node segments s range shapes c b x e))
          ∙ find_only (64 * segments) (λ i. holds (large_at s i) (x.large - 1)) b w (holds_from (large_at s b) (x.large - 1) i)
          (λ t v h. distinct_at (large_at s) (64 * segments) c.large_once t b (x.large - 1) v w (holds_at (large_at s t) (x.large - 1) h) i)

  large_owner_at : (g b : ℕ) → m.large_owner g ≡ Some b → large_at s b ≡ Some g
  large_owner_at g b h = holds_at (large_at s b) g (find_at (64 * segments) (λ i. holds (large_at s i) g) b h).1

  pub large_owners_are : (g b : ℕ) → m.large_owner g ≡ Some b → (m.large b ≡ g) × (has_large (nodes b) ≡ true)
  large_owners_are g b h =
      let a = in_large (s.inode b) g (large_owner_at g b h) in
      (ap (λ y. y.large - 1) (node segments s range shapes c b a.0 a.1) ∙ a.3, ap has_large (its_node b a.0 a.1) ∙ large_is s a.0 (shapes b a.0 a.1) ∙ a.2)

  pub large_bits_are : (g : ℕ) → s.large_bit g ≡ is_some (m.large_owner g)
  large_bits_are g = go (find_below (64 * segments) (λ i. holds (large_at s i) g)) refl
    where
      go : (o : Option ℕ) → find_below (64 * segments) (λ i. holds (large_at s i) g) ≡ o → s.large_bit g ≡ is_some (m.large_owner g)
      go None e = ⊎_elim
          (λ l. (let h = all_at segments (λ g. lists (large_at s) (64 * segments) g || not (s.large_bit g)) c.large_listed g l in
          ⊎_elim (λ i. absurd (let r = lists_at (large_at s) (64 * segments) g i in find_none (64 * segments) (λ i. holds (large_at s i) g) e r.0 r.1 (holds_from (large_at s r.0) g r.2)))
          (λ u. not-true (s.large_bit g) u) (or_cases (lists (large_at s) (64 * segments) g) (not (s.large_bit g)) h)))
          (λ l. range.larges g l) (cases_lt g segments) ∙ sym (ap is_some e)
      go (Some b) e =
          let f = find_at (64 * segments) (λ i. holds (large_at s i) g) b e in
          let h : is_marked s (large_at s b) ≡ true = all_at (64 * segments) (λ i. is_marked s (large_at s i)) c.large_marked b f.0 in
          sym (ap (is_marked s) (holds_at (large_at s b) g f.1)) ∙ h ∙ sym (ap is_some e)
