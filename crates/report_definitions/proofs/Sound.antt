-- A disk each sector of which is fine is consistent.
use Rattle.std.proofs.Common.{◌==◌, ◌≡◌, ℕ, ◌+◌, ◌*◌, ◌/◌, ◌%◌, ◌<◌, ◌≤◌, ◌⊎◌, inl, inr, ⊎_elim, Bool, true, false, not, ◌&&◌, ◌||◌, Option, Some, None, List, [], ◌∷◌, is_some, length, cond, refl, sym, ◌∙◌, ap, subst, arith, nat_lt, nat_le, eqb-true, eq-eqb, ne_eqb, ltb-true, leb-true}
use Rattle.std.specs.Option.{option_map}
use Rattle.std.proofs.lemmas.Bool.{and_parts, and_from, or_cases, or_left, or_right, not-true, not_from_false, both_ways, cond-true, cond-false, cases_lt}
use Rattle.tree_definitions.specs.Tree.{FileTree, node_at}
use Rattle.tree_definitions.specs.Apply.{links_of}
use Rattle.tree_definitions.specs.WellFormed.{one_at, names_of}
use Rattle.standing_laws.proofs.Walks.{root_reached, reached_on}
use Rattle.disk_definitions.specs.Store.{Store, StoredNode, StoredEntry, Use, is_unused}
use Rattle.disk_definitions.specs.Store.Use.{Fresh, Bytes, Empty, Entries as OfEntries}
use Rattle.disk_definitions.specs.Naming.{Nodes, find_in}
use Rattle.disk_definitions.specs.Standing.{IsReached, IsReachedAt, IsMetadata}
use Rattle.standing_laws.specs.Below.{all_below, holds, lists, is_new, are_distinct}
use Rattle.standing_laws.specs.ReadTree.{place_at, entries_to, read_node, tree_in}
use Rattle.standing_laws.specs.Soundness.{agree, bit_agrees, block_in, block_at, is_used_for, use_agrees, is_cleared, large_in, large_at, is_marked, has_kind, entries_agree, directory_agrees, node_agrees, links_agree, IsConsistent}
use Rattle.standing_laws.proofs.Bounded.{all_at, all_from, any_at, lists_from, holds_at, holds_from, distinct_at}
use Rattle.standing_laws.proofs.NodesRead.{node_read}
use Rattle.standing_laws.proofs.Shapes.{Shape, OfFile, OfDir, OfLink}
use Rattle.standing_laws.proofs.Pictured.{IsInRange, read_file, read_dir, read_link}
use Rattle.standing_laws.proofs.PicturedBlocks.{place_is, in_slot, slot_in, few}
use Rattle.report_definitions.specs.Sums.{first_below}
use Rattle.report_definitions.specs.View.{View, entry_of, named_by, names, leads, IsReach}
use Rattle.report_definitions.specs.Rules.{used, used_large, directory_block, is_new_in, is_new_name, names_well, entries_of, names_by, names_to, counts_agree, is_within, is_first_within, is_bit_fine, kind_at, is_version_fine, is_use_fine_by, is_use_fine, are_parts_fine, is_block_fine}
use Rattle.report_definitions.proofs.SumLaws.{sum_at, count_some, sum_zero, count_zero, first_at, first_some}
use Rattle.report_definitions.proofs.Fine.{IsFine}
use Rattle.report_definitions.proofs.Reaching.{named_at, named_entry, last_step, reached_used}
use Rattle.report_definitions.proofs.Wherever.{block_of_directory, wherever_at, in_row_of_64, in_row_of_1024, in_row_of_16}
use Rattle.report_definitions.proofs.Agreeing.{IsFineAt, zero_both, agree_where_fine, found_entry, entries_are, names_are}

-- what agrees is the same
pub same_where : (a b : Bool) → agree a b ≡ true → a ≡ b
same_where true b h = sym h
same_where false b h = sym (not-true b h)

pub no_some : (o : Option StoredNode) (x : StoredNode) → o ≡ Some x → o ≡ None → ⊥
no_some o x e h = let z : Some x ≡ None = sym e ∙ h in cc

one_of : (a b c : ℕ) → a ≤ c → a ≡ b → 1 ≤ b → 1 ≤ c
one_of a b c l e h = omega arith

cleared_of : (v : View) (k : ℕ) (u : Use) → are_parts_fine v k u ≡ true → is_cleared v.store k u ≡ true
cleared_of v k Fresh h = refl
cleared_of v k Bytes h = refl
cleared_of v k Empty h = (and_parts (all_below 8 (λ p. v.is_directory k p && v.is_recent k p)) (all_below 56 (λ q. not (is_some (v.store.place k q)))) h).1
cleared_of v k OfEntries h = refl

recent_of : (v : View) (k : ℕ) (u : Use) → are_parts_fine v k u ≡ true → IsMetadata u → (p : ℕ) → p < 8 → v.is_directory k p ≡ true → v.is_recent k p ≡ true
recent_of v k Fresh h m p l d = absurd m
recent_of v k Bytes h m p l d = absurd m
recent_of v k Empty h m p l d =
    let a = (and_parts (all_below 8 (λ p. v.is_directory k p && v.is_recent k p)) (all_below 56 (λ q. not (is_some (v.store.place k q)))) h).0 in
    (and_parts (v.is_directory k p) (v.is_recent k p) (all_at 8 (λ p. v.is_directory k p && v.is_recent k p) a p l)).1
recent_of v k OfEntries h m p l d = sym (ap (λ b. not b || v.is_recent k p) d) ∙ all_at 8 (is_version_fine v k) h p l

module _ (v : View) (r : ℕ → Bool) (reach : IsReach v.store r) (range : IsInRange v.segments v.store) (shapes : (i : ℕ) (x : StoredNode) → v.store.inode i ≡ Some x → Shape x) (some : 1 ≤ v.segments) (long : (i : ℕ) (x : StoredNode) → v.store.inode i ≡ Some x → x.kind ≡ 3 → length x.target ≡ x.size) (f : IsFine v r) where
  abbrev s : Store
  s = v.store

  abbrev n : ℕ
  n = 64 * v.segments

  abbrev m : ℕ
  m = 1024 * v.segments

  root_is : has_kind (s.inode 0) 2 ≡ true
  root_is = f.root 0 (omega arith)

  -- ---- what is in use is reached

  below_n : (i : ℕ) (x : StoredNode) → s.inode i ≡ Some x → i < n
  below_n i x e = ⊎_elim (λ l. l) (λ l. absurd (no_some (s.inode i) x e (range.inodes i l))) (cases_lt i n)

  bit_at : (i : ℕ) → i < n → is_bit_fine v r i ≡ true
  bit_at = in_row_of_64 v.segments (is_bit_fine v r) f.bits

  in_use : (i : ℕ) (x : StoredNode) → s.inode i ≡ Some x → r i ≡ true
  in_use i x e = go (r i) refl
    where
      go : (b : Bool) → r i ≡ b → r i ≡ true
      go true t = t
      go false t =
          let h : (not (is_some (s.inode i)) && not (s.bit i)) ≡ true = sym (cond-false (r i) (s.bit i) (not (is_some (s.inode i)) && not (s.bit i)) t) ∙ bit_at i (below_n i x e) in
          let z : is_some (s.inode i) ≡ false = not-true (is_some (s.inode i)) (and_parts (not (is_some (s.inode i))) (not (s.bit i)) h).0 in
          absurd (both_ways (is_some (s.inode i)) z (ap is_some e))

  bits_agree : (i : ℕ) → i < n → bit_agrees s i ≡ true
  bits_agree i l = go (r i) refl
    where
      both_true : (a b : Bool) → a ≡ true → b ≡ true → agree a b ≡ true
      both_true a b p q = ap (λ (a : Bool). agree a b) p ∙ q

      both_false : (a b : Bool) → a ≡ false → b ≡ false → agree a b ≡ true
      both_false a b p q = ap (λ (a : Bool). agree a b) p ∙ not_from_false b q

      go : (b : Bool) → r i ≡ b → bit_agrees s i ≡ true
      go true t =
          let x = reached_used s r reach root_is i t in
          both_true (s.bit i) (is_some (s.inode i)) (sym (cond-true (r i) (s.bit i) (not (is_some (s.inode i)) && not (s.bit i)) t) ∙ bit_at i l) (ap is_some x.1)
      go false t =
          let h : (not (is_some (s.inode i)) && not (s.bit i)) ≡ true = sym (cond-false (r i) (s.bit i) (not (is_some (s.inode i)) && not (s.bit i)) t) ∙ bit_at i l in
          let p = and_parts (not (is_some (s.inode i))) (not (s.bit i)) h in
          both_false (s.bit i) (is_some (s.inode i)) (not-true (s.bit i) p.1) (not-true (is_some (s.inode i)) p.0)

  -- ---- blocks

  used_is : (t : ℕ) → used v r t ≡ block_at s t
  used_is t = go (r (t / 16)) refl
    where
      free : r (t / 16) ≡ false → (o : Option StoredNode) → s.inode (t / 16) ≡ o → None ≡ block_at s t
      free e None h = sym (ap (λ (o : Option StoredNode). block_in o (t % 16)) h)
      free e (Some x) h = absurd (both_ways (r (t / 16)) e (in_use (t / 16) x h))

      go : (b : Bool) → r (t / 16) ≡ b → used v r t ≡ block_at s t
      go true e = cond-true (r (t / 16)) (block_at s t) None e
      go false e = cond-false (r (t / 16)) (block_at s t) None e ∙ free e (s.inode (t / 16)) refl

  used_same : used v r ≡ block_at s
  used_same = λ i t. used_is t i

  large_is : (i : ℕ) → used_large v r i ≡ large_at s i
  large_is i = go (r i) refl
    where
      free : r i ≡ false → (o : Option StoredNode) → s.inode i ≡ o → None ≡ large_at s i
      free e None h = sym (ap large_in h)
      free e (Some x) h = absurd (both_ways (r i) e (in_use i x h))

      go : (b : Bool) → r i ≡ b → used_large v r i ≡ large_at s i
      go true e = cond-true (r i) (large_at s i) None e
      go false e = cond-false (r i) (large_at s i) None e ∙ free e (s.inode i) refl

  large_same : used_large v r ≡ large_at s
  large_same = λ j i. large_is i j

  blocks_of_inode : (i : ℕ) → i < n → (all_below 16 (λ j. is_first_within m (used v r) (16 * i + j)) ≡ true) × (is_first_within v.segments (used_large v r) i ≡ true)
  blocks_of_inode i l = let p = and_parts (all_below 16 (λ j. is_first_within m (used v r) (16 * i + j))) (is_first_within v.segments (used_large v r) i) (f.blocks i l) in (p.0, p.1)

  block_fine : (t : ℕ) → t < m → (is_new (used v r) t (used v r t) ≡ true) × (is_within m (used v r t) ≡ true)
  block_fine t l =
      let a : is_first_within m (used v r) t ≡ true = in_row_of_16 v.segments (is_first_within m (used v r)) (λ k l. (blocks_of_inode k l).0) t l in
      let p = and_parts (is_new (used v r) t (used v r t)) (is_within m (used v r t)) a in (p.0, p.1)

  large_fine : (i : ℕ) → i < n → (is_new (used_large v r) i (used_large v r i) ≡ true) × (is_within v.segments (used_large v r i) ≡ true)
  large_fine i l = let p = and_parts (is_new (used_large v r) i (used_large v r i)) (is_within v.segments (used_large v r i)) (blocks_of_inode i l).1 in (p.0, p.1)

  block_below : (t k : ℕ) → t < m → used v r t ≡ Some k → k < m
  block_below t k l e = let h : nat_lt k m ≡ true = sym (ap (is_within m) e) ∙ (block_fine t l).1 in ltb-true k m h

  distinct_used : are_distinct (used v r) m ≡ true
  distinct_used = all_from m (λ t. is_new (used v r) t (used v r t)) (λ t l. (block_fine t l).0)

  once_blocks : are_distinct (block_at s) m ≡ true
  once_blocks = subst (λ (g : ℕ → Option ℕ). are_distinct g m ≡ true) used_same distinct_used

  once_larges : are_distinct (large_at s) n ≡ true
  once_larges = subst (λ (g : ℕ → Option ℕ). are_distinct g n ≡ true) large_same (all_from n (λ i. is_new (used_large v r) i (used_large v r i)) (λ i l. (large_fine i l).0))

  first_user : (t k : ℕ) → t < m → used v r t ≡ Some k → first_below m (λ t. holds (used v r t) k) ≡ Some t
  first_user t k l e =
      let g = first_some m (λ t. holds (used v r t) k) t l (holds_from (used v r t) k e) in
      let q : g.0 ≡ t = distinct_at (used v r) m distinct_used g.0 t k g.2 l (holds_at (used v r g.0) k g.3) e in
      g.1 ∙ ap (λ (t : ℕ). Some t) q

  segment_parts : (k : ℕ) → k < v.segments → (v.segment_fits k ≡ true) × (all_below 64 (λ j. v.inode_fits (64 * k + j)) ≡ true) × (all_below 1024 (λ j. is_block_fine v r (1024 * k + j)) ≡ true)
  segment_parts k l =
      let p = and_parts (v.segment_fits k && all_below 64 (λ j. v.inode_fits (64 * k + j))) (all_below 1024 (λ j. is_block_fine v r (1024 * k + j))) (f.fit k l) in
      let q = and_parts (v.segment_fits k) (all_below 64 (λ j. v.inode_fits (64 * k + j))) p.0 in
      (q.0, q.1, p.1)

  pub segment_fit : (k : ℕ) → k < v.segments → v.segment_fits k ≡ true
  segment_fit k l = (segment_parts k l).0

  pub inode_fit : (i : ℕ) → i < n → v.inode_fits i ≡ true
  inode_fit = in_row_of_64 v.segments v.inode_fits (λ k l. (segment_parts k l).1)

  small_fine : (k : ℕ) → k < m → (is_use_fine v r k ≡ true) × (are_parts_fine v k (s.use_of k) ≡ true)
  small_fine k l =
      let a : is_block_fine v r k ≡ true = in_row_of_1024 v.segments (is_block_fine v r) (λ k l. (segment_parts k l).2) k l in
      let p = and_parts (is_use_fine v r k) (are_parts_fine v k (s.use_of k)) a in (p.0, p.1)

  used_fits : (t : ℕ) (x : StoredNode) → t < m → s.inode (t / 16) ≡ Some x → t % 16 < x.blocks → is_used_for x.kind (s.use_of (x.small (t % 16))) ≡ true
  used_fits t x l e w =
      let k = x.small (t % 16) in
      let u : used v r t ≡ Some k = used_is t ∙ slot_in (s.inode (t / 16)) x (t % 16) e w in
      let z : is_use_fine_by s k (Some t) ≡ true = sym (ap (is_use_fine_by s k) (first_user t k l u)) ∙ (small_fine k (block_below t k l u)).0 in
      sym (ap (λ (o : Option StoredNode). is_used_for (kind_at o) (s.use_of k)) e) ∙ z

  uses_agree : (t : ℕ) → t < m → use_agrees s (s.inode (t / 16)) (t % 16) ≡ true
  uses_agree t l = go (s.inode (t / 16)) refl
    where
      at : (x : StoredNode) → s.inode (t / 16) ≡ Some x → (b : Bool) → nat_lt (t % 16) x.blocks ≡ b → use_agrees s (Some x) (t % 16) ≡ true
      at x e true h = cond-true (nat_lt (t % 16) x.blocks) (is_used_for x.kind (s.use_of (x.small (t % 16)))) true h ∙ used_fits t x l e (ltb-true (t % 16) x.blocks h)
      at x e false h = cond-false (nat_lt (t % 16) x.blocks) (is_used_for x.kind (s.use_of (x.small (t % 16)))) true h

      go : (o : Option StoredNode) → s.inode (t / 16) ≡ o → use_agrees s (s.inode (t / 16)) (t % 16) ≡ true
      go None e = ap (λ (o : Option StoredNode). use_agrees s o (t % 16)) e
      go (Some x) e = ap (λ (o : Option StoredNode). use_agrees s o (t % 16)) e ∙ at x e (nat_lt (t % 16) x.blocks) refl

  -- the first user of a block, or that it is unused
  user_of : (k : ℕ) → k < m → ((t : ℕ) × (t < m) × (used v r t ≡ Some k)) ⊎ (is_unused (s.use_of k) ≡ true)
  user_of k l = go (first_below m (λ t. holds (used v r t) k)) refl
    where
      go : (o : Option ℕ) → first_below m (λ t. holds (used v r t) k) ≡ o → ((t : ℕ) × (t < m) × (used v r t ≡ Some k)) ⊎ (is_unused (s.use_of k) ≡ true)
      go None e = inr (sym (ap (is_use_fine_by s k) e) ∙ (small_fine k l).0)
      go (Some t) e = let q = first_at m (λ t. holds (used v r t) k) t e in inl (t, q.0, holds_at (used v r t) k q.1)

  listed_or_unused : (k : ℕ) → k < m → (lists (block_at s) m k || is_unused (s.use_of k)) ≡ true
  listed_or_unused k l = ⊎_elim
      (λ u. or_left (lists (block_at s) m k) (is_unused (s.use_of k)) (lists_from (block_at s) m k u.0 u.1 (sym (used_is u.0) ∙ u.2)))
      (λ h. or_right (lists (block_at s) m k) (is_unused (s.use_of k)) h) (user_of k l)

  large_marks : (g : ℕ) → g < v.segments → lists (large_at s) n g ≡ s.large_bit g
  large_marks g l = ap (λ (h : ℕ → Option ℕ). lists h n g) (sym large_same) ∙ same_where (lists (used_large v r) n g) (s.large_bit g) (f.marks g l)

  larges_marked : (i : ℕ) → i < n → is_marked s (large_at s i) ≡ true
  larges_marked i l = go (large_at s i) refl
    where
      go : (o : Option ℕ) → large_at s i ≡ o → is_marked s (large_at s i) ≡ true
      go None e = ap (is_marked s) e
      go (Some g) e =
          let h : nat_lt g v.segments ≡ true = sym (ap (is_within v.segments) (large_is i ∙ e)) ∙ (large_fine i l).1 in
          ap (is_marked s) e ∙ sym (large_marks g (ltb-true g v.segments h)) ∙ lists_from (large_at s) n g i l e

  larges_listed : (g : ℕ) → g < v.segments → (lists (large_at s) n g || not (s.large_bit g)) ≡ true
  larges_listed g l = go (lists (large_at s) n g) refl
    where
      go : (b : Bool) → lists (large_at s) n g ≡ b → (lists (large_at s) n g || not (s.large_bit g)) ≡ true
      go true e = or_left (lists (large_at s) n g) (not (s.large_bit g)) e
      go false e = or_right (lists (large_at s) n g) (not (s.large_bit g)) (not_from_false (s.large_bit g) (sym (large_marks g l) ∙ e))

  -- ---- directories

  slot_of : (d j : ℕ) (x : StoredNode) → s.inode d ≡ Some x → j < x.blocks → j < 16 → block_at s (d * 16 + j) ≡ Some (x.small j)
  slot_of d j x e l w =
      let q = place_is d j w in
      ap (λ (i : ℕ). block_in (s.inode i) ((d * 16 + j) % 16)) q.0 ∙ ap (block_in (s.inode d)) q.1 ∙ slot_in (s.inode d) x j e l

  place_fine : (d : ℕ) (x : StoredNode) → s.inode d ≡ Some x → x.kind ≡ 2 → (q : ℕ) → q < 56 * x.blocks → IsFineAt s (place_at s x) q
  place_fine d x e k q l =
      let few16 : x.blocks ≤ 16 = few x (shapes d x e) in
      let j = q / 56 in
      let p = q % 56 / 7 in
      let t = q % 56 % 7 in
      let jl : j < x.blocks = omega arith in
      let jw : j < 16 = omega arith in
      let pl : p < 8 = omega arith in
      let tl : t < 7 = omega arith in
      let dl : d < n = below_n d x e in
      let tm : d * 16 + j < m = omega arith in
      let b = x.small j in
      let bl : b < m = block_below (d * 16 + j) b tm (used_is (d * 16 + j) ∙ slot_of d j x e jl jw) in
      let hb : holds (directory_block s d j) b ≡ true = block_of_directory (s.inode d) x j e k jl in
      let rd : r d ≡ true = in_use d x e in
      let part = wherever_at v r b (λ d j. v.is_directory b p && all_below 7 (λ t. is_new_name s d (56 * j + (7 * p + t)))) (f.parts b p bl pl) d j dl jw rd hb in
      let news = (and_parts (v.is_directory b p) (all_below 7 (λ t. is_new_name s d (56 * j + (7 * p + t)))) part).1 in
      let wells = wherever_at v r b (λ d j. all_below 7 (λ t. names_well s (s.place b (7 * p + t)))) (f.entries b p bl pl) d j dl jw rd hb in
      let new : is_new_name s d (56 * j + (7 * p + t)) ≡ true = all_at 7 (λ t. is_new_name s d (56 * j + (7 * p + t))) news t tl in
      let well : names_well s (s.place b (7 * p + t)) ≡ true = all_at 7 (λ t. names_well s (s.place b (7 * p + t))) wells t tl in
      let eq : 56 * j + (7 * p + t) ≡ q = omega arith in
      let er : 7 * p + t ≡ q % 56 = omega arith in
      (sym (ap (λ (o : Option StoredNode). is_new_in s o q) e) ∙ subst (λ z. is_new_name s d z ≡ true) eq new, subst (λ z. names_well s (s.place b z) ≡ true) er well)

  agree_in : (d : ℕ) (x : StoredNode) → s.inode d ≡ Some x → x.kind ≡ 2 → entries_agree s (place_at s x) (56 * x.blocks) ≡ true
  agree_in d x e k = agree_where_fine s (place_at s x) (56 * x.blocks) (place_fine d x e k)

  -- a part of a block that is or was a directory's is in the grammar
  pub part_fits : (k p : ℕ) → k < m → p < 8 → IsMetadata (s.use_of k) → (v.is_directory k p ≡ true) × (v.is_recent k p ≡ true)
  part_fits k p l w h = (own, recent_of v k (s.use_of k) (small_fine k l).1 h p w own)
    where
      in_use_by : s.use_of k ≡ OfEntries → v.is_directory k p ≡ true
      in_use_by e = ⊎_elim
          (λ u. (let t = u.0 in
          let x = in_slot (s.inode (t / 16)) (t % 16) k (sym (used_is t) ∙ u.2) in
          let y = used_fits t x.0 u.1 x.1 x.2 in
          let kind : (x.0.kind == 2) ≡ true = sym (ap (is_used_for x.0.kind) (ap s.use_of x.3 ∙ e)) ∙ y in
          let is : x.0.kind ≡ 2 = eqb-true x.0.kind 2 kind in
          let hb : holds (directory_block s (t / 16) (t % 16)) k ≡ true = subst (λ b. holds (directory_block s (t / 16) (t % 16)) b ≡ true) x.3 (block_of_directory (s.inode (t / 16)) x.0 (t % 16) x.1 is x.2) in
          let tl : t < m = u.1 in
          let dl : t / 16 < n = omega arith in
          let jl : t % 16 < 16 = omega arith in
          let part = wherever_at v r k (λ d j. v.is_directory k p && all_below 7 (λ q. is_new_name s d (56 * j + (7 * p + q)))) (f.parts k p l w) (t / 16) (t % 16) dl jl (in_use (t / 16) x.0 x.1) hb in
          (and_parts (v.is_directory k p) (all_below 7 (λ q. is_new_name s (t / 16) (56 * (t % 16) + (7 * p + q)))) part).0))
          (λ h. absurd (let z : is_unused (s.use_of k) ≡ false = ap is_unused e in both_ways (is_unused (s.use_of k)) z h)) (user_of k l)

      directory : (u : Use) → s.use_of k ≡ u → IsMetadata (s.use_of k) → are_parts_fine v k (s.use_of k) ≡ true → v.is_directory k p ≡ true
      directory Fresh e h a = absurd (subst IsMetadata e h)
      directory Bytes e h a = absurd (subst IsMetadata e h)
      directory Empty e h a =
          let b : are_parts_fine v k Empty ≡ true = sym (ap (are_parts_fine v k) e) ∙ a in
          let c = (and_parts (all_below 8 (λ p. v.is_directory k p && v.is_recent k p)) (all_below 56 (λ q. not (is_some (s.place k q)))) b).0 in
          (and_parts (v.is_directory k p) (v.is_recent k p) (all_at 8 (λ p. v.is_directory k p && v.is_recent k p) c p w)).0
      directory OfEntries e h a = in_use_by e

      own : v.is_directory k p ≡ true
      own = directory (s.use_of k) refl h (small_fine k l).1

  -- ---- counts

  abbrev tree : FileTree
  tree = tree_in v.segments s

  abbrev nodes : Nodes
  nodes = node_at tree

  node_of : (b : ℕ) (x : StoredNode) → s.inode b ≡ Some x → nodes b ≡ Some (read_node s x)
  node_of b x e = node_read s v.segments range.inodes b ∙ ap (option_map (read_node s)) e

  named_as : (i : ℕ) → names_of tree i ≡ names_to v r i
  named_as = names_are v r shapes in_use place_fine

  count_at : (i : ℕ) (x : StoredNode) → s.inode i ≡ Some x → counts_agree v r i (Some x) ≡ true
  count_at i x e = ⊎_elim (λ h. absurd (both_ways (r i) (not-true (r i) h) (in_use i x e))) (λ h. sym (ap (counts_agree v r i) e) ∙ h) (or_cases (not (r i)) (counts_agree v r i (s.inode i)) (f.counts i (below_n i x e)))

  directory_size : (i : ℕ) (x : StoredNode) → s.inode i ≡ Some x → x.kind ≡ 2 → length (entries_to (place_at s x) (56 * x.blocks)) ≡ x.size
  directory_size i x e k =
      let h : (entries_of s i == x.size) ≡ true = sym (cond-true (x.kind == 2) (entries_of s i == x.size) (names_to v r i == x.links) (eq-eqb x.kind 2 k)) ∙ count_at i x e in
      sym (entries_are v r shapes in_use place_fine i x e k) ∙ eqb-true (entries_of s i) x.size h

  other_links : (i : ℕ) (x : StoredNode) → s.inode i ≡ Some x → (x.kind == 2) ≡ false → names_to v r i ≡ x.links
  other_links i x e k =
      let h : (names_to v r i == x.links) ≡ true = sym (cond-false (x.kind == 2) (entries_of s i == x.size) (names_to v r i == x.links) k) ∙ count_at i x e in
      eqb-true (names_to v r i) x.links h

  nodes_agree : (i : ℕ) → i < n → node_agrees s (s.inode i) ≡ true
  nodes_agree i l = go (s.inode i) refl
    where
      by_kind : (x : StoredNode) (k : ℕ) → x.kind ≡ k → cond (k == 2) (directory_agrees s x) (cond (k == 3) (length x.target == x.size) true) ≡ true → node_agrees s (Some x) ≡ true
      by_kind x k e h = ap (λ k. cond (k == 2) (directory_agrees s x) (cond (k == 3) (length x.target == x.size) true)) e ∙ h

      shaped : (x : StoredNode) → s.inode i ≡ Some x → Shape x → node_agrees s (Some x) ≡ true
      shaped x e (OfFile g) = by_kind x 1 g.kind refl
      shaped x e (OfDir g) = by_kind x 2 g.kind (and_from (entries_agree s (place_at s x) (56 * x.blocks)) (length (entries_to (place_at s x) (56 * x.blocks)) == x.size) (agree_in i x e g.kind) (eq-eqb (length (entries_to (place_at s x) (56 * x.blocks))) x.size (directory_size i x e g.kind)))
      shaped x e (OfLink g) = by_kind x 3 g.kind (eq-eqb (length x.target) x.size (long i x e g.kind))

      go : (o : Option StoredNode) → s.inode i ≡ o → node_agrees s (s.inode i) ≡ true
      go None e = ap (node_agrees s) e
      go (Some x) e = ap (node_agrees s) e ∙ shaped x e (shapes i x e)

  named_once : (i : ℕ) (x : StoredNode) → s.inode i ≡ Some x → x.kind ≡ 2 → names_to v r i + one_at 0 i ≤ 1
  named_once i x e k =
      let has : has_kind (s.inode i) 2 ≡ true = ap (λ (o : Option StoredNode). has_kind o 2) e ∙ eq-eqb x.kind 2 k in
      ⊎_elim (λ h. absurd (both_ways (has_kind (s.inode i) 2) (not-true (has_kind (s.inode i) 2) h) has)) (λ h. leb-true (names_to v r i + one_at 0 i) 1 h)
      (or_cases (not (has_kind (s.inode i) 2)) (nat_le (names_to v r i + one_at 0 i) 1) (f.once i (below_n i x e)))

  -- what is named by what is reached has a name
  some_name : (d i : ℕ) → r d ≡ true → names s d i ≡ true → 1 ≤ names_to v r i
  some_name d i h t =
      let w = named_at s d i t in
      let dl : d < n = below_n d w.dir w.is in
      let a : cond (r d) (names_by s d i) 0 ≤ names_to v r i = sum_at n (λ d. cond (r d) (names_by s d i) 0) d dl in
      let b : cond (r d) (names_by s d i) 0 ≡ names_by s d i = cond-true (r d) (names_by s d i) 0 h in
      let q = any_at 896 (λ q. holds (named_by s (entry_of s d q)) i) t in
      let c : 1 ≤ names_by s d i = count_some 896 (λ q. holds (named_by s (entry_of s d q)) i) q.0 q.1 q.2 in
      one_of (cond (r d) (names_by s d i) 0) (names_by s d i) (names_to v r i) a b c

  -- nothing names a free inode
  free_unnamed : (i : ℕ) → s.inode i ≡ None → names_to v r i ≡ 0
  free_unnamed i e = sum_zero n (λ d. cond (r d) (names_by s d i) 0) (λ d l. ap (λ (k : ℕ). cond (r d) k 0) (none d) ∙ zero_both (r d))
    where
      never : (o : Option StoredEntry) (b : Bool) → holds (named_by s o) i ≡ b → holds (named_by s o) i ≡ false
      never o false h = h
      never o true h =
          let w = named_entry s o i (holds_at (named_by s o) i h) in
          absurd (both_ways (has_kind (s.inode w.0.inode) w.0.kind) (ap (λ (o : Option StoredNode). has_kind o w.0.kind) (ap s.inode w.3 ∙ e)) w.2)

      none : (d : ℕ) → names_by s d i ≡ 0
      none d = count_zero 896 (λ q. holds (named_by s (entry_of s d q)) i) (λ q l. never (entry_of s d q) (holds (named_by s (entry_of s d q)) i) refl)

  root_kind : (x : StoredNode) → s.inode 0 ≡ Some x → x.kind ≡ 2
  root_kind x e = let h : (x.kind == 2) ≡ true = sym (ap (λ (o : Option StoredNode). has_kind o 2) e) ∙ root_is in eqb-true x.kind 2 h

  apart_from_root : (i : ℕ) (x : StoredNode) → s.inode i ≡ Some x → (x.kind == 2) ≡ false → one_at 0 i ≡ 0
  apart_from_root i x e k = ap (λ (b : Bool). cond b 1 0) (ne_eqb i 0 (λ z. both_ways (x.kind == 2) k (eq-eqb x.kind 2 (root_kind x (ap s.inode (sym z) ∙ e)))))

  at_root : (i : ℕ) → i ≡ 0 → one_at 0 i ≡ 1
  at_root i z = ap (λ (b : Bool). cond b 1 0) (eq-eqb i 0 z)

  links_are : (i : ℕ) → i < n → names_to v r i + one_at 0 i ≡ links_of (nodes i)
  links_are i l = go (s.inode i) refl
    where
      file : (x : StoredNode) (k : (x.kind == 2) ≡ false) → s.inode i ≡ Some x → names_to v r i + one_at 0 i ≡ x.links
      file x k e = let a : names_to v r i ≡ x.links = other_links i x e k in let b : one_at 0 i ≡ 0 = apart_from_root i x e k in omega arith

      directory : (x : StoredNode) → s.inode i ≡ Some x → x.kind ≡ 2 → names_to v r i + one_at 0 i ≡ 1
      directory x e k =
          let a : names_to v r i + one_at 0 i ≤ 1 = named_once i x e k in
          ⊎_elim (λ z. (let b : one_at 0 i ≡ 1 = at_root i z in omega arith)) (λ w. (let b : 1 ≤ names_to v r i = some_name w.0 i w.1 w.2 in omega arith)) (last_step s r reach i (in_use i x e))

      shaped : (x : StoredNode) → s.inode i ≡ Some x → Shape x → names_to v r i + one_at 0 i ≡ links_of (nodes i)
      shaped x e (OfFile g) = file x (ap (λ k. k == 2) g.kind) e ∙ sym (ap links_of (node_of i x e ∙ ap (λ y. Some y) (read_file s x g.kind)))
      shaped x e (OfDir g) = directory x e g.kind ∙ sym (ap links_of (node_of i x e ∙ ap (λ y. Some y) (read_dir s x g.kind)))
      shaped x e (OfLink g) = file x (ap (λ k. k == 2) g.kind) e ∙ sym (ap links_of (node_of i x e ∙ ap (λ y. Some y) (read_link s x g.kind)))

      go : (o : Option StoredNode) → s.inode i ≡ o → names_to v r i + one_at 0 i ≡ links_of (nodes i)
      go None e =
          let a : names_to v r i ≡ 0 = free_unnamed i e in
          let b : one_at 0 i ≡ 0 = ap (λ (b : Bool). cond b 1 0) (ne_eqb i 0 (λ z. both_ways (has_kind (s.inode 0) 2) (ap (λ (o : Option StoredNode). has_kind o 2) (ap s.inode (sym z) ∙ e)) root_is)) in
          let c : links_of (nodes i) ≡ 0 = ap links_of (node_read s v.segments range.inodes i ∙ ap (option_map (read_node s)) e) in
          omega arith
      go (Some x) e = shaped x e (shapes i x e)

  links_agree_at : (i : ℕ) → i < n → links_agree tree i ≡ true
  links_agree_at i l = eq-eqb (names_of tree i + one_at 0 i) (links_of (nodes i)) (ap (λ (k : ℕ). k + one_at 0 i) (named_as i) ∙ links_are i l)

  -- ---- what is reached

  follow : (path : List ℕ) (a b : ℕ) → IsReachedAt nodes a → leads s a path b ≡ true → IsReachedAt nodes b
  follow [] a b h l = subst (IsReachedAt nodes) (eqb-true a b l) h
  follow (c ∷ path) a b h l =
      let p = and_parts (names s a c) (leads s c path b) l in
      let w = named_at s a c p.0 in
      let found : find_in (nodes a) w.entry.name ≡ Some c =
      ap (λ o. find_in o w.entry.name) (node_of a w.dir w.is ∙ ap (λ y. Some y) (read_dir s w.dir w.kind))
      ∙ found_entry s (place_at s w.dir) (56 * w.dir.blocks) (agree_in a w.dir w.is w.kind) w.place w.entry w.within w.stands ∙ ap (λ (i : ℕ). Some i) w.inode in
      follow path c b (reached_on nodes a c w.entry.name h found) p.1

  all_reached : IsReached nodes
  all_reached b h = go (s.inode b) refl
    where
      go : (o : Option StoredNode) → s.inode b ≡ o → IsReachedAt nodes b
      go None e = absurd (let z : is_some (nodes b) ≡ false = ap is_some (node_read s v.segments range.inodes b ∙ ap (option_map (read_node s)) e) in both_ways (is_some (nodes b)) z h)
      go (Some x) e = let w = reach.led b (in_use b x e) in follow w.0 0 b (root_reached nodes) w.1

  pub consistent : IsConsistent v.segments s
  consistent = record {
    bits = all_from n (bit_agrees s) bits_agree;
    once = once_blocks;
    uses = all_from m (λ t. use_agrees s (s.inode (t / 16)) (t % 16)) uses_agree;
    listed = all_from m (λ k. lists (block_at s) m k || is_unused (s.use_of k)) listed_or_unused;
    cleared = all_from m (λ k. is_cleared s k (s.use_of k)) (λ k l. cleared_of v k (s.use_of k) (small_fine k l).1);
    large_once = once_larges;
    large_marked = all_from n (λ i. is_marked s (large_at s i)) larges_marked;
    large_listed = all_from v.segments (λ g. lists (large_at s) n g || not (s.large_bit g)) larges_listed;
    nodes = all_from n (λ i. node_agrees s (s.inode i)) nodes_agree;
    links = all_from n (links_agree tree) links_agree_at;
    rooted = root_is;
    reached = all_reached;
  }
