-- On a consistent disk each sector is fine.
use Rattle.std.proofs.Common.{◌==◌, ◌≡◌, ℕ, ◌+◌, ◌*◌, ◌/◌, ◌%◌, ◌<◌, ◌≤◌, ⊎_elim, Bool, true, false, not, ◌&&◌, ◌||◌, Option, Some, None, List, is_some, cond, refl, sym, ◌∙◌, ap, subst, arith, nat_lt, nat_le, eqb-true, eq-eqb, ne_eqb, lt-ltb, le-leb}
use Rattle.std.proofs.lemmas.Bool.{and_from, or_cases, or_left, or_right, not-true, not_from_false, both_ways, cond-true, cond-false, cases_lt}
use Rattle.tree_definitions.specs.declared.node.Node.{Node}
use Rattle.tree_definitions.specs.declared.node.Node.TheVariants.{Dir, File, Link}
use Rattle.tree_definitions.specs.Tree.{FileTree, node_at}
use Rattle.tree_definitions.specs.Apply.{links_of}
use Rattle.tree_definitions.specs.Entries.{entry_at}
use Rattle.tree_definitions.specs.WellFormed.{one_at, names_of}
use Rattle.standing_laws.proofs.Walks.{carried}
use Rattle.disk_definitions.specs.Store.{Store, StoredNode, Use, is_unused}
use Rattle.disk_definitions.specs.Store.Use.{Fresh, Bytes, Empty, Entries as OfEntries}
use Rattle.disk_definitions.specs.Naming.{Nodes, find_in}
use Rattle.disk_definitions.specs.Standing.{IsMetadata}
use Rattle.standing_laws.specs.Below.{all_below, holds, lists, is_new}
use Rattle.standing_laws.specs.ReadTree.{place_at, tree_in}
use Rattle.standing_laws.specs.Soundness.{bit_agrees, block_in, block_at, is_used_for, use_agrees, is_cleared, large_in, large_at, is_marked, has_kind, entries_agree, links_agree, IsConsistent}
use Rattle.standing_laws.proofs.Bounded.{all_at, all_from, lists_at, holds_at, holds_from}
use Rattle.standing_laws.proofs.Entered.{found_at, new_name}
use Rattle.standing_laws.proofs.RoomLaws.{small_below, large_below}
use Rattle.standing_laws.proofs.Shapes.{Shape, OfFile, OfDir, OfLink}
use Rattle.standing_laws.proofs.SoundStanding.{is_directory}
use Rattle.standing_laws.proofs.Pictured.{IsInRange, read_file, read_dir, read_link, at_some, agreed, dir_size}
use Rattle.standing_laws.proofs.PicturedBlocks.{place_is, in_slot, few}
use Rattle.standing_laws.proofs.StandingBlocks.{agree_same}
use Rattle.report_definitions.specs.Sums.{first_below}
use Rattle.report_definitions.specs.View.{View, names, IsReach}
use Rattle.report_definitions.specs.Rules.{is_version_fine, used, used_large, directory_block, is_new_in, is_new_name, names_well, entries_of, names_to, counts_agree, is_root_fine, is_count_fine, is_named_once, is_within, is_first_within, is_bit_fine, is_sector_fine, are_entries_fine, kind_at, is_use_fine_by, is_use_fine, are_parts_fine, is_block_fine, is_segment_fine, is_mark_fine}
use Rattle.report_definitions.proofs.SumLaws.{first_at, first_none}
use Rattle.report_definitions.proofs.Fine.{IsFine}
use Rattle.report_definitions.proofs.Reaching.{names_from, reached_used}
use Rattle.report_definitions.proofs.Wherever.{directory_of_block, wherever_from}
use Rattle.report_definitions.proofs.Agreeing.{IsFineAt, fine_where_agree, entries_are, names_are}
use Rattle.report_definitions.proofs.Sound.{same_where, no_some}

-- what a directory's block is used for is metadata
directory_use : (u : Use) → is_used_for 2 u ≡ true → IsMetadata u
directory_use Fresh h = absurd (cc)
directory_use Bytes h = absurd (cc)
directory_use Empty h = absurd (cc)
directory_use OfEntries h = tt

module _ (v : View) (r : ℕ → Bool) (reach : IsReach v.store r) (range : IsInRange v.segments v.store) (shapes : (i : ℕ) (x : StoredNode) → v.store.inode i ≡ Some x → Shape x) (segment_fit : (k : ℕ) → k < v.segments → v.segment_fits k ≡ true) (inode_fit : (i : ℕ) → i < 64 * v.segments → v.inode_fits i ≡ true) (part_fit : (k p : ℕ) → k < 1024 * v.segments → p < 8 → IsMetadata (v.store.use_of k) → (v.is_directory k p ≡ true) × (v.is_recent k p ≡ true)) (c : IsConsistent v.segments v.store) where
  abbrev s : Store
  s = v.store

  abbrev n : ℕ
  n = 64 * v.segments

  abbrev m : ℕ
  m = 1024 * v.segments

  abbrev tree : FileTree
  tree = tree_in v.segments s

  abbrev nodes : Nodes
  nodes = node_at tree

  agree_in : (d : ℕ) (x : StoredNode) → s.inode d ≡ Some x → x.kind ≡ 2 → entries_agree s (place_at s x) (56 * x.blocks) ≡ true
  agree_in d x e k = (dir_size v.segments s range shapes c x k (agreed v.segments s range shapes c d x e)).0

  place_fine : (d : ℕ) (x : StoredNode) → s.inode d ≡ Some x → x.kind ≡ 2 → (q : ℕ) → q < 56 * x.blocks → IsFineAt s (place_at s x) q
  place_fine d x e k = fine_where_agree s (place_at s x) (56 * x.blocks) (agree_in d x e k)

  -- a name in the tree leads on from what is reached
  step : (a b : ℕ) (name : List ℕ) → find_in (nodes a) name ≡ Some b → r a ≡ true → r b ≡ true
  step a b name h t = go (nodes a) refl h
    where
      go : (o : Option Node) → nodes a ≡ o → find_in o name ≡ Some b → r b ≡ true
      go None e i = absurd (cc)
      go (Some (File cells links when)) e i = absurd (cc)
      go (Some (Link target links)) e i = absurd (cc)
      go (Some (Dir es k)) e i =
          let d = is_directory v.segments s range shapes c a es k e in
          let x = d.0 in
          let f = found_at (place_at s x) (56 * x.blocks) name b (ap (λ es. entry_at es name) (sym d.3) ∙ i) in
          let w = (new_name s (place_at s x) (56 * x.blocks) (agree_in a x d.1 d.2) f.spot f.entry f.within f.is).1 in
          reach.closed a b t (subst (λ i. names s a i ≡ true) f.inode (names_from s a f.spot x f.entry d.1 d.2 f.within (few x (shapes a x d.1)) f.is w))

  in_use : (i : ℕ) (x : StoredNode) → s.inode i ≡ Some x → r i ≡ true
  in_use i x e = carried nodes (λ b. r b ≡ true) (λ a b name h t. step a b name h t) reach.root i (c.reached i (ap is_some (at_some v.segments s range shapes c i x e)))

  below_n : (i : ℕ) (x : StoredNode) → s.inode i ≡ Some x → i < n
  below_n i x e = ⊎_elim (λ l. l) (λ l. absurd (no_some (s.inode i) x e (range.inodes i l))) (cases_lt i n)

  -- ---- bits

  bit_fine : (i : ℕ) → i < n → is_bit_fine v r i ≡ true
  bit_fine i l = go (r i) refl
    where
      same : s.bit i ≡ is_some (s.inode i)
      same = same_where (s.bit i) (is_some (s.inode i)) (all_at n (bit_agrees s) c.bits i l)

      free : r i ≡ false → (o : Option StoredNode) → s.inode i ≡ o → is_some (s.inode i) ≡ false
      free e None h = ap is_some h
      free e (Some x) h = absurd (both_ways (r i) e (in_use i x h))

      go : (b : Bool) → r i ≡ b → is_bit_fine v r i ≡ true
      go true e = cond-true (r i) (s.bit i) (not (is_some (s.inode i)) && not (s.bit i)) e ∙ same ∙ ap is_some (reached_used s r reach c.rooted i e).1
      go false e =
          let z : is_some (s.inode i) ≡ false = free e (s.inode i) refl in
          cond-false (r i) (s.bit i) (not (is_some (s.inode i)) && not (s.bit i)) e ∙ and_from (not (is_some (s.inode i))) (not (s.bit i)) (not_from_false (is_some (s.inode i)) z) (not_from_false (s.bit i) (same ∙ z))

  -- ---- blocks

  used_is : (t : ℕ) → used v r t ≡ block_at s t
  used_is t = go (r (t / 16)) refl
    where
      free : r (t / 16) ≡ false → (o : Option StoredNode) → s.inode (t / 16) ≡ o → None ≡ block_at s t
      free e None h = sym (ap (λ (o : Option StoredNode). block_in o (t % 16)) h)
      free e (Some x) h = absurd (both_ways (r (t / 16)) e (in_use (t / 16) x h))

      go : (b : Bool) → r (t / 16) ≡ b → used v r t ≡ block_at s t
      go true e = cond-true (r (t / 16)) (block_at s t) None e
      go false e = cond-false (r (t / 16)) (block_at s t) None e ∙ free e (s.inode (t / 16)) refl

  used_same : block_at s ≡ used v r
  used_same = λ i t. sym (used_is t) i

  large_is : (i : ℕ) → used_large v r i ≡ large_at s i
  large_is i = go (r i) refl
    where
      free : r i ≡ false → (o : Option StoredNode) → s.inode i ≡ o → None ≡ large_at s i
      free e None h = sym (ap large_in h)
      free e (Some x) h = absurd (both_ways (r i) e (in_use i x h))

      go : (b : Bool) → r i ≡ b → used_large v r i ≡ large_at s i
      go true e = cond-true (r i) (large_at s i) None e
      go false e = cond-false (r i) (large_at s i) None e ∙ free e (s.inode i) refl

  large_same : large_at s ≡ used_large v r
  large_same = λ j i. sym (large_is i) j

  within : (limit : ℕ) (o : Option ℕ) → ((k : ℕ) → o ≡ Some k → k < limit) → is_within limit o ≡ true
  within limit None h = refl
  within limit (Some k) h = lt-ltb k limit (h k refl)

  block_fine : (t : ℕ) → t < m → is_first_within m (used v r) t ≡ true
  block_fine t l = subst (λ (g : ℕ → Option ℕ). is_first_within m g t ≡ true) used_same
      (and_from (is_new (block_at s) t (block_at s t)) (is_within m (block_at s t)) (all_at m (λ t. is_new (block_at s) t (block_at s t)) c.once t l)
      (within m (block_at s t) (λ k e. small_below v.segments s range c.uses t k l e)))

  large_fine : (i : ℕ) → i < n → is_first_within v.segments (used_large v r) i ≡ true
  large_fine i l = subst (λ (g : ℕ → Option ℕ). is_first_within v.segments g i ≡ true) large_same
      (and_from (is_new (large_at s) i (large_at s i)) (is_within v.segments (large_at s i)) (all_at n (λ i. is_new (large_at s) i (large_at s i)) c.large_once i l)
      (within v.segments (large_at s i) (λ g e. large_below v.segments s range c.large_marked i g l e)))

  used_fits : (t : ℕ) (x : StoredNode) → t < m → s.inode (t / 16) ≡ Some x → t % 16 < x.blocks → is_used_for x.kind (s.use_of (x.small (t % 16))) ≡ true
  used_fits t x l e w =
      let h : use_agrees s (Some x) (t % 16) ≡ true = sym (ap (λ (o : Option StoredNode). use_agrees s o (t % 16)) e) ∙ all_at m (λ t. use_agrees s (s.inode (t / 16)) (t % 16)) c.uses t l in
      sym (cond-true (nat_lt (t % 16) x.blocks) (is_used_for x.kind (s.use_of (x.small (t % 16)))) true (lt-ltb (t % 16) x.blocks w)) ∙ h

  use_fine : (k : ℕ) → k < m → is_use_fine v r k ≡ true
  use_fine k l = go (first_below m (λ t. holds (used v r t) k)) refl
    where
      none_lists : first_below m (λ t. holds (used v r t) k) ≡ None → lists (block_at s) m k ≡ true → ⊥
      none_lists e h =
          let w = lists_at (block_at s) m k h in
          both_ways (holds (used v r w.0) k) (first_none m (λ t. holds (used v r t) k) e w.0 w.1) (holds_from (used v r w.0) k (used_is w.0 ∙ w.2))

      go : (o : Option ℕ) → first_below m (λ t. holds (used v r t) k) ≡ o → is_use_fine v r k ≡ true
      go None e = ap (is_use_fine_by s k) e ∙ ⊎_elim (λ h. absurd (none_lists e h)) (λ h. h) (or_cases (lists (block_at s) m k) (is_unused (s.use_of k)) (all_at m (λ k. lists (block_at s) m k || is_unused (s.use_of k)) c.listed k l))
      go (Some t) e =
          let q = first_at m (λ t. holds (used v r t) k) t e in
          let x = in_slot (s.inode (t / 16)) (t % 16) k (sym (used_is t) ∙ holds_at (used v r t) k q.1) in
          let y : is_used_for x.0.kind (s.use_of k) ≡ true = sym (ap (λ (b : ℕ). is_used_for x.0.kind (s.use_of b)) x.3) ∙ used_fits t x.0 q.0 x.1 x.2 in
          ap (is_use_fine_by s k) e ∙ ap (λ (o : Option StoredNode). is_used_for (kind_at o) (s.use_of k)) x.1 ∙ y

  or_second : (a b : Bool) → b ≡ true → (a || b) ≡ true
  or_second true b h = refl
  or_second false b h = h

  parts_fine : (k : ℕ) → k < m → (u : Use) → s.use_of k ≡ u → are_parts_fine v k u ≡ true
  parts_fine k l Fresh e = refl
  parts_fine k l Bytes e = refl
  parts_fine k l Empty e =
      let h : is_cleared s k Empty ≡ true = sym (ap (is_cleared s k) e) ∙ all_at m (λ k. is_cleared s k (s.use_of k)) c.cleared k l in
      let meta : IsMetadata (s.use_of k) = subst IsMetadata (sym e) tt in
      and_from (all_below 8 (λ p. v.is_directory k p && v.is_recent k p)) (all_below 56 (λ q. not (is_some (s.place k q))))
      (all_from 8 (λ p. v.is_directory k p && v.is_recent k p) (λ p w. (let q = part_fit k p l w meta in and_from (v.is_directory k p) (v.is_recent k p) q.0 q.1))) h
  parts_fine k l OfEntries e =
      let meta : IsMetadata (s.use_of k) = subst IsMetadata (sym e) tt in
      all_from 8 (is_version_fine v k) (λ p w. or_second (not (v.is_directory k p)) (v.is_recent k p) (part_fit k p l w meta).1)

  segment_fine : (k : ℕ) → k < v.segments → is_segment_fine v r k ≡ true
  segment_fine k l =
      and_from (v.segment_fits k && all_below 64 (λ j. v.inode_fits (64 * k + j))) (all_below 1024 (λ j. is_block_fine v r (1024 * k + j)))
      (and_from (v.segment_fits k) (all_below 64 (λ j. v.inode_fits (64 * k + j))) (segment_fit k l) (all_from 64 (λ j. v.inode_fits (64 * k + j)) (λ j w. inode_fit (64 * k + j) (omega arith))))
      (all_from 1024 (λ j. is_block_fine v r (1024 * k + j)) (λ j w. (
      let b : 1024 * k + j < m = omega arith in
      and_from (is_use_fine v r (1024 * k + j)) (are_parts_fine v (1024 * k + j) (s.use_of (1024 * k + j))) (use_fine (1024 * k + j) b) (parts_fine (1024 * k + j) b (s.use_of (1024 * k + j)) refl))))

  mark_fine : (g : ℕ) → g < v.segments → is_mark_fine v r g ≡ true
  mark_fine g l = agree_same (lists (used_large v r) n g) (s.large_bit g) (ap (λ (h : ℕ → Option ℕ). lists h n g) (sym large_same) ∙ go (lists (large_at s) n g) refl)
    where
      go : (b : Bool) → lists (large_at s) n g ≡ b → lists (large_at s) n g ≡ s.large_bit g
      go true e =
          let w = lists_at (large_at s) n g e in
          let h : s.large_bit g ≡ true = sym (ap (is_marked s) w.2) ∙ all_at n (λ i. is_marked s (large_at s i)) c.large_marked w.0 w.1 in
          e ∙ sym h
      go false e = e ∙ ⊎_elim (λ h. absurd (both_ways (lists (large_at s) n g) e h)) (λ h. sym (not-true (s.large_bit g) h))
          (or_cases (lists (large_at s) n g) (not (s.large_bit g)) (all_at v.segments (λ g. lists (large_at s) n g || not (s.large_bit g)) c.large_listed g l))

  -- ---- counts

  links_are : (i : ℕ) → i < n → names_to v r i + one_at 0 i ≡ links_of (nodes i)
  links_are i l =
      let h : (names_of tree i + one_at 0 i == links_of (nodes i)) ≡ true = all_at n (links_agree tree) c.links i l in
      ap (λ (k : ℕ). k + one_at 0 i) (sym (names_are v r shapes in_use place_fine i)) ∙ eqb-true (names_of tree i + one_at 0 i) (links_of (nodes i)) h

  node_links : (i : ℕ) (x : StoredNode) → s.inode i ≡ Some x → Shape x → ((x.kind == 2) ≡ false → links_of (nodes i) ≡ x.links) × (x.kind ≡ 2 → links_of (nodes i) ≡ 1)
  node_links i x e (OfFile g) = (λ k. ap links_of (at_some v.segments s range shapes c i x e ∙ ap (λ y. Some y) (read_file s x g.kind)), λ k. absurd (let z : (x.kind == 2) ≡ false = ap (λ k. k == 2) g.kind in both_ways (x.kind == 2) z (eq-eqb x.kind 2 k)))
  node_links i x e (OfDir g) = (λ k. absurd (both_ways (x.kind == 2) k (eq-eqb x.kind 2 g.kind)), λ k. ap links_of (at_some v.segments s range shapes c i x e ∙ ap (λ y. Some y) (read_dir s x g.kind)))
  node_links i x e (OfLink g) = (λ k. ap links_of (at_some v.segments s range shapes c i x e ∙ ap (λ y. Some y) (read_link s x g.kind)), λ k. absurd (let z : (x.kind == 2) ≡ false = ap (λ k. k == 2) g.kind in both_ways (x.kind == 2) z (eq-eqb x.kind 2 k)))

  root_kind : (x : StoredNode) → s.inode 0 ≡ Some x → x.kind ≡ 2
  root_kind x e = let h : (x.kind == 2) ≡ true = sym (ap (λ (o : Option StoredNode). has_kind o 2) e) ∙ c.rooted in eqb-true x.kind 2 h

  count_of : (i : ℕ) (x : StoredNode) → s.inode i ≡ Some x → (b : Bool) → (x.kind == 2) ≡ b → counts_agree v r i (Some x) ≡ true
  count_of i x e true k =
      let is : x.kind ≡ 2 = eqb-true x.kind 2 k in
      cond-true (x.kind == 2) (entries_of s i == x.size) (names_to v r i == x.links) k
      ∙ eq-eqb (entries_of s i) x.size (entries_are v r shapes in_use place_fine i x e is ∙ (dir_size v.segments s range shapes c x is (agreed v.segments s range shapes c i x e)).1)
  count_of i x e false k =
      let z : one_at 0 i ≡ 0 = ap (λ (b : Bool). cond b 1 0) (ne_eqb i 0 (λ z. both_ways (x.kind == 2) k (eq-eqb x.kind 2 (root_kind x (ap s.inode (sym z) ∙ e))))) in
      let a : names_to v r i + one_at 0 i ≡ links_of (nodes i) = links_are i (below_n i x e) in
      let b : links_of (nodes i) ≡ x.links = (node_links i x e (shapes i x e)).0 k in
      let d : names_to v r i ≡ x.links = omega arith in
      cond-false (x.kind == 2) (entries_of s i == x.size) (names_to v r i == x.links) k ∙ eq-eqb (names_to v r i) x.links d

  count_fine : (i : ℕ) → i < n → is_count_fine v r i ≡ true
  count_fine i l = or_right (not (r i)) (counts_agree v r i (s.inode i)) (go (s.inode i) refl)
    where
      go : (o : Option StoredNode) → s.inode i ≡ o → counts_agree v r i (s.inode i) ≡ true
      go None e = ap (counts_agree v r i) e
      go (Some x) e = ap (counts_agree v r i) e ∙ count_of i x e (x.kind == 2) refl

  once_fine : (i : ℕ) → i < n → is_named_once v r i ≡ true
  once_fine i l = go (s.inode i) refl
    where
      of : (x : StoredNode) → s.inode i ≡ Some x → (b : Bool) → (x.kind == 2) ≡ b → is_named_once v r i ≡ true
      of x e true k =
          let is : x.kind ≡ 2 = eqb-true x.kind 2 k in
          let a : names_to v r i + one_at 0 i ≡ links_of (nodes i) = links_are i l in
          let b : links_of (nodes i) ≡ 1 = (node_links i x e (shapes i x e)).1 is in
          let d : names_to v r i + one_at 0 i ≤ 1 = omega arith in
          or_right (not (has_kind (s.inode i) 2)) (nat_le (names_to v r i + one_at 0 i) 1) (le-leb (names_to v r i + one_at 0 i) 1 d)
      of x e false k = or_left (not (has_kind (s.inode i) 2)) (nat_le (names_to v r i + one_at 0 i) 1) (not_from_false (has_kind (s.inode i) 2) (ap (λ (o : Option StoredNode). has_kind o 2) e ∙ k))

      go : (o : Option StoredNode) → s.inode i ≡ o → is_named_once v r i ≡ true
      go None e = or_left (not (has_kind (s.inode i) 2)) (nat_le (names_to v r i + one_at 0 i) 1) (not_from_false (has_kind (s.inode i) 2) (ap (λ (o : Option StoredNode). has_kind o 2) e))
      go (Some x) e = of x e (x.kind == 2) refl

  -- ---- directories

  sector_fine : (b p : ℕ) → b < m → p < 8 → is_sector_fine v r b p ≡ true
  sector_fine b p l w = wherever_from v r b (λ d j. v.is_directory b p && all_below 7 (λ t. is_new_name s d (56 * j + (7 * p + t)))) test
    where
      test : (d j : ℕ) → d < n → j < 16 → r d ≡ true → holds (directory_block s d j) b ≡ true → (v.is_directory b p && all_below 7 (λ t. is_new_name s d (56 * j + (7 * p + t)))) ≡ true
      test d j dl jw rd h =
          let x = directory_of_block (s.inode d) j b h in
          let q = place_is d j jw in
          let tl : d * 16 + j < m = omega arith in
          let e : s.inode ((d * 16 + j) / 16) ≡ Some x.0 = ap s.inode q.0 ∙ x.1 in
          let jl : (d * 16 + j) % 16 < x.0.blocks = subst (λ k. k < x.0.blocks) (sym q.1) x.3 in
          let u : is_used_for x.0.kind (s.use_of (x.0.small ((d * 16 + j) % 16))) ≡ true = used_fits (d * 16 + j) x.0 tl e jl in
          let y : is_used_for 2 (s.use_of b) ≡ true = sym (ap (λ k. is_used_for k (s.use_of b)) x.2) ∙ sym (ap (λ k. is_used_for x.0.kind (s.use_of k)) (ap x.0.small q.1 ∙ x.4)) ∙ u in
          let few_blocks : x.0.blocks ≤ 16 = few x.0 (shapes d x.0 x.1) in
          let below : j < x.0.blocks = x.3 in
          and_from (v.is_directory b p) (all_below 7 (λ t. is_new_name s d (56 * j + (7 * p + t)))) (part_fit b p l w (directory_use (s.use_of b) y)).0
          (all_from 7 (λ t. is_new_name s d (56 * j + (7 * p + t))) (λ t tl. (
          let within_blocks : 56 * j + (7 * p + t) < 56 * x.0.blocks = omega arith in
          ap (λ (o : Option StoredNode). is_new_in s o (56 * j + (7 * p + t))) x.1 ∙ (place_fine d x.0 x.1 x.2 (56 * j + (7 * p + t)) within_blocks).0)))

  entries_fine : (b p : ℕ) → b < m → p < 8 → are_entries_fine v r b p ≡ true
  entries_fine b p l w = wherever_from v r b (λ d j. all_below 7 (λ t. names_well s (s.place b (7 * p + t)))) test
    where
      test : (d j : ℕ) → d < n → j < 16 → r d ≡ true → holds (directory_block s d j) b ≡ true → all_below 7 (λ t. names_well s (s.place b (7 * p + t))) ≡ true
      test d j dl jw rd h =
          let x = directory_of_block (s.inode d) j b h in
          let below : j < x.0.blocks = x.3 in
          all_from 7 (λ t. names_well s (s.place b (7 * p + t))) (λ t tl. (
          let q = 56 * j + (7 * p + t) in
          let within_blocks : q < 56 * x.0.blocks = omega arith in
          let dv : q / 56 ≡ j = omega arith in
          let md : q % 56 ≡ 7 * p + t = omega arith in
          let f : names_well s (s.place (x.0.small (q / 56)) (q % 56)) ≡ true = (place_fine d x.0 x.1 x.2 q within_blocks).1 in
          sym (ap (λ k. names_well s (s.place k (q % 56))) (ap x.0.small dv ∙ x.4) ∙ ap (λ k. names_well s (s.place b k)) md) ∙ f))

  root_fine : (i : ℕ) → is_root_fine v i ≡ true
  root_fine i = or_right (not (i == 0)) (has_kind (s.inode 0) 2) c.rooted

  pub all_fine : IsFine v r
  all_fine = record {
    bits = λ k l. all_from 64 (λ j. is_bit_fine v r (64 * k + j)) (λ j w. bit_fine (64 * k + j) (omega arith));
    fit = segment_fine;
    marks = mark_fine;
    root = λ i l. root_fine i;
    counts = count_fine;
    once = once_fine;
    blocks = λ i l. and_from (all_below 16 (λ j. is_first_within m (used v r) (16 * i + j))) (is_first_within v.segments (used_large v r) i) (all_from 16 (λ j. is_first_within m (used v r) (16 * i + j)) (λ j w. block_fine (16 * i + j) (omega arith))) (large_fine i l);
    parts = sector_fine;
    entries = entries_fine;
  }
