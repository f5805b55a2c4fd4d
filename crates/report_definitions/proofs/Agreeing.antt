-- Where each inode in use is reached, and the entries of each directory are new and name inodes of their kind, counts are those of the tree.
use Rattle.std.proofs.Common.{◌==◌, ◌≡◌, ℕ, zero, suc, ◌+◌, ◌*◌, ◌<◌, ◌≤◌, Bool, true, false, not, Option, Some, None, List, is_some, length, cond, refl, sym, ◌∙◌, ap, arith, unwrap_or, sum_by}
use Rattle.std.specs.Option.{option_map}
use Rattle.std.specs.Map.{lookup, values_of}
use Rattle.std.specs.BTreeMap.{is_at}
use Rattle.std.specs.Ordering.{nat_cmp}
use Rattle.std.specs.Cmp.{nat_cmp_total}
use Rattle.std.specs.Cmp.Lexicographic.{slice_cmp}
use Rattle.std.proofs.lemmas.Bool.{and_parts, and_from, cond-true, not-true, both_ways}
use Rattle.std.proofs.lemmas.Map.Entries.{sum_by-insert_entry}
use Rattle.frang_base.proofs.Tests.{none_of}
use Rattle.tree_definitions.specs.declared.node.Node.{Node}
use Rattle.tree_definitions.specs.Entries.{Entries, entry_at}
use Rattle.tree_definitions.specs.WellFormed.{one_at, names_in, names_of}
use Rattle.tree_definitions.proofs.Pairs.{name_exact, length_put}
use Rattle.disk_definitions.specs.Store.{Store, StoredNode, StoredEntry}
use Rattle.standing_laws.specs.Below.{holds}
use Rattle.standing_laws.specs.ReadTree.{place_at, with_place, entries_to, read_node, with_inode, nodes_to, tree_in}
use Rattle.standing_laws.specs.Soundness.{has_kind, entry_agrees, entries_agree}
use Rattle.standing_laws.proofs.Bounded.{all_at, all_from}
use Rattle.standing_laws.proofs.Entered.{found_at, at_found, one_spot, sorted_to}
use Rattle.standing_laws.proofs.NodesRead.{births_to, past}
use Rattle.standing_laws.proofs.Shapes.{Shape, OfFile, OfDir, OfLink}
use Rattle.standing_laws.proofs.Pictured.{read_file, read_dir, read_link}
use Rattle.standing_laws.proofs.PicturedBlocks.{few}
use Rattle.report_definitions.specs.Sums.{sum_below, count_below}
use Rattle.report_definitions.specs.View.{View, entry_in, entry_of, named_by}
use Rattle.report_definitions.specs.Rules.{is_new_at, names_well, entries_of, names_by, names_to}
use Rattle.report_definitions.proofs.SumLaws.{one_if, sum_same, count_same, count_zero, count_cut}
use Rattle.report_definitions.proofs.Reaching.{directory_in, directory_past, no_directory}

-- an entry is new at its place, and names an inode of its kind
abbrev pub IsFineAt : Store → (ℕ → Option StoredEntry) → ℕ → Type 0
IsFineAt s place q = (is_new_at place q (place q) ≡ true) × (names_well s (place q) ≡ true)

module _ (s : Store) (place : ℕ → Option StoredEntry) (n : ℕ) where
  pub agree_where_fine : ((q : ℕ) → q < n → IsFineAt s place q) → entries_agree s place n ≡ true
  agree_where_fine h = all_from n (λ q. entry_agrees s (entries_to place q) (place q)) (λ q l. one q (place q) (h q l).0 (h q l).1)
    where
      one : (q : ℕ) (o : Option StoredEntry) → is_new_at place q o ≡ true → names_well s o ≡ true → entry_agrees s (entries_to place q) o ≡ true
      one q None a b = refl
      one q (Some e) a b = and_from (not (is_some (entry_at (entries_to place q) e.name))) (has_kind (s.inode e.inode) e.kind) a b

  pub fine_where_agree : entries_agree s place n ≡ true → (q : ℕ) → q < n → IsFineAt s place q
  fine_where_agree h q l = one (place q) (all_at n (λ q. entry_agrees s (entries_to place q) (place q)) h q l)
    where
      one : (o : Option StoredEntry) → entry_agrees s (entries_to place q) o ≡ true → (is_new_at place q o ≡ true) × (names_well s o ≡ true)
      one None h = (refl, refl)
      one (Some e) h = let p = and_parts (not (is_some (entry_at (entries_to place q) e.name))) (has_kind (s.inode e.inode) e.kind) h in (p.0, p.1)

  -- an entry is found by its name
  pub found_entry : entries_agree s place n ≡ true → (q : ℕ) (e : StoredEntry) → q < n → place q ≡ Some e → entry_at (entries_to place n) e.name ≡ Some e.inode
  found_entry agree q e l p = go (entry_at (entries_to place n) e.name) refl
    where
      go : (o : Option ℕ) → entry_at (entries_to place n) e.name ≡ o → entry_at (entries_to place n) e.name ≡ Some e.inode
      go None h = absurd (both_ways (is_some (entry_at (entries_to place n) e.name)) (ap is_some h) (at_found place n q e l p))
      go (Some i) h =
          let f = found_at place n e.name i h in
          let at : f.spot ≡ q = one_spot s place n agree f.spot q f.entry e f.within l f.is p f.named in
          let same : Some f.entry ≡ Some e = sym f.is ∙ ap place at ∙ p in
          let t : f.entry ≡ e = cc in
          h ∙ ap (λ (i : ℕ). Some i) (sym f.inode ∙ ap (λ (e : StoredEntry). e.inode) t)

-- ---- counts of entries

-- how often entries have an inode
abbrev total_in : ℕ → Entries → ℕ
total_in i es = sum_by (one_at i) (values_of es)

-- the inode in an entry
abbrev inode_in : Option StoredEntry → Option ℕ
inode_in None = None
inode_in (Some e) = Some e.inode

named_well : (s : Store) (o : Option StoredEntry) → names_well s o ≡ true → named_by s o ≡ inode_in o
named_well s None h = refl
named_well s (Some e) h = cond-true (has_kind (s.inode e.inode) e.kind) (Some e.inode) None h

module _ (place : ℕ → Option StoredEntry) where
  absent : (n : ℕ) (x : StoredEntry) → place n ≡ Some x → is_new_at place n (place n) ≡ true → entry_at (entries_to place n) x.name ≡ None
  absent n x e h = none_of (entry_at (entries_to place n) x.name) (not-true (is_some (entry_at (entries_to place n) x.name)) (sym (ap (is_new_at place n) e) ∙ h))

  abbrev there : ℕ → ℕ
  there n = count_below n (λ q. is_some (place q))

  abbrev named : ℕ → ℕ → ℕ
  named i n = count_below n (λ q. holds (inode_in (place q)) i)

  length_new : (n : ℕ) → ((q : ℕ) → q < n → is_new_at place q (place q) ≡ true) → length (entries_to place n) ≡ count_below n (λ q. is_some (place q))
  length_new zero h = refl
  length_new (suc n) h = go (length_new n (λ q l. h q (omega arith))) (place n) refl (h n (omega arith))
    where
      go : length (entries_to place n) ≡ there n → (o : Option StoredEntry) → place n ≡ o → is_new_at place n (place n) ≡ true → length (with_place (entries_to place n) (place n)) ≡ there n + one_if (is_some (place n))
      go before None e h = ap (λ (o : Option StoredEntry). length (with_place (entries_to place n) o)) e ∙ (let b : length (entries_to place n) ≡ there n + 0 = omega arith in b) ∙ sym (ap (λ (o : Option StoredEntry). there n + one_if (is_some o)) e)
      go before (Some x) e h =
          let l : length (with_place (entries_to place n) (Some x)) ≡ length (entries_to place n) + 1 = length_put (slice_cmp nat_cmp) name_exact (entries_to place n) x.name x.inode (absent n x e h) in
          ap (λ (o : Option StoredEntry). length (with_place (entries_to place n) o)) e ∙ (let b : length (with_place (entries_to place n) (Some x)) ≡ there n + 1 = omega arith in b) ∙ sym (ap (λ (o : Option StoredEntry). there n + one_if (is_some o)) e)

  names_new : (i n : ℕ) → ((q : ℕ) → q < n → is_new_at place q (place q) ≡ true) → sum_by (one_at i) (values_of (entries_to place n)) ≡ count_below n (λ q. holds (inode_in (place q)) i)
  names_new i zero h = refl
  names_new i (suc n) h = go (names_new i n (λ q l. h q (omega arith))) (place n) refl (h n (omega arith))
    where
      go : total_in i (entries_to place n) ≡ named i n → (o : Option StoredEntry) → place n ≡ o → is_new_at place n (place n) ≡ true → total_in i (with_place (entries_to place n) (place n)) ≡ named i n + one_if (holds (inode_in (place n)) i)
      go before None e h = ap (λ (o : Option StoredEntry). total_in i (with_place (entries_to place n) o)) e ∙ (let b : total_in i (entries_to place n) ≡ named i n + 0 = omega arith in b) ∙ sym (ap (λ (o : Option StoredEntry). named i n + one_if (holds (inode_in o) i)) e)
      go before (Some x) e h =
          let a : total_in i (with_place (entries_to place n) (Some x)) + unwrap_or (option_map (one_at i) (entry_at (entries_to place n) x.name)) 0 ≡ total_in i (entries_to place n) + one_at i x.inode = sum_by-insert_entry (one_at i) name_exact.total (entries_to place n) x.name x.inode (sorted_to place n) in
          let z : unwrap_or (option_map (one_at i) (entry_at (entries_to place n) x.name)) 0 ≡ 0 = ap (λ (o : Option ℕ). unwrap_or (option_map (one_at i) o) 0) (absent n x e h) in
          ap (λ (o : Option StoredEntry). total_in i (with_place (entries_to place n) o)) e ∙ (let b : total_in i (with_place (entries_to place n) (Some x)) ≡ named i n + one_at i x.inode = omega arith in b) ∙ sym (ap (λ (o : Option StoredEntry). named i n + one_if (holds (inode_in o) i)) e)

pub zero_both : (b : Bool) → cond {A = ℕ} b 0 0 ≡ 0
zero_both true = refl
zero_both false = refl

module _ (v : View) (r : ℕ → Bool) (shapes : (i : ℕ) (x : StoredNode) → v.store.inode i ≡ Some x → Shape x) (all_in : (i : ℕ) (x : StoredNode) → v.store.inode i ≡ Some x → r i ≡ true) (fine : (d : ℕ) (x : StoredNode) → v.store.inode d ≡ Some x → x.kind ≡ 2 → (q : ℕ) → q < 56 * x.blocks → IsFineAt v.store (place_at v.store x) q) where
  abbrev s : Store
  s = v.store

  entry_here : (d q : ℕ) (x : StoredNode) → s.inode d ≡ Some x → x.kind ≡ 2 → q < 56 * x.blocks → entry_of s d q ≡ place_at s x q
  entry_here d q x e k l = ap (λ (o : Option StoredNode). entry_in s o q) e ∙ directory_in s x q k l

  entry_past : (d q : ℕ) (x : StoredNode) → s.inode d ≡ Some x → 56 * x.blocks ≤ q → entry_of s d q ≡ None
  entry_past d q x e l = ap (λ (o : Option StoredNode). entry_in s o q) e ∙ directory_past s x q l

  room : (d : ℕ) (x : StoredNode) → s.inode d ≡ Some x → 56 * x.blocks ≤ 896
  room d x e = let l : x.blocks ≤ 16 = few x (shapes d x e) in omega arith

  -- a directory's entries are counted as they are found
  pub entries_are : (d : ℕ) (x : StoredNode) → s.inode d ≡ Some x → x.kind ≡ 2 → entries_of s d ≡ length (entries_to (place_at s x) (56 * x.blocks))
  entries_are d x e k =
      count_cut (56 * x.blocks) 896 (λ q. is_some (entry_of s d q)) (λ q l. ap (λ (o : Option StoredEntry). is_some o) (entry_past d q x e l)) (room d x e)
      ∙ count_same (56 * x.blocks) (λ q. is_some (entry_of s d q)) (λ q. is_some (place_at s x q)) (λ q l. ap (λ (o : Option StoredEntry). is_some o) (entry_here d q x e k l))
      ∙ sym (length_new (place_at s x) (56 * x.blocks) (λ q l. (fine d x e k q l).0))

  names_of_directory : (d i : ℕ) (x : StoredNode) → s.inode d ≡ Some x → x.kind ≡ 2 → names_by s d i ≡ sum_by (one_at i) (values_of (entries_to (place_at s x) (56 * x.blocks)))
  names_of_directory d i x e k =
      count_cut (56 * x.blocks) 896 (λ q. holds (named_by s (entry_of s d q)) i) (λ q l. ap (λ (o : Option StoredEntry). holds (named_by s o) i) (entry_past d q x e l)) (room d x e)
      ∙ count_same (56 * x.blocks) (λ q. holds (named_by s (entry_of s d q)) i) (λ q. holds (inode_in (place_at s x q)) i)
      (λ q l. ap (λ (o : Option StoredEntry). holds (named_by s o) i) (entry_here d q x e k l) ∙ ap (λ (o : Option ℕ). holds o i) (named_well s (place_at s x q) (fine d x e k q l).1))
      ∙ sym (names_new (place_at s x) i (56 * x.blocks) (λ q l. (fine d x e k q l).0))

  names_of_other : (d i : ℕ) (x : StoredNode) → s.inode d ≡ Some x → (x.kind == 2) ≡ false → names_by s d i ≡ 0
  names_of_other d i x e k = count_zero 896 (λ q. holds (named_by s (entry_of s d q)) i) (λ q l. ap (λ (o : Option StoredEntry). holds (named_by s o) i) (ap (λ (o : Option StoredNode). entry_in s o q) e ∙ no_directory s x q k))

  names_of_none : (d i : ℕ) → s.inode d ≡ None → names_by s d i ≡ 0
  names_of_none d i e = count_zero 896 (λ q. holds (named_by s (entry_of s d q)) i) (λ q l. ap (λ (o : Option StoredNode). holds (named_by s (entry_in s o q)) i) e)

  -- how often the node of an inode names another
  abbrev weight : ℕ → Option StoredNode → ℕ
  weight i None = 0
  weight i (Some x) = names_in i (read_node s x)

  weighs : (i d : ℕ) → cond (r d) (names_by s d i) 0 ≡ weight i (s.inode d)
  weighs i d = go (s.inode d) refl
    where
      shaped : (x : StoredNode) → s.inode d ≡ Some x → Shape x → names_by s d i ≡ names_in i (read_node s x)
      shaped x e (OfFile f) = names_of_other d i x e (ap (λ k. k == 2) f.kind) ∙ sym (ap (names_in i) (read_file s x f.kind))
      shaped x e (OfDir f) = names_of_directory d i x e f.kind ∙ sym (ap (names_in i) (read_dir s x f.kind))
      shaped x e (OfLink f) = names_of_other d i x e (ap (λ k. k == 2) f.kind) ∙ sym (ap (names_in i) (read_link s x f.kind))

      go : (o : Option StoredNode) → s.inode d ≡ o → cond (r d) (names_by s d i) 0 ≡ weight i (s.inode d)
      go None e = ap (λ (n : ℕ). cond (r d) n 0) (names_of_none d i e) ∙ zero_both (r d) ∙ sym (ap (weight i) e)
      go (Some x) e = cond-true (r d) (names_by s d i) 0 (all_in d x e) ∙ shaped x e (shapes d x e) ∙ sym (ap (weight i) e)

  abbrev tree_total : ℕ → List (ℕ × Node) → ℕ
  tree_total i nodes = sum_by (names_in i) (values_of nodes)

  abbrev weighed : ℕ → ℕ → ℕ
  weighed i n = sum_below n (λ d. weight i (s.inode d))

  tree_weighs : (i n : ℕ) → sum_by (names_in i) (values_of (nodes_to s n)) ≡ sum_below n (λ d. weight i (s.inode d))
  tree_weighs i zero = refl
  tree_weighs i (suc n) = go (tree_weighs i n) (s.inode n) refl
    where
      go : tree_total i (nodes_to s n) ≡ weighed i n → (o : Option StoredNode) → s.inode n ≡ o → tree_total i (with_inode s (nodes_to s n) n (s.inode n)) ≡ weighed i n + weight i (s.inode n)
      go before None e = ap (λ (o : Option StoredNode). tree_total i (with_inode s (nodes_to s n) n o)) e ∙ (let b : tree_total i (nodes_to s n) ≡ weighed i n + 0 = omega arith in b) ∙ sym (ap (λ (o : Option StoredNode). weighed i n + weight i o) e)
      go before (Some x) e =
          let a : tree_total i (with_inode s (nodes_to s n) n (Some x)) + unwrap_or (option_map (names_in i) (lookup (is_at (nat_cmp n)) (nodes_to s n))) 0 ≡ tree_total i (nodes_to s n) + names_in i (read_node s x) = sum_by-insert_entry (names_in i) nat_cmp_total (nodes_to s n) n (read_node s x) (births_to s n) in
          let z : unwrap_or (option_map (names_in i) (lookup (is_at (nat_cmp n)) (nodes_to s n))) 0 ≡ 0 = ap (λ (o : Option Node). unwrap_or (option_map (names_in i) o) 0) (past s n n (omega arith)) in
          ap (λ (o : Option StoredNode). tree_total i (with_inode s (nodes_to s n) n o)) e ∙ (let b : tree_total i (with_inode s (nodes_to s n) n (Some x)) ≡ weighed i n + names_in i (read_node s x) = omega arith in b) ∙ sym (ap (λ (o : Option StoredNode). weighed i n + weight i o) e)

  -- names are counted as the tree has them
  pub names_are : (i : ℕ) → names_of (tree_in v.segments s) i ≡ names_to v r i
  names_are i = tree_weighs i (64 * v.segments) ∙ sym (sum_same (64 * v.segments) (λ d. cond (r d) (names_by s d i) 0) (λ d. weight i (s.inode d)) (λ d l. weighs i d))
