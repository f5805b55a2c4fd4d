-- The lines of a tree are the same by any number of levels that no way in it exceeds.
use Rattle.std.proofs.Common.{ℕ, zero, suc, ◌≡◌, ◌≤◌, ◌+◌, Bool, true, false, if◌then◌else◌, Option, Some, None, List, [], ◌∷◌, ◌++◌, length, refl, sym, ◌∙◌, ap, ap₂, arith}
use Rattle.std.specs.BTreeMap.{is_at}
use Rattle.std.specs.Cmp.Lexicographic.{slice_cmp}
use Rattle.std.specs.List.{flat_map}
use Rattle.std.specs.List.Sorted.{IsStrictlySortedBy}
use Rattle.std.specs.Map.{keys_of}
use Rattle.std.specs.Ordering.{nat_cmp}
use Rattle.frang_base.specs.declared.said.Said.{Said}
use Rattle.frang_base.specs.declared.said.Said.TheVariants as said
use Rattle.tree_definitions.specs.declared.node.Node.{Node}
use Rattle.tree_definitions.specs.declared.node.Node.TheVariants.{Dir, File, Link}
use Rattle.tree_definitions.specs.Entries.{Entries, entry_at}
use Rattle.tree_definitions.specs.Tree.{FileTree, node_at}
use Rattle.tree_definitions.specs.TreeLines.{lines_from, lines_with, name_below, path_text}
use Rattle.tree_definitions.specs.WellFormed.{IsWellFormed}
use Rattle.tree_definitions.proofs.Pairs.{name_exact, none_below, self, tie}
use Rattle.disk_definitions.specs.Naming.{find_in}
use Rattle.tree_reading_laws.proofs.Ways.{AreApart, IsWay, goes_on}

-- each entry of a list in order is found by its name
pub by_entries : {A : Type 0} (f g : List ℕ × ℕ → List A) (entries : Entries) → IsStrictlySortedBy (slice_cmp nat_cmp) (keys_of entries) →
    ((name : List ℕ) (birth : ℕ) → entry_at entries name ≡ Some birth → f (name, birth) ≡ g (name, birth)) → flat_map f entries ≡ flat_map g entries
unfolding IsStrictlySortedBy
by_entries f g [] sorted same = refl
by_entries f g (e ∷ entries) sorted same =
    ap₂ (λ xs ys. xs ++ ys) (same e.0 e.1 (ap (λ (b : Bool). if b then Some e.1 else entry_at entries e.0) (self (slice_cmp nat_cmp) name_exact e.0)))
    (by_entries f g entries sorted.1 (λ name birth found. same name birth (past name birth found (is_at (slice_cmp nat_cmp name) e.0) refl)))
  where
    past : (name : List ℕ) (birth : ℕ) → entry_at entries name ≡ Some birth → (b : Bool) → is_at (slice_cmp nat_cmp name) e.0 ≡ b → (if b then Some e.1 else entry_at entries name) ≡ Some birth
    past name birth found false is = found
    past name birth found true is =
        let same_name : name ≡ e.0 = tie (slice_cmp nat_cmp) name_exact name e.0 is in
        absurd (let z : None ≡ Some birth = sym (none_below (slice_cmp nat_cmp) name_exact entries e.0 sorted.0) ∙ sym (ap (entry_at entries) same_name) ∙ found in cc)

module _ (t : FileTree) (well : IsWellFormed t) (most : ℕ) (short : (b : ℕ) (rest : List ℕ) → IsWay t well (b ∷ rest) → AreApart (b ∷ rest) → length (b ∷ rest) ≤ most) where
  -- from a node at the end of a way on
  pub same_lines : (n m : ℕ) (b : ℕ) (rest : List ℕ) → IsWay t well (b ∷ rest) → AreApart (b ∷ rest) → most ≤ n + length rest → most ≤ m + length rest → (text : List ℕ) →
      lines_from n t text b ≡ lines_from m t text b
  same_lines zero m b rest way apart low high text = absurd (let l : suc (length rest) ≤ most = short b rest way apart in omega arith)
  same_lines (suc n) zero b rest way apart low high text = absurd (let l : suc (length rest) ≤ most = short b rest way apart in omega arith)
  same_lines (suc n) (suc m) b rest way apart low high text =
      at_node (λ c child. same_lines n m c (b ∷ rest) (child, way) (goes_on t well b rest way apart c child, apart) (let k : most ≤ n + suc (length rest) = omega arith in k)
      (let k : most ≤ m + suc (length rest) = omega arith in k)) (node_at t b) refl
    where
      at_node : ((c : ℕ) → (name : List ℕ) × (find_in (node_at t b) name ≡ Some c) → (text : List ℕ) → lines_from n t text c ≡ lines_from m t text c) → (o : Option Node) → node_at t b ≡ o →
          lines_with text o (λ e. lines_from n t (name_below text e.0) e.1) ≡ lines_with text o (λ e. lines_from m t (name_below text e.0) e.1)
      at_node below None e = refl
      at_node below (Some (File cells links when)) e = refl
      at_node below (Some (Link target links)) e = refl
      at_node below (Some (Dir entries blocks)) e =
          ap (λ (ls : List Said). said.Node (path_text text) 2 (length entries) 0 ∷ ls)
          (by_entries (λ e. lines_from n t (name_below text e.0) e.1) (λ e. lines_from m t (name_below text e.0) e.1) entries (well.names b entries blocks e)
          (λ name c found. below c (name, ap (λ o. find_in o name) e ∙ found) (name_below text name)))
