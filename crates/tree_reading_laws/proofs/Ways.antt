-- Ways from the root down a tree: no birth comes twice on one, so none is longer than the nodes, or than what they are told apart by.
use Rattle.std.proofs.Common.{ℕ, ◌≡◌, ◌≢◌, ◌≤◌, ◌+◌, inl, inr, ⊎_elim, true, Option, Some, None, is_some, List, [], ◌∷◌, length, refl, sym, ◌∙◌, ap, subst, arith}
use Rattle.std.specs.Prelude.{sum_by}
use Rattle.std.specs.BTreeMap.{is_at}
use Rattle.std.specs.Map.{lookup, remove_entry}
use Rattle.std.specs.Ordering.{nat_cmp}
use Rattle.std.proofs.lemmas.Bool.{cases_eq}
use Rattle.std.proofs.lemmas.List.Sums.{sum_by-cons}
use Rattle.tree_definitions.specs.declared.node.Node.{Node}
use Rattle.tree_definitions.specs.declared.node.Node.TheVariants.{Dir, File, Link}
use Rattle.tree_definitions.specs.Apply.{is_dir, links_of}
use Rattle.tree_definitions.specs.Entries.{Entries, entry_at}
use Rattle.tree_definitions.specs.Tree.{FileTree, node_at, without_node}
use Rattle.tree_definitions.specs.WellFormed.{IsWellFormed, names_in, names_of, one_at}
use Rattle.tree_definitions.proofs.Pairs.{birth_exact, found_left, length_removed}
use Rattle.tree_laws.proofs.Balance.{names_at, names_without}
use Rattle.tree_laws.proofs.Keeping.{named_once, names_nodes, never_root}
use Rattle.disk_definitions.specs.Naming.{find_in}
use Rattle.disk_definitions.proofs.Listed.{Among}
use Rattle.standing_laws.proofs.Walks.{named_by_dir}

-- a directory has one link
dir_links_one : (o : Option Node) → is_dir o ≡ true → links_of o ≡ 1
dir_links_one (Some (Dir entries blocks)) dir = refl
dir_links_one (Some (File cells links when)) dir = absurd (cc)
dir_links_one (Some (Link target links)) dir = absurd (cc)
dir_links_one None dir = absurd (cc)

-- ---- lists of births that differ

abbrev pub AreApart : List ℕ → Type 0
AreApart [] = Unit {0}
AreApart (b ∷ rest) = (Among b rest → ⊥) × AreApart rest

-- births that are told apart by numbers, each of which has an entry: there are no more than entries
pub no_more : {X : Type 0} (f : ℕ → ℕ) (way : List ℕ) (entries : List (ℕ × X)) → AreApart way → ((a b : ℕ) → Among a way → Among b way → f a ≡ f b → a ≡ b) →
    ((b : ℕ) → Among b way → is_some (lookup (is_at (nat_cmp (f b))) entries) ≡ true) → length way ≤ length entries
no_more f [] entries apart one there = omega arith
no_more {X} f (b ∷ way) entries apart one there =
    go (lookup (is_at (nat_cmp (f b))) entries) refl (there b (inl refl))
    (no_more f way (remove_entry (is_at (nat_cmp (f b))) entries) apart.1 (λ c d i j. one c d (inr i) (inr j))
    (λ c among. ap is_some (found_left nat_cmp birth_exact entries (f b) (f c) (other c among)) ∙ there c (inr among)))
  where
    other : (c : ℕ) → Among c way → f c ≢ f b
    other c among same = apart.0 (subst (λ k. Among k way) (one c b (inr among) (inl refl) same) among)

    go : (o : Option X) → lookup (is_at (nat_cmp (f b))) entries ≡ o → is_some o ≡ true → length way ≤ length (remove_entry (is_at (nat_cmp (f b))) entries) → length (b ∷ way) ≤ length entries
    go None e some fewer = absurd (cc)
    go (Some x) e some fewer =
        let gone : length entries ≡ length (remove_entry (is_at (nat_cmp (f b))) entries) + 1 = length_removed nat_cmp birth_exact entries (f b) x e in
        omega arith

module _ (t : FileTree) (well : IsWellFormed t) where
  -- a name of a directory is of this birth
  abbrev pub IsChild : ℕ → ℕ → Type 0
  IsChild dir birth = (name : List ℕ) × (find_in (node_at t dir) name ≡ Some birth)

  -- each lies below the one behind it, and the last is the root
  abbrev pub IsWay : List ℕ → Type 0
  IsWay [] = ⊥
  IsWay (b ∷ []) = b ≡ 0
  IsWay (b ∷ d ∷ rest) = IsChild d b × IsWay (d ∷ rest)

  -- ---- a directory lies below one directory, and the root below none

  in_dir : (d : ℕ) (name : List ℕ) (b : ℕ) (P : Type 0) → find_in (node_at t d) name ≡ Some b → ((entries : Entries) (blocks : ℕ) → node_at t d ≡ Some (Dir entries blocks) → entry_at entries name ≡ Some b → P) → P
  in_dir d name b P found then = go (node_at t d) refl found
    where
      go : (o : Option Node) → node_at t d ≡ o → find_in o name ≡ Some b → P
      go None e f = absurd (cc)
      go (Some (File cells links when)) e f = absurd (cc)
      go (Some (Link target links)) e f = absurd (cc)
      go (Some (Dir entries blocks)) e f = then entries blocks e f

  pub root_above : (d : ℕ) → IsChild d 0 → ⊥
  root_above d child = in_dir d child.0 0 ⊥ child.1 (λ entries blocks is at. never_root t well d entries blocks child.0 0 is at refl)

  pub child_there : (d b : ℕ) → IsChild d b → is_some (node_at t b) ≡ true
  child_there d b child = in_dir d child.0 b (is_some (node_at t b) ≡ true) child.1 (λ entries blocks is at. names_nodes t well d entries blocks child.0 b is at)

  parent_dir : (d b : ℕ) → IsChild d b → is_dir (node_at t d) ≡ true
  parent_dir d b child = named_by_dir (node_at t d) child.0 b child.1

  -- two names of a birth in two directories are two names
  two_names : (d e b : ℕ) → d ≢ e → IsChild d b → IsChild e b → 2 ≤ names_of t b
  two_names d e b far one two = in_dir d one.0 b (2 ≤ names_of t b) one.1 (λ entries blocks is at.
      in_dir e two.0 b (2 ≤ names_of t b) two.1 (λ others room also there.
      let rest : FileTree = without_node t d in
      let still : node_at rest e ≡ Some (Dir others room) = found_left nat_cmp birth_exact t.nodes d e (λ q. far (sym q)) ∙ also in
      let second : 1 ≤ names_of rest b = named_once rest e others room two.0 b still there in
      let both : names_of rest b + names_in b (Dir entries blocks) ≡ names_of t b = subst (λ o. names_of rest b + names_at b o ≡ names_of t b) is (names_without t d b) in
      let first : 1 ≤ names_in b (Dir entries blocks) = in_one d entries blocks one.0 b at in
      omega arith))
    where
      -- a directory alone has the names that it has
      in_one : (d : ℕ) (entries : Entries) (blocks : ℕ) (name : List ℕ) (b : ℕ) → entry_at entries name ≡ Some b → 1 ≤ names_in b (Dir entries blocks)
      in_one d entries blocks name b at =
          let alone : FileTree = record { segments = 0; nodes = (0, Dir entries blocks) ∷ [] } in
          let named : 1 ≤ sum_by (names_in b) (Dir entries blocks ∷ []) = named_once alone 0 entries blocks name b refl at in
          let one : sum_by (names_in b) (Dir entries blocks ∷ []) ≡ names_in b (Dir entries blocks) + sum_by (names_in b) [] = sum_by-cons (names_in b) (Dir entries blocks) [] in
          let none : sum_by (names_in b) [] ≡ 0 = refl in
          omega arith

  pub one_parent : (d e b : ℕ) → is_dir (node_at t b) ≡ true → IsChild d b → IsChild e b → d ≡ e
  one_parent d e b dir one two = ⊎_elim (λ same. same) (λ far. absurd (few far)) (cases_eq d e)
    where
      few : d ≢ e → ⊥
      few far =
          let many : 2 ≤ names_of t b = two_names d e b far one two in
          let links : names_of t b + one_at 0 b ≡ links_of (node_at t b) = well.links b in
          let single : links_of (node_at t b) ≡ 1 = dir_links_one (node_at t b) dir in
          omega arith

  -- ---- along a way

  -- what is on it behind a birth has a child, so all is directories where the first is
  dirs_along : (b : ℕ) (rest : List ℕ) → IsWay (b ∷ rest) → is_dir (node_at t b) ≡ true → (x : ℕ) → Among x (b ∷ rest) → is_dir (node_at t x) ≡ true
  dirs_along b rest way dir x (inl same) = subst (λ k. is_dir (node_at t k) ≡ true) (sym same) dir
  dirs_along b [] way dir x (inr among) = absurd among
  dirs_along b (d ∷ rest) way dir x (inr among) = dirs_along d rest way.1 (parent_dir d b way.0) x among

  -- the parent of a directory on it comes behind it
  parent_behind : (b : ℕ) (rest : List ℕ) → IsWay (b ∷ rest) → (x p : ℕ) → Among x (b ∷ rest) → is_dir (node_at t x) ≡ true → IsChild p x → Among p rest
  parent_behind b [] way x p (inl same) dir child = absurd (root_above p (subst (IsChild p) (same ∙ way) child))
  parent_behind b [] way x p (inr among) dir child = absurd among
  parent_behind b (d ∷ rest) way x p (inl same) dir child =
      inl (one_parent p d b (subst (λ k. is_dir (node_at t k) ≡ true) same dir) (subst (IsChild p) same child) way.0)
  parent_behind b (d ∷ rest) way x p (inr among) dir child = inr (parent_behind d rest way.1 x p among dir child)

  -- so a child of its first isn't on it
  pub goes_on : (b : ℕ) (rest : List ℕ) → IsWay (b ∷ rest) → AreApart (b ∷ rest) → (c : ℕ) → IsChild b c → Among c (b ∷ rest) → ⊥
  goes_on b rest way apart c child among =
      apart.0 (parent_behind b rest way c b among (dirs_along b rest way (parent_dir b c child) c among) child)

  -- each on it is there
  pub way_there : (b : ℕ) (rest : List ℕ) → IsWay (b ∷ rest) → is_some (node_at t b) ≡ true → (x : ℕ) → Among x (b ∷ rest) → is_some (node_at t x) ≡ true
  way_there b rest way some x (inl same) = subst (λ k. is_some (node_at t k) ≡ true) (sym same) some
  way_there b [] way some x (inr among) = absurd among
  way_there b (d ∷ rest) way some x (inr among) = way_there d rest way.1 (dir_there (node_at t d) (parent_dir d b way.0)) x among
    where
      dir_there : (o : Option Node) → is_dir o ≡ true → is_some o ≡ true
      dir_there (Some node) dir = refl
      dir_there None dir = absurd (cc)
