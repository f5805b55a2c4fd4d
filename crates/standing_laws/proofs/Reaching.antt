-- All is reached where each way to a directory stays or its end is reached, and each node has links.
use Rattle.std.proofs.Common.{ℕ, ◌≡◌, ◌≢◌, ◌≤◌, ◌+◌, ◌⊎◌, inl, inr, true, false, Option, Some, None, List, is_some, refl, sym, ◌∙◌, ap, subst, arith}
use Rattle.std.proofs.lemmas.Bool.{cases_eq}
use Rattle.tree_definitions.specs.declared.node.Node.{Node}
use Rattle.tree_definitions.specs.declared.node.Node.TheVariants.{Dir, File, Link}
use Rattle.tree_definitions.specs.Tree.{FileTree, node_at, with_node, without_node}
use Rattle.tree_definitions.specs.Apply.{is_dir, links_of}
use Rattle.tree_definitions.specs.WellFormed.{BirthsAscend, one_at, names_of, IsWellFormed}
use Rattle.tree_laws.proofs.Nodes.{with_same, with_other, without_same, without_other}
use Rattle.tree_laws.proofs.Balance.{one_other}
use Rattle.tree_laws.proofs.Keeping.{has_links}
use Rattle.disk_definitions.specs.Naming.{find_in}
use Rattle.disk_definitions.specs.Standing.{IsReached, IsReachedAt}
use Rattle.standing_laws.proofs.Walks.{finds, root_reached, reached_on, carried, named_by_dir}
use Rattle.standing_laws.proofs.NamesThere.{name_there}

-- each node has a link
abbrev pub HaveLinks : FileTree → Type 0
HaveLinks t = (b : ℕ) → is_some (node_at t b) ≡ true → 1 ≤ links_of (node_at t b)

-- each name of what is a directory afterwards was in one, and is there still or its directory is reached
abbrev pub KeepsWays : FileTree → FileTree → Type 0
KeepsWays t u = (c d : ℕ) (m : List ℕ) → finds t c m ≡ Some d → is_dir (node_at u d) ≡ true → (is_dir (node_at u c) ≡ true) × ((finds u c m ≡ Some d) ⊎ IsReachedAt (node_at u) d)

-- a directory that was reached is so
pub dirs_reached : (t u : FileTree) → KeepsWays t u → (b : ℕ) → IsReachedAt (node_at t) b → is_dir (node_at u b) ≡ true → IsReachedAt (node_at u) b
dirs_reached t u ways b r = carried (node_at t) (λ b. is_dir (node_at u b) ≡ true → IsReachedAt (node_at u) b) step (λ h. root_reached (node_at u)) b r
  where
    step : (c d : ℕ) (m : List ℕ) → finds t c m ≡ Some d → (is_dir (node_at u c) ≡ true → IsReachedAt (node_at u) c) → is_dir (node_at u d) ≡ true → IsReachedAt (node_at u) d
    step c d m f from h = elim ((ways c d m f h).1) [
      | inl stays ↦ reached_on (node_at u) c d m (from (ways c d m f h).0) stays
      | inr there ↦ there
    ]

is_what : (o : Option Node) → is_some o ≡ true → (is_dir o ≡ true) ⊎ (is_dir o ≡ false)
is_what (Some (Dir es n)) s = inl refl
is_what (Some (File cells links when)) s = inr refl
is_what (Some (Link target links)) s = inr refl
is_what None s = absurd (cc)

-- and so is each node, since it has a name in a directory
pub all_reached : (u : FileTree) → IsWellFormed u → HaveLinks u → ((b : ℕ) → is_dir (node_at u b) ≡ true → IsReachedAt (node_at u) b) → IsReached (node_at u)
all_reached u w links dirs b there = elim (is_what (node_at u b) there) [
  | inl dir ↦ dirs b dir
  | inr plain ↦
      let away : 0 ≢ b = λ e. absurd (let z : is_dir (node_at u b) ≡ true = ap (λ c. is_dir (node_at u c)) (sym e) ∙ w.rooted in cc) in
      let none : one_at 0 b ≡ 0 = one_other 0 b (λ e. away (sym e)) in
      let count : names_of u b + one_at 0 b ≡ links_of (node_at u b) = w.links b in
      let some : 1 ≤ links_of (node_at u b) = links b there in
      let n = name_there u b w (omega arith) in
      reached_on (node_at u) n.0 b n.1 (dirs n.0 (named_by_dir (node_at u n.0) n.1 b n.2)) n.2
]

-- where names and nodes are the same, what is reached is
pub same_reached : (t u : FileTree) → ((c : ℕ) (m : List ℕ) → finds u c m ≡ finds t c m) → ((b : ℕ) → is_some (node_at u b) ≡ true → is_some (node_at t b) ≡ true) → IsReached (node_at t) → IsReached (node_at u)
same_reached t u names nodes reached b there = carried (node_at t) (IsReachedAt (node_at u)) (λ c d m f r. reached_on (node_at u) c d m r (names c m ∙ f)) (root_reached (node_at u)) b (reached b (nodes b there))

-- ---- links
dir_link : (o : Option Node) → is_dir o ≡ true → 1 ≤ links_of o
dir_link (Some (Dir es n)) d = omega arith
dir_link (Some (File cells links when)) d = absurd (cc)
dir_link (Some (Link target links)) d = absurd (cc)
dir_link None d = absurd (cc)

pub reached_links : (t : FileTree) → IsWellFormed t → IsReached (node_at t) → HaveLinks t
reached_links t w reached b there = carried (node_at t) (λ b. 1 ≤ links_of (node_at t b)) (λ c d m f l. named c d m f) (dir_link (node_at t 0) w.rooted) b (reached b there)
  where
    named : (c d : ℕ) (m : List ℕ) → finds t c m ≡ Some d → 1 ≤ links_of (node_at t d)
    named c d m f = go (node_at t c) refl f
      where
        go : (o : Option Node) → node_at t c ≡ o → find_in o m ≡ Some d → 1 ≤ links_of (node_at t d)
        go (Some (Dir es n)) i f = has_links t w c es n m d i f
        go (Some (File cells links when)) i f = absurd (cc)
        go (Some (Link target links)) i f = absurd (cc)
        go None i f = absurd (cc)

pub links_with : (t : FileTree) (d : ℕ) (x : Node) → HaveLinks t → 1 ≤ links_of (Some x) → HaveLinks (with_node t d x)
links_with t d x links mine b there = elim (cases_eq b d) [
  | inl e ↦ let s : links_of (node_at (with_node t d x) b) ≡ links_of (Some x) = ap (λ c. links_of (node_at (with_node t d x) c)) e ∙ ap links_of (with_same t d x) in omega arith
  | inr n ↦ let s : node_at (with_node t d x) b ≡ node_at t b = with_other t d x b n in subst (λ o. 1 ≤ links_of o) (sym s) (links b (ap is_some (sym s) ∙ there))
]

pub links_without : (t : FileTree) (d : ℕ) → BirthsAscend t → HaveLinks t → HaveLinks (without_node t d)
links_without t d births links b there = elim (cases_eq b d) [
  | inl e ↦ absurd (let s : node_at (without_node t d) b ≡ None = ap (λ c. node_at (without_node t d) c) e ∙ without_same t d births in let z : is_some (node_at (without_node t d) b) ≡ false = ap is_some s in cc)
  | inr n ↦ let s : node_at (without_node t d) b ≡ node_at t b = without_other t d b n in subst (λ o. 1 ≤ links_of o) (sym s) (links b (ap is_some (sym s) ∙ there))
]
