-- What the elementary changes of a tree do to its names: a name more, a name less, other links, a node gone.
use Rattle.std.proofs.Common.{ℕ, ◌≡◌, ◌≢◌, ◌<◌, ◌≤◌, ◌+◌, ◌-◌, ◌⊎◌, inl, inr, Bool, true, false, Option, Some, None, List, [], ◌∷◌, length, is_some, nat_lt, cond, refl, sym, ◌∙◌, ap, subst, arith}
use Rattle.std.proofs.lemmas.Bool.{cases_eq, ltb-true, ltb-false}
use Rattle.std.specs.BTreeMap.{is_at}
use Rattle.std.specs.Ordering.{nat_cmp}
use Rattle.std.specs.Cmp.Lexicographic.{slice_cmp}
use Rattle.tree_definitions.specs.declared.cells.Cell.{Cell}
use Rattle.tree_definitions.specs.declared.node.Node.{Node}
use Rattle.tree_definitions.specs.declared.node.Node.TheVariants.{Dir, File, Link}
use Rattle.tree_definitions.specs.Entries.{Entries, with_entry, without_entry}
use Rattle.tree_definitions.specs.Tree.{FileTree, node_at, with_node, without_node}
use Rattle.tree_definitions.specs.Apply.{is_dir, has_entries, one_link_more, one_link_fewer}
use Rattle.tree_definitions.specs.WellFormed.{BirthsAscend}
use Rattle.tree_definitions.proofs.Pairs.{name_exact, tie, self, found_put, found_other, found_left}
use Rattle.tree_laws.proofs.Nodes.{with_same, with_other, without_same, without_other}
use Rattle.disk_definitions.specs.Naming.{find_in}
use Rattle.disk_definitions.specs.Standing.{IsReached}
use Rattle.standing_laws.proofs.Walks.{finds, no_names_alone}
use Rattle.standing_laws.proofs.Reaching.{HaveLinks, same_reached, links_with, links_without}

-- names are the same or differ
pub same_name : (m name : List ℕ) → (m ≡ name) ⊎ (m ≢ name)
same_name m name = go (is_at (slice_cmp nat_cmp m) name) refl
  where
    go : (b : Bool) → is_at (slice_cmp nat_cmp m) name ≡ b → (m ≡ name) ⊎ (m ≢ name)
    go true i = inl (tie (slice_cmp nat_cmp) name_exact m name i)
    go false i = inr (λ e. absurd (let z : is_at (slice_cmp nat_cmp m) name ≡ true = subst (λ n. is_at (slice_cmp nat_cmp m) n ≡ true) e (self (slice_cmp nat_cmp) name_exact m) in cc))

-- one place of the tree, or another
pub same_place : (c d : ℕ) (m name : List ℕ) → ((c ≡ d) × (m ≡ name)) ⊎ ((c ≡ d) → (m ≡ name) → ⊥)
same_place c d m name = elim (cases_eq c d) [
  | inl e ↦ elim (same_name m name) [ inl i ↦ inl (e, i) | inr n ↦ inr (λ _ i. n i) ]
  | inr n ↦ inr (λ e _. n e)
]

-- ---- another node at a birth
pub finds_here : (t : FileTree) (d : ℕ) (x : Node) (m : List ℕ) → finds (with_node t d x) d m ≡ find_in (Some x) m
finds_here t d x m = ap (λ o. find_in o m) (with_same t d x)

pub finds_there : (t : FileTree) (d : ℕ) (x : Node) (c : ℕ) (m : List ℕ) → c ≢ d → finds (with_node t d x) c m ≡ finds t c m
finds_there t d x c m n = ap (λ o. find_in o m) (with_other t d x c n)

-- of the same kind
pub kind_kept : (t : FileTree) (d : ℕ) (x : Node) → is_dir (Some x) ≡ is_dir (node_at t d) → (c : ℕ) → is_dir (node_at (with_node t d x) c) ≡ is_dir (node_at t c)
kind_kept t d x k c = elim (cases_eq c d) [
  | inl e ↦ subst (λ c. is_dir (node_at (with_node t d x) c) ≡ is_dir (node_at t c)) (sym e) (ap is_dir (with_same t d x) ∙ k)
  | inr n ↦ ap is_dir (with_other t d x c n)
]

-- which is a directory in both trees
pub record SameDirs (t u : FileTree) : Type 0 where
  pub dirs : (c : ℕ) → is_dir (node_at u c) ≡ is_dir (node_at t c)

-- ---- a directory with other entries
module _ (t : FileTree) (d : ℕ) (es : Entries) (n : ℕ) (is : node_at t d ≡ Some (Dir es n)) where
  -- other blocks
  pub room_finds : (k c : ℕ) (m : List ℕ) → finds (with_node t d (Dir es k)) c m ≡ finds t c m
  room_finds k c m = elim (cases_eq c d) [
    | inl e ↦ subst (λ c. finds (with_node t d (Dir es k)) c m ≡ finds t c m) (sym e) (finds_here t d (Dir es k) m ∙ sym (ap (λ o. find_in o m) is))
    | inr a ↦ finds_there t d (Dir es k) c m a
  ]

  pub entries_dirs : (fs : Entries) (k : ℕ) → SameDirs t (with_node t d (Dir fs k))
  entries_dirs fs k = record { dirs = kind_kept t d (Dir fs k) (sym (ap is_dir is)) }

  -- a name more, or another birth for it
  pub put_finds : (name : List ℕ) (v k : ℕ) → finds (with_node t d (Dir (with_entry es name v) k)) d name ≡ Some v
  put_finds name v k = finds_here t d (Dir (with_entry es name v) k) name ∙ found_put (slice_cmp nat_cmp) name_exact es name v

  pub put_keeps : (name : List ℕ) (v k c : ℕ) (m : List ℕ) → ((c ≡ d) → (m ≡ name) → ⊥) → finds (with_node t d (Dir (with_entry es name v) k)) c m ≡ finds t c m
  put_keeps name v k c m far = elim (cases_eq c d) [
    | inl e ↦ subst (λ c. finds (with_node t d (Dir (with_entry es name v) k)) c m ≡ finds t c m) (sym e)
        (finds_here t d (Dir (with_entry es name v) k) m ∙ found_other (slice_cmp nat_cmp) name_exact es name v m (λ i. far e i) ∙ sym (ap (λ o. find_in o m) is))
    | inr a ↦ finds_there t d (Dir (with_entry es name v) k) c m a
  ]

  -- a name less
  pub gone_keeps : (name : List ℕ) (k c : ℕ) (m : List ℕ) → ((c ≡ d) → (m ≡ name) → ⊥) → finds (with_node t d (Dir (without_entry es name) k)) c m ≡ finds t c m
  gone_keeps name k c m far = elim (cases_eq c d) [
    | inl e ↦ subst (λ c. finds (with_node t d (Dir (without_entry es name) k)) c m ≡ finds t c m) (sym e)
        (finds_here t d (Dir (without_entry es name) k) m ∙ found_left (slice_cmp nat_cmp) name_exact es name m (λ i. far e i) ∙ sym (ap (λ o. find_in o m) is))
    | inr a ↦ finds_there t d (Dir (without_entry es name) k) c m a
  ]

-- ---- links
pub more_dirs : (t : FileTree) (b : ℕ) → SameDirs t (one_link_more t b (node_at t b))
more_dirs t b = go (node_at t b) refl
  where
    go : (o : Option Node) → node_at t b ≡ o → SameDirs t (one_link_more t b o)
    go (Some (File cells links when)) i = record { dirs = kind_kept t b (File cells (links + 1) when) (sym (ap is_dir i)) }
    go (Some (Link target links)) i = record { dirs = kind_kept t b (Link target (links + 1)) (sym (ap is_dir i)) }
    go (Some (Dir es n)) i = record { dirs = λ c. refl }
    go None i = record { dirs = λ c. refl }

-- a node without names has none afterwards
plain_finds : (t : FileTree) (b : ℕ) (x : Node) → is_dir (Some x) ≡ false → ((m : List ℕ) → finds t b m ≡ None) → (c : ℕ) (m : List ℕ) → finds (with_node t b x) c m ≡ finds t c m
plain_finds t b x plain none c m = elim (cases_eq c b) [
  | inl e ↦ subst (λ c. finds (with_node t b x) c m ≡ finds t c m) (sym e) (finds_here t b x m ∙ no_names_alone (Some x) m plain ∙ sym (none m))
  | inr a ↦ finds_there t b x c m a
]

-- a file has other cells, and maybe another time
pub cells_reached : (t : FileTree) (b : ℕ) (cells others : List Cell) (links old when : ℕ) → node_at t b ≡ Some (File cells links old) → IsReached (node_at t) → IsReached (node_at (with_node t b (File others links when)))
cells_reached t b cells others links old when is = same_reached t (with_node t b (File others links when)) (plain_finds t b (File others links when) refl (λ m. ap (λ o. find_in o m) is))
    (λ c there. elim (cases_eq c b) [
      | inl e ↦ ap is_some (ap (node_at t) e ∙ is)
      | inr a ↦ ap is_some (sym (with_other t b (File others links when) c a)) ∙ there
    ])

pub more_finds : (t : FileTree) (b c : ℕ) (m : List ℕ) → finds (one_link_more t b (node_at t b)) c m ≡ finds t c m
more_finds t b c m = go (node_at t b) refl
  where
    go : (o : Option Node) → node_at t b ≡ o → finds (one_link_more t b o) c m ≡ finds t c m
    go (Some (File cells links when)) i = plain_finds t b (File cells (links + 1) when) refl (λ m. ap (λ o. find_in o m) i) c m
    go (Some (Link target links)) i = plain_finds t b (Link target (links + 1)) refl (λ m. ap (λ o. find_in o m) i) c m
    go (Some (Dir es n)) i = refl
    go None i = refl

pub more_else : (t : FileTree) (b : ℕ) (o : Option Node) (c : ℕ) → c ≢ b → node_at (one_link_more t b o) c ≡ node_at t c
more_else t b (Some (File cells links when)) c n = with_other t b (File cells (links + 1) when) c n
more_else t b (Some (Link target links)) c n = with_other t b (Link target (links + 1)) c n
more_else t b (Some (Dir es k)) c n = refl
more_else t b None c n = refl

pub more_links : (t : FileTree) (b : ℕ) (o : Option Node) → HaveLinks t → HaveLinks (one_link_more t b o)
more_links t b (Some (File cells links when)) have = links_with t b (File cells (links + 1) when) have (omega arith)
more_links t b (Some (Link target links)) have = links_with t b (Link target (links + 1)) have (omega arith)
more_links t b (Some (Dir es n)) have = have
more_links t b None have = have

-- ---- a link fewer: elsewhere all stays, and there is no directory then
pub fewer_else : (u : FileTree) (b : ℕ) (o : Option Node) (c : ℕ) → c ≢ b → node_at (one_link_fewer u b o) c ≡ node_at u c
fewer_else u b (Some (File cells links when)) c n = either (nat_lt 1 links)
  where
    either : (t : Bool) → node_at (cond t (with_node u b (File cells (links - 1) when)) (without_node u b)) c ≡ node_at u c
    either true = with_other u b (File cells (links - 1) when) c n
    either false = without_other u b c n
fewer_else u b (Some (Link target links)) c n = either (nat_lt 1 links)
  where
    either : (t : Bool) → node_at (cond t (with_node u b (Link target (links - 1))) (without_node u b)) c ≡ node_at u c
    either true = with_other u b (Link target (links - 1)) c n
    either false = without_other u b c n
fewer_else u b (Some (Dir es k)) c n = without_other u b c n
fewer_else u b None c n = refl

pub fewer_here : (u : FileTree) (b : ℕ) (o : Option Node) → BirthsAscend u → is_some o ≡ true → is_dir (node_at (one_link_fewer u b o) b) ≡ false
fewer_here u b (Some (File cells links when)) births s = either (nat_lt 1 links)
  where
    either : (t : Bool) → is_dir (node_at (cond t (with_node u b (File cells (links - 1) when)) (without_node u b)) b) ≡ false
    either true = ap is_dir (with_same u b (File cells (links - 1) when))
    either false = ap is_dir (without_same u b births)
fewer_here u b (Some (Link target links)) births s = either (nat_lt 1 links)
  where
    either : (t : Bool) → is_dir (node_at (cond t (with_node u b (Link target (links - 1))) (without_node u b)) b) ≡ false
    either true = ap is_dir (with_same u b (Link target (links - 1)))
    either false = ap is_dir (without_same u b births)
fewer_here u b (Some (Dir es k)) births s = ap is_dir (without_same u b births)
fewer_here u b None births s = absurd (cc)

pub fewer_links : (u : FileTree) (b : ℕ) (o : Option Node) → BirthsAscend u → HaveLinks u → HaveLinks (one_link_fewer u b o)
fewer_links u b (Some (File cells links when)) births have = go (nat_lt 1 links) refl
  where
    go : (t : Bool) → nat_lt 1 links ≡ t → HaveLinks (cond t (with_node u b (File cells (links - 1) when)) (without_node u b))
    go true e = links_with u b (File cells (links - 1) when) have (let l : 1 < links = ltb-true 1 links e in omega arith)
    go false e = links_without u b births have
fewer_links u b (Some (Link target links)) births have = go (nat_lt 1 links) refl
  where
    go : (t : Bool) → nat_lt 1 links ≡ t → HaveLinks (cond t (with_node u b (Link target (links - 1))) (without_node u b))
    go true e = links_with u b (Link target (links - 1)) have (let l : 1 < links = ltb-true 1 links e in omega arith)
    go false e = links_without u b births have
fewer_links u b (Some (Dir es k)) births have = links_without u b births have
fewer_links u b None births have = have

-- a directory without entries has no names
pub no_entries : (o : Option Node) (m : List ℕ) → has_entries o ≡ false → find_in o m ≡ None
no_entries (Some (Dir [] n)) m h = refl
no_entries (Some (Dir (e ∷ es) n)) m h = absurd (let l : length (e ∷ es) ≤ 0 = ltb-false 0 (length (e ∷ es)) h in omega arith)
no_entries (Some (File cells links when)) m h = refl
no_entries (Some (Link target links)) m h = refl
no_entries None m h = refl
