-- A name moved: a directory goes along with what is below it, since the walk to its new name doesn't go through it.
use Rattle.std.proofs.Common.{ℕ, ◌≡◌, ◌≢◌, inl, inr, true, Option, Some, None, List, refl, sym, ◌∙◌, ap, subst, arith}
use Rattle.tree_definitions.specs.declared.node.Node.{Node}
use Rattle.tree_definitions.specs.declared.node.Node.TheVariants.{Dir, File, Link}
use Rattle.tree_definitions.specs.Entries.{Entries, with_entry, without_entry}
use Rattle.tree_definitions.specs.Tree.{FileTree, node_at, with_node, grown}
use Rattle.tree_definitions.specs.Apply.{is_dir, name_gone, name_set, moved, room_made}
use Rattle.tree_definitions.specs.WellFormed.{BirthsAscend, IsWellFormed}
use Rattle.tree_laws.proofs.Nodes.{with_other, ascend_with}
use Rattle.tree_laws.proofs.Places.{dir_is_some}
use Rattle.disk_definitions.specs.Standing.{IsReached, IsReachedAt}
use Rattle.standing_laws.proofs.Walks.{finds, reached_on}
use Rattle.standing_laws.proofs.Reaching.{HaveLinks, KeepsWays, dirs_reached, all_reached, links_with}
use Rattle.standing_laws.proofs.Changes.{same_place, room_finds, entries_dirs, put_finds, put_keeps, gone_keeps}

-- one name less and one more, at other places nothing
pub record IsMoved (t u : FileTree) (from : ℕ) (name : List ℕ) (to : ℕ) (new : List ℕ) (b : ℕ) : Type 0 where
  pub dirs : (c : ℕ) → is_dir (node_at u c) ≡ is_dir (node_at t c)
  pub put : finds u to new ≡ Some b
  pub keeps : (c : ℕ) (m : List ℕ) → ((c ≡ from) → (m ≡ name) → ⊥) → ((c ≡ to) → (m ≡ new) → ⊥) → finds u c m ≡ finds t c m
  pub links : HaveLinks u
  pub births : BirthsAscend u

-- the name is set
module _ (g : FileTree) (to : ℕ) (new : List ℕ) (b : ℕ) (have : HaveLinks g) (births : BirthsAscend g) where
  -- nothing is gone
  abbrev IsSet : FileTree → Type 0
  IsSet u = ((c : ℕ) → is_dir (node_at u c) ≡ is_dir (node_at g c)) × (finds u to new ≡ Some b) × ((c : ℕ) (m : List ℕ) → ((c ≡ to) → (m ≡ new) → ⊥) → finds u c m ≡ finds g c m) × HaveLinks u × BirthsAscend u

  pub set_in : (o : Option Node) → node_at g to ≡ o → is_dir o ≡ true → IsSet (name_set g to new b o)
  set_in (Some (Dir fs k)) i d = (
    (entries_dirs g to fs k i (with_entry fs new b) k).dirs,
    put_finds g to fs k i new b k,
    λ c m far. put_keeps g to fs k i new b k c m far,
    links_with g to (Dir (with_entry fs new b) k) have (omega arith),
    ascend_with g to (Dir (with_entry fs new b) k) births,
  )
  set_in (Some (File cells links when)) i d = absurd (cc)
  set_in (Some (Link target links)) i d = absurd (cc)
  set_in None i d = absurd (cc)

module _ (t : FileTree) (have : HaveLinks t) (births : BirthsAscend t) (from : ℕ) (es : Entries) (n : ℕ) (is : node_at t from ≡ Some (Dir es n)) (name : List ℕ) (to : ℕ) (dir : is_dir (node_at t to) ≡ true) (new : List ℕ) (b : ℕ) where
  abbrev gone : FileTree
  gone = with_node t from (Dir (without_entry es name) n)

  moved_from : moved t from name to new b ≡ name_set gone to new b (node_at gone to)
  moved_from = ap (λ o. name_set (name_gone t from name o) to new b (node_at (name_gone t from name o) to)) is

  set_gone : IsMoved t (name_set gone to new b (node_at gone to)) from name to new b
  set_gone =
      let same = (entries_dirs t from es n is (without_entry es name) n).dirs in
      let s = set_in gone to new b (links_with t from (Dir (without_entry es name) n) have (omega arith)) (ascend_with t from (Dir (without_entry es name) n) births) (node_at gone to) refl (same to ∙ dir) in
      record {
        dirs = λ c. s.0 c ∙ same c;
        put = s.1;
        keeps = λ c m first second. s.2 c m second ∙ gone_keeps t from es n is name n c m first;
        links = s.3;
        births = s.4;
      }

  pub is_moved : IsMoved t (moved t from name to new b) from name to new b
  is_moved = subst (λ u. IsMoved t u from name to new b) (sym moved_from) set_gone

-- a directory gets room first
pub room_moved : (t : FileTree) → HaveLinks t → BirthsAscend t → (from : ℕ) (es : Entries) (n : ℕ) → node_at t from ≡ Some (Dir es n) → (name : List ℕ) (to : ℕ) (fs : Entries) (k : ℕ) → node_at t to ≡ Some (Dir fs k) → from ≢ to → (new : List ℕ) (b : ℕ)
    → IsMoved t (moved (room_made t to fs k) from name to new b) from name to new b
room_moved t have births from es n is name to fs k at far new b =
    let r : FileTree = room_made t to fs k in
    let same = (entries_dirs t to fs k at fs (grown fs k)).dirs in
    let m = is_moved r (links_with t to (Dir fs (grown fs k)) have (omega arith)) (ascend_with t to (Dir fs (grown fs k)) births) from es n (with_other t to (Dir fs (grown fs k)) from far ∙ is) name to (same to ∙ ap is_dir at) new b in
    record {
      dirs = λ c. m.dirs c ∙ same c;
      put = m.put;
      keeps = λ c x first second. m.keeps c x first second ∙ room_finds t to fs k at (grown fs k) c x;
      links = m.links;
      births = m.births;
    }

-- what is known of a tree after a rename
module _ (t u : FileTree) (reached : IsReached (node_at t)) (from : ℕ) (name : List ℕ) (to : ℕ) (new : List ℕ) (b : ℕ) (was : finds t from name ≡ Some b)
    (back : (c : ℕ) → is_dir (node_at u c) ≡ true → is_dir (node_at t c) ≡ true) (put : finds u to new ≡ Some b)
    (stays : (c d : ℕ) (m : List ℕ) → finds t c m ≡ Some d → is_dir (node_at u c) ≡ true)
    (keeps : (c d : ℕ) (m : List ℕ) → finds t c m ≡ Some d → is_dir (node_at u d) ≡ true → ((c ≡ from) → (m ≡ name) → ⊥) → finds u c m ≡ Some d)
    (home : is_dir (node_at t b) ≡ true → IsReachedAt (node_at u) to) (links : HaveLinks u) where
  ways : KeepsWays t u
  ways c d m f h = (
    stays c d m f,
    elim (same_place c from m name) [
      | inl e ↦
          let q : d ≡ b = (let z : Some d ≡ Some b = sym f ∙ ap (λ c. finds t c m) e.0 ∙ ap (finds t from) e.1 ∙ was in cc) in
          inr (subst (IsReachedAt (node_at u)) (sym q) (reached_on (node_at u) to b new (home (back b (subst (λ d. is_dir (node_at u d) ≡ true) q h))) put))
      | inr far ↦ inl (keeps c d m f h far)
    ],
  )

  pub rename_reached : IsWellFormed u → IsReached (node_at u)
  rename_reached w = all_reached u w links (λ c h. dirs_reached t u ways c (reached c (dir_is_some (node_at t c) (back c h))) h)
