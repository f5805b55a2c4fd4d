-- Walks of one path in two trees that agree on the directories in which its names are looked up.
use Rattle.std.proofs.Common.{ℕ, ◌≡◌, ◌==◌, Bool, true, false, ◌||◌, Option, Some, None, List, [], ◌∷◌, refl, sym, ◌∙◌, ap, subst, nat_eq, eq-eqb, is_some}
use Rattle.std.specs.List.{list_any}
use Rattle.tree_definitions.specs.declared.node.Node.{Node}
use Rattle.tree_definitions.specs.declared.node.Node.TheVariants.{Dir, File, Link}
use Rattle.tree_definitions.specs.Entries.{Entries, entry_at}
use Rattle.tree_definitions.specs.Tree.{FileTree, node_at}
use Rattle.tree_definitions.specs.Place.{Place, Root, Taken, Free, Nowhere, place_by, place_in, below, place_from, place, walked_by, walked_from, walked}
use Rattle.tree_definitions.specs.Apply.{is_dir}
use Rattle.tree_definitions.specs.WellFormed.{EntriesNameNodes, IsRooted}
use Rattle.tree_laws.proofs.Likeness.{Likeness, Like, Near}
use Rattle.tree_laws.specs.Touching.{OfDirectory, OfFile, OfLink, SameKinds}

-- what a place says of the tree
abbrev pub Stands : FileTree → Place → Type 0
Stands tree Root = Unit {0}
Stands tree (Taken dir entries blocks name birth) = (node_at tree dir ≡ Some (Dir entries blocks)) × (entry_at entries name ≡ Some birth)
Stands tree (Free dir entries blocks name) = (node_at tree dir ≡ Some (Dir entries blocks)) × (entry_at entries name ≡ None)
Stands tree (Nowhere r) = Unit {0}

module _ (tree : FileTree) where
  stands_by : (d : ℕ) (es : Entries) (n : ℕ) (name : List ℕ) (o : Option ℕ) → node_at tree d ≡ Some (Dir es n) → entry_at es name ≡ o → Stands tree (place_by d es n name o)
  stands_by d es n name (Some b) is at = (is, at)
  stands_by d es n name None is at = (is, at)

  stands_in : (o : Option Node) (d : ℕ) (name : List ℕ) → node_at tree d ≡ o → Stands tree (place_in o d name)
  stands_in (Some (Dir es n)) d name is = stands_by d es n name (entry_at es name) is refl
  stands_in (Some (File cells links when)) d name is = tt
  stands_in (Some (Link target links)) d name is = tt
  stands_in None d name is = tt

  stands_below : (p : Place) (next : ℕ → Place) → ((c : ℕ) → Stands tree (next c)) → Stands tree (below p next)
  stands_below Root next each = each 0
  stands_below (Taken d es n name c) next each = each c
  stands_below (Free d es n name) next each = tt
  stands_below (Nowhere r) next each = tt

  stands_from : (b : ℕ) (path : List (List ℕ)) → Stands tree (place_from tree b path)
  stands_from b [] = tt
  stands_from b (name ∷ []) = stands_in (node_at tree b) b name refl
  stands_from b (name ∷ next ∷ names) = stands_below (place_in (node_at tree b) b name) (λ c. place_from tree c (next ∷ names)) (λ c. stands_from c (next ∷ names))

  pub place_stands : (path : List (List ℕ)) → Stands tree (place tree path)
  place_stands path = stands_from 0 path

-- a test of a list's members
abbrev pub is_in : ℕ → List ℕ → Bool
is_in b bs = list_any (λ x. x == b) bs

pub head_is_in : (b : ℕ) (bs : List ℕ) → is_in b (b ∷ bs) ≡ true
head_is_in b bs = ap (λ t. t || is_in b bs) (eq-eqb b b refl)

pub tail_is_in : (b c : ℕ) (bs : List ℕ) → is_in b bs ≡ true → is_in b (c ∷ bs) ≡ true
tail_is_in b c bs h = go (nat_eq c b)
  where
    go : (t : Bool) → t || is_in b bs ≡ true
    go true = refl
    go false = h

pub dir_is_some : (o : Option Node) → is_dir o ≡ true → is_some o ≡ true
dir_is_some (Some x) d = refl
dir_is_some None d = cc

-- a walk from a node on, in both trees
pub record SameWalk (one two : FileTree) (b : ℕ) (path : List (List ℕ)) : Type 0 where
  pub place : place_from two b path ≡ place_from one b path
  pub walked : walked_from two b path ≡ walked_from one b path

module _ (L : Likeness) (one two : FileTree) (kinds : SameKinds one two) (alive_one : EntriesNameNodes one) (alive_two : EntriesNameNodes two) where
  -- the first name, with what follows it
  first_name : (path : List (List ℕ)) → ((c : ℕ) → is_some (node_at one c) ≡ true → is_some (node_at two c) ≡ true → ((d : ℕ) → is_in d (walked_from one c path) ≡ true → Near L one two d) → SameWalk one two c path)
      → (b : ℕ) (name : List ℕ) (o q : Option Node) → node_at one b ≡ o → node_at two b ≡ q → is_some o ≡ true → is_some q ≡ true
      → ((d : ℕ) → is_in d (walked_by (place_in o b name) b (λ c. walked_from one c path)) ≡ true → Near L one two d)
      → (place_in q b name ≡ place_in o b name) × (walked_by (place_in q b name) b (λ c. walked_from two c path) ≡ walked_by (place_in o b name) b (λ c. walked_from one c path))
      × (below (place_in q b name) (λ c. place_from two c path) ≡ below (place_in o b name) (λ c. place_from one c path))
  first_name path on b name (Some (Dir es n)) q i j s t same = go (entry_at es name) refl same
    where
      go : (a : Option ℕ) → entry_at es name ≡ a → ((d : ℕ) → is_in d (walked_by (place_by b es n name a) b (λ c. walked_from one c path)) ≡ true → Near L one two d)
          → (place_in q b name ≡ place_by b es n name a) × (walked_by (place_in q b name) b (λ c. walked_from two c path) ≡ walked_by (place_by b es n name a) b (λ c. walked_from one c path))
          × (below (place_in q b name) (λ c. place_from two c path) ≡ below (place_by b es n name a) (λ c. place_from one c path))
      go None at same =
          let is : q ≡ Some (Dir es n) = sym j ∙ subst (λ o. Like L o (node_at two b)) i (same b (head_is_in b [])) in
          rw (is, at) (refl, refl, refl)
      go (Some c) at same =
          let is : q ≡ Some (Dir es n) = sym j ∙ subst (λ o. Like L o (node_at two b)) i (same b (head_is_in b (walked_from one c path))) in
          let rest = on c (alive_one b es n name c i at) (alive_two b es n name c (j ∙ is) at) (λ d h. same d (tail_is_in d b (walked_from one c path) h)) in
          rw (is, at) (refl, ap (λ l. b ∷ l) rest.walked, rest.place)
  first_name path on b name (Some (File cells links when)) (Some (Dir es n)) i j s t same = absurd (let k : OfFile ≡ OfDirectory = kinds b (File cells links when) (Dir es n) i j in cc)
  first_name path on b name (Some (File cells links when)) (Some (File ds ms ws)) i j s t same = (refl, refl, refl)
  first_name path on b name (Some (File cells links when)) (Some (Link ds ms)) i j s t same = (refl, refl, refl)
  first_name path on b name (Some (File cells links when)) None i j s t same = absurd (cc)
  first_name path on b name (Some (Link cells links)) (Some (Dir es n)) i j s t same = absurd (let k : OfLink ≡ OfDirectory = kinds b (Link cells links) (Dir es n) i j in cc)
  first_name path on b name (Some (Link cells links)) (Some (File ds ms ws)) i j s t same = (refl, refl, refl)
  first_name path on b name (Some (Link cells links)) (Some (Link ds ms)) i j s t same = (refl, refl, refl)
  first_name path on b name (Some (Link cells links)) None i j s t same = absurd (cc)
  first_name path on b name None q i j s t same = absurd (cc)

  pub same_walk_from : (path : List (List ℕ)) (b : ℕ) → is_some (node_at one b) ≡ true → is_some (node_at two b) ≡ true → ((d : ℕ) → is_in d (walked_from one b path) ≡ true → Near L one two d) → SameWalk one two b path
  same_walk_from [] b s t same = record { place = refl; walked = refl }
  same_walk_from (name ∷ []) b s t same =
      let r = first_name [] (same_walk_from []) b name (node_at one b) (node_at two b) refl refl s t same in
      record { place = r.0; walked = r.1 }
  same_walk_from (name ∷ next ∷ names) b s t same =
      let r = first_name (next ∷ names) (same_walk_from (next ∷ names)) b name (node_at one b) (node_at two b) refl refl s t same in
      record { place = r.2; walked = r.1 }

  pub same_walk : IsRooted one → IsRooted two → (path : List (List ℕ)) → ((d : ℕ) → is_in d (walked one path) ≡ true → Near L one two d) → SameWalk one two 0 path
  same_walk root_one root_two path same = same_walk_from path 0 (dir_is_some (node_at one 0) root_one) (dir_is_some (node_at two 0) root_two) same
