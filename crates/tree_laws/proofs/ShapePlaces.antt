-- The names of a path lead to the same place in the shape.
use Rattle.std.proofs.Common.{ℕ, ◌≡◌, Option, Some, None, List, [], ◌∷◌, refl, ◌∙◌, ap}
use Rattle.tree_definitions.specs.declared.node.Node.{Node}
use Rattle.tree_definitions.specs.declared.node.Node.TheVariants.{Dir, File, Link}
use Rattle.tree_definitions.specs.Tree.{FileTree, node_at}
use Rattle.tree_definitions.specs.Place.{Place, Root, Taken, Free, Nowhere, place_in, below, place_from, walked_by, walked_from, walked}
use Rattle.tree_definitions.specs.Touched.{shape_of, shaped}
use Rattle.tree_laws.specs.Acting.{PlacesGoByShape}
use Rattle.tree_laws.proofs.ShapeNodes.{found}

in_shape : (o : Option Node) (dir : ℕ) (name : List ℕ) → place_in (shaped o) dir name ≡ place_in o dir name
in_shape (Some (Dir es n)) dir name = refl
in_shape (Some (File cells links when)) dir name = refl
in_shape (Some (Link target links)) dir name = refl
in_shape None dir name = refl

module _ (t : FileTree) where
  in_tree : (dir : ℕ) (name : List ℕ) → place_in (node_at (shape_of t) dir) dir name ≡ place_in (node_at t dir) dir name
  in_tree dir name = ap (λ o. place_in o dir name) (found t dir) ∙ in_shape (node_at t dir) dir name

  below_same : (next after : ℕ → Place) → ((b : ℕ) → after b ≡ next b) → (p : Place) → below p after ≡ below p next
  below_same next after same Root = same 0
  below_same next after same (Taken dir es n name b) = same b
  below_same next after same (Free dir es n name) = refl
  below_same next after same (Nowhere r) = refl

  from_same : (b : ℕ) (path : List (List ℕ)) → place_from (shape_of t) b path ≡ place_from t b path
  from_same b [] = refl
  from_same b (name ∷ []) = in_tree b name
  from_same b (name ∷ next ∷ names) =
      ap (λ p. below p (λ c. place_from (shape_of t) c (next ∷ names))) (in_tree b name)
      ∙ below_same (λ c. place_from t c (next ∷ names)) (λ c. place_from (shape_of t) c (next ∷ names)) (λ c. from_same c (next ∷ names)) (place_in (node_at t b) b name)

  by_same : (dir : ℕ) (next after : ℕ → List ℕ) → ((b : ℕ) → after b ≡ next b) → (p : Place) → walked_by p dir after ≡ walked_by p dir next
  by_same dir next after same Root = refl
  by_same dir next after same (Taken d es n name b) = ap (λ l. dir ∷ l) (same b)
  by_same dir next after same (Free d es n name) = refl
  by_same dir next after same (Nowhere r) = refl

  walked_same : (b : ℕ) (path : List (List ℕ)) → walked_from (shape_of t) b path ≡ walked_from t b path
  walked_same b [] = refl
  walked_same b (name ∷ names) =
      ap (λ p. walked_by p b (λ c. walked_from (shape_of t) c names)) (in_tree b name)
      ∙ by_same b (λ c. walked_from t c names) (λ c. walked_from (shape_of t) c names) (λ c. walked_same c names) (place_in (node_at t b) b name)

  pub same_walked : (path : List (List ℕ)) → walked (shape_of t) path ≡ walked t path
  same_walked path = walked_same 0 path

pub same_place : PlacesGoByShape
same_place t path = from_same t 0 path
