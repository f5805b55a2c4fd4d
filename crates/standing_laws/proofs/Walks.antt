-- Walks along names: how they go on, and what they carry from one tree to another.
use Rattle.std.proofs.Common.{ℕ, ◌≡◌, true, false, Option, Some, None, List, [], ◌∷◌, ◌++◌, refl, ◌∙◌, ap, subst}
use Rattle.std.specs.Option.{option_and_then}
use Rattle.tree_definitions.specs.declared.node.Node.{Node}
use Rattle.tree_definitions.specs.declared.node.Node.TheVariants.{Dir, File, Link}
use Rattle.tree_definitions.specs.Tree.{FileTree, node_at}
use Rattle.tree_definitions.specs.Apply.{is_dir}
use Rattle.disk_definitions.specs.Naming.{Nodes, find_in}
use Rattle.disk_definitions.specs.Standing.{reached_from, IsReachedAt}

-- the birth of a name in a directory of a tree
abbrev pub finds : FileTree → ℕ → List ℕ → Option ℕ
finds tree d name = find_in (node_at tree d) name

pub root_reached : (at : Nodes) → IsReachedAt at 0
root_reached at = ([], refl)

-- a walk goes on by a name
walk_on : (at : Nodes) (names : List (List ℕ)) (a b c : ℕ) (name : List ℕ) → reached_from at a names ≡ Some b → find_in (at b) name ≡ Some c → reached_from at a (names ++ name ∷ []) ≡ Some c
walk_on at [] a b c name h f = let q : a ≡ b = cc in ap (λ b. option_and_then (λ next. reached_from at next []) (find_in (at b) name)) q ∙ ap (option_and_then (λ next. reached_from at next [])) f
walk_on at (m ∷ names) a b c name h f = go (λ v i. walk_on at names v b c name i f) (find_in (at a) m) h
  where
    go : ((v : ℕ) → reached_from at v names ≡ Some b → reached_from at v (names ++ name ∷ []) ≡ Some c) → (o : Option ℕ) → option_and_then (λ next. reached_from at next names) o ≡ Some b → option_and_then (λ next. reached_from at next (names ++ name ∷ [])) o ≡ Some c
    go later None i = absurd (cc)
    go later (Some v) i = later v i

pub reached_on : (at : Nodes) (b c : ℕ) (name : List ℕ) → IsReachedAt at b → find_in (at b) name ≡ Some c → IsReachedAt at c
reached_on at b c name r f = (r.0 ++ name ∷ [], walk_on at r.0 0 b c name r.1 f)

-- what holds of the root, and of each birth that a name leads to from one of which it holds, holds of each that is reached
carried_from : (at : Nodes) (P : ℕ → Type 0) → ((c d : ℕ) (m : List ℕ) → find_in (at c) m ≡ Some d → P c → P d) → (names : List (List ℕ)) (a b : ℕ) → P a → reached_from at a names ≡ Some b → P b
carried_from at P step [] a b p h = let q : a ≡ b = cc in subst P q p
carried_from at P step (m ∷ names) a b p h = go (λ v q i. carried_from at P step names v b q i) (find_in (at a) m) refl h
  where
    go : ((v : ℕ) → P v → reached_from at v names ≡ Some b → P b) → (o : Option ℕ) → find_in (at a) m ≡ o → option_and_then (λ next. reached_from at next names) o ≡ Some b → P b
    go later None e i = absurd (cc)
    go later (Some v) e i = later v (step a v m e p) i

pub carried : (at : Nodes) (P : ℕ → Type 0) → ((c d : ℕ) (m : List ℕ) → find_in (at c) m ≡ Some d → P c → P d) → P 0 → (b : ℕ) → IsReachedAt at b → P b
carried at P step p b r = carried_from at P step r.0 0 b p r.1

-- only a directory that has entries has names
pub named_by_dir : (o : Option Node) (name : List ℕ) (b : ℕ) → find_in o name ≡ Some b → is_dir o ≡ true
named_by_dir (Some (Dir es n)) name b f = refl
named_by_dir (Some (File cells links when)) name b f = absurd (cc)
named_by_dir (Some (Link target links)) name b f = absurd (cc)
named_by_dir None name b f = absurd (cc)

pub no_names_alone : (o : Option Node) (name : List ℕ) → is_dir o ≡ false → find_in o name ≡ None
no_names_alone (Some (Dir es n)) name f = absurd (cc)
no_names_alone (Some (File cells links when)) name f = refl
no_names_alone (Some (Link target links)) name f = refl
no_names_alone None name f = refl
