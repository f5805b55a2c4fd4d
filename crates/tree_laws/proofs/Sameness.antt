-- Nodes that compare as the same are equal.
use Rattle.std.proofs.Common.{ℕ, ◌≡◌, ◌==◌, Bool, true, false, not, ◌&&◌, Option, Some, None, List, [], ◌∷◌, refl, sym, ◌∙◌, ap, ap₂, nat_eq, eq-eqb, eqb-true, inl, inr, ◌⊎◌}
use Rattle.std.specs.Cmp.Lexicographic.{pointwise}
use Rattle.std.proofs.lemmas.Bool.{and_parts}
use Rattle.tree_definitions.specs.declared.cells.Cell.{Cell}
use Rattle.tree_definitions.specs.declared.cells.Cell.TheVariants.{Byte, Doubtful}
use Rattle.tree_definitions.specs.declared.node.Node.{Node}
use Rattle.tree_definitions.specs.declared.node.Node.TheVariants.{Dir, File, Link}
use Rattle.tree_definitions.specs.Tree.{FileTree, node_at}
use Rattle.tree_definitions.specs.Touched.{same_cell, same_node, same_where, differs}

pub pointwise_sound : {A : Type 0} (eq : A → A → Bool) → ((x y : A) → eq x y ≡ true → x ≡ y) → (xs ys : List A) → pointwise eq xs ys ≡ true → xs ≡ ys
pointwise_sound eq sound [] [] h = refl
pointwise_sound eq sound [] (y ∷ ys) h = cc
pointwise_sound eq sound (x ∷ xs) [] h = cc
pointwise_sound eq sound (x ∷ xs) (y ∷ ys) h = let p = and_parts (eq x y) (pointwise eq xs ys) h in ap₂ (λ a l. a ∷ l) (sound x y p.0) (pointwise_sound eq sound xs ys p.1)

pub pointwise_same : {A : Type 0} (eq : A → A → Bool) → ((x : A) → eq x x ≡ true) → (xs : List A) → pointwise eq xs xs ≡ true
pointwise_same eq same [] = refl
pointwise_same eq same (x ∷ xs) = ap (λ b. b && pointwise eq xs xs) (same x) ∙ pointwise_same eq same xs

pub text_sound : (xs ys : List ℕ) → pointwise nat_eq xs ys ≡ true → xs ≡ ys
text_sound xs ys h = pointwise_sound nat_eq eqb-true xs ys h

pub text_same : (xs : List ℕ) → pointwise nat_eq xs xs ≡ true
text_same xs = pointwise_same nat_eq (λ x. eq-eqb x x refl) xs

cell_sound : (a b : Cell) → same_cell a b ≡ true → a ≡ b
cell_sound (Byte a) (Byte b) h = ap Byte (eqb-true a b h)
cell_sound (Byte a) Doubtful h = cc
cell_sound Doubtful (Byte b) h = cc
cell_sound Doubtful Doubtful h = refl

cell_same : (a : Cell) → same_cell a a ≡ true
cell_same (Byte a) = eq-eqb a a refl
cell_same Doubtful = refl

entry_sound : (e f : List ℕ × ℕ) → pointwise nat_eq e.0 f.0 && e.1 == f.1 ≡ true → e ≡ f
entry_sound e f h = let p = and_parts (pointwise nat_eq e.0 f.0) (e.1 == f.1) h in ap₂ (λ n b. (n, b)) (text_sound e.0 f.0 p.0) (eqb-true e.1 f.1 p.1)

entry_same : (e : List ℕ × ℕ) → pointwise nat_eq e.0 e.0 && e.1 == e.1 ≡ true
entry_same e = ap₂ (λ a b. a && b) (text_same e.0) (eq-eqb e.1 e.1 refl)

file_equal : {cs ds : List Cell} {n m w v : ℕ} → cs ≡ ds → n ≡ m → w ≡ v → File cs n w ≡ File ds m v
file_equal c l t = cc

node_sound : (a b : Node) → same_node a b ≡ true → a ≡ b
node_sound (Dir es n) (Dir fs m) h = let p = and_parts (pointwise (λ e f. pointwise nat_eq e.0 f.0 && e.1 == f.1) es fs) (n == m) h in ap₂ Dir (pointwise_sound (λ e f. pointwise nat_eq e.0 f.0 && e.1 == f.1) entry_sound es fs p.0) (eqb-true n m p.1)
node_sound (File cs n w) (File ds m v) h =
    let p = and_parts (pointwise same_cell cs ds && n == m) (w == v) h in
    let q = and_parts (pointwise same_cell cs ds) (n == m) p.0 in
    file_equal (pointwise_sound same_cell cell_sound cs ds q.0) (eqb-true n m q.1) (eqb-true w v p.1)
node_sound (Link s n) (Link t m) h = let p = and_parts (pointwise nat_eq s t) (n == m) h in ap₂ Link (text_sound s t p.0) (eqb-true n m p.1)
node_sound (Dir es n) (File ds m v) h = cc
node_sound (Dir es n) (Link ds m) h = cc
node_sound (File es n w) (Dir ds m) h = cc
node_sound (File es n w) (Link ds m) h = cc
node_sound (Link es n) (Dir ds m) h = cc
node_sound (Link es n) (File ds m v) h = cc

node_same : (a : Node) → same_node a a ≡ true
node_same (Dir es n) = ap₂ (λ a b. a && b) (pointwise_same (λ e f. pointwise nat_eq e.0 f.0 && e.1 == f.1) entry_same es) (eq-eqb n n refl)
node_same (File cs n w) = ap₂ (λ a b. a && b) (ap₂ (λ a b. a && b) (pointwise_same same_cell cell_same cs) (eq-eqb n n refl)) (eq-eqb w w refl)
node_same (Link s n) = ap₂ (λ a b. a && b) (text_same s) (eq-eqb n n refl)

where_sound : (a b : Option Node) → same_where a b ≡ true → a ≡ b
where_sound (Some a) (Some b) h = ap Some (node_sound a b h)
where_sound (Some a) None h = cc
where_sound None (Some b) h = cc
where_sound None None h = refl

pub where_same : (a : Option Node) → same_where a a ≡ true
where_same (Some a) = node_same a
where_same None = refl

-- trees that don't differ at a birth have the same node there
pub alike_at : (old new : FileTree) (b : ℕ) → differs old new b ≡ false → node_at old b ≡ node_at new b
alike_at old new b h = go (same_where (node_at old b) (node_at new b)) refl h
  where
    go : (t : Bool) → same_where (node_at old b) (node_at new b) ≡ t → not t ≡ false → node_at old b ≡ node_at new b
    go true e f = where_sound (node_at old b) (node_at new b) e
    go false e f = cc

pub no_difference : (old new : FileTree) (b : ℕ) → node_at old b ≡ node_at new b → differs old new b ≡ false
no_difference old new b e = ap (λ o. not (same_where (node_at old b) o)) (sym e) ∙ ap not (where_same (node_at old b))

pub differs_or_not : (old new : FileTree) (b : ℕ) → (differs old new b ≡ true) ⊎ (node_at old b ≡ node_at new b)
differs_or_not old new b = go (differs old new b) refl
  where
    go : (t : Bool) → differs old new b ≡ t → (differs old new b ≡ true) ⊎ (node_at old b ≡ node_at new b)
    go true e = inl e
    go false e = inr (alike_at old new b e)
