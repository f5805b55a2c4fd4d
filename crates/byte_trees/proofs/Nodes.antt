-- The nodes of a tree with a byte for each cell.
use Rattle.std.proofs.Common.{ℕ, zero, suc, ◌≡◌, ◌+◌, Bool, true, false, Option, Some, None, List, [], ◌∷◌, map, cond, refl, sym, ◌∙◌, ap, ap₂, subst, inl, inr, ◌⊎◌}
use Rattle.std.specs.List.{slice_get}
use Rattle.std.specs.List.Sorted.{IsStrictlySortedBy}
use Rattle.std.specs.Map.{keys_of, lookup}
use Rattle.std.specs.Option.{option_map}
use Rattle.std.specs.Ordering.{nat_cmp}
use Rattle.std.specs.BTreeMap.{is_at}
use Rattle.tree_definitions.specs.declared.cells.Cell.{Cell}
use Rattle.tree_definitions.specs.declared.cells.Cell.TheVariants.{Byte, Doubtful}
use Rattle.tree_definitions.specs.declared.node.Node.{Node}
use Rattle.tree_definitions.specs.declared.node.Node.TheVariants.{Dir, File, Link}
use Rattle.tree_definitions.specs.Apply.{is_dir, links_of}
use Rattle.tree_definitions.specs.Touched.{node_shape, shape_of, doubts, shaped}
use Rattle.tree_definitions.specs.Tree.{FileTree, node_at}
use Rattle.tree_laws.specs.Rooms.{SameRoom}
use Rattle.tree_laws.specs.Touching.{SameKinds, kind_of}
use Rattle.tree_definitions.specs.WellFormed.{IsNew, IsWellFormed, NamesAscend, names_in, names_of, one_at}
use Rattle.tree_laws.proofs.Likeness.{Like, Near}
use Rattle.tree_definitions.proofs.Pairs.{birth_exact, tie}
use Rattle.tree_laws.specs.Alike.{Vaguer}
use Rattle.tree_laws.proofs.Vagueness.{vague}
use Rattle.tree_laws.proofs.Changes.{same_dir, same_links}
use Rattle.tree_laws.proofs.ShapeNodes.{count_stays, found, keys_stay, room_stays, shapes}
use Rattle.tree_laws.proofs.ShapeKeeping.{names_stay, dir_back}
use Rattle.disk_definitions.specs.Naming.{Allows, cell_in}
use Rattle.byte_trees.specs.Sharp.{NamesNoOthers, SharpTreesStand, sharp, sharp_node, standing}

-- ---- cells
same_doubts : (f : ℕ → ℕ) (cells : List Cell) → doubts (standing f cells) ≡ doubts cells
same_doubts f [] = refl
same_doubts f (c ∷ cells) = ap (λ l. Doubtful ∷ l) (same_doubts (λ j. f (suc j)) cells)

allowed : (c : Cell) (v : ℕ) → Allows c v → (Byte v ≡ c) ⊎ (c ≡ Doubtful)
allowed (Byte x) v e = inl (ap Byte e)
allowed Doubtful v e = inr refl

vaguer : (f : ℕ → ℕ) (cells : List Cell) → ((j : ℕ) (c : Cell) → slice_get cells j ≡ Some c → Allows c (f j)) → Vaguer (standing f cells) cells
vaguer f [] h = tt
vaguer f (c ∷ cells) h = (allowed c (f 0) (h 0 c refl), vaguer (λ j. f (suc j)) cells (λ j d e. h (suc j) d e))

stands : (f : ℕ → ℕ) (cells : List Cell) (j : ℕ) (c : Cell) → slice_get (standing f cells) j ≡ Some c → Allows c (f j)
stands f [] j c e = absurd (cc)
stands f (d ∷ cells) zero c e = let i : Byte (f 0) ≡ c = cc in subst (λ c. Allows c (f 0)) i refl
stands f (d ∷ cells) (suc j) c e = stands (λ k. f (suc k)) cells j c e

never : (f : ℕ → ℕ) (cells : List Cell) (j : ℕ) → slice_get (standing f cells) j ≡ Some Doubtful → ⊥
never f [] j e = cc
never f (d ∷ cells) zero e = cc
never f (d ∷ cells) (suc j) e = never (λ k. f (suc k)) cells j e

-- ---- nodes
same_shape : (f : ℕ → ℕ) (x : Node) → node_shape (sharp_node f x) ≡ node_shape x
same_shape f (Dir es n) = refl
same_shape f (File cells links when) = ap (λ c. File c links when) (same_doubts f cells)
same_shape f (Link target links) = refl

same_kind : (f : ℕ → ℕ) (x : Node) → kind_of (sharp_node f x) ≡ kind_of x
same_kind f (Dir es n) = refl
same_kind f (File cells links when) = refl
same_kind f (Link target links) = refl

like_sharp : (f : ℕ → ℕ) (o : Option Node) → ((j : ℕ) (c : Cell) → cell_in o j ≡ Some c → Allows c (f j)) → Like vague (option_map (sharp_node f) o) o
like_sharp f None h = refl
like_sharp f (Some (Dir es n)) h = refl
like_sharp f (Some (File cells links when)) h = (cells, refl, vaguer f cells h)
like_sharp f (Some (Link target links)) h = refl

stands_in : (f : ℕ → ℕ) (o : Option Node) (j : ℕ) (c : Cell) → cell_in (option_map (sharp_node f) o) j ≡ Some c → Allows c (f j)
stands_in f None j c e = absurd (cc)
stands_in f (Some (Dir es n)) j c e = absurd (cc)
stands_in f (Some (File cells links when)) j c e = stands f cells j c e
stands_in f (Some (Link target links)) j c e = absurd (cc)

never_in : (f : ℕ → ℕ) (o : Option Node) (j : ℕ) → cell_in (option_map (sharp_node f) o) j ≡ Some Doubtful → ⊥
never_in f None j e = cc
never_in f (Some (Dir es n)) j e = cc
never_in f (Some (File cells links when)) j e = never f cells j e
never_in f (Some (Link target links)) j e = cc

module _ (f : ℕ → ℕ → ℕ) where
  abbrev sharpened : List (ℕ × Node) → List (ℕ × Node)
  sharpened ns = map (λ n. (n.0, sharp_node (f n.0) n.1)) ns

  looked : (ns : List (ℕ × Node)) (b : ℕ) → lookup (is_at (nat_cmp b)) (sharpened ns) ≡ option_map (sharp_node (f b)) (lookup (is_at (nat_cmp b)) ns)
  looked [] b = refl
  looked (n ∷ ns) b = go (is_at (nat_cmp b) n.0) refl (looked ns b)
    where
      go : (t : Bool) → is_at (nat_cmp b) n.0 ≡ t → lookup (is_at (nat_cmp b)) (sharpened ns) ≡ option_map (sharp_node (f b)) (lookup (is_at (nat_cmp b)) ns)
          → cond t (Some (sharp_node (f n.0) n.1)) (lookup (is_at (nat_cmp b)) (sharpened ns)) ≡ option_map (sharp_node (f b)) (cond t (Some n.1) (lookup (is_at (nat_cmp b)) ns))
      go true e later = ap (λ k. Some (sharp_node (f k) n.1)) (sym (tie nat_cmp birth_exact b n.0 e))
      go false e later = later

  pub sharp_at : (t : FileTree) (b : ℕ) → node_at (sharp f t) b ≡ option_map (sharp_node (f b)) (node_at t b)
  sharp_at t b = looked t.nodes b

  shapes_same : (ns : List (ℕ × Node)) → shapes (sharpened ns) ≡ shapes ns
  shapes_same [] = refl
  shapes_same (n ∷ ns) = ap₂ (λ x l. (n.0, x) ∷ l) (same_shape (f n.0) n.1) (shapes_same ns)

  pub shape_same : (t : FileTree) → shape_of (sharp f t) ≡ shape_of t
  shape_same t = ap (λ ns. record t { nodes = ns }) (shapes_same t.nodes)

  pub near_sharp : (t : FileTree) → NamesNoOthers t f → (b : ℕ) → Near vague (sharp f t) t b
  near_sharp t h b = subst (λ o. Like vague o (node_at t b)) (sym (sharp_at t b)) (like_sharp (f b) (node_at t b) (λ j c e. h b j c e))

  pub names_sharp : (t : FileTree) → NamesNoOthers (sharp f t) f
  names_sharp t b j c e = stands_in (f b) (node_at t b) j c (ap (λ o. cell_in o j) (sym (sharp_at t b)) ∙ e)

  pub no_doubt : (t : FileTree) (b j : ℕ) → cell_in (node_at (sharp f t) b) j ≡ Some Doubtful → ⊥
  no_doubt t b j e = never_in (f b) (node_at t b) j (ap (λ o. cell_in o j) (sym (sharp_at t b)) ∙ e)

  pub new_sharp : (t : FileTree) (b : ℕ) → IsNew t b → IsNew (sharp f t) b
  new_sharp t b new = sharp_at t b ∙ ap (option_map (sharp_node (f b))) new

  kinds_by : (b : ℕ) (o : Option Node) (x y : Node) → option_map (sharp_node (f b)) o ≡ Some x → o ≡ Some y → kind_of x ≡ kind_of y
  kinds_by b None x y i j = absurd (cc)
  kinds_by b (Some z) x y i j = let k : sharp_node (f b) z ≡ x = cc in let l : z ≡ y = cc in ap kind_of (sym k) ∙ same_kind (f b) z ∙ ap kind_of l

  pub kinds_sharp : (t : FileTree) → SameKinds (sharp f t) t
  kinds_sharp t b x y i j = kinds_by b (node_at t b) x y (sym (sharp_at t b) ∙ i) j

-- ---- trees of one shape

module _ (t u : FileTree) (e : shape_of t ≡ shape_of u) where
  names_same : (b : ℕ) → names_of u b ≡ names_of t b
  names_same b = sym (count_stays (names_in b) u (names_stay b)) ∙ ap (λ v. names_of v b) (sym e) ∙ count_stays (names_in b) t (names_stay b)

  links_same : (b : ℕ) → links_of (node_at u b) ≡ links_of (node_at t b)
  links_same b = sym (same_links u b) ∙ ap (λ v. links_of (node_at v b)) (sym e) ∙ same_links t b

  names_too : NamesAscend t → NamesAscend u
  names_too ascend dir es n i =
      let there : shaped (node_at t dir) ≡ Some (Dir es n) = sym (found t dir) ∙ ap (λ v. node_at v dir) e ∙ found u dir ∙ ap shaped i in
      ascend dir es n (dir_back (node_at t dir) es n there)

  pub well_too : IsWellFormed t → IsWellFormed u
  well_too w = record {
    births = subst (IsStrictlySortedBy nat_cmp) (sym (keys_stay t) ∙ ap (λ v. keys_of v.nodes) e ∙ keys_stay u) w.births;
    names = names_too w.names;
    rooted = sym (same_dir u 0) ∙ ap (λ v. is_dir (node_at v 0)) (sym e) ∙ same_dir t 0 ∙ w.rooted;
    links = λ b. ap (λ k. k + one_at 0 b) (names_same b) ∙ w.links b ∙ sym (links_same b);
  }

  pub room_same : SameRoom t u
  room_same =
      let one = room_stays t in
      let two = subst (λ v. SameRoom v u) (sym e) (room_stays u) in
      record {
        segments = sym one.segments ∙ two.segments;
        nodes = sym one.nodes ∙ two.nodes;
        small = sym one.small ∙ two.small;
        large = sym one.large ∙ two.large;
        files = sym one.files ∙ two.files;
        dirs = sym one.dirs ∙ two.dirs;
      }

pub sharp_stand : SharpTreesStand
sharp_stand f t w = record { well_formed = well_too t (sharp f t) (sym (shape_same f t)) w; shape = shape_same f t; names = names_sharp f t }
