-- Trees whose nodes take the same of the disk, birth by birth, take the same of it.
use Rattle.std.proofs.Common.{ℕ, ◌≡◌, ◌+◌, ◌-◌, ◌==◌, Bool, true, false, not, ◌&&◌, Option, Some, None, List, [], ◌∷◌, length, map, cond, refl, sym, ◌∙◌, ap, ap₂, subst, inl, inr, arith, eqb-true, length-append, length-drop}
use Rattle.std.specs.Option.{option_map}
use Rattle.std.specs.List.{sum_by, fold}
use Rattle.std.specs.List.Sorted.{IsStrictlySortedBy}
use Rattle.std.specs.Map.{lookup, keys_of, values_of}
use Rattle.std.specs.BTreeMap.{is_at}
use Rattle.std.specs.Ordering.{nat_cmp, ordering_reverse}
use Rattle.std.specs.declared.cmp.Ordering.{Ordering}
use Rattle.std.specs.declared.cmp.Ordering.TheVariants.{Less, Equal, Greater}
use Rattle.std.proofs.lemmas.Bool.{and_parts, not-false}
use Rattle.std.proofs.lemmas.List.{length-map, length-take}
use Rattle.std.proofs.lemmas.Map.Made.{lookup-map_values}
use Rattle.tree_definitions.specs.declared.cells.Cell.{Cell}
use Rattle.tree_definitions.specs.declared.node.Node.{Node}
use Rattle.tree_definitions.specs.declared.node.Node.TheVariants.{Dir, File, Link}
use Rattle.tree_definitions.proofs.NodeBlocks.{small_blocks_are}
use Rattle.tree_definitions.specs.Tree.{FileTree, node_at, with_node, count_of, dir_blocks, file_blocks, small_blocks, large_blocks, small_blocks_of, large_blocks_of}
use Rattle.tree_definitions.specs.History.{doubted, doubted_file, doubted_cells, file_of, CellRun}
use Rattle.tree_definitions.specs.Touched.{other_room}
use Rattle.tree_definitions.specs.WellFormed.{BirthsAscend}
use Rattle.tree_laws.specs.Rooms.{SameRoom}
use Rattle.tree_laws.specs.Touching.{kind_of}
use Rattle.tree_definitions.proofs.Pairs.{birth_exact, tie, self, none_below, below_all}
use Rattle.tree_definitions.proofs.Births.{each_but}
use Rattle.tree_laws.proofs.Nodes.{with_same, with_other}
use Rattle.tree_laws.proofs.Likeness.{Like}
use Rattle.tree_laws.proofs.Joint.{Both, Joint}
use Rattle.tree_laws.proofs.Vagueness.{vague, vague_long}

-- ---- lists in order with the same at each key are equal
module _ {X : Type 0} where
  found_head : (e : ℕ × X) (es : List (ℕ × X)) → lookup (is_at (nat_cmp e.0)) (e ∷ es) ≡ Some e.1
  found_head e es = rw (self nat_cmp birth_exact e.0) refl

  missed : (k : ℕ) (e : ℕ × X) (es : List (ℕ × X)) → IsStrictlySortedBy nat_cmp (keys_of (e ∷ es)) → nat_cmp k e.0 ≡ Less → lookup (is_at (nat_cmp k)) (e ∷ es) ≡ None
  unfolding IsStrictlySortedBy
  missed k e es s i = none_below nat_cmp birth_exact (e ∷ es) k (i, below_all nat_cmp birth_exact k e.0 (keys_of es) i s.0)

  tails_same : (e : ℕ × X) (es fs : List (ℕ × X)) → IsStrictlySortedBy nat_cmp (keys_of (e ∷ es)) → IsStrictlySortedBy nat_cmp (keys_of (e ∷ fs)) → ((b : ℕ) → lookup (is_at (nat_cmp b)) (e ∷ es) ≡ lookup (is_at (nat_cmp b)) (e ∷ fs)) → (b : ℕ) → lookup (is_at (nat_cmp b)) es ≡ lookup (is_at (nat_cmp b)) fs
  unfolding IsStrictlySortedBy
  tails_same e es fs s t same b = go (is_at (nat_cmp b) e.0) refl
    where
      go : (c : Bool) → is_at (nat_cmp b) e.0 ≡ c → lookup (is_at (nat_cmp b)) es ≡ lookup (is_at (nat_cmp b)) fs
      go true i =
          let j : b ≡ e.0 = tie nat_cmp birth_exact b e.0 i in
          rw j (none_below nat_cmp birth_exact es e.0 s.0 ∙ sym (none_below nat_cmp birth_exact fs e.0 t.0))
      go false i = sym (ap (λ c. cond c (Some e.1) (lookup (is_at (nat_cmp b)) es)) i) ∙ same b ∙ ap (λ c. cond c (Some e.1) (lookup (is_at (nat_cmp b)) fs)) i

  same_list : (es fs : List (ℕ × X)) → IsStrictlySortedBy nat_cmp (keys_of es) → IsStrictlySortedBy nat_cmp (keys_of fs) → ((b : ℕ) → lookup (is_at (nat_cmp b)) es ≡ lookup (is_at (nat_cmp b)) fs) → es ≡ fs
  unfolding IsStrictlySortedBy
  same_list [] [] s t same = refl
  same_list [] (f ∷ fs) s t same = absurd (let e : None ≡ Some f.1 = same f.0 ∙ found_head f fs in cc)
  same_list (e ∷ es) [] s t same = absurd (let i : Some e.1 ≡ None = sym (found_head e es) ∙ same e.0 in cc)
  same_list (e ∷ es) (f ∷ fs) s t same = go (nat_cmp e.0 f.0) refl (λ u. same_list es fs s.1 t.1 u)
    where
      go : (o : Ordering) → nat_cmp e.0 f.0 ≡ o → (((b : ℕ) → lookup (is_at (nat_cmp b)) es ≡ lookup (is_at (nat_cmp b)) fs) → es ≡ fs) → e ∷ es ≡ f ∷ fs
      go Less i later = absurd (let z : Some e.1 ≡ None = sym (found_head e es) ∙ same e.0 ∙ missed e.0 f fs t i in cc)
      go Greater i later = absurd (let z : None ≡ Some f.1 = sym (missed f.0 e es s (birth_exact.total.antisymm f.0 e.0 ∙ ap ordering_reverse i)) ∙ same f.0 ∙ found_head f fs in cc)
      go Equal i later =
          let k : e.0 ≡ f.0 = birth_exact.ties e.0 f.0 i in
          let v : e.1 ≡ f.1 = (let z : Some e.1 ≡ Some f.1 = sym (found_head e es) ∙ same e.0 ∙ ap (λ b. lookup (is_at (nat_cmp b)) (f ∷ fs)) k ∙ found_head f fs in cc) in
          let p : e ≡ f = ap₂ (λ a b. (a, b)) k v in
          let same_e = subst (λ h. (b : ℕ) → lookup (is_at (nat_cmp b)) (e ∷ es) ≡ lookup (is_at (nat_cmp b)) (h ∷ fs)) (sym p) same in
          let t_e = subst (λ h. IsStrictlySortedBy nat_cmp (keys_of (h ∷ fs))) (sym p) t in
          ap₂ (λ h l. h ∷ l) p (later (tails_same e es fs s t_e same_e))

-- ---- what a node takes
abbrev pub room : Node → ℕ × (ℕ × ℕ)
room x = (dir_blocks x, (file_blocks x, large_blocks x))

abbrev pub room_of : Option Node → Option (ℕ × (ℕ × ℕ))
room_of o = option_map room o

-- each node takes the same in both trees
abbrev pub RoomAlike : FileTree → FileTree → Type 0
RoomAlike t u = (b : ℕ) → room_of (node_at t b) ≡ room_of (node_at u b)

abbrev rooms : List (ℕ × Node) → List (ℕ × (ℕ × (ℕ × ℕ)))
rooms ns = map (λ n. (n.0, room n.1)) ns

rooms_keys : (ns : List (ℕ × Node)) → keys_of (rooms ns) ≡ keys_of ns
rooms_keys [] = refl
rooms_keys (n ∷ ns) = ap (λ l. n.0 ∷ l) (rooms_keys ns)

rooms_same : (t u : FileTree) → BirthsAscend t → BirthsAscend u → RoomAlike t u → rooms t.nodes ≡ rooms u.nodes
rooms_same t u bt bu same = same_list (rooms t.nodes) (rooms u.nodes) (subst (IsStrictlySortedBy nat_cmp) (sym (rooms_keys t.nodes)) bt) (subst (IsStrictlySortedBy nat_cmp) (sym (rooms_keys u.nodes)) bu)
    (λ b. lookup-map_values room (is_at (nat_cmp b)) t.nodes ∙ same b ∙ sym (lookup-map_values room (is_at (nat_cmp b)) u.nodes))

folded : (f : Node → ℕ) (g : ℕ × (ℕ × ℕ) → ℕ) → ((x : Node) → f x ≡ g (room x)) → (ns : List (ℕ × Node)) (k : ℕ) → fold (λ a x. a + f x) k (values_of ns) ≡ fold (λ a x. a + g x) k (values_of (rooms ns))
folded f g by [] k = refl
folded f g by (n ∷ ns) k = folded f g by ns (k + f n.1) ∙ ap (λ i. fold (λ a x. a + g x) (k + i) (values_of (rooms ns))) (by n.1)

counted : (f : Node → ℕ) (g : ℕ × (ℕ × ℕ) → ℕ) → ((x : Node) → f x ≡ g (room x)) → (ns : List (ℕ × Node)) → sum_by f (values_of ns) ≡ sum_by g (values_of (rooms ns))
counted f g by ns = folded f g by ns 0

rooms_long : (ns : List (ℕ × Node)) → length (rooms ns) ≡ length ns
rooms_long [] = refl
rooms_long (n ∷ ns) = let r : length (rooms ns) ≡ length ns = rooms_long ns in omega arith

count_same : (t u : FileTree) → rooms t.nodes ≡ rooms u.nodes → (f : Node → ℕ) (g : ℕ × (ℕ × ℕ) → ℕ) → ((x : Node) → f x ≡ g (room x)) → count_of f t ≡ count_of f u
count_same t u e f g by = counted f g by t.nodes ∙ ap (λ l. sum_by g (values_of l)) e ∙ sym (counted f g by u.nodes)

pub room_same : (t u : FileTree) → BirthsAscend t → BirthsAscend u → t.segments ≡ u.segments → RoomAlike t u → SameRoom t u
room_same t u bt bu seg same =
    let e = rooms_same t u bt bu same in
    record {
      segments = seg;
      nodes = sym (rooms_long t.nodes) ∙ ap length e ∙ rooms_long u.nodes;
      small = count_same t u e small_blocks (λ r. r.0 + r.1.0) small_blocks_are;
      large = count_same t u e large_blocks (λ r. r.1.1) (λ x. refl);
      files = count_same t u e file_blocks (λ r. r.1.0) (λ x. refl);
      dirs = count_same t u e dir_blocks (λ r. r.0) (λ x. refl);
    }

-- ---- what keeps it
pub like_room : (o q : Option Node) → Like vague o q → room_of o ≡ room_of q
like_room (Some (Dir es n)) q l = ap room_of (sym l)
like_room (Some (Link target links)) q l = ap room_of (sym l)
like_room None q l = ap room_of (sym l)
like_room (Some (File cells links when)) q l = ap (λ n. Some (0, (small_blocks_of n, large_blocks_of n))) (vague_long cells l.0 l.2) ∙ ap room_of (sym l.1)

both_room : (a b c d : Option Node) → Both vague a b c d → room_of a ≡ room_of b → room_of c ≡ room_of d
both_room a b c d (inl p) e = like_room c d p.1
both_room a b c d (inr p) e = ap room_of p.0 ∙ e ∙ ap room_of (sym p.1)

pub joint_room : (t u v w : FileTree) → Joint vague t u v w → RoomAlike t u → RoomAlike v w
joint_room t u v w j same b = both_room (node_at t b) (node_at u b) (node_at v b) (node_at w b) (j.each b) (same b)

pub doubted_long : (xs : List Cell) (from count : ℕ) → length (doubted_cells xs from count) ≡ length xs
doubted_long xs from count = simp (length-append, length-map, length-drop, length-take) (omega arith)

one_doubt : (t : FileTree) (r from count : ℕ) (o : Option Node) → node_at t r ≡ o → (b : ℕ) → room_of (node_at (doubted_file t (file_of r o) from count) b) ≡ room_of (node_at t b)
one_doubt t r from count (Some (File cells links when)) is b =
    let new = File (doubted_cells cells from count) links when in
    each_but (λ b. room_of (node_at (with_node t r new) b) ≡ room_of (node_at t b)) r
    (ap room_of (with_same t r new) ∙ ap (λ n. Some (0, (small_blocks_of n, large_blocks_of n))) (doubted_long cells from count) ∙ ap room_of (sym is)) (λ c far. ap room_of (with_other t r new c far)) b
one_doubt t r from count (Some (Dir es n)) is b = refl
one_doubt t r from count (Some (Link target links)) is b = refl
one_doubt t r from count None is b = refl

pub doubted_room : (t : FileTree) (runs : List CellRun) (b : ℕ) → room_of (node_at (doubted t runs) b) ≡ room_of (node_at t b)
doubted_room t [] b = refl
doubted_room t (run ∷ runs) b = doubted_room (doubted_file t (file_of run.birth (node_at t run.birth)) run.from run.count) runs b ∙ one_doubt t run.birth run.from run.count (node_at t run.birth) refl b

-- nodes of one kind that take the same room
one_kind : (x y : Node) → kind_of x ≡ kind_of y → small_blocks x ≡ small_blocks y → large_blocks x ≡ large_blocks y → room x ≡ room y
one_kind (Dir es n) (Dir fs m) k s l = ap (λ i. (i, (0, 0))) s
one_kind (File cs n w) (File ds m v) k s l = ap₂ (λ i j. (0, (i, j))) s l
one_kind (Link t n) (Link u m) k s l = refl
one_kind (Dir es n) (File ds m v) k s l = absurd (cc)
one_kind (Dir es n) (Link ds m) k s l = absurd (cc)
one_kind (File es n w) (Dir ds m) k s l = absurd (cc)
one_kind (File es n w) (Link ds m) k s l = absurd (cc)
one_kind (Link es n) (Dir ds m) k s l = absurd (cc)
one_kind (Link es n) (File ds m v) k s l = absurd (cc)

pub room_stays : (a b : Option Node) → ((x y : Node) → a ≡ Some x → b ≡ Some y → kind_of x ≡ kind_of y) → other_room a b ≡ false → room_of a ≡ room_of b
room_stays (Some x) (Some y) k h =
    let p = and_parts (small_blocks x == small_blocks y) (large_blocks x == large_blocks y) (not-false (small_blocks x == small_blocks y && large_blocks x == large_blocks y) h) in
    ap Some (one_kind x y (k x y refl refl) (eqb-true (small_blocks x) (small_blocks y) p.0) (eqb-true (large_blocks x) (large_blocks y) p.1))
room_stays None None k h = refl
room_stays (Some x) None k h = cc
room_stays None (Some y) k h = cc

-- steps that leave trees of the same room grow the same
pub grows_same : (t u v w : FileTree) → SameRoom t u → SameRoom v w → count_of dir_blocks v - count_of dir_blocks t ≡ count_of dir_blocks w - count_of dir_blocks u
grows_same t u v w s r = ap₂ (λ a b. a - b) r.dirs s.dirs
