-- The shape of a tree is well formed, and has its nodes and their kinds.
use Rattle.std.proofs.Common.{ℕ, ◌≡◌, ◌+◌, Bool, not, Option, Some, None, List, [], ◌∷◌, ◌++◌, cond, refl, sym, ◌∙◌, ap, ap₂, subst}
use Rattle.std.specs.Ordering.{nat_cmp}
use Rattle.std.specs.List.Sorted.{IsStrictlySortedBy}
use Rattle.frang_base.specs.declared.op.Op.{Op}
use Rattle.frang_base.specs.declared.op.Op.TheVariants as op
use Rattle.frang_base.specs.declared.reply.Reply.{Reply}
use Rattle.frang_base.specs.declared.reply.Reply.TheVariants as reply
use Rattle.tree_definitions.specs.declared.node.Node.{Node}
use Rattle.tree_definitions.specs.declared.node.Node.TheVariants.{Dir, File, Link}
use Rattle.tree_definitions.specs.Entries.{Entries}
use Rattle.tree_definitions.specs.Tree.{FileTree, node_at}
use Rattle.tree_definitions.specs.Place.{Place, Root, Taken, Free, Nowhere, place, walked}
use Rattle.tree_definitions.specs.Perform.{Goes, Stops}
use Rattle.tree_definitions.specs.Touched.{node_shape, shape_of, reached_if, reached, any_node, dir_node, file_node, link_node, then_walked, looked_in, further, shaped}
use Rattle.tree_definitions.specs.WellFormed.{NamesAscend, names_in, one_at}
use Rattle.tree_laws.specs.Touching.{kind_of}
use Rattle.tree_laws.specs.Keeping.{ShapesAreWellFormed, KindsStay, ToldKindsStay, VisitedStay}
use Rattle.tree_laws.proofs.ShapeNodes.{found, keys_stay, count_stays}
use Rattle.tree_laws.proofs.ShapePlaces.{same_place, same_walked}
use Rattle.tree_laws.proofs.Changes.{same_dir, same_links}

-- ---- well formed
pub dir_back : (o : Option Node) (es : Entries) (n : ℕ) → shaped o ≡ Some (Dir es n) → o ≡ Some (Dir es n)
dir_back (Some (Dir fs m)) es n e = e
dir_back (Some (File cells links when)) es n e = absurd (cc)
dir_back (Some (Link target links)) es n e = absurd (cc)
dir_back None es n e = absurd (cc)

names_ascend : (t : FileTree) → NamesAscend t → NamesAscend (shape_of t)
names_ascend t ascend dir es n e = ascend dir es n (dir_back (node_at t dir) es n (sym (found t dir) ∙ e))

pub names_stay : (b : ℕ) (x : Node) → names_in b (node_shape x) ≡ names_in b x
names_stay b (Dir es n) = refl
names_stay b (File cells links when) = refl
names_stay b (Link target links) = refl

pub well_shape : ShapesAreWellFormed
well_shape t w = record {
  births = subst (IsStrictlySortedBy nat_cmp) (sym (keys_stay t)) w.births;
  names = names_ascend t w.names;
  rooted = same_dir t 0 ∙ w.rooted;
  links = λ b. ap (λ k. k + one_at 0 b) (count_stays (names_in b) t (names_stay b)) ∙ w.links b ∙ sym (same_links t b);
}

-- ---- kinds
kind_shape : (x : Node) → kind_of (node_shape x) ≡ kind_of x
kind_shape (Dir es n) = refl
kind_shape (File cells links when) = refl
kind_shape (Link target links) = refl

kind_back : (o : Option Node) (y : Node) → shaped o ≡ Some y → (x : Node) × (o ≡ Some x) × (kind_of x ≡ kind_of y)
kind_back (Some x) y e = let f : node_shape x ≡ y = cc in (x, refl, sym (kind_shape x) ∙ ap kind_of f)
kind_back None y e = absurd (cc)

pub kinds_stay : KindsStay
kinds_stay t b x y i j =
    let k = kind_back (node_at t b) y (sym (found t b) ∙ j) in
    let e : Some x ≡ Some k.0 = sym i ∙ k.1 in
    let f : x ≡ k.0 = cc in
    ap kind_of f ∙ k.2

pub told_kinds_stay : ToldKindsStay
told_kinds_stay kinds t has b y j = let k = kind_back (node_at t b) y (sym (found t b) ∙ j) in sym k.2 ∙ has b k.0 k.1

-- ---- what an operation looks in and reaches
-- a test that goes by the shape
abbrev ByShape : (Node → Bool) → Type 0
ByShape wanted = (x : Node) → wanted (node_shape x) ≡ wanted x

any_by : ByShape any_node
any_by x = refl

dir_by : ByShape dir_node
dir_by (Dir es n) = refl
dir_by (File cells links when) = refl
dir_by (Link target links) = refl

file_by : ByShape file_node
file_by (Dir es n) = refl
file_by (File cells links when) = refl
file_by (Link target links) = refl

link_by : ByShape link_node
link_by (Dir es n) = refl
link_by (File cells links when) = refl
link_by (Link target links) = refl

if_reached : (wanted : Node → Bool) → ByShape wanted → (b : ℕ) (o : Option Node) → reached_if wanted b (shaped o) ≡ reached_if wanted b o
if_reached wanted by b (Some x) = ap (λ c. cond c (b ∷ []) []) (by x)
if_reached wanted by b None = refl

module _ (t : FileTree) where
  reached_at : (wanted : Node → Bool) → ByShape wanted → (b : ℕ) → reached_if wanted b (node_at (shape_of t) b) ≡ reached_if wanted b (node_at t b)
  reached_at wanted by b = ap (reached_if wanted b) (found t b) ∙ if_reached wanted by b (node_at t b)

  reached_in : (wanted : Node → Bool) → ByShape wanted → (p : Place) → reached (shape_of t) wanted p ≡ reached t wanted p
  reached_in wanted by Root = reached_at wanted by 0
  reached_in wanted by (Taken dir es n name b) = reached_at wanted by b
  reached_in wanted by (Free dir es n name) = refl
  reached_in wanted by (Nowhere r) = refl

  reached_by : (wanted : Node → Bool) → ByShape wanted → (path : List (List ℕ)) → reached (shape_of t) wanted (place (shape_of t) path) ≡ reached t wanted (place t path)
  reached_by wanted by path = ap (reached (shape_of t) wanted) (same_place t path) ∙ reached_in wanted by (place t path)

  then_same : (bs : List ℕ) (to : List (List ℕ)) → then_walked (shape_of t) bs to ≡ then_walked t bs to
  then_same [] to = refl
  then_same (b ∷ bs) to = same_walked t to

  both_walked : (wanted : Node → Bool) → ByShape wanted → (path to : List (List ℕ))
      → walked (shape_of t) path ++ then_walked (shape_of t) (reached (shape_of t) wanted (place (shape_of t) path)) to ≡ walked t path ++ then_walked t (reached t wanted (place t path)) to
  both_walked wanted by path to =
      ap₂ (λ a b. a ++ then_walked (shape_of t) b to) (same_walked t path) (reached_by wanted by path) ∙ ap (λ b. walked t path ++ b) (then_same (reached t wanted (place t path)) to)

  looked_same : (o : Op) → looked_in (shape_of t) o ≡ looked_in t o
  looked_same (op.Create path) = same_walked t path
  looked_same (op.Mkdir path) = same_walked t path
  looked_same (op.Symlink path target) = same_walked t path
  looked_same (op.Link path to) = both_walked (λ n. not (dir_node n)) (λ x. ap not (dir_by x)) path to
  looked_same (op.Unlink path) = same_walked t path
  looked_same (op.Rmdir path) = same_walked t path
  looked_same (op.Rename [] to) = refl
  looked_same (op.Rename (n ∷ ns) []) = refl
  looked_same (op.Rename (n ∷ ns) (m ∷ ms)) = both_walked any_node any_by (n ∷ ns) (m ∷ ms)
  looked_same (op.Write path off bytes) = same_walked t path
  looked_same (op.Fill path off len byte) = same_walked t path
  looked_same (op.Truncate path len) = same_walked t path
  looked_same (op.Read path off len) = same_walked t path
  looked_same (op.Stat path) = same_walked t path
  looked_same (op.List path) = same_walked t path
  looked_same (op.Readlink path) = same_walked t path
  looked_same (op.Time path) = same_walked t path
  looked_same op.Sync = refl
  looked_same op.Mount = refl
  looked_same op.Unmount = refl
  looked_same op.Crash = refl
  looked_same (op.CrashAt k) = refl
  looked_same (op.CutAt k) = refl
  looked_same op.Stall = refl

  further_same : (o : Op) (r : Reply) → further (shape_of t) o r ≡ further t o r
  further_same (op.Stat path) r = reached_by any_node any_by path
  further_same (op.Time path) r = reached_by any_node any_by path
  further_same (op.Link path to) reply.MLink = reached_by any_node any_by path
  further_same (op.Link path to) reply.DirFull = reached_by any_node any_by path
  further_same (op.Link path to) reply.NoDirBlock = reached_by any_node any_by path
  further_same (op.Link path to) _ = refl
  further_same (op.Rename path to) reply.NotEmpty = reached_by dir_node dir_by to
  further_same (op.Rename path to) _ = refl
  further_same (op.List path) r = reached_by dir_node dir_by path
  further_same (op.Rmdir []) r = refl
  further_same (op.Rmdir (n ∷ ns)) r = reached_by dir_node dir_by (n ∷ ns)
  further_same (op.Read path off len) r = reached_by file_node file_by path
  further_same (op.Write path off bytes) r = reached_by file_node file_by path
  further_same (op.Fill path off len byte) r = reached_by file_node file_by path
  further_same (op.Truncate path len) r = reached_by file_node file_by path
  further_same (op.Readlink path) r = reached_by link_node link_by path
  further_same _ r = refl

pub visited_stay : VisitedStay
visited_stay t (Goes o) r = ap₂ (λ a b. a ++ b) (looked_same t o) (further_same t o r)
visited_stay t (Stops reply) r = refl
