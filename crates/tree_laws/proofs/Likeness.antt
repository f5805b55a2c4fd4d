-- Cells that are alike, and nodes and answers that are alike but for them.
use Rattle.std.proofs.Common.{ℕ, ◌≡◌, true, Option, Some, None, List, ◌++◌, ◌+◌, length, take, drop, refl, sym, ◌∙◌, ap, subst}
use Rattle.frang_base.specs.declared.reply.Reply.{Reply}
use Rattle.frang_base.specs.declared.reply.Reply.TheVariants as reply
use Rattle.tree_definitions.specs.declared.cells.Cell.{Cell}
use Rattle.tree_definitions.specs.declared.node.Node.{Node}
use Rattle.tree_definitions.specs.declared.node.Node.TheVariants.{Dir, File, Link}
use Rattle.tree_definitions.specs.Tree.{FileTree, node_at}
use Rattle.tree_definitions.specs.Apply.{Answer, Plain, Shows, is_dir, has_entries, links_of, overwritten}
use Rattle.tree_definitions.specs.History.{agrees, cells_show}
use Rattle.tree_laws.specs.Alike.{AlikeBy}

-- a likeness of cells, which goes along with what operations do to them
pub record Likeness : Type 1 where
  pub like : List Cell → List Cell → Type 0
  pub same : (xs : List Cell) → like xs xs
  pub long : (xs ys : List Cell) → like xs ys → length xs ≡ length ys
  pub taken : (n : ℕ) (xs ys : List Cell) → like xs ys → like (take n xs) (take n ys)
  pub dropped : (n : ℕ) (xs ys : List Cell) → like xs ys → like (drop n xs) (drop n ys)
  pub joined : (xs ys zs ws : List Cell) → like xs ys → like zs ws → like (xs ++ zs) (ys ++ ws)
  -- what the first may show, the second may
  pub shown : (xs ys : List Cell) (bytes : List ℕ) → like xs ys → cells_show xs bytes ≡ true → cells_show ys bytes ≡ true

-- equal cells
abbrev pub equal : Likeness
equal = record {
  like = λ xs ys. xs ≡ ys;
  same = λ xs. refl;
  long = λ xs ys e. ap length e;
  taken = λ n xs ys e. ap (take n) e;
  dropped = λ n xs ys e. ap (drop n) e;
  joined = λ xs ys zs ws e f. ap (λ l. l ++ zs) e ∙ ap (λ l. ys ++ l) f;
  shown = λ xs ys bytes e h. subst (λ l. cells_show l bytes ≡ true) e h;
}

-- nodes that are alike: files by their cells, all others where they are equal
abbrev pub Like : Likeness → Option Node → Option Node → Type 0
Like L o q = AlikeBy L.like o q

-- two trees have nodes that are alike
abbrev pub Near : Likeness → FileTree → FileTree → ℕ → Type 0
Near L one two b = Like L (node_at one b) (node_at two b)

-- answers that are alike
abbrev pub LikeAnswer : Likeness → Answer → Answer → Type 0
LikeAnswer L (Plain r) a = a ≡ Plain r
LikeAnswer L (Shows cells) a = (others : List Cell) × (a ≡ Shows others) × L.like cells others

module _ (L : Likeness) where
  pub like_same : (o : Option Node) → Like L o o
  like_same (Some (Dir es n)) = refl
  like_same (Some (File cells links when)) = (cells, refl, L.same cells)
  like_same (Some (Link target links)) = refl
  like_same None = refl

  pub like_equal : (o q : Option Node) → o ≡ q → Like L o q
  like_equal o q e = subst (Like L o) e (like_same o)

  pub like_dir : (o q : Option Node) → is_dir o ≡ true → Like L o q → o ≡ q
  like_dir (Some (Dir es n)) q d l = sym l
  like_dir (Some (File cells links when)) q d l = absurd (cc)
  like_dir (Some (Link target links)) q d l = absurd (cc)
  like_dir None q d l = absurd (cc)

  pub like_links : (o q : Option Node) → Like L o q → links_of o ≡ links_of q
  like_links (Some (Dir es n)) q l = ap links_of (sym l)
  like_links (Some (File cells links when)) q l = ap links_of (sym l.1)
  like_links (Some (Link target links)) q l = ap links_of (sym l)
  like_links None q l = ap links_of (sym l)

  pub like_entries : (o q : Option Node) → Like L o q → has_entries o ≡ has_entries q
  like_entries (Some (Dir es n)) q l = ap has_entries (sym l)
  like_entries (Some (File cells links when)) q l = ap has_entries (sym l.1)
  like_entries (Some (Link target links)) q l = ap has_entries (sym l)
  like_entries None q l = ap has_entries (sym l)

  pub overwritten_like : (xs ys : List Cell) (off : ℕ) (new : List Cell) → L.like xs ys → L.like (overwritten xs off new) (overwritten ys off new)
  overwritten_like xs ys off new l =
      L.joined (take off xs ++ new) (take off ys ++ new) (drop (off + length new) xs) (drop (off + length new) ys)
      (L.joined (take off xs) (take off ys) new new (L.taken off xs ys l) (L.same new)) (L.dropped (off + length new) xs ys l)

  -- a reply that agrees with an answer agrees with one that is alike
  pub agrees_like : (a c : Answer) (r : Reply) → LikeAnswer L a c → agrees a r ≡ true → agrees c r ≡ true
  agrees_like (Plain s) c r l h = subst (λ c. agrees c r ≡ true) (sym l) h
  agrees_like (Shows cells) c (reply.Shown bytes) l h = subst (λ c. agrees c (reply.Shown bytes) ≡ true) (sym l.1) (L.shown cells l.0 bytes l.2 h)
  agrees_like (Shows cells) c _ l h = absurd (cc)

-- equal nodes and answers
pub equal_nodes : (o q : Option Node) → Like equal o q → o ≡ q
equal_nodes (Some (Dir es n)) q l = sym l
equal_nodes (Some (File cells links when)) q l = ap (λ c. Some (File c links when)) l.2 ∙ sym l.1
equal_nodes (Some (Link target links)) q l = sym l
equal_nodes None q l = sym l

pub equal_answers : (a c : Answer) → LikeAnswer equal a c → a ≡ c
equal_answers (Plain r) c l = sym l
equal_answers (Shows cells) c l = ap Shows l.2 ∙ sym l.1
