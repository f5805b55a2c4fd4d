-- A file or a link gets other links, and nothing but its inode changes.
use Rattle.std.proofs.Common.{ℕ, ◌≡◌, false, List, Some, [], ◌∷◌, refl, sym, ◌∙◌, ap, subst, arith}
use Rattle.std.proofs.lemmas.Bool.Decides.{nat_tests}
use Rattle.tree_definitions.specs.declared.node.Node.{Node}
use Rattle.tree_definitions.specs.declared.node.Node.TheVariants.{Dir, File, Link}
use Rattle.tree_definitions.specs.Apply.{is_dir}
use Rattle.frang_base.proofs.Basics.{at_put}
use Rattle.tree_definitions.specs.WellFormed.{put as put_node}
use Rattle.disk_definitions.specs.Store.{Store}
use Rattle.disk_definitions.specs.Naming.{Naming, Nodes, Pictures, kind_of, blocks_of, has_large, find_in, room_in, cell_in, inode_of, use_by}
use Rattle.disk_definitions.specs.Edits.{edited_all}
use Rattle.disk_definitions.specs.Edits.Edit.{SetInode}
use Rattle.disk_definitions.specs.Changes.{relink}
use Rattle.disk_definitions.specs.ChangeLaws.{Leads, with_links, LinksChange}
use Rattle.disk_definitions.proofs.Kept.{same_use, keeps_all}
use Rattle.disk_definitions.proofs.Entry.{set_inode, stored_is}

-- nodes that differ in their links alone
pub record AreAlike (x y : Node) : Type 0 where
  pub kinds : kind_of y ≡ kind_of x
  pub blocks : blocks_of (Some y) ≡ blocks_of (Some x)
  pub larges : has_large (Some y) ≡ has_large (Some x)
  pub rooms : room_in (Some y) ≡ room_in (Some x)
  pub names : (m : List ℕ) → find_in (Some y) m ≡ find_in (Some x) m
  pub cells : (j : ℕ) → cell_in (Some y) j ≡ cell_in (Some x) j
  pub uses : use_by (Some y) ≡ use_by (Some x)

alike : (links : ℕ) (x : Node) → AreAlike x (with_links links x)
alike links (Dir entries blocks) = record { kinds = refl; blocks = refl; larges = refl; rooms = refl; names = λ m. refl; cells = λ j. refl; uses = refl }
alike links (File cells old when) = record { kinds = refl; blocks = refl; larges = refl; rooms = refl; names = λ m. refl; cells = λ j. refl; uses = refl }
alike links (Link target old) = record { kinds = refl; blocks = refl; larges = refl; rooms = refl; names = λ m. refl; cells = λ j. refl; uses = refl }

relink_is : (i stamp large links : ℕ) (block : ℕ → ℕ) (x : Node) → is_dir (Some x) ≡ false → relink i (inode_of stamp block large x) links ≡ SetInode i (Some (inode_of stamp block large (with_links links x))) false ∷ []
relink_is i stamp large links block (Dir entries blocks) e = absurd (cc)
relink_is i stamp large links block (File cells old when) e = refl
relink_is i stamp large links block (Link target old) e = refl

pub relinked : (s : Store) (at : Nodes) (n : Naming) → Pictures s at n → (b : ℕ) (x y : Node) → at b ≡ Some x → AreAlike x y → Pictures (edited_all s (SetInode (n.inode b) (Some (inode_of (n.stamp b) (n.block b) (n.large b) y)) false ∷ [])) (put_node at b (Some y)) n
relinked s at n g b x y is alike = record {
  inodes = set_inode s at n g b y (rw is refl);
  bits = g.bits;
  numbered = λ c e. grind (arith, nat_tests, g.numbered c, is);
  whose = λ k c e. grind (arith, nat_tests, g.whose k c);
  kinds = λ c z e. grind (arith, nat_tests, g.kinds c z, g.kinds b x, is, alike.kinds);
  owned = λ c j l. grind (arith, nat_tests, g.owned c j, is, alike.blocks);
  owners = λ k c j e. grind (arith, nat_tests, g.owners k c j, is, alike.blocks);
  uses = λ k. g.uses k ∙ sym (same_use (n.was k) at (put_node at b (Some y)) (n.owner k) (λ c j e. at_put (λ o. use_by o ≡ use_by (at c)) at b (Some y) c (λ i. rw (i, is) alike.uses) (λ i. refl)));
  emptied = g.emptied;
  larges = λ c e. grind (arith, nat_tests, g.larges c, is, alike.larges);
  large_owners = λ k c e. grind (arith, nat_tests, g.large_owners k c, is, alike.larges);
  large_bits = g.large_bits;
  names = λ d c m e. grind (arith, nat_tests, g.names d c m, is, alike.rooms, alike.names m);
  places = λ d q e l h. grind (arith, nat_tests, g.places d q e, is, alike.rooms, alike.names e.name);
  bytes = λ c j v e. grind (arith, nat_tests, g.bytes c j v, is, alike.cells j);
}

pub links_change : LinksChange
links_change s at n b links x node g has file =
    let l : relink (n.inode b) x links ≡ SetInode (n.inode b) (Some (inode_of (n.stamp b) (n.block b) (n.large b) (with_links links node))) false ∷ [] =
    ap (λ x. relink (n.inode b) x links) (stored_is s at n g b node x has.is has.inode) ∙ relink_is (n.inode b) (n.stamp b) (n.large b) links (n.block b) node file in
    subst (λ l. Leads s (edited_all s l) at n n b (Some (with_links links node))) (sym l)
    (record { pictures = relinked s at n g b node (with_links links node) has.is (alike links node); others = keeps_all at b n })
