-- A free inode gets a node, which has no name yet.
use Rattle.std.proofs.Common.{ℕ, ◌<◌, ◌≡◌, ◌≢◌, ◌↔◌, true, false, List, Option, Some, None, refl, sym, ◌∙◌, ap, subst, arith, is_some, length, []}
use Rattle.std.proofs.Math.Path.{fun_ext}
use Rattle.std.proofs.lemmas.Bool.Decides.{nat_tests}
use Rattle.tree_definitions.specs.declared.node.Node.{Node}
use Rattle.tree_definitions.specs.declared.node.Node.TheVariants.{Dir, File, Link}
use Rattle.frang_base.specs.Functions.{put}
use Rattle.frang_base.proofs.Basics.{at_put, put_same, put_other}
use Rattle.frang_base.proofs.Tests.{none_of}
use Rattle.tree_definitions.specs.WellFormed.{put as put_node}
use Rattle.disk_definitions.specs.Store.{Store}
use Rattle.disk_definitions.specs.Naming.{Naming, Nodes, Pictures, kind_of, blocks_of, has_large, find_in, room_in, cell_in, first_blocks, inode_of, inode_by, inode_for}
use Rattle.disk_definitions.specs.Edits.{edited_all}
use Rattle.disk_definitions.specs.Changes.{new_node}
use Rattle.disk_definitions.specs.Namings.{named_new, KeepsOthers}
use Rattle.disk_definitions.specs.ChangeLaws.{IsBare, MayCome, NodesCome}
use Rattle.disk_definitions.proofs.Kept.{both, same_inode, same_use}

-- what there is of a bare node
abbrev pub HasNothing : Option Node → Type 0
HasNothing x = (blocks_of x ≡ 0) × (has_large x ≡ false) × (room_in x ≡ 0) × ((m : List ℕ) → find_in x m ≡ None) × ((j : ℕ) → cell_in x j ≡ None)

pub has_nothing : (x : Node) → IsBare x → HasNothing (Some x)
has_nothing (Dir entries blocks) bare = subst (λ l. HasNothing (Some (Dir l blocks))) (sym bare.0) (bare.1, refl, bare.1, λ m. refl, λ j. refl)
has_nothing (File cells links when) bare = subst (λ l. HasNothing (Some (File l links when))) (sym bare) (refl, refl, refl, λ m. refl, λ j. refl)
has_nothing (Link target links) bare = (refl, refl, refl, λ m. refl, λ j. refl)

no_blocks : (f g : ℕ → ℕ) → first_blocks 0 f ≡ first_blocks 0 g
no_blocks f g = fun_ext (λ j. grind (arith, nat_tests))

-- its inode goes by no naming of blocks
bare_inode : (stamp large : ℕ) (block : ℕ → ℕ) (x : Node) → IsBare x → inode_of stamp (λ j. 0) 0 x ≡ inode_of stamp block large x
bare_inode stamp large block (Dir entries blocks) bare =
    subst (λ k. inode_of stamp (λ j. 0) 0 (Dir entries k) ≡ inode_of stamp block large (Dir entries k)) (sym bare.1)
    (ap (λ f. record { kind = 2; links = 1; size = length entries; birth = stamp; blocks = 0; small = f; large = 0; when = 0; target = [] }) (no_blocks (λ j. 0) block))
bare_inode stamp large block (File cells links when) bare =
    subst (λ k. inode_of stamp (λ j. 0) 0 (File k links when) ≡ inode_of stamp block large (File k links when)) (sym bare)
    (ap (λ f. record { kind = 1; links = links; size = 0; birth = stamp; blocks = 0; small = f; large = 0; when = when; target = [] }) (no_blocks (λ j. 0) block))
bare_inode stamp large block (Link target links) bare =
    ap (λ f. record { kind = 3; links = links; size = length target; birth = stamp; blocks = 0; small = f; large = 0; when = 0; target = target }) (no_blocks (λ j. 0) block)

module _ (s : Store) (at : Nodes) (n : Naming) (g : Pictures s at n) (b i stamp : ℕ) (x : Node) (may : MayCome s at b i x) where
  abbrev m : Naming
  m = named_new n b i stamp (kind_of x)

  abbrev to : Nodes
  to = put_node at b (Some x)

  abbrev t : Store
  t = edited_all s (new_node i stamp x)

  nobody : n.birth i ≡ None
  nobody = none_of (n.birth i) (sym (g.bits i) ∙ may.free)

  other : (k c : ℕ) → n.birth k ≡ Some c → c ≢ b
  other k c e q = let w : is_some (at c) ≡ true = (g.whose k c e).1 in grind (arith, may.new)

  no_large : has_large (Some x) ≡ false
  no_large = (has_nothing x may.bare).1

  bare : HasNothing (Some x)
  bare = has_nothing x may.bare

  pub pictured : Pictures t to m
  pictured = record {
    inodes = λ k. at_put (λ o. t.inode k ≡ inode_for m to o) n.birth i (Some b) k
        (λ e. ap (put s.inode i (Some (inode_of stamp (λ j. 0) 0 x))) e ∙ put_same s.inode i (Some (inode_of stamp (λ j. 0) 0 x)) ∙ ap Some (bare_inode stamp (n.large b) (n.block b) x may.bare)
        ∙ sym (ap (inode_by m b) (put_same at b (Some x)) ∙ ap (λ z. Some (inode_of z (n.block b) (n.large b) x)) (put_same n.stamp b stamp)))
        (λ e. put_other s.inode i (Some (inode_of stamp (λ j. 0) 0 x)) k e ∙ g.inodes k ∙ sym (same_inode n m at to (n.birth k) (λ c q. (put_other at b (Some x) c (other k c q), put_other n.stamp b stamp c (other k c q), refl, refl))));
    bits = λ k. grind (arith, nat_tests, g.bits k);
    numbered = λ c e. grind (arith, nat_tests, g.numbered c, nobody);
    whose = λ k c e. grind (arith, nat_tests, g.whose k c, may.new);
    kinds = λ c y e. grind (arith, nat_tests, g.kinds c y);
    owned = λ c j l. grind (arith, nat_tests, g.owned c j, bare.0);
    owners = λ k c j e. grind (arith, nat_tests, g.owners k c j, may.new);
    uses = λ k. g.uses k ∙ sym (same_use (n.was k) at to (n.owner k) (λ c j e. let l : j < blocks_of (at c) = (g.owners k c j e).1 in grind (arith, nat_tests, may.new)));
    emptied = g.emptied;
    larges = λ c e. grind (arith, nat_tests, g.larges c, no_large);
    large_owners = λ k c e. grind (arith, nat_tests, g.large_owners k c, may.new);
    large_bits = g.large_bits;
    names = λ d c w e. grind (arith, nat_tests, g.names d c w, bare.3 w, may.unnamed d w);
    places = λ d q e l h. grind (arith, nat_tests, g.places d q e, bare.2);
    bytes = λ c j v e. grind (arith, nat_tests, g.bytes c j v, bare.4 j);
  }

  not_new : (c : ℕ) → is_some (at c) ≡ true → c ≢ b
  not_new c e q = let z : is_some (at b) ≡ true = subst (λ c. is_some (at c) ≡ true) q e in let y : is_some (at b) ≡ false = ap is_some may.new in cc

  pub kept : KeepsOthers at b n m
  kept = record {
    inode = λ c e. put_other n.inode b i c (not_new c e);
    kind = λ c e. put_other n.kind b (kind_of x) c (not_new c e);
    stamp = λ c e. put_other n.stamp b stamp c (not_new c e);
    block = λ c f. refl;
    large = λ c f. refl;
    spot = λ c f. refl;
    birth = λ k c f. at_put (λ o. (o ≡ Some c) ↔ (n.birth k ≡ Some c)) n.birth i (Some b) k
        (λ e. (λ q. absurd (f (let z : Some b ≡ Some c = q in let y : b ≡ c = cc in sym y)), λ q. absurd (let z : None ≡ Some c = sym nobody ∙ ap n.birth (sym e) ∙ q in cc)))
        (λ e. both);
    owner = λ k c j f. both;
    large_owner = λ k c f. both;
  }

pub nodes_come : NodesCome
nodes_come s at n b i stamp x g may = record { pictures = pictured s at n g b i stamp x may; others = kept s at n g b i stamp x may }
