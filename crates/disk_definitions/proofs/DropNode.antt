-- A node goes, with its inode and blocks.
use Rattle.std.proofs.Common.{ℕ, ◌+◌, ◌*◌, ◌/◌, ◌%◌, ◌<◌, ◌≡◌, ◌≢◌, ◌↔◌, Bool, true, false, Option, Some, None, refl, sym, ◌∙◌, ap, subst, arith, is_some, nat_eq, if◌then◌else◌}
use Rattle.std.proofs.lemmas.Bool.Decides.{nat_tests}
use Rattle.std.proofs.lemmas.Bool.{eqb-false, eqb-true}
use Rattle.tree_definitions.specs.declared.node.Node.{Node}
use Rattle.tree_definitions.specs.declared.node.Node.TheVariants.{Dir, File, Link}
use Rattle.frang_base.proofs.Basics.{by_test, at_put, put_same, put_other}
use Rattle.tree_definitions.specs.WellFormed.{put as put_node}
use Rattle.disk_definitions.specs.Store.{Store, StoredEntry}
use Rattle.disk_definitions.specs.Store.Use.{Empty}
use Rattle.disk_definitions.specs.Naming.{Naming, Nodes, Pictures, kind_of, blocks_of, find_in, room_in, inode_for, use_by, use_for, dir_place}
use Rattle.disk_definitions.specs.Changes.{freed}
use Rattle.disk_definitions.specs.Namings.{is_owned_by, is_of, named_less, KeepsOthers}
use Rattle.disk_definitions.specs.ChangeLaws.{HasNoNames, dropped, DroppedNodesGo}
use Rattle.disk_definitions.proofs.Kept.{both, same_inode}

-- the owners other than b are the same
pub others_own : (b c j : ℕ) → c ≢ b → (o : Option (ℕ × ℕ)) → ((if is_owned_by b o then None else o) ≡ Some (c, j)) ↔ (o ≡ Some (c, j))
others_own b c j f None = both
others_own b c j f (Some o) = by_test (λ v. (v ≡ Some (c, j)) ↔ (Some o ≡ Some (c, j))) None (Some o) (nat_eq o.0 b)
    (λ e. (
      λ q. absurd (let y : ℕ × ℕ = (c, j) in let z : None ≡ Some y = q in cc),
      λ q. absurd (f (let y : ℕ × ℕ = (c, j) in let z : Some o ≡ Some y = q in let w : o ≡ y = cc in sym (ap (λ v. v.0) w) ∙ eqb-true o.0 b e)),
    ))
    (λ e. both)

pub others_have : (b c : ℕ) → c ≢ b → (o : Option ℕ) → ((if is_of b o then None else o) ≡ Some c) ↔ (o ≡ Some c)
others_have b c f None = both
others_have b c f (Some o) = by_test (λ v. (v ≡ Some c) ↔ (Some o ≡ Some c)) None (Some o) (nat_eq o b)
    (λ e. (λ q. absurd (let z : None ≡ Some c = q in cc), λ q. absurd (f (let z : Some o ≡ Some c = q in let w : o ≡ c = cc in sym w ∙ eqb-true o b e))))
    (λ e. both)

module _ (s : Store) (at : Nodes) (n : Naming) (g : Pictures s at n) (b : ℕ) (x : Node) (is : at b ≡ Some x) (nameless : HasNoNames x) where
  abbrev m : Naming
  m = named_less n b (kind_of x)

  abbrev to : Nodes
  to = put_node at b None

  abbrev t : Store
  t = dropped s n b x

  there : n.birth (n.inode b) ≡ Some b
  there = g.numbered b (rw is refl)

  other : (k c : ℕ) → n.birth k ≡ Some c → k ≢ n.inode b → c ≢ b
  other k c e f q = let h : n.inode c ≡ k = (g.whose k c e).0 in f (sym h ∙ ap n.inode q)

  use_split : (k : ℕ) (o : ℕ × ℕ) → n.owner k ≡ Some o → (v : Bool) → nat_eq o.0 b ≡ v →
      (if v then freed (kind_of x) else s.use_of k) ≡ use_for (if v then nat_eq (kind_of x) 2 else n.was k) to (if v then None else Some o)
  use_split k o e true i = refl
  use_split k o e false i = g.uses k ∙ ap (use_for (n.was k) at) e ∙ ap use_by (sym (put_other at b None o.0 (eqb-false o.0 b i)))

  use_here : (k : ℕ) (o : Option (ℕ × ℕ)) → n.owner k ≡ o →
      (if is_owned_by b o then freed (kind_of x) else s.use_of k) ≡ use_for (if is_owned_by b o then nat_eq (kind_of x) 2 else n.was k) to (if is_owned_by b o then None else o)
  use_here k None e = g.uses k ∙ ap (use_for (n.was k) at) e
  use_here k (Some o) e = use_split k o e (nat_eq o.0 b) refl

  dir_room : (x : Node) → freed (kind_of x) ≡ Empty → blocks_of (Some x) ≡ room_in (Some x)
  dir_room (Dir entries blocks) e = refl
  dir_room (File cells links when) e = absurd (cc)
  dir_room (Link target links) e = absurd (cc)

  no_entry : (k p j : ℕ) → p < 56 → n.owner k ≡ Some (b, j) → freed (kind_of x) ≡ Empty → (o : Option StoredEntry) → s.place k p ≡ o → o ≡ None
  no_entry k p j l e f None h = refl
  no_entry k p j l e f (Some y) h =
      let w = g.owners k b j e in
      let inside : j < room_in (at b) = rw (is, sym (dir_room x f)) (subst (λ z. j < blocks_of z) is w.1) in
      let d : (56 * j + p) / 56 ≡ j = omega arith in
      let r : (56 * j + p) % 56 ≡ p = omega arith in
      let at_place : dir_place s n b (56 * j + p) ≡ Some y = rw (d, r, w.0) h in
      let q = g.places b (56 * j + p) y (omega arith) at_place in
      let z : is_some (find_in (Some x) y.name) ≡ true = subst (λ v. is_some (find_in v y.name) ≡ true) is q.1 in
      absurd (let v : is_some (find_in (Some x) y.name) ≡ false = ap is_some (nameless y.name) in cc)

  empty_split : (k p : ℕ) (o : Option (ℕ × ℕ)) → n.owner k ≡ o → p < 56 → (if is_owned_by b o then freed (kind_of x) else s.use_of k) ≡ Empty → s.place k p ≡ None
  empty_split k p None e l = λ h. g.emptied k p l h
  empty_split k p (Some o) e l = by_test (λ v. v ≡ Empty → s.place k p ≡ None) (freed (kind_of x)) (s.use_of k) (nat_eq o.0 b)
      (λ i h. no_entry k p o.1 l (let y : ℕ × ℕ = (b, o.1) in let z : o ≡ y = rw (sym (eqb-true o.0 b i)) refl in e ∙ ap Some z) h (s.place k p) refl)
      (λ i h. g.emptied k p l h)

  pub dropped_pictured : Pictures t to m
  dropped_pictured = record {
    inodes = λ k. at_put (λ o. o ≡ inode_for m to (m.birth k)) s.inode (n.inode b) None k (λ e. rw (e, put_same n.birth (n.inode b) None) refl)
        (λ e. rw (put_other n.birth (n.inode b) None k e) (g.inodes k ∙ sym (same_inode n m at to (n.birth k) (λ c q. (put_other at b None c (other k c q e), refl, refl, refl)))));
    bits = λ k. grind (arith, nat_tests, g.bits k);
    numbered = λ c e. grind (arith, nat_tests, g.numbered c, there);
    whose = λ k c e. grind (arith, nat_tests, g.whose k c);
    kinds = λ c y e. grind (arith, nat_tests, g.kinds c y);
    owned = λ c j l. grind (arith, nat_tests, g.owned c j);
    owners = λ k c j e. grind (arith, nat_tests, g.owners k c j);
    uses = λ k. use_here k (n.owner k) refl;
    emptied = λ k p l e. empty_split k p (n.owner k) refl l e;
    larges = λ c e. grind (arith, nat_tests, g.larges c);
    large_owners = λ k c e. grind (arith, nat_tests, g.large_owners k c);
    large_bits = λ k. grind (arith, nat_tests, g.large_bits k);
    names = λ d c w e. grind (arith, nat_tests, g.names d c w);
    places = λ d q e l h. grind (arith, nat_tests, g.places d q e);
    bytes = λ c j v e. grind (arith, nat_tests, g.bytes c j v);
  }

  pub dropped_kept : KeepsOthers at b n m
  dropped_kept = record {
    inode = λ c e. refl;
    kind = λ c e. refl;
    stamp = λ c e. refl;
    block = λ c f. refl;
    large = λ c f. refl;
    spot = λ c f. refl;
    birth = λ i c f. at_put (λ o. (o ≡ Some c) ↔ (n.birth i ≡ Some c)) n.birth (n.inode b) None i
        (λ e. (λ q. absurd (let z : None ≡ Some c = q in cc), λ q. absurd (f (let z : Some b ≡ Some c = sym there ∙ ap n.birth (sym e) ∙ q in let y : b ≡ c = cc in sym y))))
        (λ e. both);
    owner = λ k c j f. others_own b c j f (n.owner k);
    large_owner = λ k c f. others_have b c f (n.large_owner k);
  }

pub dropped_nodes_go : DroppedNodesGo
dropped_nodes_go s at n b node g is nameless = record { pictures = dropped_pictured s at n g b node is nameless; others = dropped_kept s at n g b node is nameless }
