-- A place of a directory gets another entry.
use Rattle.std.proofs.Common.{ℕ, ◌*◌, ◌/◌, ◌%◌, ◌<◌, ◌≡◌, ◌≢◌, true, false, List, Option, Some, None, refl, sym, ◌∙◌, ap, subst, arith, is_some, [], ◌∷◌}
use Rattle.std.proofs.lemmas.Bool.Decides.{nat_tests}
use Rattle.std.proofs.lemmas.Bool.{lt-ltb}
use Rattle.tree_definitions.specs.declared.node.Node.TheVariants.{Dir}
use Rattle.tree_definitions.specs.Entries.{Entries, entry_at}
use Rattle.frang_base.proofs.Basics.{at_put, put_same, put_other}
use Rattle.frang_base.proofs.Tests.{some_there}
use Rattle.tree_definitions.specs.WellFormed.{put as put_node}
use Rattle.tree_definitions.proofs.Births.{each_but}
use Rattle.disk_definitions.specs.Store.{Store, StoredEntry}
use Rattle.disk_definitions.specs.Store.Use.{Entries as OfEntries}
use Rattle.disk_definitions.specs.Naming.{Naming, Nodes, Pictures, find_in, room_in, first_blocks, inode_of, inode_by, inode_for, use_by, entry_of, dir_place}
use Rattle.disk_definitions.specs.Edits.{edited_all}
use Rattle.disk_definitions.specs.Edits.Edit.{SetPlace}
use Rattle.disk_definitions.specs.Changes.{replace_entry}
use Rattle.disk_definitions.specs.Namings.{put_name, named_at, KeepsOthers}
use Rattle.disk_definitions.specs.ChangeLaws.{Leads, HasNameInstead, EntriesAreReplaced}
use Rattle.disk_definitions.proofs.Puts.{put2_same, put2_other}
use Rattle.disk_definitions.proofs.Names.{at_name, name_same, name_other}
use Rattle.disk_definitions.proofs.Kept.{both, same_use}
use Rattle.disk_definitions.proofs.Rooms.{which_block, other_place, dir_use}
use Rattle.disk_definitions.proofs.Entry.{stored_is}

replace_is : (stamp large blocks q : ℕ) (block : ℕ → ℕ) (e : StoredEntry) (entries : Entries) → q < 56 * blocks → replace_entry (inode_of stamp block large (Dir entries blocks)) q e ≡ SetPlace (block (q / 56)) (q % 56) (Some e) ∷ []
replace_is stamp large blocks q block e entries l = rw (lt-ltb (q / 56) blocks (which_block q blocks l)) refl

module _ (s : Store) (at : Nodes) (n : Naming) (g : Pictures s at n) (d a b blocks : ℕ) (name new_name : List ℕ) (old new : Entries) (is : at d ≡ Some (Dir old blocks))
    (had : entry_at old name ≡ Some a) (instead : HasNameInstead old new name new_name b) where
  abbrev q : ℕ
  q = n.spot d name

  abbrev to : Nodes
  to = put_node at d (Some (Dir new blocks))

  abbrev m : Naming
  m = named_at n d new_name q

  abbrev t : Store
  t = edited_all s (SetPlace (n.block d (q / 56)) (q % 56) (Some (entry_of n new_name b)) ∷ [])

  stood : (q < 56 * room_in (at d)) × (dir_place s n d q ≡ Some (entry_of n name a))
  stood = g.names d a name (rw is had)

  inside : q < 56 * blocks
  inside = subst (λ y. q < 56 * room_in y) is stood.0

  here : dir_place t m d q ≡ Some (entry_of n new_name b)
  here = put2_same s.place (n.block d (q / 56)) (q % 56) (Some (entry_of n new_name b))

  away : (c p : ℕ) → p < 56 * room_in (at c) → (c ≡ d → p ≡ q → ⊥) → dir_place t m c p ≡ dir_place s n c p
  away c p l f = other_place s at n g (Some (entry_of n new_name b)) d q c p stood.0 l f

  -- a name that is there is the new one, or another than the old one
  not_old : (w : List ℕ) (x : ℕ) → w ≢ new_name → entry_at new w ≡ Some x → w ≢ name
  not_old w x f e i =
      let z : entry_at new name ≡ None = instead.gone (λ j. f (i ∙ j)) in
      let y : entry_at new name ≡ Some x = subst (λ v. entry_at new v ≡ Some x) i e in cc

  names_here : (x : ℕ) (w : List ℕ) → find_in (to d) w ≡ Some x → (m.spot d w < 56 * room_in (to d)) × (dir_place t m d (m.spot d w) ≡ Some (entry_of m w x))
  names_here x w = rw (put_same at d (Some (Dir new blocks)), put_same n.spot d (put_name (n.spot d) new_name q))
      (at_name (λ p. entry_at new w ≡ Some x → (p < 56 * blocks) × (dir_place t m d p ≡ Some (entry_of m w x))) (n.spot d) new_name q w
      (λ i e. (inside, here ∙ ap Some (let r : Some b ≡ Some x = sym instead.has ∙ subst (λ y. entry_at new y ≡ Some x) i e in let u : b ≡ x = cc in rw (i, u) refl)))
      (λ i e. let k : w ≢ name = not_old w x i e in
      let r = g.names d x w (rw is (sym (instead.others w k i) ∙ e)) in
      let l : n.spot d w < 56 * blocks = subst (λ y. n.spot d w < 56 * room_in y) is r.0 in
      (l, away d (n.spot d w) r.0 (λ c f. k (let z : Some (entry_of n w x) ≡ Some (entry_of n name a) = sym r.1 ∙ ap (dir_place s n d) f ∙ stood.1 in let v : entry_of n w x ≡ entry_of n name a = cc in ap (λ y. y.name) v)) ∙ r.1)))

  places_here : (p : ℕ) (e : StoredEntry) → p < 56 * room_in (to d) → dir_place t m d p ≡ Some e → (m.spot d e.name ≡ p) × (is_some (find_in (to d) e.name) ≡ true)
  places_here p e = rw (put_same at d (Some (Dir new blocks)), put_same n.spot d (put_name (n.spot d) new_name q))
      (each_but (λ p. p < 56 * blocks → dir_place t m d p ≡ Some e → (put_name (n.spot d) new_name q e.name ≡ p) × (is_some (entry_at new e.name) ≡ true)) q
      (λ l h. let i : entry_of n new_name b ≡ e = (let z : Some (entry_of n new_name b) ≡ Some e = sym here ∙ h in cc) in
      let k : new_name ≡ e.name = ap (λ y. y.name) i in
      rw (sym k) (name_same (n.spot d) new_name q, rw instead.has refl))
      (λ c f l h. let r = g.places d c e (rw is l) (sym (away d c (rw is l) (λ a i. f i)) ∙ h) in
      let before : is_some (entry_at old e.name) ≡ true = subst (λ y. is_some (find_in y e.name) ≡ true) is r.1 in
      let k : e.name ≢ name = λ i. f (sym r.0 ∙ ap (n.spot d) i) in
      let w : e.name ≢ new_name = λ i. (let z : entry_at old e.name ≡ None = ap (entry_at old) i ∙ instead.absent (λ j. k (i ∙ sym j)) in let u : is_some (entry_at old e.name) ≡ false = ap is_some z in cc) in
      (name_other (n.spot d) new_name q e.name w ∙ r.0, ap is_some (instead.others e.name k w) ∙ before)) p)

  -- the inode stays, since there are as many entries
  inode_stays : (o : Option ℕ) → inode_for n at o ≡ inode_for m to o
  inode_stays None = refl
  inode_stays (Some c) = at_put (λ o. inode_by n c (at c) ≡ inode_by n c o) at d (Some (Dir new blocks)) c
      (λ e. ap (inode_by n c) (ap at e ∙ is) ∙ ap (λ z. Some (record { kind = 2; links = 1; size = z; birth = n.stamp c; blocks = blocks; small = first_blocks blocks (n.block c); large = 0; when = 0; target = [] })) (sym instead.same))
      (λ e. refl)

  pub replaced_pictured : Pictures t to m
  replaced_pictured = record {
    inodes = λ k. g.inodes k ∙ inode_stays (n.birth k);
    bits = g.bits;
    numbered = λ c e. grind (arith, nat_tests, g.numbered c, is);
    whose = λ k c e. grind (arith, nat_tests, g.whose k c);
    kinds = λ c y e. grind (arith, nat_tests, g.kinds c y, g.kinds d (Dir old blocks), is);
    owned = λ c j l. grind (arith, nat_tests, g.owned c j, is);
    owners = λ k c j e. grind (arith, nat_tests, g.owners k c j, is);
    uses = λ k. g.uses k ∙ sym (same_use (n.was k) at to (n.owner k) (λ c j e. at_put (λ o. use_by o ≡ use_by (at c)) at d (Some (Dir new blocks)) c (λ i. rw (i, is) refl) (λ i. refl)));
    emptied = λ k p l e. put2_other s.place (n.block d (q / 56)) (q % 56) (Some (entry_of n new_name b)) k p (λ i f. let u : s.use_of (n.block d (q / 56)) ≡ OfEntries = dir_use s at n g d q stood.0 in let v : s.use_of k ≡ OfEntries = ap s.use_of i ∙ u in cc) ∙ g.emptied k p l e;
    larges = λ c e. grind (arith, nat_tests, g.larges c, is);
    large_owners = λ k c e. grind (arith, nat_tests, g.large_owners k c, is);
    large_bits = g.large_bits;
    names = each_but (λ c. (x : ℕ) (w : List ℕ) → find_in (to c) w ≡ Some x → (m.spot c w < 56 * room_in (to c)) × (dir_place t m c (m.spot c w) ≡ Some (entry_of m w x))) d names_here
        (λ c f x w e. rw (put_other at d (Some (Dir new blocks)) c f, put_other n.spot d (put_name (n.spot d) new_name q) c f) (let r = g.names c x w (rw (sym (put_other at d (Some (Dir new blocks)) c f)) e) in (r.0, away c (n.spot c w) r.0 (λ i j. f i) ∙ r.1)));
    places = each_but (λ c. (p : ℕ) (e : StoredEntry) → p < 56 * room_in (to c) → dir_place t m c p ≡ Some e → (m.spot c e.name ≡ p) × (is_some (find_in (to c) e.name) ≡ true)) d places_here
        (λ c f p e. rw (put_other at d (Some (Dir new blocks)) c f, put_other n.spot d (put_name (n.spot d) new_name q) c f) (λ l h. g.places c p e l (sym (away c p l (λ i j. f i)) ∙ h)));
    bytes = λ c j v e. grind (arith, nat_tests, g.bytes c j v, is);
  }

  pub replaced_kept : KeepsOthers at d n m
  replaced_kept = record {
    inode = λ c e. refl;
    kind = λ c e. refl;
    stamp = λ c e. refl;
    block = λ c f. refl;
    large = λ c f. refl;
    spot = λ c f. put_other n.spot d (put_name (n.spot d) new_name q) c f;
    birth = λ i c f. both;
    owner = λ k c j f. both;
    large_owner = λ k c f. both;
  }

pub entries_are_replaced : EntriesAreReplaced
entries_are_replaced s at n d blocks x old new name new_name b g dir instead =
    let a = some_there (entry_at old name) instead.had in
    let inside : n.spot d name < 56 * blocks = subst (λ y. n.spot d name < 56 * room_in y) dir.is (g.names d a.0 name (rw dir.is a.1)).0 in
    let l : replace_entry x (n.spot d name) (entry_of n new_name b) ≡ SetPlace (n.block d (n.spot d name / 56)) (n.spot d name % 56) (Some (entry_of n new_name b)) ∷ [] =
    ap (λ x. replace_entry x (n.spot d name) (entry_of n new_name b)) (stored_is s at n g d (Dir old blocks) x dir.is dir.inode) ∙ replace_is (n.stamp d) (n.large d) blocks (n.spot d name) (n.block d) (entry_of n new_name b) old inside in
    subst (λ l. Leads s (edited_all s l) at n (named_at n d new_name (n.spot d name)) d (Some (Dir new blocks))) (sym l)
    (record {
      pictures = replaced_pictured s at n g d a.0 b blocks name new_name old new dir.is a.1 instead;
      others = replaced_kept s at n g d a.0 b blocks name new_name old new dir.is a.1 instead;
    })
