-- A directory gets a block.
use Rattle.std.proofs.Common.{⊎_elim, ◌⊎◌, ◌↔◌, ◌-◌, ℕ, ◌+◌, ◌*◌, ◌/◌, ◌%◌, ◌<◌, ◌≡◌, ◌≢◌, true, false, List, Some, None, refl, sym, ◌∙◌, ap, subst, arith, is_some, [], ◌∷◌, length}
use Rattle.std.proofs.Math.Path.{fun_ext}
use Rattle.std.proofs.lemmas.Bool.Decides.{nat_tests}
use Rattle.std.proofs.lemmas.Bool.{cases_lt}
use Rattle.tree_definitions.specs.declared.node.Node.TheVariants.{Dir}
use Rattle.tree_definitions.specs.Entries.{Entries}
use Rattle.frang_base.specs.Functions.{put}
use Rattle.frang_base.proofs.Basics.{at_put, put_same, put_other}
use Rattle.tree_definitions.specs.WellFormed.{put as put_node}
use Rattle.tree_definitions.proofs.Births.{each_but}
use Rattle.disk_definitions.specs.Store.{Store, StoredEntry}
use Rattle.disk_definitions.specs.Store.Use.{Entries as OfEntries}
use Rattle.disk_definitions.specs.Naming.{Naming, Nodes, Pictures, find_in, room_in, first_blocks, inode_of, inode_by, inode_for, use_by, use_for, entry_of, dir_place}
use Rattle.disk_definitions.specs.Edits.{edited_all}
use Rattle.disk_definitions.specs.Edits.Edit.{SetInode, SetUse}
use Rattle.disk_definitions.specs.Changes.{grow}
use Rattle.disk_definitions.specs.Namings.{named_block, KeepsOthers}
use Rattle.disk_definitions.specs.ChangeLaws.{Leads, DirectoriesGrow}
use Rattle.disk_definitions.proofs.Kept.{both, same_inode, same_use}
use Rattle.disk_definitions.proofs.Free.{no_owner, no_entries}
use Rattle.disk_definitions.proofs.Rooms.{which_block}
use Rattle.disk_definitions.proofs.Entry.{stored_is}

put_first : (f : ℕ → ℕ) (n k : ℕ) → put (first_blocks n f) n k ≡ first_blocks (n + 1) (put f n k)
put_first f n k = fun_ext (λ j. grind (arith, nat_tests))

-- the edits by the naming
grow_is : (i stamp large blocks k : ℕ) (block : ℕ → ℕ) (entries : Entries) →
    grow i (inode_of stamp block large (Dir entries blocks)) k ≡ SetUse k OfEntries ∷ SetInode i (Some (inode_of stamp (put block blocks k) large (Dir entries (blocks + 1)))) false ∷ []
grow_is i stamp large blocks k block entries =
    ap (λ f. SetUse k OfEntries ∷ SetInode i (Some (record { kind = 2; links = 1; size = length entries; birth = stamp; blocks = blocks + 1; small = f; large = 0; when = 0; target = [] })) false ∷ []) (put_first block blocks k)

module _ (s : Store) (at : Nodes) (n : Naming) (g : Pictures s at n) (d blocks k : ℕ) (entries : Entries) (is : at d ≡ Some (Dir entries blocks))
    (free : n.owner k ≡ None) (clear : (p : ℕ) → p < 56 → s.place k p ≡ None) where
  abbrev m : Naming
  m = named_block n d blocks k

  abbrev to : Nodes
  to = put_node at d (Some (Dir entries (blocks + 1)))

  abbrev t : Store
  t = edited_all s (SetUse k OfEntries ∷ SetInode (n.inode d) (Some (inode_of (n.stamp d) (put (n.block d) blocks k) (n.large d) (Dir entries (blocks + 1)))) false ∷ [])

  there : is_some (at d) ≡ true
  there = rw is refl

  -- the places that were there
  old_place : (c p : ℕ) → p < 56 * room_in (at c) → dir_place t m c p ≡ dir_place s n c p
  old_place c p l = ap (λ b. s.place b (p % 56)) (each_but (λ c. p / 56 < room_in (at c) → m.block c (p / 56) ≡ n.block c (p / 56)) d
      (λ l. rw (put_same n.block d (put (n.block d) blocks k)) (put_other (n.block d) blocks k (p / 56) (λ e. let x : p / 56 < blocks = subst (λ y. p / 56 < room_in y) is l in omega arith)))
      (λ c f l. rw (put_other n.block d (put (n.block d) blocks k) c f) refl) c (which_block p (room_in (at c)) l))

  new_place : (p : ℕ) → p < 56 → dir_place t m d (56 * blocks + p) ≡ None
  new_place p l =
      let a : (56 * blocks + p) / 56 ≡ blocks = omega arith in
      let b : (56 * blocks + p) % 56 ≡ p = omega arith in
      rw (put_same n.block d (put (n.block d) blocks k), a, b, put_same (n.block d) blocks k) (clear p l)

  names_here : (x : ℕ) (w : List ℕ) → find_in (to d) w ≡ Some x → (n.spot d w < 56 * room_in (to d)) × (dir_place t m d (n.spot d w) ≡ Some (entry_of n w x))
  names_here x w = rw (put_same at d (Some (Dir entries (blocks + 1)))) (λ e.
      let h = g.names d x w (rw is e) in
      let l : n.spot d w < 56 * blocks = subst (λ y. n.spot d w < 56 * room_in y) is h.0 in
      (omega arith, old_place d (n.spot d w) h.0 ∙ h.1))

  places_here : (p : ℕ) (e : StoredEntry) → p < 56 * room_in (to d) → dir_place t m d p ≡ Some e → (n.spot d e.name ≡ p) × (is_some (find_in (to d) e.name) ≡ true)
  places_here p e = rw (put_same at d (Some (Dir entries (blocks + 1)))) (λ l h. ⊎_elim
      (λ i. let q = g.places d p e (rw is i) (sym (old_place d p (rw is i)) ∙ h) in (q.0, subst (λ y. is_some (find_in y e.name) ≡ true) is q.1))
      (λ i. absurd (let z : dir_place t m d (56 * blocks + (p - 56 * blocks)) ≡ None = new_place (p - 56 * blocks) (omega arith) in
      let o : 56 * blocks + (p - 56 * blocks) ≡ p = omega arith in
      let y : dir_place t m d p ≡ None = subst (λ v. dir_place t m d v ≡ None) o z in
      let x : None ≡ Some e = sym y ∙ h in cc))
      (cases_lt p (56 * blocks)))

  pub grown_pictured : Pictures t to m
  grown_pictured = record {
    inodes = λ i. at_put (λ o. o ≡ inode_for m to (n.birth i)) s.inode (n.inode d) (Some (inode_of (n.stamp d) (put (n.block d) blocks k) (n.large d) (Dir entries (blocks + 1)))) i
        (λ e. let w : n.birth i ≡ Some d = ap n.birth e ∙ g.numbered d there in
        sym (ap (inode_for m to) w ∙ ap (inode_by m d) (put_same at d (Some (Dir entries (blocks + 1)))) ∙ ap (λ f. Some (inode_of (n.stamp d) f (n.large d) (Dir entries (blocks + 1)))) (put_same n.block d (put (n.block d) blocks k))))
        (λ e. g.inodes i ∙ sym (same_inode n m at to (n.birth i) (λ c q. let f : c ≢ d = λ j. e (sym (g.whose i c q).0 ∙ ap n.inode j) in (put_other at d (Some (Dir entries (blocks + 1))) c f, refl, put_other n.block d (put (n.block d) blocks k) c f, refl))));
    bits = g.bits;
    numbered = λ c e. grind (arith, nat_tests, g.numbered c, there);
    whose = λ i c e. grind (arith, nat_tests, g.whose i c);
    kinds = λ c y e. grind (arith, nat_tests, g.kinds c y, g.kinds d (Dir entries blocks), is);
    owned = λ c j l. grind (arith, nat_tests, g.owned c j, is, free);
    owners = λ i c j e. grind (arith, nat_tests, g.owners i c j, is, free);
    uses = λ i. at_put (λ o. put s.use_of k OfEntries i ≡ use_for (n.was i) to o) n.owner k (Some (d, blocks)) i
        (λ e. rw (e, put_same s.use_of k OfEntries, put_same at d (Some (Dir entries (blocks + 1)))) refl)
        (λ e. put_other s.use_of k OfEntries i e ∙ g.uses i ∙ sym (same_use (n.was i) at to (n.owner i) (λ c j q. at_put (λ o. use_by o ≡ use_by (at c)) at d (Some (Dir entries (blocks + 1))) c (λ r. rw (r, is) refl) (λ r. refl))));
    emptied = λ i p l e. grind (arith, nat_tests, g.emptied i p);
    larges = λ c e. grind (arith, nat_tests, g.larges c, is);
    large_owners = λ i c e. grind (arith, nat_tests, g.large_owners i c, is);
    large_bits = g.large_bits;
    names = each_but (λ c. (x : ℕ) (w : List ℕ) → find_in (to c) w ≡ Some x → (n.spot c w < 56 * room_in (to c)) × (dir_place t m c (n.spot c w) ≡ Some (entry_of n w x))) d names_here
        (λ c f x w. rw (put_other at d (Some (Dir entries (blocks + 1))) c f) (λ e. let h = g.names c x w e in (h.0, old_place c (n.spot c w) h.0 ∙ h.1)));
    places = each_but (λ c. (p : ℕ) (e : StoredEntry) → p < 56 * room_in (to c) → dir_place t m c p ≡ Some e → (n.spot c e.name ≡ p) × (is_some (find_in (to c) e.name) ≡ true)) d places_here
        (λ c f p e. rw (put_other at d (Some (Dir entries (blocks + 1))) c f) (λ l h. g.places c p e l (sym (old_place c p l) ∙ h)));
    bytes = λ c j v e. grind (arith, nat_tests, g.bytes c j v, is);
  }

  pub grown_kept : KeepsOthers at d n m
  grown_kept = record {
    inode = λ c e. refl;
    kind = λ c e. refl;
    stamp = λ c e. refl;
    block = λ c f. put_other n.block d (put (n.block d) blocks k) c f;
    large = λ c f. refl;
    spot = λ c f. refl;
    birth = λ i c f. both;
    owner = λ i c j f. at_put (λ o. (o ≡ Some (c, j)) ↔ (n.owner i ≡ Some (c, j))) n.owner k (Some (d, blocks)) i
        (λ e. (
          λ q. absurd (f (let x : ℕ × ℕ = (d, blocks) in let y : ℕ × ℕ = (c, j) in let z : Some x ≡ Some y = q in let w : x ≡ y = cc in sym (ap (λ v. v.0) w))),
          λ q. absurd (let y : ℕ × ℕ = (c, j) in let z : None ≡ Some y = sym free ∙ ap n.owner (sym e) ∙ q in cc),
        ))
        (λ e. both);
    large_owner = λ i c f. both;
  }

pub directories_grow : DirectoriesGrow
directories_grow s at n d blocks x entries k g dir block =
    let free : n.owner k ≡ None = no_owner s at n g k block.free in
    let l : grow (n.inode d) x k ≡ SetUse k OfEntries ∷ SetInode (n.inode d) (Some (inode_of (n.stamp d) (put (n.block d) blocks k) (n.large d) (Dir entries (blocks + 1)))) false ∷ [] =
    ap (λ x. grow (n.inode d) x k) (stored_is s at n g d (Dir entries blocks) x dir.is dir.inode) ∙ grow_is (n.inode d) (n.stamp d) (n.large d) blocks k (n.block d) entries in
    subst (λ l. Leads s (edited_all s l) at n (named_block n d blocks k) d (Some (Dir entries (blocks + 1)))) (sym l)
    (record {
      pictures = grown_pictured s at n g d blocks k entries dir.is free (no_entries s at n g k block);
      others = grown_kept s at n g d blocks k entries dir.is free (no_entries s at n g k block);
    })
