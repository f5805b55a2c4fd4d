-- A file gets other cells, with other blocks where it is longer or shorter.
use Rattle.std.proofs.Common.{◌≤◌, ◌↔◌, ℕ, ◌-◌, ◌*◌, ◌/◌, ◌%◌, ◌<◌, ◌≡◌, ◌≢◌, Bool, true, false, List, Option, Some, None, length, is_some, nat_eq, nat_lt, if◌then◌else◌, refl, sym, ◌∙◌, ap, subst, arith, eq-eqb, ne_eqb}
use Rattle.std.proofs.lemmas.Bool.Decides.{nat_tests}
use Rattle.std.proofs.lemmas.Bool.{eqb-false}
use Rattle.tree_definitions.specs.declared.cells.Cell.{Cell}
use Rattle.tree_definitions.specs.declared.node.Node.TheVariants.{File}
use Rattle.tree_definitions.specs.Tree.{small_blocks_of}
use Rattle.frang_base.proofs.Basics.{by_test, at_put, put_same, put_other}
use Rattle.tree_definitions.specs.WellFormed.{put as put_node}
use Rattle.tree_definitions.proofs.Births.{each_but}
use Rattle.disk_definitions.specs.Store.{Store, StoredEntry}
use Rattle.disk_definitions.specs.Store.Use.{Fresh, Bytes, Empty, Entries}
use Rattle.disk_definitions.specs.Standing.{IsMetadata}
use Rattle.disk_definitions.specs.Naming.{Naming, Nodes, Pictures, blocks_of, has_large, find_in, room_in, cell_in, inode_of, inode_by, inode_for, use_by, use_for, entry_of, dir_place, file_byte, Allows}
use Rattle.disk_definitions.specs.Namings.{is_owned_by, is_of, KeepsOthers}
use Rattle.disk_definitions.specs.ChangeLaws.{FilesFit}
use Rattle.disk_definitions.specs.Resizing.{index_of, is_large_of, owner_after, named_resized, HasBlocks, IsResized, FilesAreResized, OwnBlocksDo}
use Rattle.disk_definitions.proofs.Kept.{both, same_inode}
use Rattle.disk_definitions.proofs.Rooms.{block_room, dir_use}
use Rattle.disk_definitions.proofs.Counts.{cell_fits, below_56, below_4096, cell_block, cell_large, byte_use, large_use, same_byte}
use Rattle.disk_definitions.proofs.DropNode.{others_own, others_have}
use Rattle.disk_definitions.proofs.Indices.{index_hit, own_index, no_index, no_large}

module _ (s t : Store) (at : Nodes) (n : Naming) (g : Pictures s at n) (b links before when large : ℕ) (old new : List Cell) (block : ℕ → ℕ) (is : at b ≡ Some (File old links before))
    (fit : FilesFit at) (has : HasBlocks s n b old new block large) (after : IsResized s t n b new links when block large) where
  abbrev m : Naming
  m = named_resized n b new block large

  abbrev to : Nodes
  to = put_node at b (Some (File new links when))

  there : is_some (at b) ≡ true
  there = rw is refl

  abbrev index : ℕ → Option ℕ
  index = index_of new block

  not_mine : (c j k : ℕ) → c ≢ b → n.owner k ≡ Some (c, j) → index k ≡ None
  not_mine c j k f e = no_index s at n g b links before large old new block is has c j k f e

  -- what another node owns stays as it was
  owner_stays : (c j k : ℕ) → c ≢ b → n.owner k ≡ Some (c, j) → m.owner k ≡ n.owner k
  owner_stays c j k f e = ap (λ i. owner_after b i (n.owner k)) (not_mine c j k f e) ∙ ap (λ o. if is_owned_by b o then None else o) e ∙ ap (λ v. if v then None else Some (c, j)) (ne_eqb c b f) ∙ sym e

  use_stays : (c j k : ℕ) → c ≢ b → n.owner k ≡ Some (c, j) → t.use_of k ≡ s.use_of k
  use_stays c j k f e = after.uses k ∙ ap (λ i. if is_some i then Bytes else (if is_owned_by b (n.owner k) then Fresh else s.use_of k)) (not_mine c j k f e)
      ∙ ap (λ o. if is_owned_by b o then Fresh else s.use_of k) e ∙ ap (λ v. if v then Fresh else s.use_of k) (ne_eqb c b f)

  owned_here : (j : ℕ) → j < blocks_of (to b) → m.owner (m.block b j) ≡ Some (b, j)
  owned_here j = rw (put_same at b (Some (File new links when)), put_same n.block b block) (λ l. ap (λ i. owner_after b i (n.owner (block j))) (own_index s at n g b links before large old new block is has j l))

  owners_after : (k c j : ℕ) (i : Option ℕ) (o : Option (ℕ × ℕ)) → index k ≡ i → n.owner k ≡ o → owner_after b i o ≡ Some (c, j) → (m.block c j ≡ k) × (j < blocks_of (to c))
  owners_after k c j (Some i) o p q e =
      let x : ℕ × ℕ = (b, i) in let y : ℕ × ℕ = (c, j) in
      let h : Some x ≡ Some y = e in let same : x ≡ y = cc in
      let r = index_hit block (small_blocks_of (length new)) k i p in
      let w : (m.block b i ≡ k) × (i < blocks_of (to b)) = rw (put_same at b (Some (File new links when)), put_same n.block b block) r in
      subst (λ z. (m.block z.0 z.1 ≡ k) × (z.1 < blocks_of (to z.0))) same w
  owners_after k c j None None p q e = absurd (let y : ℕ × ℕ = (c, j) in let z : None ≡ Some y = e in cc)
  owners_after k c j None (Some o) p q e = by_test (λ v. v ≡ Some (c, j) → (m.block c j ≡ k) × (j < blocks_of (to c))) None (Some o) (nat_eq o.0 b)
      (λ u h. absurd (let y : ℕ × ℕ = (c, j) in let z : None ≡ Some y = h in cc))
      (λ u h. let y : ℕ × ℕ = (c, j) in let z : Some o ≡ Some y = h in let w : o ≡ y = cc in
      let f : c ≢ b = λ i. eqb-false o.0 b u (ap (λ v. v.0) w ∙ i) in
      rw (put_other at b (Some (File new links when)) c f, put_other n.block b block c f) (g.owners k c j (q ∙ h))) e

  uses_after : (k : ℕ) (i : Option ℕ) (o : Option (ℕ × ℕ)) → n.owner k ≡ o →
      (if is_some i then Bytes else (if is_owned_by b o then Fresh else s.use_of k)) ≡ use_for (if is_owned_by b o then false else n.was k) to (owner_after b i o)
  uses_after k (Some i) o e = ap use_by (sym (put_same at b (Some (File new links when))))
  uses_after k None None e = g.uses k ∙ ap (use_for (n.was k) at) e
  uses_after k None (Some o) e = split (nat_eq o.0 b) refl
    where
      split : (v : Bool) → nat_eq o.0 b ≡ v → (if v then Fresh else s.use_of k) ≡ use_for (if v then false else n.was k) to (if v then None else Some o)
      split true i = refl
      split false i = g.uses k ∙ ap (use_for (n.was k) at) e ∙ ap use_by (sym (put_other at b (Some (File new links when)) o.0 (eqb-false o.0 b i)))

  was_empty : (k : ℕ) (i o : Bool) → (if i then Bytes else (if o then Fresh else s.use_of k)) ≡ Empty → s.use_of k ≡ Empty
  was_empty k true o e = absurd (cc)
  was_empty k false true e = absurd (cc)
  was_empty k false false e = e

  -- the places of directories stay
  place_stays : (d q : ℕ) → d ≢ b → q < 56 * room_in (at d) → dir_place t m d q ≡ dir_place s n d q
  place_stays d q f l =
      let o : n.owner (n.block d (q / 56)) ≡ Some (d, q / 56) = g.owned d (q / 56) (block_room (at d) q l) in
      let u : t.use_of (n.block d (q / 56)) ≡ Entries = use_stays d (q / 56) (n.block d (q / 56)) f o ∙ dir_use s at n g d q l in
      ap (λ block. t.place (block (q / 56)) (q % 56)) (put_other n.block b block d f) ∙ after.places (n.block d (q / 56)) (q % 56) (below_56 q) (subst IsMetadata (sym u) tt)

  -- and so do large blocks of others
  large_not_mine : (c k : ℕ) → c ≢ b → n.large_owner k ≡ Some c → is_large_of new large k ≡ false
  large_not_mine c k f e = no_large s at n g b links before large old new block is has c k f e

  large_owner_stays : (c k : ℕ) → c ≢ b → n.large_owner k ≡ Some c → m.large_owner k ≡ n.large_owner k
  large_owner_stays c k f e = ap (λ v. if v then Some b else (if is_of b (n.large_owner k) then None else n.large_owner k)) (large_not_mine c k f e)
      ∙ ap (λ o. if is_of b o then None else o) e ∙ ap (λ v. if v then None else Some c) (ne_eqb c b f) ∙ sym e

  large_bit_stays : (c k : ℕ) → c ≢ b → n.large_owner k ≡ Some c → t.large_bit k ≡ s.large_bit k
  large_bit_stays c k f e = after.large_bits k ∙ ap (λ v. if v then true else (if is_of b (n.large_owner k) then false else s.large_bit k)) (large_not_mine c k f e)
      ∙ ap (λ o. if is_of b o then false else s.large_bit k) e ∙ ap (λ v. if v then false else s.large_bit k) (ne_eqb c b f)

  larges_here : has_large (to b) ≡ true → m.large_owner (m.large b) ≡ Some b
  larges_here = rw (put_same at b (Some (File new links when)), put_same n.large b large) (λ e. ap (λ v. if v then Some b else (if is_of b (n.large_owner large) then None else n.large_owner large)) (let h : is_large_of new large large ≡ true = rw (e, eq-eqb large large refl) refl in h))

  large_owners_after : (k c : ℕ) (v : Bool) (o : Option ℕ) → is_large_of new large k ≡ v → n.large_owner k ≡ o → (if v then Some b else (if is_of b o then None else o)) ≡ Some c → (m.large c ≡ k) × (has_large (to c) ≡ true)
  large_owners_after k c true o p q e =
      let same : b ≡ c = cc in
      let h : nat_lt 65536 (length new) ≡ true = grind (arith, nat_tests) in
      let i : k ≡ large = grind (arith, nat_tests) in
      let w : (m.large b ≡ k) × (has_large (to b) ≡ true) = rw (put_same at b (Some (File new links when)), put_same n.large b large) (sym i, h) in
      subst (λ z. (m.large z ≡ k) × (has_large (to z) ≡ true)) same w
  large_owners_after k c false None p q e = absurd (cc)
  large_owners_after k c false (Some o) p q e = by_test (λ v. v ≡ Some c → (m.large c ≡ k) × (has_large (to c) ≡ true)) None (Some o) (nat_eq o b)
      (λ u h. absurd (cc))
      (λ u h. let w : o ≡ c = cc in let f : c ≢ b = λ i. eqb-false o b u (w ∙ i) in
      rw (put_other at b (Some (File new links when)) c f, put_other n.large b large c f) (g.large_owners k c (q ∙ h))) e

  large_bits_after : (k : ℕ) (v : Bool) (o : Option ℕ) → n.large_owner k ≡ o → (if v then true else (if is_of b o then false else s.large_bit k)) ≡ is_some (if v then Some b else (if is_of b o then None else o))
  large_bits_after k true o e = refl
  large_bits_after k false None e = g.large_bits k ∙ ap is_some e
  large_bits_after k false (Some o) e = by_each (nat_eq o b)
    where
      by_each : (v : Bool) → (if v then false else s.large_bit k) ≡ is_some (if v then None else Some o)
      by_each true = refl
      by_each false = g.large_bits k ∙ ap is_some e

  byte_here : (j : ℕ) (c : Cell) → cell_in (to b) j ≡ Some c → Allows c (file_byte t m b j)
  byte_here j c = rw (put_same at b (Some (File new links when)), put_same n.block b block, put_same n.large b large) (λ e. after.allowed j c e)

  byte_there : (d j : ℕ) (c : Cell) → d ≢ b → cell_in (at d) j ≡ Some c → Allows c (file_byte t m d j)
  byte_there d j c f e = subst (Allows c) (sym (same_byte s t n m d j
      (λ l. let w = cell_block (at d) j c e l in
      let o : n.owner (n.block d (j / 4096)) ≡ Some (d, j / 4096) = g.owned d (j / 4096) w.0 in
      ap (λ block. t.byte (block (j / 4096)) (j % 4096)) (put_other n.block b block d f)
      ∙ after.bytes (n.block d (j / 4096)) (j % 4096) (below_4096 j) (use_stays d (j / 4096) (n.block d (j / 4096)) f o ∙ byte_use s at n g d j c e l) (not_mine d (j / 4096) (n.block d (j / 4096)) f o))
      (λ l. let z : j < 1114112 = cell_fits (at d) j c (fit d) e in let o : n.large_owner (n.large d) ≡ Some d = g.larges d (cell_large (at d) j c e l) in
      ap (λ k. t.large_byte k (j - 65536)) (put_other n.large b large d f)
      ∙ after.large_bytes (n.large d) (j - 65536) (omega arith) (large_bit_stays d (n.large d) f o ∙ large_use s at n g d j c e l) (large_not_mine d (n.large d) f o)))) (g.bytes d j c e)

  pub resized_pictured : Pictures t to m
  resized_pictured = record {
    inodes = λ i. after.inode i ∙ at_put (λ o. o ≡ inode_for m to (n.birth i)) s.inode (n.inode b) (Some (inode_of (n.stamp b) block large (File new links when))) i
        (λ e. let w : n.birth i ≡ Some b = ap n.birth e ∙ g.numbered b there in
        sym (ap (inode_for m to) w ∙ ap (inode_by m b) (put_same at b (Some (File new links when))) ∙ (λ v. Some (inode_of (n.stamp b) (put_same n.block b block v) (put_same n.large b large v) (File new links when)))))
        (λ e. g.inodes i ∙ sym (same_inode n m at to (n.birth i) (λ c q. let f : c ≢ b = λ j. e (sym (g.whose i c q).0 ∙ ap n.inode j) in
        (put_other at b (Some (File new links when)) c f, refl, put_other n.block b block c f, put_other n.large b large c f))));
    bits = λ i. after.bit i ∙ g.bits i;
    numbered = λ c e. grind (arith, nat_tests, g.numbered c, there);
    whose = λ i c e. grind (arith, nat_tests, g.whose i c);
    kinds = λ c y e. grind (arith, nat_tests, g.kinds c y, g.kinds b (File old links before), is);
    owned = each_but (λ c. (j : ℕ) → j < blocks_of (to c) → m.owner (m.block c j) ≡ Some (c, j)) b owned_here
        (λ c f j. rw (put_other at b (Some (File new links when)) c f, put_other n.block b block c f) (λ l. let o = g.owned c j l in owner_stays c j (n.block c j) f o ∙ o));
    owners = λ k c j e. owners_after k c j (index k) (n.owner k) refl refl e;
    uses = λ k. after.uses k ∙ uses_after k (index k) (n.owner k) refl;
    emptied = λ k p l e. after.places k p l (subst IsMetadata (sym e) tt) ∙ g.emptied k p l (was_empty k (is_some (index k)) (is_owned_by b (n.owner k)) (sym (after.uses k) ∙ e));
    larges = each_but (λ c. has_large (to c) ≡ true → m.large_owner (m.large c) ≡ Some c) b larges_here
        (λ c f. rw (put_other at b (Some (File new links when)) c f, put_other n.large b large c f) (λ e. let o = g.larges c e in large_owner_stays c (n.large c) f o ∙ o));
    large_owners = λ k c e. large_owners_after k c (is_large_of new large k) (n.large_owner k) refl refl e;
    large_bits = λ k. after.large_bits k ∙ large_bits_after k (is_large_of new large k) (n.large_owner k) refl;
    names = each_but (λ d. (c : ℕ) (w : List ℕ) → find_in (to d) w ≡ Some c → (n.spot d w < 56 * room_in (to d)) × (dir_place t m d (n.spot d w) ≡ Some (entry_of n w c))) b
        (λ c w. rw (put_same at b (Some (File new links when))) (λ e. absurd (cc)))
        (λ d f c w. rw (put_other at b (Some (File new links when)) d f) (λ e. let r = g.names d c w e in (r.0, place_stays d (n.spot d w) f r.0 ∙ r.1)));
    places = each_but (λ d. (q : ℕ) (e : StoredEntry) → q < 56 * room_in (to d) → dir_place t m d q ≡ Some e → (n.spot d e.name ≡ q) × (is_some (find_in (to d) e.name) ≡ true)) b
        (λ q e. rw (put_same at b (Some (File new links when))) (λ l h. absurd (omega arith)))
        (λ d f q e. rw (put_other at b (Some (File new links when)) d f) (λ l h. g.places d q e l (sym (place_stays d q f l) ∙ h)));
    bytes = each_but (λ d. (j : ℕ) (c : Cell) → cell_in (to d) j ≡ Some c → Allows c (file_byte t m d j)) b byte_here
        (λ d f j c. rw (put_other at b (Some (File new links when)) d f) (λ e. byte_there d j c f e));
  }

  owners_kept : (k c j : ℕ) → c ≢ b → (i : Option ℕ) → index k ≡ i → (owner_after b i (n.owner k) ≡ Some (c, j)) ↔ (n.owner k ≡ Some (c, j))
  owners_kept k c j f None p = others_own b c j f (n.owner k)
  owners_kept k c j f (Some i) p = (
    λ e. absurd (f (let x : ℕ × ℕ = (b, i) in let y : ℕ × ℕ = (c, j) in let h : Some x ≡ Some y = e in let w : x ≡ y = cc in sym (ap (λ z. z.0) w))),
    λ e. absurd (let z : Some i ≡ None = sym p ∙ not_mine c j k f e in cc),
  )

  large_owners_kept : (k c : ℕ) → c ≢ b → (v : Bool) → is_large_of new large k ≡ v → ((if v then Some b else (if is_of b (n.large_owner k) then None else n.large_owner k)) ≡ Some c) ↔ (n.large_owner k ≡ Some c)
  large_owners_kept k c f false p = others_have b c f (n.large_owner k)
  large_owners_kept k c f true p = (λ e. absurd (f (let w : b ≡ c = cc in sym w)), λ e. absurd (let z : true ≡ false = sym p ∙ large_not_mine c k f e in cc))

  pub resized_kept : KeepsOthers at b n m
  resized_kept = record {
    inode = λ c e. refl;
    kind = λ c e. refl;
    stamp = λ c e. refl;
    block = λ c f. put_other n.block b block c f;
    large = λ c f. put_other n.large b large c f;
    spot = λ c f. refl;
    birth = λ i c f. both;
    owner = λ k c j f. owners_kept k c j f (index k) refl;
    large_owner = λ k c f. large_owners_kept k c f (is_large_of new large k) refl;
  }

pub files_are_resized : FilesAreResized
files_are_resized s t at n b links before when old new block large g fit is has after = record {
  pictures = resized_pictured s t at n g b links before when large old new block is fit has after;
  others = resized_kept s t at n g b links before when large old new block is fit has after;
}

fewer_blocks : (x y : ℕ) → x ≤ y → small_blocks_of x ≤ small_blocks_of y
fewer_blocks x y l = omega arith

pub own_blocks_do : OwnBlocksDo
own_blocks_do s n b old new l =
    let fewer : small_blocks_of (length new) ≤ small_blocks_of (length old) = fewer_blocks (length new) (length old) l in
    record {
      kept = λ j h i. refl;
      fresh = λ j h i. absurd (omega arith);
      apart = λ i j h k p q e. absurd (omega arith);
      large_kept = λ h i. refl;
      large_free = λ h i. absurd (omega arith);
    }
