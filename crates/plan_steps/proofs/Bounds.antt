-- What is found of a directory is one of its places, and where a walk leads there is a directory.
use Rattle.std.proofs.Common.{◌≡◌, ◌==◌, ℕ, zero, suc, ◌+◌, ◌*◌, ◌/◌, ◌%◌, ◌<◌, ◌≤◌, Bool, true, false, cond, eqb-true, Option, Some, None, List, [], ◌∷◌, ◌++◌, refl, sym, ap, subst, ◌∙◌, arith}
use Rattle.frang_base.specs.declared.reply.Reply.TheVariants as reply
use Rattle.disk_definitions.specs.declared.inode.Inode.{Inode}
use Rattle.disk_definitions.specs.declared.region.Region.TheVariants as region
use Rattle.disk_definitions.specs.Regions.{sector_of}
use Rattle.disk_definitions.specs.Inodes.{inode_in}
use Rattle.sector_bytes.specs.SectorMaps.{value_at}
use Rattle.disk_definitions.specs.Store.{StoredNode, StoredEntry, stored_node, stored}
use Rattle.disk_definitions.specs.Held.{Segments}
use Rattle.disk_definitions.specs.Least.{least}
use Rattle.disk_definitions.proofs.LeastLaws.{least_some}
use Rattle.disk_definitions.specs.Ask.{Ask, Got, ReadInode, DirectoryAt, InodeAt, meet, or_needs}
use Rattle.disk_definitions.specs.Walks.{Found, Spot, AtRoot, AtName, AtGap, Lost, Walked, hit, is_named, look_up, in_inode, onward, or_on, search, spot_by, walk_from}
use Rattle.disk_definitions.specs.Written.{Cached, at_hand, directory_at_hand, inode_at_hand}
use Rattle.dir_lookup.specs.Reading.{Read, Lacks, Gives, numbered, reading, then_read}
use Rattle.dir_lookup.proofs.Decoded.{free_node, used_node}
use Rattle.dir_lookup.proofs.Readings.{reading_bind}

-- ---- places
module _ (small : ℕ → ℕ) (test : Option StoredEntry → Bool) (cached : Cached) (held : Segments) (found : Found) where
  -- the sector of which the place is, or a later one
  at_least : (j n : ℕ) (f : ℕ → Option StoredEntry) (o : Option ℕ) → least (λ r. test (f r)) 7 ≡ o → (reading (search small test (j + 1) n) cached held ≡ Gives (Some found) → found.0 < 7 * (j + 1 + n))
      → reading (or_on (hit test j f o) (search small test (j + 1) n)) cached held ≡ Gives (Some found) → found.0 < 7 * (j + suc n)
  at_least j n f (Some r) l ih e =
      let b : r < 7 = (least_some (λ r. test (f r)) 7 r l).1 in
      let place : Found = (7 * j + r, f r) in
      let h : place ≡ found = cc in
      let p : 7 * j + r ≡ found.0 = ap (λ (x : Found). x.0) h in
      omega arith
  at_least j n f None l ih e = let b : found.0 < 7 * (j + 1 + n) = ih e in omega arith

  at_part : (j n : ℕ) (o : Option (ℕ → Option StoredEntry)) → (reading (search small test (j + 1) n) cached held ≡ Gives (Some found) → found.0 < 7 * (j + 1 + n))
      → numbered (or_needs (DirectoryAt (small (j / 8)) (j % 8)) o (λ f. meet (or_on (hit test j f (least (λ r. test (f r)) 7)) (search small test (j + 1) n)) (at_hand cached held))) ≡ Gives (Some found)
      → found.0 < 7 * (j + suc n)
  at_part j n None ih e = absurd (cc)
  at_part j n (Some f) ih e = at_least j n f (least (λ r. test (f r)) 7) refl ih e

  pub place_inside : (n j : ℕ) → reading (search small test j n) cached held ≡ Gives (Some found) → found.0 < 7 * (j + n)
  place_inside zero j e = absurd (cc)
  place_inside (suc n) j e = at_part j n (directory_at_hand cached (small (j / 8)) (j % 8)) (place_inside n (j + 1)) e

-- ---- inodes
-- the bounds of an inode
pub record IsSmall (x : StoredNode) : Type 0 where
  pub blocks : x.blocks ≤ 16
  pub size : x.size ≤ 1114112

of_inode : (block : List ℕ) (y : StoredNode) (o : Option Inode) → inode_in block ≡ o → stored_node o ≡ Some y → IsSmall y
of_inode block y None i e = absurd (cc)
of_inode block y (Some x) i e = go (x.kind == 0) refl
  where
    go : (b : Bool) → (x.kind == 0) ≡ b → IsSmall y
    go true k = let n : None ≡ stored_node (Some x) = free_node block x i (eqb-true x.kind 0 k) ∙ ap stored_node i in absurd (cc)
    go false k =
        let u = used_node block x i (λ z. let t : (x.kind == 0) ≡ true = subst (λ n. (n == 0) ≡ true) (sym z) refl in let f : true ≡ false = sym t ∙ k in absurd (cc)) in
        let n : Some (stored x) ≡ Some y = u.0 ∙ ap stored_node i ∙ e in
        let h : stored x ≡ y = cc in
        subst IsSmall h (record { blocks = u.1.blocks; size = u.1.size })

pub small_inode : (cached : Cached) (i : ℕ) (y : StoredNode) → inode_at_hand cached i ≡ Some (Some y) → IsSmall y
small_inode cached i y e = go (value_at cached (sector_of (region.Inode i))) refl
  where
    go : (o : Option (List ℕ)) → value_at cached (sector_of (region.Inode i)) ≡ o → IsSmall y
    go None v = let n : inode_at_hand cached i ≡ None = rw v refl in absurd (cc)
    go (Some block) v =
        let n : inode_at_hand cached i ≡ Some (stored_node (inode_in block)) = rw v refl in
        let h : Some (stored_node (inode_in block)) ≡ Some (Some y) = sym n ∙ e in
        let k : stored_node (inode_in block) ≡ Some y = cc in
        of_inode block y (inode_in block) refl k

-- ---- spots
-- an inode of a directory
pub record IsDir (x : StoredNode) : Type 0 where
  pub kind : x.kind ≡ 2
  pub small : IsSmall x

abbrev pub Stands : Spot → Type 0
Stands AtRoot = Unit {0}
Stands (AtName i x name q e) = IsDir x × (q < 56 * x.blocks)
Stands (AtGap i x name) = IsDir x
Stands (Lost r) = Unit {0}

module _ (cached : Cached) (held : Segments) (w : Walked) where
  at_spot : (s : Spot) (dirs : List ℕ) → Gives (record { spot = s; dirs = dirs }) ≡ Gives w → Stands s → Stands w.spot
  at_spot s dirs e t =
      let v : Walked = record { spot = s; dirs = dirs } in
      let h : v ≡ w = cc in
      subst (λ (w : Walked). Stands w.spot) h t

  by_place : (dirs : List ℕ) (i : ℕ) (x : StoredNode) (name : List ℕ) (r : Read (Option Found)) → IsDir x → reading (search x.small (is_named name) 0 (8 * x.blocks)) cached held ≡ r
      → then_read r (λ found. Gives (record { spot = spot_by i x name found; dirs = dirs ++ i ∷ [] })) ≡ Gives w → Stands w.spot
  by_place dirs i x name (Lacks n) d s e = absurd (cc)
  by_place dirs i x name (Gives None) d s e = at_spot (AtGap i x name) (dirs ++ i ∷ []) e d
  by_place dirs i x name (Gives (Some (q, None))) d s e = at_spot (AtGap i x name) (dirs ++ i ∷ []) e d
  by_place dirs i x name (Gives (Some (q, Some o))) d s e =
      let found : Found = (q, Some o) in
      let b : q < 7 * (0 + 8 * x.blocks) = place_inside x.small (is_named name) cached held found (8 * x.blocks) 0 s in
      let c : q < 56 * x.blocks = omega arith in
      at_spot (AtName i x name q o) (dirs ++ i ∷ []) e (d, c)

  looked : (dirs : List ℕ) (i : ℕ) (x : StoredNode) (name : List ℕ) → IsDir x → reading (look_up dirs i x name) cached held ≡ Gives w → Stands w.spot
  looked dirs i x name d e =
      by_place dirs i x name (reading (search x.small (is_named name) 0 (8 * x.blocks)) cached held) d refl
      (sym (reading_bind (search x.small (is_named name) 0 (8 * x.blocks)) (λ found. Got (record { spot = spot_by i x name found; dirs = dirs ++ i ∷ [] })) cached held) ∙ e)

  in_node : (dirs : List ℕ) (i : ℕ) (name : List ℕ) (o : Option StoredNode) → inode_at_hand cached i ≡ Some o → reading (in_inode dirs i name o) cached held ≡ Gives w → Stands w.spot
  in_node dirs i name None a e = at_spot (Lost reply.NoEnt) dirs e tt
  in_node dirs i name (Some x) a e = by_kind (x.kind == 2) refl e
    where
      by_kind : (b : Bool) → (x.kind == 2) ≡ b → reading (cond b (look_up dirs i x name) (Got (record { spot = Lost reply.NotDir; dirs = dirs }))) cached held ≡ Gives w → Stands w.spot
      by_kind true k e = looked dirs i x name (record { kind = eqb-true x.kind 2 k; small = small_inode cached i x a }) e
      by_kind false k e = at_spot (Lost reply.NotDir) dirs e tt

  at_node : (dirs : List ℕ) (i : ℕ) (name : List ℕ) (o : Option (Option StoredNode)) → inode_at_hand cached i ≡ o
      → numbered (or_needs (InodeAt i) o (λ x. meet (in_inode dirs i name x) (at_hand cached held))) ≡ Gives w → Stands w.spot
  at_node dirs i name None a e = absurd (cc)
  at_node dirs i name (Some o) a e = in_node dirs i name o a e

  one_name : (dirs : List ℕ) (i : ℕ) (name : List ℕ) → reading (ReadInode i (in_inode dirs i name)) cached held ≡ Gives w → Stands w.spot
  one_name dirs i name e = at_node dirs i name (inode_at_hand cached i) refl e

  -- on from a name on the way
  on_from : (next : List ℕ → ℕ → Ask Walked) (dirs : List ℕ) (s : Spot) → ((dirs : List ℕ) (i : ℕ) → reading (next dirs i) cached held ≡ Gives w → Stands w.spot)
      → reading (onward next dirs s) cached held ≡ Gives w → Stands w.spot
  on_from next dirs AtRoot ih e = ih dirs 0 e
  on_from next dirs (AtName i x name q o) ih e = by_kind (o.kind == 2) e
    where
      by_kind : (b : Bool) → reading (cond b (next dirs o.inode) (Got (record { spot = Lost reply.NotDir; dirs = dirs }))) cached held ≡ Gives w → Stands w.spot
      by_kind true e = ih dirs o.inode e
      by_kind false e = at_spot (Lost reply.NotDir) dirs e tt
  on_from next dirs (AtGap i x name) ih e = at_spot (Lost reply.NoEnt) dirs e tt
  on_from next dirs (Lost r) ih e = at_spot (Lost r) dirs e tt

  on_read : (next : List ℕ → ℕ → Ask Walked) (r : Read Walked) → ((dirs : List ℕ) (i : ℕ) → reading (next dirs i) cached held ≡ Gives w → Stands w.spot)
      → then_read r (λ v. reading (onward next v.dirs v.spot) cached held) ≡ Gives w → Stands w.spot
  on_read next (Lacks n) ih e = absurd (cc)
  on_read next (Gives v) ih e = on_from next v.dirs v.spot ih e

  pub walk_stands : (names : List (List ℕ)) (dirs : List ℕ) (i : ℕ) → reading (walk_from dirs i names) cached held ≡ Gives w → Stands w.spot
  walk_stands [] dirs i e = at_spot AtRoot dirs e tt
  walk_stands (name ∷ []) dirs i e = one_name dirs i name e
  walk_stands (name ∷ next ∷ names) dirs i e =
      on_read (λ more j. walk_from more j (next ∷ names)) (reading (ReadInode i (in_inode dirs i name)) cached held) (walk_stands (next ∷ names))
      (sym (reading_bind (ReadInode i (in_inode dirs i name)) (λ v. onward (λ more j. walk_from more j (next ∷ names)) v.dirs v.spot) cached held) ∙ e)
