-- A directory gets an entry at a free place, or loses one.
use Rattle.std.proofs.Common.{ℕ, ◌+◌, ◌-◌, ◌*◌, ◌/◌, ◌%◌, ◌<◌, ◌≡◌, ◌≢◌, true, false, List, Some, None, refl, sym, ◌∙◌, ap, subst, arith, is_some, [], ◌∷◌, length}
use Rattle.std.proofs.lemmas.Bool.Decides.{nat_tests}
use Rattle.std.proofs.lemmas.Option.{same_Some}
use Rattle.std.proofs.lemmas.Bool.{lt-ltb}
use Rattle.tree_definitions.specs.declared.node.Node.{Node}
use Rattle.tree_definitions.specs.declared.node.Node.TheVariants.{Dir}
use Rattle.tree_definitions.specs.Entries.{Entries, entry_at}
use Rattle.frang_base.specs.Functions.{put}
use Rattle.frang_base.proofs.Basics.{at_put, put_same, put_other}
use Rattle.frang_base.proofs.Tests.{some_there}
use Rattle.tree_definitions.specs.WellFormed.{put as put_node}
use Rattle.tree_definitions.proofs.Births.{each_but}
use Rattle.disk_definitions.specs.Store.{Store, StoredNode, StoredEntry}
use Rattle.disk_definitions.specs.Store.Use.{Entries as OfEntries}
use Rattle.disk_definitions.specs.Naming.{Naming, Nodes, Pictures, find_in, room_in, inode_of, inode_by, inode_for, use_by, use_for, entry_of, dir_place}
use Rattle.disk_definitions.specs.Edits.{edited_all}
use Rattle.disk_definitions.specs.Edits.Edit.{SetInode, SetPlace}
use Rattle.disk_definitions.specs.Changes.{put_entry, take_entry}
use Rattle.disk_definitions.specs.Namings.{put_name, named_at, KeepsOthers}
use Rattle.disk_definitions.specs.ChangeLaws.{Leads, HasNameMore, HasNameLess, EntriesCome, EntriesGo}
use Rattle.disk_definitions.proofs.Puts.{put2_same, put2_other}
use Rattle.disk_definitions.proofs.Names.{at_name, name_same, name_other}
use Rattle.disk_definitions.proofs.Kept.{both, same_inode, same_use, inode_is, keeps_all}
use Rattle.disk_definitions.proofs.Rooms.{which_block, other_place, dir_use}

-- the inode of a node after a change
pub set_inode : (s : Store) (at : Nodes) (n : Naming) → Pictures s at n → (d : ℕ) (x : Node) → is_some (at d) ≡ true → (k : ℕ) → put s.inode (n.inode d) (Some (inode_of (n.stamp d) (n.block d) (n.large d) x)) k ≡ inode_for n (put_node at d (Some x)) (n.birth k)
set_inode s at n g d x there k =
    at_put (λ o. o ≡ inode_for n (put_node at d (Some x)) (n.birth k)) s.inode (n.inode d) (Some (inode_of (n.stamp d) (n.block d) (n.large d) x)) k
    (λ e. let w : n.birth k ≡ Some d = ap n.birth e ∙ g.numbered d there in sym (ap (inode_for n (put_node at d (Some x))) w ∙ ap (inode_by n d) (put_same at d (Some x))))
    (λ e. g.inodes k ∙ sym (same_inode n n at (put_node at d (Some x)) (n.birth k) (λ c q. (put_other at d (Some x) c (λ i. e (sym (g.whose k c q).0 ∙ ap n.inode i)), refl, refl, refl))))

-- the inode that stands on the disk
pub stored_is : (s : Store) (at : Nodes) (n : Naming) → Pictures s at n → (d : ℕ) (node : Node) (x : StoredNode) → at d ≡ Some node → s.inode (n.inode d) ≡ Some x → x ≡ inode_of (n.stamp d) (n.block d) (n.large d) node
stored_is s at n g d node x is e = same_Some x (inode_of (n.stamp d) (n.block d) (n.large d) node) (sym e ∙ inode_is s at n g d node is)

-- the edits by the naming
put_is : (i stamp large blocks q : ℕ) (block : ℕ → ℕ) (e : StoredEntry) (old new : Entries) → q < 56 * blocks → length new ≡ length old + 1 →
    put_entry i (inode_of stamp block large (Dir old blocks)) q e ≡ SetInode i (Some (inode_of stamp block large (Dir new blocks))) false ∷ SetPlace (block (q / 56)) (q % 56) (Some e) ∷ []
put_is i stamp large blocks q block e old new l one = rw (lt-ltb (q / 56) blocks (which_block q blocks l), one) refl

take_is : (i stamp large blocks q : ℕ) (block : ℕ → ℕ) (old new : Entries) → q < 56 * blocks → length old ≡ length new + 1 →
    take_entry i (inode_of stamp block large (Dir old blocks)) q ≡ SetInode i (Some (inode_of stamp block large (Dir new blocks))) false ∷ SetPlace (block (q / 56)) (q % 56) None ∷ []
take_is i stamp large blocks q block old new l one = let e : length old - 1 ≡ length new = omega arith in rw (lt-ltb (q / 56) blocks (which_block q blocks l), e) refl

module _ (s : Store) (at : Nodes) (n : Naming) (g : Pictures s at n) (d blocks : ℕ) (name : List ℕ) (old new : Entries) (is : at d ≡ Some (Dir old blocks)) where
  abbrev to : Nodes
  to = put_node at d (Some (Dir new blocks))

  there : is_some (at d) ≡ true
  there = rw is refl

  use_same : (k : ℕ) → s.use_of k ≡ use_for (n.was k) to (n.owner k)
  use_same k = g.uses k ∙ sym (same_use (n.was k) at to (n.owner k) (λ c j e. at_put (λ o. use_by o ≡ use_by (at c)) at d (Some (Dir new blocks)) c (λ i. rw (i, is) refl) (λ i. refl)))

  -- an entry more, at a free place
  module _ (b q : ℕ) (inside : q < 56 * blocks) (vacant : dir_place s n d q ≡ None) (more : HasNameMore old new name b) where
    abbrev m : Naming
    m = named_at n d name q

    abbrev t : Store
    t = edited_all s (SetInode (n.inode d) (Some (inode_of (n.stamp d) (n.block d) (n.large d) (Dir new blocks))) false ∷ SetPlace (n.block d (q / 56)) (q % 56) (Some (entry_of n name b)) ∷ [])

    room : q < 56 * room_in (at d)
    room = rw is inside

    here : dir_place t m d q ≡ Some (entry_of n name b)
    here = put2_same s.place (n.block d (q / 56)) (q % 56) (Some (entry_of n name b))

    away : (c p : ℕ) → p < 56 * room_in (at c) → (c ≡ d → p ≡ q → ⊥) → dir_place t m c p ≡ dir_place s n c p
    away c p l f = other_place s at n g (Some (entry_of n name b)) d q c p room l f

    names_here : (x : ℕ) (w : List ℕ) → find_in (to d) w ≡ Some x → (m.spot d w < 56 * room_in (to d)) × (dir_place t m d (m.spot d w) ≡ Some (entry_of m w x))
    names_here x w = rw (put_same at d (Some (Dir new blocks)), put_same n.spot d (put_name (n.spot d) name q))
        (at_name (λ p. entry_at new w ≡ Some x → (p < 56 * blocks) × (dir_place t m d p ≡ Some (entry_of m w x))) (n.spot d) name q w
        (λ i e. (inside, here ∙ ap Some (let r : Some b ≡ Some x = sym more.has ∙ subst (λ y. entry_at new y ≡ Some x) i e in let u : b ≡ x = cc in rw (i, u) refl)))
        (λ i e. let r = g.names d x w (rw is (sym (more.others w i) ∙ e)) in
        let l : n.spot d w < 56 * blocks = subst (λ y. n.spot d w < 56 * room_in y) is r.0 in
        (l, away d (n.spot d w) r.0 (λ a f. let z : dir_place s n d (n.spot d w) ≡ None = ap (dir_place s n d) f ∙ vacant in cc) ∙ r.1)))

    places_here : (p : ℕ) (e : StoredEntry) → p < 56 * room_in (to d) → dir_place t m d p ≡ Some e → (m.spot d e.name ≡ p) × (is_some (find_in (to d) e.name) ≡ true)
    places_here p e = rw (put_same at d (Some (Dir new blocks)), put_same n.spot d (put_name (n.spot d) name q))
        (each_but (λ p. p < 56 * blocks → dir_place t m d p ≡ Some e → (put_name (n.spot d) name q e.name ≡ p) × (is_some (entry_at new e.name) ≡ true)) q
        (λ l h. let i : entry_of n name b ≡ e = (let z : Some (entry_of n name b) ≡ Some e = sym here ∙ h in cc) in
        let k : name ≡ e.name = ap (λ y. y.name) i in
        rw (sym k) (name_same (n.spot d) name q, rw more.has refl))
        (λ c f l h. let r = g.places d c e (rw is l) (sym (away d c (rw is l) (λ a i. f i)) ∙ h) in
        let had : is_some (entry_at old e.name) ≡ true = subst (λ y. is_some (find_in y e.name) ≡ true) is r.1 in
        let k : e.name ≢ name = λ i. (let z : entry_at old e.name ≡ None = ap (entry_at old) i ∙ more.absent in let u : is_some (entry_at old e.name) ≡ false = ap is_some z in cc) in
        (name_other (n.spot d) name q e.name k ∙ r.0, ap is_some (more.others e.name k) ∙ had)) p)

    pub put_pictured : Pictures t to m
    put_pictured = record {
      inodes = set_inode s at n g d (Dir new blocks) there;
      bits = g.bits;
      numbered = λ c e. grind (arith, nat_tests, g.numbered c, there);
      whose = λ k c e. grind (arith, nat_tests, g.whose k c);
      kinds = λ c y e. grind (arith, nat_tests, g.kinds c y, g.kinds d (Dir old blocks), is);
      owned = λ c j l. grind (arith, nat_tests, g.owned c j, is);
      owners = λ k c j e. grind (arith, nat_tests, g.owners k c j, is);
      uses = use_same;
      emptied = λ k p l e. put2_other s.place (n.block d (q / 56)) (q % 56) (Some (entry_of n name b)) k p (λ i f. let u : s.use_of (n.block d (q / 56)) ≡ OfEntries = dir_use s at n g d q room in let v : s.use_of k ≡ OfEntries = ap s.use_of i ∙ u in cc) ∙ g.emptied k p l e;
      larges = λ c e. grind (arith, nat_tests, g.larges c, is);
      large_owners = λ k c e. grind (arith, nat_tests, g.large_owners k c, is);
      large_bits = g.large_bits;
      names = each_but (λ c. (x : ℕ) (w : List ℕ) → find_in (to c) w ≡ Some x → (m.spot c w < 56 * room_in (to c)) × (dir_place t m c (m.spot c w) ≡ Some (entry_of m w x))) d names_here
          (λ c f x w e. rw (put_other at d (Some (Dir new blocks)) c f, put_other n.spot d (put_name (n.spot d) name q) c f) (let r = g.names c x w (rw (sym (put_other at d (Some (Dir new blocks)) c f)) e) in (r.0, away c (n.spot c w) r.0 (λ i j. f i) ∙ r.1)));
      places = each_but (λ c. (p : ℕ) (e : StoredEntry) → p < 56 * room_in (to c) → dir_place t m c p ≡ Some e → (m.spot c e.name ≡ p) × (is_some (find_in (to c) e.name) ≡ true)) d places_here
          (λ c f p e. rw (put_other at d (Some (Dir new blocks)) c f, put_other n.spot d (put_name (n.spot d) name q) c f) (λ l h. g.places c p e l (sym (away c p l (λ i j. f i)) ∙ h)));
      bytes = λ c j v e. grind (arith, nat_tests, g.bytes c j v, is);
    }

    pub put_kept : KeepsOthers at d n m
    put_kept = record {
      inode = λ c e. refl;
      kind = λ c e. refl;
      stamp = λ c e. refl;
      block = λ c f. refl;
      large = λ c f. refl;
      spot = λ c f. put_other n.spot d (put_name (n.spot d) name q) c f;
      birth = λ i c f. both;
      owner = λ k c j f. both;
      large_owner = λ k c f. both;
    }

  -- an entry less
  module _ (b : ℕ) (had : entry_at old name ≡ Some b) (less : HasNameLess old new name) where
    abbrev r : ℕ
    r = n.spot d name

    abbrev u : Store
    u = edited_all s (SetInode (n.inode d) (Some (inode_of (n.stamp d) (n.block d) (n.large d) (Dir new blocks))) false ∷ SetPlace (n.block d (r / 56)) (r % 56) None ∷ [])

    stood : (r < 56 * room_in (at d)) × (dir_place s n d r ≡ Some (entry_of n name b))
    stood = g.names d b name (rw is had)

    vacated : dir_place u n d r ≡ None
    vacated = put2_same s.place (n.block d (r / 56)) (r % 56) None

    apart : (c p : ℕ) → p < 56 * room_in (at c) → (c ≡ d → p ≡ r → ⊥) → dir_place u n c p ≡ dir_place s n c p
    apart c p l f = other_place s at n g None d r c p stood.0 l f

    names_left : (x : ℕ) (w : List ℕ) → find_in (to d) w ≡ Some x → (n.spot d w < 56 * room_in (to d)) × (dir_place u n d (n.spot d w) ≡ Some (entry_of n w x))
    names_left x w = rw (put_same at d (Some (Dir new blocks)))
        (λ e. let k : w ≢ name = λ i. (let z : entry_at new w ≡ None = ap (entry_at new) i ∙ less.gone in cc) in
        let h = g.names d x w (rw is (sym (less.others w k) ∙ e)) in
        let l : n.spot d w < 56 * blocks = subst (λ y. n.spot d w < 56 * room_in y) is h.0 in
        (l, apart d (n.spot d w) h.0 (λ a f. k (let z : Some (entry_of n w x) ≡ Some (entry_of n name b) = sym h.1 ∙ ap (dir_place s n d) f ∙ stood.1 in let v : entry_of n w x ≡ entry_of n name b = cc in ap (λ y. y.name) v)) ∙ h.1))

    places_left : (p : ℕ) (e : StoredEntry) → p < 56 * room_in (to d) → dir_place u n d p ≡ Some e → (n.spot d e.name ≡ p) × (is_some (find_in (to d) e.name) ≡ true)
    places_left p e = rw (put_same at d (Some (Dir new blocks)))
        (each_but (λ p. p < 56 * blocks → dir_place u n d p ≡ Some e → (n.spot d e.name ≡ p) × (is_some (entry_at new e.name) ≡ true)) r
        (λ l h. absurd (let z : None ≡ Some e = sym vacated ∙ h in cc))
        (λ c f l h. let q = g.places d c e (rw is l) (sym (apart d c (rw is l) (λ a i. f i)) ∙ h) in
        let before : is_some (entry_at old e.name) ≡ true = subst (λ y. is_some (find_in y e.name) ≡ true) is q.1 in
        let k : e.name ≢ name = λ i. f (sym q.0 ∙ ap (n.spot d) i) in
        (q.0, ap is_some (less.others e.name k) ∙ before)) p)

    pub take_pictured : Pictures u to n
    take_pictured = record {
      inodes = set_inode s at n g d (Dir new blocks) there;
      bits = g.bits;
      numbered = λ c e. grind (arith, nat_tests, g.numbered c, there);
      whose = λ k c e. grind (arith, nat_tests, g.whose k c);
      kinds = λ c y e. grind (arith, nat_tests, g.kinds c y, g.kinds d (Dir old blocks), is);
      owned = λ c j l. grind (arith, nat_tests, g.owned c j, is);
      owners = λ k c j e. grind (arith, nat_tests, g.owners k c j, is);
      uses = use_same;
      emptied = λ k p l e. put2_other s.place (n.block d (r / 56)) (r % 56) None k p (λ i f. let v : s.use_of (n.block d (r / 56)) ≡ OfEntries = dir_use s at n g d r stood.0 in let z : s.use_of k ≡ OfEntries = ap s.use_of i ∙ v in cc) ∙ g.emptied k p l e;
      larges = λ c e. grind (arith, nat_tests, g.larges c, is);
      large_owners = λ k c e. grind (arith, nat_tests, g.large_owners k c, is);
      large_bits = g.large_bits;
      names = each_but (λ c. (x : ℕ) (w : List ℕ) → find_in (to c) w ≡ Some x → (n.spot c w < 56 * room_in (to c)) × (dir_place u n c (n.spot c w) ≡ Some (entry_of n w x))) d names_left
          (λ c f x w e. rw (put_other at d (Some (Dir new blocks)) c f) (let q = g.names c x w (rw (sym (put_other at d (Some (Dir new blocks)) c f)) e) in (q.0, apart c (n.spot c w) q.0 (λ i j. f i) ∙ q.1)));
      places = each_but (λ c. (p : ℕ) (e : StoredEntry) → p < 56 * room_in (to c) → dir_place u n c p ≡ Some e → (n.spot c e.name ≡ p) × (is_some (find_in (to c) e.name) ≡ true)) d places_left
          (λ c f p e. rw (put_other at d (Some (Dir new blocks)) c f) (λ l h. g.places c p e l (sym (apart c p l (λ i j. f i)) ∙ h)));
      bytes = λ c j v e. grind (arith, nat_tests, g.bytes c j v, is);
    }

pub entries_come : EntriesCome
entries_come s at n d blocks x old new name b q g dir more free =
    let l : put_entry (n.inode d) x q (entry_of n name b) ≡ SetInode (n.inode d) (Some (inode_of (n.stamp d) (n.block d) (n.large d) (Dir new blocks))) false ∷ SetPlace (n.block d (q / 56)) (q % 56) (Some (entry_of n name b)) ∷ [] =
    ap (λ x. put_entry (n.inode d) x q (entry_of n name b)) (stored_is s at n g d (Dir old blocks) x dir.is dir.inode) ∙ put_is (n.inode d) (n.stamp d) (n.large d) blocks q (n.block d) (entry_of n name b) old new free.inside more.one in
    subst (λ l. Leads s (edited_all s l) at n (named_at n d name q) d (Some (Dir new blocks))) (sym l)
    (record {
      pictures = put_pictured s at n g d blocks name old new dir.is b q free.inside free.vacant more;
      others = put_kept s at n g d blocks name old new dir.is b q free.inside free.vacant more;
    })

pub entries_go : EntriesGo
entries_go s at n d blocks x old new name g dir less =
    let b = some_there (entry_at old name) less.had in
    let inside : n.spot d name < 56 * blocks = subst (λ y. n.spot d name < 56 * room_in y) dir.is (g.names d b.0 name (rw dir.is b.1)).0 in
    let l : take_entry (n.inode d) x (n.spot d name) ≡ SetInode (n.inode d) (Some (inode_of (n.stamp d) (n.block d) (n.large d) (Dir new blocks))) false ∷ SetPlace (n.block d (n.spot d name / 56)) (n.spot d name % 56) None ∷ [] =
    ap (λ x. take_entry (n.inode d) x (n.spot d name)) (stored_is s at n g d (Dir old blocks) x dir.is dir.inode) ∙ take_is (n.inode d) (n.stamp d) (n.large d) blocks (n.spot d name) (n.block d) old new inside less.one in
    subst (λ l. Leads s (edited_all s l) at n n d (Some (Dir new blocks))) (sym l)
    (record {
      pictures = take_pictured s at n g d blocks name old new dir.is b.0 b.1 less;
      others = keeps_all at d n;
    })
