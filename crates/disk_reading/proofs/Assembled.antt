-- The tests together say that a disk is sound.
use Rattle.std.proofs.Common.{◌==◌, ◌≡◌, ℕ, ◌*◌, ◌/◌, ◌%◌, ◌<◌, ⊎_elim, Bool, true, false, not, ◌&&◌, ◌||◌, Option, Some, None, List, length, cond, refl, sym, ◌∙◌, ap, subst, MatchBool, Result, Ok, Err}
use Rattle.std.specs.Prelude.{IfOk}
use Rattle.std.specs.Option.{option_map}
use Rattle.std.specs.List.Sorted.{IsStrictlySortedBy}
use Rattle.std.specs.Map.{keys_of}
use Rattle.std.specs.Ordering.{nat_cmp}
use Rattle.std.specs.Cmp.Lexicographic.{slice_cmp}
use Rattle.std.proofs.lemmas.Bool.{and_parts, and_from, cases_lt, both_ways, cond-true}
use Rattle.tree_definitions.specs.declared.node.Node.{Node}
use Rattle.tree_definitions.specs.declared.node.Node.TheVariants.{Dir, File, Link}
use Rattle.tree_definitions.specs.Entries.{Entries, entry_at}
use Rattle.sector_bytes.specs.Sectors.{Sectors}
use Rattle.disk_definitions.specs.Store.{Store, StoredNode, store_of, is_unused}
use Rattle.disk_definitions.specs.Standing.{IsReached}
use Rattle.standing_laws.specs.Below.{all_below, lists, are_distinct}
use Rattle.standing_laws.specs.ReadTree.{place_at, entries_to, read_node, nodes_to}
use Rattle.standing_laws.specs.Soundness.{bit_agrees, block_at, use_agrees, is_cleared, is_marked, large_at, has_kind, entries_agree, directory_agrees, node_agrees, IsSound}
use Rattle.standing_laws.proofs.Bounded.{all_at}
use Rattle.standing_laws.proofs.Entered.{StandsAt, found_at, new_name, sorted_to}
use Rattle.standing_laws.proofs.NodesRead.{node_read}
use Rattle.standing_laws.proofs.Pictured.{IsInRange, cells_of}
use Rattle.standing_laws.proofs.RoomLaws.{small_below, large_below}
use Rattle.disk_reading.specs.Fits.{sectors_fit}
use Rattle.disk_reading.specs.Marks.{IsBelow}
use Rattle.disk_reading.specs.Names.{is_linked}
use Rattle.disk_reading.specs.Reach.{AreNamedBelow, NamesAscendIn, names_at, nodes_at}
use Rattle.disk_reading.specs.Tests.{marks_agree, owners_agree, IsSoundReading}
use Rattle.disk_reading.proofs.NamesFound.{value_named}
use Rattle.disk_reading.proofs.Tested.{fits_at, fits_from}

-- the parts of the tests
pub record Marks (most segments : ℕ) (s : Store) (sectors : Sectors) : Type 0 where
  pub fit : sectors_fit most segments s sectors ≡ true
  pub bits : all_below (64 * segments) (bit_agrees s) ≡ true
  pub uses : all_below (1024 * segments) (λ t. use_agrees s (s.inode (t / 16)) (t % 16)) ≡ true
  pub cleared : all_below (1024 * segments) (λ k. is_cleared s k (s.use_of k)) ≡ true
  pub marked : all_below (64 * segments) (λ i. is_marked s (large_at s i)) ≡ true
  pub rooted : has_kind (s.inode 0) 2 ≡ true

module _ (most segments : ℕ) (s : Store) (sectors : Sectors) where
  abbrev a : Bool
  a = sectors_fit most segments s sectors

  abbrev b : Bool
  b = all_below (64 * segments) (bit_agrees s)

  abbrev c : Bool
  c = all_below (1024 * segments) (λ t. use_agrees s (s.inode (t / 16)) (t % 16))

  abbrev d : Bool
  d = all_below (1024 * segments) (λ k. is_cleared s k (s.use_of k))

  abbrev e : Bool
  e = all_below (64 * segments) (λ i. is_marked s (large_at s i))

  pub marks_at : marks_agree most segments s sectors ≡ true → Marks most segments s sectors
  marks_at h =
      let p = and_parts (a && b && c && d && e) (has_kind (s.inode 0) 2) h in
      let q = and_parts (a && b && c && d) e p.0 in
      let r = and_parts (a && b && c) d q.0 in
      let t = and_parts (a && b) c r.0 in
      let u = and_parts a b t.0 in
      record { fit = u.0; bits = u.1; uses = t.1; cleared = r.1; marked = q.1; rooted = p.1 }

  pub marks_from : Marks most segments s sectors → marks_agree most segments s sectors ≡ true
  marks_from m = and_from (a && b && c && d && e) (has_kind (s.inode 0) 2) (and_from (a && b && c && d) e (and_from (a && b && c) d (and_from (a && b) c (and_from a b m.fit m.bits) m.uses) m.cleared) m.marked) m.rooted

-- ---- the nodes that are read, before anything is known of the tree
module _ (segments : ℕ) (s : Store) (range : IsInRange segments s) where
  abbrev at : ℕ → Option Node
  at = nodes_at (nodes_to s (64 * segments))

  -- a directory that is read
  dir_of : (x : StoredNode) (es : Entries) (k : ℕ) → read_node s x ≡ Dir es k → (x.kind == 2 ≡ true) × (es ≡ entries_to (place_at s x) (56 * x.blocks))
  dir_of x es k h = go (x.kind == 2) (x.kind == 1) h
    where
      go : (t u : Bool) → cond t (Dir (entries_to (place_at s x) (56 * x.blocks)) x.blocks) (cond u (File (cells_of s x) x.links x.when) (Link x.target x.links)) ≡ Dir es k → (t ≡ true) × (es ≡ entries_to (place_at s x) (56 * x.blocks))
      go true u h = (refl, (let q : entries_to (place_at s x) (56 * x.blocks) ≡ es = cc in sym q))
      go false true h = absurd (cc)
      go false false h = absurd (cc)

  read_dir_at : (b : ℕ) (es : Entries) (k : ℕ) → at b ≡ Some (Dir es k) → (x : StoredNode) × (s.inode b ≡ Some x) × (x.kind == 2 ≡ true) × (es ≡ entries_to (place_at s x) (56 * x.blocks))
  read_dir_at b es k h = go (s.inode b) refl
    where
      go : (o : Option StoredNode) → s.inode b ≡ o → (x : StoredNode) × (s.inode b ≡ Some x) × (x.kind == 2 ≡ true) × (es ≡ entries_to (place_at s x) (56 * x.blocks))
      go None e = absurd (let q : Some (Dir es k) ≡ None = sym h ∙ node_read s segments range.inodes b ∙ ap (option_map (read_node s)) e in cc)
      go (Some x) e =
          let q : Some (read_node s x) ≡ Some (Dir es k) = sym (node_read s segments range.inodes b ∙ ap (option_map (read_node s)) e) ∙ h in
          let r : read_node s x ≡ Dir es k = cc in
          let t = dir_of x es k r in
          (x, e, t.0, t.1)

  pub names_sorted : NamesAscendIn at
  names_sorted b es k h = let t = read_dir_at b es k h in subst (λ es. IsStrictlySortedBy (slice_cmp nat_cmp) (keys_of es)) (sym t.3) (sorted_to (place_at s t.0) (56 * t.0.blocks))

  used_below : (i k : ℕ) → has_kind (s.inode i) k ≡ true → i < 64 * segments
  used_below i k h = ⊎_elim (λ l. l) (λ l. absurd (both_ways (has_kind (s.inode i) k) (ap (λ o. has_kind o k) (range.inodes i l)) h)) (cases_lt i (64 * segments))

  pub named_below : all_below (64 * segments) (λ i. node_agrees s (s.inode i)) ≡ true → AreNamedBelow at (64 * segments)
  named_below nodes b v h = go (at b) refl h
    where
      go : (o : Option Node) → at b ≡ o → names_at o v ≡ true → v < 64 * segments
      go None e h = absurd (cc)
      go (Some (File cells links when)) e h = absurd (cc)
      go (Some (Link target links)) e h = absurd (cc)
      go (Some (Dir es k)) e h =
          let t = read_dir_at b es k e in
          let x = t.0 in
          let l : b < 64 * segments = ⊎_elim (λ l. l) (λ l. absurd (let z : None ≡ Some x = sym (range.inodes b l) ∙ t.1 in cc)) (cases_lt b (64 * segments)) in
          let n : node_agrees s (Some x) ≡ true = sym (ap (node_agrees s) t.1) ∙ all_at (64 * segments) (λ i. node_agrees s (s.inode i)) nodes b l in
          let g : directory_agrees s x ≡ true = sym (cond-true (x.kind == 2) (directory_agrees s x) (cond (x.kind == 3) (length x.target == x.size) true) t.2) ∙ n in
          let a : entries_agree s (place_at s x) (56 * x.blocks) ≡ true = (and_parts (entries_agree s (place_at s x) (56 * x.blocks)) (length (entries_to (place_at s x) (56 * x.blocks)) == x.size) g).0 in
          let m = value_named es v (names_sorted b es k e) h in
          let f : StandsAt (place_at s x) (56 * x.blocks) m.0 v = found_at (place_at s x) (56 * x.blocks) m.0 v (ap (λ es. entry_at es m.0) (sym t.3) ∙ m.1) in
          let w = (new_name s (place_at s x) (56 * x.blocks) a f.spot f.entry f.within f.is).1 in
          used_below v f.entry.kind (subst (λ i. has_kind (s.inode i) f.entry.kind ≡ true) f.inode w)

-- what is listed lies below
pub blocks_below : (segments : ℕ) (s : Store) → IsInRange segments s → all_below (1024 * segments) (λ t. use_agrees s (s.inode (t / 16)) (t % 16)) ≡ true → (t : ℕ) → t < 1024 * segments → IsBelow (1024 * segments) (block_at s t)
blocks_below segments s range uses t l = go (block_at s t) refl
  where
    go : (o : Option ℕ) → block_at s t ≡ o → IsBelow (1024 * segments) o
    go None e = tt
    go (Some k) e = small_below segments s range uses t k l e

pub larges_below : (segments : ℕ) (s : Store) → IsInRange segments s → all_below (64 * segments) (λ i. is_marked s (large_at s i)) ≡ true → (i : ℕ) → i < 64 * segments → IsBelow segments (large_at s i)
larges_below segments s range marked i l = go (large_at s i) refl
  where
    go : (o : Option ℕ) → large_at s i ≡ o → IsBelow segments o
    go None e = tt
    go (Some k) e = large_below segments s range marked i k l e

-- ---- soundness
module _ (most segments : ℕ) (sectors : Sectors) where
  abbrev s : Store
  s = store_of segments sectors

  pub sound_marks : IsSound most segments sectors → marks_agree most segments s sectors ≡ true
  sound_marks h = let c = h.consistent in marks_from most segments s sectors (record { fit = fits_from most segments sectors h.grammar h.versions; bits = c.bits; uses = c.uses; cleared = c.cleared; marked = c.large_marked; rooted = c.rooted })

  abbrev once : Bool
  once = are_distinct (block_at s) (1024 * segments)

  abbrev listed : Bool
  listed = all_below (1024 * segments) (λ k. lists (block_at s) (1024 * segments) k || is_unused (s.use_of k))

  abbrev large_once : Bool
  large_once = are_distinct (large_at s) (64 * segments)

  abbrev large_listed : Bool
  large_listed = all_below segments (λ g. lists (large_at s) (64 * segments) g || not (s.large_bit g))

  pub sound_owners : IsSound most segments sectors → owners_agree segments s ≡ true
  sound_owners h = let c = h.consistent in and_from (once && listed) (large_once && large_listed) (and_from once listed c.once c.listed) (and_from large_once large_listed c.large_once c.large_listed)

  pub sound_links : IsSound most segments sectors → all_below (64 * segments) (is_linked (nodes_to s (64 * segments))) ≡ true
  sound_links h = h.consistent.links

  pub sound_from : marks_agree most segments s sectors ≡ true → owners_agree segments s ≡ true → all_below (64 * segments) (λ i. node_agrees s (s.inode i)) ≡ true
      → all_below (64 * segments) (is_linked (nodes_to s (64 * segments))) ≡ true → IsReached (nodes_at (nodes_to s (64 * segments))) → IsSound most segments sectors
  sound_from m o n l r =
      let p = marks_at most segments s sectors m in
      let f = fits_at most segments sectors p.fit in
      let q = and_parts (once && listed) (large_once && large_listed) o in
      let u = and_parts once listed q.0 in
      let v = and_parts large_once large_listed q.1 in
      record {
        grammar = f.grammar;
        versions = f.versions;
        consistent = record { bits = p.bits; once = u.0; uses = p.uses; listed = u.1; cleared = p.cleared; large_once = v.0; large_marked = p.marked; large_listed = v.1; nodes = n; links = l; rooted = p.rooted; reached = r };
      }

  -- what is reached decides, once all else agrees
  pub sound_told : (nodes : List (ℕ × Node)) → nodes ≡ nodes_to s (64 * segments) → marks_agree most segments s sectors ≡ true → owners_agree segments s ≡ true → all_below (64 * segments) (λ i. node_agrees s (s.inode i)) ≡ true
      → all_below (64 * segments) (is_linked nodes) ≡ true → (t : Bool) → MatchBool t (IsReached (nodes_at nodes)) (IsReached (nodes_at nodes) → ⊥) → IsSoundReading most segments sectors nodes t
  sound_told nodes e m o n l true r = (sound_from m o n (ap (λ ns. all_below (64 * segments) (is_linked ns)) (sym e) ∙ l) (subst (λ ns. IsReached (nodes_at ns)) e r), e)
  sound_told nodes e m o n l false r = λ h. r (subst (λ ns. IsReached (nodes_at ns)) (sym e) h.consistent.reached)

pub if_ok_map : {E : Type 0} (r : Result Bool E) (P Q : Bool → Type 0) → ((b : Bool) → P b → Q b) → IfOk r P → IfOk r Q
if_ok_map (Ok b) P Q f h = f b h
if_ok_map (Err e) P Q f h = tt
