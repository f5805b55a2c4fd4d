-- The store after a write is that of the file with its new cells.
use Rattle.std.proofs.Common.{ℕ, ◌≡◌, ◌≢◌, ◌<◌, ◌≤◌, ◌+◌, ◌-◌, ◌*◌, ◌/◌, ◌%◌, ◌==◌, ◌&&◌, ◌||◌, ◌⊎◌, inl, inr, ⊎_elim, Bool, true, false, nat_lt, max, if◌then◌else◌, Option, Some, None, List, ◌++◌, length, map, slice_index, refl, sym, ◌∙◌, ap, ap₂, subst, arith, is_some, eq-eqb}
use Rattle.std.proofs.lemmas.Bool.{cases_lt, false_from_ne_true, le-ltb, lt-ltb, eqb-true}
use Rattle.std.proofs.lemmas.Bool.Decides.{nat_tests}
use Rattle.std.proofs.lemmas.Option.{slice_get_within}
use Rattle.std.specs.List.{slice_get}
use Rattle.frang_base.specs.declared.reply.Reply.TheVariants as reply
use Rattle.tree_definitions.specs.declared.cells.Cell.{Cell}
use Rattle.tree_definitions.specs.declared.cells.Cell.TheVariants as cell
use Rattle.tree_definitions.specs.declared.node.Node.TheVariants.{File}
use Rattle.tree_definitions.specs.Tree.{FileTree, node_at, with_node, small_blocks_of}
use Rattle.tree_definitions.specs.Apply.{says, overwritten}
use Rattle.tree_definitions.specs.WellFormed.{IsWellFormed}
use Rattle.disk_definitions.specs.Store.{Store, StoredNode, Use, byte_at, is_unused}
use Rattle.disk_definitions.specs.Store.Use.{Fresh, Bytes}
use Rattle.disk_definitions.specs.Naming.{Naming, inode_of, Allows}
use Rattle.disk_definitions.specs.Edits.{Edit, edited_all}
use Rattle.disk_definitions.specs.Edits.Edit.{SetUse, SetLarge}
use Rattle.disk_definitions.specs.Namings.{is_owned_by, is_of}
use Rattle.disk_definitions.specs.ChangeLaws.{FilesFit}
use Rattle.disk_definitions.specs.Resizing.{index_of, is_large_of, named_resized, HasBlocks, IsResized}
use Rattle.disk_definitions.proofs.Puts.{edited_append}
use Rattle.disk_definitions.proofs.Indices.{index_hit}
use Rattle.disk_definitions.specs.Ask.{Got, run}
use Rattle.disk_definitions.specs.Plans.{Hand, Plan}
use Rattle.disk_definitions.specs.Plans.Plan.{Finishes}
use Rattle.disk_definitions.specs.FilePlans.{Writing, end_of, sectors_met, large_after, resized, large_taken, large_segment, file_dated, written_by, writing_in}
use Rattle.disk_definitions.specs.Meets.{IsOfTree, IsHandOf}
use Rattle.plan_laws.specs.Keeping.{FinishKeeps, PlanKeeps}
use Rattle.plan_laws.proofs.Cases.{inode_by}
use Rattle.plan_laws.proofs.Totals.{in_range}
use Rattle.plan_laws.proofs.Bytes.{stored_byte}
use Rattle.plan_laws.proofs.Stored.{stored_is}
use Rattle.plan_laws.proofs.Among.{is_among, among_at, at_among, listed}
use Rattle.plan_laws.proofs.Setting.{IsSet, set_edits, all_set}
use Rattle.plan_laws.proofs.Sizing.{AreWithin, resized_tree}
use Rattle.plan_laws.proofs.Sized.{resized_is, mine, mine_used, mine_below, index_at, large_owned, large_used}
use Rattle.plan_laws.proofs.Taking.{ArePicked}
use Rattle.plan_laws.proofs.Overwriting.{size_is, before_is, within_is, behind_is}
use Rattle.plan_laws.proofs.Sectors.{sector_edits, run-writes, bytes_only, byte_other, large_other}
use Rattle.plan_laws.proofs.Written.{met_some, byte_new, byte_old}
use Rattle.plan_laws.proofs.FilesFine.{in_small}

-- the large block of a file that has its own, or gets one
abbrev pub large_by : ℕ → Option ℕ → ℕ
large_by own None = own
large_by own (Some g) = g

pub taken_is : (o : Option ℕ) → large_taken o ≡ map (λ g. SetLarge g true) (large_segment o)
taken_is None = refl
taken_is (Some g) = refl

-- the bits of large blocks after the write
large_set : (o : Option ℕ) (had needs : Bool) (k own : ℕ) (bit : Bool) → ((g : ℕ) → o ≡ Some g → (had ≡ false) × (needs ≡ true)) → (o ≡ None → had ≡ needs) → ((had && k == own) ≡ true → bit ≡ true) →
    (if is_among k (large_segment o) then true else bit) ≡ (if needs && k == large_by own o then true else (if had && k == own then false else bit))
large_set None had needs k own bit new old its = go had needs (old refl) (k == own) its
  where
    go : (had needs : Bool) → had ≡ needs → (e : Bool) → ((had && e) ≡ true → bit ≡ true) → bit ≡ (if needs && e then true else (if had && e then false else bit))
    go true true q true h = h refl
    go true true q false h = refl
    go false false q e h = refl
    go true false q e h = absurd (cc)
    go false true q e h = absurd (cc)
large_set (Some g) had needs k own bit new old its = go had needs (new g refl) (k == g)
  where
    go : (had needs : Bool) → (had ≡ false) × (needs ≡ true) → (e : Bool) → (if e || false then true else bit) ≡ (if needs && e then true else (if had && k == own then false else bit))
    go false true q true = refl
    go false true q false = refl
    go true needs q e = absurd (let z : true ≡ false = q.0 in cc)
    go false false q e = absurd (let z : false ≡ true = q.1 in cc)

module _ (h : Hand) (s : Store) (tree : FileTree) (n : Naming) (of : IsOfTree s tree n) (hand : IsHandOf h s tree.segments) (fit : FilesFit (node_at tree)) (touched : List ℕ) (b links since : ℕ) (old fresh : List Cell) (is : node_at tree b ≡ Some (File old links since))
    (w : Writing) (inside : w.off ≤ length old) (size : length fresh ≡ w.len) (cells : (i : ℕ) → i < w.len → slice_get fresh i ≡ Some (cell.Byte (w.byte (w.off + i)))) where
  abbrev x : StoredNode
  x = inode_by n b (File old links since)

  abbrev pub new : List Cell
  new = overwritten old w.off fresh

  abbrev had : ℕ
  had = small_blocks_of (length old)

  abbrev count : ℕ
  count = small_blocks_of (length new)

  pub new_size : length new ≡ max (length old) (end_of w)
  new_size = size_is old fresh w.off inside ∙ ap (λ k. max (length old) (w.off + k)) size

  longer : length old ≤ length new
  longer = let e : length new ≡ max (length old) (end_of w) = new_size in omega arith

  more_blocks : had ≤ count
  more_blocks = omega (arith, longer)

  -- a large block comes where the file needs one and has none
  abbrev pub TakesLarge : Option ℕ → Type 0
  TakesLarge None = 65536 < length new → 65536 < length old
  TakesLarge (Some g) = (length old ≤ 65536) × (65536 < length new) × (s.large_bit g ≡ false) × (g < tree.segments)

  module _ (picks : List ℕ) (o : Option ℕ) (picked : ArePicked h s tree n of hand picks (count - had)) (takes : TakesLarge o) where
    abbrev block : ℕ → ℕ
    block j = if nat_lt j had then n.block b j else slice_index picks (j - had)

    abbrev large : ℕ
    large = large_by (n.large b) o

    abbrev y : StoredNode
    y = inode_of (n.stamp b) block large (File new links w.when)

    own_block : (j : ℕ) → j < had → block j ≡ n.block b j
    own_block j l = rw (lt-ltb j had l) refl

    pick_block : (j : ℕ) → had ≤ j → block j ≡ slice_index picks (j - had)
    pick_block j l = rw (le-ltb j had l) refl

    own_large : (o : Option ℕ) → TakesLarge o → 65536 < length old → large_by (n.large b) o ≡ n.large b
    own_large None t l = refl
    own_large (Some g) t l = absurd (let z : length old ≤ 65536 = t.0 in omega arith)

    new_large : (o : Option ℕ) → TakesLarge o → length old ≤ 65536 → 65536 < length new → s.large_bit (large_by (n.large b) o) ≡ false
    new_large None t l m = absurd (let z : 65536 < length old = t m in omega arith)
    new_large (Some g) t l m = t.2

    pub has : HasBlocks s n b old new block large
    has = record {
      kept = λ j l m. own_block j l;
      fresh = λ j lo hi. ap s.use_of (pick_block j lo) ∙ picked.fresh_at (j - had) (omega arith);
      apart = λ i j li hi lj hj e. (let q : i - had ≡ j - had = picked.apart (i - had) (j - had) (omega arith) (omega arith) (sym (pick_block i li) ∙ e ∙ pick_block j lj) in omega arith);
      large_kept = λ l m. own_large o takes l;
      large_free = λ l m. new_large o takes l m;
    }

    -- ---- uses of small blocks
    among_picks : (k j : ℕ) → had ≤ j → j < count → block j ≡ k → is_among k picks ≡ true
    among_picks k j lo hi e =
        let z : 0 + (j - had) ≡ j - had = omega arith in
        let l : length picks ≡ count - had = picked.size in
        ap (is_among k) (listed picks) ∙ among_at (slice_index picks) k (length picks) 0 (j - had) (omega arith) (ap (slice_index picks) z ∙ sym (pick_block j lo) ∙ e)

    pick_at : (k : ℕ) → is_among k picks ≡ true → (j : ℕ) × (j < count) × (block j ≡ k)
    pick_at k e =
        let r = at_among (slice_index picks) k (length picks) 0 (sym (ap (is_among k) (listed picks)) ∙ e) in
        let l : r.0 < length picks = r.1 in
        let q : length picks ≡ count - had = picked.size in
        let z : had + r.0 - had ≡ 0 + r.0 = omega arith in
        (had + r.0, omega arith, pick_block (had + r.0) (omega arith) ∙ ap (slice_index picks) z ∙ r.2)

    abbrev Uses : Use → Bool → Option ℕ → Bool → Type 0
    Uses u p i v = (if p then Bytes else u) ≡ (if is_some i then Bytes else (if v then Fresh else u))

    uses_by : (k : ℕ) (p : Bool) (i : Option ℕ) (v : Bool) → is_among k picks ≡ p → index_of new block k ≡ i → is_owned_by b (n.owner k) ≡ v → Uses (s.use_of k) p i v → Uses (s.use_of k) (is_among k picks) (index_of new block k) (is_owned_by b (n.owner k))
    uses_by k p i v e f q u =
        subst (λ z. Uses (s.use_of k) z (index_of new block k) (is_owned_by b (n.owner k))) (sym e) (subst (λ z. Uses (s.use_of k) p z (is_owned_by b (n.owner k))) (sym f) (subst (λ z. Uses (s.use_of k) p i z) (sym q) u))

    no_index : (k j : ℕ) → j < count → block j ≡ k → index_of new block k ≡ None → ⊥
    no_index k j l e none = let z : Some j ≡ None = sym (index_at s (node_at tree) n of.pictures b links since large old new block is has k j l e) ∙ none in cc

    owned : (k : ℕ) (q : Option (ℕ × ℕ)) → n.owner k ≡ q → is_owned_by b q ≡ true → (j : ℕ) × (j < had) × (n.block b j ≡ k)
    owned k None e v = absurd (cc)
    owned k (Some (c, j)) e v = let r = mine_below s (node_at tree) n of.pictures b links since large old new block is has k j (e ∙ ap (λ z. Some (z, j)) (eqb-true c b v)) in (j, r.1, r.0)

    same_use : (u : Use) (p v : Bool) (j : ℕ) → u ≡ Bytes → Uses u p (Some j) v
    same_use u true v j e = refl
    same_use u false v j e = e

    pub uses_written : (k : ℕ) (i : Option ℕ) → index_of new block k ≡ i → Uses (s.use_of k) (is_among k picks) (index_of new block k) (is_owned_by b (n.owner k))
    uses_written k (Some j) e = ⊎_elim
        (λ l. uses_by k (is_among k picks) (Some j) (is_owned_by b (n.owner k)) refl e refl (same_use (s.use_of k) (is_among k picks) (is_owned_by b (n.owner k)) j
        (mine_used s (node_at tree) n of.pictures b links since large old new block is has k j (mine s (node_at tree) n of.pictures b links since large old new block is has k j l (sym (own_block j l) ∙ hit.0)))))
        (λ l. uses_by k true (Some j) (is_owned_by b (n.owner k)) (among_picks k j l hit.1 hit.0) e refl refl)
        (cases_lt j had)
      where
        hit : (block j ≡ k) × (j < count)
        hit = index_hit block count k j e
    uses_written k None e =
        let p : is_among k picks ≡ false = false_from_ne_true (is_among k picks) (λ a. (let r = pick_at k a in no_index k r.0 r.1 r.2 e)) in
        let v : is_owned_by b (n.owner k) ≡ false = false_from_ne_true (is_owned_by b (n.owner k)) (λ a. (let r = owned k (n.owner k) refl a in no_index k r.0 (omega (arith, more_blocks, r.1)) (own_block r.0 r.1 ∙ r.2) e)) in
        uses_by k false None false p e v refl

    -- ---- the store with the inode and blocks, and then with the bytes
    abbrev mid : Store
    mid = edited_all s (set_edits Bytes picks true (large_segment o) (n.inode b) y)

    abbrev pub bytes : List Edit
    bytes = sector_edits w x y s (w.off / 512) (sectors_met w.off w.len)

    abbrev pub t : Store
    t = edited_all mid bytes

    set : IsSet s mid Bytes picks true (large_segment o) (n.inode b) y
    set = all_set s Bytes picks true (large_segment o) (n.inode b) y

    fits : end_of w ≤ length new
    fits = let e : length new ≡ max (length old) (end_of w) = new_size in omega arith

    small_at : (j : ℕ) → j < count → y.small j ≡ block j
    small_at j l = rw (lt-ltb j count l) refl

    one : (i j : ℕ) → i < y.blocks → j < y.blocks → y.small i ≡ y.small j → i ≡ j
    one i j li lj e =
        let a : index_of new block (block j) ≡ Some i = index_at s (node_at tree) n of.pictures b links since large old new block is has (block j) i li (sym (small_at i li) ∙ e ∙ small_at j lj) in
        let c : index_of new block (block j) ≡ Some j = index_at s (node_at tree) n of.pictures b links since large old new block is has (block j) j lj refl in
        let z : Some i ≡ Some j = sym a ∙ c in cc

    reaches : (v : ℕ) → w.off / 512 ≤ v → v < w.off / 512 + sectors_met w.off w.len → 512 * v < length new
    reaches v lo hi = let r : 512 * v < w.off + w.len = (met_some w.off w.len v lo hi).1 in omega (arith, fits)

    -- ---- bytes
    same_before : (j : ℕ) → j < length old → stored_byte mid y j ≡ stored_byte s x j
    same_before j l =
        let a : stored_byte mid y j ≡ byte_at mid block large j = stored_is mid (n.stamp b) links w.when large block new j (omega (arith, longer)) in
        let c : byte_at mid block large j ≡ byte_at s block large j = ap₂ (λ f v. if nat_lt j 65536 then f (block (j / 4096)) (j % 4096) else v large (j - 65536)) set.byte set.large_byte in
        a ∙ c ∙ go (nat_lt j 65536) refl ∙ sym (stored_is s (n.stamp b) links since (n.large b) (n.block b) old j l)
      where
        go : (v : Bool) → nat_lt j 65536 ≡ v → (if v then s.byte (block (j / 4096)) (j % 4096) else s.large_byte large (j - 65536)) ≡ (if v then s.byte (n.block b (j / 4096)) (j % 4096) else s.large_byte (n.large b) (j - 65536))
        go true e = let m : j < 65536 = grind (arith, nat_tests) in ap (λ k. s.byte k (j % 4096)) (own_block (j / 4096) (omega arith))
        go false e = let m : 65536 ≤ j = grind (arith, nat_tests) in ap (λ k. s.large_byte k (j - 65536)) (own_large o takes (omega arith))

    old_allowed : (j : ℕ) (c : Cell) → slice_get old j ≡ Some c → (j < w.off) ⊎ (end_of w ≤ j) → Allows c (stored_byte t y j)
    old_allowed j c e out =
        let l : j < length old = slice_get_within old j c e in
        let q : stored_byte t y j ≡ stored_byte s x j = byte_old w x y s mid one (λ v. in_small v (length new)) fits j (omega (arith, longer)) l (same_before j l) out in
        subst (Allows c) (sym (q ∙ stored_is s (n.stamp b) links since (n.large b) (n.block b) old j l)) (of.pictures.bytes b j c (rw is e))

    new_allowed : (j : ℕ) (c : Cell) → slice_get new j ≡ Some c → w.off ≤ j → j < end_of w → Allows c (stored_byte t y j)
    new_allowed j c e lo hi =
        let z : w.off + (j - w.off) ≡ j = omega arith in
        let l : j - w.off < w.len = omega arith in
        let f : slice_get new (w.off + (j - w.off)) ≡ Some (cell.Byte (w.byte (w.off + (j - w.off)))) = within_is old fresh w.off inside (j - w.off) (subst (λ k. j - w.off < k) (sym size) l) ∙ cells (j - w.off) l in
        let g : Some (cell.Byte (w.byte j)) ≡ Some c = ap (λ k. Some (cell.Byte (w.byte k))) (sym z) ∙ sym f ∙ ap (slice_get new) z ∙ e in
        let i : cell.Byte (w.byte j) ≡ c = cc in
        subst (λ d. Allows d (stored_byte t y j)) i (byte_new w x y s mid one (λ v. in_small v (length new)) fits j lo hi)

    behind : (j : ℕ) → end_of w ≤ j → slice_get new j ≡ slice_get old j
    behind j l =
        let z : w.off + length fresh + (j - end_of w) ≡ j = omega (arith, size) in
        ap (slice_get new) (sym z) ∙ behind_is old fresh w.off inside (j - end_of w) ∙ ap (slice_get old) z

    allowed : (j : ℕ) (c : Cell) → slice_get new j ≡ Some c → Allows c (byte_at t block large j)
    allowed j c e =
        let l : j < length new = slice_get_within new j c e in
        subst (Allows c) (stored_is t (n.stamp b) links w.when large block new j l)
        (⊎_elim
        (λ a. old_allowed j c (sym (before_is old fresh w.off inside j a) ∙ e) (inl a))
        (λ a. ⊎_elim (λ d. new_allowed j c e a d) (λ d. old_allowed j c (sym (behind j d) ∙ e) (inr d)) (cases_lt j (end_of w)))
        (cases_lt j w.off))

    -- ---- all values
    needs_large : (q : Option ℕ) → TakesLarge q → q ≡ None → nat_lt 65536 (length old) ≡ nat_lt 65536 (length new)
    needs_large None t e = both (length old) (length new) longer t
      where
        both : (i j : ℕ) → i ≤ j → (65536 < j → 65536 < i) → nat_lt 65536 i ≡ nat_lt 65536 j
        both i j l f = ⊎_elim (λ a. le-ltb 65536 i (omega arith) ∙ sym (le-ltb 65536 j (omega arith))) (λ a. lt-ltb 65536 i (f a) ∙ sym (lt-ltb 65536 j a)) (below_or j)
          where
            below_or : (k : ℕ) → (k ≤ 65536) ⊎ (65536 < k)
            below_or k = grind arith
    needs_large (Some g) t e = absurd (cc)

    takes_large : (q : Option ℕ) → TakesLarge q → (g : ℕ) → q ≡ Some g → (nat_lt 65536 (length old) ≡ false) × (nat_lt 65536 (length new) ≡ true)
    takes_large None t g e = absurd (cc)
    takes_large (Some k) t g e = (le-ltb 65536 (length old) t.0, lt-ltb 65536 (length new) t.1)

    large_written : (k : ℕ) → (if is_among k (large_segment o) then true else s.large_bit k) ≡ (if is_large_of new large k then true else (if is_of b (n.large_owner k) then false else s.large_bit k))
    large_written k =
        large_set o (nat_lt 65536 (length old)) (nat_lt 65536 (length new)) k (n.large b) (s.large_bit k) (takes_large o takes) (needs_large o takes) (large_used s (node_at tree) n of.pictures b links since large old new block is has k)
        ∙ ap (λ v. if is_large_of new large k then true else (if v then false else s.large_bit k)) (sym (large_owned s (node_at tree) n of.pictures b links since large old new block is has k))

    pub after : IsResized s t n b new links w.when block large
    after =
        let only = bytes_only w x y s (sectors_met w.off w.len) (w.off / 512) mid in
        record {
          inode = λ j. ap (λ f. f j) only.inode ∙ set.inode j;
          bit = λ j. ap (λ f. f j) (only.bit ∙ set.bit);
          uses = λ k. ap (λ f. f k) only.use_of ∙ set.uses k ∙ uses_written k (index_of new block k) refl;
          large_bits = λ k. ap (λ f. f k) only.large_bit ∙ set.larges k ∙ large_written k;
          places = λ k p l i. ap (λ f. f k p) (only.place ∙ set.place);
          bytes = λ k j l u none. byte_other w x y s (sectors_met w.off w.len) (w.off / 512) mid k j
              (λ v lo hi low e. let a : v / 8 < count = in_small v (length new) (reaches v lo hi) low in no_index k (v / 8) a (sym (small_at (v / 8) a) ∙ e) none) ∙ ap (λ f. f k j) set.byte;
          large_bytes = λ k j l u none. large_other w x y s (sectors_met w.off w.len) (w.off / 512) mid k j (λ v lo hi high e. not_large k none (omega (arith, reaches v lo hi)) e) ∙ ap (λ f. f k j) set.large_byte;
          allowed = allowed;
        }
      where
        not_large : (k : ℕ) → is_large_of new large k ≡ false → 65536 < length new → y.large - 1 ≢ k
        not_large k none l e =
            let less : large + 1 - 1 ≡ large = omega arith in
            let q : nat_lt 65536 (length new) ≡ true = lt-ltb 65536 (length new) l in
            let i : (if nat_lt 65536 (length new) then large + 1 else 0) - 1 ≡ large = ap (λ v. (if v then large + 1 else 0) - 1) q ∙ less in
            let z : is_large_of new large k ≡ true = ap (λ v. v && k == large) q ∙ eq-eqb k large (sym e ∙ i) in cc

    large_within : (q : Option ℕ) → TakesLarge q → 65536 < length new → large_by (n.large b) q < tree.segments
    large_within None t l = of.larges (n.large b) (large_used s (node_at tree) n of.pictures b links since large old new block is has (n.large b) (rw (lt-ltb 65536 (length old) (t l), eq-eqb (n.large b) (n.large b) refl) refl))
    large_within (Some g) t l = t.3

    pub blocks_within : AreWithin tree.segments new block large
    blocks_within = record {
      smalls = λ j l. ⊎_elim
          (λ i. in_range s tree n of (block j) (ap is_unused (ap s.use_of (own_block j i) ∙ mine_used s (node_at tree) n of.pictures b links since large old new block is has (n.block b j) j (mine s (node_at tree) n of.pictures b links since large old new block is has (n.block b j) j i refl))))
          (λ i. subst (λ k. k < 1024 * tree.segments) (sym (pick_block j i)) (picked.within (j - had) (omega arith)))
          (cases_lt j had);
      larges = large_within o takes;
    }

    sized_large : (q : Option ℕ) → TakesLarge q → 65536 < length new → large_after x q (length new) ≡ large_by (n.large b) q + 1
    sized_large None t l = rw (lt-ltb 65536 (length new) l, lt-ltb 65536 (length old) (t l)) refl
    sized_large (Some g) t l = rw (lt-ltb 65536 (length new) l) refl

    y_is : resized x w.when (length new) picks o ≡ y
    y_is = resized_is (n.stamp b) links since w.when large (n.large b) block (n.block b) old new picks o (record { kept = λ j l m. own_block j m; picked = λ j l m. pick_block j m; large_is = sized_large o takes })

    finish : IsWellFormed (with_node tree b (File new links w.when)) → FinishKeeps s tree n (says (with_node tree b (File new links w.when)) reply.Ok) (written_by (n.inode b) y picks o touched bytes)
    finish well = record {
      meets = record {
        answer = refl;
        naming = named_resized n b new block large;
        tree = subst (λ z. IsOfTree z (with_node tree b (File new links w.when)) (named_resized n b new block large)) (sym edits)
            (resized_tree s t tree n of b links since w.when large old new block is has after blocks_within fit well);
      };
      inodes = λ c there stays. refl;
    }
      where
        edits : edited_all s (written_by (n.inode b) y picks o touched bytes).edits ≡ t
        edits = ap (λ l. edited_all s (map (λ k. SetUse k Bytes) picks ++ l ++ file_dated (n.inode b) y ++ bytes)) (taken_is o) ∙ edited_append s (set_edits Bytes picks true (large_segment o) (n.inode b) y) bytes

    pub writing_in_meets : IsWellFormed (with_node tree b (File new links w.when)) → PlanKeeps h s tree n (says (with_node tree b (File new links w.when)) reply.Ok) (run (writing_in w (n.inode b) touched x picks o) s)
    writing_in_meets well =
        let shape : resized x w.when (max (length old) (end_of w)) picks o ≡ y = ap (λ k. resized x w.when k picks o) (sym new_size) ∙ y_is in
        let plan : StoredNode → Plan = λ v. Finishes (written_by (n.inode b) v picks o touched (sector_edits w x v s (w.off / 512) (sectors_met w.off w.len))) in
        let e : run (writing_in w (n.inode b) touched x picks o) s ≡ plan y =
        run-writes w x (resized x w.when (max (length old) (end_of w)) picks o) s (w.off / 512) (sectors_met w.off w.len) (λ bytes. Got (Finishes (written_by (n.inode b) (resized x w.when (max (length old) (end_of w)) picks o) picks o touched bytes))) ∙ ap plan shape in
        subst (PlanKeeps h s tree n (says (with_node tree b (File new links w.when)) reply.Ok)) (sym e) (finish well)
