-- The edits of the plans of truncate, write and fill are sound, over the disk of a tree.
use Rattle.std.proofs.Common.{ℕ, zero, suc, ◌≡◌, ◌<◌, ◌≤◌, ◌+◌, ◌-◌, ◌/◌, ◌%◌, ◌==◌, ◌&&◌, not, ⊎_elim, Bool, true, false, nat_lt, nat_le, nat_eq, max, if◌then◌else◌, Option, Some, None, List, [], ◌∷◌, ◌++◌, length, map, slice_index, refl, sym, ◌∙◌, ap, subst, arith, append_assoc}
use Rattle.std.specs.Map.{keys_of}
use Rattle.std.proofs.lemmas.Bool.{cases_lt, and_parts, lt-ltb}
use Rattle.std.proofs.lemmas.Bool.Decides.{nat_tests}
use Rattle.frang_base.specs.declared.reply.Reply.TheVariants as reply
use Rattle.tree_definitions.specs.declared.node.Node.{Node}
use Rattle.tree_definitions.specs.declared.node.Node.TheVariants.{Dir, File, Link}
use Rattle.tree_definitions.specs.Tree.{FileTree, node_at, small_blocks_of}
use Rattle.disk_definitions.specs.Store.{Store, StoredNode, Use, is_unused}
use Rattle.disk_definitions.specs.Store.Use.{Fresh, Bytes}
use Rattle.disk_definitions.specs.Naming.{Naming, Nodes, Pictures, inode_of}
use Rattle.disk_definitions.specs.Edits.{Edit, edited_all}
use Rattle.disk_definitions.specs.Edits.Edit.{SetUse, SetLarge, SetBytes, SetLargeBytes}
use Rattle.disk_definitions.proofs.Free.{no_owner, no_large_owner}
use Rattle.disk_definitions.specs.Picks.{picked_many, picked_large}
use Rattle.disk_definitions.specs.Ask.{Got}
use Rattle.disk_definitions.specs.Plans.{Hand, refused, read_held}
use Rattle.disk_definitions.specs.Plans.Plan.{Finishes}
use Rattle.disk_definitions.specs.NamePlans.{finish_over}
use Rattle.disk_definitions.specs.FilePlans.{Writing, end_of, mixed, sectors_met, resized, large_taken, large_segment, file_dated, written_by, writing_in, directory_blocks, writing_picked, writing_small, writing_large, writing, blocks_between, large_cut, cut_segments, cut_by, cutting}
use Rattle.disk_definitions.specs.Meets.{IsOfTree, IsHandOf, is_directory_use, directory_blocks_in}
use Rattle.plan_laws.proofs.Asking.{run-segments}
use Rattle.plan_laws.proofs.Bytes.{values, values_below}
use Rattle.plan_laws.proofs.Among.{is_among, among_at, at_among, listed}
use Rattle.plan_laws.proofs.Setting.{set_edits}
use Rattle.plan_laws.proofs.Sectors.{old_sector, sector_edits, run-writes, bytes_only}
use Rattle.plan_laws.proofs.Taking.{ArePicked, none_picked, small_some, large_some}
use Rattle.plan_laws.proofs.Standing.{IsFileNode, DiskStands, node_of}
use Rattle.plan_laws.specs.Moves.{HasSmall, HasLarge}
use Rattle.disk_definitions.specs.Moves.{first_said, bit_said, use_said, large_said}
use Rattle.plan_laws.proofs.Joining.{AreSound, AreQuiet, then_quiet, quiet_sound}
use Rattle.plan_laws.proofs.OneNode.{MayChange, one_node}
use Rattle.plan_laws.proofs.Changes.{Changes, inode_changes, before_uses, before_larges}
use Rattle.plan_laws.proofs.Sound.{none_sound, one_of}
use Rattle.plan_laws.proofs.OnDisk.{one_small, one_large, nobodys, no_ones}
use Rattle.plan_laws.proofs.NamesSound.{IsSoundPlan, Ends, then_sound, none_ends}
use Rattle.plan_laws.proofs.Placing.{taken_is}

-- ---- a file's inode, with small blocks of one use and large blocks of one bit

sized_changes : (u : Use) (ks : List ℕ) (v : Bool) (gs : List ℕ) (i : ℕ) (y : StoredNode) → Changes (set_edits u ks v gs i y) i (Some y) [] false ks u gs v
sized_changes u ks v gs i y =
    subst (λ es. Changes es i (Some y) [] false ks u gs v) (sym (append_assoc (map (λ k. SetUse k u) ks) (map (λ g. SetLarge g v) gs) (file_dated i y)))
    (before_uses i (Some y) [] false u v ks gs (map (λ g. SetLarge g v) gs ++ file_dated i y) (before_larges i (Some y) [] false u v gs (file_dated i y) (inode_changes i (Some y) true u v)))

sized_sound : (s : Store) (u : Use) (ks : List ℕ) (v : Bool) (gs : List ℕ) (i : ℕ) (y : StoredNode) → MayChange s i (Some y) [] ks u gs v → AreSound s (edited_all s (set_edits u ks v gs i y)) (set_edits u ks v gs i y)
sized_sound s u ks v gs i y may = one_node s (edited_all s (set_edits u ks v gs i y)) (set_edits u ks v gs i y) i (Some y) [] false ks u gs v (sized_changes u ks v gs i y s) may

-- ---- bytes say nothing

sectors_quiet : (w : Writing) (x y : StoredNode) (s : Store) (t m : ℕ) → AreQuiet (sector_edits w x y s t m)
sectors_quiet w x y s t zero = record { bits = λ i. refl; uses = λ k. refl; larges = λ g. refl }
sectors_quiet w x y s t (suc m) =
    let r = sectors_quiet w x y s (t + 1) m in
    let bytes = mixed w t (old_sector w x y s t) in
    record { bits = λ i. bit (nat_lt t 128) bytes i (sector_edits w x y s (t + 1) m) (r.bits i); uses = λ k. state (nat_lt t 128) bytes k (sector_edits w x y s (t + 1) m) (r.uses k); larges = λ g. large (nat_lt t 128) bytes g (sector_edits w x y s (t + 1) m) (r.larges g) }
  where
    bit : (b : Bool) (bytes : ℕ → ℕ) (i : ℕ) (es : List Edit) → first_said (bit_said i) es ≡ None → first_said (bit_said i) ((if b then SetBytes (y.small (t / 8)) (t % 8) bytes else SetLargeBytes (y.large - 1) (t - 128) bytes) ∷ es) ≡ None
    bit true bytes i es e = e
    bit false bytes i es e = e

    state : (b : Bool) (bytes : ℕ → ℕ) (k : ℕ) (es : List Edit) → first_said (use_said k) es ≡ None → first_said (use_said k) ((if b then SetBytes (y.small (t / 8)) (t % 8) bytes else SetLargeBytes (y.large - 1) (t - 128) bytes) ∷ es) ≡ None
    state true bytes i es e = e
    state false bytes i es e = e

    large : (b : Bool) (bytes : ℕ → ℕ) (g : ℕ) (es : List Edit) → first_said (large_said g) es ≡ None → first_said (large_said g) ((if b then SetBytes (y.small (t / 8)) (t % 8) bytes else SetLargeBytes (y.large - 1) (t - 128) bytes) ∷ es) ≡ None
    large true bytes i es e = e
    large false bytes i es e = e

sectors_sound : (w : Writing) (x y : StoredNode) (s z : Store) (t m : ℕ) → AreSound z (edited_all z (sector_edits w x y s t m)) (sector_edits w x y s t m)
sectors_sound w x y s z t m =
    let r = bytes_only w x y s m t z in
    quiet_sound z (edited_all z (sector_edits w x y s t m)) (sector_edits w x y s t m)
    (record { inode = λ i. ap (λ f. f i) r.inode; bit = λ i. ap (λ f. f i) r.bit; use_of = λ k. ap (λ f. f k) r.use_of; large_bit = λ g. ap (λ f. f g) r.large_bit }) (sectors_quiet w x y s t m)

-- ---- the file

-- only a longer file has a large block
long_one : (s : Store) (at : Nodes) (n : Naming) (g : Pictures s at n) (i k : ℕ) (x : StoredNode) → s.inode i ≡ Some x → x.large ≡ k + 1 → 65536 < x.size
long_one s at n g i k x is e = let r = node_of s at n g i x is in by_node r.birth r.node r.inode
  where
    by_size : (size own : ℕ) (b : Bool) → nat_lt 65536 size ≡ b → (if b then own + 1 else 0) ≡ k + 1 → 65536 < size
    by_size size own true q l = grind (arith, nat_tests)
    by_size size own false q l = absurd (omega arith)

    by_node : (b : ℕ) (node : Node) → x ≡ inode_of (n.stamp b) (n.block b) (n.large b) node → 65536 < x.size
    by_node b (Dir entries blocks) q = absurd (let z : x.large ≡ 0 = ap (λ z. z.large) q in omega arith)
    by_node b (Link target links) q = absurd (let z : x.large ≡ 0 = ap (λ z. z.large) q in omega arith)
    by_node b (File cells links when) q = subst (λ m. 65536 < m) (sym (ap (λ z. z.size) q)) (by_size (length cells) (n.large b) (nat_lt 65536 (length cells)) refl (sym (ap (λ z. z.large) q) ∙ e))

module _ (h : Hand) (s : Store) (tree : FileTree) (n : Naming) (of : IsOfTree s tree n) (hand : IsHandOf h s tree.segments) (disk : DiskStands h s n) (i : ℕ) (x : StoredNode) (is : s.inode i ≡ Some x) (file : IsFileNode s x) (touched : List ℕ) where
  abbrev at : Nodes
  at = node_at tree

  abbrev g : Pictures s at n
  g = of.pictures

  it : (z : StoredNode) → s.inode i ≡ Some z → z ≡ x
  it z e = let q : Some z ≡ Some x = sym e ∙ is in cc

  long : (k : ℕ) → x.large ≡ k + 1 → 65536 < x.size
  long k e = long_one s at n g i k x is e

  own_small : (j k m : ℕ) → m < x.blocks → x.small m ≡ k → HasSmall s j k → j ≡ i
  own_small j k m l e a = one_small s at n g j i k a (record { node = x; is = is; index = m; inside = l; here = e })

  own_large : (j k : ℕ) → x.large ≡ k + 1 → HasLarge s j k → j ≡ i
  own_large j k e a = one_large s at n g j i k a (record { node = x; is = is; here = e })

  -- ---- truncate
  module _ (len when : ℕ) where
    abbrev cut : StoredNode
    cut = resized x when len [] None

    abbrev from : ℕ
    from = small_blocks_of len

    abbrev gone : List ℕ
    gone = blocks_between x from x.blocks

    gone_is : gone ≡ values (λ m. x.small (from + m)) 0 (x.blocks - from)
    gone_is = values_below (λ m. x.small (from + m)) (x.blocks - from)

    gone_has : (j : ℕ) → from ≤ j → j < x.blocks → is_among (x.small j) gone ≡ true
    gone_has j lo hi =
        let z : from + (0 + (j - from)) ≡ j = omega arith in
        ap (is_among (x.small j)) gone_is ∙ among_at (λ m. x.small (from + m)) (x.small j) (x.blocks - from) 0 (j - from) (omega arith) (ap x.small z)

    has_gone : (k : ℕ) → is_among k gone ≡ true → (m : ℕ) × (m < x.blocks) × (x.small m ≡ k)
    has_gone k e =
        let r = at_among (λ m. x.small (from + m)) k (x.blocks - from) 0 (ap (is_among k) (sym gone_is) ∙ e) in
        let l : r.0 < x.blocks - from = r.1 in
        (from + (0 + r.0), omega arith, r.2)

    below_cut : (j : ℕ) → j < x.blocks → is_among (x.small j) gone ≡ false → j < from
    below_cut j l f = ⊎_elim (λ lo. lo) (λ hi. absurd (let z : is_among (x.small j) gone ≡ true = gone_has j hi l in cc)) (cases_lt j from)

    cut_small : (j : ℕ) → j < x.blocks → j < from → cut.small j ≡ x.small j
    cut_small j l m = rw (lt-ltb j from m, lt-ltb j x.blocks l) refl

    kept_large : (k : ℕ) → x.large ≡ k + 1 → is_among k (large_cut x len) ≡ false → cut.large ≡ k + 1
    kept_large k e f = go (nat_le len 65536) refl
      where
        some : nat_eq x.large 0 ≡ false
        some = grind (arith, nat_tests)

        own : nat_eq k (x.large - 1) ≡ true
        own = grind (arith, nat_tests)

        go : (b : Bool) → nat_le len 65536 ≡ b → cut.large ≡ k + 1
        go true q = absurd (let z : is_among k (large_cut x len) ≡ true = rw (some, q) (rw own refl) in cc)
        go false q = let more : nat_lt 65536 len ≡ true = grind (arith, nat_tests) in rw more e

    cut_large : (k : ℕ) → is_among k (large_cut x len) ≡ true → x.large ≡ k + 1
    cut_large k = go (nat_eq x.large 0) refl (nat_le len 65536)
      where
        go : (a : Bool) → nat_eq x.large 0 ≡ a → (b : Bool) → is_among k (if not a && b then (x.large - 1) ∷ [] else []) ≡ true → x.large ≡ k + 1
        go true p b e = absurd (cc)
        go false p false e = absurd (cc)
        go false p true e = let q : k ≡ x.large - 1 = one_of k (x.large - 1) e in grind (arith, nat_tests)

    may_cut : MayChange s i (Some cut) [] gone Fresh (large_cut x len) false
    may_cut = record {
      own_bit = λ j e. absurd (cc);
      keeps = λ z j e l f.
          let same = it z e in
          let inside : j < x.blocks = subst (λ v. j < v.blocks) same l in
          let small : z.small j ≡ x.small j = ap (λ v. v.small j) same in
          let less : j < from = below_cut j inside (ap (λ k. is_among k gone) (sym small) ∙ f) in
          (cut, refl, j, less, cut_small j inside less ∙ sym small);
      gains = λ f k e. absurd (cc);
      own = λ j k e a. let r = has_gone k e in own_small j k r.0 r.1 r.2 a;
      keeps_large = λ z k e l f. (cut, refl, kept_large k (sym (ap (λ v. v.large) (it z e)) ∙ l) f);
      gains_large = λ f k e. absurd (cc);
      own_large = λ j k e a. own_large j k (cut_large k e) a;
      stay = λ k e d. let r = has_gone k e in absurd (let z : is_directory_use (s.use_of k) ≡ false = ap (λ c. is_directory_use (s.use_of c)) (sym r.2) ∙ file.uses r.0 r.1 in cc);
    }

    pub cutting_sound : Ends s (cutting when len i touched x)
    cutting_sound = go (nat_lt x.size len)
      where
        go : (b : Bool) → Ends s (if b then refused reply.BadOffset touched else finish_over (cut_segments x len) (cut_by when i touched x len))
        go true = none_sound s
        go false = subst (IsSoundPlan s) (sym (run-segments (cut_segments x len) (Got (Finishes (cut_by when i touched x len))) s)) (sized_sound s Fresh gone false (large_cut x len) i cut may_cut)

  -- ---- write and fill
  module _ (w : Writing) where
    abbrev size : ℕ
    size = max x.size (end_of w)

    abbrev more : ℕ
    more = small_blocks_of size - x.blocks

    -- a large block is taken where the file needs one and has none
    abbrev Takes : Option ℕ → Type 0
    Takes None = Unit {0}
    Takes (Some k) = (65536 < end_of w) × (x.large ≡ 0) × (n.large_owner k ≡ None)

    module _ (picks : List ℕ) (o : Option ℕ) (picked : ArePicked h s tree n of hand picks more) (takes : Takes o) where
      abbrev y : StoredNode
      y = resized x w.when size picks o

      place_of : (k : ℕ) → is_among k picks ≡ true → (m : ℕ) × (m < more) × (slice_index picks m ≡ k)
      place_of k e =
          let r = at_among (slice_index picks) k (length picks) 0 (ap (is_among k) (sym (listed picks)) ∙ e) in
          let l : 0 + r.0 < more = (let c : r.0 < length picks = r.1 in let d : length picks ≡ more = picked.size in omega arith) in
          (0 + r.0, l, r.2)

      was_fresh : (k : ℕ) → is_among k picks ≡ true → s.use_of k ≡ Fresh
      was_fresh k e = let r = place_of k e in ap s.use_of (sym r.2) ∙ picked.fresh_at r.0 r.1

      longer : x.blocks ≤ small_blocks_of size
      longer = let e : x.blocks ≡ small_blocks_of x.size = file.blocks in omega arith

      old_block : (j : ℕ) → j < x.blocks → y.small j ≡ x.small j
      old_block j l = rw (lt-ltb j (small_blocks_of size) (omega (arith, longer)), lt-ltb j x.blocks l) refl

      new_block : (m : ℕ) → m < more → y.small (x.blocks + m) ≡ slice_index picks m
      new_block m l =
          let past : nat_lt (x.blocks + m) x.blocks ≡ false = grind (arith, nat_tests) in
          let back : x.blocks + m - x.blocks ≡ m = omega arith in
          rw (lt-ltb (x.blocks + m) (small_blocks_of size) (omega arith), past) (ap (slice_index picks) back)

      old_large : (k : ℕ) → x.large ≡ k + 1 → y.large ≡ k + 1
      old_large k e = by_taken o takes
        where
          by_taken : (o : Option ℕ) → Takes o → (resized x w.when size picks o).large ≡ k + 1
          by_taken None t = let l : 65536 < x.size = long k e in rw (lt-ltb 65536 size (omega arith)) e
          by_taken (Some c) t = absurd (let z : x.large ≡ 0 = t.1 in omega arith)

      new_large : (k : ℕ) → is_among k (large_segment o) ≡ true → y.large ≡ k + 1
      new_large k = by_taken o takes
        where
          by_taken : (o : Option ℕ) → Takes o → is_among k (large_segment o) ≡ true → (resized x w.when size picks o).large ≡ k + 1
          by_taken None t e = absurd (cc)
          by_taken (Some c) t e = let l : 65536 < end_of w = t.0 in rw (lt-ltb 65536 size (omega arith)) (ap (λ z. z + 1) (sym (one_of k c e)))

      free_large : (j k : ℕ) → is_among k (large_segment o) ≡ true → HasLarge s j k → j ≡ i
      free_large j k = by_taken o takes
        where
          by_taken : (o : Option ℕ) → Takes o → is_among k (large_segment o) ≡ true → HasLarge s j k → j ≡ i
          by_taken None t e a = absurd (cc)
          by_taken (Some c) t e a = absurd (no_ones s at n g k (ap n.large_owner (one_of k c e) ∙ t.2) j a)

      may_write : MayChange s i (Some y) [] picks Bytes (large_segment o) true
      may_write = record {
        own_bit = λ j e. absurd (cc);
        keeps = λ z j e l f.
            let same = it z e in
            let inside : j < x.blocks = subst (λ v. j < v.blocks) same l in
            (y, refl, j, omega (arith, longer), old_block j inside ∙ sym (ap (λ v. v.small j) same));
        gains = λ f k e. let r = place_of k e in let l : r.0 < more = r.1 in (y, refl, x.blocks + r.0, omega arith, new_block r.0 l ∙ r.2);
        own = λ j k e a. absurd (nobodys s at n g k (no_owner s at n g k (ap is_unused (was_fresh k e))) j a);
        keeps_large = λ z k e l f. (y, refl, old_large k (sym (ap (λ v. v.large) (it z e)) ∙ l));
        gains_large = λ f k e. (y, refl, new_large k e);
        own_large = free_large;
        stay = λ k e d. absurd (let z : is_directory_use (s.use_of k) ≡ false = ap is_directory_use (was_fresh k e) in cc);
      }

      abbrev blocks : List Edit
      blocks = map (λ k. SetUse k Bytes) picks ++ large_taken o ++ file_dated i y

      blocks_sound : AreSound s (edited_all s blocks) blocks
      blocks_sound = subst (λ a. (let es = map (λ k. SetUse k Bytes) picks ++ a ++ file_dated i y in AreSound s (edited_all s es) es)) (sym (taken_is o)) (sized_sound s Bytes picks true (large_segment o) i y may_write)

      in_sound : Ends s (writing_in w i touched x picks o)
      in_sound =
          let t = w.off / 512 in
          let m = sectors_met w.off w.len in
          let bytes = sector_edits w x y s t m in
          subst (IsSoundPlan s) (sym (run-writes w x y s t m (λ bytes. Got (Finishes (written_by i y picks o touched bytes)))))
          (then_sound s blocks bytes blocks_sound (sectors_sound w x y s (edited_all s blocks) t m) (then_quiet blocks bytes (sectors_quiet w x y s t m)))

    module _ (o : Option ℕ) (takes : Takes o) where
      picked_sound : (p : Option (List ℕ)) → picked_many h.held more ≡ p → Ends s (writing_picked h w i touched x o p)
      picked_sound None e = none_ends h s at n g disk (reply.NoBlock (directory_blocks h.held)) touched
      picked_sound (Some picks) e = in_sound picks o (small_some h s tree n of hand (directory_blocks_in s tree.segments) more picks refl e).0 takes

      small_sound : Ends s (writing_small h w i touched x o)
      small_sound = go (nat_eq more 0) refl
        where
          go : (b : Bool) → nat_eq more 0 ≡ b → Ends s (if b then writing_in w i touched x [] o else read_held h (writing_picked h w i touched x o (picked_many h.held more)))
          go true e = let z : 0 ≡ more = grind (arith, nat_tests) in in_sound [] o (subst (ArePicked h s tree n of hand []) z (none_picked h s tree n of hand)) takes
          go false e = subst (IsSoundPlan s) (sym (run-segments (keys_of h.held) (writing_picked h w i touched x o (picked_many h.held more)) s)) (picked_sound (picked_many h.held more) refl)

    large_sound : (p : Option ℕ) → picked_large h.held ≡ p → 65536 < end_of w → x.large ≡ 0 → Ends s (writing_large h w i touched x p)
    large_sound None e l z = none_ends h s at n g disk reply.NoLarge touched
    large_sound (Some k) e l z = small_sound (Some k) (l, z, no_large_owner s at n g k (large_some h s tree n of hand k e).0)

    pub writing_sound : Ends s (writing h w i touched x)
    writing_sound = go (nat_lt x.size w.off) (nat_lt 1114112 (end_of w)) (nat_lt 65536 (end_of w) && x.large == 0) refl
      where
        go : (a b c : Bool) → (nat_lt 65536 (end_of w) && x.large == 0) ≡ c → Ends s (if a then refused reply.BadOffset touched else (if b then refused reply.TooBig touched
            else (if c then read_held h (writing_large h w i touched x (picked_large h.held)) else writing_small h w i touched x None)))
        go true b c e = none_sound s
        go false true c e = none_sound s
        go false false true e =
            let r = and_parts (nat_lt 65536 (end_of w)) (x.large == 0) e in
            let l : 65536 < end_of w = (let q : nat_lt 65536 (end_of w) ≡ true = r.0 in grind (arith, nat_tests)) in
            let z : x.large ≡ 0 = (let q : nat_eq x.large 0 ≡ true = r.1 in grind (arith, nat_tests)) in
            subst (IsSoundPlan s) (sym (run-segments (keys_of h.held) (writing_large h w i touched x (picked_large h.held)) s)) (large_sound (picked_large h.held) refl l z)
        go false false false e = small_sound None tt
