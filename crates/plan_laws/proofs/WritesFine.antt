-- The locks of the plans of write and fill cover the sectors that these look at and edit, and their bytes keep off directories.
use Rattle.std.proofs.Common.{ℕ, ◌≡◌, ◌≢◌, ◌<◌, ◌≤◌, ◌+◌, ◌-◌, ◌*◌, ◌/◌, ◌%◌, ◌==◌, ◌&&◌, Bool, true, false, nat_lt, max, if◌then◌else◌, Option, Some, None, List, [], ◌∷◌, ◌++◌, length, map, slice_index, refl, sym, subst, arith}
use Rattle.std.proofs.lemmas.Bool.Decides.{nat_tests}
use Rattle.std.proofs.lemmas.List.Elements.{Contains-append_left, Contains-append_right}
use Rattle.std.specs.List.{Contains}
use Rattle.std.proofs.lemmas.Bool.{lt-ltb}
use Rattle.frang_base.specs.declared.lock.LockId.TheVariants as lock
use Rattle.frang_base.specs.declared.reply.Reply.TheVariants as reply
use Rattle.tree_definitions.specs.Tree.{small_blocks_of}
use Rattle.disk_definitions.specs.Store.{Store, StoredNode}
use Rattle.disk_definitions.specs.Store.Use.{Bytes}
use Rattle.disk_definitions.specs.Naming.{Naming}
use Rattle.disk_definitions.specs.Edits.{Edit}
use Rattle.disk_definitions.specs.Edits.Edit.{SetUse, SetBytes, SetLargeBytes}
use Rattle.disk_definitions.specs.Picks.{picked_many, picked_large}
use Rattle.disk_definitions.proofs.ManyLaws.{picks_the_least}
use Rattle.disk_definitions.specs.Ask.{Ask, Got}
use Rattle.disk_definitions.specs.Plans.{Hand, Lock, Plan, refused, read_held, shared_nodes, sole_nodes, sole_segments}
use Rattle.disk_definitions.specs.Plans.Plan.{Finishes}
use Rattle.disk_definitions.specs.FilePlans.{Writing, end_of, set_sector, sectors_met, directory_blocks, resized, large_taken, large_segment, file_dated, written_by, writing_in, writing_picked, writing_small, writing_large, writing}
use Rattle.disk_definitions.specs.Meets.{is_directory_use}
use Rattle.plan_laws.specs.Locks.{IsSole}
use Rattle.plan_laws.proofs.Covering.{has_head, map_has, node_sole, segment_sole}
use Rattle.disk_definitions.specs.Covers.{small_cover, large_cover}
use Rattle.plan_laws.proofs.Standing.{IsFileNode, DiskStands}
use Rattle.plan_laws.proofs.Fine.{first_held, EditFits, EditsFit, join, Fine, FinishFits, past_held, refuse_fine, none_fine, done}
use Rattle.plan_laws.proofs.FilesFine.{index_in, in_small, met_before, file_fits, taken_fits, states_fit, writes_fine}

module _ (h : Hand) (s : Store) (n : Naming) (disk : DiskStands h s n) (touched : List ℕ) (i : ℕ) (x : StoredNode) (is : s.inode i ≡ Some x) (held : Contains touched i) (file : IsFileNode s x) (w : Writing) where
  abbrev Ends : Ask Plan → Type 0
  Ends p = Fine h s n touched p

  abbrev size : ℕ
  size = max x.size (end_of w)

  -- the small blocks that were picked are free, and as many as the file lacks
  pub record ArePicks (picks : List ℕ) : Type 0 where
    pub enough : small_blocks_of size ≤ x.blocks + length picks
    pub free : (k : ℕ) → Contains picks k → (n.owner k ≡ None) × (is_directory_use (s.use_of k) ≡ false)

  -- the large block that was picked is free; or none was, where the file has one or needs none
  abbrev IsPick : Option ℕ → Type 0
  IsPick None = 65536 < end_of w → x.large ≢ 0
  IsPick (Some g) = n.large_owner g ≡ None

  module _ (picks : List ℕ) (o : Option ℕ) (are : ArePicks picks) (one : IsPick o) where
    abbrev y : StoredNode
    y = resized x w.when size picks o

    abbrev locks : List Lock
    locks = shared_nodes touched ++ sole_nodes (i ∷ []) ++ sole_segments (map (λ k. k / 1024) picks ++ large_segment o)

    own : IsSole locks (lock.Node i)
    own = node_sole (shared_nodes touched) (i ∷ []) (sole_segments (map (λ k. k / 1024) picks ++ large_segment o)) i (has_head i [])

    segment : (k : ℕ) → Contains (map (λ k. k / 1024) picks ++ large_segment o) k → IsSole locks (lock.Segment k)
    segment = segment_sole (shared_nodes touched ++ sole_nodes (i ∷ [])) (map (λ k. k / 1024) picks ++ large_segment o)

    pick_segment : (k : ℕ) → Contains picks k → IsSole locks (lock.Segment (k / 1024))
    pick_segment k c = segment (k / 1024) (Contains-append_left (map (λ k. k / 1024) picks) (large_segment o) (k / 1024) (map_has (λ k. k / 1024) picks k c))

    abbrev SmallFits : ℕ → Type 0
    SmallFits k = IsSole locks (small_cover n k (n.owner k)) × (is_directory_use (s.use_of k) ≡ false)

    small_fits : (m : ℕ) → m < small_blocks_of size → SmallFits (y.small m)
    small_fits m l = rw (lt-ltb m (small_blocks_of size) l) (go (nat_lt m x.blocks) refl)
      where
        go : (b : Bool) → nat_lt m x.blocks ≡ b → SmallFits (if b then x.small m else slice_index picks (m - x.blocks))
        go true e = let inside : m < x.blocks = grind (arith, nat_tests) in (subst (IsSole locks) (sym ((disk.nodes i x is).small m inside)) own, file.uses m inside)
        go false e =
            let past : x.blocks ≤ m = grind (arith, nat_tests) in
            let enough : small_blocks_of size ≤ x.blocks + length picks = are.enough in
            let at : m - x.blocks < length picks = omega arith in
            let k = slice_index picks (m - x.blocks) in
            let c : Contains picks k = (m - x.blocks, at, index_in picks (m - x.blocks) k at) in
            let f = are.free k c in
            (subst (λ o. IsSole locks (small_cover n k o)) (sym f.0) (pick_segment k c), f.1)

    large_of : (o : Option ℕ) → IsPick o → ((g : ℕ) → Contains (large_segment o) g → IsSole locks (lock.Segment g)) → 65536 < end_of w → IsSole locks (large_cover n ((resized x w.when size picks o).large - 1) (n.large_owner ((resized x w.when size picks o).large - 1)))
    large_of None one f l = rw (lt-ltb 65536 size (omega arith)) (subst (IsSole locks) (sym ((disk.nodes i x is).large (one l))) own)
    large_of (Some g) one f l =
        let e : g ≡ g + 1 - 1 = omega arith in
        rw (lt-ltb 65536 size (omega arith)) (subst (λ k. IsSole locks (large_cover n k (n.large_owner k))) e (subst (λ o. IsSole locks (large_cover n g o)) (sym one) (f g (has_head g []))))

    large_fits : 65536 < end_of w → IsSole locks (large_cover n (y.large - 1) (n.large_owner (y.large - 1)))
    large_fits l = large_of o one (λ g c. segment g (Contains-append_right (map (λ k. k / 1024) picks) (large_segment o) g c)) l

    sets : (t : ℕ) (bytes : ℕ → ℕ) → 512 * t < end_of w → EditFits h s n locks (set_sector y t bytes)
    sets t bytes l = go (nat_lt t 128) refl
      where
        go : (b : Bool) → nat_lt t 128 ≡ b → EditFits h s n locks (if b then SetBytes (y.small (t / 8)) (t % 8) bytes else SetLargeBytes (y.large - 1) (t - 128) bytes)
        go true e = small_fits (t / 8) (in_small t size (omega arith) (grind (arith, nat_tests)))
        go false e = let high : 128 ≤ t = grind (arith, nat_tests) in large_fits (omega arith)

    written_fits : (bytes : List Edit) → EditsFit h s n locks bytes → FinishFits h s n touched (written_by i y picks o touched bytes)
    written_fits bytes fit = record {
      nodes = first_held touched (sole_nodes (i ∷ [])) (sole_segments (map (λ k. k / 1024) picks ++ large_segment o));
      edits = join h s n locks (map (λ k. SetUse k Bytes) picks ++ large_taken o ++ file_dated i y) bytes
          (join h s n locks (map (λ k. SetUse k Bytes) picks ++ large_taken o) (file_dated i y)
          (join h s n locks (map (λ k. SetUse k Bytes) picks) (large_taken o) (states_fit h s n disk locks Bytes picks pick_segment) (taken_fits h s n disk locks o (λ g c. segment g (Contains-append_right (map (λ k. k / 1024) picks) (large_segment o) g c))))
          (file_fits h s n disk locks i x y is own)) fit;
    }

    in_fine : Ends (writing_in w i touched x picks o)
    in_fine = writes_fine h s n disk touched i x is held file w y locks sets (sectors_met w.off w.len) (w.off / 512) (λ bytes. Got (Finishes (written_by i y picks o touched bytes))) (λ v a b. met_before w.off w.len v b a)
        (λ bytes fit. done h s n touched (written_by i y picks o touched bytes) (written_fits bytes fit))

  module _ (o : Option ℕ) (one : IsPick o) where
    picked_fine : (m : ℕ) (p : Option (List ℕ)) → small_blocks_of size ≤ x.blocks + m → picked_many h.held m ≡ p → Ends (writing_picked h w i touched x o p)
    picked_fine m None l e = none_fine h s n touched touched (reply.NoBlock (directory_blocks h.held)) (λ i c. c)
    picked_fine m (Some picks) l e = let z : length picks ≡ m = (picks_the_least h.held m picks e).0 in in_fine picks o (record { enough = omega arith; free = disk.blocks m picks e }) one

    small_fine : Ends (writing_small h w i touched x o)
    small_fine = go (small_blocks_of size - x.blocks == 0) refl
      where
        go : (b : Bool) → small_blocks_of size - x.blocks == 0 ≡ b → Ends (if b then writing_in w i touched x [] o else read_held h (writing_picked h w i touched x o (picked_many h.held (small_blocks_of size - x.blocks))))
        go true e = let z : small_blocks_of size - x.blocks ≡ 0 = grind (arith, nat_tests) in in_fine [] o (record { enough = omega arith; free = λ k c. absurd (let z : c.0 < 0 = c.1 in omega arith) }) one
        go false e = let p = picked_many h.held (small_blocks_of size - x.blocks) in past_held h s n touched (writing_picked h w i touched x o p) (picked_fine (small_blocks_of size - x.blocks) p (omega arith) refl)

  one_fine : (p : Option ℕ) → picked_large h.held ≡ p → Ends (writing_large h w i touched x p)
  one_fine None e = none_fine h s n touched touched reply.NoLarge (λ i c. c)
  one_fine (Some g) e = small_fine (Some g) (disk.large g e)

  has_one : (a b : Bool) → nat_lt 65536 (end_of w) ≡ a → x.large == 0 ≡ b → (a && b) ≡ false → 65536 < end_of w → x.large ≢ 0
  has_one true true p q e l z = cc
  has_one true false p q e l z = grind (arith, nat_tests)
  has_one false b p q e l z = grind (arith, nat_tests)

  pub writing_fine : Ends (writing h w i touched x)
  writing_fine = go (nat_lt x.size w.off) (nat_lt 1114112 (end_of w)) (nat_lt 65536 (end_of w) && x.large == 0) refl
    where
      go : (a b c : Bool) → (nat_lt 65536 (end_of w) && x.large == 0) ≡ c → Ends (if a then refused reply.BadOffset touched else (if b then refused reply.TooBig touched
          else (if c then read_held h (writing_large h w i touched x (picked_large h.held)) else writing_small h w i touched x None)))
      go true b c e = refuse_fine h s n touched touched reply.BadOffset (λ i c. c)
      go false true c e = refuse_fine h s n touched touched reply.TooBig (λ i c. c)
      go false false true e = past_held h s n touched (writing_large h w i touched x (picked_large h.held)) (one_fine (picked_large h.held) refl)
      go false false false e = small_fine None (has_one (nat_lt 65536 (end_of w)) (x.large == 0) refl refl e)
