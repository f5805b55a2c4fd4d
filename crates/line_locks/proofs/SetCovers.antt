-- The node under which file bytes lie that a finished line sets is one of those at whose inodes it looked, so that these tell the cover.
use Rattle.std.proofs.Common.{◌≡◌, ℕ, ◌/◌, ◌++◌, ◌⊎◌, inl, inr, ⊎_elim, Bool, true, false, if◌then◌else◌, List, [], ◌∷◌, filter, refl, sym, ap, subst}
use Rattle.std.specs.List.{Contains}
use Rattle.std.specs.Map.{keys_of}
use Rattle.frang_base.specs.declared.limits.TheConstants.{SEGMENT_BLOCKS, SEGMENT_INODES}
use Rattle.frang_base.specs.declared.lock.LockId.TheVariants as lock
use Rattle.frang_base.specs.declared.lock.Mode.TheVariants.{Shared, Sole}
use Rattle.frang_base.specs.declared.op.Op.{Op}
use Rattle.frang_base.specs.declared.reply.Reply.{Reply}
use Rattle.tree_definitions.specs.Tree.{FileTree}
use Rattle.sector_bytes.specs.Sectors.{Sectors}
use Rattle.disk_definitions.specs.Covers.{cover_of}
use Rattle.disk_definitions.specs.CoversAtHand.{cover_among}
use Rattle.disk_definitions.specs.Edits.{Edit}
use Rattle.disk_definitions.specs.Edits.Edit.{SetInode, SetBit, SetUse, SetPlace, SetLarge, SetBytes, SetLargeBytes}
use Rattle.disk_definitions.specs.FoundLocks.{edit_locks, edit_locks_of, finish_locks, full_locks, owns_at_hand}
use Rattle.disk_definitions.specs.Held.{Segments}
use Rattle.disk_definitions.specs.Ask.{Sector, InodeAt, DirectoryAt, SegmentAt, BytesAt, LargeAt, looks, meet}
use Rattle.disk_definitions.specs.Ask.Met.{Has}
use Rattle.disk_definitions.specs.Lines.{plan_of_line}
use Rattle.disk_definitions.specs.LookedAt.{looked_nodes, nodes_of}
use Rattle.disk_definitions.specs.OnDisk.{AreOfDisk, StandsBelow}
use Rattle.disk_definitions.specs.Plans.{Finish, Lock, says_full, shared_nodes, sole_nodes, sole_segments}
use Rattle.disk_definitions.specs.Plans.Plan.{Finishes}
use Rattle.disk_definitions.specs.Written.{Cached, at_hand, hand_of, is_metadata}
use Rattle.disk_definitions.proofs.Listed.{Among, among_filtered}
use Rattle.plan_laws.specs.Locks.{IsSole}
use Rattle.plan_laws.specs.Looked.{edited_at}
use Rattle.plan_laws.proofs.Covering.{all_has, has_cases, has_head, has_more, not_in_none}
use Rattle.plan_laws.proofs.WalksFine.{either}
use Rattle.line_laws.proofs.Asked.{line_nodes_had}
use Rattle.line_laws.proofs.CoverAmong.{large_owned, small_owned}
use Rattle.line_laws.proofs.Covered.{line_edits_covered}
use Rattle.line_laws.proofs.LineEdits.{lines_look_at_edits}
use Rattle.line_locks.specs.Lines.{SetCoversAreTrue}
use Rattle.line_locks.specs.Same.{Have}
use Rattle.line_locks.proofs.AtHand.{finish_found, is_hand, is_of, p, ran, s, same_nodes}

-- ---- nodes among locks

same_node : (j i : ℕ) → lock.Node j ≡ lock.Node i → i ≡ j
same_node j i e = cc

apart_modes : Shared ≡ Sole → ⊥
apart_modes e = absurd (cc)

apart_locks : (g i : ℕ) → lock.Segment g ≡ lock.Node i → ⊥
apart_locks g i e = absurd (cc)

in_soles : (nodes : List ℕ) (i : ℕ) → IsSole (sole_nodes nodes) (lock.Node i) → Among i nodes
in_soles [] i c = absurd (not_in_none (lock.Node i, Sole) c)
in_soles (j ∷ nodes) i c =
    ⊎_elim (λ e. inl (same_node j i (ap (λ (l : Lock). l.0) e))) (λ d. inr (in_soles nodes i d)) (has_cases (lock.Node j, Sole) (lock.Node i, Sole) (sole_nodes nodes) c)

not_shared : (nodes : List ℕ) (i : ℕ) → IsSole (shared_nodes nodes) (lock.Node i) → ⊥
not_shared [] i c = not_in_none (lock.Node i, Sole) c
not_shared (j ∷ nodes) i c =
    ⊎_elim (λ e. apart_modes (ap (λ (l : Lock). l.1) e)) (λ d. not_shared nodes i d) (has_cases (lock.Node j, Shared) (lock.Node i, Sole) (shared_nodes nodes) c)

no_segments : (segments : List ℕ) (i : ℕ) → IsSole (sole_segments segments) (lock.Node i) → ⊥
no_segments [] i c = not_in_none (lock.Node i, Sole) c
no_segments (g ∷ segments) i c =
    ⊎_elim (λ e. apart_locks g i (ap (λ (l : Lock). l.0) e)) (λ d. no_segments segments i d) (has_cases (lock.Segment g, Sole) (lock.Node i, Sole) (sole_segments segments) c)

not_full : (held : Segments) (reply : Reply) (i : ℕ) → IsSole (full_locks held reply) (lock.Node i) → ⊥
not_full held reply i c = go (says_full reply) c
  where
    go : (b : Bool) → IsSole (if b then sole_segments (keys_of held) else []) (lock.Node i) → ⊥
    go true c = no_segments (keys_of held) i c
    go false c = not_in_none (lock.Node i, Sole) c

-- its inode is edited
abbrev EditsInode : List Edit → ℕ → Type 0
EditsInode edits i = (edit : Edit) × Contains edits edit × (is_metadata edit ≡ true) × (edited_at edit ≡ InodeAt i)

module _ (owns : ℕ → ℕ → Bool) (nodes : List ℕ) where
  one_sole : (e : Edit) (i : ℕ) → IsSole (edit_locks_of owns nodes e) (lock.Node i) → Among i nodes ⊎ ((is_metadata e ≡ true) × (edited_at e ≡ InodeAt i))
  one_sole (SetInode j v d) i c =
      ⊎_elim (λ e. inr (refl, ap InodeAt (sym (same_node j i (ap (λ (l : Lock). l.0) e))))) (λ n. absurd (not_in_none (lock.Node i, Sole) n)) (has_cases (lock.Node j, Sole) (lock.Node i, Sole) [] c)
  one_sole (SetBit j b) i c = absurd (no_segments ((j / SEGMENT_INODES) ∷ []) i c)
  one_sole (SetUse k u) i c = absurd (no_segments ((k / SEGMENT_BLOCKS) ∷ []) i c)
  one_sole (SetPlace k q e) i c = inl (among_filtered (λ j. owns j k) nodes i (in_soles (filter (λ j. owns j k) nodes) i c)).0
  one_sole (SetLarge k b) i c = absurd (no_segments (k ∷ []) i c)
  one_sole (SetBytes k part bytes) i c = absurd (not_in_none (lock.Node i, Sole) c)
  one_sole (SetLargeBytes k part bytes) i c = absurd (not_in_none (lock.Node i, Sole) c)

  edits_sole : (edits : List Edit) (i : ℕ) → IsSole (edit_locks owns nodes edits) (lock.Node i) → Among i nodes ⊎ EditsInode edits i
  edits_sole [] i c = absurd (not_in_none (lock.Node i, Sole) c)
  edits_sole (e ∷ edits) i c =
      ⊎_elim (λ a. ⊎_elim (λ m. inl m) (λ r. inr (e, has_head e edits, r.0, r.1)) (one_sole e i a))
      (λ b. ⊎_elim (λ m. inl m) (λ r. inr (r.0, has_more e r.0 edits r.1, r.2, r.3)) (edits_sole edits i b))
      (either (edit_locks_of owns nodes e) (edit_locks owns nodes edits) (lock.Node i, Sole) c)

  found_sole : (held : Segments) (reply : Reply) (edits : List Edit) (i : ℕ) → IsSole (finish_locks owns held nodes reply edits) (lock.Node i) → Among i nodes ⊎ EditsInode edits i
  found_sole held reply edits i c =
      ⊎_elim
      (λ b. ⊎_elim (λ d. absurd (not_shared nodes i d)) (λ d. edits_sole edits i d) (either (shared_nodes nodes) (edit_locks owns nodes edits) (lock.Node i, Sole) b))
      (λ a. absurd (not_full held reply i a)) (either (shared_nodes nodes ++ edit_locks owns nodes edits) (full_locks held reply) (lock.Node i, Sole) c)

-- ---- sectors of inodes

inode_among : (xs : List Sector) (i : ℕ) → Contains xs (InodeAt i) → Among i (nodes_of xs)
inode_among [] i c = absurd (not_in_none (InodeAt i) c)
inode_among (InodeAt j ∷ xs) i c = ⊎_elim (λ e. inl (let same : i ≡ j = cc in same)) (λ d. inr (inode_among xs i d)) (has_cases (InodeAt j) (InodeAt i) xs c)
inode_among (DirectoryAt k part ∷ xs) i c = ⊎_elim (λ e. absurd (cc)) (λ d. inode_among xs i d) (has_cases (DirectoryAt k part) (InodeAt i) xs c)
inode_among (SegmentAt k ∷ xs) i c = ⊎_elim (λ e. absurd (cc)) (λ d. inode_among xs i d) (has_cases (SegmentAt k) (InodeAt i) xs c)
inode_among (BytesAt k part ∷ xs) i c = ⊎_elim (λ e. absurd (cc)) (λ d. inode_among xs i d) (has_cases (BytesAt k part) (InodeAt i) xs c)
inode_among (LargeAt k part ∷ xs) i c = ⊎_elim (λ e. absurd (cc)) (λ d. inode_among xs i d) (has_cases (LargeAt k part) (InodeAt i) xs c)

-- ---- lines

module _ (o : Op) (cached : Cached) (held : Segments) (all : Bool) (sectors : Sectors) (tree : FileTree) (birth when : ℕ) (of : AreOfDisk cached held all tree.segments sectors) (below : StandsBelow sectors tree)
    (f : Finish) (met : meet (plan_of_line (hand_of cached held all) birth when o) (at_hand cached held) ≡ Has (Finishes f)) where
  abbrev nodes : List ℕ
  nodes = looked_nodes (plan_of_line (hand_of cached held all) birth when o) (at_hand cached held)

  -- a node that the line holds alone is one of them
  sole_looked : (i : ℕ) → IsSole f.locks (lock.Node i) → Among i nodes
  sole_looked i c =
      let own = ran o cached held all sectors tree birth when of below (Finishes f) met in
      let found = all_has (Have (finish_locks (owns_at_hand cached) held nodes f.reply f.edits)) f.locks (finish_found o cached held all sectors tree birth when of below f met).back (lock.Node i, Sole) c in
      ⊎_elim (λ m. m)
      (λ r. (let seen : Contains (looks (p o cached held all sectors tree birth when of below) (s o cached held all sectors tree birth when of below)) (InodeAt i) =
      subst (Contains (looks (p o cached held all sectors tree birth when of below) (s o cached held all sectors tree birth when of below))) r.3
      (lines_look_at_edits o (hand_of cached held all) (s o cached held all sectors tree birth when of below) birth when f own.1 r.0 r.1 r.2) in
      subst (Among i) (sym (same_nodes o cached held all sectors tree birth when of below own.0)) (inode_among (looks (p o cached held all sectors tree birth when of below) (s o cached held all sectors tree birth when of below)) i seen)))
      (found_sole (owns_at_hand cached) nodes held f.reply f.edits i found)

  -- what is set is under such a node, or under none
  owner_looked : (edit : Edit) → Contains f.edits edit → (i : ℕ) → cover_of below.stands.naming (edited_at edit) ≡ lock.Node i → Among i nodes
  owner_looked edit c i e =
      sole_looked i
      (subst (IsSole f.locks) e
      (line_edits_covered o (hand_of cached held all) (s o cached held all sectors tree birth when of below) tree below.stands.naming birth when f
      (is_of o cached held all sectors tree birth when of below) (is_hand o cached held all sectors tree birth when of below)
      (ran o cached held all sectors tree birth when of below (Finishes f) met).1 edit c))

  set_cover : (edit : Edit) → Contains f.edits edit → is_metadata edit ≡ false → cover_among cached held nodes (edited_at edit) ≡ cover_of below.stands.naming (edited_at edit)
  set_cover (SetInode i v d) c m = absurd (cc)
  set_cover (SetBit i b) c m = absurd (cc)
  set_cover (SetUse k u) c m = absurd (cc)
  set_cover (SetPlace k q e) c m = absurd (cc)
  set_cover (SetLarge k b) c m = absurd (cc)
  set_cover (SetBytes k part bytes) c m =
      small_owned cached held all sectors tree of below nodes (line_nodes_had o cached held all sectors tree birth when of below) k (owner_looked (SetBytes k part bytes) c)
  set_cover (SetLargeBytes k part bytes) c m =
      large_owned cached held all sectors tree of below nodes (line_nodes_had o cached held all sectors tree birth when of below) k (owner_looked (SetLargeBytes k part bytes) c)

pub set_covers_are_true : SetCoversAreTrue
set_covers_are_true o cached held all sectors tree birth when of below f met edit c m = set_cover o cached held all sectors tree birth when of below f met edit c m
