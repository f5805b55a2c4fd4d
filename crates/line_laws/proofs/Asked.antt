-- Each sector for which a line asks is told of by sectors that are at hand, whose nodes are among those at which the line looked.
use Rattle.std.proofs.Common.{ℕ, ◌≡◌, ◌⊎◌, inl, inr, ⊎_elim, Bool, true, false, if◌then◌else◌, Option, Some, None, List, [], ◌∷◌, refl, sym, ap, subst}
use Rattle.std.specs.List.{Contains}
use Rattle.tree_definitions.specs.Tree.{FileTree}
use Rattle.sector_bytes.specs.Sectors.{Sectors}
use Rattle.disk_definitions.specs.Held.{Segments}
use Rattle.disk_definitions.specs.Ask.{Sector, InodeAt, DirectoryAt, SegmentAt, BytesAt, LargeAt, Ask, Got, ReadInode, ReadDirectory, ReadSegment, ReadBytes, ReadLarge, AtHand, seven, part_of, looks}
use Rattle.disk_definitions.specs.Ask.Met.{Needs}
use Rattle.disk_definitions.specs.OnDisk.{AreOfDisk, StandsBelow}
use Rattle.disk_definitions.specs.Written.{Cached, at_hand, hand_of, inode_at_hand}
use Rattle.plan_laws.proofs.Covering.{not_in_none, has_cases}
use Rattle.plan_laws.specs.Inside.{AgreesWhereAll}
use Rattle.line_laws.proofs.AtHand.{agrees}
use Rattle.disk_definitions.specs.Traces.{Traced, traced, needs, behind, by_said}
use Rattle.disk_definitions.specs.LookedAt.{looked_nodes, nodes_of}
use Rattle.disk_definitions.specs.Plans.{Plan}
use Rattle.disk_definitions.specs.Store.{Store, StoredEntry, StoredNode}
use Rattle.disk_definitions.proofs.Listed.{Among}
use Rattle.frang_base.specs.declared.op.Op.{Op}
use Rattle.disk_definitions.specs.Lines.{plan_of_line}
use Rattle.line_laws.proofs.Inside.{lines_inside}
use Rattle.line_laws.specs.Told.{AreTold, IsTold}
use Rattle.line_laws.specs.Covers.{AsksFor, CoversAmongAreTrue, CoversAtHandAreTrue}
use Rattle.line_laws.proofs.CoverAtHand.{s, n, is_of, is_hand, Had, told_true}
use Rattle.line_laws.proofs.CoverAmong.{among_true}
use Rattle.line_laws.proofs.LinesTold.{lines_are_told}

-- ---- traces

abbrev Asks : {A : Type 0} → Traced A → Sector → Type 0
Asks t x = Contains t.looked x ⊎ (t.met ≡ Needs x)

needed : {A : Type 0} (y x : Sector) → Asks {A = A} (needs y) x → y ≡ x
needed y x (inl c) = absurd (not_in_none x c)
needed y x (inr e) = cc

first_or_rest : {A : Type 0} (y x : Sector) (t : Traced A) → Asks (behind y t) x → (y ≡ x) ⊎ Asks t x
first_or_rest y x t (inl c) = ⊎_elim (λ q. inl q) (λ d. inr (inl d)) (has_cases y x t.looked c)
first_or_rest y x t (inr e) = inr (inr e)

-- of the first sector, or of one behind it where this is at hand
said : {X A : Type 0} (G : Type 0) (y x : Sector) (o : Option X) (v : X) (f : X → Traced A) → (y ≡ x → G) → ((z : X) → o ≡ Some z → z ≡ v) → (o ≡ Some v → Asks (f v) x → G) → Asks (by_said y o f) x → G
said G y x None v f here is rest a = here (needed y x a)
said G y x (Some z) v f here is rest a = ⊎_elim here (λ d. rest (ap Some (is z refl)) (subst (λ z. Asks (f z) x) (is z refl) d)) (first_or_rest y x (f z) a)

segment : {A : Type 0} (G : Type 0) (y x : Sector) (b : Bool) (t : Traced A) → (y ≡ x → G) → (b ≡ true → Asks t x → G) → Asks (if b then behind y t else needs y) x → G
segment G y x true t here rest a = ⊎_elim here (rest refl) (first_or_rest y x t a)
segment G y x false t here rest a = here (needed y x a)

-- a node that was looked at is that of the first sector, or of one behind it
node_said : {X A : Type 0} (G : Type 0) (i : ℕ) (y : Sector) (o : Option X) (v : X) (f : X → Traced A) → ((z : X) → o ≡ Some z → z ≡ v) →
    (o ≡ Some v → Among i (nodes_of (y ∷ (f v).looked)) → G) → Among i (nodes_of (by_said y o f).looked) → G
node_said G i y None v f is rest m = absurd m
node_said G i y (Some z) v f is rest m = rest (ap Some (is z refl)) (subst (λ z. Among i (nodes_of (y ∷ (f z).looked))) (is z refl) m)

node_held : {A : Type 0} (G : Type 0) (i k : ℕ) (b : Bool) (t : Traced A) → (Among i (nodes_of t.looked) → G) →
    Among i (nodes_of (if b then behind (SegmentAt k) t else needs (SegmentAt k)).looked) → G
node_held G i k true t rest m = rest m
node_held G i k false t rest m = absurd m

-- each node of these is among those
abbrev Within : List ℕ → List ℕ → Type 0
Within xs nodes = (i : ℕ) → Among i xs → Among i nodes

module _ (cached : Cached) (held : Segments) (all : Bool) (sectors : Sectors) (tree : FileTree) (of : AreOfDisk cached held all tree.segments sectors) (below : StandsBelow sectors tree) where
  abbrev c : AtHand
  c = at_hand cached held

  abbrev IsHad : List Sector → Type 0
  IsHad before = Had cached held all sectors tree of below before

  -- sectors at hand have told of it, and their nodes are among these
  pub record Telling (nodes : List ℕ) (x : Sector) : Type 0 where
    pub before : List Sector
    pub had : IsHad before
    pub among : (i : ℕ) → Contains before (InodeAt i) → Among i nodes
    pub told : IsTold (s cached held all sectors tree of below) held before x

  -- one sector more, which is no inode
  had_more : (y : Sector) (before : List Sector) → ((i : ℕ) → y ≡ InodeAt i → ⊥) → IsHad before → IsHad (y ∷ before)
  had_more y before other had i d = ⊎_elim (λ q. absurd (other i q)) (λ r. had i r) (has_cases y (InodeAt i) before d)

  had_inode : (j : ℕ) (before : List Sector) → inode_at_hand cached j ≡ Some ((s cached held all sectors tree of below).inode j) → IsHad before → IsHad (InodeAt j ∷ before)
  had_inode j before there had i d =
      ⊎_elim (λ q. (let same : j ≡ i = cc in subst (λ k. inode_at_hand cached k ≡ Some ((s cached held all sectors tree of below).inode k)) same there)) (λ r. had i r) (has_cases (InodeAt j) (InodeAt i) before d)

  module _ (nodes : List ℕ) where
    abbrev AreAmong : List Sector → Type 0
    AreAmong before = (i : ℕ) → Contains before (InodeAt i) → Among i nodes

    among_more : (y : Sector) (before : List Sector) → ((i : ℕ) → y ≡ InodeAt i → ⊥) → AreAmong before → AreAmong (y ∷ before)
    among_more y before other among i d = ⊎_elim (λ q. absurd (other i q)) (λ r. among i r) (has_cases y (InodeAt i) before d)

    among_inode : (j : ℕ) (before : List Sector) → Among j nodes → AreAmong before → AreAmong (InodeAt j ∷ before)
    among_inode j before there among i d =
        ⊎_elim (λ q. (let same : j ≡ i = cc in subst (λ k. Among k nodes) same there)) (λ r. among i r) (has_cases (InodeAt j) (InodeAt i) before d)

    here_told : (before : List Sector) → IsHad before → AreAmong before → (y x : Sector) → AreTold (s cached held all sectors tree of below) held before (y ∷ []) → y ≡ x → Telling nodes x
    here_told before had among y x t e = subst (Telling nodes) e (record { before = before; had = had; among = among; told = t.0 })

    asked_told : {A : Type 0} (p : Ask A) (before : List Sector) → IsHad before → AreAmong before → AgreesWhereAll c (s cached held all sectors tree of below) (looks p (s cached held all sectors tree of below)) →
        AreTold (s cached held all sectors tree of below) held before (looks p (s cached held all sectors tree of below)) → Within (looked_nodes p c) nodes → (x : Sector) → AsksFor p c x → Telling nodes x
    asked_told (Got a) before had among agree told within x (inl d) = absurd (not_in_none x d)
    asked_told (Got a) before had among agree told within x (inr e) = absurd (cc)
    asked_told (ReadInode i next) before had among agree told within x a =
        let v = (s cached held all sectors tree of below).inode i in
        let after : Option (Option StoredNode) → Type 0 = λ o. Within (nodes_of (by_said (InodeAt i) o (λ z. traced (next z) c)).looked) nodes in
        said (Telling nodes x) (InodeAt i) x (c.inode i) v (λ z. traced (next z) c) (here_told before had among (InodeAt i) x (told.0, tt)) agree.0
        (λ there d. (let w : after (Some v) = subst after there within in
        asked_told (next v) (InodeAt i ∷ before) (had_inode i before there had) (among_inode i before (w i (inl refl)) among) agree.1 told.1 (λ j m. w j (inr m)) x d)) a
    asked_told (ReadDirectory k part next) before had among agree told within x a =
        let v = seven (s cached held all sectors tree of below).place k part in
        let after : Option (ℕ → Option StoredEntry) → Type 0 = λ o. Within (nodes_of (by_said (DirectoryAt k part) o (λ z. traced (next z) c)).looked) nodes in
        said (Telling nodes x) (DirectoryAt k part) x (c.directory k part) v (λ z. traced (next z) c) (here_told before had among (DirectoryAt k part) x (told.0, tt)) agree.0
        (λ there d. asked_told (next v) (DirectoryAt k part ∷ before) (had_more (DirectoryAt k part) before (λ i e. cc) had) (among_more (DirectoryAt k part) before (λ i e. cc) among) agree.1 told.1 (subst after there within) x d) a
    asked_told (ReadSegment k next) before had among agree told within x a =
        let after : Bool → Type 0 = λ b. Within (nodes_of (if b then behind (SegmentAt k) (traced next c) else needs (SegmentAt k)).looked) nodes in
        segment (Telling nodes x) (SegmentAt k) x (c.segment k) (traced next c) (here_told before had among (SegmentAt k) x (tt, tt))
        (λ there d. asked_told next (SegmentAt k ∷ before) (had_more (SegmentAt k) before (λ i e. cc) had) (among_more (SegmentAt k) before (λ i e. cc) among) agree.1 told.1 (subst after there within) x d) a
    asked_told (ReadBytes k part next) before had among agree told within x a =
        let v = part_of (s cached held all sectors tree of below).byte k part in
        let after : Option (ℕ → ℕ) → Type 0 = λ o. Within (nodes_of (by_said (BytesAt k part) o (λ z. traced (next z) c)).looked) nodes in
        said (Telling nodes x) (BytesAt k part) x (c.bytes k part) v (λ z. traced (next z) c) (here_told before had among (BytesAt k part) x (told.0, tt)) agree.0
        (λ there d. asked_told (next v) (BytesAt k part ∷ before) (had_more (BytesAt k part) before (λ i e. cc) had) (among_more (BytesAt k part) before (λ i e. cc) among) agree.1 told.1 (subst after there within) x d) a
    asked_told (ReadLarge g part next) before had among agree told within x a =
        let v = part_of (s cached held all sectors tree of below).large_byte g part in
        let after : Option (ℕ → ℕ) → Type 0 = λ o. Within (nodes_of (by_said (LargeAt g part) o (λ z. traced (next z) c)).looked) nodes in
        said (Telling nodes x) (LargeAt g part) x (c.large g part) v (λ z. traced (next z) c) (here_told before had among (LargeAt g part) x (told.0, tt)) agree.0
        (λ there d. asked_told (next v) (LargeAt g part ∷ before) (had_more (LargeAt g part) before (λ i e. cc) had) (among_more (LargeAt g part) before (λ i e. cc) among) agree.1 told.1 (subst after there within) x d) a

  -- the nodes that were looked at are at hand
  nodes_had : {A : Type 0} (p : Ask A) → AgreesWhereAll c (s cached held all sectors tree of below) (looks p (s cached held all sectors tree of below)) →
      (i : ℕ) → Among i (looked_nodes p c) → inode_at_hand cached i ≡ Some ((s cached held all sectors tree of below).inode i)
  nodes_had (Got a) agree i m = absurd m
  nodes_had (ReadInode j next) agree i m =
      let v = (s cached held all sectors tree of below).inode j in
      node_said (inode_at_hand cached i ≡ Some ((s cached held all sectors tree of below).inode i)) i (InodeAt j) (c.inode j) v (λ z. traced (next z) c) agree.0
      (λ there d. ⊎_elim (λ q. subst (λ k. inode_at_hand cached k ≡ Some ((s cached held all sectors tree of below).inode k)) (sym q) there) (λ r. nodes_had (next v) agree.1 i r) d) m
  nodes_had (ReadDirectory k part next) agree i m =
      let v = seven (s cached held all sectors tree of below).place k part in
      node_said (inode_at_hand cached i ≡ Some ((s cached held all sectors tree of below).inode i)) i (DirectoryAt k part) (c.directory k part) v (λ z. traced (next z) c) agree.0
      (λ there d. nodes_had (next v) agree.1 i d) m
  nodes_had (ReadSegment k next) agree i m =
      node_held (inode_at_hand cached i ≡ Some ((s cached held all sectors tree of below).inode i)) i k (c.segment k) (traced next c) (λ d. nodes_had next agree.1 i d) m
  nodes_had (ReadBytes k part next) agree i m =
      let v = part_of (s cached held all sectors tree of below).byte k part in
      node_said (inode_at_hand cached i ≡ Some ((s cached held all sectors tree of below).inode i)) i (BytesAt k part) (c.bytes k part) v (λ z. traced (next z) c) agree.0
      (λ there d. nodes_had (next v) agree.1 i d) m
  nodes_had (ReadLarge g part next) agree i m =
      let v = part_of (s cached held all sectors tree of below).large_byte g part in
      node_said (inode_at_hand cached i ≡ Some ((s cached held all sectors tree of below).inode i)) i (LargeAt g part) (c.large g part) v (λ z. traced (next z) c) agree.0
      (λ there d. nodes_had (next v) agree.1 i d) m

-- of a line, and of the nodes at which it looked
module _ (o : Op) (cached : Cached) (held : Segments) (all : Bool) (sectors : Sectors) (tree : FileTree) (birth when : ℕ) (of : AreOfDisk cached held all tree.segments sectors) (below : StandsBelow sectors tree) where
  abbrev line : Ask Plan
  line = plan_of_line (hand_of cached held all) birth when o

  abbrev store : Store
  store = s cached held all sectors tree of below

  agree : AgreesWhereAll (at_hand cached held) store (looks line store)
  agree =
      agrees cached held tree.segments sectors of.as_cached below.whole (looks line store)
      (lines_inside o (hand_of cached held all) store tree (n cached held all sectors tree of below) birth when (is_of cached held all sectors tree of below) (is_hand cached held all sectors tree of below))

  pub line_told : (x : Sector) → AsksFor line (at_hand cached held) x → Telling cached held all sectors tree of below (looked_nodes line (at_hand cached held)) x
  line_told x a =
      asked_told cached held all sectors tree of below (looked_nodes line (at_hand cached held)) line [] (λ i d. absurd (not_in_none (InodeAt i) d)) (λ i d. absurd (not_in_none (InodeAt i) d)) agree
      (lines_are_told o (hand_of cached held all) store tree (n cached held all sectors tree of below) birth when (is_of cached held all sectors tree of below) (is_hand cached held all sectors tree of below))
      (λ i m. m) x a

  pub line_nodes_had : (i : ℕ) → Among i (looked_nodes line (at_hand cached held)) → inode_at_hand cached i ≡ Some (store.inode i)
  line_nodes_had = nodes_had cached held all sectors tree of below line agree

pub covers_are_true : CoversAtHandAreTrue
covers_are_true o cached held all sectors tree birth when of below x a =
    let t = line_told o cached held all sectors tree birth when of below x a in
    told_true cached held all sectors tree of below t.before t.had x t.told

pub covers_among_are_true : CoversAmongAreTrue
covers_among_are_true o cached held all sectors tree birth when of below x a =
    let t = line_told o cached held all sectors tree birth when of below x a in
    among_true cached held all sectors tree of below (looked_nodes (plan_of_line (hand_of cached held all) birth when o) (at_hand cached held))
    (line_nodes_had o cached held all sectors tree birth when of below) t.before t.among x t.told
