-- A walk looks at the inodes of its directories and at no others, and ends in the last of them; a search and a room look at none.
use Rattle.std.proofs.Common.{ℕ, zero, suc, ◌≡◌, ◌+◌, ◌*◌, ◌/◌, ◌%◌, ◌==◌, Bool, true, false, if◌then◌else◌, nat_eq, nat_lt, Option, Some, None, List, [], ◌∷◌, ◌++◌, length, refl, sym, ◌∙◌, ap, subst, arith, length-append}
use Rattle.std.proofs.lemmas.List.{append-nil, append_assoc}
use Rattle.std.specs.Map.{keys_of}
use Rattle.frang_base.specs.declared.reply.Reply.TheVariants as reply
use Rattle.disk_definitions.specs.Store.{Store, StoredNode, StoredEntry}
use Rattle.disk_definitions.specs.Naming.{Naming}
use Rattle.disk_definitions.specs.Least.{least}
use Rattle.disk_definitions.specs.Picks.{picked_directory}
use Rattle.disk_definitions.specs.Ask.{Ask, Got, ReadInode, bind, seven, run}
use Rattle.disk_definitions.specs.Walks.{Spot, Walked, Found, or_on, hit, search, is_named, is_vacant, spot_by, look_up, in_inode, onward, walk_from, walk}
use Rattle.disk_definitions.specs.Walks.Spot.{AtRoot, AtName, AtGap, Lost}
use Rattle.disk_definitions.specs.Plans.{Hand, Plan, Room, read_held, room_in, room_at, find_room}
use Rattle.disk_definitions.specs.Plans.Room.{NoRoom}
use Rattle.plan_laws.proofs.Standing.{HasKind, DiskStands}
use Rattle.plan_laws.proofs.WalksFine.{kind_two, SpotStands, step_stands, walk_stands}
use Rattle.line_locks.proofs.Ending.{Ends, ends_then, ends_value, ends_weaker, ends_segments}

module _ (h : Hand) (s : Store) (n : Naming) (disk : DiskStands h s n) where
  -- ---- searches

  -- no inode was looked at
  abbrev pub Same : {A : Type 0} → List ℕ → List ℕ → A → Type 0
  Same nodes later a = later ≡ nodes

  pub search_same : (small : ℕ → ℕ) (test : Option StoredEntry → Bool) (m j : ℕ) (nodes : List ℕ) → Ends s (Same nodes) (search small test j m) nodes
  search_same small test zero j nodes = refl
  search_same small test (suc m) j nodes = go (search_same small test m (j + 1) nodes) (least (λ r. test (f r)) 7)
    where
      f : ℕ → Option StoredEntry
      f = seven s.place (small (j / 8)) (j % 8)

      go : Ends s (Same nodes) (search small test (j + 1) m) nodes → (o : Option ℕ) → Ends s (Same nodes) (or_on (hit test j f o) (search small test (j + 1) m)) nodes
      go rest None = rest
      go rest (Some r) = refl

  -- ---- rooms

  pub room_same : (x : StoredNode) (nodes : List ℕ) → Ends s (Same nodes) (find_room h x) nodes
  room_same x nodes = ends_then s (Same nodes) (Same nodes) (search x.small is_vacant 0 (8 * x.blocks)) (room_at h x) nodes (search_same x.small is_vacant (8 * x.blocks) 0 nodes) at_found
    where
      by_blocks : (later : List ℕ) → later ≡ nodes → (b : Bool) → Ends s (Same nodes) (if b then read_held h (Got (room_in (picked_directory h.held))) else Got NoRoom) later
      by_blocks later e true = ends_segments s (Same nodes) (keys_of h.held) (Got (room_in (picked_directory h.held))) later e
      by_blocks later e false = e

      at_found : (later : List ℕ) (o : Option Found) → later ≡ nodes → Ends s (Same nodes) (room_at h x o) later
      at_found later (Some found) e = e
      at_found later None e = by_blocks later e (nat_lt x.blocks 16)

  -- a plan that goes on with the room
  pub room_then : (End : List ℕ → Plan → Type 0) (x : StoredNode) (next : Room → Ask Plan) (nodes : List ℕ) → ((room : Room) → Ends s End (next room) nodes) → Ends s End (bind (find_room h x) next) nodes
  room_then End x next nodes f = ends_then s (Same nodes) End (find_room h x) next nodes (room_same x nodes) (λ later room e. subst (λ l. Ends s End (next room) l) (sym e) (f room))

  -- ---- walks

  -- these directories, so many, end in this one
  pub record EndIn (count : ℕ) (dirs : List ℕ) (i : ℕ) : Type 0 where
    pub front : List ℕ
    pub is : dirs ≡ front ++ i ∷ []
    pub counted : length dirs ≡ count

  -- so do those of a walk that comes to a name of a directory; one name leads to no root
  abbrev pub SpotEnds : Type 0 → ℕ → List ℕ → Spot → Type 0
  SpotEnds Root count dirs AtRoot = Root
  SpotEnds Root count dirs (AtName i x name q e) = EndIn count dirs i
  SpotEnds Root count dirs (AtGap i x name) = EndIn count dirs i
  SpotEnds Root count dirs (Lost r) = Unit {0}

  -- the inodes of its directories were looked at behind those before it
  pub record WalkEnds (Root : Type 0) (count : ℕ) (before later : List ℕ) (w : Walked) : Type 0 where
    pub nodes : later ≡ before ++ w.dirs
    pub spot : SpotEnds Root count w.dirs w.spot

  abbrev pub StepEnds : ℕ → List ℕ → List ℕ → Walked → Type 0
  StepEnds = WalkEnds ⊥

  abbrev pub PathEnds : ℕ → List ℕ → List ℕ → Walked → Type 0
  PathEnds = WalkEnds (Unit {0})

  at_end : (count : ℕ) (before later : List ℕ) (w : Walked) → StepEnds count before later w → PathEnds count before later w
  at_end count before later w e = record { nodes = e.nodes; spot = go w.spot e.spot }
    where
      go : (v : Spot) → SpotEnds ⊥ count w.dirs v → SpotEnds (Unit {0}) count w.dirs v
      go AtRoot t = tt
      go (AtName i x name q entry) t = t
      go (AtGap i x name) t = t
      go (Lost r) t = t

  one_more : (dirs : List ℕ) (i : ℕ) → EndIn (length dirs + 1) (dirs ++ i ∷ []) i
  one_more dirs i = record { front = dirs; is = refl; counted = length-append dirs (i ∷ []) }

  named_ends : (dirs : List ℕ) (i : ℕ) (x : StoredNode) (name : List ℕ) (found : Option Found) → SpotEnds ⊥ (length dirs + 1) (dirs ++ i ∷ []) (spot_by i x name found)
  named_ends dirs i x name None = one_more dirs i
  named_ends dirs i x name (Some (q, None)) = one_more dirs i
  named_ends dirs i x name (Some (q, Some e)) = one_more dirs i

  module _ (before dirs : List ℕ) (i : ℕ) (x : StoredNode) (name : List ℕ) (is : s.inode i ≡ Some x) (two : x.kind ≡ 2) where
    abbrev Step : List ℕ → Walked → Type 0
    Step = StepEnds (length dirs + 1) before

    look_ends : (nodes : List ℕ) → nodes ≡ before ++ (dirs ++ i ∷ []) → Ends s Step (look_up dirs i x name) nodes
    look_ends nodes e =
        ends_then s (Same nodes) Step (search x.small (is_named name) 0 (8 * x.blocks)) (λ found. Got (record { spot = spot_by i x name found; dirs = dirs ++ i ∷ [] })) nodes
        (search_same x.small (is_named name) (8 * x.blocks) 0 nodes)
        (λ later found d. record { nodes = d ∙ e; spot = named_ends dirs i x name found })

    below_ends : (nodes : List ℕ) → nodes ≡ before ++ (dirs ++ i ∷ []) → Ends s Step (in_inode dirs i name (Some x)) nodes
    below_ends nodes e = go (x.kind == 2) refl
      where
        go : (b : Bool) → x.kind == 2 ≡ b → Ends s Step (if b then look_up dirs i x name else Got (record { spot = Lost reply.NotDir; dirs = dirs })) nodes
        go true f = look_ends nodes e
        go false f = absurd (let z : nat_eq x.kind 2 ≡ true = ap (λ k. nat_eq k 2) two in cc)

    step_ends : (nodes : List ℕ) → nodes ≡ before ++ dirs → Ends s Step (ReadInode i (in_inode dirs i name)) nodes
    step_ends nodes e =
        subst (λ o. Ends s Step (in_inode dirs i name o) (nodes ++ i ∷ [])) (sym is) (below_ends (nodes ++ i ∷ []) (ap (λ l. l ++ i ∷ []) e ∙ append_assoc before dirs (i ∷ [])))

  -- on from a name, where so many directories were passed
  onward_ends : (passed count : ℕ) (before nodes dirs : List ℕ) (next : List ℕ → ℕ → Ask Walked) → nodes ≡ before ++ dirs →
      (length dirs ≡ passed → (j : ℕ) → HasKind s j 2 → Ends s (PathEnds count before) (next dirs j) nodes) →
      (v : Spot) → SpotEnds ⊥ passed dirs v → SpotStands h s n disk dirs v → Ends s (PathEnds count before) (onward next dirs v) nodes
  onward_ends passed count before nodes dirs next e each AtRoot t u = absurd t
  onward_ends passed count before nodes dirs next e each (AtGap i x name) t u = record { nodes = e; spot = tt }
  onward_ends passed count before nodes dirs next e each (Lost r) t u = record { nodes = e; spot = tt }
  onward_ends passed count before nodes dirs next e each (AtName i x name q entry) t u = go (entry.kind == 2) refl
    where
      go : (b : Bool) → entry.kind == 2 ≡ b → Ends s (PathEnds count before) (if b then next dirs entry.inode else Got (record { spot = Lost reply.NotDir; dirs = dirs })) nodes
      go true p = each t.counted entry.inode (subst (HasKind s entry.inode) (kind_two entry.kind p) u.2)
      go false p = record { nodes = e; spot = tt }

  one_fewer : (dirs passed : List ℕ) (name next : List ℕ) (names : List (List ℕ)) → length passed ≡ length dirs + 1 → length passed + length (next ∷ names) ≡ length dirs + length (name ∷ next ∷ names)
  one_fewer dirs passed name next names e = omega arith

  from_ends : (path : List (List ℕ)) (before dirs : List ℕ) (i : ℕ) → HasKind s i 2 → (nodes : List ℕ) → nodes ≡ before ++ dirs → Ends s (PathEnds (length dirs + length path) before) (walk_from dirs i path) nodes
  from_ends [] before dirs i k nodes e = record { nodes = e; spot = tt }
  from_ends (name ∷ []) before dirs i k nodes e =
      ends_weaker s (StepEnds (length dirs + 1) before) (PathEnds (length dirs + 1) before) (ReadInode i (in_inode dirs i name)) nodes (at_end (length dirs + 1) before) (step_ends before dirs i k.node name k.is k.kind_is nodes e)
  from_ends (name ∷ next ∷ names) before dirs i k nodes e =
      let p : Ask Walked = ReadInode i (in_inode dirs i name) in
      let on : List ℕ → ℕ → Ask Walked = λ more j. walk_from more j (next ∷ names) in
      let first = step_stands h s n disk dirs i k.node name k.is k.kind_is in
      let count = length dirs + length (name ∷ next ∷ names) in
      ends_then s (λ later w. StepEnds (length dirs + 1) before later w × (w ≡ run p s)) (PathEnds count before) p (λ w. onward on w.dirs w.spot) nodes
      (ends_value s (StepEnds (length dirs + 1) before) p nodes (step_ends before dirs i k.node name k.is k.kind_is nodes e))
      (λ later w f. onward_ends (length dirs + 1) count before later w.dirs on f.0.nodes
      (λ same j d. subst (λ c. Ends s (PathEnds c before) (walk_from w.dirs j (next ∷ names)) later) (one_fewer dirs w.dirs name next names same) (from_ends (next ∷ names) before w.dirs j d later f.0.nodes))
      w.spot f.0.spot (subst (λ (w : Walked). SpotStands h s n disk w.dirs w.spot) (sym f.1) first.spot))

  -- the spot of a walk and its directories
  pub record WalkIs (path : List (List ℕ)) (w : Walked) : Type 0 where
    pub ends : SpotEnds (Unit {0}) (length path) w.dirs w.spot
    pub stands : SpotStands h s n disk w.dirs w.spot

  from_none : (count : ℕ) → 0 + count ≡ count
  from_none count = omega arith

  -- a computation behind a walk
  pub walk_then : {A : Type 0} (End : List ℕ → A → Type 0) (path : List (List ℕ)) (f : Walked → Ask A) (before : List ℕ) → ((w : Walked) → WalkIs path w → Ends s End (f w) (before ++ w.dirs)) → Ends s End (bind (walk path) f) before
  walk_then End path f before g =
      ends_then s (λ later w. PathEnds (length path) before later w × (w ≡ run (walk path) s)) End (walk path) f before
      (ends_value s (PathEnds (length path) before) (walk path) before (subst (λ c. Ends s (PathEnds c before) (walk path) before) (from_none (length path)) (from_ends path before [] 0 disk.root before (sym (append-nil before)))))
      (λ later w e. subst (λ l. Ends s End (f w) l) (sym e.0.nodes) (g w (record { ends = e.0.spot; stands = subst (λ (w : Walked). SpotStands h s n disk w.dirs w.spot) (sym e.1) (walk_stands h s n disk path).spot })))
