-- A walk and a search for room are told where they look, over the disk of a tree.
use Rattle.std.proofs.Common.{ℕ, zero, suc, ◌≡◌, ◌≤◌, ◌+◌, ◌*◌, ◌/◌, ◌%◌, ◌==◌, inl, inr, ⊎_elim, Bool, true, false, if◌then◌else◌, Option, Some, None, List, [], ◌∷◌, ◌++◌, nat_lt, refl, sym, ◌∙◌, subst, arith}
use Rattle.std.specs.List.{Contains}
use Rattle.std.specs.Map.{keys_of}
use Rattle.std.proofs.lemmas.Bool.{or_right, or_left}
use Rattle.frang_base.specs.declared.reply.Reply.TheVariants as reply
use Rattle.disk_definitions.specs.Store.{Store, StoredNode, StoredEntry}
use Rattle.disk_definitions.specs.Naming.{Naming}
use Rattle.disk_definitions.specs.Held.{Segments, state_in}
use Rattle.disk_definitions.specs.Least.{least}
use Rattle.disk_definitions.specs.Picks.{is_in_state, or_else, least_in_state, picked_directory}
use Rattle.disk_definitions.proofs.PickLaws.{in_state, is_state}
use Rattle.disk_definitions.specs.Ask.{Sector, InodeAt, DirectoryAt, Ask, Got, ReadInode, ReadDirectory, bind, seven, run}
use Rattle.disk_definitions.specs.Walks.{Spot, Walked, Found, or_on, hit, search, is_named, is_vacant, spot_by, look_up, in_inode, onward, walk_from, walk}
use Rattle.disk_definitions.specs.Walks.Spot.{AtRoot, AtName, AtGap, Lost}
use Rattle.disk_definitions.specs.Plans.{Hand, Plan, Finish, Room, read_held, room_in, room_at, find_room, finish_in, must_clear}
use Rattle.disk_definitions.specs.Plans.Plan.{Clears, Finishes}
use Rattle.disk_definitions.specs.Plans.Room.{Inside, InBlock, NoRoom}
use Rattle.plan_laws.proofs.Covering.{has_head, has_more, not_in_none, has_cases}
use Rattle.plan_laws.proofs.Standing.{HasKind, DiskStands}
use Rattle.plan_laws.proofs.WalksFine.{either, kind_two, SpotStands, step_stands, walk_stands}
use Rattle.disk_definitions.specs.CoversAtHand.{is_marked_unused}
use Rattle.line_laws.proofs.Tells.{Among, same_among, more_among, Tells, Told, tells_then, tells_value, tells_segments}

-- a block that is picked for a directory is marked as one that nobody uses
pub picked_is_marked : (held : Segments) (k : ℕ) → picked_directory held ≡ Some k → is_marked_unused held k ≡ true
picked_is_marked held k e = go (least_in_state 2 (state_in held)) refl e
  where
    go : (o : Option ℕ) → least_in_state 2 (state_in held) ≡ o → or_else o (least_in_state 0 (state_in held)) ≡ Some k → is_marked_unused held k ≡ true
    go None i f = or_left (is_in_state 0 (state_in held k)) (is_in_state 2 (state_in held k)) (is_state 0 (state_in held k) (in_state held 0 k f).1)
    go (Some c) i f = or_right (is_in_state 0 (state_in held k)) (is_in_state 2 (state_in held k)) (is_state 2 (state_in held k) (in_state held 2 k (i ∙ f)).1)

module _ (h : Hand) (s : Store) (n : Naming) (disk : DiskStands h s n) where
  -- all of it, whatever was looked at before
  abbrev pub Ends : Ask Plan → List Sector → Type 0
  Ends p before = Told s h.held p before

  -- ---- searches

  -- those that were looked at stay
  abbrev pub Keeps : {A : Type 0} → List Sector → List Sector → A → Type 0
  Keeps first later a = Among first later

  pub search_told : (first : List Sector) (i : ℕ) (x : StoredNode) → s.inode i ≡ Some x → (test : Option StoredEntry → Bool) (m j : ℕ) (before : List Sector) → Among first before → Contains before (InodeAt i) → j + m ≤ 8 * x.blocks →
      Tells s h.held (Keeps first) (search x.small test j m) before
  search_told first i x is test zero j before a c l = a
  search_told first i x is test (suc m) j before a c l = (
    inl (i, c, record { node = x; is = is; index = j / 8; inside = omega arith; here = refl }),
    go (search_told first i x is test m (j + 1) (here ∷ before) (more_among here first before a) (has_more here (InodeAt i) before c) (omega arith)) (least (λ r. test (f r)) 7),
  )
    where
      here : Sector
      here = DirectoryAt (x.small (j / 8)) (j % 8)

      f : ℕ → Option StoredEntry
      f = seven s.place (x.small (j / 8)) (j % 8)

      go : Tells s h.held (Keeps first) (search x.small test (j + 1) m) (here ∷ before) → (o : Option ℕ) → Tells s h.held (Keeps first) (or_on (hit test j f o) (search x.small test (j + 1) m)) (here ∷ before)
      go rest None = rest
      go rest (Some r) = more_among here first before a

  -- ---- rooms

  abbrev pub IsRoomTold : Room → Type 0
  IsRoomTold (Inside q) = Unit {0}
  IsRoomTold (InBlock k) = is_marked_unused h.held k ≡ true
  IsRoomTold NoRoom = Unit {0}

  abbrev pub FindsRoom : List Sector → Room → Type 0
  FindsRoom later room = IsRoomTold room

  pub room_told : (i : ℕ) (x : StoredNode) → s.inode i ≡ Some x → (before : List Sector) → Contains before (InodeAt i) → Tells s h.held FindsRoom (find_room h x) before
  room_told i x is before c =
      tells_then s h.held (Keeps before) FindsRoom (search x.small is_vacant 0 (8 * x.blocks)) (room_at h x) before (search_told before i x is is_vacant (8 * x.blocks) 0 before (same_among before) c (omega arith)) (λ later found a. at_found later found)
    where
      in_told : (o : Option ℕ) → picked_directory h.held ≡ o → IsRoomTold (room_in o)
      in_told None e = tt
      in_told (Some k) e = picked_is_marked h.held k e

      by_blocks : (later : List Sector) (b : Bool) → Tells s h.held FindsRoom (if b then read_held h (Got (room_in (picked_directory h.held))) else Got NoRoom) later
      by_blocks later true = tells_segments s h.held FindsRoom (keys_of h.held) (Got (room_in (picked_directory h.held))) later (λ most a. in_told (picked_directory h.held) refl)
      by_blocks later false = tt

      at_found : (later : List Sector) (o : Option Found) → Tells s h.held FindsRoom (room_at h x o) later
      at_found later (Some found) = tt
      at_found later None = by_blocks later (nat_lt x.blocks 16)

  pub finish_told : (room : Room) (f : Finish) (before : List Sector) → IsRoomTold room → Ends (finish_in h room f) before
  finish_told (Inside q) f before r = tt
  finish_told NoRoom f before r = tt
  finish_told (InBlock k) f before r = go (must_clear h k)
    where
      go : (b : Bool) → Ends (if b then Got (Clears k f.locks) else ReadDirectory k 0 (λ p. Got (Finishes f))) before
      go true = tt
      go false = (inr r, tt)

  -- a plan that goes on with the room
  pub room_then : (i : ℕ) (x : StoredNode) → s.inode i ≡ Some x → (next : Room → Ask Plan) (before : List Sector) → Contains before (InodeAt i) → ((later : List Sector) (room : Room) → IsRoomTold room → Ends (next room) later) → Ends (bind (find_room h x) next) before
  room_then i x is next before c f = tells_then s h.held FindsRoom (λ later v. Unit {0}) (find_room h x) next before (room_told i x is before c) f

  -- a look at each held segment
  pub held_told : (p : Ask Plan) (before : List Sector) → ((later : List Sector) → Among before later → Ends p later) → Ends (read_held h p) before
  held_told p before f = tells_segments s h.held (λ later v. Unit {0}) (keys_of h.held) p before f

  -- ---- walks

  -- the inodes of these directories were looked at
  abbrev pub AreSeen : List ℕ → List Sector → Type 0
  AreSeen dirs later = (j : ℕ) → Contains dirs j → Contains later (InodeAt j)

  pub more_seen : (dirs : List ℕ) (y : Sector) (later : List Sector) → AreSeen dirs later → AreSeen dirs (y ∷ later)
  more_seen dirs y later a j c = has_more y (InodeAt j) later (a j c)

  abbrev Walks : List Sector → Walked → Type 0
  Walks later w = AreSeen w.dirs later

  module _ (dirs : List ℕ) (i : ℕ) (x : StoredNode) (name : List ℕ) (is : s.inode i ≡ Some x) where
    both_seen : (later : List Sector) → AreSeen dirs later → Contains later (InodeAt i) → AreSeen (dirs ++ i ∷ []) later
    both_seen later a c j d = ⊎_elim (λ e. a j e) (λ e. ⊎_elim (λ q. subst (λ k. Contains later (InodeAt k)) q c) (λ z. absurd (not_in_none j z)) (has_cases i j [] e)) (either dirs (i ∷ []) j d)

    look_told : (before : List Sector) → AreSeen dirs before → Contains before (InodeAt i) → Tells s h.held Walks (look_up dirs i x name) before
    look_told before a c =
        tells_then s h.held (Keeps before) Walks (search x.small (is_named name) 0 (8 * x.blocks)) (λ found. Got (record { spot = spot_by i x name found; dirs = dirs ++ i ∷ [] })) before
        (search_told before i x is (is_named name) (8 * x.blocks) 0 before (same_among before) c (omega arith))
        (λ later found e. both_seen later (λ j d. e (InodeAt j) (a j d)) (e (InodeAt i) c))

    below_told : (before : List Sector) → AreSeen dirs before → Contains before (InodeAt i) → Tells s h.held Walks (in_inode dirs i name (Some x)) before
    below_told before a c = go (x.kind == 2)
      where
        go : (b : Bool) → Tells s h.held Walks (if b then look_up dirs i x name else Got (record { spot = Lost reply.NotDir; dirs = dirs })) before
        go true = look_told before a c
        go false = a

    step_told : (before : List Sector) → AreSeen dirs before → Tells s h.held Walks (ReadInode i (in_inode dirs i name)) before
    step_told before a =
        (inl (x, is), subst (λ o. Tells s h.held Walks (in_inode dirs i name o) (InodeAt i ∷ before)) (sym is) (below_told (InodeAt i ∷ before) (more_seen dirs (InodeAt i) before a) (has_head (InodeAt i) before)))

  onward_told : (next : List ℕ → ℕ → Ask Walked) (dirs : List ℕ) (before : List Sector) → AreSeen dirs before → ((j : ℕ) → HasKind s j 2 → Tells s h.held Walks (next dirs j) before) → (v : Spot) → SpotStands h s n disk dirs v →
      Tells s h.held Walks (onward next dirs v) before
  onward_told next dirs before a each AtRoot t = each 0 disk.root
  onward_told next dirs before a each (AtGap i x name) t = a
  onward_told next dirs before a each (Lost r) t = a
  onward_told next dirs before a each (AtName i x name q e) t = go (e.kind == 2) refl
    where
      go : (b : Bool) → e.kind == 2 ≡ b → Tells s h.held Walks (if b then next dirs e.inode else Got (record { spot = Lost reply.NotDir; dirs = dirs })) before
      go true p = each e.inode (subst (HasKind s e.inode) (kind_two e.kind p) t.2)
      go false p = a

  from_told : (path : List (List ℕ)) (dirs : List ℕ) (i : ℕ) → HasKind s i 2 → (before : List Sector) → AreSeen dirs before → Tells s h.held Walks (walk_from dirs i path) before
  from_told [] dirs i k before a = a
  from_told (name ∷ []) dirs i k before a = step_told dirs i k.node name k.is before a
  from_told (name ∷ next ∷ names) dirs i k before a =
      let p : Ask Walked = ReadInode i (in_inode dirs i name) in
      let on : List ℕ → ℕ → Ask Walked = λ more j. walk_from more j (next ∷ names) in
      let first = step_stands h s n disk dirs i k.node name k.is k.kind_is in
      tells_then s h.held (λ later w. Walks later w × (w ≡ run p s)) Walks p (λ w. onward on w.dirs w.spot) before (tells_value s h.held Walks p before (step_told dirs i k.node name k.is before a))
      (λ later w e. onward_told on w.dirs later e.0 (λ j d. from_told (next ∷ names) w.dirs j d later e.0) w.spot (subst (λ (w : Walked). SpotStands h s n disk w.dirs w.spot) (sym e.1) first.spot))

  -- a plan behind a walk
  pub walk_then : (path : List (List ℕ)) (f : Walked → Ask Plan) (before : List Sector) → ((later : List Sector) (w : Walked) → AreSeen w.dirs later → SpotStands h s n disk w.dirs w.spot → Ends (f w) later) → Ends (bind (walk path) f) before
  walk_then path f before g =
      tells_then s h.held (λ later w. Walks later w × (w ≡ run (walk path) s)) (λ later v. Unit {0}) (walk path) f before
      (tells_value s h.held Walks (walk path) before (from_told path [] 0 disk.root before (λ j c. absurd (not_in_none j c))))
      (λ later w e. g later w e.0 (subst (λ (w : Walked). SpotStands h s n disk w.dirs w.spot) (sym e.1) (walk_stands h s n disk path).spot))
