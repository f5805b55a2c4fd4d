-- What is known to be zero decides only whether a block has to be cleared: a finished plan is the same where all blocks count as clear.
use Rattle.std.proofs.Common.{ℕ, ◌≡◌, ◌-◌, ◌*◌, ◌==◌, ◌&&◌, not, Bool, true, false, nat_le, nat_lt, max, if◌then◌else◌, Option, Some, None, List, [], ◌∷◌, ◌++◌, length, slice_index, refl, sym, ap, ap₂, ◌∙◌, subst}
use Rattle.std.proofs.Math.Path.{fun_ext}
use Rattle.std.specs.Map.{keys_of}
use Rattle.frang_base.specs.declared.op.Op.{Op}
use Rattle.frang_base.specs.declared.op.Op.TheVariants as op
use Rattle.frang_base.specs.declared.reply.Reply.TheVariants as reply
use Rattle.tree_definitions.specs.declared.node.Node.{Node}
use Rattle.tree_definitions.specs.declared.node.Node.TheVariants.{Dir, File, Link}
use Rattle.tree_definitions.specs.Perform.{Step, Goes, Stops}
use Rattle.tree_definitions.specs.Tree.{small_blocks_of}
use Rattle.disk_definitions.specs.Store.{Store, StoredNode}
use Rattle.disk_definitions.specs.Held.{state_in}
use Rattle.disk_definitions.specs.Picks.{is_in_state, picked_inode, picked_many, picked_large}
use Rattle.disk_definitions.specs.Ask.{InodeAt, SegmentAt, Ask, Got, ReadInode, ReadDirectory, bind, run, looks, read_segments}
use Rattle.disk_definitions.specs.Walks.{Spot, Found, search, is_vacant, walk}
use Rattle.disk_definitions.specs.Walks.Spot.{AtRoot, AtName, AtGap, Lost}
use Rattle.disk_definitions.specs.Plans.{Hand, Plan, Finish, Room, refused, read_held, room_at, find_room, finish_in, is_full}
use Rattle.disk_definitions.specs.Plans.Plan.{Lacks, Clears, Finishes}
use Rattle.disk_definitions.specs.Plans.Room.{Inside, InBlock, NoRoom}
use Rattle.disk_definitions.specs.NamePlans.{made_by, making_in, making_with, making, plan_made, linked_by, linking_in, linking_node, linking_to, linking, plan_linked, Moving, moved_within, moved_between, moving_in, moving_to, goes_through, renaming_to, renaming, plan_renamed}
use Rattle.disk_definitions.specs.FilePlans.{Writing, end_of, writing_in, writing_picked, writing_small, writing_large, writing, plan_of_file}
use Rattle.disk_definitions.specs.PlanOf.{plan_of}
use Rattle.plan_laws.proofs.Asking.{run-bind, looks-bind}
use Rattle.disk_definitions.specs.Lines.{resolved, with_trail, plan_step, plan_of_line}
use Rattle.line_histories.specs.Planners.{cleared, ClearsAndGoesOn}

-- what is behind a trail is finished where it is itself
unbehind : (trail : List ℕ) (p : Plan) (f : Finish) → with_trail trail p ≡ Finishes f → (g : Finish) × (p ≡ Finishes g)
unbehind trail Lacks f e = absurd (cc)
unbehind trail (Clears k locks) f e = absurd (cc)
unbehind trail (Finishes g) f e = (g, refl)

module _ (s : Store) where
  -- where the one finishes, the other finishes alike, and has looked at the same
  abbrev pub Follows : Ask Plan → Ask Plan → Type 0
  Follows p q = (f : Finish) → run p s ≡ Finishes f → (run q s ≡ Finishes f) × (looks q s ≡ looks p s)

  itself : (p : Ask Plan) → Follows p p
  itself p f e = (e, refl)

  alike : (p q : Ask Plan) → q ≡ p → Follows p q
  alike p q e = subst (Follows p) (sym e) (itself p)

  follows_bind : {A : Type 0} (p : Ask A) (f g : A → Ask Plan) → ((a : A) → Follows (f a) (g a)) → Follows (bind p f) (bind p g)
  follows_bind p f g each end e =
      let r = each (run p s) end (sym (run-bind p f s) ∙ e) in
      (run-bind p g s ∙ r.0, looks-bind p g s ∙ ap (λ xs. looks p s ++ xs) r.1 ∙ sym (looks-bind p f s))

  follows_inode : (i : ℕ) (f g : Option StoredNode → Ask Plan) → ((said : Option StoredNode) → Follows (f said) (g said)) → Follows (ReadInode i f) (ReadInode i g)
  follows_inode i f g each end e = let r = each (s.inode i) end e in (r.0, ap (λ xs. InodeAt i ∷ xs) r.1)

  follows_segments : (ks : List ℕ) (p q : Ask Plan) → Follows p q → Follows (read_segments ks p) (read_segments ks q)
  follows_segments [] p q h end e = h end e
  follows_segments (k ∷ ks) p q h end e = let r = follows_segments ks p q h end e in (r.0, ap (λ xs. SegmentAt k ∷ xs) r.1)

  module _ (h : Hand) where
    abbrev g : Hand
    g = cleared h

    finish_follows : (room : Room) (f : Finish) → Follows (finish_in h room f) (finish_in g room f)
    finish_follows NoRoom f = itself (Got (Finishes f))
    finish_follows (Inside q) f = itself (Got (Finishes f))
    finish_follows (InBlock k) f = go (is_in_state 0 (state_in h.held k)) (h.zeroed k)
      where
        rest : Ask Plan
        rest = ReadDirectory k 0 (λ slots. Got (Finishes f))

        go : (a b : Bool) → Follows (if a && not b then Got (Clears k f.locks) else rest) (if a && not a then Got (Clears k f.locks) else rest)
        go true true = itself rest
        go true false = λ end e. absurd (cc)
        go false b = itself rest

    -- rooms are the same
    room_same : (x : StoredNode) (o : Option Found) → room_at g x o ≡ room_at h x o
    room_same x None = refl
    room_same x (Some found) = refl

    rooms_same : (x : StoredNode) → find_room g x ≡ find_room h x
    rooms_same x = ap (bind (search x.small is_vacant 0 (8 * x.blocks))) (fun_ext (room_same x))

    in_room : (x : StoredNode) (f k : Room → Ask Plan) → ((room : Room) → Follows (f room) (k room)) → Follows (bind (find_room h x) f) (bind (find_room g x) k)
    in_room x f k each = subst (λ q. Follows (bind (find_room h x) f) (bind q k)) (sym (rooms_same x)) (follows_bind (find_room h x) f k each)

    -- ---- create, mkdir, symlink
    making_in_follows : (i : ℕ) (x : StoredNode) (name : List ℕ) (birth : ℕ) (node : Node) (dirs : List ℕ) (j : ℕ) (room : Room) → Follows (making_in h i x name birth node dirs j room) (making_in g i x name birth node dirs j room)
    making_in_follows i x name birth node dirs j NoRoom = itself (making_in h i x name birth node dirs j NoRoom)
    making_in_follows i x name birth node dirs j (Inside q) = itself (making_in h i x name birth node dirs j (Inside q))
    making_in_follows i x name birth node dirs j (InBlock k) =
        let f = made_by i x name birth node dirs j (InBlock k) in follows_inode j (λ free. finish_in h (InBlock k) f) (λ free. finish_in g (InBlock k) f) (λ free. finish_follows (InBlock k) f)

    making_with_follows : (i : ℕ) (x : StoredNode) (name : List ℕ) (birth : ℕ) (node : Node) (dirs : List ℕ) (o : Option ℕ) → Follows (making_with h i x name birth node dirs o) (making_with g i x name birth node dirs o)
    making_with_follows i x name birth node dirs None = itself (making_with h i x name birth node dirs None)
    making_with_follows i x name birth node dirs (Some j) = in_room x (making_in h i x name birth node dirs j) (making_in g i x name birth node dirs j) (making_in_follows i x name birth node dirs j)

    making_follows : (birth : ℕ) (node : Node) (dirs : List ℕ) (v : Spot) → Follows (making h birth node dirs v) (making g birth node dirs v)
    making_follows birth node dirs AtRoot = itself (refused reply.Exist dirs)
    making_follows birth node dirs (Lost r) = itself (refused r dirs)
    making_follows birth node dirs (AtName i x name q e) = itself (refused reply.Exist dirs)
    making_follows birth node dirs (AtGap i x name) = go (is_full x)
      where
        go : (b : Bool) → Follows (if b then refused reply.DirFull dirs else read_held h (making_with h i x name birth node dirs (picked_inode h.held))) (if b then refused reply.DirFull dirs else read_held g (making_with g i x name birth node dirs (picked_inode h.held)))
        go true = itself (refused reply.DirFull dirs)
        go false = follows_segments (keys_of h.held) (making_with h i x name birth node dirs (picked_inode h.held)) (making_with g i x name birth node dirs (picked_inode h.held)) (making_with_follows i x name birth node dirs (picked_inode h.held))

    made_follows : (birth : ℕ) (node : Node) (path : List (List ℕ)) → Follows (plan_made h birth node path) (plan_made g birth node path)
    made_follows birth node path = follows_bind (walk path) (λ w. making h birth node w.dirs w.spot) (λ w. making g birth node w.dirs w.spot) (λ w. making_follows birth node w.dirs w.spot)

    -- ---- link
    linking_in_follows : (i : ℕ) (x : StoredNode) (name : List ℕ) (j : ℕ) (y : StoredNode) (dirs : List ℕ) (room : Room) → Follows (linking_in h i x name j y dirs room) (linking_in g i x name j y dirs room)
    linking_in_follows i x name j y dirs NoRoom = itself (linking_in h i x name j y dirs NoRoom)
    linking_in_follows i x name j y dirs (Inside q) = itself (linking_in h i x name j y dirs (Inside q))
    linking_in_follows i x name j y dirs (InBlock k) = finish_follows (InBlock k) (linked_by i x name j y dirs (InBlock k))

    linking_node_follows : (i : ℕ) (x : StoredNode) (name : List ℕ) (j : ℕ) (dirs : List ℕ) (o : Option StoredNode) → Follows (linking_node h i x name j dirs o) (linking_node g i x name j dirs o)
    linking_node_follows i x name j dirs None = itself (refused reply.NoEnt dirs)
    linking_node_follows i x name j dirs (Some y) = go (nat_le 1000 y.links) (is_full x)
      where
        go : (a b : Bool) → Follows (if a then refused reply.MLink (dirs ++ j ∷ []) else (if b then refused reply.DirFull (dirs ++ j ∷ []) else bind (find_room h x) (linking_in h i x name j y dirs)))
            (if a then refused reply.MLink (dirs ++ j ∷ []) else (if b then refused reply.DirFull (dirs ++ j ∷ []) else bind (find_room g x) (linking_in g i x name j y dirs)))
        go true b = itself (refused reply.MLink (dirs ++ j ∷ []))
        go false true = itself (refused reply.DirFull (dirs ++ j ∷ []))
        go false false = in_room x (linking_in h i x name j y dirs) (linking_in g i x name j y dirs) (linking_in_follows i x name j y dirs)

    linking_to_follows : (j : ℕ) (dirs : List ℕ) (v : Spot) → Follows (linking_to h j dirs v) (linking_to g j dirs v)
    linking_to_follows j dirs AtRoot = itself (refused reply.Exist dirs)
    linking_to_follows j dirs (Lost r) = itself (refused r dirs)
    linking_to_follows j dirs (AtName i x name q e) = itself (refused reply.Exist dirs)
    linking_to_follows j dirs (AtGap i x name) = follows_inode j (linking_node h i x name j dirs) (linking_node g i x name j dirs) (linking_node_follows i x name j dirs)

    linking_follows : (to : List (List ℕ)) (dirs : List ℕ) (v : Spot) → Follows (linking h to dirs v) (linking g to dirs v)
    linking_follows to dirs AtRoot = itself (refused reply.IsDir dirs)
    linking_follows to dirs (Lost r) = itself (refused r dirs)
    linking_follows to dirs (AtGap i x name) = itself (refused reply.NoEnt dirs)
    linking_follows to dirs (AtName i x name q e) = go (e.kind == 2)
      where
        go : (b : Bool) → Follows (if b then refused reply.IsDir dirs else bind (walk to) (λ w. linking_to h e.inode (dirs ++ w.dirs) w.spot)) (if b then refused reply.IsDir dirs else bind (walk to) (λ w. linking_to g e.inode (dirs ++ w.dirs) w.spot))
        go true = itself (refused reply.IsDir dirs)
        go false = follows_bind (walk to) (λ w. linking_to h e.inode (dirs ++ w.dirs) w.spot) (λ w. linking_to g e.inode (dirs ++ w.dirs) w.spot) (λ w. linking_to_follows e.inode (dirs ++ w.dirs) w.spot)

    linked_follows : (path to : List (List ℕ)) → Follows (plan_linked h path to) (plan_linked g path to)
    linked_follows path to = follows_bind (walk path) (λ w. linking h to w.dirs w.spot) (λ w. linking g to w.dirs w.spot) (λ w. linking_follows to w.dirs w.spot)

    -- ---- rename
    moving_in_follows : (moved : Moving) (i : ℕ) (x : StoredNode) (name : List ℕ) (dirs : List ℕ) (room : Room) → Follows (moving_in h moved i x name dirs room) (moving_in g moved i x name dirs room)
    moving_in_follows moved i x name dirs NoRoom = itself (moving_in h moved i x name dirs NoRoom)
    moving_in_follows moved i x name dirs (Inside q) = itself (moving_in h moved i x name dirs (Inside q))
    moving_in_follows moved i x name dirs (InBlock k) = finish_follows (InBlock k) (moved_between moved i x name dirs (InBlock k))

    moving_to_follows : (moved : Moving) (i : ℕ) (x : StoredNode) (name : List ℕ) (dirs : List ℕ) → Follows (moving_to h moved i x name dirs) (moving_to g moved i x name dirs)
    moving_to_follows moved i x name dirs = go (i == moved.dir) (is_full x)
      where
        go : (a b : Bool) → Follows (if a then Got (Finishes (moved_within moved name dirs)) else (if b then refused reply.DirFull dirs else bind (find_room h x) (moving_in h moved i x name dirs)))
            (if a then Got (Finishes (moved_within moved name dirs)) else (if b then refused reply.DirFull dirs else bind (find_room g x) (moving_in g moved i x name dirs)))
        go true b = itself (Got (Finishes (moved_within moved name dirs)))
        go false true = itself (refused reply.DirFull dirs)
        go false false = in_room x (moving_in h moved i x name dirs) (moving_in g moved i x name dirs) (moving_in_follows moved i x name dirs)

    renaming_to_follows : (moved : Moving) (to_dirs dirs : List ℕ) (v : Spot) → Follows (renaming_to h moved to_dirs dirs v) (renaming_to g moved to_dirs dirs v)
    renaming_to_follows moved to_dirs dirs AtRoot = itself (refused reply.Inval dirs)
    renaming_to_follows moved to_dirs dirs (Lost r) = itself (refused r dirs)
    renaming_to_follows moved to_dirs dirs (AtName i x name q e) = itself (renaming_to h moved to_dirs dirs (AtName i x name q e))
    renaming_to_follows moved to_dirs dirs (AtGap i x name) = go (goes_through moved to_dirs)
      where
        go : (b : Bool) → Follows (if b then refused reply.Inval dirs else moving_to h moved i x name dirs) (if b then refused reply.Inval dirs else moving_to g moved i x name dirs)
        go true = itself (refused reply.Inval dirs)
        go false = moving_to_follows moved i x name dirs

    renaming_follows : (to : List (List ℕ)) (dirs : List ℕ) (v : Spot) → Follows (renaming h to dirs v) (renaming g to dirs v)
    renaming_follows to dirs AtRoot = itself (refused reply.Inval dirs)
    renaming_follows to dirs (Lost r) = itself (refused r dirs)
    renaming_follows to dirs (AtGap i x name) = itself (refused reply.NoEnt dirs)
    renaming_follows to dirs (AtName i x name q e) =
        let moved : Moving = record { dir = i; directory = x; slot = q; entry = e } in
        follows_bind (walk to) (λ w. renaming_to h moved w.dirs (dirs ++ w.dirs) w.spot) (λ w. renaming_to g moved w.dirs (dirs ++ w.dirs) w.spot) (λ w. renaming_to_follows moved w.dirs (dirs ++ w.dirs) w.spot)

    renamed_follows : (path to : List (List ℕ)) → Follows (plan_renamed h path to) (plan_renamed g path to)
    renamed_follows [] to = itself (refused reply.Inval [])
    renamed_follows (name ∷ names) [] = itself (refused reply.Inval [])
    renamed_follows (name ∷ names) (new ∷ news) =
        follows_bind (walk (name ∷ names)) (λ w. renaming h (new ∷ news) w.dirs w.spot) (λ w. renaming g (new ∷ news) w.dirs w.spot) (λ w. renaming_follows (new ∷ news) w.dirs w.spot)

    -- ---- write and fill, which are the same
    module _ (w : Writing) (i : ℕ) (touched : List ℕ) (x : StoredNode) where
      picked_same : (o : Option ℕ) (picks : Option (List ℕ)) → writing_picked g w i touched x o picks ≡ writing_picked h w i touched x o picks
      picked_same o None = refl
      picked_same o (Some picks) = refl

      small_same : (o : Option ℕ) → writing_small g w i touched x o ≡ writing_small h w i touched x o
      small_same o =
          let more = small_blocks_of (max x.size (end_of w)) - x.blocks in
          ap (λ p. if more == 0 then writing_in w i touched x [] o else read_held h p) (picked_same o (picked_many h.held more))

      large_same : (o : Option ℕ) → writing_large g w i touched x o ≡ writing_large h w i touched x o
      large_same None = refl
      large_same (Some k) = small_same (Some k)

      writing_same : writing g w i touched x ≡ writing h w i touched x
      writing_same = ap₂ (λ p q. if nat_lt x.size w.off then refused reply.BadOffset touched else (if nat_lt 1114112 (end_of w) then refused reply.TooBig touched else (if nat_lt 65536 (end_of w) && x.large == 0 then read_held h p else q)))
          (large_same (picked_large h.held)) (small_same None)

    file_same : (w : Writing) (path : List (List ℕ)) → plan_of_file path (writing g w) ≡ plan_of_file path (writing h w)
    file_same w path = ap (plan_of_file path) (fun_ext (λ i. fun_ext (λ touched. fun_ext (λ x. writing_same w i touched x))))

    -- ---- operation by operation
    plan_follows : (o : Op) (birth when : ℕ) → Follows (plan_of h birth when o) (plan_of g birth when o)
    plan_follows (op.Create path) birth when = made_follows birth (File [] 1 0) path
    plan_follows (op.Mkdir path) birth when = made_follows birth (Dir [] 0) path
    plan_follows (op.Symlink path target) birth when = made_follows birth (Link target 1) path
    plan_follows (op.Link path to) birth when = linked_follows path to
    plan_follows (op.Unlink path) birth when = itself (plan_of h birth when (op.Unlink path))
    plan_follows (op.Rmdir path) birth when = itself (plan_of h birth when (op.Rmdir path))
    plan_follows (op.Rename path to) birth when = renamed_follows path to
    plan_follows (op.Write path off bytes) birth when =
        alike (plan_of h birth when (op.Write path off bytes)) (plan_of g birth when (op.Write path off bytes)) (file_same (record { off = off; len = length bytes; when = when; byte = λ j. slice_index bytes (j - off) }) path)
    plan_follows (op.Fill path off len value) birth when =
        alike (plan_of h birth when (op.Fill path off len value)) (plan_of g birth when (op.Fill path off len value)) (file_same (record { off = off; len = len; when = when; byte = λ j. value }) path)
    plan_follows (op.Truncate path len) birth when = itself (plan_of h birth when (op.Truncate path len))
    plan_follows (op.Read path off len) birth when = itself (plan_of h birth when (op.Read path off len))
    plan_follows (op.Stat path) birth when = itself (plan_of h birth when (op.Stat path))
    plan_follows (op.List path) birth when = itself (plan_of h birth when (op.List path))
    plan_follows (op.Readlink path) birth when = itself (plan_of h birth when (op.Readlink path))
    plan_follows (op.Time path) birth when = itself (plan_of h birth when (op.Time path))
    plan_follows op.Sync birth when = itself (plan_of h birth when op.Sync)
    plan_follows op.Mount birth when = itself (plan_of h birth when op.Mount)
    plan_follows op.Unmount birth when = itself (plan_of h birth when op.Unmount)
    plan_follows op.Crash birth when = itself (plan_of h birth when op.Crash)
    plan_follows (op.CrashAt k) birth when = itself (plan_of h birth when (op.CrashAt k))
    plan_follows (op.CutAt k) birth when = itself (plan_of h birth when (op.CutAt k))
    plan_follows op.Stall birth when = itself (plan_of h birth when op.Stall)

    -- ---- lines
    trail_follows : (trail : List ℕ) (p q : Ask Plan) → Follows p q → Follows (bind p (λ plan. Got (with_trail trail plan))) (bind q (λ plan. Got (with_trail trail plan)))
    trail_follows trail p q each end e =
        let f : Plan → Ask Plan = λ plan. Got (with_trail trail plan) in
        let from : with_trail trail (run p s) ≡ Finishes end = sym (run-bind p f s) ∙ e in
        let inner = unbehind trail (run p s) end from in
        let r = each inner.0 inner.1 in
        (run-bind q f s ∙ ap (with_trail trail) (r.0 ∙ sym inner.1) ∙ from, looks-bind q f s ∙ ap (λ xs. xs ++ []) r.1 ∙ sym (looks-bind p f s))

    step_follows : (birth when : ℕ) (trail : List ℕ) (step : Step) → Follows (plan_step h birth when trail step) (plan_step g birth when trail step)
    step_follows birth when trail (Goes o) = trail_follows trail (plan_of h birth when o) (plan_of g birth when o) (plan_follows o birth when)
    step_follows birth when trail (Stops r) = itself (plan_step h birth when trail (Stops r))

    line_follows : (o : Op) (birth when : ℕ) → Follows (plan_of_line h birth when o) (plan_of_line g birth when o)
    line_follows o birth when = follows_bind (resolved o) (λ w. plan_step h birth when w.trail w.step) (λ w. plan_step g birth when w.trail w.step) (λ w. step_follows birth when w.trail w.step)

pub lines_clear : ClearsAndGoesOn plan_of_line
lines_clear o h s birth when f e = line_follows s h o birth when f e
