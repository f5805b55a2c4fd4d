-- Each plan finishes with a reply of the line's own, and the plan of a look changes nothing: whatever is said to what they ask.
use Rattle.std.proofs.Common.{ℕ, zero, suc, ◌≡◌, ◌+◌, ◌-◌, ◌*◌, ◌/◌, ◌%◌, ◌==◌, ◌&&◌, not, Bool, true, false, nat_le, nat_lt, min, max, length, if◌then◌else◌, Option, Some, None, List, [], ◌∷◌, ◌++◌, map, take, drop, slice_index, refl}
use Rattle.std.specs.Map.{keys_of}
use Rattle.frang_base.specs.declared.op.Op.{Op}
use Rattle.frang_base.specs.declared.op.Op.TheVariants as op
use Rattle.frang_base.specs.declared.reply.Reply.{Reply}
use Rattle.frang_base.specs.declared.reply.Reply.TheVariants as reply
use Rattle.tree_definitions.specs.Apply.{time_of}
use Rattle.tree_definitions.specs.Numbers.{below}
use Rattle.tree_definitions.specs.Transcript.{may_change}
use Rattle.tree_definitions.specs.Tree.{small_blocks_of}
use Rattle.tree_definitions.specs.declared.node.Node.{Node}
use Rattle.tree_definitions.specs.declared.node.Node.TheVariants.{Dir, File, Link}
use Rattle.disk_definitions.specs.Store.{StoredNode, StoredEntry}
use Rattle.disk_definitions.specs.Picks.{picked_inode, picked_many, picked_large}
use Rattle.disk_definitions.specs.Edits.{Edit}
use Rattle.disk_definitions.specs.Ask.{Ask, Got, ReadInode, ReadDirectory, ReadBytes, ReadLarge, bind}
use Rattle.disk_definitions.specs.Walks.{Spot, Target, walk, at_spot, at_target}
use Rattle.disk_definitions.specs.Walks.Spot.{AtRoot, AtName, AtGap, Lost}
use Rattle.disk_definitions.specs.Plans.{Hand, Plan, Finish, Room, refuse, refused, none_left, read_held, find_room, finish_in, must_clear, is_full}
use Rattle.disk_definitions.specs.Plans.Plan.{Lacks, Clears, Finishes}
use Rattle.disk_definitions.specs.Plans.Room.{Inside, InBlock, NoRoom}
use Rattle.disk_definitions.specs.NamePlans.{made_by, making_in, making_with, making, plan_made, linked_by, linking_in, linking_node, linking_to, linking, plan_linked, fewer_segments, finish_over, removed_by, unlinking_node, unlinking, plan_unlinked, removing_node, removing, plan_dir_removed, Moving, moved_onto_by, replacing_node, moving_onto, moved_within, moved_between, moving_in, moving_to, goes_through, renaming_to, renaming, plan_renamed}
use Rattle.disk_definitions.specs.FilePlans.{Writing, end_of, keeps_bytes, mixed, read_sector, set_sector, write_sector, write_sectors, sectors_met, resized, written_by, writing_in, directory_blocks, writing_picked, writing_small, writing_large, writing, cut_by, cut_segments, cutting, read_sectors, showing, at_file, with_file, plan_of_file}
use Rattle.disk_definitions.specs.LookPlans.{plan_of_node, with_inode, at_inode, described, timed, listing, sorted_names, read_entries, entries_of}
use Rattle.disk_definitions.specs.PlanOf.{plan_of}
use Rattle.core_transcripts.proofs.Always.{Always, always_after, always_bind, always_segments}
use Rattle.core_transcripts.proofs.Walking.{IsPlain, SpotIsPlain, WalkIsPlain, walk_plain}

-- ---- what refusals have, plans have that only look

module _ (P : Plan → Type 0) (refusal : (r : Reply) (touched : List ℕ) → IsPlain r → P (refuse r touched)) where
  module _ (next : Target → Ask Plan) (each : (t : Target) → Always P (next t)) where
    spot_has : (v : Spot) (dirs : List ℕ) → SpotIsPlain v → Always P (at_spot v dirs refused next)
    spot_has AtRoot dirs f = each (record { inode = 0; kind = 2; dirs = dirs })
    spot_has (AtName i x name q e) dirs f = each (record { inode = e.inode; kind = e.kind; dirs = dirs })
    spot_has (AtGap i x name) dirs f = refusal reply.NoEnt dirs tt
    spot_has (Lost r) dirs f = refusal r dirs f

    node_has : (path : List (List ℕ)) → Always P (bind (walk path) (λ walked. at_target walked refused next))
    node_has path = always_bind WalkIsPlain P (walk path) (λ walked. at_target walked refused next) (walk_plain path) (λ w f. spot_has w.spot w.dirs f)

  inode_has : (next : List ℕ → StoredNode → Ask Plan) → ((touched : List ℕ) (x : StoredNode) → Always P (next touched x)) → (t : Target) → Always P (at_inode next t)
  inode_has next each t = λ said. go said
    where
      go : (o : Option StoredNode) → Always P (with_inode next (t.dirs ++ t.inode ∷ []) o)
      go None = refusal reply.NoEnt (t.dirs ++ t.inode ∷ []) tt
      go (Some x) = each (t.dirs ++ t.inode ∷ []) x

  kind_has : (next : Target → Ask Plan) (want : ℕ) (r : Reply) → IsPlain r → ((t : Target) → Always P (next t)) → (t : Target) → Always P (if t.kind == want then next t else refused r t.dirs)
  kind_has next want r plain each t = go (t.kind == want)
    where
      go : (b : Bool) → Always P (if b then next t else refused r t.dirs)
      go true = each t
      go false = refusal r t.dirs plain

  file_has : (next : ℕ → List ℕ → StoredNode → Ask Plan) → ((i : ℕ) (touched : List ℕ) (x : StoredNode) → Always P (next i touched x)) → (t : Target) → Always P (at_file next t)
  file_has next each t = go (t.kind == 2) (t.kind == 1)
    where
      touched : List ℕ
      touched = t.dirs ++ t.inode ∷ []

      file : (x : StoredNode) (b : Bool) → Always P (if b then next t.inode touched x else refused reply.Inval touched)
      file x true = each t.inode touched x
      file x false = refusal reply.Inval touched tt

      node : (o : Option StoredNode) → Always P (with_file (next t.inode touched) touched o)
      node None = refusal reply.NoEnt touched tt
      node (Some x) = file x (x.kind == 1)

      go : (a b : Bool) → Always P (if a then refused reply.IsDir t.dirs else (if b then ReadInode t.inode (with_file (next t.inode touched) touched) else refused reply.Inval t.dirs))
      go true b = refusal reply.IsDir t.dirs tt
      go false false = refusal reply.Inval t.dirs tt
      go false true = λ said. node said

  -- ---- looks

  plain_described : (x : StoredNode) → IsPlain (described x)
  plain_described x = go (x.kind == 1) (x.kind == 2)
    where
      go : (a b : Bool) → IsPlain (if a then reply.File x.size x.links else (if b then reply.Dir x.size else reply.Symlink x.size))
      go true b = tt
      go false true = tt
      go false false = tt

  plain_timed : (x : StoredNode) → IsPlain (timed x)
  plain_timed x = go (x.kind == 1) (x.kind == 2)
    where
      go : (a b : Bool) → IsPlain (if a then time_of x.when else (if b then reply.IsDir else reply.Inval))
      go true b = tt
      go false true = tt
      go false false = tt

  entries_have : (small : ℕ → ℕ) (n j : ℕ) (next : List StoredEntry → Ask Plan) → ((entries : List StoredEntry) → Always P (next entries)) → Always P (read_entries small j n next)
  entries_have small zero j next each = each []
  entries_have small (suc n) j next each = λ slots. entries_have small n (j + 1) (λ rest. next (entries_of slots ++ rest)) (λ rest. each (entries_of slots ++ rest))

  listing_has : (touched : List ℕ) (x : StoredNode) → Always P (listing touched x)
  listing_has touched x =
      entries_have x.small (8 * x.blocks) 0 (λ entries. refused (reply.Names (sorted_names entries)) touched) (λ entries. refusal (reply.Names (sorted_names entries)) touched tt)

  sector_has : (x : StoredNode) (t : ℕ) (next : (ℕ → ℕ) → Ask Plan) → ((f : ℕ → ℕ) → Always P (next f)) → Always P (read_sector x t next)
  sector_has x t next each = go (nat_lt t 128)
    where
      go : (b : Bool) → Always P (if b then ReadBytes (x.small (t / 8)) (t % 8) next else ReadLarge (x.large - 1) (t - 128) next)
      go true = each
      go false = each

  sectors_have : (x : StoredNode) (n t : ℕ) (next : List ℕ → Ask Plan) → ((bytes : List ℕ) → Always P (next bytes)) → Always P (read_sectors x t n next)
  sectors_have x zero t next each = each []
  sectors_have x (suc n) t next each =
      sector_has x t (λ bytes. read_sectors x (t + 1) n (λ more. next (map bytes (below 512) ++ more)))
      (λ bytes. sectors_have x n (t + 1) (λ more. next (map bytes (below 512) ++ more)) (λ more. each (map bytes (below 512) ++ more)))

  showing_has : (off len i : ℕ) (touched : List ℕ) (x : StoredNode) → Always P (showing off len i touched x)
  showing_has off len i touched x = go (nat_lt x.size off)
    where
      shown : ℕ
      shown = min len (x.size - off)

      next : List ℕ → Ask Plan
      next bytes = refused (reply.Shown (take shown (drop (off % 512) bytes))) touched

      go : (b : Bool) → Always P (if b then refused reply.BadOffset touched else read_sectors x (off / 512) (sectors_met off shown) next)
      go true = refusal reply.BadOffset touched tt
      go false = sectors_have x (sectors_met off shown) (off / 512) next (λ bytes. refusal (reply.Shown (take shown (drop (off % 512) bytes))) touched tt)

  pub read_has : (off len : ℕ) (path : List (List ℕ)) → Always P (plan_of_file path (showing off len))
  read_has off len path = node_has (at_file (showing off len)) (file_has (showing off len) (showing_has off len)) path

  pub stat_has : (path : List (List ℕ)) → Always P (plan_of_node path (at_inode (λ touched x. refused (described x) touched)))
  stat_has path =
      node_has (at_inode (λ touched x. refused (described x) touched))
      (inode_has (λ touched x. refused (described x) touched) (λ touched x. refusal (described x) touched (plain_described x))) path

  pub time_has : (path : List (List ℕ)) → Always P (plan_of_node path (at_inode (λ touched x. refused (timed x) touched)))
  time_has path =
      node_has (at_inode (λ touched x. refused (timed x) touched)) (inode_has (λ touched x. refused (timed x) touched) (λ touched x. refusal (timed x) touched (plain_timed x))) path

  pub list_has : (path : List (List ℕ)) → Always P (plan_of_node path (λ t. if t.kind == 2 then at_inode listing t else refused reply.NotDir t.dirs))
  list_has path =
      node_has (λ t. if t.kind == 2 then at_inode listing t else refused reply.NotDir t.dirs) (kind_has (at_inode listing) 2 reply.NotDir tt (inode_has listing listing_has)) path

  pub link_has : (path : List (List ℕ)) →
      Always P (plan_of_node path (λ t. if t.kind == 3 then at_inode (λ touched x. refused (reply.Target x.target) touched) t else refused reply.Inval t.dirs))
  link_has path =
      node_has (λ t. if t.kind == 3 then at_inode (λ touched x. refused (reply.Target x.target) touched) t else refused reply.Inval t.dirs)
      (kind_has (at_inode (λ touched x. refused (reply.Target x.target) touched)) 3 reply.Inval tt
      (inode_has (λ touched x. refused (reply.Target x.target) touched) (λ touched x. refusal (reply.Target x.target) touched tt))) path

-- ---- a plan that only looks, where it finishes, has no edits; and it never clears

abbrev pub OnlyLooks : Plan → Type 0
OnlyLooks Lacks = Unit {0}
OnlyLooks (Clears block locks) = ⊥
OnlyLooks (Finishes f) = f.edits ≡ []

pub looks_only : (h : Hand) (birth when : ℕ) (o : Op) → may_change o ≡ false → Always OnlyLooks (plan_of h birth when o)
looks_only h birth when (op.Create path) e = absurd (cc)
looks_only h birth when (op.Mkdir path) e = absurd (cc)
looks_only h birth when (op.Symlink path target) e = absurd (cc)
looks_only h birth when (op.Link path to) e = absurd (cc)
looks_only h birth when (op.Unlink path) e = absurd (cc)
looks_only h birth when (op.Rmdir path) e = absurd (cc)
looks_only h birth when (op.Rename path to) e = absurd (cc)
looks_only h birth when (op.Write path off bytes) e = absurd (cc)
looks_only h birth when (op.Fill path off len byte) e = absurd (cc)
looks_only h birth when (op.Truncate path len) e = absurd (cc)
looks_only h birth when (op.Read path off len) e = read_has OnlyLooks (λ r touched f. refl) off len path
looks_only h birth when (op.Stat path) e = stat_has OnlyLooks (λ r touched f. refl) path
looks_only h birth when (op.List path) e = list_has OnlyLooks (λ r touched f. refl) path
looks_only h birth when (op.Readlink path) e = link_has OnlyLooks (λ r touched f. refl) path
looks_only h birth when (op.Time path) e = time_has OnlyLooks (λ r touched f. refl) path
looks_only h birth when op.Sync e = refl
looks_only h birth when op.Mount e = refl
looks_only h birth when op.Unmount e = refl
looks_only h birth when op.Crash e = refl
looks_only h birth when (op.CrashAt k) e = refl
looks_only h birth when (op.CutAt k) e = refl
looks_only h birth when op.Stall e = refl

-- ---- replies of the line's own

abbrev pub SaysPlain : Plan → Type 0
SaysPlain Lacks = Unit {0}
SaysPlain (Clears block locks) = Unit {0}
SaysPlain (Finishes f) = IsPlain f.reply

abbrev Plain : Ask Plan → Type 0
Plain p = Always SaysPlain p

refusal_plain : (r : Reply) (touched : List ℕ) → IsPlain r → SaysPlain (refuse r touched)
refusal_plain r touched f = f

over_plain : (ks : List ℕ) (f : Finish) → IsPlain f.reply → Plain (finish_over ks f)
over_plain ks f plain = always_segments SaysPlain ks (Got (Finishes f)) plain

module _ (h : Hand) where
  none_plain : (r : Reply) (touched : List ℕ) → IsPlain r → Plain (none_left h r touched)
  none_plain r touched f = go h.all
    where
      go : (b : Bool) → Plain (none_left (record h { all = b }) r touched)
      go true = f
      go false = tt

  held_plain : (p : Ask Plan) → Plain p → Plain (read_held h p)
  held_plain p a = always_segments SaysPlain (keys_of h.held) p a

  finish_plain : (room : Room) (f : Finish) → IsPlain f.reply → Plain (finish_in h room f)
  finish_plain NoRoom f r = r
  finish_plain (Inside q) f r = r
  finish_plain (InBlock k) f r = go (must_clear h k)
    where
      go : (b : Bool) → Plain (if b then Got (Clears k f.locks) else ReadDirectory k 0 (λ slots. Got (Finishes f)))
      go true = tt
      go false = λ slots. r

  -- ---- create, mkdir, symlink
  module _ (birth : ℕ) (node : Node) where
    making_in_plain : (i : ℕ) (x : StoredNode) (name dirs : List ℕ) (j : ℕ) (room : Room) → Plain (making_in h i x name birth node dirs j room)
    making_in_plain i x name dirs j NoRoom = none_plain reply.NoDirBlock dirs tt
    making_in_plain i x name dirs j (Inside q) = λ free. finish_plain (Inside q) (made_by i x name birth node dirs j (Inside q)) tt
    making_in_plain i x name dirs j (InBlock k) = λ free. finish_plain (InBlock k) (made_by i x name birth node dirs j (InBlock k)) tt

    making_with_plain : (i : ℕ) (x : StoredNode) (name dirs : List ℕ) (o : Option ℕ) → Plain (making_with h i x name birth node dirs o)
    making_with_plain i x name dirs None = none_plain reply.NoInode dirs tt
    making_with_plain i x name dirs (Some j) = always_after SaysPlain (find_room h x) (making_in h i x name birth node dirs j) (λ room. making_in_plain i x name dirs j room)

    making_plain : (dirs : List ℕ) (v : Spot) → SpotIsPlain v → Plain (making h birth node dirs v)
    making_plain dirs AtRoot f = tt
    making_plain dirs (Lost r) f = f
    making_plain dirs (AtName i x name q e) f = tt
    making_plain dirs (AtGap i x name) f = go (is_full x)
      where
        go : (b : Bool) → Plain (if b then refused reply.DirFull dirs else read_held h (making_with h i x name birth node dirs (picked_inode h.held)))
        go true = tt
        go false = held_plain (making_with h i x name birth node dirs (picked_inode h.held)) (making_with_plain i x name dirs (picked_inode h.held))

    made_plain : (path : List (List ℕ)) → Plain (plan_made h birth node path)
    made_plain path = always_bind WalkIsPlain SaysPlain (walk path) (λ w. making h birth node w.dirs w.spot) (walk_plain path) (λ w f. making_plain w.dirs w.spot f)

  -- ---- link
  linking_in_plain : (i : ℕ) (x : StoredNode) (name : List ℕ) (j : ℕ) (y : StoredNode) (dirs : List ℕ) (room : Room) → Plain (linking_in h i x name j y dirs room)
  linking_in_plain i x name j y dirs NoRoom = none_plain reply.NoDirBlock (dirs ++ j ∷ []) tt
  linking_in_plain i x name j y dirs (Inside q) = finish_plain (Inside q) (linked_by i x name j y dirs (Inside q)) tt
  linking_in_plain i x name j y dirs (InBlock k) = finish_plain (InBlock k) (linked_by i x name j y dirs (InBlock k)) tt

  linking_node_plain : (i : ℕ) (x : StoredNode) (name : List ℕ) (j : ℕ) (dirs : List ℕ) (o : Option StoredNode) → Plain (linking_node h i x name j dirs o)
  linking_node_plain i x name j dirs None = tt
  linking_node_plain i x name j dirs (Some y) = go (nat_le 1000 y.links) (is_full x)
    where
      go : (a b : Bool) → Plain (if a then refused reply.MLink (dirs ++ j ∷ []) else (if b then refused reply.DirFull (dirs ++ j ∷ []) else bind (find_room h x) (linking_in h i x name j y dirs)))
      go true b = tt
      go false true = tt
      go false false = always_after SaysPlain (find_room h x) (linking_in h i x name j y dirs) (λ room. linking_in_plain i x name j y dirs room)

  linking_to_plain : (j : ℕ) (dirs : List ℕ) (v : Spot) → SpotIsPlain v → Plain (linking_to h j dirs v)
  linking_to_plain j dirs AtRoot f = tt
  linking_to_plain j dirs (Lost r) f = f
  linking_to_plain j dirs (AtName i x name q e) f = tt
  linking_to_plain j dirs (AtGap i x name) f = λ said. linking_node_plain i x name j dirs said

  linking_plain : (to : List (List ℕ)) (dirs : List ℕ) (v : Spot) → SpotIsPlain v → Plain (linking h to dirs v)
  linking_plain to dirs AtRoot f = tt
  linking_plain to dirs (Lost r) f = f
  linking_plain to dirs (AtGap i x name) f = tt
  linking_plain to dirs (AtName i x name q e) f = go (e.kind == 2)
    where
      go : (b : Bool) → Plain (if b then refused reply.IsDir dirs else bind (walk to) (λ w. linking_to h e.inode (dirs ++ w.dirs) w.spot))
      go true = tt
      go false = always_bind WalkIsPlain SaysPlain (walk to) (λ w. linking_to h e.inode (dirs ++ w.dirs) w.spot) (walk_plain to) (λ w f. linking_to_plain e.inode (dirs ++ w.dirs) w.spot f)

  linked_plain : (path to : List (List ℕ)) → Plain (plan_linked h path to)
  linked_plain path to = always_bind WalkIsPlain SaysPlain (walk path) (λ w. linking h to w.dirs w.spot) (walk_plain path) (λ w f. linking_plain to w.dirs w.spot f)

  -- ---- rename
  replacing_node_plain : (m : Moving) (i : ℕ) (x : StoredNode) (name : List ℕ) (q j : ℕ) (dirs : List ℕ) (o : Option StoredNode) → Plain (replacing_node m i x name q j dirs o)
  replacing_node_plain m i x name q j dirs None = tt
  replacing_node_plain m i x name q j dirs (Some y) = go (y.kind == 2 && nat_lt 0 y.size)
    where
      go : (b : Bool) → Plain (if b then refused reply.NotEmpty (dirs ++ j ∷ []) else finish_over (fewer_segments j y) (moved_onto_by m i x name q j y dirs))
      go true = tt
      go false = over_plain (fewer_segments j y) (moved_onto_by m i x name q j y dirs) tt

  onto_plain : (m : Moving) (i : ℕ) (x : StoredNode) (name : List ℕ) (q : ℕ) (e : StoredEntry) (dirs : List ℕ) → Plain (moving_onto m i x name q e dirs)
  onto_plain m i x name q e dirs = go (e.inode == m.entry.inode) (m.entry.kind == 2 && not (e.kind == 2)) (e.kind == 2 && not (m.entry.kind == 2))
    where
      go : (a b c : Bool) → Plain (if a then refused reply.Ok dirs else (if b then refused reply.NotDir dirs else (if c then refused reply.IsDir dirs
          else ReadInode e.inode (replacing_node m i x name q e.inode dirs))))
      go true b c = tt
      go false true c = tt
      go false false true = tt
      go false false false = λ said. replacing_node_plain m i x name q e.inode dirs said

  moving_in_plain : (m : Moving) (i : ℕ) (x : StoredNode) (name dirs : List ℕ) (room : Room) → Plain (moving_in h m i x name dirs room)
  moving_in_plain m i x name dirs NoRoom = none_plain reply.NoDirBlock dirs tt
  moving_in_plain m i x name dirs (Inside q) = finish_plain (Inside q) (moved_between m i x name dirs (Inside q)) tt
  moving_in_plain m i x name dirs (InBlock k) = finish_plain (InBlock k) (moved_between m i x name dirs (InBlock k)) tt

  moving_to_plain : (m : Moving) (i : ℕ) (x : StoredNode) (name dirs : List ℕ) → Plain (moving_to h m i x name dirs)
  moving_to_plain m i x name dirs = go (i == m.dir) (is_full x)
    where
      go : (a b : Bool) → Plain (if a then Got (Finishes (moved_within m name dirs)) else (if b then refused reply.DirFull dirs else bind (find_room h x) (moving_in h m i x name dirs)))
      go true b = tt
      go false true = tt
      go false false = always_after SaysPlain (find_room h x) (moving_in h m i x name dirs) (λ room. moving_in_plain m i x name dirs room)

  renaming_to_plain : (m : Moving) (passed dirs : List ℕ) (v : Spot) → SpotIsPlain v → Plain (renaming_to h m passed dirs v)
  renaming_to_plain m passed dirs AtRoot f = tt
  renaming_to_plain m passed dirs (Lost r) f = f
  renaming_to_plain m passed dirs (AtName i x name q e) f = go (goes_through m passed)
    where
      go : (b : Bool) → Plain (if b then refused reply.Inval dirs else moving_onto m i x name q e dirs)
      go true = tt
      go false = onto_plain m i x name q e dirs
  renaming_to_plain m passed dirs (AtGap i x name) f = go (goes_through m passed)
    where
      go : (b : Bool) → Plain (if b then refused reply.Inval dirs else moving_to h m i x name dirs)
      go true = tt
      go false = moving_to_plain m i x name dirs

  renaming_plain : (to : List (List ℕ)) (dirs : List ℕ) (v : Spot) → SpotIsPlain v → Plain (renaming h to dirs v)
  renaming_plain to dirs AtRoot f = tt
  renaming_plain to dirs (Lost r) f = f
  renaming_plain to dirs (AtGap i x name) f = tt
  renaming_plain to dirs (AtName i x name q e) f =
      let m : Moving = record { dir = i; directory = x; slot = q; entry = e } in
      always_bind WalkIsPlain SaysPlain (walk to) (λ w. renaming_to h m w.dirs (dirs ++ w.dirs) w.spot) (walk_plain to) (λ w g. renaming_to_plain m w.dirs (dirs ++ w.dirs) w.spot g)

  renamed_plain : (path to : List (List ℕ)) → Plain (plan_renamed h path to)
  renamed_plain [] to = tt
  renamed_plain (name ∷ names) [] = tt
  renamed_plain (name ∷ names) (new ∷ news) =
      always_bind WalkIsPlain SaysPlain (walk (name ∷ names)) (λ w. renaming h (new ∷ news) w.dirs w.spot) (walk_plain (name ∷ names)) (λ w f. renaming_plain (new ∷ news) w.dirs w.spot f)

  -- ---- write, fill
  one_plain : (p : Writing) (x new : StoredNode) (t : ℕ) (rest : List Edit → Ask Plan) → ((one : List Edit) → Plain (rest one)) → Plain (write_sector p x new t rest)
  one_plain p x new t rest each = go (keeps_bytes p x.size t)
    where
      go : (b : Bool) → Plain (if b then read_sector x t (λ old. rest (set_sector new t (mixed p t old) ∷ [])) else rest (set_sector new t (mixed p t (λ index. 0)) ∷ []))
      go true = sector_has SaysPlain refusal_plain x t (λ old. rest (set_sector new t (mixed p t old) ∷ [])) (λ old. each (set_sector new t (mixed p t old) ∷ []))
      go false = each (set_sector new t (mixed p t (λ index. 0)) ∷ [])

  write_sectors_plain : (p : Writing) (x new : StoredNode) (n t : ℕ) (next : List Edit → Ask Plan) → ((es : List Edit) → Plain (next es)) → Plain (write_sectors p x new t n next)
  write_sectors_plain p x new zero t next each = each []
  write_sectors_plain p x new (suc n) t next each =
      one_plain p x new t (λ one. write_sectors p x new (t + 1) n (λ more. next (one ++ more)))
      (λ one. write_sectors_plain p x new n (t + 1) (λ more. next (one ++ more)) (λ more. each (one ++ more)))

  module _ (p : Writing) (i : ℕ) (touched : List ℕ) (x : StoredNode) where
    writing_in_plain : (picks : List ℕ) (large : Option ℕ) → Plain (writing_in p i touched x picks large)
    writing_in_plain picks large =
        let new = resized x p.when (max x.size (end_of p)) picks large in
        write_sectors_plain p x new (sectors_met p.off p.len) (p.off / 512) (λ bytes. Got (Finishes (written_by i new picks large touched bytes))) (λ bytes. tt)

    picked_plain : (large : Option ℕ) (o : Option (List ℕ)) → Plain (writing_picked h p i touched x large o)
    picked_plain large None = none_plain (reply.NoBlock (directory_blocks h.held)) touched tt
    picked_plain large (Some picks) = writing_in_plain picks large

    small_plain : (large : Option ℕ) → Plain (writing_small h p i touched x large)
    small_plain large = go (more == 0)
      where
        more : ℕ
        more = small_blocks_of (max x.size (end_of p)) - x.blocks

        go : (b : Bool) → Plain (if b then writing_in p i touched x [] large else read_held h (writing_picked h p i touched x large (picked_many h.held more)))
        go true = writing_in_plain [] large
        go false = held_plain (writing_picked h p i touched x large (picked_many h.held more)) (picked_plain large (picked_many h.held more))

    large_plain : (o : Option ℕ) → Plain (writing_large h p i touched x o)
    large_plain None = none_plain reply.NoLarge touched tt
    large_plain (Some segment) = small_plain (Some segment)

    writing_plain : Plain (writing h p i touched x)
    writing_plain = go (nat_lt x.size p.off) (nat_lt 1114112 (end_of p)) (nat_lt 65536 (end_of p) && x.large == 0)
      where
        go : (a b c : Bool) → Plain (if a then refused reply.BadOffset touched else (if b then refused reply.TooBig touched
            else (if c then read_held h (writing_large h p i touched x (picked_large h.held)) else writing_small h p i touched x None)))
        go true b c = tt
        go false true c = tt
        go false false true = held_plain (writing_large h p i touched x (picked_large h.held)) (large_plain (picked_large h.held))
        go false false false = small_plain None

  write_plain : (p : Writing) (path : List (List ℕ)) → Plain (plan_of_file path (writing h p))
  write_plain p path =
      node_has SaysPlain refusal_plain (at_file (writing h p)) (file_has SaysPlain refusal_plain (writing h p) (λ i touched x. writing_plain p i touched x)) path

-- ---- unlink, rmdir, truncate

unlinking_node_plain : (i : ℕ) (x : StoredNode) (q j : ℕ) (dirs : List ℕ) (o : Option StoredNode) → Plain (unlinking_node i x q j dirs o)
unlinking_node_plain i x q j dirs None = tt
unlinking_node_plain i x q j dirs (Some y) = over_plain (fewer_segments j y) (removed_by i x q j y dirs) tt

unlinking_plain : (dirs : List ℕ) (v : Spot) → SpotIsPlain v → Plain (unlinking dirs v)
unlinking_plain dirs AtRoot f = tt
unlinking_plain dirs (Lost r) f = f
unlinking_plain dirs (AtGap i x name) f = tt
unlinking_plain dirs (AtName i x name q e) f = go (e.kind == 2)
  where
    go : (b : Bool) → Plain (if b then refused reply.IsDir dirs else ReadInode e.inode (unlinking_node i x q e.inode dirs))
    go true = tt
    go false = λ said. unlinking_node_plain i x q e.inode dirs said

unlinked_plain : (path : List (List ℕ)) → Plain (plan_unlinked path)
unlinked_plain path = always_bind WalkIsPlain SaysPlain (walk path) (λ w. unlinking w.dirs w.spot) (walk_plain path) (λ w f. unlinking_plain w.dirs w.spot f)

removing_node_plain : (i : ℕ) (x : StoredNode) (q j : ℕ) (dirs : List ℕ) (o : Option StoredNode) → Plain (removing_node i x q j dirs o)
removing_node_plain i x q j dirs None = tt
removing_node_plain i x q j dirs (Some y) = go (nat_lt 0 y.size)
  where
    go : (b : Bool) → Plain (if b then refused reply.NotEmpty (dirs ++ j ∷ []) else finish_over (fewer_segments j y) (removed_by i x q j y dirs))
    go true = tt
    go false = over_plain (fewer_segments j y) (removed_by i x q j y dirs) tt

removing_plain : (dirs : List ℕ) (v : Spot) → SpotIsPlain v → Plain (removing dirs v)
removing_plain dirs AtRoot f = tt
removing_plain dirs (Lost r) f = f
removing_plain dirs (AtGap i x name) f = tt
removing_plain dirs (AtName i x name q e) f = go (e.kind == 2)
  where
    go : (b : Bool) → Plain (if b then ReadInode e.inode (removing_node i x q e.inode dirs) else refused reply.NotDir dirs)
    go true = λ said. removing_node_plain i x q e.inode dirs said
    go false = tt

removed_plain : (path : List (List ℕ)) → Plain (plan_dir_removed path)
removed_plain path = always_bind WalkIsPlain SaysPlain (walk path) (λ w. removing w.dirs w.spot) (walk_plain path) (λ w f. removing_plain w.dirs w.spot f)

cutting_plain : (when len i : ℕ) (touched : List ℕ) (x : StoredNode) → Plain (cutting when len i touched x)
cutting_plain when len i touched x = go (nat_lt x.size len)
  where
    go : (b : Bool) → Plain (if b then refused reply.BadOffset touched else finish_over (cut_segments x len) (cut_by when i touched x len))
    go true = tt
    go false = over_plain (cut_segments x len) (cut_by when i touched x len) tt

-- ---- operation by operation

pub plans_plain : (h : Hand) (birth when : ℕ) (o : Op) → Always SaysPlain (plan_of h birth when o)
plans_plain h birth when (op.Create path) = made_plain h birth (File [] 1 0) path
plans_plain h birth when (op.Mkdir path) = made_plain h birth (Dir [] 0) path
plans_plain h birth when (op.Symlink path target) = made_plain h birth (Link target 1) path
plans_plain h birth when (op.Link path to) = linked_plain h path to
plans_plain h birth when (op.Unlink path) = unlinked_plain path
plans_plain h birth when (op.Rmdir path) = removed_plain path
plans_plain h birth when (op.Rename path to) = renamed_plain h path to
plans_plain h birth when (op.Write path off bytes) = write_plain h (record { off = off; len = length bytes; when = when; byte = λ j. slice_index bytes (j - off) }) path
plans_plain h birth when (op.Fill path off len byte) = write_plain h (record { off = off; len = len; when = when; byte = λ j. byte }) path
plans_plain h birth when (op.Truncate path len) =
    node_has SaysPlain refusal_plain (at_file (cutting when len)) (file_has SaysPlain refusal_plain (cutting when len) (λ i touched x. cutting_plain when len i touched x)) path
plans_plain h birth when (op.Read path off len) = read_has SaysPlain refusal_plain off len path
plans_plain h birth when (op.Stat path) = stat_has SaysPlain refusal_plain path
plans_plain h birth when (op.List path) = list_has SaysPlain refusal_plain path
plans_plain h birth when (op.Readlink path) = link_has SaysPlain refusal_plain path
plans_plain h birth when (op.Time path) = time_has SaysPlain refusal_plain path
plans_plain h birth when op.Sync = tt
plans_plain h birth when op.Mount = tt
plans_plain h birth when op.Unmount = tt
plans_plain h birth when op.Crash = tt
plans_plain h birth when (op.CrashAt k) = tt
plans_plain h birth when (op.CutAt k) = tt
plans_plain h birth when op.Stall = tt
