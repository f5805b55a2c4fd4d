-- What plans on names look at, by the tests that they make.
use Rattle.std.proofs.Common.{◌≡◌, ◌==◌, ◌&&◌, ◌↔◌, ◌∷◌, ◌++◌, [], ℕ, List, Bool, true, false, Option, Some, None, IsTrue, cond, map, nat_le, nat_lt, eq-eqb, ne_eqb, refl, ap, ◌∙◌}
use Rattle.std.specs.Map.{keys_of}
use Rattle.frang_base.specs.declared.reply.Reply.{Reply}
use Rattle.frang_base.specs.declared.reply.Reply.TheVariants as reply
use Rattle.tree_definitions.specs.declared.node.Node.{Node}
use Rattle.disk_definitions.specs.Store.{StoredNode, StoredEntry}
use Rattle.disk_definitions.specs.Held.{Segments}
use Rattle.disk_definitions.specs.Picks.{picked_inode}
use Rattle.disk_definitions.specs.Ask.{Ask, Got, ReadInode, bind}
use Rattle.disk_definitions.specs.Walks.{AtGap}
use Rattle.disk_definitions.specs.Plans.{Hand, Plan, Finish, Finishes, Room, find_room, finish_in, is_full, read_held, refused}
use Rattle.disk_definitions.specs.NamePlans.{Moving, fewer_segments, finish_over, linked_by, linking_in, linking_node, made_by, making, making_in, making_with, moved_between, moved_onto_by, moved_within, moving_in, moving_onto, moving_to, plan_renamed, replacing_node}
use Rattle.disk_definitions.specs.Written.{Cached, hand_of}
use Rattle.dir_lookup.specs.Looked.{Adds}
use Rattle.disk_definitions.specs.LookedAt.{examined}
use Rattle.plan_steps.specs.Looking.{Looks, LooksTo, segment_number}
use Rattle.dir_lookup.specs.Reading.{Gives, reading}
use Rattle.plan_steps.specs.declared.room.Room.{Room as CodeRoom}
use Rattle.plan_steps.specs.declared.room.Room.TheVariants as room
use Rattle.plan_steps.specs.Rooms.{room_in}
use Rattle.plan_steps.proofs.AtHand.{held_looked}
use Rattle.plan_steps.proofs.Looking.{bind_to, to_as}
use Rattle.op_dir.specs.Rooming as rooming
use Rattle.op_dir.proofs.Moves.{by_kinds, kinds, kinds_pass, kinds_refuse}
use Rattle.op_dir.proofs.Rooming.{link_same, move_same}

module _ (cached : Cached) (held : Segments) where
  pub if_so_looks : (b : Bool) (p q : Ask Plan) → b ≡ true → examined (cond b p q) cached held ≡ examined p cached held
  if_so_looks b p q e = ap (λ b. examined (cond b p q) cached held) e

  pub if_not_looks : (b : Bool) (p q : Ask Plan) → b ≡ false → examined (cond b p q) cached held ≡ examined q cached held
  if_not_looks b p q e = ap (λ b. examined (cond b p q) cached held) e

-- ---- a new node
module _ (cached : Cached) (held : Segments) (all : Bool) (x : StoredNode) (i birth : ℕ) (name : List ℕ) (node : Node) (dirs : List ℕ) where
  abbrev hand : Hand
  hand = hand_of cached held all

  abbrev picks : Ask Plan
  picks = read_held hand (making_with hand i x name birth node dirs (picked_inode held))

  pub making_full : is_full x ≡ true → examined (making (hand_of cached held all) birth node dirs (AtGap i x name)) cached held ≡ []
  making_full e = if_so_looks cached held (is_full x) (refused reply.DirFull dirs) picks e

  pub making_picks : (o : Option ℕ) (old new : Option (List ℕ)) → is_full x ≡ false → picked_inode held ≡ o → Adds old new (map segment_number (keys_of held))
      → LooksTo cached held old new (making (hand_of cached held all) birth node dirs (AtGap i x name)) (making_with (hand_of cached held all) i x name birth node dirs o)
  making_picks o old new e p l = (
    map segment_number (keys_of held),
    l,
    if_not_looks cached held (is_full x) (refused reply.DirFull dirs) picks e
        ∙ held_looked hand cached (making_with hand i x name birth node dirs (picked_inode held))
        ∙ ap (λ o. map segment_number (keys_of held) ++ examined (making_with hand i x name birth node dirs o) cached held) p,
  )

  abbrev finish_at : ℕ → Room → Ask Plan
  finish_at j room = finish_in hand room (made_by i x name birth node dirs j room)

  in_room : (j : ℕ) (r : CodeRoom) → examined (making_in hand i x name birth node dirs j (room_in r)) cached held ≡ examined (ReadInode j (λ free. finish_at j (room_in r))) cached held
  in_room j (room.Inside q) = refl
  in_room j (room.InBlock k) = refl

  pub room_to : (j : ℕ) (r : CodeRoom) (old new : Option (List ℕ)) → Gives (room_in r) ≡ reading (find_room (hand_of cached held all) x) cached held → Looks cached held old new (find_room (hand_of cached held all) x)
      → LooksTo cached held old new (bind (find_room (hand_of cached held all) x) (making_in (hand_of cached held all) i x name birth node dirs j))
      (ReadInode j (λ free. finish_in (hand_of cached held all) (room_in r) (made_by i x name birth node dirs j (room_in r))))
  room_to j r old new e l =
      let f = making_in hand i x name birth node dirs j in
      to_as cached held (bind (find_room hand x) f) (f (room_in r)) (ReadInode j (λ free. finish_at j (room_in r))) old new
      (bind_to cached held (find_room hand x) f (room_in r) old new e l) (in_room j r)

-- ---- room for an entry
module _ (cached : Cached) (held : Segments) (h : Hand) where
  pub found_looks : (touched : List ℕ) (finish : Room → Finish) (r : CodeRoom)
      → examined (rooming.in_room h touched finish (room_in r)) cached held ≡ examined (finish_in h (room_in r) (finish (room_in r))) cached held
  found_looks touched finish (room.Inside q) = refl
  found_looks touched finish (room.InBlock k) = refl

  -- a rename from the root, and one to it
  pub first_root : (path to : List (List ℕ)) (a : Bool) → (IsTrue a ↔ (path ≡ [])) → a ≡ true → examined (plan_renamed h path to) cached held ≡ []
  first_root [] to a p e = refl
  first_root (name ∷ names) to true p e = let z : name ∷ names ≡ [] = p.0 e in absurd (cc)
  first_root (name ∷ names) to false p e = absurd (cc)

  pub second_root : (path to : List (List ℕ)) (b : Bool) → (IsTrue b ↔ (to ≡ [])) → b ≡ true → examined (plan_renamed h path to) cached held ≡ []
  second_root [] to b p e = refl
  second_root (name ∷ names) [] b p e = refl
  second_root (name ∷ names) (new ∷ news) true p e = let z : new ∷ news ≡ [] = p.0 e in absurd (cc)
  second_root (name ∷ names) (new ∷ news) false p e = absurd (cc)

-- ---- a second name
module _ (cached : Cached) (held : Segments) (h : Hand) (i : ℕ) (x : StoredNode) (name : List ℕ) (j : ℕ) (y : StoredNode) (dirs : List ℕ) where
  abbrev t : List ℕ
  t = dirs ++ j ∷ []

  abbrev to_room : Ask Plan
  to_room = bind (find_room h x) (linking_in h i x name j y dirs)

  abbrev unless_full : Ask Plan
  unless_full = cond (is_full x) (refused reply.DirFull t) to_room

  pub link_many : nat_le 1000 y.links ≡ true → examined (linking_node h i x name j dirs (Some y)) cached held ≡ []
  link_many l = if_so_looks cached held (nat_le 1000 y.links) (refused reply.MLink t) unless_full l

  pub link_full : nat_le 1000 y.links ≡ false → is_full x ≡ true → examined (linking_node h i x name j dirs (Some y)) cached held ≡ []
  link_full l f = if_not_looks cached held (nat_le 1000 y.links) (refused reply.MLink t) unless_full l ∙ if_so_looks cached held (is_full x) (refused reply.DirFull t) to_room f

  pub link_finds : nat_le 1000 y.links ≡ false → is_full x ≡ false
      → examined (linking_node h i x name j dirs (Some y)) cached held ≡ examined (bind (find_room h x) (rooming.in_room h (dirs ++ j ∷ []) (linked_by i x name j y dirs))) cached held
  link_finds l f =
      if_not_looks cached held (nat_le 1000 y.links) (refused reply.MLink t) unless_full l
      ∙ if_not_looks cached held (is_full x) (refused reply.DirFull t) to_room f
      ∙ ap (λ p. examined p cached held) (link_same cached held h i x name j y dirs)

-- ---- a name that is moved to a directory
module _ (cached : Cached) (held : Segments) (h : Hand) (m : Moving) (i : ℕ) (x : StoredNode) (name : List ℕ) (dirs : List ℕ) where
  abbrev move_room : Ask Plan
  move_room = bind (find_room h x) (moving_in h m i x name dirs)

  abbrev move_unless_full : Ask Plan
  move_unless_full = cond (is_full x) (refused reply.DirFull dirs) move_room

  abbrev stays : Ask Plan
  stays = Got (Finishes (moved_within m name dirs))

  pub move_stays : i ≡ m.dir → examined (moving_to h m i x name dirs) cached held ≡ []
  move_stays e = if_so_looks cached held (i == m.dir) stays move_unless_full (eq-eqb i m.dir e)

  pub move_full : (i ≡ m.dir → ⊥) → is_full x ≡ true → examined (moving_to h m i x name dirs) cached held ≡ []
  move_full n f = if_not_looks cached held (i == m.dir) stays move_unless_full (ne_eqb i m.dir n) ∙ if_so_looks cached held (is_full x) (refused reply.DirFull dirs) move_room f

  pub move_finds : (i ≡ m.dir → ⊥) → is_full x ≡ false
      → examined (moving_to h m i x name dirs) cached held ≡ examined (bind (find_room h x) (rooming.in_room h dirs (moved_between m i x name dirs))) cached held
  move_finds n f =
      if_not_looks cached held (i == m.dir) stays move_unless_full (ne_eqb i m.dir n)
      ∙ if_not_looks cached held (is_full x) (refused reply.DirFull dirs) move_room f
      ∙ ap (λ p. examined p cached held) (move_same cached held h m i x name dirs)

-- ---- a name that is moved onto another
module _ (cached : Cached) (held : Segments) (m : Moving) (i : ℕ) (x : StoredNode) (name : List ℕ) (q : ℕ) (e : StoredEntry) (dirs : List ℕ) where
  abbrev onto_node : Ask Plan
  onto_node = ReadInode e.inode (replacing_node m i x name q e.inode dirs)

  abbrev unless_kinds : Ask Plan
  unless_kinds = by_kinds (m.entry.kind == 2) (e.kind == 2) dirs onto_node

  pub onto_itself : e.inode ≡ m.entry.inode → examined (moving_onto m i x name q e dirs) cached held ≡ []
  onto_itself s = if_so_looks cached held (e.inode == m.entry.inode) (refused reply.Ok dirs) unless_kinds (eq-eqb e.inode m.entry.inode s)

  pub onto_refused : (r : Reply) → (e.inode ≡ m.entry.inode → ⊥) → kinds (m.entry.kind == 2) (e.kind == 2) ≡ Some r → examined (moving_onto m i x name q e dirs) cached held ≡ []
  onto_refused r n k =
      if_not_looks cached held (e.inode == m.entry.inode) (refused reply.Ok dirs) unless_kinds (ne_eqb e.inode m.entry.inode n)
      ∙ ap (λ p. examined p cached held) (kinds_refuse (m.entry.kind == 2) (e.kind == 2) dirs onto_node r k)

  pub onto_reads : (e.inode ≡ m.entry.inode → ⊥) → kinds (m.entry.kind == 2) (e.kind == 2) ≡ None
      → examined (moving_onto m i x name q e dirs) cached held ≡ examined (ReadInode e.inode (replacing_node m i x name q e.inode dirs)) cached held
  onto_reads n k =
      if_not_looks cached held (e.inode == m.entry.inode) (refused reply.Ok dirs) unless_kinds (ne_eqb e.inode m.entry.inode n)
      ∙ ap (λ p. examined p cached held) (kinds_pass (m.entry.kind == 2) (e.kind == 2) dirs onto_node k)

-- ---- a node that loses the name
module _ (cached : Cached) (held : Segments) (m : Moving) (i : ℕ) (x : StoredNode) (name : List ℕ) (q j : ℕ) (dirs : List ℕ) (y : StoredNode) where
  abbrev none_empty : Ask Plan
  none_empty = refused reply.NotEmpty (dirs ++ j ∷ [])

  abbrev loses : Ask Plan
  loses = finish_over (fewer_segments j y) (moved_onto_by m i x name q j y dirs)

  pub replace_refused : (y.kind == 2 && nat_lt 0 y.size) ≡ true → examined (replacing_node m i x name q j dirs (Some y)) cached held ≡ []
  replace_refused e = if_so_looks cached held (y.kind == 2 && nat_lt 0 y.size) none_empty loses e

  pub replace_looks : (y.kind == 2 && nat_lt 0 y.size) ≡ false
      → examined (replacing_node m i x name q j dirs (Some y)) cached held ≡ examined (finish_over (fewer_segments j y) (moved_onto_by m i x name q j y dirs)) cached held
  replace_looks e = if_not_looks cached held (y.kind == 2 && nat_lt 0 y.size) none_empty loses e
