-- Where the plans of link and rename go on, by the tests that they make.
use Rattle.std.proofs.Common.{◌≡◌, ◌==◌, ◌&&◌, ◌∷◌, ◌++◌, [], ℕ, List, true, false, Some, None, cond, nat_le, nat_lt, ap, ◌∙◌}
use Rattle.frang_base.specs.declared.reply.Reply.{Reply}
use Rattle.frang_base.specs.declared.reply.Reply.TheVariants as reply
use Rattle.disk_definitions.specs.Store.{StoredNode, StoredEntry}
use Rattle.disk_definitions.specs.Held.{Segments}
use Rattle.disk_definitions.specs.Ask.{Ask, Got, ReadInode, bind}
use Rattle.disk_definitions.specs.Plans.{Hand, Plan, Finishes, find_room, is_full, refuse, refused}
use Rattle.disk_definitions.specs.NamePlans.{Moving, fewer_segments, finish_over, linked_by, linking_in, linking_node, moved_between, moved_onto_by, moved_within, moving_in, moving_onto, moving_to, replacing_node}
use Rattle.disk_definitions.specs.Written.{Cached}
use Rattle.dir_lookup.specs.Reading.{Gives, reading}
use Rattle.plan_steps.proofs.Stopping.{of_another, of_kind}
use Rattle.op_dir.specs.Rooming.{in_room}
use Rattle.op_dir.proofs.Choosing.{if_not, if_so}
use Rattle.op_dir.proofs.Moves.{by_kinds, kinds, kinds_pass, kinds_refuse}
use Rattle.op_dir.proofs.Rooming.{link_rooms, move_rooms}

-- a second name
module _ (cached : Cached) (held : Segments) (h : Hand) (i : ℕ) (x : StoredNode) (name : List ℕ) (j : ℕ) (y : StoredNode) (dirs : List ℕ) where
  abbrev t : List ℕ
  t = dirs ++ j ∷ []

  abbrev to_room : Ask Plan
  to_room = bind (find_room h x) (linking_in h i x name j y dirs)

  abbrev unless_full : Ask Plan
  unless_full = cond (is_full x) (refused reply.DirFull t) to_room

  pub link_many : nat_le 1000 y.links ≡ true → reading (linking_node h i x name j dirs (Some y)) cached held ≡ Gives (refuse reply.MLink (dirs ++ j ∷ []))
  link_many l = if_so (nat_le 1000 y.links) (refused reply.MLink t) unless_full cached held l

  pub link_full : nat_le 1000 y.links ≡ false → is_full x ≡ true → reading (linking_node h i x name j dirs (Some y)) cached held ≡ Gives (refuse reply.DirFull (dirs ++ j ∷ []))
  link_full l f = if_not (nat_le 1000 y.links) (refused reply.MLink t) unless_full cached held l ∙ if_so (is_full x) (refused reply.DirFull t) to_room cached held f

  pub link_finds : nat_le 1000 y.links ≡ false → is_full x ≡ false
      → reading (linking_node h i x name j dirs (Some y)) cached held ≡ reading (bind (find_room h x) (in_room h (dirs ++ j ∷ []) (linked_by i x name j y dirs))) cached held
  link_finds l f =
      if_not (nat_le 1000 y.links) (refused reply.MLink t) unless_full cached held l
      ∙ if_not (is_full x) (refused reply.DirFull t) to_room cached held f
      ∙ link_rooms cached held h i x name j y dirs

-- a name that is moved to a directory
module _ (cached : Cached) (held : Segments) (h : Hand) (m : Moving) (i : ℕ) (x : StoredNode) (name : List ℕ) (dirs : List ℕ) where
  abbrev move_room : Ask Plan
  move_room = bind (find_room h x) (moving_in h m i x name dirs)

  abbrev move_unless_full : Ask Plan
  move_unless_full = cond (is_full x) (refused reply.DirFull dirs) move_room

  pub move_stays : i ≡ m.dir → reading (moving_to h m i x name dirs) cached held ≡ Gives (Finishes (moved_within m name dirs))
  move_stays e = of_kind i m.dir (Got (Finishes (moved_within m name dirs))) move_unless_full cached held e

  pub move_full : (i ≡ m.dir → ⊥) → is_full x ≡ true → reading (moving_to h m i x name dirs) cached held ≡ Gives (refuse reply.DirFull dirs)
  move_full n f = of_another i m.dir (Got (Finishes (moved_within m name dirs))) move_unless_full cached held n ∙ if_so (is_full x) (refused reply.DirFull dirs) move_room cached held f

  pub move_finds : (i ≡ m.dir → ⊥) → is_full x ≡ false
      → reading (moving_to h m i x name dirs) cached held ≡ reading (bind (find_room h x) (in_room h dirs (moved_between m i x name dirs))) cached held
  move_finds n f =
      of_another i m.dir (Got (Finishes (moved_within m name dirs))) move_unless_full cached held n
      ∙ if_not (is_full x) (refused reply.DirFull dirs) move_room cached held f
      ∙ move_rooms cached held h m i x name dirs

-- a name that is moved onto another
module _ (cached : Cached) (held : Segments) (m : Moving) (i : ℕ) (x : StoredNode) (name : List ℕ) (q : ℕ) (e : StoredEntry) (dirs : List ℕ) where
  abbrev onto_node : Ask Plan
  onto_node = ReadInode e.inode (replacing_node m i x name q e.inode dirs)

  abbrev unless_kinds : Ask Plan
  unless_kinds = by_kinds (m.entry.kind == 2) (e.kind == 2) dirs onto_node

  pub onto_itself : e.inode ≡ m.entry.inode → reading (moving_onto m i x name q e dirs) cached held ≡ Gives (refuse reply.Ok dirs)
  onto_itself s = of_kind e.inode m.entry.inode (refused reply.Ok dirs) unless_kinds cached held s

  pub onto_refused : (r : Reply) → (e.inode ≡ m.entry.inode → ⊥) → kinds (m.entry.kind == 2) (e.kind == 2) ≡ Some r → reading (moving_onto m i x name q e dirs) cached held ≡ Gives (refuse r dirs)
  onto_refused r n k =
      of_another e.inode m.entry.inode (refused reply.Ok dirs) unless_kinds cached held n
      ∙ ap (λ p. reading p cached held) (kinds_refuse (m.entry.kind == 2) (e.kind == 2) dirs onto_node r k)

  pub onto_reads : (e.inode ≡ m.entry.inode → ⊥) → kinds (m.entry.kind == 2) (e.kind == 2) ≡ None
      → reading (moving_onto m i x name q e dirs) cached held ≡ reading (ReadInode e.inode (replacing_node m i x name q e.inode dirs)) cached held
  onto_reads n k =
      of_another e.inode m.entry.inode (refused reply.Ok dirs) unless_kinds cached held n
      ∙ ap (λ p. reading p cached held) (kinds_pass (m.entry.kind == 2) (e.kind == 2) dirs onto_node k)

-- a node that loses the name
module _ (cached : Cached) (held : Segments) (m : Moving) (i : ℕ) (x : StoredNode) (name : List ℕ) (q j : ℕ) (dirs : List ℕ) (y : StoredNode) where
  pub replace_refused : (y.kind == 2 && nat_lt 0 y.size) ≡ true → reading (replacing_node m i x name q j dirs (Some y)) cached held ≡ Gives (refuse reply.NotEmpty (dirs ++ j ∷ []))
  replace_refused e = if_so (y.kind == 2 && nat_lt 0 y.size) (refused reply.NotEmpty (dirs ++ j ∷ [])) (finish_over (fewer_segments j y) (moved_onto_by m i x name q j y dirs)) cached held e

  pub replace_looks : (y.kind == 2 && nat_lt 0 y.size) ≡ false
      → reading (replacing_node m i x name q j dirs (Some y)) cached held ≡ reading (finish_over (fewer_segments j y) (moved_onto_by m i x name q j y dirs)) cached held
  replace_looks e = if_not (y.kind == 2 && nat_lt 0 y.size) (refused reply.NotEmpty (dirs ++ j ∷ [])) (finish_over (fewer_segments j y) (moved_onto_by m i x name q j y dirs)) cached held e
