-- The walks of a line read no file bytes.
use Rattle.std.proofs.Common.{ℕ, zero, suc, ◌*◌, ◌&&◌, ◌==◌, Bool, true, false, cond, Option, Some, None, Result, Ok, Err, List, [], ◌∷◌, ◌++◌}
use Rattle.frang_base.specs.PathText.{path_of}
use Rattle.frang_base.specs.declared.fault.PathFault.{PathFault}
use Rattle.frang_base.specs.declared.op.Op.{Op}
use Rattle.frang_base.specs.declared.op.Op.TheVariants as op
use Rattle.frang_base.specs.declared.reply.Reply.TheVariants as reply
use Rattle.tree_definitions.specs.Resolve.{is_absolute, target_text}
use Rattle.disk_definitions.specs.Store.{StoredNode, StoredEntry}
use Rattle.disk_definitions.specs.Ask.{Ask, Got, ReadInode, bind}
use Rattle.disk_definitions.specs.Walks.{Found, is_named, search}
use Rattle.disk_definitions.specs.Lines.{by_first, by_path, by_second, is_found, over_path, over_paths, resolved}
use Rattle.disk_definitions.specs.Resolving.{PathEnd, Leads, Refused, Resolution, at_entry, at_gap, at_name, at_target, behind, below_inode, leads, passes, refused, resolve, resolve_from, resolve_names, with_target}
use Rattle.plan_steps.proofs.Examining.{ReadsNoBytes, bind_reads_none, search_reads}

passes_reads : (i : ℕ) (walk : Ask Resolution) → ReadsNoBytes walk → ReadsNoBytes (passes i walk)
passes_reads i walk n = bind_reads_none {B = Resolution} walk (λ rest. Got (behind i rest)) n (λ rest. tt)

-- ---- a name
module _ (last : Bool) (follow into : ℕ → Ask Resolution) (here : List (List ℕ)) (f : (i : ℕ) → ReadsNoBytes (follow i)) (g : (i : ℕ) → ReadsNoBytes (into i)) where
  entry_reads : (names : List (List ℕ)) (e : StoredEntry) → ReadsNoBytes (at_entry last follow into here names e)
  entry_reads [] e = by_link (last && e.kind == 3)
    where
      by_link : (b : Bool) → ReadsNoBytes (cond b (follow e.inode) (leads here (Some e.kind)))
      by_link true = f e.inode
      by_link false = tt
  entry_reads (name ∷ names) e = by_kind (e.kind == 3) (e.kind == 2)
    where
      by_kind : (a b : Bool) → ReadsNoBytes (cond a (follow e.inode) (cond b (into e.inode) (refused reply.NotDir)))
      by_kind true b = f e.inode
      by_kind false true = g e.inode
      by_kind false false = tt

  gap_reads : (names : List (List ℕ)) → ReadsNoBytes (at_gap here names)
  gap_reads [] = tt
  gap_reads (name ∷ names) = tt

  name_reads : (names : List (List ℕ)) (o : Option Found) → ReadsNoBytes (at_name last follow into here names o)
  name_reads names None = gap_reads names
  name_reads names (Some (slot, None)) = gap_reads names
  name_reads names (Some (slot, Some e)) = entry_reads names e

  below_reads : (dir : ℕ) (name : List ℕ) (names : List (List ℕ)) (o : Option StoredNode) → ReadsNoBytes (below_inode last follow into here dir name names o)
  below_reads dir name names None = tt
  below_reads dir name names (Some x) = by_kind (x.kind == 2)
    where
      by_kind : (b : Bool) → ReadsNoBytes (cond b (passes dir (bind (search x.small (is_named name) 0 (8 * x.blocks)) (at_name last follow into here names))) (refused reply.NotDir))
      by_kind true =
          passes_reads dir (bind (search x.small (is_named name) 0 (8 * x.blocks)) (at_name last follow into here names))
          (bind_reads_none (search x.small (is_named name) 0 (8 * x.blocks)) (at_name last follow into here names) (search_reads x.small (is_named name) 0 (8 * x.blocks)) (λ o. name_reads names o))
      by_kind false = tt

-- ---- a path
names_reads : (last : Bool) (follow : ℕ → ℕ → List (List ℕ) → List (List ℕ) → Ask Resolution) → ((link dir : ℕ) (above names : List (List ℕ)) → ReadsNoBytes (follow link dir above names))
    → (dir : ℕ) (above names : List (List ℕ)) → ReadsNoBytes (resolve_names last follow dir above names)
names_reads last follow f dir above [] = tt
names_reads last follow f dir above (name ∷ names) =
    λ said. below_reads last (λ link. follow link dir above names) (λ inode. resolve_names last follow inode (above ++ name ∷ []) names) (above ++ name ∷ []) (λ link. f link dir above names)
    (λ inode. names_reads last follow f inode (above ++ name ∷ []) names) dir name names said

target_reads : (next : ℕ → List (List ℕ) → List (List ℕ) → Ask Resolution) → ((i : ℕ) (above names : List (List ℕ)) → ReadsNoBytes (next i above names))
    → (absolute : Bool) (target : Result (List (List ℕ)) PathFault) (dir : ℕ) (above names : List (List ℕ)) → ReadsNoBytes (at_target next absolute target dir above names)
target_reads next n absolute (Err fault) dir above names = tt
target_reads next n true (Ok inner) dir above names = n 0 [] (inner ++ names)
target_reads next n false (Ok inner) dir above names = n dir above (inner ++ names)

link_reads : (follow : List ℕ → Ask Resolution) → ((target : List ℕ) → ReadsNoBytes (follow target)) → (o : Option StoredNode) → ReadsNoBytes (with_target follow o)
link_reads follow f None = tt
link_reads follow f (Some x) = f x.target

from_reads : (left : ℕ) (last : Bool) (dir : ℕ) (above names : List (List ℕ)) → ReadsNoBytes (resolve_from left last dir above names)
from_reads zero last dir above names = names_reads last (λ link holder over rest. refused reply.Loop) (λ link holder over rest. tt) dir above names
from_reads (suc left) last dir above names =
    let on : ℕ → List (List ℕ) → List (List ℕ) → List ℕ → Ask Resolution = λ holder over rest target. at_target (resolve_from left last) (is_absolute target) (path_of (target_text target)) holder over rest in
    names_reads last (λ link holder over rest. passes link (ReadInode link (with_target (on holder over rest))))
    (λ link holder over rest. passes_reads link (ReadInode link (with_target (on holder over rest)))
    (λ said. link_reads (on holder over rest) (λ target. target_reads (resolve_from left last) (λ i above names. from_reads left last i above names) (is_absolute target) (path_of (target_text target)) holder over rest) said))
    dir above names

resolve_reads : (last : Bool) (path : List (List ℕ)) → ReadsNoBytes (resolve last path)
unfolding resolve
resolve_reads last path = from_reads 8 last 0 [] path

-- ---- the walks of an operation
one_reads : (last : Bool) (path : List (List ℕ)) (make : List (List ℕ) → Op) → ReadsNoBytes (over_path last path make)
one_reads last path make = bind_reads_none (resolve last path) (by_path [] make) (resolve_reads last path) (λ walk. tt)

second_reads : (b : Bool) (trail : List ℕ) (to : List (List ℕ)) (make : List (List ℕ) → Op) → ReadsNoBytes (by_second b trail to make)
second_reads true trail to make = bind_reads_none (resolve false to) (by_path trail make) (resolve_reads false to) (λ walk. tt)
second_reads false trail to make = tt

first_reads : (dirs : Bool) (to : List (List ℕ)) (make : List (List ℕ) → List (List ℕ) → Op) (end : PathEnd) (trail : List ℕ) → ReadsNoBytes (by_first dirs to make end trail)
first_reads dirs to make (Leads path kind) trail = second_reads (is_found dirs kind) trail to (make path)
first_reads dirs to make (Refused r) trail = tt

two_reads : (dirs : Bool) (path to : List (List ℕ)) (make : List (List ℕ) → List (List ℕ) → Op) → ReadsNoBytes (over_paths dirs path to make)
two_reads dirs path to make = bind_reads_none (resolve false path) (λ walk. by_first dirs to make walk.end walk.trail) (resolve_reads false path) (λ walk. first_reads dirs to make walk.end walk.trail)

pub resolved_reads : (operation : Op) → ReadsNoBytes (resolved operation)
resolved_reads (op.Create path) = one_reads false path (λ p. op.Create p)
resolved_reads (op.Mkdir path) = one_reads false path (λ p. op.Mkdir p)
resolved_reads (op.Symlink path target) = one_reads false path (λ p. op.Symlink p target)
resolved_reads (op.Link path to) = two_reads false path to (λ p q. op.Link p q)
resolved_reads (op.Unlink path) = one_reads false path (λ p. op.Unlink p)
resolved_reads (op.Rmdir path) = one_reads false path (λ p. op.Rmdir p)
resolved_reads (op.Rename [] to) = tt
resolved_reads (op.Rename (name ∷ names) []) = tt
resolved_reads (op.Rename (name ∷ names) (new ∷ news)) = two_reads true (name ∷ names) (new ∷ news) (λ p q. op.Rename p q)
resolved_reads (op.Write path off bytes) = one_reads true path (λ p. op.Write p off bytes)
resolved_reads (op.Fill path off len byte) = one_reads true path (λ p. op.Fill p off len byte)
resolved_reads (op.Truncate path len) = one_reads true path (λ p. op.Truncate p len)
resolved_reads (op.Read path off len) = one_reads true path (λ p. op.Read p off len)
resolved_reads (op.Stat path) = one_reads false path (λ p. op.Stat p)
resolved_reads (op.List path) = one_reads true path (λ p. op.List p)
resolved_reads (op.Readlink path) = one_reads false path (λ p. op.Readlink p)
resolved_reads (op.Time path) = one_reads true path (λ p. op.Time p)
resolved_reads op.Sync = tt
resolved_reads op.Mount = tt
resolved_reads op.Unmount = tt
resolved_reads op.Crash = tt
resolved_reads (op.CrashAt k) = tt
resolved_reads (op.CutAt k) = tt
resolved_reads op.Stall = tt
