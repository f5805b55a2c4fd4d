-- Walks through links ask for inodes and for the eight parts of directories' blocks, and for nothing else.
use Rattle.std.proofs.Common.{ℕ, zero, suc, ◌<◌, ◌*◌, ◌==◌, ◌&&◌, Bool, true, false, if◌then◌else◌, Option, Some, None, Result, Ok, Err, List, [], ◌∷◌, ◌++◌}
use Rattle.frang_base.specs.PathText.{path_of}
use Rattle.frang_base.specs.declared.fault.PathFault.{PathFault}
use Rattle.frang_base.specs.declared.limits.TheConstants.{LINKS_FOLLOWED_MAX, ROOT_INODE}
use Rattle.frang_base.specs.declared.op.Op.{Op}
use Rattle.frang_base.specs.declared.op.Op.TheVariants as op
use Rattle.frang_base.specs.declared.reply.Reply.TheVariants as reply
use Rattle.tree_definitions.specs.Resolve.{is_absolute, target_text}
use Rattle.disk_definitions.specs.Store.{StoredNode, StoredEntry}
use Rattle.disk_definitions.specs.Ask.{Sector, InodeAt, DirectoryAt, Ask, Got, ReadInode, bind}
use Rattle.disk_definitions.specs.Walks.{Found, search, is_named}
use Rattle.disk_definitions.specs.Resolving.{PathEnd, Leads, Refused, Resolution, leads, refused, behind, passes, at_target, with_target, at_entry, at_gap, at_name, below_inode, resolve_names, resolve_from, resolve}
use Rattle.disk_definitions.specs.Lines.{is_found, by_path, by_second, by_first, over_paths, resolved}
use Rattle.line_laws.proofs.Names.{Follow}
use Rattle.line_laws.proofs.Links.{follow_in}
use Rattle.line_histories.proofs.Asking.{AsksOnly, asks_bind}
use Rattle.line_histories.proofs.AskedNames.{search_asks}

module _ (P : Sector → Type 0) (inode : (i : ℕ) → P (InodeAt i)) (directory : (k part : ℕ) → part < 8 → P (DirectoryAt k part)) where
  abbrev Asks : Ask Resolution → Type 0
  Asks p = AsksOnly P p

  passed_asks : (i : ℕ) (p : Ask Resolution) → Asks p → Asks (passes i p)
  passed_asks i p a = asks_bind P p (λ rest. Got (behind i rest)) a (λ rest. tt)

  module _ (last : Bool) (f : Follow) (each : (link dir : ℕ) (above names : List (List ℕ)) → Asks (f link dir above names)) where
    entry_asks : (dir : ℕ) (above here names : List (List ℕ)) (into : ℕ → Ask Resolution) → ((i : ℕ) → Asks (into i)) → (entry : StoredEntry) → Asks (at_entry last (λ link. f link dir above names) into here names entry)
    entry_asks dir above here [] into on entry = by_kind (last && entry.kind == 3)
      where
        by_kind : (c : Bool) → Asks (if c then f entry.inode dir above [] else leads here (Some entry.kind))
        by_kind true = each entry.inode dir above []
        by_kind false = tt
    entry_asks dir above here (x ∷ xs) into on entry = by_kind (entry.kind == 3) (entry.kind == 2)
      where
        by_kind : (c d : Bool) → Asks (if c then f entry.inode dir above (x ∷ xs) else (if d then into entry.inode else refused reply.NotDir))
        by_kind true d = each entry.inode dir above (x ∷ xs)
        by_kind false true = on entry.inode
        by_kind false false = tt

    gap_asks : (here names : List (List ℕ)) → Asks (at_gap here names)
    gap_asks here [] = tt
    gap_asks here (x ∷ xs) = tt

    found_asks : (dir : ℕ) (above here names : List (List ℕ)) (into : ℕ → Ask Resolution) → ((i : ℕ) → Asks (into i)) → (found : Option Found) → Asks (at_name last (λ link. f link dir above names) into here names found)
    found_asks dir above here names into on None = gap_asks here names
    found_asks dir above here names into on (Some (slot, None)) = gap_asks here names
    found_asks dir above here names into on (Some (slot, Some entry)) = entry_asks dir above here names into on entry

    below_asks : (dir : ℕ) (name : List ℕ) (above here names : List (List ℕ)) (into : ℕ → Ask Resolution) → ((i : ℕ) → Asks (into i)) → (o : Option StoredNode) →
        Asks (below_inode last (λ link. f link dir above names) into here dir name names o)
    below_asks dir name above here names into on None = tt
    below_asks dir name above here names into on (Some node) = by_kind (node.kind == 2)
      where
        next : Option Found → Ask Resolution
        next = at_name last (λ link. f link dir above names) into here names

        by_kind : (c : Bool) → Asks (if c then passes dir (bind (search node.small (is_named name) 0 (8 * node.blocks)) next) else refused reply.NotDir)
        by_kind true =
            let looked = search node.small (is_named name) 0 (8 * node.blocks) in
            passed_asks dir (bind looked next) (asks_bind P looked next (search_asks P inode directory node.small (is_named name) (8 * node.blocks) 0) (found_asks dir above here names into on))
        by_kind false = tt

    names_asks : (names : List (List ℕ)) (dir : ℕ) (above : List (List ℕ)) → Asks (resolve_names last f dir above names)
    names_asks [] dir above = tt
    names_asks (name ∷ names) dir above =
        (inode dir, below_asks dir name above (above ++ name ∷ []) names (λ i. resolve_names last f i (above ++ name ∷ []) names) (λ i. names_asks names i (above ++ name ∷ [])))

  module _ (next : ℕ → List (List ℕ) → List (List ℕ) → Ask Resolution) (on : (names : List (List ℕ)) (dir : ℕ) (above : List (List ℕ)) → Asks (next dir above names)) where
    way_asks : (absolute : Bool) (way : Result (List (List ℕ)) PathFault) (dir : ℕ) (above names : List (List ℕ)) → Asks (at_target next absolute way dir above names)
    way_asks absolute (Err fault) dir above names = tt
    way_asks true (Ok inner) dir above names = on (inner ++ names) ROOT_INODE []
    way_asks false (Ok inner) dir above names = on (inner ++ names) dir above

    link_asks : (dir : ℕ) (above names : List (List ℕ)) (o : Option StoredNode) → Asks (with_target (λ target. at_target next (is_absolute target) (path_of (target_text target)) dir above names) o)
    link_asks dir above names None = tt
    link_asks dir above names (Some node) = way_asks (is_absolute node.target) (path_of (target_text node.target)) dir above names

  from_asks : (left : ℕ) (last : Bool) (names : List (List ℕ)) (dir : ℕ) (above : List (List ℕ)) → Asks (resolve_from left last dir above names)
  from_asks zero last names dir above = names_asks last (λ link holder over rest. refused reply.Loop) (λ link holder over rest. tt) names dir above
  from_asks (suc left) last names dir above =
      names_asks last (follow_in left last)
      (λ link holder over rest. passed_asks link (ReadInode link (with_target (λ target. at_target (resolve_from left last) (is_absolute target) (path_of (target_text target)) holder over rest)))
      (inode link, link_asks (resolve_from left last) (from_asks left last) holder over rest))
      names dir above

  pub resolve_asks : (last : Bool) (path : List (List ℕ)) → AsksOnly P (resolve last path)
  unfolding resolve
  resolve_asks last path = from_asks LINKS_FOLLOWED_MAX last path ROOT_INODE []

  -- ---- an operation

  one_asks : (last : Bool) (path : List (List ℕ)) (make : List (List ℕ) → Op) (trail : List ℕ) → AsksOnly P (bind (resolve last path) (by_path trail make))
  one_asks last path make trail = asks_bind P (resolve last path) (by_path trail make) (resolve_asks last path) (λ walk. tt)

  module _ (dirs : Bool) (path to : List (List ℕ)) (make : List (List ℕ) → List (List ℕ) → Op) where
    second_asks : (c : Bool) (trail : List ℕ) (p : List (List ℕ)) → AsksOnly P (by_second c trail to (make p))
    second_asks true trail p = one_asks false to (make p) trail
    second_asks false trail p = tt

    first_asks : (end : PathEnd) (trail : List ℕ) → AsksOnly P (by_first dirs to make end trail)
    first_asks (Leads p kind) trail = second_asks (is_found dirs kind) trail p
    first_asks (Refused r) trail = tt

    two_asks : AsksOnly P (over_paths dirs path to make)
    two_asks = asks_bind P (resolve false path) (λ w. by_first dirs to make w.end w.trail) (resolve_asks false path) (λ w. first_asks w.end w.trail)

  pub resolved_asks : (o : Op) → AsksOnly P (resolved o)
  resolved_asks (op.Create path) = one_asks false path (λ p. op.Create p) []
  resolved_asks (op.Mkdir path) = one_asks false path (λ p. op.Mkdir p) []
  resolved_asks (op.Symlink path target) = one_asks false path (λ p. op.Symlink p target) []
  resolved_asks (op.Link path to) = two_asks false path to (λ p q. op.Link p q)
  resolved_asks (op.Unlink path) = one_asks false path (λ p. op.Unlink p) []
  resolved_asks (op.Rmdir path) = one_asks false path (λ p. op.Rmdir p) []
  resolved_asks (op.Rename [] to) = tt
  resolved_asks (op.Rename (name ∷ names) []) = tt
  resolved_asks (op.Rename (name ∷ names) (new ∷ news)) = two_asks true (name ∷ names) (new ∷ news) (λ p q. op.Rename p q)
  resolved_asks (op.Write path off bytes) = one_asks true path (λ p. op.Write p off bytes) []
  resolved_asks (op.Fill path off len byte) = one_asks true path (λ p. op.Fill p off len byte) []
  resolved_asks (op.Truncate path len) = one_asks true path (λ p. op.Truncate p len) []
  resolved_asks (op.Read path off len) = one_asks true path (λ p. op.Read p off len) []
  resolved_asks (op.Stat path) = one_asks false path (λ p. op.Stat p) []
  resolved_asks (op.List path) = one_asks true path (λ p. op.List p) []
  resolved_asks (op.Readlink path) = one_asks false path (λ p. op.Readlink p) []
  resolved_asks (op.Time path) = one_asks true path (λ p. op.Time p) []
  resolved_asks op.Sync = tt
  resolved_asks op.Mount = tt
  resolved_asks op.Unmount = tt
  resolved_asks op.Crash = tt
  resolved_asks (op.CrashAt k) = tt
  resolved_asks (op.CutAt k) = tt
  resolved_asks op.Stall = tt
