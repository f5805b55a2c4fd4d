-- The walks of a line look at the inodes of its trail, in order, and at no others; a refusal of theirs doesn't say that something is full.
use Rattle.std.proofs.Common.{ℕ, zero, suc, ◌≡◌, ◌==◌, ◌&&◌, ◌*◌, Bool, true, false, if◌then◌else◌, nat_eq, Option, Some, None, Result, Ok, Err, List, [], ◌∷◌, ◌++◌, refl, sym, ap, ◌∙◌, subst, arith}
use Rattle.std.proofs.lemmas.List.{append-nil, append_assoc}
use Rattle.frang_base.specs.PathText.{path_of}
use Rattle.frang_base.specs.declared.fault.PathFault.{PathFault}
use Rattle.frang_base.specs.declared.limits.TheConstants.{LINKS_FOLLOWED_MAX}
use Rattle.frang_base.specs.declared.op.Op.{Op}
use Rattle.frang_base.specs.declared.op.Op.TheVariants as op
use Rattle.frang_base.specs.declared.reply.Reply.TheVariants as reply
use Rattle.tree_definitions.specs.Perform.{Step, Goes, Stops, Resolved}
use Rattle.tree_definitions.specs.Resolve.{is_absolute, target_text}
use Rattle.disk_definitions.specs.Store.{Store, StoredNode, StoredEntry}
use Rattle.disk_definitions.specs.Naming.{Naming}
use Rattle.disk_definitions.specs.Ask.{Ask, Got, ReadInode, bind, run}
use Rattle.disk_definitions.specs.Plans.{Hand, says_full}
use Rattle.disk_definitions.specs.Walks.{Found, Walked, search, is_named, spot_by, look_up, in_inode}
use Rattle.disk_definitions.specs.Walks.Spot.{Lost}
use Rattle.plan_laws.proofs.Asking.{run-bind}
use Rattle.plan_laws.proofs.Standing.{HasKind, DiskStands}
use Rattle.plan_laws.proofs.WalksFine.{SpotStands, step_stands, kind_two}
use Rattle.disk_definitions.specs.Resolving.{PathEnd, Leads, Refused, Resolution, leads, refused, behind, passes, at_target, with_target, at_entry, at_gap, at_name, below_inode, resolve_names, resolve_from, resolve}
use Rattle.disk_definitions.specs.Lines.{step_of, by_path, is_found, by_second, by_first, over_path, over_paths, resolved}
use Rattle.line_laws.proofs.Entries.{Follow, FoundLeads, found_leads}
use Rattle.line_locks.proofs.Ending.{Ends, ends_then, ends_value}
use Rattle.line_locks.proofs.WalksEnd.{Same, search_same}

-- a walk that is refused doesn't say that something is full
abbrev pub IsQuiet : PathEnd → Type 0
IsQuiet (Leads path kind) = Unit {0}
IsQuiet (Refused r) = says_full r ≡ false

abbrev pub IsQuietStep : Step → Type 0
IsQuietStep (Goes o) = Unit {0}
IsQuietStep (Stops r) = says_full r ≡ false

-- behind those before it the inodes of its trail were looked at
pub record WalksTrail (before later : List ℕ) (walk : Resolution) : Type 0 where
  pub nodes : later ≡ before ++ walk.trail
  pub quiet : IsQuiet walk.end

pub record LineTrail (later : List ℕ) (line : Resolved) : Type 0 where
  pub nodes : later ≡ line.trail
  pub quiet : IsQuietStep line.step

module _ (h : Hand) (s : Store) (n : Naming) (disk : DiskStands h s n) where
  abbrev All : Ask Resolution → List ℕ → Type 0
  All p before = Ends s (WalksTrail before) p before

  ends_here : (before : List ℕ) (end : PathEnd) → IsQuiet end → WalksTrail before before (record { end = end; trail = [] })
  ends_here before end q = record { nodes = sym (append-nil before); quiet = q }

  -- a node in front
  one_first : (before later : List ℕ) (inode : ℕ) (rest : Resolution) → WalksTrail (before ++ inode ∷ []) later rest → WalksTrail before later (behind inode rest)
  one_first before later inode rest e = record { nodes = e.nodes ∙ append_assoc before (inode ∷ []) rest.trail; quiet = e.quiet }

  passes_ends : (inode : ℕ) (p : Ask Resolution) (before : List ℕ) → All p (before ++ inode ∷ []) → Ends s (WalksTrail before) (passes inode p) (before ++ inode ∷ [])
  passes_ends inode p before t = ends_then s (WalksTrail (before ++ inode ∷ [])) (WalksTrail before) p (λ rest. Got (behind inode rest)) (before ++ inode ∷ []) t (λ later rest e. one_first before later inode rest e)

  passes_read : (inode : ℕ) (next : Option StoredNode → Ask Resolution) (before : List ℕ) → All (next (s.inode inode)) (before ++ inode ∷ []) → All (passes inode (ReadInode inode next)) before
  passes_read inode next before t = ends_then s (WalksTrail (before ++ inode ∷ [])) (WalksTrail before) (ReadInode inode next) (λ rest. Got (behind inode rest)) before t (λ later rest e. one_first before later inode rest e)

  -- ---- a name that was looked up

  gap_ends : (here names : List (List ℕ)) (before : List ℕ) → All (at_gap here names) before
  gap_ends here [] before = ends_here before (Leads here None) tt
  gap_ends here (name ∷ names) before = ends_here before (Refused reply.NoEnt) refl

  module _ (last : Bool) (follow into : ℕ → Ask Resolution) (here : List (List ℕ)) (follows : (link kind : ℕ) → HasKind s link kind → (before : List ℕ) → All (follow link) before)
      (goes_in : (inode : ℕ) → HasKind s inode 2 → (before : List ℕ) → All (into inode) before) where
    entry_ends : (names : List (List ℕ)) (entry : StoredEntry) → HasKind s entry.inode entry.kind → (before : List ℕ) → All (at_entry last follow into here names entry) before
    entry_ends [] entry k before = go (last && entry.kind == 3)
      where
        go : (b : Bool) → All (if b then follow entry.inode else leads here (Some entry.kind)) before
        go true = follows entry.inode entry.kind k before
        go false = ends_here before (Leads here (Some entry.kind)) tt
    entry_ends (name ∷ names) entry k before = go (entry.kind == 3) (entry.kind == 2) refl
      where
        go : (a b : Bool) → entry.kind == 2 ≡ b → All (if a then follow entry.inode else (if b then into entry.inode else refused reply.NotDir)) before
        go true b e = follows entry.inode entry.kind k before
        go false true e = goes_in entry.inode (subst (HasKind s entry.inode) (kind_two entry.kind e) k) before
        go false false e = ends_here before (Refused reply.NotDir) refl

    name_ends : (names : List (List ℕ)) (found : Option Found) → FoundLeads s found → (before : List ℕ) → All (at_name last follow into here names found) before
    name_ends names None k before = gap_ends here names before
    name_ends names (Some (slot, None)) k before = gap_ends here names before
    name_ends names (Some (slot, Some entry)) k before = entry_ends names entry k before

  -- ---- along the names

  module _ (last : Bool) (follow : Follow)
      (follows : (link kind : ℕ) → HasKind s link kind → (dir : ℕ) → HasKind s dir 2 → (above names : List (List ℕ)) (before : List ℕ) → All (follow link dir above names) before) where
    names_end : (names : List (List ℕ)) (dir : ℕ) → HasKind s dir 2 → (above : List (List ℕ)) (before : List ℕ) → All (resolve_names last follow dir above names) before
    names_end [] dir k above before = ends_here before (Leads above (Some 2)) tt
    names_end (name ∷ names) dir k above before =
        let to_link : ℕ → Ask Resolution = λ link. follow link dir above names in
        let into : ℕ → Ask Resolution = λ inode. resolve_names last follow inode (above ++ name ∷ []) names in
        subst (λ o. Ends s (WalksTrail before) (below_inode last to_link into (above ++ name ∷ []) dir name names o) (before ++ dir ∷ [])) (sym k.is)
        (below_ends name dir k above names before
        (λ found e. name_ends last to_link into (above ++ name ∷ []) (λ link kind l later. follows link kind l dir k above names later) (λ inode l later. names_end names inode l (above ++ name ∷ []) later) names found e (before ++ dir ∷ [])))
      where
        below_ends : (name : List ℕ) (dir : ℕ) (k : HasKind s dir 2) (above names : List (List ℕ)) (before : List ℕ) →
            ((found : Option Found) → FoundLeads s found →
            All (at_name last (λ link. follow link dir above names) (λ inode. resolve_names last follow inode (above ++ name ∷ []) names) (above ++ name ∷ []) names found) (before ++ dir ∷ [])) →
            Ends s (WalksTrail before) (below_inode last (λ link. follow link dir above names) (λ inode. resolve_names last follow inode (above ++ name ∷ []) names) (above ++ name ∷ []) dir name names (Some k.node)) (before ++ dir ∷ [])
        below_ends name dir k above names before each = go (k.node.kind == 2) refl
          where
            p : Ask (Option Found)
            p = search k.node.small (is_named name) 0 (8 * k.node.blocks)

            next : Option Found → Ask Resolution
            next = at_name last (λ link. follow link dir above names) (λ inode. resolve_names last follow inode (above ++ name ∷ []) names) (above ++ name ∷ []) names

            passed : List ℕ
            passed = before ++ dir ∷ []

            searched : All (bind p next) passed
            searched = ends_then s (λ later found. (later ≡ passed) × (found ≡ run p s)) (WalksTrail passed) p next passed
                (ends_value s (Same h s n disk passed) p passed (search_same h s n disk k.node.small (is_named name) (8 * k.node.blocks) 0 passed))
                (λ later found e. subst (λ l. Ends s (WalksTrail passed) (next found) l) (sym e.0) (each found (subst (FoundLeads s) (sym e.1) (found_leads h s n disk dir k.node name k.is k.kind_is))))

            go : (b : Bool) → k.node.kind == 2 ≡ b → Ends s (WalksTrail before) (if b then passes dir (bind p next) else refused reply.NotDir) passed
            go true e = passes_ends dir (bind p next) before searched
            go false e = absurd (let z : nat_eq k.node.kind 2 ≡ true = ap (λ k. nat_eq k 2) k.kind_is in cc)

  -- ---- links

  target_ends : (next : ℕ → List (List ℕ) → List (List ℕ) → Ask Resolution) → ((dir : ℕ) → HasKind s dir 2 → (above names : List (List ℕ)) (before : List ℕ) → All (next dir above names) before) →
      (absolute : Bool) (way : Result (List (List ℕ)) PathFault) (dir : ℕ) → HasKind s dir 2 → (above names : List (List ℕ)) (before : List ℕ) → All (at_target next absolute way dir above names) before
  target_ends next each absolute (Err fault) dir k above names before = ends_here before (Refused reply.NoEnt) refl
  target_ends next each true (Ok inner) dir k above names before = each 0 disk.root [] (inner ++ names) before
  target_ends next each false (Ok inner) dir k above names before = each dir k above (inner ++ names) before

  from_end : (left : ℕ) (last : Bool) (dir : ℕ) → HasKind s dir 2 → (above names : List (List ℕ)) (before : List ℕ) → All (resolve_from left last dir above names) before
  from_end zero last dir k above names before = names_end last (λ link holder over rest. refused reply.Loop) (λ link kind l holder m over rest later. ends_here later (Refused reply.Loop) refl) names dir k above before
  from_end (suc left) last dir k above names before =
      names_end last
      (λ link holder over rest. passes link (ReadInode link (with_target (λ target. at_target (resolve_from left last) (is_absolute target) (path_of (target_text target)) holder over rest))))
      (λ link kind l holder m over rest later.
      (let follow : List ℕ → Ask Resolution = λ target. at_target (resolve_from left last) (is_absolute target) (path_of (target_text target)) holder over rest in
      passes_read link (with_target follow) later
      (subst (λ o. All (with_target follow o) (later ++ link ∷ [])) (sym l.is)
      (target_ends (resolve_from left last) (from_end left last) (is_absolute l.node.target) (path_of (target_text l.node.target)) holder m over rest (later ++ link ∷ [])))))
      names dir k above before

  path_ends : (last : Bool) (path : List (List ℕ)) (before : List ℕ) → All (resolve last path) before
  unfolding resolve
  path_ends last path before = from_end LINKS_FOLLOWED_MAX last 0 disk.root [] path before

  -- ---- operations

  abbrev Line : Ask Resolved → List ℕ → Type 0
  Line p nodes = Ends s LineTrail p nodes

  quiet_step : (end : PathEnd) (make : List (List ℕ) → Op) → IsQuiet end → IsQuietStep (step_of end make)
  quiet_step (Leads path kind) make q = tt
  quiet_step (Refused r) make q = q

  by_path_ends : (trail nodes : List ℕ) (make : List (List ℕ) → Op) → nodes ≡ trail → (later : List ℕ) (walk : Resolution) → WalksTrail nodes later walk → Line (by_path trail make walk) later
  by_path_ends trail nodes make e later walk w = record { nodes = w.nodes ∙ ap (λ l. l ++ walk.trail) e; quiet = quiet_step walk.end make w.quiet }

  one_ends : (last : Bool) (path : List (List ℕ)) (make : List (List ℕ) → Op) → Line (over_path last path make) []
  one_ends last path make = ends_then s (WalksTrail []) LineTrail (resolve last path) (by_path [] make) [] (path_ends last path []) (by_path_ends [] [] make refl)

  second_ends : (c : Bool) (trail : List ℕ) (to : List (List ℕ)) (make : List (List ℕ) → Op) (nodes : List ℕ) → nodes ≡ trail → Line (by_second c trail to make) nodes
  second_ends true trail to make nodes e = ends_then s (WalksTrail nodes) LineTrail (resolve false to) (by_path trail make) nodes (path_ends false to nodes) (by_path_ends trail nodes make e)
  second_ends false trail to make nodes e = record { nodes = e; quiet = tt }

  module _ (dirs : Bool) (path to : List (List ℕ)) (make : List (List ℕ) → List (List ℕ) → Op) where
    first_ends : (nodes trail : List ℕ) → nodes ≡ trail → (end : PathEnd) → IsQuiet end → Line (by_first dirs to make end trail) nodes
    first_ends nodes trail e (Leads way kind) q = second_ends (is_found dirs kind) trail to (make way) nodes e
    first_ends nodes trail e (Refused r) q = record { nodes = e; quiet = q }

    two_ends : Line (over_paths dirs path to make) []
    two_ends = ends_then s (WalksTrail []) LineTrail (resolve false path) (λ w. by_first dirs to make w.end w.trail) [] (path_ends false path []) (λ later w e. first_ends later w.trail e.nodes w.end e.quiet)

  as_it_stands_ends : (o : Op) → LineTrail [] (record { step = Goes o; trail = [] })
  as_it_stands_ends o = record { nodes = refl; quiet = tt }

  pub resolved_ends : (o : Op) → Line (resolved o) []
  resolved_ends (op.Create path) = one_ends false path (λ p. op.Create p)
  resolved_ends (op.Mkdir path) = one_ends false path (λ p. op.Mkdir p)
  resolved_ends (op.Symlink path target) = one_ends false path (λ p. op.Symlink p target)
  resolved_ends (op.Link path to) = two_ends false path to (λ p q. op.Link p q)
  resolved_ends (op.Unlink path) = one_ends false path (λ p. op.Unlink p)
  resolved_ends (op.Rmdir path) = one_ends false path (λ p. op.Rmdir p)
  resolved_ends (op.Rename [] to) = as_it_stands_ends (op.Rename [] to)
  resolved_ends (op.Rename (name ∷ names) []) = as_it_stands_ends (op.Rename (name ∷ names) [])
  resolved_ends (op.Rename (name ∷ names) (new ∷ news)) = two_ends true (name ∷ names) (new ∷ news) (λ p q. op.Rename p q)
  resolved_ends (op.Write path off bytes) = one_ends true path (λ p. op.Write p off bytes)
  resolved_ends (op.Fill path off len byte) = one_ends true path (λ p. op.Fill p off len byte)
  resolved_ends (op.Truncate path len) = one_ends true path (λ p. op.Truncate p len)
  resolved_ends (op.Read path off len) = one_ends true path (λ p. op.Read p off len)
  resolved_ends (op.Stat path) = one_ends false path (λ p. op.Stat p)
  resolved_ends (op.List path) = one_ends true path (λ p. op.List p)
  resolved_ends (op.Readlink path) = one_ends false path (λ p. op.Readlink p)
  resolved_ends (op.Time path) = one_ends true path (λ p. op.Time p)
  resolved_ends op.Sync = as_it_stands_ends op.Sync
  resolved_ends op.Mount = as_it_stands_ends op.Mount
  resolved_ends op.Unmount = as_it_stands_ends op.Unmount
  resolved_ends op.Crash = as_it_stands_ends op.Crash
  resolved_ends (op.CrashAt k) = as_it_stands_ends (op.CrashAt k)
  resolved_ends (op.CutAt k) = as_it_stands_ends (op.CutAt k)
  resolved_ends op.Stall = as_it_stands_ends op.Stall
