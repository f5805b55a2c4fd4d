-- The walks of a line through links are told where they look, and so is the line.
use Rattle.std.proofs.Common.{ℕ, zero, suc, ◌≡◌, ◌==◌, ◌&&◌, ◌*◌, Bool, true, false, if◌then◌else◌, nat_eq, inl, Option, Some, None, Result, Ok, Err, List, [], ◌∷◌, ◌++◌, refl, sym, ap, ◌∙◌, subst, arith}
use Rattle.std.specs.List.{Contains}
use Rattle.frang_base.specs.PathText.{path_of}
use Rattle.frang_base.specs.declared.fault.PathFault.{PathFault}
use Rattle.frang_base.specs.declared.limits.TheConstants.{LINKS_FOLLOWED_MAX}
use Rattle.frang_base.specs.declared.op.Op.{Op}
use Rattle.frang_base.specs.declared.op.Op.TheVariants as op
use Rattle.frang_base.specs.declared.reply.Reply.TheVariants as reply
use Rattle.tree_definitions.specs.Perform.{Step, Goes, Stops}
use Rattle.tree_definitions.specs.Resolve.{is_absolute, target_text}
use Rattle.disk_definitions.specs.Store.{Store, StoredNode, StoredEntry}
use Rattle.disk_definitions.specs.Naming.{Naming}
use Rattle.disk_definitions.specs.Ask.{Sector, InodeAt, Ask, Got, ReadInode, bind, run}
use Rattle.disk_definitions.specs.Plans.{Hand}
use Rattle.disk_definitions.specs.PlanOf.{plan_of}
use Rattle.disk_definitions.specs.Walks.{Found, Walked, search, is_named, spot_by, look_up, in_inode}
use Rattle.disk_definitions.specs.Walks.Spot.{Lost}
use Rattle.plan_laws.proofs.Asking.{run-bind}
use Rattle.plan_laws.proofs.Covering.{has_head}
use Rattle.plan_laws.proofs.Standing.{HasKind, DiskStands, disk_stands}
use Rattle.plan_laws.proofs.WalksFine.{SpotStands, step_stands, kind_two}
use Rattle.disk_definitions.specs.Resolving.{PathEnd, Leads, Refused, Resolution, leads, refused, behind, passes, at_target, with_target, at_entry, at_gap, at_name, below_inode, resolve_names, resolve_from, resolve}
use Rattle.disk_definitions.specs.Lines.{by_path, is_found, by_second, by_first, over_path, over_paths, resolved, with_trail, plan_step, plan_of_line}
use Rattle.line_laws.proofs.Entries.{Follow, FoundLeads, found_leads}
use Rattle.line_laws.specs.Told.{LinesAreTold}
use Rattle.line_laws.proofs.Tells.{Among, same_among, Told, tells_then, tells_value, told_then, are_told}
use Rattle.line_laws.proofs.WalksTold.{Keeps, search_told}
use Rattle.line_laws.proofs.CoverAllTold.{plan_told}

module _ (h : Hand) (s : Store) (n : Naming) (disk : DiskStands h s n) where
  abbrev All : {A : Type 0} → Ask A → List Sector → Type 0
  All p before = Told s h.held p before

  -- a node passed through
  passes_told : (inode : ℕ) (p : Ask Resolution) (before : List Sector) → All p before → All (passes inode p) before
  passes_told inode p before t = told_then s h.held p (λ rest. Got (behind inode rest)) before t (λ later rest. tt)

  -- ---- a name that was looked up

  gap_told : (here names : List (List ℕ)) (later : List Sector) → All (at_gap here names) later
  gap_told here [] later = tt
  gap_told here (name ∷ names) later = tt

  module _ (last : Bool) (follow into : ℕ → Ask Resolution) (here : List (List ℕ)) (follows : (link kind : ℕ) → HasKind s link kind → (later : List Sector) → All (follow link) later)
      (goes_in : (inode : ℕ) → HasKind s inode 2 → (later : List Sector) → All (into inode) later) where
    entry_told : (names : List (List ℕ)) (entry : StoredEntry) → HasKind s entry.inode entry.kind → (later : List Sector) → All (at_entry last follow into here names entry) later
    entry_told [] entry k later = go (last && entry.kind == 3)
      where
        go : (b : Bool) → All (if b then follow entry.inode else leads here (Some entry.kind)) later
        go true = follows entry.inode entry.kind k later
        go false = tt
    entry_told (name ∷ names) entry k later = go (entry.kind == 3) (entry.kind == 2) refl
      where
        go : (a b : Bool) → entry.kind == 2 ≡ b → All (if a then follow entry.inode else (if b then into entry.inode else refused reply.NotDir)) later
        go true b e = follows entry.inode entry.kind k later
        go false true e = goes_in entry.inode (subst (HasKind s entry.inode) (kind_two entry.kind e) k) later
        go false false e = tt

    name_told : (names : List (List ℕ)) (found : Option Found) → FoundLeads s found → (later : List Sector) → All (at_name last follow into here names found) later
    name_told names None k later = gap_told here names later
    name_told names (Some (slot, None)) k later = gap_told here names later
    name_told names (Some (slot, Some entry)) k later = entry_told names entry k later

  -- ---- along the names

  module _ (last : Bool) (follow : Follow)
      (follows : (link kind : ℕ) → HasKind s link kind → (dir : ℕ) → HasKind s dir 2 → (above names : List (List ℕ)) (later : List Sector) → All (follow link dir above names) later) where
    names_told : (names : List (List ℕ)) (dir : ℕ) → HasKind s dir 2 → (above : List (List ℕ)) (before : List Sector) → All (resolve_names last follow dir above names) before
    names_told [] dir k above before = tt
    names_told (name ∷ names) dir k above before =
        let to_link : ℕ → Ask Resolution = λ link. follow link dir above names in
        let into : ℕ → Ask Resolution = λ inode. resolve_names last follow inode (above ++ name ∷ []) names in (
          inl (k.node, k.is),
          subst (λ o. All (below_inode last to_link into (above ++ name ∷ []) dir name names o) (InodeAt dir ∷ before)) (sym k.is)
              (below_told name dir k above names (InodeAt dir ∷ before) (has_head (InodeAt dir) before)
              (λ later found e. name_told last to_link into (above ++ name ∷ []) (λ link kind l later. follows link kind l dir k above names later) (λ inode l later. names_told names inode l (above ++ name ∷ []) later) names found e later)),
        )
      where
        below_told : (name : List ℕ) (dir : ℕ) (k : HasKind s dir 2) (above names : List (List ℕ)) (before : List Sector) → Contains before (InodeAt dir) →
            ((later : List Sector) (found : Option Found) → FoundLeads s found →
            All (at_name last (λ link. follow link dir above names) (λ inode. resolve_names last follow inode (above ++ name ∷ []) names) (above ++ name ∷ []) names found) later) →
            All (below_inode last (λ link. follow link dir above names) (λ inode. resolve_names last follow inode (above ++ name ∷ []) names) (above ++ name ∷ []) dir name names (Some k.node)) before
        below_told name dir k above names before c each = go (k.node.kind == 2)
          where
            p : Ask (Option Found)
            p = search k.node.small (is_named name) 0 (8 * k.node.blocks)

            next : Option Found → Ask Resolution
            next = at_name last (λ link. follow link dir above names) (λ inode. resolve_names last follow inode (above ++ name ∷ []) names) (above ++ name ∷ []) names

            searched : All (bind p next) before
            searched = tells_then s h.held (λ later found. Among before later × (found ≡ run p s)) (λ later r. Unit {0}) p next before
                (tells_value s h.held (Keeps h s n disk before) p before (search_told h s n disk before dir k.node k.is (is_named name) (8 * k.node.blocks) 0 before (same_among before) c (omega arith)))
                (λ later found e. each later found (subst (FoundLeads s) (sym e.1) (found_leads h s n disk dir k.node name k.is k.kind_is)))

            go : (b : Bool) → All (if b then passes dir (bind p next) else refused reply.NotDir) before
            go true = passes_told dir (bind p next) before searched
            go false = tt

  -- ---- links

  target_told : (next : ℕ → List (List ℕ) → List (List ℕ) → Ask Resolution) → ((dir : ℕ) → HasKind s dir 2 → (above names : List (List ℕ)) (later : List Sector) → All (next dir above names) later) →
      (absolute : Bool) (way : Result (List (List ℕ)) PathFault) (dir : ℕ) → HasKind s dir 2 → (above names : List (List ℕ)) (later : List Sector) → All (at_target next absolute way dir above names) later
  target_told next each absolute (Err fault) dir k above names later = tt
  target_told next each true (Ok inner) dir k above names later = each 0 disk.root [] (inner ++ names) later
  target_told next each false (Ok inner) dir k above names later = each dir k above (inner ++ names) later

  from_told : (left : ℕ) (last : Bool) (dir : ℕ) → HasKind s dir 2 → (above names : List (List ℕ)) (before : List Sector) → All (resolve_from left last dir above names) before
  from_told zero last dir k above names before = names_told last (λ link holder over rest. refused reply.Loop) (λ link kind l holder m over rest later. tt) names dir k above before
  from_told (suc left) last dir k above names before =
      names_told last
      (λ link holder over rest. passes link (ReadInode link (with_target (λ target. at_target (resolve_from left last) (is_absolute target) (path_of (target_text target)) holder over rest))))
      (λ link kind l holder m over rest later.
      (let follow : List ℕ → Ask Resolution = λ target. at_target (resolve_from left last) (is_absolute target) (path_of (target_text target)) holder over rest in
      passes_told link (ReadInode link (with_target follow)) later (
        inl (l.node, l.is),
        subst (λ o. All (with_target follow o) (InodeAt link ∷ later)) (sym l.is)
            (target_told (resolve_from left last) (from_told left last) (is_absolute l.node.target) (path_of (target_text l.node.target)) holder m over rest (InodeAt link ∷ later)),
      )))
      names dir k above before

  path_told : (last : Bool) (path : List (List ℕ)) (before : List Sector) → All (resolve last path) before
  unfolding resolve
  path_told last path before = from_told LINKS_FOLLOWED_MAX last 0 disk.root [] path before

  -- ---- operations

  one_told : (last : Bool) (path : List (List ℕ)) (make : List (List ℕ) → Op) (before : List Sector) → All (over_path last path make) before
  one_told last path make before = told_then s h.held (resolve last path) (by_path [] make) before (path_told last path before) (λ later w. tt)

  second_told : (c : Bool) (trail : List ℕ) (to : List (List ℕ)) (make : List (List ℕ) → Op) (later : List Sector) → All (by_second c trail to make) later
  second_told true trail to make later = told_then s h.held (resolve false to) (by_path trail make) later (path_told false to later) (λ most w. tt)
  second_told false trail to make later = tt

  module _ (dirs : Bool) (path to : List (List ℕ)) (make : List (List ℕ) → List (List ℕ) → Op) where
    first_told : (end : PathEnd) (trail : List ℕ) (later : List Sector) → All (by_first dirs to make end trail) later
    first_told (Leads way kind) trail later = second_told (is_found dirs kind) trail to (make way) later
    first_told (Refused r) trail later = tt

    two_told : (before : List Sector) → All (over_paths dirs path to make) before
    two_told before = told_then s h.held (resolve false path) (λ w. by_first dirs to make w.end w.trail) before (path_told false path before) (λ later w. first_told w.end w.trail later)

  resolved_told : (o : Op) (before : List Sector) → All (resolved o) before
  resolved_told (op.Create path) before = one_told false path (λ p. op.Create p) before
  resolved_told (op.Mkdir path) before = one_told false path (λ p. op.Mkdir p) before
  resolved_told (op.Symlink path target) before = one_told false path (λ p. op.Symlink p target) before
  resolved_told (op.Link path to) before = two_told false path to (λ p q. op.Link p q) before
  resolved_told (op.Unlink path) before = one_told false path (λ p. op.Unlink p) before
  resolved_told (op.Rmdir path) before = one_told false path (λ p. op.Rmdir p) before
  resolved_told (op.Rename [] to) before = tt
  resolved_told (op.Rename (name ∷ names) []) before = tt
  resolved_told (op.Rename (name ∷ names) (new ∷ news)) before = two_told true (name ∷ names) (new ∷ news) (λ p q. op.Rename p q) before
  resolved_told (op.Write path off bytes) before = one_told true path (λ p. op.Write p off bytes) before
  resolved_told (op.Fill path off len byte) before = one_told true path (λ p. op.Fill p off len byte) before
  resolved_told (op.Truncate path len) before = one_told true path (λ p. op.Truncate p len) before
  resolved_told (op.Read path off len) before = one_told true path (λ p. op.Read p off len) before
  resolved_told (op.Stat path) before = one_told false path (λ p. op.Stat p) before
  resolved_told (op.List path) before = one_told true path (λ p. op.List p) before
  resolved_told (op.Readlink path) before = one_told false path (λ p. op.Readlink p) before
  resolved_told (op.Time path) before = one_told true path (λ p. op.Time p) before
  resolved_told op.Sync before = tt
  resolved_told op.Mount before = tt
  resolved_told op.Unmount before = tt
  resolved_told op.Crash before = tt
  resolved_told (op.CrashAt k) before = tt
  resolved_told (op.CutAt k) before = tt
  resolved_told op.Stall before = tt

  step_told : (birth when : ℕ) (trail : List ℕ) (step : Step) (later : List Sector) → All (plan_step h birth when trail step) later
  step_told birth when trail (Goes o) later = told_then s h.held (plan_of h birth when o) (λ plan. Got (with_trail trail plan)) later (plan_told h s n disk o birth when later) (λ most plan. tt)
  step_told birth when trail (Stops r) later = tt

  pub line_told : (o : Op) (birth when : ℕ) → All (plan_of_line h birth when o) []
  line_told o birth when = told_then s h.held (resolved o) (λ w. plan_step h birth when w.trail w.step) [] (resolved_told o []) (λ later w. step_told birth when w.trail w.step later)

pub lines_are_told : LinesAreTold
lines_are_told o h s tree n birth when of hand = are_told s h.held (λ later plan. Unit {0}) (plan_of_line h birth when o) [] (line_told h s n (disk_stands h s tree n of hand) o birth when)
