-- A walk is refused by a reply of a line's own, whatever is said to what it asks.
use Rattle.std.proofs.Common.{ℕ, zero, suc, ◌*◌, ◌==◌, ◌&&◌, Bool, true, false, if◌then◌else◌, Option, Some, None, List, [], ◌∷◌, ◌++◌}
use Rattle.std.specs.Prelude.{Result, Ok, Err}
use Rattle.frang_base.specs.PathText.{path_of}
use Rattle.frang_base.specs.declared.fault.PathFault.{PathFault}
use Rattle.frang_base.specs.declared.reply.Reply.{Reply}
use Rattle.frang_base.specs.declared.reply.Reply.TheVariants as reply
use Rattle.tree_definitions.specs.Resolve.{is_absolute, target_text}
use Rattle.disk_definitions.specs.Store.{StoredNode, StoredEntry}
use Rattle.disk_definitions.specs.Ask.{Ask, Got, ReadInode, bind}
use Rattle.disk_definitions.specs.Walks.{Spot, Walked, Found, search, is_named, spot_by, look_up, in_inode, onward, walk_from, walk}
use Rattle.disk_definitions.specs.Walks.Spot.{AtRoot, AtName, AtGap, Lost}
use Rattle.disk_definitions.specs.Resolving.{PathEnd, Leads, Refused, Resolution, at_entry, at_gap, at_name, at_target, behind, below_inode, leads, passes, refused, resolve, resolve_from, resolve_names, with_target}
use Rattle.core_transcripts.proofs.Always.{Always, always_after, always_bind}

-- a reply of a line's own
abbrev pub IsPlain : Reply → Type 0
IsPlain reply.Down = ⊥
IsPlain reply.Expired = ⊥
IsPlain reply.Io = ⊥
IsPlain reply.Already = ⊥
IsPlain reply.Mounted = ⊥
IsPlain r = Unit {0}

-- ---- over sectors

abbrev pub SpotIsPlain : Spot → Type 0
SpotIsPlain AtRoot = Unit {0}
SpotIsPlain (AtName i x name q e) = Unit {0}
SpotIsPlain (AtGap i x name) = Unit {0}
SpotIsPlain (Lost r) = IsPlain r

abbrev pub WalkIsPlain : Walked → Type 0
WalkIsPlain walked = SpotIsPlain walked.spot

found_plain : (i : ℕ) (x : StoredNode) (name : List ℕ) (o : Option Found) → SpotIsPlain (spot_by i x name o)
found_plain i x name None = tt
found_plain i x name (Some (q, None)) = tt
found_plain i x name (Some (q, Some e)) = tt

inode_plain : (dirs : List ℕ) (i : ℕ) (name : List ℕ) (o : Option StoredNode) → Always WalkIsPlain (in_inode dirs i name o)
inode_plain dirs i name None = tt
inode_plain dirs i name (Some x) = go (x.kind == 2)
  where
    go : (b : Bool) → Always WalkIsPlain (if b then look_up dirs i x name else Got (record { spot = Lost reply.NotDir; dirs = dirs }))
    go false = tt
    go true =
        always_after WalkIsPlain (search x.small (is_named name) 0 (8 * x.blocks)) (λ found. Got (record { spot = spot_by i x name found; dirs = dirs ++ i ∷ [] })) (λ found. found_plain i x name found)

onward_plain : (next : List ℕ → ℕ → Ask Walked) → ((more : List ℕ) (j : ℕ) → Always WalkIsPlain (next more j)) → (dirs : List ℕ) (v : Spot) → SpotIsPlain v →
    Always WalkIsPlain (onward next dirs v)
onward_plain next each dirs AtRoot f = each dirs 0
onward_plain next each dirs (AtGap i x name) f = tt
onward_plain next each dirs (Lost r) f = f
onward_plain next each dirs (AtName i x name q e) f = go (e.kind == 2)
  where
    go : (b : Bool) → Always WalkIsPlain (if b then next dirs e.inode else Got (record { spot = Lost reply.NotDir; dirs = dirs }))
    go true = each dirs e.inode
    go false = tt

from_plain : (path : List (List ℕ)) (dirs : List ℕ) (i : ℕ) → Always WalkIsPlain (walk_from dirs i path)
from_plain [] dirs i = tt
from_plain (name ∷ []) dirs i = λ said. inode_plain dirs i name said
from_plain (name ∷ next ∷ names) dirs i =
    always_bind WalkIsPlain WalkIsPlain (ReadInode i (in_inode dirs i name)) (λ w. onward (λ more j. walk_from more j (next ∷ names)) w.dirs w.spot) (λ said. inode_plain dirs i name said)
    (λ w f. onward_plain (λ more j. walk_from more j (next ∷ names)) (λ more j. from_plain (next ∷ names) more j) w.dirs w.spot f)

pub walk_plain : (path : List (List ℕ)) → Always WalkIsPlain (walk path)
walk_plain path = from_plain path [] 0

-- ---- through links

abbrev pub EndIsPlain : PathEnd → Type 0
EndIsPlain (Leads path kind) = Unit {0}
EndIsPlain (Refused r) = IsPlain r

abbrev pub ResolutionIsPlain : Resolution → Type 0
ResolutionIsPlain walk = EndIsPlain walk.end

passes_plain : (inode : ℕ) (walk : Ask Resolution) → Always ResolutionIsPlain walk → Always ResolutionIsPlain (passes inode walk)
passes_plain inode walk h = always_bind ResolutionIsPlain ResolutionIsPlain walk (λ rest. Got (behind inode rest)) h (λ rest f. f)

gap_plain : (here names : List (List ℕ)) → Always ResolutionIsPlain (at_gap here names)
gap_plain here [] = tt
gap_plain here (name ∷ names) = tt

module _ (last : Bool) (follow into : ℕ → Ask Resolution) (followed : (i : ℕ) → Always ResolutionIsPlain (follow i)) (gone : (i : ℕ) → Always ResolutionIsPlain (into i)) where
  entry_plain : (here names : List (List ℕ)) (e : StoredEntry) → Always ResolutionIsPlain (at_entry last follow into here names e)
  entry_plain here [] e = go (last && e.kind == 3)
    where
      go : (b : Bool) → Always ResolutionIsPlain (if b then follow e.inode else leads here (Some e.kind))
      go true = followed e.inode
      go false = tt
  entry_plain here (name ∷ names) e = go (e.kind == 3) (e.kind == 2)
    where
      go : (a b : Bool) → Always ResolutionIsPlain (if a then follow e.inode else (if b then into e.inode else refused reply.NotDir))
      go true b = followed e.inode
      go false true = gone e.inode
      go false false = tt

  name_plain : (here names : List (List ℕ)) (o : Option Found) → Always ResolutionIsPlain (at_name last follow into here names o)
  name_plain here names None = gap_plain here names
  name_plain here names (Some (slot, None)) = gap_plain here names
  name_plain here names (Some (slot, Some e)) = entry_plain here names e

  below_plain : (here : List (List ℕ)) (dir : ℕ) (name : List ℕ) (names : List (List ℕ)) (o : Option StoredNode) → Always ResolutionIsPlain (below_inode last follow into here dir name names o)
  below_plain here dir name names None = tt
  below_plain here dir name names (Some x) = go (x.kind == 2)
    where
      searched : Ask Resolution
      searched = bind (search x.small (is_named name) 0 (8 * x.blocks)) (at_name last follow into here names)

      go : (b : Bool) → Always ResolutionIsPlain (if b then passes dir searched else refused reply.NotDir)
      go true =
          passes_plain dir searched
          (always_after ResolutionIsPlain (search x.small (is_named name) 0 (8 * x.blocks)) (at_name last follow into here names) (λ found. name_plain here names found))
      go false = tt

module _ (last : Bool) (follow : ℕ → ℕ → List (List ℕ) → List (List ℕ) → Ask Resolution)
    (followed : (link holder : ℕ) (over rest : List (List ℕ)) → Always ResolutionIsPlain (follow link holder over rest)) where
  names_plain : (names : List (List ℕ)) (dir : ℕ) (above : List (List ℕ)) → Always ResolutionIsPlain (resolve_names last follow dir above names)
  names_plain [] dir above = tt
  names_plain (name ∷ names) dir above = λ said.
      below_plain last (λ link. follow link dir above names) (λ inode. resolve_names last follow inode (above ++ name ∷ []) names) (λ i. followed i dir above names)
      (λ i. names_plain names i (above ++ name ∷ [])) (above ++ name ∷ []) dir name names said

target_plain : (next : ℕ → List (List ℕ) → List (List ℕ) → Ask Resolution) → ((dir : ℕ) (above names : List (List ℕ)) → Always ResolutionIsPlain (next dir above names)) →
    (absolute : Bool) (r : Result (List (List ℕ)) PathFault) (dir : ℕ) (above names : List (List ℕ)) → Always ResolutionIsPlain (at_target next absolute r dir above names)
target_plain next each absolute (Err fault) dir above names = tt
target_plain next each true (Ok inner) dir above names = each 0 [] (inner ++ names)
target_plain next each false (Ok inner) dir above names = each dir above (inner ++ names)

link_plain : (follow : List ℕ → Ask Resolution) → ((target : List ℕ) → Always ResolutionIsPlain (follow target)) → (o : Option StoredNode) → Always ResolutionIsPlain (with_target follow o)
link_plain follow each None = tt
link_plain follow each (Some x) = each x.target

-- on from a link
link_followed : (next : ℕ → List (List ℕ) → List (List ℕ) → Ask Resolution) → ((dir : ℕ) (above names : List (List ℕ)) → Always ResolutionIsPlain (next dir above names)) →
    (link holder : ℕ) (over rest : List (List ℕ)) →
    Always ResolutionIsPlain (passes link (ReadInode link (with_target (λ target. at_target next (is_absolute target) (path_of (target_text target)) holder over rest))))
link_followed next each link holder over rest =
    passes_plain link (ReadInode link (with_target (λ target. at_target next (is_absolute target) (path_of (target_text target)) holder over rest)))
    (λ said. link_plain (λ target. at_target next (is_absolute target) (path_of (target_text target)) holder over rest)
    (λ target. target_plain next each (is_absolute target) (path_of (target_text target)) holder over rest) said)

links_plain : (left : ℕ) (last : Bool) (dir : ℕ) (above names : List (List ℕ)) → Always ResolutionIsPlain (resolve_from left last dir above names)
links_plain zero last dir above names = names_plain last (λ link holder over rest. refused reply.Loop) (λ link holder over rest. tt) names dir above
links_plain (suc left) last dir above names =
    names_plain last
    (λ link holder over rest. passes link (ReadInode link (with_target (λ target. at_target (resolve_from left last) (is_absolute target) (path_of (target_text target)) holder over rest))))
    (λ link holder over rest. link_followed (resolve_from left last) (λ dir above names. links_plain left last dir above names) link holder over rest) names dir above

pub resolve_plain : (last : Bool) (path : List (List ℕ)) → Always ResolutionIsPlain (resolve last path)
unfolding resolve
resolve_plain last path = links_plain 8 last 0 [] path
