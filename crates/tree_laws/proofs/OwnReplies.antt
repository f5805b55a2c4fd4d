-- A reply that leaves the tree is never its operation's own.
use Rattle.std.proofs.Common.{ℕ, zero, suc, ◌≡◌, Bool, true, false, not, ◌||◌, Option, Some, None, Result, Ok, Err, List, [], ◌∷◌, ◌++◌, length, map, replicate, take, drop, nat_lt, cond, refl, sym, ◌∙◌, ap, codes, nat_eq}
use Rattle.std.specs.Cmp.Lexicographic.{pointwise}
use Rattle.std.proofs.lemmas.Bool.{and_parts}
use Rattle.frang_base.specs.PathText.{path_of}
use Rattle.frang_base.specs.declared.fault.PathFault.{PathFault}
use Rattle.frang_base.specs.declared.limits.TheConstants.{LINKS_FOLLOWED_MAX}
use Rattle.frang_base.specs.declared.op.Op.{Op}
use Rattle.frang_base.specs.declared.op.Op.TheVariants as op
use Rattle.frang_base.specs.declared.reply.Reply.{Reply}
use Rattle.frang_base.specs.declared.reply.Reply.TheVariants as reply
use Rattle.tree_definitions.specs.declared.cells.Cell.{Cell}
use Rattle.tree_definitions.specs.declared.cells.Cell.TheVariants.{Byte}
use Rattle.tree_definitions.specs.declared.history.Entry.{Entry}
use Rattle.tree_definitions.specs.declared.node.Node.{Node}
use Rattle.tree_definitions.specs.declared.node.Node.TheVariants.{Dir, File, Link}
use Rattle.tree_definitions.specs.Entries.{Entries, entry_at}
use Rattle.tree_definitions.specs.Tree.{FileTree, node_at}
use Rattle.tree_definitions.specs.Place.{Place, Root, Taken, Free, Nowhere, place}
use Rattle.tree_definitions.specs.Apply.{Answer, Plain, Shows, Applied, says, is_dir, made, linked_to, linked, unlinked, dir_removed, moved_onto, moved_to, renamed_to, renamed_from, renamed, at_node, if_file, at_file, written, truncated, shown, described, listed, target_of, time_of, overwritten, apply, is_path_op}
use Rattle.tree_definitions.specs.Resolve.{WalkEnd, At, Refused, Resolution, ends_at, refused, passes, is_absolute, target_text, at_target, at_entry, at_name, below_node, resolve_names, resolve_from, resolve}
use Rattle.tree_definitions.specs.Perform.{Step, Goes, Stops, step_of, is_found, by_second, by_first, resolved, perform_step}
use Rattle.tree_definitions.specs.SaidLines.{reply_word}
use Rattle.tree_definitions.specs.History.{applied, is_answer, agrees, contents_are, leaves_tree, may_be_ok, told_blocks}
use Rattle.tree_laws.proofs.Sameness.{text_sound}
use Rattle.tree_laws.proofs.Looking.{is_walk_reply, refused_well, well_refused}

-- a reply that an operation may have of itself
abbrev own : Reply → Bool
own reply.Down = false
own reply.Expired = false
own reply.Io = false
own reply.Already = false
own reply.Mounted = false
own _ = true

abbrev own_text : List ℕ → Bool
own_text text = not (pointwise nat_eq text (codes "down") || pointwise nat_eq text (codes "expired") || pointwise nat_eq text (codes "io") || pointwise nat_eq text (codes "already") || pointwise nat_eq text (codes "mounted"))

own_told : (r : Reply) → own_text (reply_word r) ≡ own r
own_told reply.Ok = refl
own_told _ = refl

abbrev own_answer : Answer → Bool
own_answer (Plain r) = own r
own_answer (Shows cells) = true

-- a reply that agrees with an own answer is own
own_agrees : (a : Answer) (r : Reply) → own_answer a ≡ true → agrees a r ≡ true → own r ≡ true
own_agrees (Plain s) r o h = sym (own_told r) ∙ ap own_text (sym (text_sound (reply_word s) (reply_word r) (and_parts (pointwise nat_eq (reply_word s) (reply_word r)) (contents_are s r) h).0)) ∙ own_told s ∙ o
own_agrees (Shows cells) (reply.Shown bytes) o h = refl
own_agrees (Shows cells) _ o h = absurd (cc)

-- ---- what is applied answers so
record Owned (a : Applied) : Type 0 where
  pub answer : own_answer a.answer ≡ true

either : (b : Bool) (x y : Applied) → Owned x → Owned y → Owned (cond b x y)
either true x y f g = f
either false x y f g = g

said : (t : FileTree) (r : Reply) → own r ≡ true → Owned (says t r)
said t r h = record { answer = h }

walk_own : (r : Reply) → is_walk_reply r ≡ true → own r ≡ true
walk_own reply.NoEnt h = refl
walk_own reply.NotDir h = refl
walk_own _ h = cc

module _ (t : FileTree) where
  made_owned : (b : ℕ) (x : Node) (p : Place) → refused_well p ≡ true → Owned (made t b x p)
  made_owned b x Root w = said t reply.Exist refl
  made_owned b x (Nowhere r) w = said t r (walk_own r w)
  made_owned b x (Taken d es n name c) w = said t reply.Exist refl
  made_owned b x (Free d es n name) w = search (either, said)

  linked_to_owned : (b : ℕ) (p : Place) → refused_well p ≡ true → Owned (linked_to t b p)
  linked_to_owned b Root w = said t reply.Exist refl
  linked_to_owned b (Nowhere r) w = said t r (walk_own r w)
  linked_to_owned b (Taken d es n name c) w = said t reply.Exist refl
  linked_to_owned b (Free d es n name) w = search (either, said)

  linked_owned : (p to : Place) → refused_well p ≡ true → refused_well to ≡ true → Owned (linked t p to)
  linked_owned Root to w v = said t reply.IsDir refl
  linked_owned (Nowhere r) to w v = said t r (walk_own r w)
  linked_owned (Free d es n name) to w v = said t reply.NoEnt refl
  linked_owned (Taken d es n name b) to w v = either (is_dir (node_at t b)) (says t reply.IsDir) (linked_to t b to) (said t reply.IsDir refl) (linked_to_owned b to v)

  unlinked_owned : (p : Place) → refused_well p ≡ true → Owned (unlinked t p)
  unlinked_owned Root w = said t reply.IsDir refl
  unlinked_owned (Nowhere r) w = said t r (walk_own r w)
  unlinked_owned (Free d es n name) w = said t reply.NoEnt refl
  unlinked_owned (Taken d es n name b) w = search (either, said)

  removed_owned : (p : Place) → refused_well p ≡ true → Owned (dir_removed t p)
  removed_owned Root w = said t reply.Inval refl
  removed_owned (Nowhere r) w = said t r (walk_own r w)
  removed_owned (Free d es n name) w = said t reply.NoEnt refl
  removed_owned (Taken d es n name b) w = search (either, said)

  onto_owned : (from : ℕ) (name : List ℕ) (b to : ℕ) (new : List ℕ) (old : ℕ) → Owned (moved_onto t from name b to new old)
  onto_owned from name b to new old = search (either, said)

  to_owned : (from : ℕ) (name : List ℕ) (b to : ℕ) (es : Entries) (n : ℕ) (new : List ℕ) → Owned (moved_to t from name b to es n new)
  to_owned from name b to es n new = search (either, said)

  renamed_to_owned : (from : ℕ) (name : List ℕ) (b : ℕ) (path : List (List ℕ)) (p : Place) → refused_well p ≡ true → Owned (renamed_to t from name b path p)
  renamed_to_owned from name b path Root w = said t reply.Inval refl
  renamed_to_owned from name b path (Nowhere r) w = said t r (walk_own r w)
  renamed_to_owned from name b path (Taken to es n new old) w = search (either, said, onto_owned)
  renamed_to_owned from name b path (Free to es n new) w = search (either, said, to_owned)

  renamed_from_owned : (p : Place) (to : List (List ℕ)) → refused_well p ≡ true → Owned (renamed_from t p to)
  renamed_from_owned Root to w = said t reply.Inval refl
  renamed_from_owned (Nowhere r) to w = said t r (walk_own r w)
  renamed_from_owned (Free d es n name) to w = said t reply.NoEnt refl
  renamed_from_owned (Taken d es n name b) to w = renamed_to_owned d name b to (place t to) (well_refused t 0 to)

  renamed_owned : (path to : List (List ℕ)) → Owned (renamed t path to)
  renamed_owned [] to = said t reply.Inval refl
  renamed_owned (n ∷ ns) [] = said t reply.Inval refl
  renamed_owned (n ∷ ns) (m ∷ ms) = renamed_from_owned (place t (n ∷ ns)) (m ∷ ms) (well_refused t 0 (n ∷ ns))

  node_owned : (next : ℕ → Option Node → Applied) → ((b : ℕ) (o : Option Node) → Owned (next b o)) → (p : Place) → refused_well p ≡ true → Owned (at_node t p next)
  node_owned next each Root w = each 0 (node_at t 0)
  node_owned next each (Taken d es n name b) w = each b (node_at t b)
  node_owned next each (Free d es n name) w = said t reply.NoEnt refl
  node_owned next each (Nowhere r) w = said t r (walk_own r w)

  file_owned : (next : ℕ → List Cell → ℕ → ℕ → Applied) → ((b : ℕ) (cells : List Cell) (links when : ℕ) → Owned (next b cells links when)) → (b : ℕ) (o : Option Node) → Owned (if_file t next b o)
  file_owned next each b (Some (File cells links when)) = each b cells links when
  file_owned next each b (Some (Dir es n)) = said t reply.IsDir refl
  file_owned next each b (Some (Link target links)) = said t reply.Inval refl
  file_owned next each b None = said t reply.NoEnt refl

  at_file_owned : (next : ℕ → List Cell → ℕ → ℕ → Applied) → ((b : ℕ) (cells : List Cell) (links when : ℕ) → Owned (next b cells links when)) → (path : List (List ℕ)) → Owned (at_file t (place t path) next)
  at_file_owned next each path = node_owned (λ b o. if_file t next b o) (λ b o. file_owned next each b o) (place t path) (well_refused t 0 path)

  written_owned : (m b : ℕ) (cells : List Cell) (links when off len : ℕ) (put : List Cell → List Cell) → Owned (written t m b cells links when off len put)
  written_owned m b cells links when off len put = search (either, said)

  truncated_owned : (b : ℕ) (cells : List Cell) (links when len : ℕ) → Owned (truncated t b cells links when len)
  truncated_owned b cells links when len = search (either, said)

  shown_owned : (cells : List Cell) (off len : ℕ) → Owned (shown t cells off len)
  shown_owned cells off len = either (nat_lt (length cells) off) (says t reply.BadOffset) (record { answer = Shows (take len (drop off cells)); tree = t }) (said t reply.BadOffset refl) (record { answer = refl })

  described_owned : (o : Option Node) → Owned (described t o)
  described_owned (Some (File cells links when)) = said t (reply.File (length cells) links) refl
  described_owned (Some (Dir es n)) = said t (reply.Dir (length es)) refl
  described_owned (Some (Link target links)) = said t (reply.Symlink (length target)) refl
  described_owned None = said t reply.NoEnt refl

  listed_owned : (o : Option Node) → Owned (listed t o)
  listed_owned (Some (Dir es n)) = said t (reply.Names (map (λ e. e.0) es)) refl
  listed_owned (Some (File cells links when)) = said t reply.NotDir refl
  listed_owned (Some (Link target links)) = said t reply.NotDir refl
  listed_owned None = said t reply.NoEnt refl

  target_owned : (o : Option Node) → Owned (target_of t o)
  target_owned (Some (Link target links)) = said t (reply.Target target) refl
  target_owned (Some (Dir es n)) = said t reply.Inval refl
  target_owned (Some (File cells links when)) = said t reply.Inval refl
  target_owned None = said t reply.NoEnt refl

  apply_owned : (o : Op) (n when m : ℕ) → Owned (apply t o n when m)
  apply_owned (op.Create path) n when m = made_owned n (File [] 1 0) (place t path) (well_refused t 0 path)
  apply_owned (op.Mkdir path) n when m = made_owned n (Dir [] 0) (place t path) (well_refused t 0 path)
  apply_owned (op.Symlink path target) n when m = made_owned n (Link target 1) (place t path) (well_refused t 0 path)
  apply_owned (op.Link path to) n when m = linked_owned (place t path) (place t to) (well_refused t 0 path) (well_refused t 0 to)
  apply_owned (op.Unlink path) n when m = unlinked_owned (place t path) (well_refused t 0 path)
  apply_owned (op.Rmdir path) n when m = removed_owned (place t path) (well_refused t 0 path)
  apply_owned (op.Rename path to) n when m = renamed_owned path to
  apply_owned (op.Write path off bytes) n when m = at_file_owned _ (λ b cells links old. written_owned m b cells links when off (length bytes) (λ all. overwritten all off (map Byte bytes))) path
  apply_owned (op.Fill path off len byte) n when m = at_file_owned _ (λ b cells links old. written_owned m b cells links when off len (λ all. overwritten all off (replicate len (Byte byte)))) path
  apply_owned (op.Truncate path len) n when m = at_file_owned _ (λ b cells links old. truncated_owned b cells links when len) path
  apply_owned (op.Read path off len) n when m = at_file_owned _ (λ b cells links at. shown_owned cells off len) path
  apply_owned (op.Stat path) n when m = node_owned _ (λ b o. described_owned o) (place t path) (well_refused t 0 path)
  apply_owned (op.List path) n when m = node_owned _ (λ b o. listed_owned o) (place t path) (well_refused t 0 path)
  apply_owned (op.Readlink path) n when m = node_owned _ (λ b o. target_owned o) (place t path) (well_refused t 0 path)
  apply_owned (op.Time path) n when m = at_file_owned _ (λ b cells links at. said t (time_of at) refl) path
  apply_owned _ n when m = said t reply.Ok refl

-- ---- and so does a walk that is refused
abbrev own_end : WalkEnd → Bool
own_end (At path found) = true
own_end (Refused r) = own r

module _ (t : FileTree) (last : Bool) where
  abbrev Follow : Type 0
  Follow = ℕ → List ℕ → ℕ → List (List ℕ) → List (List ℕ) → Resolution

  module _ (f : Follow) (each : (link : ℕ) (target : List ℕ) (dir : ℕ) (above names : List (List ℕ)) → own_end (f link target dir above names).end ≡ true) where
    entry_ends : (dir : ℕ) (above here names : List (List ℕ)) (b : ℕ) (into : Resolution) → own_end into.end ≡ true → (o : Option Node) → own_end (at_entry last (λ target. f b target dir above names) into here b names o).end ≡ true
    entry_ends dir above here [] b into h (Some (Link target links)) = go last
      where
        go : (c : Bool) → own_end (cond c (f b target dir above []) (ends_at here (Some b))).end ≡ true
        go true = each b target dir above []
        go false = refl
    entry_ends dir above here [] b into h (Some (Dir es n)) = refl
    entry_ends dir above here [] b into h (Some (File cells n w)) = refl
    entry_ends dir above here [] b into h None = refl
    entry_ends dir above here (x ∷ xs) b into h (Some (Link target links)) = each b target dir above (x ∷ xs)
    entry_ends dir above here (x ∷ xs) b into h (Some (Dir es n)) = h
    entry_ends dir above here (x ∷ xs) b into h (Some (File cells n w)) = refl
    entry_ends dir above here (x ∷ xs) b into h None = refl

    name_ends : (dir : ℕ) (above here names : List (List ℕ)) (into : ℕ → Resolution) → ((b : ℕ) → own_end (into b).end ≡ true) → (o : Option ℕ) → own_end (at_name t last (λ link target. f link target dir above names) into here names o).end ≡ true
    name_ends dir above here names into on (Some b) = entry_ends dir above here names b (into b) (on b) (node_at t b)
    name_ends dir above here [] into on None = refl
    name_ends dir above here (x ∷ xs) into on None = refl

    node_ends : (dir : ℕ) (name : List ℕ) (above here names : List (List ℕ)) (into : ℕ → Resolution) → ((b : ℕ) → own_end (into b).end ≡ true) → (o : Option Node) → own_end (below_node t last (λ link target. f link target dir above names) into here dir name names o).end ≡ true
    node_ends dir name above here names into on (Some (Dir es n)) = name_ends dir above here names into on (entry_at es name)
    node_ends dir name above here names into on (Some (File cells n w)) = refl
    node_ends dir name above here names into on (Some (Link target n)) = refl
    node_ends dir name above here names into on None = refl

    names_end : (names : List (List ℕ)) (dir : ℕ) (above : List (List ℕ)) → own_end (resolve_names t last f dir above names).end ≡ true
    names_end [] dir above = refl
    names_end (name ∷ names) dir above =
        node_ends dir name above (above ++ name ∷ []) names (λ b. resolve_names t last f b (above ++ name ∷ []) names) (λ b. names_end names b (above ++ name ∷ [])) (node_at t dir)

  target_ends : (next : ℕ → List (List ℕ) → List (List ℕ) → Resolution) → ((names : List (List ℕ)) (dir : ℕ) (above : List (List ℕ)) → own_end (next dir above names).end ≡ true)
      → (absolute : Bool) (way : Result (List (List ℕ)) PathFault) (dir : ℕ) (above names : List (List ℕ)) → own_end (at_target next absolute way dir above names).end ≡ true
  target_ends next on absolute (Err fault) dir above names = refl
  target_ends next on true (Ok inner) dir above names = on (inner ++ names) 0 []
  target_ends next on false (Ok inner) dir above names = on (inner ++ names) dir above

  from_ends : (left : ℕ) (names : List (List ℕ)) (dir : ℕ) (above : List (List ℕ)) → own_end (resolve_from left t last dir above names).end ≡ true
  from_ends zero names dir above = names_end (λ link target holder over rest. refused reply.Loop) (λ link target d over rest. refl) names dir above
  from_ends (suc left) names dir above =
      names_end (λ link target holder over rest. passes link (at_target (resolve_from left t last) (is_absolute target) (path_of (target_text target)) holder over rest))
      (λ link target d over rest. target_ends (resolve_from left t last) (from_ends left) (is_absolute target) (path_of (target_text target)) d over rest) names dir above

  walk_ends : (path : List (List ℕ)) → own_end (resolve t last path).end ≡ true
  unfolding resolve
  walk_ends path = from_ends LINKS_FOLLOWED_MAX path 0 []

abbrev own_step : Step → Bool
own_step (Goes o) = true
own_step (Stops r) = own r

step_owned : (end : WalkEnd) (make : List (List ℕ) → Op) → own_end end ≡ true → own_step (step_of end make) ≡ true
step_owned (At path found) make h = refl
step_owned (Refused r) make h = h

second_owned : (b : Bool) (trail : List ℕ) (walk : Resolution) (to : List (List ℕ)) (make : List (List ℕ) → Op) → own_end walk.end ≡ true → own_step (by_second b trail walk to make).step ≡ true
second_owned true trail walk to make h = step_owned walk.end make h
second_owned false trail walk to make h = refl

first_owned : (t : FileTree) (dirs : Bool) (end : WalkEnd) (trail : List ℕ) (walk : Resolution) (to : List (List ℕ)) (make : List (List ℕ) → List (List ℕ) → Op) → own_end end ≡ true → own_end walk.end ≡ true → own_step (by_first t dirs end trail walk to make).step ≡ true
first_owned t dirs (At path found) trail walk to make h g = second_owned (is_found t dirs found) trail walk to (make path) g
first_owned t dirs (Refused r) trail walk to make h g = h

resolved_owned : (t : FileTree) (o : Op) → own_step (resolved t o).step ≡ true
resolved_owned t (op.Create path) = step_owned (resolve t false path).end (λ p. op.Create p) (walk_ends t false path)
resolved_owned t (op.Mkdir path) = step_owned (resolve t false path).end (λ p. op.Mkdir p) (walk_ends t false path)
resolved_owned t (op.Symlink path target) = step_owned (resolve t false path).end (λ p. op.Symlink p target) (walk_ends t false path)
resolved_owned t (op.Link path to) = first_owned t false (resolve t false path).end (resolve t false path).trail (resolve t false to) to (λ p q. op.Link p q) (walk_ends t false path) (walk_ends t false to)
resolved_owned t (op.Unlink path) = step_owned (resolve t false path).end (λ p. op.Unlink p) (walk_ends t false path)
resolved_owned t (op.Rmdir path) = step_owned (resolve t false path).end (λ p. op.Rmdir p) (walk_ends t false path)
resolved_owned t (op.Rename [] to) = refl
resolved_owned t (op.Rename (n ∷ ns) []) = refl
resolved_owned t (op.Rename (n ∷ ns) (m ∷ ms)) = first_owned t true (resolve t false (n ∷ ns)).end (resolve t false (n ∷ ns)).trail (resolve t false (m ∷ ms)) (m ∷ ms) (λ p q. op.Rename p q) (walk_ends t false (n ∷ ns)) (walk_ends t false (m ∷ ms))
resolved_owned t (op.Write path off bytes) = step_owned (resolve t true path).end (λ p. op.Write p off bytes) (walk_ends t true path)
resolved_owned t (op.Fill path off len byte) = step_owned (resolve t true path).end (λ p. op.Fill p off len byte) (walk_ends t true path)
resolved_owned t (op.Truncate path len) = step_owned (resolve t true path).end (λ p. op.Truncate p len) (walk_ends t true path)
resolved_owned t (op.Read path off len) = step_owned (resolve t true path).end (λ p. op.Read p off len) (walk_ends t true path)
resolved_owned t (op.Stat path) = step_owned (resolve t false path).end (λ p. op.Stat p) (walk_ends t false path)
resolved_owned t (op.List path) = step_owned (resolve t true path).end (λ p. op.List p) (walk_ends t true path)
resolved_owned t (op.Readlink path) = step_owned (resolve t false path).end (λ p. op.Readlink p) (walk_ends t false path)
resolved_owned t (op.Time path) = step_owned (resolve t true path).end (λ p. op.Time p) (walk_ends t true path)
resolved_owned t op.Sync = refl
resolved_owned t op.Mount = refl
resolved_owned t op.Unmount = refl
resolved_owned t op.Crash = refl
resolved_owned t (op.CrashAt k) = refl
resolved_owned t (op.CutAt k) = refl
resolved_owned t op.Stall = refl

performed_owned : (t : FileTree) (s : Step) (n when m : ℕ) → own_step s ≡ true → own_answer (perform_step t s n when m).answer ≡ true
performed_owned t (Goes o) n when m h = (apply_owned t o n when m).answer
performed_owned t (Stops r) n when m h = h

-- an operation with a path is never answered by `ok` as the others are
no_leave : (o : Op) (r : Reply) → is_path_op o ≡ true → own r ≡ true → leaves_tree o r ≡ false
no_leave o reply.Down p h = cc
no_leave o reply.Expired p h = cc
no_leave o reply.Io p h = cc
no_leave o reply.Already p h = cc
no_leave o reply.Mounted p h = cc
no_leave o reply.Ok p h = go o p
  where
    go : (o : Op) → is_path_op o ≡ true → may_be_ok o ≡ false
    go op.Sync p = cc
    go op.Unmount p = cc
    go op.Crash p = cc
    go (op.CrashAt k) p = cc
    go (op.CutAt k) p = cc
    go op.Stall p = cc
    go _ p = refl
no_leave o _ p h = refl

pub answers_are_own : (t : FileTree) (e : Entry) → is_answer t e ≡ true → leaves_tree e.op e.reply ≡ false
answers_are_own t e h =
    let p = and_parts (is_path_op e.op) (agrees (applied t e).answer e.reply) h in
    no_leave e.op e.reply p.0 (own_agrees (applied t e).answer e.reply (performed_owned t (resolved t e.op).step e.number.0 e.when (told_blocks t e.reply) (resolved_owned t e.op)) p.1)
