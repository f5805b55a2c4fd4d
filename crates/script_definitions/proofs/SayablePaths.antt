-- What an operation that can be said comes to once links are followed can be said: paths without links are of names, since targets that are
-- no paths lead nowhere.
use Rattle.std.proofs.Common.{◌≡◌, ℕ, zero, suc, ◌<◌, Bool, true, false, cond, List, [], ◌∷◌, ◌++◌, Option, Some, None, Result, Ok, Err, refl}
use Rattle.std.specs.List.{list_all}
use Rattle.std.proofs.lemmas.Bool.{and_parts, and_from}
use Rattle.frang_base.specs.Name.{is_name}
use Rattle.frang_base.specs.PathText.{path_of}
use Rattle.frang_base.specs.declared.fault.PathFault.{PathFault}
use Rattle.frang_base.specs.declared.limits.TheConstants.{LINKS_FOLLOWED_MAX}
use Rattle.frang_base.specs.declared.op.Op.{Op}
use Rattle.frang_base.specs.declared.op.Op.TheVariants as op
use Rattle.frang_base.specs.declared.reply.Reply.TheVariants as reply
use Rattle.tree_definitions.specs.declared.cells.Cell.{Cell}
use Rattle.tree_definitions.specs.declared.cells.Cell.TheVariants.{Byte}
use Rattle.tree_definitions.specs.declared.node.Node.{Node}
use Rattle.tree_definitions.specs.declared.node.Node.TheVariants.{Dir, File, Link}
use Rattle.tree_definitions.specs.Entries.{entry_at}
use Rattle.tree_definitions.specs.Tree.{FileTree, node_at}
use Rattle.tree_definitions.specs.Resolve.{WalkEnd, At, Refused, Resolution, ends_at, refused, passes, is_absolute, target_text, at_target, at_entry, at_name, below_node, resolve_names, resolve_from, resolve}
use Rattle.tree_definitions.specs.Perform.{Step, Goes, Stops, step_of, is_found, by_second, by_first, resolved, perform_step, perform}
use Rattle.script_definitions.specs.Sayable.{IsTreeOf, IsSayablePath, IsSayableOp, IsTreeReply, IsAppliedOf}
use Rattle.script_definitions.proofs.AskedLaws.{path_sound}
use Rattle.script_definitions.proofs.SayableTrees.{apply_sayable}

-- paths one after the other
joined : (xs ys : List (List ℕ)) → IsSayablePath xs → IsSayablePath ys → IsSayablePath (xs ++ ys)
joined [] ys h k = k
joined (x ∷ xs) ys h k = let p = and_parts (is_name x) (list_all is_name xs) h in and_from (is_name x) (list_all is_name (xs ++ ys)) p.0 (joined xs ys p.1 k)

one_more : (xs : List (List ℕ)) (x : List ℕ) → IsSayablePath xs → is_name x ≡ true → IsSayablePath (xs ++ x ∷ [])
one_more xs x h k = joined xs (x ∷ []) h (and_from (is_name x) true k refl)

-- what is done where a link is followed: the link, its target, the directory that holds it, the path of that, the names that are left
abbrev Follow : Type 0
Follow = ℕ → List ℕ → ℕ → List (List ℕ) → List (List ℕ) → Resolution

module _ (m : ℕ) (t : FileTree) where
  -- a path of names, or a reply of a walk
  abbrev pub EndIs : WalkEnd → Type 0
  EndIs (At path found) = IsSayablePath path
  EndIs (Refused r) = IsTreeReply m r

  module _ (last : Bool) (f : Follow) (each : (link : ℕ) (target : List ℕ) (dir : ℕ) (above names : List (List ℕ)) → IsSayablePath above → IsSayablePath names → EndIs (f link target dir above names).end) where
    at_node : (dir : ℕ) (above here names : List (List ℕ)) (b : ℕ) (into : Resolution) → IsSayablePath above → IsSayablePath here → IsSayablePath names → EndIs into.end → (o : Option Node)
        → EndIs (at_entry last (λ target. f b target dir above names) into here b names o).end
    at_node dir above here [] b into h k l i (Some (Link target links)) = go last
      where
        go : (c : Bool) → EndIs (cond c (f b target dir above []) (ends_at here (Some b))).end
        go true = each b target dir above [] h l
        go false = k
    at_node dir above here [] b into h k l i (Some (Dir es n)) = k
    at_node dir above here [] b into h k l i (Some (File cells n w)) = k
    at_node dir above here [] b into h k l i None = k
    at_node dir above here (x ∷ xs) b into h k l i (Some (Link target links)) = each b target dir above (x ∷ xs) h l
    at_node dir above here (x ∷ xs) b into h k l i (Some (Dir es n)) = i
    at_node dir above here (x ∷ xs) b into h k l i (Some (File cells n w)) = tt
    at_node dir above here (x ∷ xs) b into h k l i None = tt

    at_a_name : (dir : ℕ) (above here names : List (List ℕ)) (into : ℕ → Resolution) → IsSayablePath above → IsSayablePath here → IsSayablePath names → ((b : ℕ) → EndIs (into b).end) → (o : Option ℕ)
        → EndIs (at_name t last (λ link target. f link target dir above names) into here names o).end
    at_a_name dir above here names into h k l i (Some b) = at_node dir above here names b (into b) h k l (i b) (node_at t b)
    at_a_name dir above here [] into h k l i None = k
    at_a_name dir above here (x ∷ xs) into h k l i None = tt

    below : (dir : ℕ) (name : List ℕ) (above here names : List (List ℕ)) (into : ℕ → Resolution) → IsSayablePath above → IsSayablePath here → IsSayablePath names → ((b : ℕ) → EndIs (into b).end) → (o : Option Node)
        → EndIs (below_node t last (λ link target. f link target dir above names) into here dir name names o).end
    below dir name above here names into h k l i (Some (Dir es n)) = at_a_name dir above here names into h k l i (entry_at es name)
    below dir name above here names into h k l i (Some (File cells n w)) = tt
    below dir name above here names into h k l i (Some (Link target n)) = tt
    below dir name above here names into h k l i None = tt

    along : (names : List (List ℕ)) (dir : ℕ) (above : List (List ℕ)) → IsSayablePath above → IsSayablePath names → EndIs (resolve_names t last f dir above names).end
    along [] dir above h l = h
    along (name ∷ names) dir above h l =
        let p = and_parts (is_name name) (list_all is_name names) l in
        let here = one_more above name h p.0 in
        below dir name above (above ++ name ∷ []) names (λ b. resolve_names t last f b (above ++ name ∷ []) names) h here p.1 (λ b. along names b (above ++ name ∷ []) here p.1) (node_at t dir)

  from_target : (next : ℕ → List (List ℕ) → List (List ℕ) → Resolution) → ((names : List (List ℕ)) (dir : ℕ) (above : List (List ℕ)) → IsSayablePath above → IsSayablePath names → EndIs (next dir above names).end)
      → (absolute : Bool) (text : List ℕ) (way : Result (List (List ℕ)) PathFault) → path_of text ≡ way → (dir : ℕ) (above names : List (List ℕ)) → IsSayablePath above → IsSayablePath names → EndIs (at_target next absolute way dir above names).end
  from_target next on absolute text (Err fault) e dir above names h l = tt
  from_target next on true text (Ok inner) e dir above names h l = on (inner ++ names) 0 [] refl (joined inner names (path_sound text inner e).0.named l)
  from_target next on false text (Ok inner) e dir above names h l = on (inner ++ names) dir above h (joined inner names (path_sound text inner e).0.named l)

  from : (left : ℕ) (last : Bool) (names : List (List ℕ)) (dir : ℕ) (above : List (List ℕ)) → IsSayablePath above → IsSayablePath names → EndIs (resolve_from left t last dir above names).end
  from zero last names dir above h l = along last (λ link target holder over rest. refused reply.Loop) (λ link target d over rest i j. tt) names dir above h l
  from (suc left) last names dir above h l =
      along last (λ link target holder over rest. passes link (at_target (resolve_from left t last) (is_absolute target) (path_of (target_text target)) holder over rest))
      (λ link target d over rest i j. from_target (resolve_from left t last) (from left last) (is_absolute target) (target_text target) (path_of (target_text target)) refl d over rest i j) names dir above h l

  -- a path of names leads to one
  pub resolve_sayable : (last : Bool) (path : List (List ℕ)) → IsSayablePath path → EndIs (resolve t last path).end
  unfolding resolve
  resolve_sayable last path h = from LINKS_FOLLOWED_MAX last path 0 [] refl h

  -- such an operation, or a reply of a walk
  abbrev pub StepIs : Step → Type 0
  StepIs (Goes o) = IsSayableOp o
  StepIs (Stops r) = IsTreeReply m r

  of_end : (end : WalkEnd) (make : List (List ℕ) → Op) → ((p : List (List ℕ)) → IsSayablePath p → IsSayableOp (make p)) → EndIs end → StepIs (step_of end make)
  of_end (At path found) make k h = k path h
  of_end (Refused r) make k h = h

  of_second : (c : Bool) (trail : List ℕ) (walk : Resolution) (to : List (List ℕ)) (make : List (List ℕ) → Op) → ((p : List (List ℕ)) → IsSayablePath p → IsSayableOp (make p)) → EndIs walk.end → IsSayablePath to → StepIs (by_second c trail walk to make).step
  of_second true trail walk to make k h l = of_end walk.end make k h
  of_second false trail walk to make k h l = k to l

  of_first : (dirs : Bool) (end : WalkEnd) (trail : List ℕ) (walk : Resolution) (to : List (List ℕ)) (make : List (List ℕ) → List (List ℕ) → Op) → ((p q : List (List ℕ)) → IsSayablePath p → IsSayablePath q → IsSayableOp (make p q)) → EndIs end → EndIs walk.end → IsSayablePath to
      → StepIs (by_first t dirs end trail walk to make).step
  of_first dirs (At path found) trail walk to make k h i l = of_second (is_found t dirs found) trail walk to (make path) (λ q j. k path q h j) i l
  of_first dirs (Refused r) trail walk to make k h i l = h

  pub resolved_sayable : (o : Op) → IsSayableOp o → StepIs (resolved t o).step
  resolved_sayable (op.Create path) h = of_end (resolve t false path).end (λ p. op.Create p) (λ p k. k) (resolve_sayable false path h)
  resolved_sayable (op.Mkdir path) h = of_end (resolve t false path).end (λ p. op.Mkdir p) (λ p k. k) (resolve_sayable false path h)
  resolved_sayable (op.Symlink path target) h = of_end (resolve t false path).end (λ p. op.Symlink p target) (λ p k. (k, h.1)) (resolve_sayable false path h.0)
  resolved_sayable (op.Link path to) h = of_first false (resolve t false path).end (resolve t false path).trail (resolve t false to) to (λ p q. op.Link p q) (λ p q k l. (k, l)) (resolve_sayable false path h.0) (resolve_sayable false to h.1) h.1
  resolved_sayable (op.Unlink path) h = of_end (resolve t false path).end (λ p. op.Unlink p) (λ p k. k) (resolve_sayable false path h)
  resolved_sayable (op.Rmdir path) h = of_end (resolve t false path).end (λ p. op.Rmdir p) (λ p k. k) (resolve_sayable false path h)
  resolved_sayable (op.Rename [] to) h = h
  resolved_sayable (op.Rename (n ∷ ns) []) h = h
  resolved_sayable (op.Rename (n ∷ ns) (x ∷ xs)) h = of_first true (resolve t false (n ∷ ns)).end (resolve t false (n ∷ ns)).trail (resolve t false (x ∷ xs)) (x ∷ xs) (λ p q. op.Rename p q) (λ p q k l. (k, l)) (resolve_sayable false (n ∷ ns) h.0) (resolve_sayable false (x ∷ xs) h.1) h.1
  resolved_sayable (op.Write path off bytes) h = of_end (resolve t true path).end (λ p. op.Write p off bytes) (λ p k. (k, h.1)) (resolve_sayable true path h.0)
  resolved_sayable (op.Fill path off len byte) h = of_end (resolve t true path).end (λ p. op.Fill p off len byte) (λ p k. (k, h.1)) (resolve_sayable true path h.0)
  resolved_sayable (op.Truncate path len) h = of_end (resolve t true path).end (λ p. op.Truncate p len) (λ p k. k) (resolve_sayable true path h)
  resolved_sayable (op.Read path off len) h = of_end (resolve t true path).end (λ p. op.Read p off len) (λ p k. k) (resolve_sayable true path h)
  resolved_sayable (op.Stat path) h = of_end (resolve t false path).end (λ p. op.Stat p) (λ p k. k) (resolve_sayable false path h)
  resolved_sayable (op.List path) h = of_end (resolve t true path).end (λ p. op.List p) (λ p k. k) (resolve_sayable true path h)
  resolved_sayable (op.Readlink path) h = of_end (resolve t false path).end (λ p. op.Readlink p) (λ p k. k) (resolve_sayable false path h)
  resolved_sayable (op.Time path) h = of_end (resolve t true path).end (λ p. op.Time p) (λ p k. k) (resolve_sayable true path h)
  resolved_sayable op.Sync h = tt
  resolved_sayable op.Mount h = tt
  resolved_sayable op.Unmount h = tt
  resolved_sayable op.Crash h = tt
  resolved_sayable (op.CrashAt k) h = tt
  resolved_sayable (op.CutAt k) h = tt
  resolved_sayable op.Stall h = tt

-- what is performed can be said
module _ (C : Cell → Type 0) (byte_is : (b : ℕ) → b < 256 → C (Byte b)) (m : ℕ) (t : FileTree) where
  step_sayable : (s : Step) (birth when : ℕ) → IsTreeOf C t → StepIs m t s → IsAppliedOf C m (perform_step t s birth when m)
  step_sayable (Goes o) birth when h k = apply_sayable C byte_is m t o birth when h k
  step_sayable (Stops r) birth when h k = record { answer = k; tree = h }

  pub perform_sayable : (o : Op) (birth when : ℕ) → IsTreeOf C t → IsSayableOp o → IsAppliedOf C m (perform t o birth when m)
  perform_sayable o birth when h k = step_sayable (resolved t o).step birth when h (resolved_sayable m t o k)
