-- Names of a path that is resolved are names, those from targets too.
use Rattle.std.proofs.Common.{◌≡◌, ℕ, zero, suc, ◌+◌, ◌*◌, ◌==◌, ◌&&◌, ◌||◌, not, Bool, true, false, nat_lt, nat_le, nat_eq, if◌then◌else◌, Option, Some, None, Result, Ok, Err, List, [], ◌∷◌, ◌++◌, length, refl, sym, subst, arith}
use Rattle.std.proofs.lemmas.Bool.Decides.{nat_tests}
use Rattle.std.specs.List.{list_all, slice_split}
use Rattle.frang_base.specs.Name.{is_name, is_name_byte, is_dots}
use Rattle.frang_base.specs.PathText.{name_fault, with_name, unless_fault, names_from, names_below_root, names_from_root, path_of}
use Rattle.frang_base.specs.declared.fault.PathFault.{PathFault}
use Rattle.frang_base.specs.declared.fault.PathFault.TheVariants as fault
use Rattle.frang_base.specs.declared.limits.TheConstants.{LINKS_FOLLOWED_MAX, ROOT_INODE}
use Rattle.frang_base.specs.declared.op.Op.{Op}
use Rattle.frang_base.specs.declared.op.Op.TheVariants as op
use Rattle.frang_base.specs.declared.reply.Reply.TheVariants as reply
use Rattle.tree_definitions.specs.Perform.{Resolved}
use Rattle.tree_definitions.specs.Resolve.{is_absolute, target_text}
use Rattle.disk_definitions.specs.Store.{Store, StoredNode, StoredEntry}
use Rattle.disk_definitions.specs.Allowed.{AreNames, IsAllowed}
use Rattle.disk_definitions.specs.Ask.{Ask, Got, ReadInode, run, bind}
use Rattle.disk_definitions.specs.Walks.{Found, search, is_named}
use Rattle.plan_laws.proofs.Asking.{run-bind}
use Rattle.disk_definitions.specs.Resolving.{PathEnd, Leads, Refused, Resolution, leads, refused, behind, passes, at_target, with_target, at_entry, at_name, below_inode, resolve_names, resolve_from, resolve}
use Rattle.disk_definitions.specs.Lines.{step_of, by_path, is_found, by_second, by_first, over_paths}
use Rattle.line_laws.specs.Planned.{StepIsAllowed, LinesStayAllowed}
use Rattle.line_laws.proofs.Names.{Follow}
use Rattle.line_laws.proofs.Links.{follow_in}

-- ---- names of a text

pub are_names_append : (xs ys : List (List ℕ)) → AreNames xs → AreNames ys → AreNames (xs ++ ys)
are_names_append [] ys a b = b
are_names_append (x ∷ xs) ys a b = (a.0, are_names_append xs ys a.1 b)

-- what has no fault passes each test
faultless : (shallow empty all dots long : Bool) → (if not shallow then Some fault.TooDeep else (if empty || not all || dots then Some fault.BadName else (if long then Some fault.TooLong else None))) ≡ None →
    (empty ≡ false) × (all ≡ true) × (dots ≡ false) × (long ≡ false)
faultless true false true false false e = (refl, refl, refl, refl)
faultless false empty all dots long e = absurd (cc)
faultless true true all dots long e = absurd (cc)
faultless true false false dots long e = absurd (cc)
faultless true false true true long e = absurd (cc)
faultless true false true false true e = absurd (cc)

is_name_of : (before : ℕ) (name : List ℕ) → name_fault before name ≡ None → is_name name ≡ true
is_name_of before name e =
    let f = faultless (nat_lt before 32) (nat_eq (length name) 0) (list_all is_name_byte name) (is_dots name) (nat_lt 64 (length name)) e in
    let some : nat_lt 0 (length name) ≡ true = let z : nat_eq (length name) 0 ≡ false = f.0 in grind (arith, nat_tests) in
    let few : nat_le (length name) 64 ≡ true = let z : nat_lt 64 (length name) ≡ false = f.3 in grind (arith, nat_tests) in
    rw (some, few, f.1, f.2) refl

-- what a reading of names gives
abbrev Reads : Result (List (List ℕ)) PathFault → Type 0
Reads (Ok names) = AreNames names
Reads (Err f) = Unit {0}

reads_from : (names : List (List ℕ)) (before : ℕ) → Reads (names_from before names)
reads_from [] before = tt
reads_from (name ∷ names) before = by_fault (name_fault before name) refl (names_from (before + 1) names) (reads_from names (before + 1))
  where
    one_more : is_name name ≡ true → (r : Result (List (List ℕ)) PathFault) → Reads r → Reads (with_name name r)
    one_more is (Ok rest) all = (is, all)
    one_more is (Err f) all = tt

    by_fault : (f : Option PathFault) → name_fault before name ≡ f → (r : Result (List (List ℕ)) PathFault) → Reads r → Reads (unless_fault f (with_name name r))
    by_fault None e r all = one_more (is_name_of before name e) r all
    by_fault (Some f) e r all = tt

reads_below : (text : List ℕ) → Reads (names_below_root text)
reads_below [] = tt
reads_below (b ∷ text) = reads_from (slice_split (λ c. c == 47) (b ∷ text)) 0

reads_root : (text : List ℕ) → Reads (names_from_root text)
reads_root [] = tt
reads_root (b ∷ text) = by_first (b == 47)
  where
    by_first : (c : Bool) → Reads (if c then names_below_root text else Err fault.BadName)
    by_first true = reads_below text
    by_first false = tt

pub reads_names : (text : List ℕ) → Reads (path_of text)
reads_names text = by_length (nat_lt 1024 (length text))
  where
    by_length : (c : Bool) → Reads (if c then Err fault.TooLong else names_from_root text)
    by_length true = tt
    by_length false = reads_root text

-- ---- along a walk

-- where a walk leads, there is a path of names
abbrev pub HasNames : PathEnd → Type 0
HasNames (Leads path kind) = AreNames path
HasNames (Refused r) = Unit {0}

module _ (s : Store) where
  abbrev Named : Ask Resolution → Type 0
  Named ask = HasNames (run ask s).end

  passed_named : (i : ℕ) (ask : Ask Resolution) → Named ask → Named (passes i ask)
  passed_named i ask named = subst (λ (w : Resolution). HasNames w.end) (sym (run-bind ask (λ rest. Got (behind i rest)) s)) named

  module _ (last : Bool) (f : Follow) (each : (link dir : ℕ) (above names : List (List ℕ)) → AreNames above → AreNames names → Named (f link dir above names)) where
    entry_named : (dir : ℕ) (above here names : List (List ℕ)) (into : ℕ → Ask Resolution) → AreNames above → AreNames here → AreNames names → ((i : ℕ) → Named (into i)) → (entry : StoredEntry) →
        Named (at_entry last (λ link. f link dir above names) into here names entry)
    entry_named dir above here [] into a h b on entry = by_kind (last && entry.kind == 3)
      where
        by_kind : (c : Bool) → Named (if c then f entry.inode dir above [] else leads here (Some entry.kind))
        by_kind true = each entry.inode dir above [] a b
        by_kind false = h
    entry_named dir above here (x ∷ xs) into a h b on entry = by_kind (entry.kind == 3) (entry.kind == 2)
      where
        by_kind : (c d : Bool) → Named (if c then f entry.inode dir above (x ∷ xs) else (if d then into entry.inode else refused reply.NotDir))
        by_kind true d = each entry.inode dir above (x ∷ xs) a b
        by_kind false true = on entry.inode
        by_kind false false = tt

    found_named : (dir : ℕ) (above here names : List (List ℕ)) (into : ℕ → Ask Resolution) → AreNames above → AreNames here → AreNames names → ((i : ℕ) → Named (into i)) → (found : Option Found) →
        Named (at_name last (λ link. f link dir above names) into here names found)
    found_named dir above here [] into a h b on None = h
    found_named dir above here (x ∷ xs) into a h b on None = tt
    found_named dir above here [] into a h b on (Some (slot, None)) = h
    found_named dir above here (x ∷ xs) into a h b on (Some (slot, None)) = tt
    found_named dir above here names into a h b on (Some (slot, Some entry)) = entry_named dir above here names into a h b on entry

    below_named : (dir : ℕ) (name : List ℕ) (above here names : List (List ℕ)) (into : ℕ → Ask Resolution) → AreNames above → AreNames here → AreNames names → ((i : ℕ) → Named (into i)) → (o : Option StoredNode) →
        Named (below_inode last (λ link. f link dir above names) into here dir name names o)
    below_named dir name above here names into a h b on None = tt
    below_named dir name above here names into a h b on (Some node) = by_kind (node.kind == 2)
      where
        next : Option Found → Ask Resolution
        next = at_name last (λ link. f link dir above names) into here names

        by_kind : (c : Bool) → Named (if c then passes dir (bind (search node.small (is_named name) 0 (8 * node.blocks)) next) else refused reply.NotDir)
        by_kind true =
            let looked = search node.small (is_named name) 0 (8 * node.blocks) in
            passed_named dir (bind looked next) (subst (λ (w : Resolution). HasNames w.end) (sym (run-bind looked next s)) (found_named dir above here names into a h b on (run looked s)))
        by_kind false = tt

    names_named : (names : List (List ℕ)) (dir : ℕ) (above : List (List ℕ)) → AreNames above → AreNames names → Named (resolve_names last f dir above names)
    names_named [] dir above a b = a
    names_named (name ∷ names) dir above a b =
        let h : AreNames (above ++ name ∷ []) = are_names_append above (name ∷ []) a (b.0, tt) in
        below_named dir name above (above ++ name ∷ []) names (λ i. resolve_names last f i (above ++ name ∷ []) names) a h b.1 (λ i. names_named names i (above ++ name ∷ []) h b.1) (s.inode dir)

  module _ (next : ℕ → List (List ℕ) → List (List ℕ) → Ask Resolution) (on : (names : List (List ℕ)) (dir : ℕ) (above : List (List ℕ)) → AreNames above → AreNames names → Named (next dir above names)) where
    target_named : (absolute : Bool) (way : Result (List (List ℕ)) PathFault) → Reads way → (dir : ℕ) (above names : List (List ℕ)) → AreNames above → AreNames names → Named (at_target next absolute way dir above names)
    target_named absolute (Err fault) reads dir above names a b = tt
    target_named true (Ok inner) reads dir above names a b = on (inner ++ names) ROOT_INODE [] tt (are_names_append inner names reads b)
    target_named false (Ok inner) reads dir above names a b = on (inner ++ names) dir above a (are_names_append inner names reads b)

    node_named : (o : Option StoredNode) (dir : ℕ) (above names : List (List ℕ)) → AreNames above → AreNames names →
        Named (with_target (λ target. at_target next (is_absolute target) (path_of (target_text target)) dir above names) o)
    node_named None dir above names a b = tt
    node_named (Some node) dir above names a b = target_named (is_absolute node.target) (path_of (target_text node.target)) (reads_names (target_text node.target)) dir above names a b

  from_named : (left : ℕ) (last : Bool) (names : List (List ℕ)) (dir : ℕ) (above : List (List ℕ)) → AreNames above → AreNames names → Named (resolve_from left last dir above names)
  from_named zero last names dir above a b = names_named last (λ link holder over rest. refused reply.Loop) (λ link holder over rest a b. tt) names dir above a b
  from_named (suc left) last names dir above a b =
      names_named last (follow_in left last)
      (λ link holder over rest a b. passed_named link (ReadInode link (with_target (λ target. at_target (resolve_from left last) (is_absolute target) (path_of (target_text target)) holder over rest)))
      (node_named (resolve_from left last) (from_named left last) (s.inode link) holder over rest a b))
      names dir above a b

  pub resolve_named : (last : Bool) (path : List (List ℕ)) → AreNames path → HasNames (run (resolve last path) s).end
  unfolding resolve
  resolve_named last path a = from_named LINKS_FOLLOWED_MAX last path ROOT_INODE [] tt a

  -- ---- an operation

  step_allowed : (make : List (List ℕ) → Op) → ((path : List (List ℕ)) → AreNames path → IsAllowed (make path)) → (end : PathEnd) → HasNames end → StepIsAllowed (step_of end make)
  step_allowed make each (Leads path kind) named = each path named
  step_allowed make each (Refused r) named = tt

  one_allowed : (last : Bool) (path : List (List ℕ)) (make : List (List ℕ) → Op) → ((path : List (List ℕ)) → AreNames path → IsAllowed (make path)) → (trail : List ℕ) → AreNames path →
      StepIsAllowed (run (bind (resolve last path) (by_path trail make)) s).step
  one_allowed last path make each trail a =
      subst (λ (w : Resolved). StepIsAllowed w.step) (sym (run-bind (resolve last path) (by_path trail make) s)) (step_allowed make each (run (resolve last path) s).end (resolve_named last path a))

  module _ (dirs : Bool) (path to : List (List ℕ)) (make : List (List ℕ) → List (List ℕ) → Op) (each : (p q : List (List ℕ)) → AreNames p → AreNames q → IsAllowed (make p q)) (a : AreNames path) (b : AreNames to) where
    second_allowed : (c : Bool) (trail : List ℕ) (p : List (List ℕ)) → AreNames p → StepIsAllowed (run (by_second c trail to (make p)) s).step
    second_allowed true trail p named = one_allowed false to (make p) (λ q. each p q named) trail b
    second_allowed false trail p named = each p to named b

    first_allowed : (end : PathEnd) (trail : List ℕ) → HasNames end → StepIsAllowed (run (by_first dirs to make end trail) s).step
    first_allowed (Leads p kind) trail named = second_allowed (is_found dirs kind) trail p named
    first_allowed (Refused r) trail named = tt

    two_allowed : StepIsAllowed (run (over_paths dirs path to make) s).step
    two_allowed =
        let w = run (resolve false path) s in
        subst (λ (w : Resolved). StepIsAllowed w.step) (sym (run-bind (resolve false path) (λ w. by_first dirs to make w.end w.trail) s)) (first_allowed w.end w.trail (resolve_named false path a))

pub stay_allowed : LinesStayAllowed
stay_allowed (op.Create path) s a = one_allowed s false path (λ p. op.Create p) (λ p a. a) [] a
stay_allowed (op.Mkdir path) s a = one_allowed s false path (λ p. op.Mkdir p) (λ p a. a) [] a
stay_allowed (op.Symlink path target) s a = one_allowed s false path (λ p. op.Symlink p target) (λ p b. (b, a.1)) [] a.0
stay_allowed (op.Link path to) s a = two_allowed s false path to (λ p q. op.Link p q) (λ p q b c. (b, c)) a.0 a.1
stay_allowed (op.Unlink path) s a = one_allowed s false path (λ p. op.Unlink p) (λ p a. a) [] a
stay_allowed (op.Rmdir path) s a = one_allowed s false path (λ p. op.Rmdir p) (λ p a. a) [] a
stay_allowed (op.Rename [] to) s a = a
stay_allowed (op.Rename (name ∷ names) []) s a = a
stay_allowed (op.Rename (name ∷ names) (new ∷ news)) s a = two_allowed s true (name ∷ names) (new ∷ news) (λ p q. op.Rename p q) (λ p q b c. (b, c)) a.0 a.1
stay_allowed (op.Write path off bytes) s a = one_allowed s true path (λ p. op.Write p off bytes) (λ p b. (b, a.1)) [] a.0
stay_allowed (op.Fill path off len byte) s a = one_allowed s true path (λ p. op.Fill p off len byte) (λ p b. (b, a.1)) [] a.0
stay_allowed (op.Truncate path len) s a = one_allowed s true path (λ p. op.Truncate p len) (λ p a. a) [] a
stay_allowed (op.Read path off len) s a = one_allowed s true path (λ p. op.Read p off len) (λ p a. a) [] a
stay_allowed (op.Stat path) s a = one_allowed s false path (λ p. op.Stat p) (λ p a. a) [] a
stay_allowed (op.List path) s a = one_allowed s true path (λ p. op.List p) (λ p a. a) [] a
stay_allowed (op.Readlink path) s a = one_allowed s false path (λ p. op.Readlink p) (λ p a. a) [] a
stay_allowed (op.Time path) s a = one_allowed s true path (λ p. op.Time p) (λ p a. a) [] a
stay_allowed op.Sync s a = tt
stay_allowed op.Mount s a = tt
stay_allowed op.Unmount s a = tt
stay_allowed op.Crash s a = tt
stay_allowed (op.CrashAt k) s a = tt
stay_allowed (op.CutAt k) s a = tt
stay_allowed op.Stall s a = tt
