-- What is found by what is at hand of a disk is what is found over the disk.
use Rattle.std.proofs.Common.{◌≡◌, ℕ, Bool, true, false, cond, if◌then◌else◌, Option, Some, None, is_some, List, [], ◌∷◌, ◌++◌, filter, refl, sym, ◌∙◌, ap, subst, ⊎_elim}
use Rattle.std.proofs.lemmas.List.Sums.{take_while-cons}
use Rattle.std.specs.List.{Contains, take_while}
use Rattle.frang_base.specs.declared.op.Op.{Op}
use Rattle.frang_base.specs.declared.op.Op.TheVariants as op
use Rattle.tree_definitions.specs.Perform.{Step, Goes, Resolved}
use Rattle.tree_definitions.specs.Tree.{FileTree}
use Rattle.sector_bytes.specs.Sectors.{Sectors}
use Rattle.disk_definitions.specs.Naming.{Naming}
use Rattle.disk_definitions.specs.Store.{Store, StoredNode, store_of}
use Rattle.disk_definitions.specs.Edits.{Edit}
use Rattle.disk_definitions.specs.Edits.Edit.{SetInode, SetBit, SetUse, SetPlace, SetLarge, SetBytes, SetLargeBytes}
use Rattle.disk_definitions.specs.Held.{Segments}
use Rattle.disk_definitions.specs.Ask.{Sector, InodeAt, DirectoryAt, SegmentAt, BytesAt, LargeAt, Ask, AtHand, Has, run, looks, meet}
use Rattle.disk_definitions.specs.Meets.{IsOfTree, IsHandOf}
use Rattle.disk_definitions.specs.Missing.{is_at_hand, first_missing, unless_missing}
use Rattle.disk_definitions.specs.OnDisk.{AreOfDisk, StandsBelow}
use Rattle.disk_definitions.specs.Plans.{Hand, Lock, Plan, Finish, shared_nodes, sole_nodes}
use Rattle.disk_definitions.specs.Plans.Plan.{Clears, Finishes}
use Rattle.disk_definitions.specs.Written.{Cached, at_hand, hand_of}
use Rattle.plan_laws.proofs.Asking.{looks-bind}
use Rattle.plan_laws.proofs.Covering.{has_cases, has_head, has_more, not_in_none}
use Rattle.plan_laws.proofs.Deciding.{meets_where}
use Rattle.plan_laws.specs.Inside.{AgreesWhereAll}
use Rattle.disk_definitions.specs.CoversAtHand.{has_small}
use Rattle.line_laws.proofs.AtHand.{agrees}
use Rattle.line_laws.proofs.Edited.{hand}
use Rattle.line_laws.proofs.OfDisk.{of_tree}
use Rattle.disk_definitions.specs.Traces.{traced}
use Rattle.plan_laws.proofs.Traces.{traces_follow_looks}
use Rattle.disk_definitions.specs.Lines.{plan_of_line, plan_step, resolved}
use Rattle.line_laws.proofs.Inside.{lines_inside}
use Rattle.line_laws.proofs.TraceLines.{follows_disk}
use Rattle.disk_definitions.specs.LookedAt.{nodes_of, looked_nodes}
use Rattle.disk_definitions.specs.FoundLocks.{clear_locks, edit_locks_of, edit_locks, finish_locks, full_locks, owns_at_hand}
use Rattle.line_locks.specs.Lines.{ClearLocksAreFound, FinishLocksAreFound}
use Rattle.line_locks.specs.Same.{AreAlike}
use Rattle.line_locks.proofs.LinesEnd.{ClearIs, LineEnds, line_ends}
use Rattle.line_locks.proofs.PlansEnd.{found, owns}

-- where nothing is missing, all were looked at
take_all : (c : AtHand) (xs : List Sector) → first_missing c xs ≡ None → take_while (is_at_hand c) xs ≡ xs
take_all c [] e = refl
take_all c (x ∷ xs) e = take_while-cons (is_at_hand c) x xs ∙ go (is_at_hand c x) e (take_all c xs)
  where
    go : (b : Bool) → (if b then first_missing c xs else Some x) ≡ None → (first_missing c xs ≡ None → take_while (is_at_hand c) xs ≡ xs) → cond b (x ∷ take_while (is_at_hand c) xs) [] ≡ x ∷ xs
    go true e rest = ap (λ l. x ∷ l) (rest e)
    go false e rest = absurd (cc)

-- what needs nothing has its value
has_all : {A : Type 0} (missing : Option Sector) (a v : A) → unless_missing missing a ≡ Has v → (missing ≡ None) × (a ≡ v)
has_all None a v e = (refl, cc)
has_all (Some x) a v e = absurd (cc)

module _ (c : AtHand) (s : Store) where
  -- the first of some sectors agree where all do
  agrees_first : (xs ys : List Sector) → AgreesWhereAll c s (xs ++ ys) → AgreesWhereAll c s xs
  agrees_first [] ys a = tt
  agrees_first (x ∷ xs) ys a = (a.0, agrees_first xs ys a.1)

  one_missing : (x : Sector) (b : Bool) (rest : Option Sector) → (if b then rest else Some x) ≡ None → (b ≡ true) × (rest ≡ None)
  one_missing x true rest e = (refl, e)
  one_missing x false rest e = absurd (cc)

  -- the inodes of nodes that were looked at are at hand
  node_at_hand : (xs : List Sector) → AgreesWhereAll c s xs → first_missing c xs ≡ None → (i : ℕ) → Contains (nodes_of xs) i → c.inode i ≡ Some (s.inode i)
  node_at_hand [] a e i d = absurd (not_in_none i d)
  node_at_hand (InodeAt j ∷ xs) a e i d =
      let r = one_missing (InodeAt j) (is_some (c.inode j)) (first_missing c xs) e in
      ⊎_elim (λ q. subst (λ z. c.inode z ≡ Some (s.inode z)) q (here (c.inode j) refl r.0)) (λ t. node_at_hand xs a.1 r.1 i t) (has_cases j i (nodes_of xs) d)
    where
      here : (o : Option (Option StoredNode)) → c.inode j ≡ o → is_some o ≡ true → c.inode j ≡ Some (s.inode j)
      here None f t = absurd (cc)
      here (Some x) f t = f ∙ ap Some (a.0 x f)
  node_at_hand (DirectoryAt k part ∷ xs) a e i d = node_at_hand xs a.1 (one_missing (DirectoryAt k part) (is_some (c.directory k part)) (first_missing c xs) e).1 i d
  node_at_hand (SegmentAt k ∷ xs) a e i d = node_at_hand xs a.1 (one_missing (SegmentAt k) (c.segment k) (first_missing c xs) e).1 i d
  node_at_hand (BytesAt k part ∷ xs) a e i d = node_at_hand xs a.1 (one_missing (BytesAt k part) (is_some (c.bytes k part)) (first_missing c xs) e).1 i d
  node_at_hand (LargeAt g part ∷ xs) a e i d = node_at_hand xs a.1 (one_missing (LargeAt g part) (is_some (c.large g part)) (first_missing c xs) e).1 i d

-- ---- owners

filter_same : (f g : ℕ → Bool) (xs : List ℕ) → ((x : ℕ) → Contains xs x → f x ≡ g x) → filter f xs ≡ filter g xs
filter_same f g [] e = refl
filter_same f g (x ∷ xs) e =
    ap (λ b. if b then x ∷ filter f xs else filter f xs) (e x (has_head x xs)) ∙ ap (λ l. if g x then x ∷ l else l) (filter_same f g xs (λ y c. e y (has_more x y xs c)))

module _ (f g : ℕ → ℕ → Bool) (nodes : List ℕ) (same : (i : ℕ) → Contains nodes i → (k : ℕ) → f i k ≡ g i k) where
  one_same : (e : Edit) → edit_locks_of f nodes e ≡ edit_locks_of g nodes e
  one_same (SetInode i v d) = refl
  one_same (SetBit i b) = refl
  one_same (SetUse k u) = refl
  one_same (SetPlace k p e) = ap sole_nodes (filter_same (λ i. f i k) (λ i. g i k) nodes (λ i c. same i c k))
  one_same (SetLarge g b) = refl
  one_same (SetBytes k part bytes) = refl
  one_same (SetLargeBytes g part bytes) = refl

  edits_same : (edits : List Edit) → edit_locks f nodes edits ≡ edit_locks g nodes edits
  edits_same [] = refl
  edits_same (e ∷ edits) = ap (λ l. l ++ edit_locks f nodes edits) (one_same e) ∙ ap (λ l. edit_locks_of g nodes e ++ l) (edits_same edits)

-- ---- lines

module _ (o : Op) (cached : Cached) (held : Segments) (all : Bool) (sectors : Sectors) (tree : FileTree) (birth when : ℕ) (of : AreOfDisk cached held all tree.segments sectors) (below : StandsBelow sectors tree) where
  abbrev pub s : Store
  s = store_of tree.segments sectors

  abbrev h : Hand
  h = hand_of cached held all

  abbrev c : AtHand
  c = at_hand cached held

  abbrev n : Naming
  n = below.stands.naming

  abbrev pub p : Ask Plan
  p = plan_of_line h birth when o

  pub is_of : IsOfTree s tree n
  is_of = of_tree sectors tree below

  pub is_hand : IsHandOf h s tree.segments
  is_hand = hand op.Sync cached held all sectors tree birth when of below

  agree : AgreesWhereAll c s (looks p s)
  agree = agrees cached held tree.segments sectors of.as_cached below.whole (looks p s) (lines_inside o h s tree n birth when is_of is_hand)

  pub ran : (v : Plan) → meet p c ≡ Has v → (first_missing c (looks p s) ≡ None) × (run p s ≡ v)
  ran v e = has_all (first_missing c (looks p s)) (run p s) v (sym (meets_where p c s agree) ∙ e)

  -- the nodes at which it looked are those over the disk
  pub same_nodes : first_missing c (looks p s) ≡ None → looked_nodes p c ≡ nodes_of (looks p s)
  same_nodes none = ap nodes_of (follows_disk o cached held all sectors tree birth when of below ∙ take_all c (looks p s) none)

  line_end : (v : Plan) → meet p c ≡ Has v → LineEnds h s (run (resolved o) s).step (looked_nodes p c) v
  line_end v e =
      let r = ran v e in
      subst (λ z. LineEnds h s (run (resolved o) s).step (looked_nodes p c) z) r.1
      (subst (λ l. LineEnds h s (run (resolved o) s).step l (run p s)) (sym (same_nodes r.0)) (line_ends h s tree n is_of is_hand birth when o))

  owners_same : first_missing c (looks p s) ≡ None → (i : ℕ) → Contains (looked_nodes p c) i → (k : ℕ) → owns h s i k ≡ owns_at_hand cached i k
  owners_same none i d k = ap (has_small k) (sym (node_at_hand c s (looks p s) agree none i (subst (λ l. Contains l i) (same_nodes none) d)))

  pub finish_found : (f : Finish) → meet p c ≡ Has (Finishes f) → AreAlike (finish_locks (owns_at_hand cached) held (looked_nodes p c) f.reply f.edits) f.locks
  finish_found f e =
      let nodes = looked_nodes p c in
      let none = (ran (Finishes f) e).0 in
      subst (λ l. AreAlike (shared_nodes nodes ++ l ++ full_locks held f.reply) f.locks) (edits_same (owns h s) (owns_at_hand cached) nodes (owners_same none) f.edits) (line_end (Finishes f) e)

  -- the walks come over the disk to what they come to by what is at hand
  walked : (v : Resolved) → meet (resolved o) c ≡ Has v → run (resolved o) s ≡ v
  walked v e =
      let later = looks (plan_step h birth when (run (resolved o) s).trail (run (resolved o) s).step) s in
      let here = agrees_first c s (looks (resolved o) s) later (subst (AgreesWhereAll c s) (looks-bind (resolved o) (λ w. plan_step h birth when w.trail w.step) s) agree) in
      (has_all (first_missing c (looks (resolved o) s)) (run (resolved o) s) v (sym (meets_where (resolved o) c s here) ∙ e)).1

  pub clear_found : (over : Op) (trail : List ℕ) (k : ℕ) (locks : List Lock) → meet (resolved o) c ≡ Has (record { step = Goes over; trail = trail }) → meet p c ≡ Has (Clears k locks) → AreAlike (clear_locks over (looked_nodes p c) k) locks
  clear_found over trail k locks w e =
      subst (λ (z : Resolved). ClearIs h s z.step (looked_nodes p c) k locks) (walked (record { step = Goes over; trail = trail }) w) (line_end (Clears k locks) e)

pub finish_locks_found : FinishLocksAreFound
finish_locks_found o cached held all sectors tree birth when of below f e = finish_found o cached held all sectors tree birth when of below f e

pub clear_locks_found : ClearLocksAreFound
clear_locks_found o cached held all sectors tree birth when of below over trail k locks w e = clear_found o cached held all sectors tree birth when of below over trail k locks w e
