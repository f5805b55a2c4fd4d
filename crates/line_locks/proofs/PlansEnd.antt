-- How a plan ends: its locks are within those that are found, and the nodes that it looked at are held. The ends of refusals, of finished plans and of rooms.
use Rattle.std.proofs.Common.{◌≡◌, ℕ, ◌+◌, ◌-◌, ◌/◌, ◌⊎◌, ⊎_elim, Bool, true, false, if◌then◌else◌, Some, List, [], ◌∷◌, ◌++◌, length, get_or, slice_index, refl, sym, ◌∙◌, ap, subst, arith, length-append}
use Rattle.std.proofs.Math.Seq.{get_or-append_seam}
use Rattle.std.proofs.lemmas.List.{append_assoc}
use Rattle.std.proofs.lemmas.List.Elements.{Contains-append_left, Contains-append_right}
use Rattle.std.specs.List.{AllByRecursion, Contains}
use Rattle.std.specs.Map.{keys_of}
use Rattle.frang_base.specs.declared.lock.LockId.{LockId}
use Rattle.frang_base.specs.declared.lock.LockId.TheVariants as lock
use Rattle.frang_base.specs.declared.lock.Mode.TheVariants.{Sole}
use Rattle.frang_base.specs.declared.reply.Reply.{Reply}
use Rattle.disk_definitions.specs.Store.{Store}
use Rattle.disk_definitions.specs.Edits.{Edit}
use Rattle.disk_definitions.specs.Ask.{Ask, Got, ReadDirectory}
use Rattle.disk_definitions.specs.NamePlans.{finish_over}
use Rattle.disk_definitions.specs.Plans.{Hand, Lock, Plan, Finish, Room, must_clear, finish_in, none_left, read_held, refuse, refused, shared_nodes, sole_nodes, sole_segments, says_full}
use Rattle.disk_definitions.specs.Plans.Plan.{Lacks, Clears, Finishes}
use Rattle.disk_definitions.specs.Plans.Room.{Inside, InBlock, NoRoom}
use Rattle.plan_laws.proofs.Covering.{has_cases, not_in_none, node_sole}
use Rattle.plan_laws.specs.Locks.{IsSole}
use Rattle.plan_laws.specs.Covers.{IsHeld}
use Rattle.plan_laws.proofs.Fine.{first_held, only_held}
use Rattle.disk_definitions.specs.CoversAtHand.{has_small}
use Rattle.disk_definitions.specs.FoundLocks.{edit_locks_of, edit_locks, full_locks, finish_locks, from_end, made_segments, clear_soles}
use Rattle.line_locks.specs.Same.{AreWithin}
use Rattle.line_locks.proofs.Alike.{within_itself, within_join, within_shared, within_nodes, within_segments, sole_left, sole_right, held_left}
use Rattle.line_locks.proofs.Ending.{Ends, ends_segments}

-- ---- the nodes at the end of a list

pub from_end_is : (xs ys : List ℕ) (a back : ℕ) → length ys ≡ back → from_end (xs ++ a ∷ ys) back ≡ a
from_end_is xs ys a back e = ap (slice_index (xs ++ a ∷ ys)) at ∙ get_or-append_seam xs a ys 0
  where
    at : length (xs ++ a ∷ ys) - 1 - back ≡ length xs
    at = let l : length (xs ++ a ∷ ys) ≡ length xs + length (a ∷ ys) = length-append xs (a ∷ ys) in let m : length (a ∷ ys) ≡ length ys + 1 = omega arith in omega arith

-- directories that end in one, behind others
pub last_of : (xs dirs front : List ℕ) (i : ℕ) → dirs ≡ front ++ i ∷ [] → xs ++ dirs ≡ xs ++ front ++ i ∷ []
last_of xs dirs front i e = ap (λ l. xs ++ l) e ∙ sym (append_assoc xs front (i ∷ []))

-- the nodes that were touched are these directories, and some of the nodes that are held alone
pub record AreTouched (before touched nodes dirs soles : List ℕ) : Type 0 where
  pub are : nodes ≡ before ++ touched
  pub dirs_in : (i : ℕ) → Contains dirs i → Contains touched i
  pub one_of : (i : ℕ) → Contains touched i → Contains dirs i ⊎ Contains soles i

module _ (h : Hand) (s : Store) where
  -- the node of this inode has the small block
  abbrev pub owns : ℕ → ℕ → Bool
  owns i k = has_small k (Some (s.inode i))

  -- what is found of a finished plan
  abbrev pub found : List ℕ → Finish → List Lock
  found nodes f = finish_locks owns h.held nodes f.reply f.edits

  -- behind the nodes before it these were looked at, which are held
  pub record Looks (before nodes : List ℕ) (locks : List Lock) : Type 0 where
    pub touched : List ℕ
    pub are : nodes ≡ before ++ touched
    pub held : (i : ℕ) → Contains touched i → IsHeld locks (lock.Node i)

  pub record FinishEnds (before nodes : List ℕ) (f : Finish) : Type 0 where
    pub looked : Looks before nodes f.locks
    pub within : AreWithin f.locks (found nodes f)

  pub record ClearEnds (back : ℕ) (made : Bool) (before nodes : List ℕ) (k : ℕ) (locks : List Lock) : Type 0 where
    pub looked : Looks before nodes locks
    pub within : AreWithin locks (shared_nodes nodes ++ clear_soles (from_end nodes back) (from_end nodes 0) made k)
    pub soles : AreWithin (clear_soles (from_end nodes back) (from_end nodes 0) made k) locks

  abbrev pub PlanEnds : ℕ → Bool → List ℕ → List ℕ → Plan → Type 0
  PlanEnds back made before nodes Lacks = Unit {0}
  PlanEnds back made before nodes (Clears k locks) = ClearEnds back made before nodes k locks
  PlanEnds back made before nodes (Finishes f) = FinishEnds before nodes f

  -- ---- what is found

  pub has_edit : (nodes : List ℕ) (edits : List Edit) (e : Edit) (l : LockId) → Contains edits e → IsSole (edit_locks_of owns nodes e) l → IsSole (edit_locks owns nodes edits) l
  has_edit nodes [] e l c i = absurd (not_in_none e c)
  has_edit nodes (d ∷ edits) e l c i =
      ⊎_elim (λ q. sole_left (edit_locks_of owns nodes d) (edit_locks owns nodes edits) l (subst (λ z. IsSole (edit_locks_of owns nodes z) l) (sym q) i))
      (λ r. sole_right (edit_locks_of owns nodes d) (edit_locks owns nodes edits) l (has_edit nodes edits e l r i)) (has_cases d e edits c)

  pub edit_found : (nodes : List ℕ) (f : Finish) (l : LockId) → IsSole (edit_locks owns nodes f.edits) l → IsSole (found nodes f) l
  edit_found nodes f l i = sole_left (shared_nodes nodes ++ edit_locks owns nodes f.edits) (full_locks h.held f.reply) l (sole_right (shared_nodes nodes) (edit_locks owns nodes f.edits) l i)

  pub node_found : (nodes : List ℕ) (f : Finish) (i : ℕ) → Contains nodes i → IsHeld (found nodes f) (lock.Node i)
  node_found nodes f i c =
      held_left (shared_nodes nodes ++ edit_locks owns nodes f.edits) (full_locks h.held f.reply) (lock.Node i) (held_left (shared_nodes nodes) (edit_locks owns nodes f.edits) (lock.Node i) (only_held nodes i c))

  pub touched_found : (before touched nodes : List ℕ) (f : Finish) → nodes ≡ before ++ touched → (i : ℕ) → Contains touched i → IsHeld (found nodes f) (lock.Node i)
  touched_found before touched nodes f e i c = node_found nodes f i (subst (λ l. Contains l i) (sym e) (Contains-append_right before touched i c))

  -- ---- refusals

  module _ (back : ℕ) (made : Bool) (before touched nodes : List ℕ) (r : Reply) (e : nodes ≡ before ++ touched) where
    pub refuse_ends : PlanEnds back made before nodes (refuse r touched)
    refuse_ends =
        let f : Finish = record { reply = r; edits = []; locks = shared_nodes touched } in
        record { looked = record { touched = touched; are = e; held = only_held touched }; within = within_shared touched (found nodes f) (touched_found before touched nodes f e) }

    pub none_ends : says_full r ≡ true → Ends s (PlanEnds back made before) (none_left h r touched) nodes
    none_ends full = go h.all
      where
        segments : List Lock
        segments = sole_segments (keys_of h.held)

        f : Finish
        f = record { reply = r; edits = []; locks = shared_nodes touched ++ segments }

        all_found : AreWithin segments (found nodes f)
        all_found =
            let first = shared_nodes nodes ++ edit_locks owns nodes [] in
            within_itself segments (found nodes f) (λ need c. Contains-append_right first (full_locks h.held r) need (subst (λ b. Contains (if b then segments else []) need) (sym full) c))

        finished : FinishEnds before nodes f
        finished = record {
          looked = record { touched = touched; are = e; held = λ i c. held_left (shared_nodes touched) segments (lock.Node i) (only_held touched i c) };
          within = within_join (shared_nodes touched) segments (found nodes f) (within_shared touched (found nodes f) (touched_found before touched nodes f e)) all_found;
        }

        go : (b : Bool) → PlanEnds back made before nodes (if b then Finishes f else Lacks)
        go true = finished
        go false = tt

  -- ---- finished plans

  -- each sole lock is that of an edit
  abbrev pub AreEdited : List ℕ → List Edit → List ℕ → List ℕ → Type 0
  AreEdited nodes edits soles segments =
      AllByRecursion (λ i. IsSole (edit_locks owns nodes edits) (lock.Node i)) soles × AllByRecursion (λ k. IsSole (edit_locks owns nodes edits) (lock.Segment k)) segments

  module _ (before touched nodes dirs soles segments : List ℕ) (t : AreTouched before touched nodes dirs soles) where
    abbrev made_locks : List Lock
    made_locks = shared_nodes dirs ++ sole_nodes soles ++ sole_segments segments

    pub made_looked : Looks before nodes made_locks
    made_looked = record {
      touched = touched;
      are = t.are;
      held = λ i c. ⊎_elim (λ d. first_held dirs (sole_nodes soles) (sole_segments segments) i d) (λ d. (Sole, node_sole (shared_nodes dirs) soles (sole_segments segments) i d)) (t.one_of i c);
    }

    pub finish_ends : (r : Reply) (edits : List Edit) → AreEdited nodes edits soles segments → FinishEnds before nodes (record { reply = r; edits = edits; locks = made_locks })
    finish_ends r edits a =
        let f : Finish = record { reply = r; edits = edits; locks = made_locks } in
        record {
          looked = made_looked;
          within = within_join (shared_nodes dirs ++ sole_nodes soles) (sole_segments segments) (found nodes f)
              (within_join (shared_nodes dirs) (sole_nodes soles) (found nodes f) (within_shared dirs (found nodes f) (λ i c. touched_found before touched nodes f t.are i (t.dirs_in i c)))
              (within_nodes soles (found nodes f) (all_found (λ i. lock.Node i) f soles a.0)))
              (within_segments segments (found nodes f) (all_found (λ k. lock.Segment k) f segments a.1));
        }
      where
        all_found : (make : ℕ → LockId) (f : Finish) (xs : List ℕ) → AllByRecursion (λ i. IsSole (edit_locks owns nodes f.edits) (make i)) xs → AllByRecursion (λ i. IsSole (found nodes f) (make i)) xs
        all_found make f [] a = tt
        all_found make f (x ∷ xs) a = (edit_found nodes f (make x) a.0, all_found make f xs a.1)

  -- ---- rooms

  module _ (back : ℕ) (made : Bool) (before touched nodes dirs : List ℕ) (a b k : ℕ) (t : AreTouched before touched nodes dirs (a ∷ b ∷ [])) (first : from_end nodes back ≡ a) (last : from_end nodes 0 ≡ b) where
    abbrev soles : List Lock
    soles = clear_soles a b made k

    abbrev nodes_alone : List Lock
    nodes_alone = sole_nodes (a ∷ b ∷ [])

    abbrev segments_alone : List Lock
    segments_alone = sole_segments (made_segments made b ++ (k / 1024) ∷ [])

    abbrev locks : List Lock
    locks = shared_nodes dirs ++ nodes_alone ++ segments_alone

    all_within : AreWithin locks (shared_nodes nodes ++ soles)
    all_within =
        within_join (shared_nodes dirs ++ nodes_alone) segments_alone (shared_nodes nodes ++ soles)
        (within_join (shared_nodes dirs) nodes_alone (shared_nodes nodes ++ soles)
        (within_shared dirs (shared_nodes nodes ++ soles) (λ i c. held_left (shared_nodes nodes) soles (lock.Node i) (only_held nodes i (subst (λ l. Contains l i) (sym t.are) (Contains-append_right before touched i (t.dirs_in i c))))))
        (within_itself nodes_alone (shared_nodes nodes ++ soles) (λ need c. Contains-append_right (shared_nodes nodes) soles need (Contains-append_left nodes_alone segments_alone need c))))
        (within_itself segments_alone (shared_nodes nodes ++ soles) (λ need c. Contains-append_right (shared_nodes nodes) soles need (Contains-append_right nodes_alone segments_alone need c)))

    soles_within : AreWithin soles locks
    soles_within =
        within_join nodes_alone segments_alone locks
        (within_itself nodes_alone locks (λ need c. Contains-append_left (shared_nodes dirs ++ nodes_alone) segments_alone need (Contains-append_right (shared_nodes dirs) nodes_alone need c)))
        (within_itself segments_alone locks (λ need c. Contains-append_right (shared_nodes dirs ++ nodes_alone) segments_alone need c))

    pub clear_ends : ClearEnds back made before nodes k locks
    clear_ends = record {
      looked = made_looked before touched nodes dirs (a ∷ b ∷ []) (made_segments made b ++ (k / 1024) ∷ []) t;
      within = subst (λ y. AreWithin locks (shared_nodes nodes ++ clear_soles y (from_end nodes 0) made k)) (sym first) (subst (λ z. AreWithin locks (shared_nodes nodes ++ clear_soles a z made k)) (sym last) all_within);
      soles = subst (λ y. AreWithin (clear_soles y (from_end nodes 0) made k) locks) (sym first) (subst (λ z. AreWithin (clear_soles a z made k) locks) (sym last) soles_within);
    }

  -- a plan that is done in a block, or has it cleared
  pub block_ends : (back : ℕ) (made : Bool) (before nodes : List ℕ) (k : ℕ) (f : Finish) → FinishEnds before nodes f → ClearEnds back made before nodes k f.locks → Ends s (PlanEnds back made before) (finish_in h (InBlock k) f) nodes
  block_ends back made before nodes k f done cleared = go (must_clear h k)
    where
      go : (b : Bool) → Ends s (PlanEnds back made before) (if b then Got (Clears k f.locks) else ReadDirectory k 0 (λ slots. Got (Finishes f))) nodes
      go true = cleared
      go false = done

  -- ---- looks at segments

  pub over_ends : (back : ℕ) (made : Bool) (before nodes segments : List ℕ) (f : Finish) → FinishEnds before nodes f → Ends s (PlanEnds back made before) (finish_over segments f) nodes
  over_ends back made before nodes segments f done = ends_segments s (PlanEnds back made before) segments (Got (Finishes f)) nodes done

  pub held_ends : (back : ℕ) (made : Bool) (before nodes : List ℕ) (p : Ask Plan) → Ends s (PlanEnds back made before) p nodes → Ends s (PlanEnds back made before) (read_held h p) nodes
  held_ends back made before nodes p t = ends_segments s (PlanEnds back made before) (keys_of h.held) p nodes t
