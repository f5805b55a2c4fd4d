-- A line ends with the locks that are found, over the disk of a tree.
use Rattle.std.proofs.Common.{◌≡◌, ℕ, ⊎_elim, Bool, true, false, if◌then◌else◌, List, [], ◌∷◌, ◌++◌, refl, sym, ◌∙◌, ap, subst}
use Rattle.std.proofs.lemmas.List.Elements.{Contains-append_left, Contains-append_right}
use Rattle.std.specs.List.{Contains}
use Rattle.std.specs.Map.{keys_of}
use Rattle.frang_base.specs.declared.lock.LockId.TheVariants as lock
use Rattle.frang_base.specs.declared.op.Op.{Op}
use Rattle.frang_base.specs.declared.reply.Reply.{Reply}
use Rattle.tree_definitions.specs.Perform.{Step, Goes, Stops, Resolved}
use Rattle.tree_definitions.specs.Tree.{FileTree}
use Rattle.disk_definitions.specs.Store.{Store}
use Rattle.disk_definitions.specs.Naming.{Naming}
use Rattle.disk_definitions.specs.Ask.{Got, run, looks}
use Rattle.disk_definitions.specs.Meets.{IsOfTree, IsHandOf}
use Rattle.disk_definitions.specs.PlanOf.{plan_of}
use Rattle.disk_definitions.specs.Plans.{Hand, Lock, Plan, Finish, shared_nodes, sole_segments, says_full}
use Rattle.disk_definitions.specs.Plans.Plan.{Lacks, Clears, Finishes}
use Rattle.plan_laws.specs.Locks.{PlanIsCovered}
use Rattle.plan_laws.specs.Covers.{IsHeld}
use Rattle.plan_laws.proofs.AllFine.{edits_are_covered}
use Rattle.plan_laws.proofs.AllLocks.{locks_cover}
use Rattle.plan_laws.proofs.Fine.{only_held, shared_held}
use Rattle.plan_laws.proofs.Standing.{DiskStands, disk_stands}
use Rattle.plan_laws.proofs.WalksFine.{either}
use Rattle.disk_definitions.specs.Lines.{plan_of_line, plan_step, resolved, with_trail}
use Rattle.disk_definitions.specs.LookedAt.{nodes_of}
use Rattle.disk_definitions.specs.FoundLocks.{clear_locks, clear_soles, edit_locks, from_end, full_locks, makes_node, nodes_behind}
use Rattle.line_locks.specs.Same.{AreAlike, AreWithin}
use Rattle.line_locks.proofs.Alike.{held_left, held_right, within_join, within_more, within_shared}
use Rattle.line_locks.proofs.AllEnd.{OpEnds, plan_ends}
use Rattle.line_locks.proofs.Covered.{covered_in}
use Rattle.line_locks.proofs.Ending.{Ends, ends_then, ends_value, ends_run}
use Rattle.line_locks.proofs.PlansEnd.{owns, found, FinishEnds, ClearEnds, Looks}
use Rattle.line_locks.proofs.Trails.{IsQuietStep, LineTrail, resolved_ends}

module _ (h : Hand) (s : Store) where
  -- the locks of a line that came to this step, and looked at these nodes
  abbrev pub ClearIs : Step → List ℕ → ℕ → List Lock → Type 0
  ClearIs (Goes o) nodes k locks = AreAlike (clear_locks o nodes k) locks
  ClearIs (Stops r) nodes k locks = Unit {0}

  abbrev pub LineEnds : Step → List ℕ → Plan → Type 0
  LineEnds step nodes Lacks = Unit {0}
  LineEnds step nodes (Clears k locks) = ClearIs step nodes k locks
  LineEnds step nodes (Finishes f) = AreAlike (found h s nodes f) f.locks

  -- ---- behind a trail

  module _ (trail nodes : List ℕ) (locks : List Lock) (l : Looks h s trail nodes locks) where
    abbrev more : List Lock
    more = shared_nodes trail ++ locks

    nodes_held : (i : ℕ) → Contains nodes i → IsHeld more (lock.Node i)
    nodes_held i c = ⊎_elim (λ a. shared_held trail locks i a) (λ b. held_right (shared_nodes trail) locks (lock.Node i) (l.held i b)) (either trail l.touched i (subst (λ z. Contains z i) l.are c))

    trail_in : (i : ℕ) → Contains trail i → Contains nodes i
    trail_in i c = subst (λ z. Contains z i) (sym l.are) (Contains-append_left trail l.touched i c)

    behind_trail : (others : List Lock) → AreWithin others locks → AreWithin others more
    behind_trail others w = within_more others locks more (λ need c. Contains-append_right (shared_nodes trail) locks need c) w

    trail_within : (rest : List Lock) → AreWithin (shared_nodes trail) (shared_nodes nodes ++ rest)
    trail_within rest = within_shared trail (shared_nodes nodes ++ rest) (λ i c. shared_held nodes rest i (trail_in i c))

  clear_alike : (o : Op) (trail nodes : List ℕ) (k : ℕ) (locks : List Lock) → ClearEnds h s (nodes_behind o) (makes_node o) trail nodes k locks → AreAlike (clear_locks o nodes k) (shared_nodes trail ++ locks)
  clear_alike o trail nodes k locks e =
      let soles = clear_soles (from_end nodes (nodes_behind o)) (from_end nodes 0) (makes_node o) k in
      let more = shared_nodes trail ++ locks in
      record {
        there = within_join (shared_nodes nodes) soles more (within_shared nodes more (nodes_held trail nodes locks e.looked)) (behind_trail trail nodes locks e.looked soles e.soles);
        back = within_join (shared_nodes trail) locks (clear_locks o nodes k) (trail_within trail nodes locks e.looked soles) e.within;
      }

  finish_alike : (trail nodes : List ℕ) (f : Finish) → FinishEnds h s trail nodes f → AreWithin (edit_locks (owns h s) nodes f.edits) f.locks → AreWithin (full_locks h.held f.reply) f.locks →
      AreAlike (found h s nodes f) (shared_nodes trail ++ f.locks)
  finish_alike trail nodes f e edits full =
      let more = shared_nodes trail ++ f.locks in
      let own = edit_locks (owns h s) nodes f.edits in
      let all = full_locks h.held f.reply in
      record {
        there = within_join (shared_nodes nodes ++ own) all more
            (within_join (shared_nodes nodes) own more (within_shared nodes more (nodes_held trail nodes f.locks e.looked)) (behind_trail trail nodes f.locks e.looked own edits))
            (behind_trail trail nodes f.locks e.looked all full);
        back = within_join (shared_nodes trail) f.locks (found h s nodes f)
            (within_shared trail (found h s nodes f) (λ i c. held_left (shared_nodes nodes ++ own) all (lock.Node i) (shared_held nodes own i (trail_in trail nodes f.locks e.looked i c)))) e.within;
      }

  -- a refusal of the walks
  stop_alike : (trail nodes : List ℕ) (r : Reply) → nodes ≡ trail → says_full r ≡ false → AreAlike (found h s nodes (record { reply = r; edits = []; locks = shared_nodes trail })) (shared_nodes trail)
  stop_alike trail nodes r e quiet =
      let f : Finish = record { reply = r; edits = []; locks = shared_nodes trail } in
      record {
        there = within_join (shared_nodes nodes ++ []) (full_locks h.held r) (shared_nodes trail)
            (within_join (shared_nodes nodes) [] (shared_nodes trail) (within_shared nodes (shared_nodes trail) (λ i c. only_held trail i (subst (λ z. Contains z i) e c))) tt)
            (subst (λ b. AreWithin (if b then sole_segments (keys_of h.held) else []) (shared_nodes trail)) (sym quiet) tt);
        back = within_shared trail (found h s nodes f)
            (λ i c. held_left (shared_nodes nodes ++ []) (full_locks h.held r) (lock.Node i) (shared_held nodes [] i (subst (λ z. Contains z i) (sym e) c)));
      }

module _ (h : Hand) (s : Store) (tree : FileTree) (n : Naming) (of : IsOfTree s tree n) (hand : IsHandOf h s tree.segments) (birth when : ℕ) where
  disk : DiskStands h s n
  disk = disk_stands h s tree n of hand

  trail_ends : (o : Op) (trail nodes : List ℕ) (plan : Plan) → OpEnds h s n disk o trail nodes plan → plan ≡ run (plan_of h birth when o) s → LineEnds h s (Goes o) nodes (with_trail trail plan)
  trail_ends o trail nodes Lacks e is = tt
  trail_ends o trail nodes (Clears k locks) e is = clear_alike h s o trail nodes k locks e
  trail_ends o trail nodes (Finishes f) e is =
      let covered = covered_in h s n disk nodes f.locks f refl (subst (PlanIsCovered h) (sym is) (locks_cover o h s birth when)) (edits_are_covered o h s tree n birth when f of hand (sym is)) in
      finish_alike h s trail nodes f e covered.0 covered.1

  step_ends : (trail nodes : List ℕ) (step : Step) → IsQuietStep step → nodes ≡ trail → Ends s (LineEnds h s step) (plan_step h birth when trail step) nodes
  step_ends trail nodes (Goes o) q e =
      ends_then s (λ later plan. OpEnds h s n disk o trail later plan × (plan ≡ run (plan_of h birth when o) s)) (LineEnds h s (Goes o)) (plan_of h birth when o) (λ plan. Got (with_trail trail plan)) nodes
      (ends_value s (OpEnds h s n disk o trail) (plan_of h birth when o) nodes (subst (λ l. Ends s (OpEnds h s n disk o trail) (plan_of h birth when o) l) (sym e) (plan_ends h s n disk o birth when trail)))
      (λ later plan f. trail_ends o trail later plan f.0 f.1)
  step_ends trail nodes (Stops r) q e = stop_alike h s trail nodes r e q

  pub line_ends : (o : Op) → LineEnds h s (run (resolved o) s).step (nodes_of (looks (plan_of_line h birth when o) s)) (run (plan_of_line h birth when o) s)
  line_ends o =
      let w = run (resolved o) s in
      ends_run s (LineEnds h s w.step) (plan_of_line h birth when o) []
      (ends_then s (λ later w. LineTrail later w × (w ≡ run (resolved o) s)) (LineEnds h s w.step) (resolved o) (λ w. plan_step h birth when w.trail w.step) []
      (ends_value s LineTrail (resolved o) [] (resolved_ends h s n disk o))
      (λ later v e. subst (λ (z : Resolved). Ends s (LineEnds h s z.step) (plan_step h birth when v.trail v.step) later) e.1 (step_ends v.trail later v.step e.0.quiet e.0.nodes)))
