-- A plan that changes nothing fits each disk, and a path that is lost changes nothing.
use Rattle.std.proofs.Common.{ℕ, ◌==◌, Bool, true, false, if◌then◌else◌, inl, List, [], ◌++◌}
use Rattle.std.specs.Map.{keys_of}
use Rattle.frang_base.specs.declared.reply.Reply.TheVariants as reply
use Rattle.frang_base.specs.declared.reply.Reply.{Reply}
use Rattle.disk_definitions.specs.Store.{Store}
use Rattle.disk_definitions.specs.Ask.{Ask, Got, run}
use Rattle.disk_definitions.specs.Walks.{Spot, Target, walk, at_spot, at_target}
use Rattle.disk_definitions.specs.Walks.Spot.{AtRoot, AtName, AtGap, Lost}
use Rattle.disk_definitions.specs.Plans.Plan.{Lacks, Finishes}
use Rattle.disk_definitions.specs.Plans.{Hand, Plan, refused, none_left, shared_nodes, sole_segments}
use Rattle.disk_definitions.specs.LookPlans.{plan_of_node}
use Rattle.plan_laws.proofs.Asking.{run-bind}
use Rattle.disk_definitions.specs.FitPlans.{PlanIsFit}

module _ (h : Hand) (segments : ℕ) (s : Store) where
  abbrev pub Fits : Ask Plan → Type 0
  Fits p = PlanIsFit h segments s (run p s)

  pub refuse_fits : (r : Reply) (touched : List ℕ) → Fits (refused r touched)
  refuse_fits r touched = record { edits = tt; clear = λ k m. inl m }

  pub none_fits : (r : Reply) (touched : List ℕ) → Fits (none_left h r touched)
  none_fits r touched = go h.all
    where
      go : (b : Bool) → Fits (Got (if b then Finishes (record { reply = r; edits = []; locks = shared_nodes touched ++ sole_segments (keys_of h.held) }) else Lacks))
      go true = record { edits = tt; clear = λ k m. inl m }
      go false = tt

  -- of a kind alone something is done
  pub by_kind : (next : Target → Ask Plan) (kind : ℕ) (r : Reply) → ((t : Target) → Fits (next t)) → (t : Target) → Fits (if t.kind == kind then next t else refused r t.dirs)
  by_kind next kind r each t = go (t.kind == kind)
    where
      go : (a : Bool) → Fits (if a then next t else refused r t.dirs)
      go true = each t
      go false = refuse_fits r t.dirs

  module _ (next : Target → Ask Plan) (each : (t : Target) → Fits (next t)) where
    spot_fits : (v : Spot) (dirs : List ℕ) → Fits (at_spot v dirs refused next)
    spot_fits AtRoot dirs = each (record { inode = 0; kind = 2; dirs = dirs })
    spot_fits (AtName i x name q e) dirs = each (record { inode = e.inode; kind = e.kind; dirs = dirs })
    spot_fits (AtGap i x name) dirs = refuse_fits reply.NoEnt dirs
    spot_fits (Lost r) dirs = refuse_fits r dirs

    pub node_fits : (path : List (List ℕ)) → Fits (plan_of_node path next)
    node_fits path = let w = run (walk path) s in rw (run-bind (walk path) (λ w. at_target w refused next) s) (spot_fits w.spot w.dirs)
