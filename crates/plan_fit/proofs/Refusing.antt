-- A plan that changes nothing is fit, and so is one that finds nothing in the held segments.
use Rattle.std.proofs.Common.{ℕ, Bool, true, false, List, [], ◌++◌, inl, if◌then◌else◌}
use Rattle.std.specs.Map.{keys_of}
use Rattle.frang_base.specs.declared.reply.Reply.{Reply}
use Rattle.disk_definitions.specs.Store.{Store}
use Rattle.disk_definitions.specs.Ask.{Got, run}
use Rattle.disk_definitions.specs.Plans.{Hand, refuse, none_left, shared_nodes, sole_segments}
use Rattle.disk_definitions.specs.Plans.Plan.{Lacks, Finishes}
use Rattle.disk_definitions.specs.FitPlans.{PlanIsFit}

module _ (h : Hand) (segments : ℕ) (s : Store) where
  pub refuse_fits : (r : Reply) (touched : List ℕ) → PlanIsFit h segments s (refuse r touched)
  refuse_fits r touched = record { edits = tt; clear = λ k m. inl m }

  pub none_fits : (r : Reply) (touched : List ℕ) → PlanIsFit h segments s (run (none_left h r touched) s)
  none_fits r touched = go h.all
    where
      go : (b : Bool) → PlanIsFit h segments s (run (Got (if b then Finishes (record { reply = r; edits = []; locks = shared_nodes touched ++ sole_segments (keys_of h.held) }) else Lacks)) s)
      go true = record { edits = tt; clear = λ k m. inl m }
      go false = tt
