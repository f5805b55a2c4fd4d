-- Refusals: a plan that changes nothing, and one that finds nothing in the held segments.
use Rattle.std.proofs.Common.{ℕ, ◌≡◌, Bool, true, false, List, if◌then◌else◌, refl}
use Rattle.frang_base.specs.declared.reply.Reply.{Reply}
use Rattle.tree_definitions.specs.Tree.{FileTree}
use Rattle.tree_definitions.specs.Apply.{Applied, says}
use Rattle.tree_definitions.specs.WellFormed.{IsWellFormed}
use Rattle.disk_definitions.specs.Store.{Store}
use Rattle.disk_definitions.specs.Naming.{Naming}
use Rattle.disk_definitions.specs.Ask.{run}
use Rattle.disk_definitions.specs.Plans.{Hand, Plan, refuse, none_left}
use Rattle.disk_definitions.specs.Meets.{IsOfTree}
use Rattle.plan_laws.specs.Keeping.{PlanKeeps}

-- it meets what is applied, where the tree after it is well formed, as each is
abbrev pub Meets : Hand → Store → FileTree → Naming → Applied → Plan → Type 0
Meets h s tree n a p = IsWellFormed a.tree → PlanKeeps h s tree n a p

-- a refusal that doesn't come
pub passes : (h : Hand) (s : Store) (tree : FileTree) (n : Naming) (refuses : Bool) (other a : Applied) (p : Plan) → refuses ≡ false → Meets h s tree n a p → Meets h s tree n (if refuses then other else a) p
passes h s tree n refuses other a p e m = rw e m

module _ (h : Hand) (s : Store) (tree : FileTree) (n : Naming) (of : IsOfTree s tree n) where
  pub refuse_meets : (r : Reply) (touched : List ℕ) → PlanKeeps h s tree n (says tree r) (refuse r touched)
  refuse_meets r touched = record { meets = record { answer = refl; naming = n; tree = of }; inodes = λ b there stays. refl }

  -- nothing was found: where all segments are held, the tree refuses too
  pub none_meets : (r : Reply) (touched : List ℕ) (full : Bool) (other : Applied) → (h.all ≡ true → full ≡ true) → PlanKeeps h s tree n (if full then says tree r else other) (run (none_left h r touched) s)
  none_meets r touched full other all = go h.all refl all
    where
      go : (b : Bool) → h.all ≡ b → (b ≡ true → full ≡ true) → PlanKeeps h s tree n (if full then says tree r else other) (run (none_left h r touched) s)
      go true e f = rw (f refl, e) (record { meets = record { answer = refl; naming = n; tree = of }; inodes = λ b there stays. refl })
      go false e f = rw e refl
