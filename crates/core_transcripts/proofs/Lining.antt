-- A line comes to a reply of its own, and one that only looks changes nothing: whatever is said to what it asks, and so over what is at hand.
use Rattle.std.proofs.Common.{ℕ, ◌≡◌, Bool, true, false, List, [], ◌∷◌, refl}
use Rattle.frang_base.specs.declared.op.Op.{Op}
use Rattle.frang_base.specs.declared.op.Op.TheVariants as op
use Rattle.tree_definitions.specs.Perform.{Step, Goes, Stops, Resolved}
use Rattle.tree_definitions.specs.Transcript.{may_change}
use Rattle.disk_definitions.specs.Ask.{Got}
use Rattle.disk_definitions.specs.Plans.{Hand, Plan}
use Rattle.disk_definitions.specs.Plans.Plan.{Lacks, Clears, Finishes}
use Rattle.disk_definitions.specs.PlanOf.{plan_of}
use Rattle.disk_definitions.specs.Lines.{by_first, by_path, by_second, is_found, over_path, over_paths, plan_of_line, plan_step, resolved, step_of, with_trail}
use Rattle.disk_definitions.specs.Resolving.{PathEnd, Leads, Refused, resolve}
use Rattle.core_transcripts.proofs.Always.{Always, always_bind}
use Rattle.core_transcripts.proofs.Walking.{IsPlain, EndIsPlain, ResolutionIsPlain, resolve_plain}
use Rattle.core_transcripts.proofs.Planning.{OnlyLooks, SaysPlain, looks_only, plans_plain}

-- ---- what a line's walks lead to: an operation that passes, or a refusal

module _ (K : Op → Type 0) where
  abbrev pub StepPasses : Step → Type 0
  StepPasses (Goes o) = K o
  StepPasses (Stops r) = IsPlain r

  abbrev pub ResolvedPasses : Resolved → Type 0
  ResolvedPasses walked = StepPasses walked.step

  step_passes : (make : List (List ℕ) → Op) → ((path : List (List ℕ)) → K (make path)) → (end : PathEnd) → EndIsPlain end → StepPasses (step_of end make)
  step_passes make each (Leads path kind) f = each path
  step_passes make each (Refused r) f = f

  one_path : (last : Bool) (path : List (List ℕ)) (make : List (List ℕ) → Op) → ((p : List (List ℕ)) → K (make p)) → Always ResolvedPasses (over_path last path make)
  one_path last path make each =
      always_bind ResolutionIsPlain ResolvedPasses (resolve last path) (by_path [] make) (resolve_plain last path) (λ walk f. step_passes make each walk.end f)

  second_path : (found : Bool) (trail : List ℕ) (to : List (List ℕ)) (make : List (List ℕ) → Op) → ((p : List (List ℕ)) → K (make p)) → Always ResolvedPasses (by_second found trail to make)
  second_path true trail to make each =
      always_bind ResolutionIsPlain ResolvedPasses (resolve false to) (by_path trail make) (resolve_plain false to) (λ walk f. step_passes make each walk.end f)
  second_path false trail to make each = each to

  first_path : (dirs : Bool) (to : List (List ℕ)) (make : List (List ℕ) → List (List ℕ) → Op) → ((p q : List (List ℕ)) → K (make p q)) → (end : PathEnd) (trail : List ℕ) → EndIsPlain end →
      Always ResolvedPasses (by_first dirs to make end trail)
  first_path dirs to make each (Leads path kind) trail f = second_path (is_found dirs kind) trail to (make path) (each path)
  first_path dirs to make each (Refused r) trail f = f

  two_paths : (dirs : Bool) (path to : List (List ℕ)) (make : List (List ℕ) → List (List ℕ) → Op) → ((p q : List (List ℕ)) → K (make p q)) →
      Always ResolvedPasses (over_paths dirs path to make)
  two_paths dirs path to make each =
      always_bind ResolutionIsPlain ResolvedPasses (resolve false path) (λ walk. by_first dirs to make walk.end walk.trail) (resolve_plain false path)
      (λ walk f. first_path dirs to make each walk.end walk.trail f)

-- any operation passes
abbrev Any : Op → Type 0
Any o = Unit {0}

any_resolved : (o : Op) → Always (ResolvedPasses Any) (resolved o)
any_resolved (op.Create path) = one_path Any false path (λ p. op.Create p) (λ p. tt)
any_resolved (op.Mkdir path) = one_path Any false path (λ p. op.Mkdir p) (λ p. tt)
any_resolved (op.Symlink path target) = one_path Any false path (λ p. op.Symlink p target) (λ p. tt)
any_resolved (op.Link path to) = two_paths Any false path to (λ p q. op.Link p q) (λ p q. tt)
any_resolved (op.Unlink path) = one_path Any false path (λ p. op.Unlink p) (λ p. tt)
any_resolved (op.Rmdir path) = one_path Any false path (λ p. op.Rmdir p) (λ p. tt)
any_resolved (op.Rename [] to) = tt
any_resolved (op.Rename (name ∷ names) []) = tt
any_resolved (op.Rename (name ∷ names) (new ∷ news)) = two_paths Any true (name ∷ names) (new ∷ news) (λ p q. op.Rename p q) (λ p q. tt)
any_resolved (op.Write path off bytes) = one_path Any true path (λ p. op.Write p off bytes) (λ p. tt)
any_resolved (op.Fill path off len byte) = one_path Any true path (λ p. op.Fill p off len byte) (λ p. tt)
any_resolved (op.Truncate path len) = one_path Any true path (λ p. op.Truncate p len) (λ p. tt)
any_resolved (op.Read path off len) = one_path Any true path (λ p. op.Read p off len) (λ p. tt)
any_resolved (op.Stat path) = one_path Any false path (λ p. op.Stat p) (λ p. tt)
any_resolved (op.List path) = one_path Any true path (λ p. op.List p) (λ p. tt)
any_resolved (op.Readlink path) = one_path Any false path (λ p. op.Readlink p) (λ p. tt)
any_resolved (op.Time path) = one_path Any true path (λ p. op.Time p) (λ p. tt)
any_resolved op.Sync = tt
any_resolved op.Mount = tt
any_resolved op.Unmount = tt
any_resolved op.Crash = tt
any_resolved (op.CrashAt k) = tt
any_resolved (op.CutAt k) = tt
any_resolved op.Stall = tt

-- one that changes nothing leads to such
abbrev Looks : Op → Type 0
Looks o = may_change o ≡ false

look_resolved : (o : Op) → may_change o ≡ false → Always (ResolvedPasses Looks) (resolved o)
look_resolved (op.Create path) e = absurd (cc)
look_resolved (op.Mkdir path) e = absurd (cc)
look_resolved (op.Symlink path target) e = absurd (cc)
look_resolved (op.Link path to) e = absurd (cc)
look_resolved (op.Unlink path) e = absurd (cc)
look_resolved (op.Rmdir path) e = absurd (cc)
look_resolved (op.Rename path to) e = absurd (cc)
look_resolved (op.Write path off bytes) e = absurd (cc)
look_resolved (op.Fill path off len byte) e = absurd (cc)
look_resolved (op.Truncate path len) e = absurd (cc)
look_resolved (op.Read path off len) e = one_path Looks true path (λ p. op.Read p off len) (λ p. refl)
look_resolved (op.Stat path) e = one_path Looks false path (λ p. op.Stat p) (λ p. refl)
look_resolved (op.List path) e = one_path Looks true path (λ p. op.List p) (λ p. refl)
look_resolved (op.Readlink path) e = one_path Looks false path (λ p. op.Readlink p) (λ p. refl)
look_resolved (op.Time path) e = one_path Looks true path (λ p. op.Time p) (λ p. refl)
look_resolved op.Sync e = refl
look_resolved op.Mount e = refl
look_resolved op.Unmount e = refl
look_resolved op.Crash e = refl
look_resolved (op.CrashAt k) e = refl
look_resolved (op.CutAt k) e = refl
look_resolved op.Stall e = refl

-- ---- the plan of a line

trail_plain : (trail : List ℕ) (plan : Plan) → SaysPlain plan → SaysPlain (with_trail trail plan)
trail_plain trail Lacks f = tt
trail_plain trail (Clears block locks) f = tt
trail_plain trail (Finishes finish) f = f

trail_looks : (trail : List ℕ) (plan : Plan) → OnlyLooks plan → OnlyLooks (with_trail trail plan)
trail_looks trail Lacks f = tt
trail_looks trail (Clears block locks) f = absurd f
trail_looks trail (Finishes finish) f = f

module _ (h : Hand) (birth when : ℕ) where
  step_plain : (trail : List ℕ) (step : Step) → StepPasses Any step → Always SaysPlain (plan_step h birth when trail step)
  step_plain trail (Goes o) f =
      always_bind SaysPlain SaysPlain (plan_of h birth when o) (λ plan. Got (with_trail trail plan)) (plans_plain h birth when o) (λ plan g. trail_plain trail plan g)
  step_plain trail (Stops r) f = f

  pub line_plain : (o : Op) → Always SaysPlain (plan_of_line h birth when o)
  line_plain o =
      always_bind (ResolvedPasses Any) SaysPlain (resolved o) (λ walked. plan_step h birth when walked.trail walked.step) (any_resolved o) (λ walked f. step_plain walked.trail walked.step f)

  step_looks : (trail : List ℕ) (step : Step) → StepPasses Looks step → Always OnlyLooks (plan_step h birth when trail step)
  step_looks trail (Goes o) f =
      always_bind OnlyLooks OnlyLooks (plan_of h birth when o) (λ plan. Got (with_trail trail plan)) (looks_only h birth when o f) (λ plan g. trail_looks trail plan g)
  step_looks trail (Stops r) f = refl

  pub line_looks : (o : Op) → may_change o ≡ false → Always OnlyLooks (plan_of_line h birth when o)
  line_looks o e =
      always_bind (ResolvedPasses Looks) OnlyLooks (resolved o) (λ walked. plan_step h birth when walked.trail walked.step) (look_resolved o e)
      (λ walked f. step_looks walked.trail walked.step f)
