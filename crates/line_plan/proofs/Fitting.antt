-- Where the target of a new link fits an inode, it fits once the paths of the operation are resolved.
use Rattle.std.proofs.Common.{ℕ, Bool, true, false, List, [], ◌∷◌, subst, sym}
use Rattle.frang_base.specs.declared.op.Op.{Op}
use Rattle.frang_base.specs.declared.op.Op.TheVariants as op
use Rattle.disk_definitions.specs.Held.{Segments}
use Rattle.tree_definitions.specs.Perform.{Resolved}
use Rattle.disk_definitions.specs.Ask.{bind}
use Rattle.disk_definitions.specs.Written.{Cached}
use Rattle.disk_definitions.specs.Resolving.{PathEnd, Leads, Refused, Resolution, resolve}
use Rattle.disk_definitions.specs.Lines.{by_first, by_path, by_second, is_found, over_paths, resolved, step_of}
use Rattle.dir_lookup.specs.Reading.{Read, Lacks, Gives, reading, then_read}
use Rattle.dir_lookup.proofs.Readings.{reading_bind}
use Rattle.line_plan.specs.Lines.{StepFits, TargetFits}

abbrev pub ReadFits : Read Resolved → Type 0
ReadFits (Lacks sector) = Unit {0}
ReadFits (Gives r) = StepFits r.step

module _ (cached : Cached) (held : Segments) where
  end_fits : (make : List (List ℕ) → Op) → ((p : List (List ℕ)) → TargetFits (make p)) → (end : PathEnd) → StepFits (step_of end make)
  end_fits make fits (Leads p kind) = fits p
  end_fits make fits (Refused r) = tt

  walk_fits : (trail : List ℕ) (make : List (List ℕ) → Op) → ((p : List (List ℕ)) → TargetFits (make p)) → (last : Bool) (path : List (List ℕ)) → ReadFits (reading (bind (resolve last path) (by_path trail make)) cached held)
  walk_fits trail make fits last path = subst ReadFits (sym (reading_bind (resolve last path) (by_path trail make) cached held)) (by_read (reading (resolve last path) cached held))
    where
      by_read : (r : Read Resolution) → ReadFits (then_read r (λ walk. reading (by_path trail make walk) cached held))
      by_read (Lacks sector) = tt
      by_read (Gives walk) = end_fits make fits walk.end

  module _ (dirs : Bool) (to : List (List ℕ)) (make : List (List ℕ) → List (List ℕ) → Op) (fits : (p q : List (List ℕ)) → TargetFits (make p q)) where
    second_fits : (found : Bool) (trail : List ℕ) (p : List (List ℕ)) → ReadFits (reading (by_second found trail to (make p)) cached held)
    second_fits true trail p = walk_fits trail (make p) (fits p) false to
    second_fits false trail p = fits p to

    first_fits : (end : PathEnd) (trail : List ℕ) → ReadFits (reading (by_first dirs to make end trail) cached held)
    first_fits (Leads p kind) trail = second_fits (is_found dirs kind) trail p
    first_fits (Refused r) trail = tt

    both_fit : (path : List (List ℕ)) → ReadFits (reading (over_paths dirs path to make) cached held)
    both_fit path = subst ReadFits (sym (reading_bind (resolve false path) (λ walk. by_first dirs to make walk.end walk.trail) cached held)) (by_read (reading (resolve false path) cached held))
      where
        by_read : (r : Read Resolution) → ReadFits (then_read r (λ walk. reading (by_first dirs to make walk.end walk.trail) cached held))
        by_read (Lacks sector) = tt
        by_read (Gives walk) = first_fits walk.end walk.trail

  pub resolved_fits : (operation : Op) → TargetFits operation → ReadFits (reading (resolved operation) cached held)
  resolved_fits (op.Create path) f = walk_fits [] (λ p. op.Create p) (λ p. tt) false path
  resolved_fits (op.Mkdir path) f = walk_fits [] (λ p. op.Mkdir p) (λ p. tt) false path
  resolved_fits (op.Symlink path target) f = walk_fits [] (λ p. op.Symlink p target) (λ p. f) false path
  resolved_fits (op.Link path to) f = both_fit false to (λ p q. op.Link p q) (λ p q. tt) path
  resolved_fits (op.Unlink path) f = walk_fits [] (λ p. op.Unlink p) (λ p. tt) false path
  resolved_fits (op.Rmdir path) f = walk_fits [] (λ p. op.Rmdir p) (λ p. tt) false path
  resolved_fits (op.Rename [] to) f = tt
  resolved_fits (op.Rename (name ∷ names) []) f = tt
  resolved_fits (op.Rename (name ∷ names) (new ∷ news)) f = both_fit true (new ∷ news) (λ p q. op.Rename p q) (λ p q. tt) (name ∷ names)
  resolved_fits (op.Write path off bytes) f = walk_fits [] (λ p. op.Write p off bytes) (λ p. tt) true path
  resolved_fits (op.Fill path off len byte) f = walk_fits [] (λ p. op.Fill p off len byte) (λ p. tt) true path
  resolved_fits (op.Truncate path len) f = walk_fits [] (λ p. op.Truncate p len) (λ p. tt) true path
  resolved_fits (op.Read path off len) f = walk_fits [] (λ p. op.Read p off len) (λ p. tt) true path
  resolved_fits (op.Stat path) f = walk_fits [] (λ p. op.Stat p) (λ p. tt) false path
  resolved_fits (op.List path) f = walk_fits [] (λ p. op.List p) (λ p. tt) true path
  resolved_fits (op.Readlink path) f = walk_fits [] (λ p. op.Readlink p) (λ p. tt) false path
  resolved_fits (op.Time path) f = walk_fits [] (λ p. op.Time p) (λ p. tt) true path
  resolved_fits op.Sync f = tt
  resolved_fits op.Mount f = tt
  resolved_fits op.Unmount f = tt
  resolved_fits op.Crash f = tt
  resolved_fits (op.CrashAt k) f = tt
  resolved_fits (op.CutAt k) f = tt
  resolved_fits op.Stall f = tt
