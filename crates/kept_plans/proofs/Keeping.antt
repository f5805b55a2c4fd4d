-- A kept plan stays while the line under way and what it may use of the cache stay.
use Rattle.std.proofs.Common.{◌≡◌, ℕ, Bool, true, false, if◌then◌else◌, Option, Some, None, [], ◌∷◌, refl, sym, ap, subst}
use Rattle.std.specs.BTreeMap.{is_at}
use Rattle.std.specs.List.{cons_option}
use Rattle.std.specs.Ordering.{nat_cmp}
use Rattle.frang_base.specs.declared.op.Op.{Op}
use Rattle.sector_bytes.specs.Blocks.{Block}
use Rattle.cache_definitions.specs.Caches.{Cache, CachedSector, cleaned, without_dirt}
use Rattle.disk_definitions.specs.Written.{Cached}
use Rattle.set_definitions.specs.Sets.{LockSet, has_lock}
use Rattle.set_definitions.specs.Usable.{usable}
use Rattle.core_definitions.specs.Flights.{Purpose, InPlace, OfLog, OfRecovery}
use Rattle.core_definitions.specs.Lines.{Under, operation_of}
use Rattle.core_definitions.specs.Servers.{Server}
use Rattle.core_definitions.specs.Settings.{Setting}
use Rattle.core_definitions.specs.WriteEffects.{acknowledged, clean_now}
use Rattle.core_definitions.specs.Writes.{comes_clean}
use Rattle.kept_plans.specs.declared.kept.KeptPlan.{KeptPlan}
use Rattle.kept_plans.specs.Bases.{Basis, basis_of}
use Rattle.kept_plans.specs.Kept.{IsKeptBeside, IsPlanBy, IsPlanOn, IsPlanUnder}
use Rattle.kept_plans.specs.Keeping.{SameBeside}

-- ---- the usable sectors stay when a sector comes clean

used_of : LockSet → ℕ × CachedSector → Option (ℕ × Block)
used_of set entry = if has_lock set entry.1.cover then Some (entry.0, entry.1.block) else None

pub usable_cleaned : (set : LockSet) (cache : Cache) (sector : ℕ) → usable set (cleaned cache sector) ≡ usable set cache
usable_cleaned set [] sector = refl
usable_cleaned set (entry ∷ cache) sector = go (is_at (nat_cmp sector) entry.0) (usable_cleaned set cache sector)
  where
    go : (t : Bool) → usable set (cleaned cache sector) ≡ usable set cache
        → usable set (if t then (entry.0, without_dirt entry.1) ∷ cache else entry ∷ cleaned cache sector) ≡ usable set (entry ∷ cache)
    go true rest = refl
    go false rest = ap (λ xs. cons_option (if has_lock set entry.1.cover then Some (entry.0, entry.1.block) else None) xs) rest

-- ---- the plan stays

by_same : (setting : Setting) (under : Under) (o : Option Op) (old new : Cache) (plan : KeptPlan) → usable under.set new ≡ usable under.set old → IsPlanBy setting under o old plan → IsPlanBy setting under o new plan
by_same setting under None old new plan same is = tt
by_same setting under (Some operation) old new plan same is =
    let basis : Cached → Basis = λ cached. record (basis_of setting under operation old) { cached = cached } in
    subst (λ c. IsPlanOn (basis c) plan) (sym same) is

under_same : (setting : Setting) (o : Option Under) (old new : Cache) (plan : KeptPlan) → ((set : LockSet) → usable set new ≡ usable set old) → IsPlanUnder setting o old plan → IsPlanUnder setting o new plan
under_same setting None old new plan same is = tt
under_same setting (Some under) old new plan same is = by_same setting under (operation_of under.line.what) old new plan (same under.set) is

pub beside_same : (setting : Setting) (old new : Server) (plan : Option KeptPlan) → SameBeside old new → IsKeptBeside setting old plan → IsKeptBeside setting new plan
beside_same setting old new None same is = is
beside_same setting old new (Some plan) same is =
    subst (λ u. IsPlanUnder setting u new.cache plan) (sym same.under) (under_same setting old.under old.cache new.cache plan same.usable is)

pub nothing_changes : (server : Server) → SameBeside server server
nothing_changes server = record { under = refl; usable = λ set. refl }

-- when a write of the server is acknowledged
pub acknowledged_same : (sector : ℕ) (block : Block) (purpose : Purpose) (server : Server) → SameBeside server (acknowledged sector block purpose server)
acknowledged_same sector block (OfLog number) server = record { under = refl; usable = λ set. refl }
acknowledged_same sector block OfRecovery server = record { under = refl; usable = λ set. refl }
acknowledged_same sector block (InPlace cover) server = go (comes_clean server sector block)
  where
    go : (t : Bool) → SameBeside server (if t then clean_now sector server else server)
    go true = record { under = refl; usable = λ set. usable_cleaned set server.cache sector }
    go false = nothing_changes server
