-- Where a replay changes nothing any more, a look at each sector that is named finds it in place.
use Rattle.std.proofs.Common.{◌≡◌, ◌⊎◌, ℕ, Bool, true, false, if◌then◌else◌, List, [], ◌∷◌, map, Some, None, nat_eq, refl, sym, ap, ◌∙◌, inl, inr}
use Rattle.std.proofs.lemmas.Bool.{eqb-true}
use Rattle.std.specs.List.{flat_map}
use Rattle.frang_base.specs.Functions.{put}
use Rattle.frang_base.specs.declared.change.Change.{Change}
use Rattle.frang_base.specs.declared.change.Redo.{Redo}
use Rattle.frang_base.proofs.Basics.{at_put}
use Rattle.disk_definitions.proofs.Listed.{Among, among_left, among_right}
use Rattle.sector_bytes.specs.Replays.{change_at, redo_all}
use Rattle.sector_world.specs.Guards.{NoneNames, to_replay}
use Rattle.sector_world.specs.Steps.{Event, Run, found, stays, goes}
use Rattle.sector_world.specs.Steps.Event.{Look}
use Rattle.sector_world.specs.World.{World, InPlace, Rescue, Told}
use Rattle.core_recoveries.proofs.Found.{found_same}
use Rattle.core_world.specs.Quiet.{AllQuiet}

-- ---- the sectors that records name

abbrev pub change_sectors : List Change → List ℕ
change_sectors changes = map (λ x. x.sector.0) changes

abbrev pub redo_sectors : List Redo → List ℕ
redo_sectors records = flat_map (λ r. change_sectors r.changes) records

change_or : (changes : List Change) (s : ℕ) → Among s (change_sectors changes) ⊎ (change_at changes s ≡ None)
change_or [] s = inr refl
change_or (x ∷ xs) s = go (nat_eq x.sector.0 s) refl (change_or xs s)
  where
    go : (b : Bool) → nat_eq x.sector.0 s ≡ b → Among s (change_sectors xs) ⊎ (change_at xs s ≡ None) →
        Among s (change_sectors (x ∷ xs)) ⊎ ((if b then Some x else change_at xs s) ≡ None)
    go true e rest = inl (inl (sym (eqb-true x.sector.0 s e)))
    go false e (inl i) = inl (inr i)
    go false e (inr n) = inr n

pub named_or : (records : List Redo) (s : ℕ) → Among s (redo_sectors records) ⊎ NoneNames records s
named_or [] s = inr tt
named_or (r ∷ rs) s = go (change_or r.changes s) (named_or rs s)
  where
    go : Among s (change_sectors r.changes) ⊎ (change_at r.changes s ≡ None) → Among s (redo_sectors rs) ⊎ NoneNames rs s → Among s (redo_sectors (r ∷ rs)) ⊎ NoneNames (r ∷ rs) s
    go (inl i) rest = inl (among_left s (change_sectors r.changes) (redo_sectors rs) i)
    go (inr n) (inl i) = inl (among_right s (change_sectors r.changes) (redo_sectors rs) i)
    go (inr n) (inr m) = inr (n, m)

-- ---- the looks

-- the recovery of this log by this server that has found this
abbrev pub rescue_of : ℕ → ℕ → (ℕ → Told) → Rescue
rescue_of dead by told = record { dead = dead; by = by; told = told }

-- with this recovery
abbrev pub rescued_by : World → Rescue → World
rescued_by w r = record w { rescue = Some r }

pub record Sweeps (sectors : List ℕ) (w : World) (dead by : ℕ) (before : ℕ → Told) : Type 0 where
  pub events : List Event
  pub told : ℕ → Told
  pub run : Run (rescued_by w (rescue_of dead by before)) events (rescued_by w (rescue_of dead by told))
  pub quiet : (segments : ℕ) → AllQuiet segments (rescued_by w (rescue_of dead by before)) events
  pub kept : (s : ℕ) → before s ≡ InPlace → told s ≡ InPlace
  pub all : (s : ℕ) → Among s sectors → told s ≡ InPlace

-- what is found at a sector
abbrev found_at : World → ℕ → ℕ → Told
found_at w dead s = found (w.disk s) (redo_all (to_replay w dead) s (w.disk s))

sweep_one : (s : ℕ) (sectors : List ℕ) (w : World) (dead by : ℕ) (before : ℕ → Told) → redo_all (to_replay w dead) s (w.disk s) ≡ w.disk s →
    Sweeps sectors w dead by (put before s (found_at w dead s)) → Sweeps (s ∷ sectors) w dead by before
sweep_one s sectors w dead by before same x = record {
  events = Look (rescue_of dead by before) s ∷ x.events;
  told = x.told;
  run = goes refl x.run;
  quiet = λ segments. (tt, x.quiet segments);
  kept = λ t e. x.kept t (at_put (λ z. z ≡ InPlace) before s (found_at w dead s) t (λ i. in_place) (λ n. e));
  all = all;
}
  where
    in_place : found_at w dead s ≡ InPlace
    in_place = ap (found (w.disk s)) same ∙ found_same (w.disk s)

    all : (t : ℕ) → Among t (s ∷ sectors) → x.told t ≡ InPlace
    all t (inl i) = x.kept t (at_put (λ z. z ≡ InPlace) before s (found_at w dead s) t (λ j. in_place) (λ n. absurd (n i)))
    all t (inr i) = x.all t i

pub sweeps : (sectors : List ℕ) (w : World) (dead by : ℕ) (before : ℕ → Told) → ((s : ℕ) → redo_all (to_replay w dead) s (w.disk s) ≡ w.disk s) → Sweeps sectors w dead by before
sweeps [] w dead by before same = record { events = []; told = before; run = stays; quiet = λ segments. tt; kept = λ s e. e; all = λ s i. absurd i }
sweeps (s ∷ sectors) w dead by before same = sweep_one s sectors w dead by before (same s) (sweeps sectors w dead by (put before s (found_at w dead s)) same)
