-- At the first moment without lines what the laws ask is met, and so it is of a server that died.
use Rattle.std.proofs.Common.{ℕ, zero, suc, [], ◌∷◌, arith, refl}
use Rattle.std.proofs.lemmas.Option.{none-some}
use Rattle.frang_base.specs.declared.limits.TheConstants.{ROOT_INODE}
use Rattle.sector_bytes.specs.Blocks.{zero_block}
use Rattle.core_definitions.specs.Events.{Read, Got}
use Rattle.core_definitions.specs.Lines.{Finishing}
use Rattle.core_definitions.specs.Runs.{Event_, Step}
use Rattle.core_definitions.specs.Trees.{inode_sector}
use Rattle.sector_world.proofs.Every.{good_step}
use Rattle.sector_world.specs.Kinds.{Good}
use Rattle.sector_world.specs.Steps.{Run, after, goes, stays}
use Rattle.sector_world.specs.Steps.Event.{Crash, Mount, Tick}
use Rattle.sector_world.specs.World.{World}
use Rattle.core_lives.specs.Examples.{ReadsTheRoot, RootsAreRead, empty_moment, empty_world}
use Rattle.core_log_steps.specs.Examples.{EmptyRunsStand, StaysReplayed, fallen_world, read_moment, ticked}
use Rattle.core_log_steps.specs.Seals.{ReplayedStay}
use Rattle.core_log_steps.specs.Steps.{AreFit, Goes, Stays}
use Rattle.core_log_steps.specs.Worlds.{AlongWorlds, AreBeside, FirstMomentsAreBeside, Goes as Onward, LogsStandBeside, Stays as Here}

none_planned : AreFit empty_moment
none_planned a server outcome redo e f = absurd (none-some (Finishing outcome) e)

pub empty_runs_stand : RootsAreRead → FirstMomentsAreBeside → LogsStandBeside → EmptyRunsStand
empty_runs_stand roots first stand journal = record {
  fit = none_planned;
  named = Goes step none_planned (λ a server. refl) Stays;
  beside = beside;
  leads = x.goes_on.leads;
  along = along;
  beside_then = stand empty_moment read_moment empty_world x.goes_on.leads.world journal journal beside along;
}
  where
    x : ReadsTheRoot journal
    x = roots journal

    step : Step empty_moment read_moment
    step = Event_ (Read (inode_sector ROOT_INODE)) (Got zero_block) x.makes

    beside : AreBeside empty_moment empty_world journal
    beside = first [] [] 1 1 (λ sector. zero_block) empty_world journal refl (λ a slot server low. refl) x.world x.good

    along : AlongWorlds empty_moment empty_world journal read_moment x.goes_on.leads.world journal
    along = Onward step none_planned (λ a server. refl) x.goes_on.leads Here

-- ---- a server that died

good_ticked : (n : ℕ) (w : World) → Good w → Good (ticked n w)
good_ticked zero w g = g
good_ticked (suc n) w g = good_ticked n (after w Tick) (good_step w Tick tt g)

died_good : Good empty_world → Good fallen_world
died_good g =
    good_ticked 31 (after (after empty_world (Mount 0)) (Crash 0))
    (good_step (after empty_world (Mount 0)) (Crash 0) refl (good_step empty_world (Mount 0) (record { off = refl; resting = λ r e. absurd (none-some r e); known = omega arith }) g))

pub fallen_stay : Good empty_world → ReplayedStay → StaysReplayed
fallen_stay g stay = record {
  good = died_good g;
  run = one;
  dead = refl;
  over = omega arith;
  all = λ s. tt;
  all_then = stay fallen_world (after fallen_world Tick) (Tick ∷ []) 0 one (died_good g) refl (omega arith) refl (omega arith) (λ s. tt);
}
  where
    one : Run fallen_world (Tick ∷ []) (after fallen_world Tick)
    one = goes tt stays
