-- A fresh world is at rest, and the end of the run meets what is asked of servers that count as mounted.
use Rattle.std.proofs.Common.{ℕ, zero, suc, ◌≡◌, ◌<◌, Bool, true, false, List, [], ◌∷◌, refl, subst, arith, lit<, ltb-true}
use Rattle.std.specs.Option.{unwrap_or}
use Rattle.std.proofs.lemmas.Bool.{lt-ltb}
use Rattle.frang_base.specs.declared.lock.LockId.{LockId}
use Rattle.frang_base.specs.declared.lock.LockId.TheVariants.{Segment}
use Rattle.tree_definitions.specs.Tree.{fresh}
use Rattle.disk_definitions.specs.Regions.{region_of}
use Rattle.disk_definitions.specs.FreshDisk.{fresh_disk}
use Rattle.sector_world.specs.Steps.{Event, Run, after, stays, goes}
use Rattle.sector_world.specs.World.{World}
use Rattle.sector_world.specs.World.Phase.{Off}
use Rattle.sector_world.proofs.Every.{good_start}
use Rattle.line_histories.specs.Trees.{AreTimes}
use Rattle.stop_laws.specs.Beginning.{Begins, fresh_cover, fresh_world, has_version_at_first}
use Rattle.stop_laws.specs.Happened.{settle}
use Rattle.stop_laws.specs.LinesStop.{is_on}
use Rattle.stop_laws.specs.Paired.{IsKeptBy}
use Rattle.stop_laws.specs.TwoServers.{at_zero, number_of_line}
use Rattle.stop_laws.proofs.Beginning.{fresh_worlds_begin}
use Rattle.stop_laws.proofs.Events.{starts_in_sight}
use Rattle.stop_laws.proofs.Root.{fresh_known}
use Rattle.stop_examples.specs.Looks.{MeetsAll, events, happened, none_recorded, numbers}
use Rattle.stop_examples.proofs.Going.{end, run}
use Rattle.stop_examples.proofs.Meets.{a_run_meets_all}
use Rattle.rest_laws.specs.Done.{AreLinesOf}
use Rattle.rest_examples.specs.Servers.{FreshWorldsRest, RunsMeetRest, both}

-- ---- before anything happened

abbrev versions : ℕ → Bool
versions number = has_version_at_first (region_of 1 number)

abbrev home : ℕ → LockId
home number = unwrap_or (fresh_cover 1 number) (Segment 0)

begins : Begins 1 numbers (fresh_world 2 1)
begins = fresh_worlds_begin 2 1 numbers (omega arith) (omega arith) (omega arith)

times : AreTimes at_zero
times n = lit< tt

pub fresh_rests : FreshWorldsRest
fresh_rests = record {
  lines = record {
    times = times;
    stands = begins.stands;
    legal = record { live = tt; left = tt };
    distinct = tt;
    good = good_start 2 (fresh_disk 1) versions (λ number. false) home;
    follows = begins.follows;
    parameters = begins.parameters;
    told = refl;
    paired = tt;
    sight = starts_in_sight 2 (fresh_disk 1) versions (λ number. false) home;
    said = tt;
    synced = tt;
    known = fresh_known 1 (fresh_world 2 1).opening (fresh_world 2 1).logged (fresh_world 2 1).first;
  };
  off = λ server. refl;
  alive = λ server is. absurd (cc);
  quiet = record { alive = λ server is. absurd (cc); clean = λ a s. tt; clean_bytes = λ a s. tt };
}

-- ---- at the end of the run

abbrev met : MeetsAll 1 at_zero (fresh 1) numbers a_run_meets_all.0 none_recorded happened
met = a_run_meets_all.1.meets

lines_there : AreLinesOf 1 at_zero (fresh 1) numbers a_run_meets_all.0 happened
lines_there = record {
  times = met.times;
  stands = met.stands;
  legal = met.legal;
  distinct = met.distinct;
  good = met.good;
  follows = met.follows;
  parameters = met.parameters;
  told = met.told;
  paired = met.paired;
  sight = met.sight;
  said = met.said;
  synced = met.synced;
  known = met.knows;
}

-- the same events lead to the same world
one_end : (w : World) (es : List Event) (u v : World) → Run w es u → Run w es v → u ≡ v
one_end w [] u v stays stays = refl
one_end w (e ∷ es) u v (goes can r) (goes can2 r2) = one_end (after w e) es u v r r2

lines : AreLinesOf 1 at_zero (fresh 1) numbers end happened
lines = subst (λ w. AreLinesOf 1 at_zero (fresh 1) numbers w happened) (one_end (fresh_world 2 1) events a_run_meets_all.0 end a_run_meets_all.1.run run) lines_there

-- no operation of the run changes anything, so no log lacks a record
first_kept : IsKeptBy 0 0 (number_of_line 6) (settle (fresh 1) happened)
first_kept = record {
  within = omega arith;
  records = ((λ own low some. absurd (some refl)), ((λ own low some. absurd (some refl)), λ more. ((λ own low some. absurd (some refl)), λ more2. λ more3. tt)));
  begins = ((λ own above low. absurd (omega arith)), ((λ own above low. absurd (cc)), ((λ own above low. absurd (omega arith)), tt)));
}

second_kept : IsKeptBy 1 0 (number_of_line 5) (settle (fresh 1) happened)
second_kept = record {
  within = omega arith;
  records = ((λ own low some. absurd (some refl)), ((λ own low some. absurd (some refl)), λ more. ((λ own low some. absurd (some refl)), λ more2. λ more3. tt)));
  begins = ((λ own above low. absurd (cc)), ((λ own above low. absurd (omega arith)), ((λ own above low. absurd (cc)), tt)));
}

abbrev KeptAt : World → ℕ → Type 0
KeptAt w server = IsKeptBy server (none_recorded server) (w.durable server) (settle (fresh 1) happened)

first_there : KeptAt end 0
unfolding end
first_there = first_kept

second_there : KeptAt end 1
unfolding end
second_there = second_kept

two : end.servers ≡ 2
unfolding end
two = refl

closed : end.phase 0 ≡ Off
unfolding end
closed = refl

logs : (server : ℕ) → both server ≡ true → KeptAt end server
logs zero is = first_there
logs (suc zero) is = second_there
logs (suc (suc server)) is = absurd (let low : suc (suc server) < 2 = ltb-true (suc (suc server)) 2 is in omega arith)

active : (server : ℕ) → server < end.servers → is_on (end.phase server) ≡ true → both server ≡ true
active server low on = lt-ltb server 2 (let same : end.servers ≡ 2 = two in omega arith)

pub run_meets : RunsMeetRest
run_meets = (end, record { run = run; lines = lines; off = closed; mounted = record { active = active; logs = logs } })
