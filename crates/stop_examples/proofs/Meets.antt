-- What the run leads to meets all that is asked.
use Rattle.std.proofs.Common.{ℕ, ◌≢◌, Bool, false, List, [], ◌∷◌, refl, sym, subst, arith, lit<}
use Rattle.std.specs.Option.{unwrap_or}
use Rattle.std.proofs.lemmas.Bool.{eqb-false}
use Rattle.frang_base.specs.Functions.{put}
use Rattle.frang_base.proofs.Basics.{at_put}
use Rattle.frang_base.specs.declared.lock.LockId.{LockId}
use Rattle.frang_base.specs.declared.lock.LockId.TheVariants.{Segment}
use Rattle.frang_base.specs.declared.op.Op.TheVariants as op
use Rattle.frang_base.specs.declared.reply.Reply.TheVariants as reply
use Rattle.tree_definitions.specs.Tree.{fresh}
use Rattle.disk_definitions.specs.Regions.{region_of}
use Rattle.disk_definitions.specs.FreshDisk.{fresh_disk}
use Rattle.sector_world.specs.Histories.{settled}
use Rattle.sector_world.specs.Kinds.{Good}
use Rattle.sector_world.specs.Planned.{IsLegal}
use Rattle.sector_world.specs.Steps.{Event, Run, after, stays, goes}
use Rattle.sector_world.specs.Trees.{Distinct}
use Rattle.sector_world.specs.World.{World, Phase}
use Rattle.sector_world.specs.World.Phase.{Off, Up, Dead}
use Rattle.sector_world.proofs.Every.{good_start, good_step}
use Rattle.line_histories.specs.LinePlans.{sector_plan}
use Rattle.line_histories.specs.Trees.{AreTimes, MayNumber}
use Rattle.stop_laws.specs.Beginning.{Begins, fresh_cover, fresh_world, has_version_at_first}
use Rattle.stop_laws.specs.Events.{IsInSight}
use Rattle.stop_laws.specs.Happened.{on_sectors, settle}
use Rattle.stop_laws.specs.Paired.{AreOfOneLine, ArePaired, IsKeptBy, MayRecover}
use Rattle.stop_laws.specs.Replies.{SaidWhereItHappened}
use Rattle.stop_laws.specs.Synced.{AllSaidAtOnce}
use Rattle.stop_laws.specs.TwoServers.{at_zero, number_of_line}
use Rattle.stop_laws.proofs.Beginning.{fresh_worlds_begin}
use Rattle.stop_laws.proofs.Events.{events_keep_sight, starts_in_sight}
use Rattle.stop_laws.proofs.Left.{the_disk_stands}
use Rattle.stop_laws.proofs.Root.{fresh_known}
use Rattle.stop_examples.specs.Looks.{ARunMeetsAll, MeetsAll, before, events, happened, look, none_recorded, numbers, said}
use Rattle.stop_examples.proofs.Going.{end, run}
use Rattle.stop_examples.proofs.Planned.{plan_is, says}

-- ---- what every event keeps

record Stands (w : World) : Type 0 where
  good : Good w
  sight : IsInSight w

along : (w : World) (es : List Event) (v : World) → Run w es v → Stands w → Stands v
along w [] v stays s = s
along w (e ∷ es) v (goes can r) s = along (after w e) es v r (record { good = good_step w e can s.good; sight = events_keep_sight w e can s.good s.sight })

abbrev versions : ℕ → Bool
versions number = has_version_at_first (region_of 1 number)

abbrev home : ℕ → LockId
home number = unwrap_or (fresh_cover 1 number) (Segment 0)

at_end : Stands end
at_end =
    along (fresh_world 2 1) events end run
    (record { good = good_start 2 (fresh_disk 1) versions (λ number. false) home; sight = starts_in_sight 2 (fresh_disk 1) versions (λ number. false) home })

-- ---- where it began

begins : Begins 1 numbers (fresh_world 2 1)
begins = fresh_worlds_begin 2 1 numbers (omega arith) (omega arith) (omega arith)

times : AreTimes at_zero
times n = lit< tt

-- ---- the operations

legal : IsLegal (sector_plan 1 at_zero) end
unfolding end
legal = record { live = (plan_is 6 0, (plan_is 5 1, (plan_is 3 0, tt))); left = (plan_is 6 0, (plan_is 5 1, (plan_is 3 0, tt))) }

may_three : MayNumber numbers (number_of_line 3) (fresh 1)
may_three = record { listed = refl; new = refl; small = lit< tt }

may_five : MayNumber numbers (number_of_line 5) (fresh 1)
may_five = record { listed = refl; new = refl; small = lit< tt }

may_six : MayNumber numbers (number_of_line 6) (fresh 1)
may_six = record { listed = refl; new = refl; small = lit< tt }

distinct : Distinct (MayNumber numbers) (fresh 1) (settled (on_sectors happened))
distinct = (
  may_six,
  (eqb-false (number_of_line 5) (number_of_line 6) refl, (eqb-false (number_of_line 3) (number_of_line 6) refl, tt)),
  (may_five, (eqb-false (number_of_line 3) (number_of_line 5) refl, tt), (may_three, tt, tt)),
)

one_line : (server line : ℕ) → AreOfOneLine at_zero (look server line) (said server line (op.Stat []) (reply.Dir 0))
one_line server line = record { by = refl; number = refl; time = refl; asked = refl; reply = refl; no_mount = refl }

-- ---- the recovery, and the server that is up

first_kept : IsKeptBy 0 0 (number_of_line 6) (settle (fresh 1) before)
first_kept = record {
  within = omega arith;
  records = ((λ own low some. absurd (some refl)), ((λ own low some. absurd (some refl)), λ more. ((λ own low some. absurd (some refl)), λ more2. λ more3. tt)));
  begins = ((λ own above low. absurd (omega arith)), ((λ own above low. absurd (cc)), ((λ own above low. absurd (omega arith)), tt)));
}

second_kept : IsKeptBy 1 0 (number_of_line 5) (settle (fresh 1) happened)
second_kept = record {
  within = omega arith;
  records = ((λ own low some. absurd (some refl)), ((λ own low some. absurd (some refl)), λ more. ((λ own low some. absurd (some refl)), λ more2. λ more3. tt)));
  begins = ((λ own above low. absurd (cc)), ((λ own above low. absurd (omega arith)), ((λ own above low. absurd (cc)), tt)));
}

may_recover : MayRecover 1 at_zero (fresh_world 2 1).opening (fresh 1) numbers 0 0 (number_of_line 6) before
may_recover = record {
  legal = (plan_is 6 0, (plan_is 5 1, (plan_is 3 0, tt)));
  distinct = distinct;
  rises = (((λ same. absurd (cc)), ((λ same. omega arith), tt)), (((λ same. absurd (cc)), tt), (tt, tt)));
  unsynced = ((λ same. omega arith), ((λ same. omega arith), ((λ same. omega arith), tt)));
  kept_by = first_kept;
}

paired : ArePaired 1 at_zero (fresh_world 2 1).opening (fresh 1) numbers happened
paired = (may_recover, (one_line 0 6, (one_line 1 5, (refl, refl, (one_line 0 3, (refl, tt, (refl, tt, tt)))))))

abbrev phases_one : ℕ → Phase
phases_one = put (λ a. Off) 0 Up

abbrev phases_two : ℕ → Phase
phases_two = put phases_one 1 Up

abbrev phases_dead : ℕ → Phase
phases_dead = put phases_two 0 Dead

abbrev KeptAt : ℕ → Type 0
KeptAt server = IsKeptBy server (none_recorded server) (end.durable server) (settle (fresh 1) happened)

second_there : KeptAt 1
unfolding end
second_there = second_kept

-- only server 1 isn't off
logs : (server : ℕ) → put phases_dead 0 Off server ≢ Off → KeptAt server
logs server =
    at_put (λ p. p ≢ Off → KeptAt server) phases_dead 0 Off server (λ same on. absurd (on refl))
    (λ far. at_put (λ p. p ≢ Off → KeptAt server) phases_two 0 Dead server (λ same. absurd (far same))
    (λ far2. at_put (λ p. p ≢ Off → KeptAt server) phases_one 1 Up server (λ same on. subst KeptAt (sym same) second_there)
    (λ far3. at_put (λ p. p ≢ Off → KeptAt server) (λ a. Off) 0 Up server (λ same. absurd (far same)) (λ far4 on. absurd (on refl)))))

logs_now : (server : ℕ) → end.phase server ≢ Off → KeptAt server
unfolding end
logs_now = logs

-- ---- what was said

said_here : SaidWhereItHappened 1 at_zero (fresh_world 2 1).opening happened
said_here = ((λ finish is. says 6 finish is), ((λ finish is. says 5 finish is), ((λ finish is. says 3 finish is), tt)))

synced_here : AllSaidAtOnce happened
synced_here = ((λ says. ((λ by. omega arith), tt)), tt)

-- ---- all of it

meets : MeetsAll 1 at_zero (fresh 1) numbers end none_recorded happened
unfolding end
meets = record {
  times = times;
  stands = begins.stands;
  legal = legal;
  distinct = distinct;
  good = at_end.good;
  follows = begins.follows;
  parameters = begins.parameters;
  told = refl;
  paired = paired;
  logs = logs_now;
  sight = at_end.sight;
  said = said_here;
  synced = synced_here;
  knows = fresh_known 1 end.opening end.logged end.first;
}

pub a_run_meets_all : ARunMeetsAll
a_run_meets_all = (
  end,
  record {
    run = run;
    meets = meets;
    stands = the_disk_stands 1 at_zero (fresh 1) numbers end none_recorded happened meets.times meets.stands meets.legal meets.distinct meets.good meets.follows meets.parameters meets.told
        meets.paired meets.logs meets.sight meets.said meets.synced meets.knows;
  },
)
