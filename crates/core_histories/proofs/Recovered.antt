-- The line of the create comes to an outcome over the fresh disk, is answered `ok`, and the recovery keeps it.
use Rattle.std.proofs.Common.{ℕ, ◌≡◌, Some, List, [], ◌∷◌, refl, sym, ap, ◌∙◌, arith, lit<}
use Rattle.std.proofs.lemmas.Bool.{false≢true}
use Rattle.frang_base.specs.declared.op.Op.TheVariants as op
use Rattle.frang_base.specs.declared.reply.Reply.{Reply}
use Rattle.frang_base.specs.declared.reply.Reply.TheVariants as reply
use Rattle.tree_definitions.specs.Numbers.{below}
use Rattle.tree_definitions.specs.Resolve.{resolve}
use Rattle.tree_definitions.specs.Tree.{fresh}
use Rattle.disk_definitions.specs.FreshDisk.{fresh_disk}
use Rattle.disk_definitions.specs.Lines.{plan_of_line}
use Rattle.disk_definitions.specs.Plans.{Finish}
use Rattle.disk_definitions.specs.Plans.Plan.{Finishes}
use Rattle.sector_world.specs.Histories.Item.{Done}
use Rattle.sector_world.specs.Plans.{Outcome}
use Rattle.sector_world.specs.Trees.{Answers}
use Rattle.line_histories.specs.LinePlans.{sector_plan, without_bytes}
use Rattle.line_histories.specs.Outcomes.{IsOfAPlan}
use Rattle.line_histories.specs.Standing.{StandsNumbered}
use Rattle.line_histories.specs.Trees.{AreTimes, MayNumber, performed}
use Rattle.line_histories.proofs.Coming.{lines_come}
use Rattle.line_histories.proofs.Outcomes.{outcomes_of_plans}
use Rattle.line_histories.proofs.Runs.{histories_of_one_tree}
use Rattle.stop_laws.specs.Paired.{AreOfOneLine}
use Rattle.stop_laws.specs.Replies.{SaysWhatItShows}
use Rattle.stop_laws.specs.TwoServers.{file_beside}
use Rattle.stop_laws.proofs.Beginning.{fresh_begins}
use Rattle.core_histories.specs.Recovered.{ARecoveryIsTold, crash_happened, crash_setting, crash_time, create_number, creates}
use Rattle.core_histories.specs.Tellings.{entry_of}

abbrev numbers : List ℕ
numbers = create_number ∷ []

begins : StandsNumbered 1 (fresh_disk 1) (record { tree = fresh 1; numbers = numbers })
begins = fresh_begins 1 (omega arith) (omega arith) numbers (omega arith)

new : MayNumber numbers create_number (fresh 1)
new = record { listed = refl; new = refl; small = lit< tt }

one : (o : Outcome) × (sector_plan 1 crash_time (below 1) create_number (op.Create file_beside) (fresh_disk 1) ≡ Some o)
one = lines_come 1 crash_time create_number (op.Create file_beside) (fresh 1) numbers (fresh_disk 1) begins.stands new refl

times : AreTimes crash_time
times n = lit< tt

-- ---- its reply

its_ok : (o : Outcome) → Answers (performed crash_time) (fresh 1) (Done (creates o) ∷ []) → o.reply ≡ reply.Ok
unfolding resolve
its_ok o a = a.0

is_ok : one.0.reply ≡ reply.Ok
is_ok = its_ok one.0 (histories_of_one_tree 1 crash_time (fresh_disk 1) (fresh 1) numbers (Done (creates one.0) ∷ []) times begins (one.1, tt) (new, tt, tt)).answers

ok_from : (r : Reply) → without_bytes r ≡ reply.Ok → r ≡ reply.Ok
ok_from (reply.Shown bytes) e = absurd (cc)
ok_from r e = e

says : SaysWhatItShows 1 crash_time (fresh_disk 1) (creates one.0) (entry_of crash_setting 0 2 (op.Create file_beside) reply.Ok)
says finish is =
    let plan : IsOfAPlan plan_of_line 1 crash_time (below 1) create_number (op.Create file_beside) (fresh_disk 1) one.0 =
    outcomes_of_plans plan_of_line 1 crash_time (below 1) create_number (op.Create file_beside) (fresh_disk 1) one.0 one.1 in
    let same : plan.comes.finish ≡ finish = (let z : Finishes plan.comes.finish ≡ Finishes finish = sym plan.comes.is ∙ is in cc) in
    sym (ok_from finish.reply (ap (λ (x : Finish). without_bytes x.reply) (sym same) ∙ sym (ap (λ (x : Outcome). x.reply) plan.comes.outcome) ∙ is_ok))

one_line : AreOfOneLine crash_time (creates one.0) (entry_of crash_setting 0 2 (op.Create file_beside) reply.Ok)
one_line = record { by = refl; number = refl; time = refl; asked = refl; reply = sym is_ok; no_mount = refl }

-- ---- all of it

pub a_recovery_is_told : ARecoveryIsTold
a_recovery_is_told = (
  one.0,
  record {
    told = record {
      happened = crash_happened one.0;
      sectors = refl;
      lines = refl;
      paired = (
        record {
          legal = (one.1, tt);
          distinct = (new, tt, tt);
          rises = (tt, tt);
          unsynced = ((λ own. omega arith), tt);
          kept_by = record { within = omega arith; records = λ open_. ((λ own low changes. low), (λ mounted. tt)); begins = ((λ own above first. absurd (omega (arith, above))), tt) };
        },
        (refl, refl, (one_line, (refl, tt, tt))),
      );
      said = (says, tt);
      synced = ((λ claims. absurd (false≢true claims)), tt);
    };
    happened = refl;
  },
)
