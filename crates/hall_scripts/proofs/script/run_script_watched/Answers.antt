-- The world of the script is the first core of its setting, and is run from the opening.
use Rattle.std.proofs.Common.{◌≡◌, ◌∙◌, ◌≤◌, refl, sym, ap₂, subst}
use Rattle.frang_base.specs.declared.limits.TheConstants.{SEGMENTS_MAX}
use Rattle.core_definitions.specs.Cores.{first_core}
use Rattle.core_definitions.specs.Settings.{setting_of}
use Rattle.hall_world.specs.States.{core_of}
use Rattle.hall_scripts.specs.Runs.{AtFirst, Untouched, beginning_of}
use Rattle.hall_scripts.proofs.WatchedResults.{watched_leaves}
use Rattle.hall_scripts.proofs.Starting.{begins, few, has_setting}
use Rattle.hall_scripts.proofs.script.run_script_watched.Goals as goal

pub new-requires-clause-disk : goal.new-requires-clause-disk
new-requires-clause-disk g c = subst (λ n. n ≤ SEGMENTS_MAX) (sym c.segments.ensures) (few c.args.disk c.requires.disk)

pub watch_from-requires-clause-first : goal.watch_from-requires-clause-first
watch_from-requires-clause-first g c =
    let made = c.in-Ok.machine.world in
    λ lives outlives sectors. begins (core_of made) (setting_of c.args.script c.segments.result c.run.result) c.in-Ok.ensures

pub returns-in-Ok-clause-ends : goal.returns-in-Ok-clause-ends
returns-in-Ok-clause-ends g c =
    let from = beginning_of c.args.disk in
    let made = c.in-Ok.machine.world in
    let is : core_of made ≡ first_core (setting_of c.args.script from.segments from.run) =
    c.in-Ok.ensures ∙ ap₂ (λ segments run. first_core (setting_of c.args.script segments run)) c.segments.ensures c.run.ensures in
    c.watch_from.ensures c.args.script (has_setting (core_of made) (setting_of c.args.script from.segments from.run) is)

pub returns-in-Ok-clause-leaves : goal.returns-in-Ok-clause-leaves
returns-in-Ok-clause-leaves g c =
    watched_leaves c.args.script (beginning_of c.args.disk) (g.O.Outside.state c.args.out) c.args.reads (g.O.Outside.state c.watch_from.result.1) c.watch_from.result.0 (returns-in-Ok-clause-ends g c)

pub returns-in-Err-clause-ends : goal.returns-in-Err-clause-ends
returns-in-Err-clause-ends g c = AtFirst refl

pub returns-in-Err-clause-leaves : goal.returns-in-Err-clause-leaves
returns-in-Err-clause-leaves g c = Untouched refl
