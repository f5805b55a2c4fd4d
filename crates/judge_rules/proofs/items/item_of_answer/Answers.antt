-- The line at the place that was found is the one with the number, and its time stands beside it.
use Rattle.std.proofs.Common.{◌≡◌, ◌<◌, IfOk, length, get_or, ◌∙◌, ap, subst, arith}
use Rattle.std.proofs.lemmas.List.{length-map}
use Rattle.std.proofs.lemmas.Option.{slice_get-get_or}
use Rattle.frang_base.specs.declared.script.Line.{Line}
use Rattle.tree_definitions.specs.Live.{script_time}
use Rattle.judge_rules.specs.Scripts.{items_of}
use Rattle.judge_rules.proofs.Answering.{line_stands}
use Rattle.judge_rules.proofs.items.item_of_answer.Goals as goal

pub search-requires : goal.search-requires
search-requires c = c.requires.script.ascend

pub bounds-times-place : goal.bounds-times-place
bounds-times-place c =
    let script = c.args.script.now in
    let count = ap length c.requires.times ∙ length-map script (λ (l : Line). script_time script l.number) in
    omega (arith, c.in-Ok.ensures.within, count)

pub bounds-script-place : goal.bounds-script-place
bounds-script-place c = omega (arith, c.in-Ok.ensures.within)

pub item_of_what-requires : goal.item_of_what-requires
item_of_what-requires c =
    let script = c.args.script.now in
    let times = c.args.times.now in
    let place = c.in-Ok.place in
    let l = get_or script place c.index-script-place.result in
    let count = ap length c.requires.times ∙ length-map script (λ (k : Line). script_time script k.number) in
    let within : place < length times = omega (arith, c.in-Ok.ensures.within, count) in
    let stands = line_stands script times c.args.number place (get_or times place 0) l c.requires.script c.requires.times c.in-Ok.ensures
    (slice_get-get_or script place c.index-script-place.result c.in-Ok.ensures.within) (slice_get-get_or times place 0 within) in
    record { few = stands.few; within = stands.within }

pub returns-in-Ok-clause-is : goal.returns-in-Ok-clause-is
returns-in-Ok-clause-is c =
    let script = c.args.script.now in
    let times = c.args.times.now in
    let place = c.in-Ok.place in
    let l = get_or script place c.index-script-place.result in
    let count = ap length c.requires.times ∙ length-map script (λ (k : Line). script_time script k.number) in
    let within : place < length times = omega (arith, c.in-Ok.ensures.within, count) in
    let stands = line_stands script times c.args.number place (get_or times place 0) l c.requires.script c.requires.times c.in-Ok.ensures
    (slice_get-get_or script place c.index-script-place.result c.in-Ok.ensures.within) (slice_get-get_or times place 0 within) in
    subst (λ items. IfOk c.item_of_what.result (λ item. items_of item ≡ items)) (stands.adds c.args.server c.args.reply.now) c.item_of_what.ensures.is
