-- A replay of what is read and made goes on from its beginning.
use Rattle.std.proofs.Common.{List, sym, ap, ◌∙◌, subst, arith}
use Rattle.frang_base.specs.declared.change.Redo.{Redo}
use Rattle.frang_base.specs.Functions.{member}
use Rattle.disk_definitions.specs.Logs.{greatest_operation}
use Rattle.recovery_demon.specs.Rules.{named}
use Rattle.recovery_demon.specs.Replays.{IsKept, IsNearly}
use Rattle.recovery_demon.proofs.Beginning.{begun_nearly, first_state}
use Rattle.recovery_demon.proofs.GoingOn.{advanced_kept}
use Rattle.recovery_demon.proofs.Parts.{gone}
use Rattle.recovery_demon.proofs.replay.Replay.new.Goals as goal

pub invariant_of-result : goal.invariant_of-result
invariant_of-result c =
    let log = c.in_ok-log.log in
    let seals = c.in_ok-seals.seals in
    let looks = c.in_ok-looks.looks.entries in
    let course = c.advance.new.course in
    let b = first_state c.args.dead.0 c.args.segments log.records.items c.greatest_operation.result.0 log.end log.is_sealed looks seals.later.entries seals.first.entries in
    let r = record b { looked = c.new-2.result.entries; waiting = c.new.result.entries; flying = c.new-flying.result.entries; written = c.new-3.result.items } in
    let made = begun_nearly c.args.dead.0 c.args.segments log.records.items c.greatest_operation.result.0 log.end log.is_sealed looks seals.later.entries seals.first.entries (record {
      few = c.requires;
      server = omega (arith, c.number_of.ensures.is, c.number_of.ensures.few);
      holds = c.in_ok-log.ensures.holds;
      most = c.greatest_operation.ensures ∙ ap greatest_operation c.deref-2.ensures.value;
      looks_ascend = c.in_ok-looks.ensures.ascend;
      later_ascend = c.in_ok-seals.ensures.later_ascend;
      first_ascend = c.in_ok-seals.ensures.first_ascend;
      named_ones = λ sector. c.in_ok-looks.ensures.named sector ∙ ap (λ (records : List Redo). member sector (named c.args.segments records)) c.deref.ensures.value;
      later_ones = λ unsealed. c.in_ok-seals.ensures.later unsealed;
      first_one = λ unsealed. c.in_ok-seals.ensures.first unsealed;
    }) in
    let nearly : IsNearly r = subst IsNearly (λ i. record b { looked = sym c.new-2.ensures.entries i; waiting = sym c.new.ensures.entries i; flying = sym c.new-flying.ensures.entries i; written = sym c.new-3.ensures.items i }) made in
    subst IsKept (sym (gone r course.stage course.waiting.entries course.later.entries course.first.entries
    (record { stage = c.advance.ensures.stage; waiting = c.advance.ensures.waiting; later = c.advance.ensures.later; first = c.advance.ensures.first }))) (advanced_kept r nearly)

pub returns-clause-kept : goal.returns-clause-kept
returns-clause-kept c =
    let log = c.in_ok-log.log in
    let seals = c.in_ok-seals.seals in
    let looks = c.in_ok-looks.looks.entries in
    let course = c.advance.new.course in
    let b = first_state c.args.dead.0 c.args.segments log.records.items c.greatest_operation.result.0 log.end log.is_sealed looks seals.later.entries seals.first.entries in
    let r = record b { looked = c.new-2.result.entries; waiting = c.new.result.entries; flying = c.new-flying.result.entries; written = c.new-3.result.items } in
    let made = begun_nearly c.args.dead.0 c.args.segments log.records.items c.greatest_operation.result.0 log.end log.is_sealed looks seals.later.entries seals.first.entries (record {
      few = c.requires;
      server = omega (arith, c.number_of.ensures.is, c.number_of.ensures.few);
      holds = c.in_ok-log.ensures.holds;
      most = c.greatest_operation.ensures ∙ ap greatest_operation c.deref-2.ensures.value;
      looks_ascend = c.in_ok-looks.ensures.ascend;
      later_ascend = c.in_ok-seals.ensures.later_ascend;
      first_ascend = c.in_ok-seals.ensures.first_ascend;
      named_ones = λ sector. c.in_ok-looks.ensures.named sector ∙ ap (λ (records : List Redo). member sector (named c.args.segments records)) c.deref.ensures.value;
      later_ones = λ unsealed. c.in_ok-seals.ensures.later unsealed;
      first_one = λ unsealed. c.in_ok-seals.ensures.first unsealed;
    }) in
    let nearly : IsNearly r = subst IsNearly (λ i. record b { looked = sym c.new-2.ensures.entries i; waiting = sym c.new.ensures.entries i; flying = sym c.new-flying.ensures.entries i; written = sym c.new-3.ensures.items i }) made in
    subst IsKept (sym (gone r course.stage course.waiting.entries course.later.entries course.first.entries
    (record { stage = c.advance.ensures.stage; waiting = c.advance.ensures.waiting; later = c.advance.ensures.later; first = c.advance.ensures.first }))) (advanced_kept r nearly)
