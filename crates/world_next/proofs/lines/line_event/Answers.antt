-- By the guards of a line, one after the other.
use Rattle.std.proofs.Common.{◌<◌, ℕ, IsTrue, sym, ap, ◌∙◌, subst}
use Rattle.std.proofs.lemmas.Bool.{lt-ltb}
use Rattle.frang_base.specs.declared.limits.TheConstants.{SERVERS}
use Rattle.core_definitions.specs.Cores.{Core}
use Rattle.core_definitions.specs.LineGuards.{CanAgain, CanAnswer, CanAsk, CanClear, CanCommit, is_server, may_begin}
use Rattle.core_laws.proofs.Guarding.{again_can, answer_can, begin_can, commit_can}
use Rattle.world_state.specs.States.{State, core_at}
use Rattle.world_next.specs.Over.{core_over}
use Rattle.world_next.proofs.Lining.{asks_next, clears_next}
use Rattle.world_next.proofs.lines.line_event.Goals as goal

pub returns-then-may_begin : goal.returns-then-may_begin
returns-then-may_begin c = λ tree.
    let asked = c.args.asking.now in
    begin_can (core_over asked.world tree) c.number-a.result.0 (ap (λ (s : State). may_begin (core_at s) c.number-a.result.0) (sym c.world.ensures) ∙ sym c.may_begin.ensures ∙ c.if-may_begin.true)

pub returns-then-may_answer : goal.returns-then-may_answer
returns-then-may_answer c = λ tree.
    let asked = c.args.asking.now in
    let core : Core = core_over asked.world tree in
    subst (CanAnswer core) (sym c.number-a.ensures.number) (answer_can core asked.number (sym c.may_answer.ensures ∙ c.if-may_answer.true))

pub returns-then-may_commit : goal.returns-then-may_commit
returns-then-may_commit c = λ tree.
    let asked = c.args.asking.now in
    let core : Core = core_over asked.world tree in
    subst (CanCommit core) (sym c.number-a.ensures.number) (commit_can core asked.number (sym c.may_commit.ensures ∙ c.if-may_commit.true))

pub returns-then-may_again : goal.returns-then-may_again
returns-then-may_again c = λ tree.
    let asked = c.args.asking.now in
    let core : Core = core_over asked.world tree in
    subst (CanAgain core) (sym c.number-a.ensures.number) (again_can core asked.number (sym c.may_again.ensures ∙ c.if-may_again.true))

pub returns-in-Some : goal.returns-in-Some
returns-in-Some c = λ tree.
    let asked = c.args.asking.now in
    let core : Core = core_over asked.world tree in
    let server : IsTrue (is_server asked.number) = lt-ltb asked.number SERVERS (subst (λ (n : ℕ). n < SERVERS) c.number-a.ensures.number c.number-a.ensures.small) in
    subst (λ (n : ℕ). CanClear core n c.in-Some.block) (sym c.number-a.ensures.number) (clears_next core asked.number c.in-Some.block server (sym c.in-Some.ensures))

pub returns-in-Some-asked_next : goal.returns-in-Some-asked_next
returns-in-Some-asked_next c = λ tree.
    let asked = c.args.asking.now in
    let core : Core = core_over asked.world tree in
    let need = c.in-Some-asked_next in
    let server : IsTrue (is_server asked.number) = lt-ltb asked.number SERVERS (subst (λ (n : ℕ). n < SERVERS) c.number-a.ensures.number c.number-a.ensures.small) in
    subst (λ (n : ℕ). CanAsk core n need.lock need.mode) (sym c.number-a.ensures.number) (asks_next core asked.number need.lock need.mode server (sym need.ensures))
