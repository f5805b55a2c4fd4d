-- Where two lines have one number, it is answered twice: two servers that aren't mounted begin a `sync` each, and answer it.
use Rattle.std.proofs.Common.{ℕ, inl, not, [], ◌∷◌, IsTrue, refl}
use Rattle.frang_base.specs.declared.op.Op.TheVariants as op
use Rattle.frang_base.specs.declared.op.What.TheVariants.{Server}
use Rattle.frang_base.specs.declared.script.Line.{Line}
use Rattle.sector_bytes.specs.Sectors.{Sectors}
use Rattle.core_definitions.specs.Settings.{Setting, setting_of}
use Rattle.core_definitions.specs.Events.{Begin, Answer, Nothing}
use Rattle.core_definitions.specs.Guards.{Can}
use Rattle.core_definitions.specs.LineGuards.{CanAnswer, CanBegin}
use Rattle.core_definitions.specs.Runs.{State, Event_, Enter, Run, Stays, Goes, entered, first_state, next}
use Rattle.core_laws.specs.Laws.{AreOnce}
use Rattle.core_laws.proofs.Membership.{in_contains}
use Rattle.core_transcripts.specs.Answers.{answered_lines, answers_in}

abbrev line_at : ℕ → Line
line_at server = record { number = 1; who = record { 0 = server }; what = Server op.Sync }

abbrev two_lines : Setting
two_lines = setting_of (line_at 0 ∷ line_at 1 ∷ []) 1 1

abbrev zeros : Sectors
zeros sector = []

-- the line passes the gate, both begin, and both answer
abbrev at_gate : State
at_gate = entered (first_state two_lines zeros) 1

abbrev begun_once : State
begun_once = next at_gate (Begin 0) Nothing

abbrev begun_twice : State
begun_twice = next begun_once (Begin 1) Nothing

abbrev answered_first : State
answered_first = next begun_twice (Answer 0) Nothing

abbrev answered_both : State
answered_both = next answered_first (Answer 1) Nothing

can_begin : (s : State) (a : ℕ) → IsTrue (not s.core.over) → CanBegin s.core a → Can s.core (Begin a)
can_begin s a going can = record { going = going; can = can }

can_answer : (s : State) (a : ℕ) → IsTrue (not s.core.over) → CanAnswer s.core a → Can s.core (Answer a)
can_answer s a going can = record { going = going; can = can }

twice : Run (first_state two_lines zeros) answered_both
twice =
    Goes (Enter 0 (line_at 0) (record { going = refl; server = refl; next = refl; waits = refl }))
    (Goes (Event_ (Begin 0) Nothing (record { can = can_begin at_gate 0 refl (record { server = refl; next = refl; idle = refl; hosts = refl; phase = refl; passed = refl; free = refl }); hears = refl }))
    (Goes (Event_ (Begin 1) Nothing (record { can = can_begin begun_once 1 refl (record { server = refl; next = refl; idle = refl; hosts = refl; phase = refl; passed = refl; free = refl }); hears = refl }))
    (Goes (Event_ (Answer 0) Nothing (record { can = can_answer begun_twice 0 refl (record { server = refl; due = refl }); hears = refl }))
    (Goes (Event_ (Answer 1) Nothing (record { can = can_answer answered_first 1 refl (record { server = refl; due = refl }); hears = refl }))
    Stays))))

not_once : AreOnce (answered_lines (answers_in answered_both.record_)) → ⊥
not_once once = once.0 (in_contains (1 ∷ []) 1 (inl refl))

pub needed : ((setting : Setting) (disk : Sectors) (s : State) → Run (first_state setting disk) s → AreOnce (answered_lines (answers_in s.record_))) → ⊥
needed once = not_once (once two_lines zeros answered_both twice)
