-- No server has a line, nothing flies, and the one event is the host's line.
use Rattle.std.proofs.Common.{codes, lit<, ◌≡◌, ℕ, ◌==◌, Bool, true, false, List, [], ◌∷◌, None, refl, sym, ap, ◌∙◌, arith}
use Rattle.std.specs.Fmt.{decimal}
use Rattle.std.proofs.lemmas.Fmt.{decimal-digits_of}
use Rattle.core_definitions.specs.Calls.{Say, call_of}
use Rattle.std.proofs.Math.Nat.{mod-one}
use Rattle.std.proofs.lemmas.Bool.{eqb-true, false≢true, ltb-true}
use Rattle.frang_base.specs.declared.script.Line.{Line}
use Rattle.lock_definitions.specs.Locks.{no_clerks}
use Rattle.core_definitions.specs.Cores.{Core, next_of}
use Rattle.core_definitions.specs.Enabled.{enabled}
use Rattle.core_definitions.specs.Events.{Event, HostLine}
use Rattle.core_definitions.specs.Guards.{Can}
use Rattle.core_definitions.specs.LineGuards.{is_server}
use Rattle.core_definitions.specs.Runs.{CanEnter}
use Rattle.hall_runs.specs.Gates.{line_at_gate, number_to_enter}
use Rattle.frang_hall.specs.Machines.{IsDrawn}
use Rattle.hall_tests.specs.Halting.{core_at}

not_host : (a : ℕ) → is_server a ≡ true → (255 == a) ≡ false
not_host a is = go (255 == a) refl
  where
    go : (b : Bool) → (255 == a) ≡ b → b ≡ false
    go false e = refl
    go true e = let less = ltb-true a 16 is in let same = eqb-true 255 a e in absurd (omega (arith, less, same))

pub unserved : (over : Bool) (a : ℕ) → is_server a ≡ true → next_of (core_at over) a ≡ None
unserved false a is = rw (not_host a is) refl
unserved true a is = rw (not_host a is) refl

at_gate_by : (over : Bool) (a : ℕ) (b : Bool) → is_server a ≡ b → line_at_gate (core_at over) a ≡ None
at_gate_by over a false e = rw e refl
at_gate_by over a true e = rw e (rw (unserved over a e) refl)

pub none_at_gate : (over : Bool) (a : ℕ) → line_at_gate (core_at over) a ≡ None
none_at_gate over a = at_gate_by over a (is_server a) refl

to_enter_by : (over : Bool) (a : ℕ) (b : Bool) → is_server a ≡ b → number_to_enter (core_at over) a ≡ None
to_enter_by true a b e = refl
to_enter_by false a false e = rw e refl
to_enter_by false a true e = rw e (rw (unserved false a e) refl)

pub none_to_enter : (over : Bool) (a : ℕ) → number_to_enter (core_at over) a ≡ None
none_to_enter over a = to_enter_by over a (is_server a) refl

pub none_enters : (over : Bool) (a : ℕ) (line : Line) → CanEnter (core_at over) a line → ⊥
none_enters over a line can = let none = unserved over a can.server in let some = can.next in absurd cc

pub is_over : (over : Bool) → over ≡ (core_at over).over
is_over false = refl
is_over true = refl

pub may_halt : Can (core_at false) (HostLine 1)
may_halt = record { going = refl; can = record { earlier = refl; next = refl; ticks = refl; free = refl } }

pub none_at_end : (event : Event) → Can (core_at true) event → ⊥
none_at_end event can = false≢true can.going

pub one_enabled : enabled (core_at false) ≡ HostLine 1 ∷ []
unfolding no_clerks
one_enabled = refl

pub drawn : (draw : ℕ) → IsDrawn draw (core_at false) (HostLine 1)
drawn draw = rw one_enabled (rw (mod-one draw) refl)

-- ---- what its event asks

one : decimal 1 ≡ codes "1"
one = decimal-digits_of 1 (lit< tt) (lit< tt)

pub says : call_of (core_at false) (HostLine 1) ≡ Say (49 ∷ 32 ∷ 45 ∷ 32 ∷ 111 ∷ 107 ∷ 10 ∷ [])
says = rw one refl

pub asks : (c : Core) (over : Bool) (event : Event) (text : List ℕ) → c ≡ core_at over → over ≡ false → event ≡ HostLine 1 → text ≡ 49 ∷ 32 ∷ 45 ∷ 32 ∷ 111 ∷ 107 ∷ 10 ∷ [] → Can c event × (call_of c event ≡ Say text)
asks c over event text at up e t = rw e (rw at (rw up (may_halt, says ∙ ap Say (sym t))))
