-- Which line is to be given and which has passed the gate, from what the calls of a machine say of single servers.
use Rattle.std.proofs.Common.{◌≡◌, ◌⊎◌, inl, inr, ℕ, ◌<◌, ◌≤◌, ◌==◌, Bool, true, false, not, ◌&&◌, IsTrue, if◌then◌else◌, length, List, Option, Some, None, refl, sym, ap, ◌∙◌, subst, arith}
use Rattle.std.specs.List.{slice_get}
use Rattle.std.specs.Option.{option_map}
use Rattle.std.proofs.lemmas.Bool.{false≢true}
use Rattle.frang_base.specs.declared.script.Line.{Line}
use Rattle.core_definitions.specs.Cores.{Core, next_of}
use Rattle.core_definitions.specs.LineGuards.{has_passed, is_server}
use Rattle.core_definitions.specs.Runs.{State as RunMoment, CanEnter}
use Rattle.hall_runs.specs.Gates.{IsToEnter, IsToGive, NoLineToGive, line_to_enter, line_to_give, number_to_enter}
use Rattle.frang_hall.specs.Machines.{Stands}

-- the line that may enter, by its number
pub record MayEnter (c : Core) (a line : ℕ) : Type 0 where
  pub next : Line
  pub can : CanEnter c a next
  pub number : next.number ≡ line

abbrev number_or : Option ℕ → ℕ
number_or None = 0
number_or (Some x) = x

may_enter_by : (c : Core) (a line : ℕ) (going server waits : Bool) (next : Option Line) → not c.over ≡ going → is_server a ≡ server → next_of c a ≡ next → not (has_passed c next) ≡ waits
    → option_map (λ l. l.number) (if going && server && waits then next else None) ≡ Some line → MayEnter c a line
may_enter_by c a line true true true (Some next) g s n w is = record { next = next; can = record { going = g; server = s; next = n; waits = w }; number = ap (λ o. number_or o) is }
may_enter_by c a line true true true None g s n w is = absurd cc
may_enter_by c a line false server waits next g s n w is = absurd cc
may_enter_by c a line true false waits next g s n w is = absurd cc
may_enter_by c a line true true false next g s n w is = absurd cc

pub may_enter : (c : Core) (a line : ℕ) → number_to_enter c a ≡ Some line → MayEnter c a line
may_enter c a line is = may_enter_by c a line (not c.over) (is_server a) (not (has_passed c (next_of c a))) (next_of c a) refl refl refl refl is
