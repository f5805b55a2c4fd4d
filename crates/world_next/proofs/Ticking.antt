-- When the clock may go on.
use Rattle.std.proofs.Common.{◌≡◌, true, false, not, nat_lt, ap, ◌∙◌, sym}
use Rattle.std.proofs.lemmas.Bool.{false≢true}
use Rattle.frang_base.specs.declared.limits.TheConstants.{LAST_TICK}
use Rattle.core_definitions.specs.Cores.{Core}
use Rattle.core_definitions.specs.Guards.{CanTick, has_line_at_gate}
use Rattle.world_next.specs.NoEvents.{NoneOther}
use Rattle.world_next.proofs.Together.{none_other}

module _ (c : Core) where
  -- where nothing else may happen
  pub ticks : NoneOther c → has_line_at_gate c ≡ false → nat_lt c.now LAST_TICK ≡ true → CanTick c
  ticks none gate clock = record { quiet = λ event can. absurd (none_other c none event can); gate = ap not gate; clock = clock }

  pub no_tick_at_gate : has_line_at_gate c ≡ true → CanTick c → ⊥
  no_tick_at_gate gate can = false≢true (sym (ap not gate) ∙ can.gate)

  pub no_tick_at_end : nat_lt c.now LAST_TICK ≡ false → CanTick c → ⊥
  no_tick_at_end late can = false≢true (sym late ∙ can.clock)
