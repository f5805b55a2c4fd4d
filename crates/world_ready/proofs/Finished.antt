-- What the end of a recovery says.
use Rattle.std.proofs.Common.{◌≡◌, true, ◌&&◌, Some, sym, ap, ◌∙◌}
use Rattle.std.proofs.lemmas.Bool.{and_parts}
use Rattle.frang_base.specs.declared.said.Said.TheVariants as said
use Rattle.tree_definitions.specs.SaidLines.{said_line}
use Rattle.core_definitions.specs.Calls.{Say, say_call}
use Rattle.core_definitions.specs.Cores.{Core}
use Rattle.core_definitions.specs.Effects.{id_of, says_recovered}
use Rattle.core_definitions.specs.EndGuards.{is_through}
use Rattle.core_definitions.specs.Logs.{is_none, is_read}
use Rattle.core_definitions.specs.Recoveries.{Recovery, is_replay_done, is_seal_done, redos, replay_writes, to_look}
use Rattle.core_definitions.specs.Settings.{LogRules, disk_logs}
use Rattle.disk_definitions.specs.Logs.{greatest_operation}
use Rattle.log_slots.specs.Reading.{are_all_read, log_rules}
use Rattle.recovery_demon.specs.Recovering.{greatest_kept, log_redos}

pub says_end : (c : Core) (recovery : Recovery) → c.setting.logs ≡ disk_logs
    → say_call (says_recovered c (Some recovery)) ≡ Say (said_line (said.Recovered (id_of recovery.dead) (record { 0 = greatest_kept recovery })))
unfolding greatest_kept log_redos log_rules
says_end c recovery logs = ap (λ (l : LogRules). Say (said_line (said.Recovered (id_of recovery.dead) (record { 0 = greatest_operation (redos l recovery) })))) logs

-- by then its whole log was read
pub has_read : (c : Core) (recovery : Recovery) → c.setting.logs ≡ disk_logs → is_through c recovery ≡ true → are_all_read recovery.slots ≡ true
unfolding are_all_read log_rules
has_read c recovery logs through =
    ap (λ (l : LogRules). is_read l recovery.slots) (sym logs)
    ∙ (and_parts (is_read c.setting.logs recovery.slots) (is_none (to_look c.setting.logs c.setting.segments recovery))
    (and_parts (is_read c.setting.logs recovery.slots && is_none (to_look c.setting.logs c.setting.segments recovery)) (is_none (replay_writes recovery))
    (and_parts (is_replay_done c.setting.logs c.setting.segments recovery) (is_seal_done c.setting.logs recovery) through).0).0).0
