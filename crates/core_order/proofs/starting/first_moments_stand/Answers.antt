-- By the laws of logs, seals and worlds at first.
use Rattle.core_order.proofs.Beginnings.{first_count, first_stand, opened_count}
use Rattle.core_order.proofs.starting.first_moments_stand.Goals as goal

pub returns : goal.returns
returns c = record {
  stand = first_stand c.logs_stand_good.ensures.begin c.first_moments_are_worlds.ensures.good c.seals_come_behind.ensures.begin;
  count = first_count;
  opened = opened_count;
}
