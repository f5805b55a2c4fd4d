-- Each by its law.
use Rattle.core_lives.proofs.LivesLeading.{lives_lead}
use Rattle.core_lives.proofs.lives.lives_lead_on.Goals as goal

pub returns : goal.returns
returns c = record {
  lives = lives_lead c.asks_are_events.ensures.ask c.gives_are_events.ensures.give c.renews_are_events.ensures.renew c.ticks_are_events.ensures.tick c.deaths_are_events.ensures.die
      c.stale_writes_are_late.ensures.fresh c.who_holds_a_log_recovers_it.ensures.recovery c.who_holds_a_log_recovers_it.ensures.dead;
}
