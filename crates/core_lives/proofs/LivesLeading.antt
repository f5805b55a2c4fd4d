-- The events of locks and lives that leave the history, each by its law.
use Rattle.std.proofs.Common.{◌≡◌, IsTrue, refl}
use Rattle.std.proofs.lemmas.Bool.{false≢true}
use Rattle.core_definitions.specs.Events.{Begin, Ask, Fetch, Again, Clear, Commit, Answer, Give, Issue, Doom, Resume, Arrive, Lose, Die, Renew, Tick, Recover, Load, Look, Finish, HostLine, Close, Read, Show, End}
use Rattle.core_definitions.specs.Servers.{Doomed, Fate, Off, Phase, Up, Still, Dead, is_doomed}
use Rattle.core_definitions.specs.Settings.{setting_of}
use Rattle.core_facts.specs.Holds.{HoldsAreOfRecoveries, HoldsAreOnTheDead}
use Rattle.core_facts.specs.Stamps.{WhoLivesHasFreshWrites}
use Rattle.core_laws.proofs.Memory.{up_dead_not}
use Rattle.core_world.specs.Events.{AsksAreEvents, DeathsAreEvents, GivesAreEvents, RenewsAreEvents, TicksAreEvents}
use Rattle.core_lives.proofs.Resuming.{resumes}
use Rattle.core_lives.specs.Lives.{LivesLeadOn}

record IsDoomed (p : Phase) : Type 0 where
  fate : Fate
  is : p ≡ Doomed fate

doomed_is : (p : Phase) → IsTrue (is_doomed p) → IsDoomed p
doomed_is Off h = absurd (false≢true h)
doomed_is Up h = absurd (false≢true h)
doomed_is Still h = absurd (false≢true h)
doomed_is (Doomed fate) h = record { fate = fate; is = refl }
doomed_is Dead h = absurd (false≢true h)

module _ (asks : AsksAreEvents) (gives : GivesAreEvents) (renews : RenewsAreEvents) (ticks : TicksAreEvents) (deaths : DeathsAreEvents)
    (fresh : WhoLivesHasFreshWrites) (recover : HoldsAreOfRecoveries) (dead : HoldsAreOnTheDead) where
  pub lives_lead : LivesLeadOn
  lives_lead s w journal (Ask a lock mode) r t g m h = asks s w journal a lock mode r t m
  lives_lead s w journal (Give a lock) r t g m h =
      gives s w journal a lock r t g (fresh (setting_of r.script r.segments r.number) r.disk s r.run a (up_dead_not (s.core.servers a).phase m.can.can.up)) m
  lives_lead s w journal (Renew a) r t g m h = renews s w journal a r t m
  lives_lead s w journal Tick r t g m h = ticks s w journal r t m
  lives_lead s w journal (Die a) r t g m h = let d = doomed_is (s.core.servers a).phase m.can.can.doomed in deaths s w journal a d.fate r t d.is m
  lives_lead s w journal (Resume a) r t g m h = resumes fresh recover dead s w journal a r t g m
  lives_lead s w journal (Begin a) r t g m h = absurd (false≢true h)
  lives_lead s w journal (Fetch a sector) r t g m h = absurd (false≢true h)
  lives_lead s w journal (Again a) r t g m h = absurd (false≢true h)
  lives_lead s w journal (Clear a block) r t g m h = absurd (false≢true h)
  lives_lead s w journal (Commit a) r t g m h = absurd (false≢true h)
  lives_lead s w journal (Answer a) r t g m h = absurd (false≢true h)
  lives_lead s w journal (Issue a sector) r t g m h = absurd (false≢true h)
  lives_lead s w journal (Doom a) r t g m h = absurd (false≢true h)
  lives_lead s w journal (Arrive ticket) r t g m h = absurd (false≢true h)
  lives_lead s w journal (Lose ticket) r t g m h = absurd (false≢true h)
  lives_lead s w journal (Recover d by) r t g m h = absurd (false≢true h)
  lives_lead s w journal (Load by slot) r t g m h = absurd (false≢true h)
  lives_lead s w journal (Look by sector) r t g m h = absurd (false≢true h)
  lives_lead s w journal (Finish by) r t g m h = absurd (false≢true h)
  lives_lead s w journal (HostLine number) r t g m h = absurd (false≢true h)
  lives_lead s w journal (Close a) r t g m h = absurd (false≢true h)
  lives_lead s w journal (Read sector) r t g m h = absurd (false≢true h)
  lives_lead s w journal (Show place) r t g m h = absurd (false≢true h)
  lives_lead s w journal End r t g m h = absurd (false≢true h)
