-- Nothing is made ready of what only a server does for a party that is none, and no write for one that is not the host either.
use Rattle.std.proofs.Common.{ℕ, ◌≡◌, Bool, false, ◌&&◌, ◌||◌, ◌==◌, None, sym, ap, ◌∙◌}
use Rattle.std.proofs.lemmas.Bool.{false≢true}
use Rattle.core_definitions.specs.Cores.{Core}
use Rattle.core_definitions.specs.Events.{Issue as IssueOf}
use Rattle.core_definitions.specs.LineGuards.{is_server}
use Rattle.core_definitions.specs.Scripts.{host_party}
use Rattle.core_definitions.specs.Servers.{is_up}
use Rattle.core_definitions.specs.WriteGuards.{is_worker}
use Rattle.world_state.specs.States.{State}
use Rattle.world_ready.specs.Asked.{IsOwn, event_for}
use Rattle.world_ready.specs.Making.{IsMadeOf}
use Rattle.world_ready.specs.declared.made.Asked.{Asked}
use Rattle.world_ready.specs.declared.made.Asked.TheVariants.{Ask, Fetch, Again, Clear, Commit, Issue, Doom}

module _ (c : Core) (s : State) (a : ℕ) (bars : is_server a ≡ false) where
  pub owns_nothing : (asked : Asked) → IsOwn asked → IsMadeOf c s (event_for a asked) None
  owns_nothing (Ask lock mode) own tree can = false≢true (sym bars ∙ can.server)
  owns_nothing (Fetch sector) own tree can = false≢true (sym bars ∙ can.server)
  owns_nothing Again own tree can = false≢true (sym bars ∙ can.server)
  owns_nothing (Clear block) own tree can = false≢true (sym bars ∙ can.server)
  owns_nothing Commit own tree can = false≢true (sym bars ∙ can.server)
  owns_nothing (Issue sector) own tree can = own
  owns_nothing Doom own tree can = false≢true (sym bars ∙ can.server)

  no_worker : (a == host_party) ≡ false → is_worker c a ≡ false
  no_worker other = ap (λ (b : Bool). (b && is_up (c.servers a).phase) || a == host_party) bars ∙ other

  pub issues_nothing : (sector : ℕ) → (a == host_party) ≡ false → IsMadeOf c s (IssueOf a sector) None
  issues_nothing sector other tree can = false≢true (sym (no_worker other) ∙ can.issuable.who)
