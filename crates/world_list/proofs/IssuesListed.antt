-- The writes that a party may issue, gone through among candidates for them, are the core's.
use Rattle.std.proofs.Common.{◌≡◌, ◌<◌, ℕ, suc, ◌+◌, Bool, false, ◌||◌, ◌==◌, ◌++◌, List, Option, drop, get_or, length, sym, ap, ◌∙◌, add-one, drop-cons}
use Rattle.std.specs.List.{flat_map}
use Rattle.std.specs.Map.{keys_of}
use Rattle.std.proofs.lemmas.Bool.{eqb-true}
use Rattle.std.proofs.lemmas.Grind.{flat_map-append}
use Rattle.std.proofs.lemmas.List.{append_assoc}
use Rattle.core_definitions.specs.Cores.{stage, writes}
use Rattle.core_definitions.specs.Enabled.{issues, only, party_of}
use Rattle.core_definitions.specs.Events.{Event, Issue}
use Rattle.core_definitions.specs.LineGuards.{is_server}
use Rattle.core_definitions.specs.Scripts.{host_party}
use Rattle.core_definitions.specs.WriteGuards.{may_issue}
use Rattle.hall_runs.specs.declared.event.Event.{Event as Named}
use Rattle.log_slots.proofs.Maps.{keys_member}
use Rattle.ordered_map.specs.Chunks.{joined}
use Rattle.world_asks.specs.Asking.{Asked}
use Rattle.world_list.specs.Going.{IsParty}
use Rattle.world_list.specs.Issuing.{AreCandidates, may_write}
use Rattle.world_list.specs.Listing.{Adds, AddsOf, events_of}
use Rattle.world_list.specs.Rows.{party_events}
use Rattle.world_list.specs.declared.row.Row.TheVariants as rows
use Rattle.world_list.specs.Wanting.{SectorSet}
use Rattle.world_list.proofs.Onlys.{same_those, those}
use Rattle.world_list.proofs.WritesAmong.{issued_wanted, keys_append, wants_ascend}
use Rattle.world_state.specs.States.{State, core_at}

-- a party that is no server is the host
pub host_is : (a : ℕ) → IsParty a → is_server a ≡ false → a ≡ host_party
host_is a party off = eqb-true a host_party (ap (λ b. b || a == host_party) (sym off) ∙ party)

-- another test that is the same
pub same_test : (may test : ℕ → Bool) (event : ℕ → Event) (xs : List ℕ) → ((s : ℕ) → test s ≡ may s) → flat_map (λ s. only (test s) (event s)) xs ≡ those may event xs
same_test may test event xs same = λ j. those (λ s. same s j) event xs

module _ (s : State) (a : ℕ) (sectors : SectorSet) (are : AreCandidates s a sectors) where
  abbrev may : ℕ → Bool
  may sector = may_issue (core_at s) a sector (writes (core_at s) a)

  pub issues_are : those may (Issue a) (keys_of sectors) ≡ issues (core_at s) (party_of (core_at s) a)
  issues_are =
      same_those may (Issue a) (keys_of sectors) (keys_of (writes (core_at s) a)) are.ordered (wants_ascend (core_at s).setting (core_at s).locks a ((core_at s).servers a) (stage (core_at s) a))
      (λ sector is. keys_member sectors sector ∙ are.all sector is) (λ sector is. keys_member (writes (core_at s) a) sector ∙ issued_wanted (core_at s) a sector is)

  pub issues_added : (asking : Option Asked) → ((sector : ℕ) → may_write s asking sector ≡ may sector) → (chunks : List SectorSet) → joined chunks ≡ sectors → (old new : List Named)
      → Adds old new (flat_map (λ sector. only (may_write s asking sector) (Issue a sector)) (keys_of (joined chunks))) → AddsOf old new (party_events s rows.Issues a)
  unfolding party_events
  issues_added asking same chunks whole old new added tree =
      added ∙ ap (λ es. events_of old ++ es) (same_test may (may_write s asking) (Issue a) (keys_of (joined chunks)) same ∙ ap (λ (es : SectorSet). those may (Issue a) (keys_of es)) whole ∙ issues_are)

-- of one more piece
module _ (f : ℕ → List Event) (pieces : List SectorSet) (i : ℕ) (piece : SectorSet) (within : i < length pieces) (is : piece ≡ get_or pieces i piece) where
  split : flat_map f (keys_of (joined (drop i pieces))) ≡ flat_map f (keys_of piece) ++ flat_map f (keys_of (joined (drop (i + 1) pieces)))
  split =
      ap (λ (ps : List SectorSet). flat_map f (keys_of (joined ps))) (drop-cons pieces i piece within) ∙ ap (λ (p : SectorSet). flat_map f (keys_of (p ++ joined (drop (suc i) pieces)))) (sym is)
      ∙ ap (λ n. flat_map f (keys_of (piece ++ joined (drop n pieces)))) (sym (add-one i)) ∙ ap (flat_map f) (keys_append piece (joined (drop (i + 1) pieces)))
      ∙ flat_map-append f (keys_of piece) (keys_of (joined (drop (i + 1) pieces)))

  pub piece_added : (old mid new : List Named) → events_of mid ++ flat_map f (keys_of (joined (drop i pieces))) ≡ events_of old ++ flat_map f (keys_of (joined pieces)) → Adds mid new (flat_map f (keys_of piece))
      → events_of new ++ flat_map f (keys_of (joined (drop (i + 1) pieces))) ≡ events_of old ++ flat_map f (keys_of (joined pieces))
  piece_added old mid new before now =
      ap (λ es. es ++ flat_map f (keys_of (joined (drop (i + 1) pieces)))) now ∙ append_assoc (events_of mid) (flat_map f (keys_of piece)) (flat_map f (keys_of (joined (drop (i + 1) pieces))))
      ∙ ap (λ es. events_of mid ++ es) (sym split) ∙ before
