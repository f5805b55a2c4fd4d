-- The sectors that a server may fetch are those that its line needs where it is up, and else the slots that its mount hasn't read.
use Rattle.std.proofs.Common.{◌≡◌, ℕ, Bool, true, false, ◌&&◌, ◌||◌, if◌then◌else◌, Option, Some, None, List, [], ◌∷◌, refl, sym, ap, ◌∙◌, subst, eq-eqb, nat_eq}
use Rattle.std.specs.List.{slice_get}
use Rattle.std.specs.Map.{keys_of}
use Rattle.std.specs.Option.{option_map}
use Rattle.std.proofs.lemmas.Bool.{false≢true}
use Rattle.frang_base.specs.Functions.{member}
use Rattle.frang_base.specs.declared.lock.LockId.{LockId}
use Rattle.frang_base.specs.declared.sector.Sector.{Sector}
use Rattle.tree_definitions.specs.Transcript.{is_mount}
use Rattle.core_definitions.specs.Cores.{Core, stage}
use Rattle.core_definitions.specs.LineGuards.{is_unread, needed_by, slots_under}
use Rattle.core_definitions.specs.Lines.{Stage, Asking, Fetching, Moving, Stopping, Growing, Clearing, Finishing, Under}
use Rattle.core_definitions.specs.Servers.{Off, Up, Still, Doomed, Dead, Phase, Server, asks, is_off, is_up}
use Rattle.core_definitions.specs.Settings.{disk_logs}
use Rattle.line_stages.specs.Stages.{first_needed}
use Rattle.log_slots.specs.Reading.{log_rules, unread_slots}
use Rattle.server_issues.specs.Issuing.{IsOneThat}
use Rattle.world_parties.specs.States.{server_of}
use Rattle.world_parties.specs.declared.party.Party.{Party}
use Rattle.world_asks.specs.Asking.{Asked, IsPartyOf, core_of, stage_in}
use Rattle.world_asks.specs.Fetches.{left_under, may_fetch, unread_of}

-- ---- the first of a list

pub first_passes : (passes : ℕ → Bool) (sectors : List ℕ) (r : Option Sector) → ((sector : ℕ) → passes sector ≡ member sector sectors) → option_map (λ (s : Sector). s.0) r ≡ slice_get sectors 0
    → IsOneThat passes r
first_passes passes [] None same is = same
first_passes passes [] (Some s) same is = cc
first_passes passes (x ∷ sectors) None same is = cc
first_passes passes (x ∷ sectors) (Some s) same is =
    let at : s.0 ≡ x = cc in
    same s.0 ∙ ap (λ (t : Bool). if t then true else member s.0 sectors) (eq-eqb x s.0 (sym at))

-- ---- where it is up

pub first_of_needs : (at : Option Stage) → option_map (λ (need : ℕ × LockId). need.0) (first_needed at) ≡ slice_get (needed_by at) 0
first_of_needs None = refl
first_of_needs (Some (Asking need)) = refl
first_of_needs (Some (Fetching [])) = refl
first_of_needs (Some (Fetching (need ∷ needs))) = refl
first_of_needs (Some Moving) = refl
first_of_needs (Some Stopping) = refl
first_of_needs (Some (Growing needs seen)) = refl
first_of_needs (Some (Clearing block)) = refl
first_of_needs (Some (Finishing outcome)) = refl

pub sector_of_first : (at : Option Stage) (r : Option (Sector × LockId)) (s : Option Sector) → option_map (λ (need : Sector × LockId). (need.0.0, need.1)) r ≡ first_needed at
    → s ≡ option_map (λ (need : Sector × LockId). need.0) r → option_map (λ (x : Sector). x.0) s ≡ slice_get (needed_by at) 0
sector_of_first at r s is of = ap (option_map (λ (x : Sector). x.0)) of ∙ twice r ∙ ap (option_map (λ (need : ℕ × LockId). need.0)) is ∙ first_of_needs at
  where
    twice : (r : Option (Sector × LockId)) → option_map (λ (x : Sector). x.0) (option_map (λ (need : Sector × LockId). need.0) r)
        ≡ option_map (λ (need : ℕ × LockId). need.0) (option_map (λ (need : Sector × LockId). (need.0.0, need.1)) r)
    twice None = refl
    twice (Some need) = refl

up_not_off : (phase : Phase) → is_up phase ≡ true → is_off phase ≡ false
up_not_off Off up = absurd (false≢true up)
up_not_off Up up = refl
up_not_off Still up = refl
up_not_off (Doomed fate) up = refl
up_not_off Dead up = refl

pub fetches_up : (asked : Asked) (party : Party) → IsPartyOf asked party → is_up party.server.server.phase ≡ true → (sector : ℕ)
    → may_fetch (core_of asked) asked.number sector ≡ member sector (needed_by (stage_in asked))
fetches_up asked party of up sector =
    ap (λ (t : Bool). (t && member sector (needed_by (stage_in asked))) || is_unread (core_of asked) asked.number sector) is_it
    ∙ ap (λ (t : Bool). member sector (needed_by (stage_in asked)) || (t && rest && here)) (up_not_off ((core_of asked).servers asked.number).phase is_it) ∙ or_none (member sector (needed_by (stage_in asked)))
  where
    is_it : is_up ((core_of asked).servers asked.number).phase ≡ true
    is_it = ap (λ (server : Server). is_up server.phase) of.server ∙ up

    rest : Bool
    rest = asks is_mount ((core_of asked).servers asked.number)

    here : Bool
    here = member sector (slots_under disk_logs asked.number ((core_of asked).servers asked.number).under)

    or_none : (b : Bool) → (b || false) ≡ b
    or_none true = refl
    or_none false = refl

-- ---- where it isn't

same_left : (number : ℕ) (under : Option Under) → slots_under disk_logs number under ≡ left_under number under
unfolding unread_slots log_rules
same_left number None = refl
same_left number (Some under) = refl

member_if : (sector : ℕ) (t : Bool) (sectors : List ℕ) → (t && member sector sectors) ≡ member sector (if t then sectors else [])
member_if sector true sectors = refl
member_if sector false sectors = refl

pub fetches_down : (asked : Asked) (party : Party) → IsPartyOf asked party → is_up party.server.server.phase ≡ false → (sector : ℕ)
    → may_fetch (core_of asked) asked.number sector ≡ member sector (unread_of party.server.id party.server.server)
fetches_down asked party of up sector =
    ap (λ (server : Server). (is_up server.phase && needed) || (is_off server.phase && asks is_mount server && member sector (slots_under disk_logs asked.number server.under))) of.server
    ∙ ap (λ (t : Bool). (t && needed) || (is_off party.server.server.phase && asks is_mount party.server.server && member sector (slots_under disk_logs asked.number party.server.server.under))) up
    ∙ ap (λ sectors. is_off party.server.server.phase && asks is_mount party.server.server && member sector sectors) (same_left asked.number party.server.server.under)
    ∙ member_if sector (is_off party.server.server.phase && asks is_mount party.server.server) (left_under asked.number party.server.server.under)
    ∙ ap (λ n. member sector (unread_of n party.server.server)) (sym of.number)
  where
    needed : Bool
    needed = member sector (needed_by (stage_in asked))
