-- What is made ready for the lives of servers is for its event.
use Rattle.std.proofs.Common.{ℕ, ◌≡◌, ◌<◌, true, false, Some, None, List, refl, sym, ap, ◌∙◌}
use Rattle.std.proofs.lemmas.Bool.{false≢true, ltb-true}
use Rattle.frang_base.specs.declared.limits.TheConstants.{SERVERS}
use Rattle.frang_base.specs.declared.said.Said.TheVariants as said
use Rattle.frang_base.specs.declared.sector.ServerId.{ServerId}
use Rattle.tree_definitions.specs.SaidLines.{said_line}
use Rattle.core_definitions.specs.Calls.{Say}
use Rattle.core_definitions.specs.Cores.{Core, writes}
use Rattle.core_definitions.specs.Events.{Doom, Resume, Die, Renew}
use Rattle.core_definitions.specs.WriteEffects as effects
use Rattle.core_definitions.specs.WriteGuards.{CanDoom, CanRenew, may_die, may_doom, may_renew, may_resume}
use Rattle.core_laws.proofs.Guarding.{die_can, die_may, doom_can, doom_may, renew_can, renew_may, resume_can, resume_may}
use Rattle.hall_runs.specs.declared.event.Call.TheVariants as call
use Rattle.server_core.specs.Phases.{fate_of}
use Rattle.server_core.specs.declared.phase.Fate.{Fate}
use Rattle.world_state.specs.States.{State, core_at}
use Rattle.world_ready.specs.Making.{IsMadeOf, with_tree}
use Rattle.world_ready.specs.declared.kinds.Ready.TheVariants as ready
use Rattle.world_ready.proofs.Mounted.{dooms_mounted}

module _ (s : State) (a : ServerId) where
  abbrev c : Core
  c = core_at s

  -- ---- Doom

  pub dooms_not : may_doom c a.0 (writes c a.0) ≡ false → IsMadeOf c s (Doom a.0) None
  dooms_not bars tree can = false≢true (sym bars ∙ doom_may (with_tree c tree) a.0 can)

  pub dooms : (fate : Fate) → may_doom c a.0 (writes c a.0) ≡ true → fate_of fate ≡ effects.fate_of c a.0 → IsMadeOf c s (Doom a.0) (Some (record { ready = ready.Doom a fate; call = call.Nothing }))
  dooms fate may settled tree =
      let can : CanDoom c a.0 = doom_can c a.0 may in
      let small : a.0 < SERVERS = ltb-true a.0 SERVERS can.server in
      record { event = refl; can = doom_can (with_tree c tree) a.0 may; asks = refl; may = record { server = small; mounted = dooms_mounted c a.0 small can; fate = settled } }

  -- ---- Resume, Die

  pub resumes_not : may_resume c a.0 ≡ false → IsMadeOf c s (Resume a.0) None
  resumes_not bars tree can = false≢true (sym bars ∙ resume_may (with_tree c tree) a.0 can)

  pub resumes : (text : List ℕ) → may_resume c a.0 ≡ true → text ≡ said_line (said.Renewed a) → IsMadeOf c s (Resume a.0) (Some (record { ready = ready.Resume a; call = call.Say text }))
  resumes text may text_is tree = record { event = refl; can = resume_can (with_tree c tree) a.0 may; asks = ap Say (sym text_is); may = may }

  pub dies_not : may_die c a.0 ≡ false → IsMadeOf c s (Die a.0) None
  dies_not bars tree can = false≢true (sym bars ∙ die_may (with_tree c tree) a.0 can)

  pub dies : (text : List ℕ) → may_die c a.0 ≡ true → text ≡ said_line (said.Dead a) → IsMadeOf c s (Die a.0) (Some (record { ready = ready.Die a; call = call.Say text }))
  dies text may text_is tree = record { event = refl; can = die_can (with_tree c tree) a.0 may; asks = ap Say (sym text_is); may = may }

  -- ---- Renew

  pub renews_not : may_renew c a.0 ≡ false → IsMadeOf c s (Renew a.0) None
  renews_not bars tree can = false≢true (sym bars ∙ renew_may (with_tree c tree) a.0 can)

  pub renews : may_renew c a.0 ≡ true → IsMadeOf c s (Renew a.0) (Some (record { ready = ready.Renew a; call = call.Nothing }))
  renews may tree =
      let can : CanRenew (with_tree c tree) a.0 = renew_can (with_tree c tree) a.0 may in record { event = refl; can = can; asks = refl; may = ltb-true a.0 SERVERS can.server }
