-- What is made ready for the host's lines and the end is for its event.
use Rattle.std.proofs.Common.{ℕ, ◌≡◌, true, false, Some, None, List, refl, sym, ap, ◌∙◌}
use Rattle.std.proofs.lemmas.Bool.{false≢true}
use Rattle.frang_base.specs.Functions.{member}
use Rattle.frang_base.specs.declared.reply.Reply.TheVariants as reply
use Rattle.frang_base.specs.declared.said.Said.TheVariants as said
use Rattle.frang_base.specs.declared.sector.Sector.{Sector}
use Rattle.frang_base.specs.declared.sector.ServerId.{ServerId}
use Rattle.tree_definitions.specs.SaidLines.{said_line}
use Rattle.core_definitions.specs.Calls.{Say}
use Rattle.core_definitions.specs.Cores.{Core}
use Rattle.core_definitions.specs.Effects.{id_of}
use Rattle.core_definitions.specs.EndGuards.{is_at_rest, may_close, may_host}
use Rattle.core_definitions.specs.Events.{HostLine, Close, Read}
use Rattle.core_definitions.specs.Scripts.{host_party}
use Rattle.core_laws.proofs.Guarding.{close_can, close_may, host_can, host_may}
use Rattle.hall_runs.specs.declared.event.Call.TheVariants as call
use Rattle.host_tree.specs.Reading.{HostReading, needed}
use Rattle.world_state.specs.States.{State, core_at}
use Rattle.world_ready.specs.Making.{IsMade, IsMadeOf, with_tree}
use Rattle.world_ready.specs.Trees.{SameReading}
use Rattle.world_ready.specs.declared.kinds.Ready.TheVariants as ready
use Rattle.world_ready.proofs.TreeEnd.{needs_are, reads, reads_at_rest}

-- ---- HostLine, Close

module _ (s : State) where
  pub hosts_not : (number : ℕ) → may_host (core_at s) number ≡ false → IsMadeOf (core_at s) s (HostLine number) None
  hosts_not number bars tree can = false≢true (sym bars ∙ host_may (with_tree (core_at s) tree) number can)

  pub hosts : (number : ℕ) (text : List ℕ) → may_host (core_at s) number ≡ true → text ≡ said_line (said.Answer (id_of host_party) number reply.Ok)
      → IsMadeOf (core_at s) s (HostLine number) (Some (record { ready = ready.HostLine number; call = call.Say text }))
  hosts number text may text_is tree = record { event = refl; can = host_can (with_tree (core_at s) tree) number may; asks = ap Say (sym text_is); may = may }

  pub closes_not : (a : ServerId) → may_close (core_at s) a.0 ≡ false → IsMadeOf (core_at s) s (Close a.0) None
  closes_not a bars tree can = false≢true (sym bars ∙ close_may (with_tree (core_at s) tree) a.0 can)

  pub closes : (a : ServerId) → may_close (core_at s) a.0 ≡ true → IsMadeOf (core_at s) s (Close a.0) (Some (record { ready = ready.Close a; call = call.Nothing }))
  closes a may tree = record { event = refl; can = close_can (with_tree (core_at s) tree) a.0 may; asks = refl; may = may }

-- ---- Read

module _ (s : State) (was : HostReading) (sector : Sector) (disk : was.segments ≡ s.parties.segments) where
  abbrev c : Core
  c = core_at s

  -- before it rests, or where the sector isn't needed
  pub reads_restless : (tree : HostReading) → is_at_rest c ≡ false → IsMade c s tree (Read sector.0) None
  reads_restless tree restless can = false≢true (sym restless ∙ reads_at_rest (with_tree c tree) can)

  pub reads_unneeded : member sector.0 (needed was.segments was.read) ≡ false → IsMade c s was (Read sector.0) None
  reads_unneeded bars can = false≢true (sym bars ∙ ap (member sector.0) (needs_are c was disk) ∙ can.needed)

  pub reads_it : (tree : HostReading) → SameReading was tree → is_at_rest c ≡ true → member sector.0 (needed was.segments was.read) ≡ true → tree.has_room ≡ true
      → IsMade c s tree (Read sector.0) (Some (record { ready = ready.Read sector; call = call.Get (id_of host_party) sector }))
  reads_it tree same rest needs room = record {
    event = refl;
    can = reads (with_tree c tree) sector.0 rest (ap (member sector.0) (sym (needs_are c tree (same.segments ∙ disk)) ∙ still) ∙ needs);
    asks = refl;
    may = room;
  }
    where
      still : needed tree.segments tree.read ≡ needed was.segments was.read
      still = ap (λ n. needed n tree.read) same.segments ∙ ap (needed was.segments) same.read
