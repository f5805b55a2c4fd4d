-- What is made up to date or made ready leaves the core, and what is kept of it.
use Rattle.std.proofs.Common.{◌≡◌, ◌≤◌, IfSome, Option, Some, None, [], length, sym, ap, subst, ◌∙◌, arith}
use Rattle.core_definitions.specs.Cores.{Core, first_core}
use Rattle.core_definitions.specs.Logs.{is_none}
use Rattle.core_definitions.specs.Settings.{Setting}
use Rattle.host_tree.specs.Reading.{HostReading, all_lines, needed}
use Rattle.world_state.specs.States.{State as Servers, core_at}
use Rattle.world_next.specs.Over.{core_over}
use Rattle.world_ready.specs.Making.{Fits}
use Rattle.world_ready.specs.Trees.{IsSaidInTime, SameReading}
use Rattle.world_ready.specs.declared.kinds.Ready.{Ready}
use Rattle.frang_world.specs.States.{IsKept}

-- nothing that is ready fits
pub nothing_fits : (s : Servers) (tree : HostReading) (made : Option Ready) → made ≡ None → IfSome made (Fits s tree)
nothing_fits s tree made is = subst (λ (o : Option Ready). IfSome o (Fits s tree)) (sym is) tt

pub this_fits : (s : Servers) (tree : HostReading) (ready : Ready) (made : Option Ready) → made ≡ Some ready → Fits s tree ready → IfSome made (Fits s tree)
this_fits s tree ready made is fits = subst (λ (o : Option Ready). IfSome o (Fits s tree)) (sym is) fits

-- servers on the same disk beside the same reading, with nothing ready
pub kept_beside : (s t : Servers) (tree : HostReading) {ready : Option Ready} → t.parties.segments ≡ s.parties.segments → IsKept (record { world = s; tree = tree; ready = ready }) → (made : Option Ready) → made ≡ None
    → IsKept (record { world = t; tree = tree; ready = made })
kept_beside s t tree stays kept made is = record { disk = kept.disk ∙ sym stays; said = kept.said; fits = nothing_fits t tree made is }

module _ (s t : Servers) (was tree : HostReading) (core : core_at t ≡ core_at s) (same : SameReading was tree) where
  pub core_same : core_over t tree ≡ core_over s was
  core_same = λ i. record (core i) { read = same.read i; shown = same.shown i }

  needed_same : needed tree.segments tree.read ≡ needed was.segments was.read
  needed_same = ap (λ n. needed n tree.read) same.segments ∙ ap (needed was.segments) same.read

  lines_same : all_lines tree.segments tree.read ≡ all_lines was.segments was.read
  lines_same = ap (λ n. all_lines n tree.read) same.segments ∙ ap (all_lines was.segments) same.read

  disk_same : was.segments ≡ s.parties.segments → tree.segments ≡ t.parties.segments
  disk_same disk = same.segments ∙ disk ∙ sym (ap (λ (c : Core). c.setting.segments) core)

  said_same : IsSaidInTime was → IsSaidInTime tree
  said_same said = record {
    unread = λ left. same.shown ∙ said.unread (ap is_none (sym needed_same) ∙ left);
    most =
        let lines : length (all_lines tree.segments tree.read) ≡ length (all_lines was.segments was.read) = ap length lines_same in
        let most : was.shown ≤ length (all_lines was.segments was.read) = said.most in
        let shown : tree.shown ≡ was.shown = same.shown in
        omega arith;
  }

  pub kept_same : {ready : Option Ready} → IsKept (record { world = s; tree = was; ready = ready }) → (made : Option Ready) → IfSome made (Fits t tree) → IsKept (record { world = t; tree = tree; ready = made })
  kept_same kept made fits = record { disk = disk_same kept.disk; said = said_same kept.said; fits = fits }

-- ---- at first

module _ (s : Servers) (tree : HostReading) (setting : Setting) (core : core_at s ≡ first_core setting) (segments : tree.segments ≡ setting.segments) (read : tree.read ≡ []) (shown : tree.shown ≡ 0) where
  pub first_is : core_over s tree ≡ first_core setting
  first_is = λ i. record (core i) { read = read i; shown = shown i }

  pub first_kept : IsKept (record { world = s; tree = tree; ready = None })
  first_kept = record {
    disk = segments ∙ sym (ap (λ (c : Core). c.setting.segments) core);
    said = record { unread = λ left. shown; most = omega arith };
    fits = tt;
  }
