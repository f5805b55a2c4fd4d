-- The world of a script begins as the first core of its setting, on a disk that isn't too large.
use Rattle.std.proofs.Common.{◌≡◌, ◌∙◌, ℕ, ◌≤◌, IsTrue, sym, ap, arith}
use Rattle.std.proofs.lemmas.Bool.Decides.{nat_tests}
use Rattle.frang_base.specs.declared.limits.TheConstants.{SEGMENTS_MAX}
use Rattle.core_definitions.specs.Cores.{Core, first_core}
use Rattle.core_definitions.specs.Settings.{Setting}
use Rattle.hall_scripts.specs.declared.disk.StartDisk.{StartDisk}
use Rattle.hall_scripts.specs.declared.disk.StartDisk.TheVariants as start
use Rattle.hall_scripts.specs.Runs.{beginning_of, may_begin}

pub has_setting : (core : Core) (setting : Setting) → core ≡ first_core setting → core.setting ≡ setting
has_setting core setting is = ap (λ (k : Core). k.setting) is

pub begins : (core : Core) (setting : Setting) → core ≡ first_core setting → first_core core.setting ≡ core
begins core setting is = ap (λ (k : Core). first_core k.setting) is ∙ sym is

pub few : (disk : StartDisk) → IsTrue (may_begin disk) → (beginning_of disk).segments ≤ SEGMENTS_MAX
few (start.Fresh segments) fits = grind (arith, nat_tests, fits)
few (start.Image param disk) fits = grind (arith, nat_tests, fits)
