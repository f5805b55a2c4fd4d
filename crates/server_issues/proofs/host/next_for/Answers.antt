-- The walk goes on behind each that may not be issued.
use Rattle.std.proofs.Common.{◌≡◌, ◌<◌, ◌≤◌, ◌^◌, None, Some, sym, ap, ◌∙◌, arith}
use Rattle.std.specs.Map.{keys_of}
use Rattle.std.specs.Option.{option_map}
use Rattle.disk_definitions.specs.Written.{ascending}
use Rattle.core_definitions.specs.Cores.{writes}
use Rattle.core_definitions.specs.Scripts.{host_party}
use Rattle.core_definitions.specs.WriteGuards.{may_issue}
use Rattle.recovery_demon.specs.Recovering.{first_sector_from, write_sectors, writes_wanted}
use Rattle.server_issues.proofs.Rescued.{ended, goes_on, is_wanted, walked}
use Rattle.server_issues.proofs.host.next_for.Goals as goal

pub overflow_add-from : goal.overflow_add-from
unfolding write_sectors
overflow_add-from c =
    let d = c.args.demon.now in
    let w = writes_wanted d.segments d.recovery d.issued in
    let t = c.in-Some.sector.0 in
    let found : first_sector_from (ascending (keys_of w)) c.loop-sector.from.0 ≡ Some t = sym c.first_write.ensures ∙ ap (option_map (λ sector. sector.0)) c.in-Some.is in
    let low : t < 2 ^ 40 = c.has_looked-looked.ensures.low t (is_wanted w c.loop-sector.from.0 t found) in
    omega (arith, low)

pub loop-sector-smaller : goal.loop-sector-smaller
unfolding write_sectors
loop-sector-smaller c =
    let d = c.args.demon.now in
    let w = writes_wanted d.segments d.recovery d.issued in
    let t = c.in-Some.sector.0 in
    let found : first_sector_from (ascending (keys_of w)) c.loop-sector.from.0 ≡ Some t = sym c.first_write.ensures ∙ ap (option_map (λ sector. sector.0)) c.in-Some.is in
    let low : t < 2 ^ 40 = c.has_looked-looked.ensures.low t (is_wanted w c.loop-sector.from.0 t found) in
    let on : c.loop-sector.from.0 ≤ t = goes_on w c.loop-sector.from.0 t found in
    omega (arith, low, on)

pub loop-sector-preserved : goal.loop-sector-preserved
unfolding write_sectors
loop-sector-preserved c = λ core is.
    let d = c.args.demon.now in
    let w = writes_wanted d.segments d.recovery d.issued in
    let t = c.in-Some.sector.0 in
    let found : first_sector_from (ascending (keys_of w)) c.loop-sector.from.0 ≡ Some t = sym c.first_write.ensures ∙ ap (option_map (λ sector. sector.0)) c.in-Some.is in
    walked w (λ s. may_issue core host_party s (writes core host_party)) c.loop-sector.from.0 t found (sym (c.host_write.ensures.may core is) ∙ sym c.is_some.ensures ∙ c.if-is_some.false) (c.loop-sector.invariant core is)

pub returns : goal.returns
unfolding write_sectors
returns c = λ core is sector there.
    let d = c.args.demon.now in
    let w = writes_wanted d.segments d.recovery d.issued in
    let none : first_sector_from (ascending (keys_of w)) c.loop-sector.from.0 ≡ None = sym c.first_write.ensures ∙ ap (option_map (λ sector. sector.0)) c.in_default.is in
    ended w (λ s. may_issue core host_party s (writes core host_party)) c.loop-sector.from.0 none (c.loop-sector.invariant core is) sector there
