-- At rest, by what is needed, and by the line at its place.
use Rattle.std.proofs.Common.{◌≡◌, true, None, Option, refl, sym, ap, ◌∙◌, subst}
use Rattle.std.specs.List.{slice_get}
use Rattle.std.specs.Option.{option_map}
use Rattle.frang_base.specs.declared.sector.Sector.{Sector}
use Rattle.core_definitions.specs.EndGuards.{CanShow, is_at_rest}
use Rattle.host_tree.specs.Reading.{needed}
use Rattle.world_state.specs.States.{core_at}
use Rattle.world_next.specs.Over.{core_over}
use Rattle.world_next.proofs.Ending.{no_tree_before}
use Rattle.world_next.proofs.Telling.{host_ends, host_reads, host_shows, none_needed}
use Rattle.world_next.proofs.ends.tree_event.Goals as goal

pub returns-then-not-is_at_rest : goal.returns-then-not-is_at_rest
returns-then-not-is_at_rest c = no_tree_before (core_over c.args.world.now c.args.tree.now) (sym c.is_at_rest.ensures ∙ c.if-not-is_at_rest.true)

pub returns-in-Some : goal.returns-in-Some
returns-in-Some c =
    let tree = c.args.tree.now in
    host_reads (core_over c.args.world.now tree) tree c.requires.disk refl refl (sym c.is_at_rest.ensures ∙ c.if-not-is_at_rest.false) c.in-Some.sector.0 (sym c.in-Some.ensures)

pub line-requires : goal.line-requires
line-requires c =
    let tree = c.args.tree.now in
    let rest : is_at_rest (core_at c.args.world.now) ≡ true = sym c.is_at_rest.ensures ∙ c.if-not-is_at_rest.false in
    let whole : slice_get (needed tree.segments tree.read) 0 ≡ None = sym c.first_needed.ensures ∙ ap (λ (s : Option Sector). option_map (λ x. x.0) s) c.in_default.is in
    (c.requires.line rest (none_needed (needed tree.segments tree.read) whole)).made

pub returns-in-Some-line : goal.returns-in-Some-line
returns-in-Some-line c =
    let tree = c.args.tree.now in
    let rest : is_at_rest (core_at c.args.world.now) ≡ true = sym c.is_at_rest.ensures ∙ c.if-not-is_at_rest.false in
    let whole : slice_get (needed tree.segments tree.read) 0 ≡ None = sym c.first_needed.ensures ∙ ap (λ (s : Option Sector). option_map (λ x. x.0) s) c.in_default.is in
    subst (CanShow (core_over c.args.world.now tree)) (sym c.shown.ensures)
    (host_shows (core_over c.args.world.now tree) tree c.requires.disk refl refl rest whole c.in-Some-line.field-0.now (sym c.in-Some-line.ensures))

pub returns-in-None : goal.returns-in-None
returns-in-None c =
    let tree = c.args.tree.now in
    let rest : is_at_rest (core_at c.args.world.now) ≡ true = sym c.is_at_rest.ensures ∙ c.if-not-is_at_rest.false in
    let whole : slice_get (needed tree.segments tree.read) 0 ≡ None = sym c.first_needed.ensures ∙ ap (λ (s : Option Sector). option_map (λ x. x.0) s) c.in_default.is in
    host_ends (core_over c.args.world.now tree) tree c.requires.disk refl refl rest whole (sym c.in-None.ensures) (c.requires.line rest (none_needed (needed tree.segments tree.read) whole)).said
