-- A place is in use exactly where its kind isn't 0.
use Rattle.std.proofs.Common.{◌≡◌, ◌<◌, true, Some, [], length, get_or, sym, ◌∙◌, ap, cond, None, eq-eqb, ne_eqb, rules, Bool}
use Rattle.std.specs.List.{slice_get}
use Rattle.std.proofs.lemmas.Option.{slice_get-get_or}
use Rattle.disk_definitions.specs.declared.directory.DirEntry.{DirEntry}
use Rattle.disk_definitions.specs.Directories.{directory_fits}
use Rattle.disk_definitions.specs.Store.{entered}
use Rattle.dir_lookup.specs.Stored.{entries_at}
use Rattle.dir_lookup.proofs.Decoded.{entry_by_kind, proper_entry}
use Rattle.dir_lookup.proofs.sectors.entry_at.Goals as goal

abbrev no_entry : DirEntry
no_entry = record { inode = 0; len = 0; kind = 0; name = [] }

pub returns-then-entry-eq-KIND_FREE-clause-is : goal.returns-then-entry-eq-KIND_FREE-clause-is
returns-then-entry-eq-KIND_FREE-clause-is c =
    let x = c.args.sector.now in
    let e = get_or x.entries c.from.result no_entry in
    let w : c.from.result < length x.entries = search rules in
    let g : slice_get x.entries c.from.result ≡ Some e = slice_get-get_or x.entries c.from.result no_entry w in
    let p : c.from.result ≡ c.args.place = search rules in
    let h : directory_fits x ≡ true = search rules in
    sym (entry_by_kind x c.from.result e h g ∙ ap (λ (b : Bool). cond b None (Some (entered e))) (eq-eqb e.kind 0 c.if-entry-eq-KIND_FREE.true)) ∙ ap (entries_at x) p

pub returns-else-entry-eq-KIND_FREE-clause-is : goal.returns-else-entry-eq-KIND_FREE-clause-is
returns-else-entry-eq-KIND_FREE-clause-is c =
    let x = c.args.sector.now in
    let e = get_or x.entries c.from.result no_entry in
    let w : c.from.result < length x.entries = search rules in
    let g : slice_get x.entries c.from.result ≡ Some e = slice_get-get_or x.entries c.from.result no_entry w in
    let p : c.from.result ≡ c.args.place = search rules in
    let h : directory_fits x ≡ true = search rules in
    sym (entry_by_kind x c.from.result e h g ∙ ap (λ (b : Bool). cond b None (Some (entered e))) (ne_eqb e.kind 0 c.if-entry-eq-KIND_FREE.false)) ∙ ap (entries_at x) p

pub returns-else-entry-eq-KIND_FREE-clause-proper : goal.returns-else-entry-eq-KIND_FREE-clause-proper
returns-else-entry-eq-KIND_FREE-clause-proper c =
    let x = c.args.sector.now in
    let e = get_or x.entries c.from.result no_entry in
    let w : c.from.result < length x.entries = search rules in
    let g : slice_get x.entries c.from.result ≡ Some e = slice_get-get_or x.entries c.from.result no_entry w in
    let p : c.from.result ≡ c.args.place = search rules in
    let h : directory_fits x ≡ true = search rules in
    let p = proper_entry x c.from.result e h g (ne_eqb e.kind 0 c.if-entry-eq-KIND_FREE.false) in
    record { name = p.0; len = p.1 }
