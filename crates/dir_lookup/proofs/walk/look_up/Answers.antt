-- By what was found.
use Rattle.std.proofs.Common.{◌≡◌, Some, None, Err, sym, rules, ap, ◌∙◌, ◌++◌, ◌∷◌, []}
use Rattle.std.specs.Option.{option_map}
use Rattle.disk_definitions.specs.Store.{stored, entered}
use Rattle.disk_definitions.specs.Walks.{AtName, AtGap}
use Rattle.dir_lookup.specs.Reading.{Gives, Lacks, read_of}
use Rattle.dir_lookup.specs.Spots.{found_at, spot_of, walked_in}
use Rattle.dir_lookup.proofs.Looking.{adds_as}
use Rattle.dir_lookup.proofs.Steps.{said_ok, said_err, looked_up}
use Rattle.dir_lookup.proofs.WalkLooks.{looked_up_at}
use Rattle.dir_lookup.proofs.walk.look_up.Goals as goal

pub returns-in_err-found-clause-reads : goal.returns-in_err-found-clause-reads
returns-in_err-found-clause-reads c dirs held =
    let need = c.in_err-found.field-0.0 in
    let e : c.from_residual.result ≡ Err need = search rules in
    ap (read_of (λ s. walked_in dirs c.args.directory.now.number (spot_of s))) e
    ∙ looked_up dirs c.args.directory.now.number (stored c.args.directory.now.inode) c.args.name.now c.args.sectors.now.entries held (Lacks need.0.0)
    (said_err (option_map found_at) c.first_named.result need _ c.in_err-found.was (c.first_named.ensures.reads held))

pub returns-in-Some-clause-reads : goal.returns-in-Some-clause-reads
returns-in-Some-clause-reads c dirs held =
    let f = c.in-Some.found in
    let x = stored c.args.directory.now.inode in
    ap (λ n. Gives (record { spot = AtName c.args.directory.now.number x n f.place (entered f.entry); dirs = dirs ++ c.args.directory.now.number ∷ [] })) c.copy-name.ensures
    ∙ looked_up dirs c.args.directory.now.number x c.args.name.now c.args.sectors.now.entries held (Gives (Some (found_at f)))
    (sym (ap (λ o. Gives (option_map found_at o)) c.in-Some.is) ∙ said_ok (option_map found_at) c.first_named.result c.in_ok-found.found _ c.in_ok-found.was (c.first_named.ensures.reads held))

pub returns-in-None-clause-reads : goal.returns-in-None-clause-reads
returns-in-None-clause-reads c dirs held =
    let x = stored c.args.directory.now.inode in
    ap (λ n. Gives (record { spot = AtGap c.args.directory.now.number x n; dirs = dirs ++ c.args.directory.now.number ∷ [] })) c.copy-name.ensures
    ∙ looked_up dirs c.args.directory.now.number x c.args.name.now c.args.sectors.now.entries held (Gives None)
    (sym (ap (λ o. Gives (option_map found_at o)) c.in-None.is) ∙ said_ok (option_map found_at) c.first_named.result c.in_ok-found.found _ c.in_ok-found.was (c.first_named.ensures.reads held))

pub returns-in_err-found-clause-looks : goal.returns-in_err-found-clause-looks
returns-in_err-found-clause-looks c dirs held =
    let need = c.in_err-found.field-0.0 in
    let x = stored c.args.directory.now.inode in
    let cached = c.args.sectors.now.entries in
    adds_as _ _ _ _ (looked_up_at dirs c.args.directory.now.number c.args.name.now cached held x (Lacks need.0.0)
    (said_err (option_map found_at) c.first_named.result need _ c.in_err-found.was (c.first_named.ensures.reads held))) (c.first_named.ensures.looks held)

pub returns-in-Some-clause-looks : goal.returns-in-Some-clause-looks
returns-in-Some-clause-looks c dirs held =
    let f = c.in-Some.found in
    let x = stored c.args.directory.now.inode in
    let cached = c.args.sectors.now.entries in
    adds_as _ _ _ _ (looked_up_at dirs c.args.directory.now.number c.args.name.now cached held x (Gives (Some (found_at f)))
    (sym (ap (λ o. Gives (option_map found_at o)) c.in-Some.is) ∙ said_ok (option_map found_at) c.first_named.result c.in_ok-found.found _ c.in_ok-found.was (c.first_named.ensures.reads held))) (c.first_named.ensures.looks held)

pub returns-in-None-clause-looks : goal.returns-in-None-clause-looks
returns-in-None-clause-looks c dirs held =
    let x = stored c.args.directory.now.inode in
    let cached = c.args.sectors.now.entries in
    adds_as _ _ _ _ (looked_up_at dirs c.args.directory.now.number c.args.name.now cached held x (Gives None)
    (sym (ap (λ o. Gives (option_map found_at o)) c.in-None.is) ∙ said_ok (option_map found_at) c.first_named.result c.in_ok-found.found _ c.in_ok-found.was (c.first_named.ensures.reads held))) (c.first_named.ensures.looks held)
