-- Each of the events by its own law.
use Rattle.std.proofs.Common.{sym, subst}
use Rattle.std.proofs.lemmas.Bool.{false≢true}
use Rattle.core_definitions.specs.Events.{Begin, Ask, Fetch, Again, Clear, Commit, Answer, Give, Issue, Doom, Resume, Arrive, Lose, Die, Renew, Tick, Recover, Load, Look, Finish, HostLine, Close, Read, Show, End}
use Rattle.core_definitions.specs.Cores.{stage}
use Rattle.core_definitions.specs.Runs.{Makes, next}
use Rattle.core_commit_steps.specs.Moments.{LineGoesOn}
use Rattle.core_commit_steps.specs.Steps.{AreOfLine, LinesGoOn, journals_behind_line}
use Rattle.core_commit_steps.proofs.Beside.{commits_go_on, finished_of}
use Rattle.core_commit_steps.proofs.Clearing.{clears_go_on}
use Rattle.core_commit_steps.proofs.Facts.{Facts}
use Rattle.core_commit_steps.proofs.Incoming.{fetches_go_on}
use Rattle.core_commit_steps.proofs.Reclaiming.{reclaims_go_on}

pub lines_go : Facts → LinesGoOn
lines_go facts s w journal when first_tree numbers (Commit a) heard told makes b =
    subst (λ h. Makes s (Commit a) h → LineGoesOn w (next s (Commit a) h) (journals_behind_line s w (Commit a) journal) when first_tree numbers (AreOfLine s w journal when first_tree (Commit a))) (sym makes.hears) (λ m. commits_go_on facts s w journal when first_tree numbers a m b) makes
lines_go facts s w journal when first_tree numbers (Clear a block) heard told makes b =
    subst (λ h. Makes s (Clear a block) h → LineGoesOn w (next s (Clear a block) h) journal when first_tree numbers (AreOfLine s w journal when first_tree (Clear a block))) (sym makes.hears) (λ m. clears_go_on facts s w journal when first_tree numbers a block m b) makes
lines_go facts s w journal when first_tree numbers (Again a) heard told makes b =
    let f = finished_of (stage s.core a) told in
    subst (λ h. Makes s (Again a) h → LineGoesOn w (next s (Again a) h) (journals_behind_line s w (Again a) journal) when first_tree numbers (AreOfLine s w journal when first_tree (Again a))) (sym makes.hears) (λ m. reclaims_go_on facts s w journal when first_tree numbers a f.0 m f.1 b) makes
lines_go facts s w journal when first_tree numbers (Fetch a sector) heard told makes b = fetches_go_on facts s w journal when first_tree numbers a sector told b heard makes
lines_go facts s w journal when first_tree numbers (Begin a) heard told makes b = absurd (false≢true told)
lines_go facts s w journal when first_tree numbers (Ask a lock mode) heard told makes b = absurd (false≢true told)
lines_go facts s w journal when first_tree numbers (Answer a) heard told makes b = absurd (false≢true told)
lines_go facts s w journal when first_tree numbers (Give a lock) heard told makes b = absurd (false≢true told)
lines_go facts s w journal when first_tree numbers (Issue a sector) heard told makes b = absurd (false≢true told)
lines_go facts s w journal when first_tree numbers (Doom a) heard told makes b = absurd (false≢true told)
lines_go facts s w journal when first_tree numbers (Resume a) heard told makes b = absurd (false≢true told)
lines_go facts s w journal when first_tree numbers (Arrive ticket) heard told makes b = absurd (false≢true told)
lines_go facts s w journal when first_tree numbers (Lose ticket) heard told makes b = absurd (false≢true told)
lines_go facts s w journal when first_tree numbers (Die a) heard told makes b = absurd (false≢true told)
lines_go facts s w journal when first_tree numbers (Renew a) heard told makes b = absurd (false≢true told)
lines_go facts s w journal when first_tree numbers Tick heard told makes b = absurd (false≢true told)
lines_go facts s w journal when first_tree numbers (Recover dead by) heard told makes b = absurd (false≢true told)
lines_go facts s w journal when first_tree numbers (Load by slot) heard told makes b = absurd (false≢true told)
lines_go facts s w journal when first_tree numbers (Look by sector) heard told makes b = absurd (false≢true told)
lines_go facts s w journal when first_tree numbers (Finish by) heard told makes b = absurd (false≢true told)
lines_go facts s w journal when first_tree numbers (HostLine number) heard told makes b = absurd (false≢true told)
lines_go facts s w journal when first_tree numbers (Close a) heard told makes b = absurd (false≢true told)
lines_go facts s w journal when first_tree numbers (Read sector) heard told makes b = absurd (false≢true told)
lines_go facts s w journal when first_tree numbers (Show place) heard told makes b = absurd (false≢true told)
lines_go facts s w journal when first_tree numbers End heard told makes b = absurd (false≢true told)
