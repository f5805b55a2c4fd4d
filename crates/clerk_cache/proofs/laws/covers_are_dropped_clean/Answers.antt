-- By the lemmas on dropped covers.
use Rattle.clerk_cache.proofs.DropLaws.{clean_all, marks_stay, gone, others_stay}
use Rattle.clerk_cache.proofs.laws.covers_are_dropped_clean.Goals as goal

pub returns-clause-clean : goal.returns-clause-clean
returns-clause-clean c = clean_all

pub returns-clause-marks : goal.returns-clause-marks
returns-clause-marks c = marks_stay

pub returns-clause-gone : goal.returns-clause-gone
returns-clause-gone c = λ lock contents sorted s cached there under. gone lock s contents sorted cached there under

pub returns-clause-others : goal.returns-clause-others
returns-clause-others c = λ lock contents s cached there other. others_stay lock s contents cached there other
