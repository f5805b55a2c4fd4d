-- Look by look.
use Rattle.line_laws.proofs.Asked.{covers_among_are_true, covers_are_true}
use Rattle.line_laws.proofs.covers.covers_at_hand_are_the_true_ones.Goals as goal

pub returns : goal.returns
returns c = record { covers = covers_are_true; looked = covers_among_are_true }
