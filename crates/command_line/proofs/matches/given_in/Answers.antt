-- Each list as the rows have it.
use Rattle.std.proofs.Common.{codes}
use Rattle.clap.specs.Words.{found_of}
use Rattle.command_line.proofs.Rows.{texts_found}
use Rattle.command_line.proofs.matches.given_in.Goals as goal

pub returns : goal.returns
returns c =
    let f = found_of c.args.matches.now in
    λ i. record {
      places = texts_found c.get_strs.result f (codes "places") c.get_strs.ensures i;
      segments = texts_found c.get_strs-2.result f (codes "segments") c.get_strs-2.ensures i;
      image = texts_found c.get_strs-3.result f (codes "image") c.get_strs-3.ensures i;
      save = texts_found c.get_strs-4.result f (codes "save") c.get_strs-4.ensures i;
      order = texts_found c.get_strs-5.result f (codes "order") c.get_strs-5.ensures i;
      board = texts_found c.get_strs-6.result f (codes "board") c.get_strs-6.ensures i;
      board_to = texts_found c.get_strs-7.result f (codes "board-to") c.get_strs-7.ensures i;
    }
