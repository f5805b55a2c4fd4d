-- By what the board shows already, or what was published.
use Rattle.watched_hall.proofs.Desks.{posted_new}
use Rattle.watched_hall.proofs.desk.post.Goals as goal

pub returns-in-Ok : goal.returns-in-Ok
returns-in-Ok g c = posted_new c.args.writer.now c.publish.new.self c.args.figures c.in-Ok.ensures.ok
