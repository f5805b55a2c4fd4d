-- What is read can be said and has these bytes; where nothing is read, nothing that can be said has them.
use Rattle.std.proofs.Common.{◌≡◌, None, rules}
use Rattle.script_definitions.specs.SaidReading.{said_of}
use Rattle.script_definitions.proofs.SaidRead.{said_of_read, not_read}
use Rattle.reply_text.proofs.reading.read_line.Goals as goal

pub returns-in-Some-clause-found : goal.returns-in-Some-clause-found
returns-in-Some-clause-found c = said_of_read c.args.bytes.now c.in-Some.said (search rules)

pub returns-in-None-clause-none : goal.returns-in-None-clause-none
returns-in-None-clause-none c =
    let none : said_of c.args.bytes.now ≡ None = search rules in
    λ s proper same. not_read c.args.bytes.now s none proper same
