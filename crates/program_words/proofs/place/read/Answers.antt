-- A word without a slash that parses as no number of 16 bits says no place.
use Rattle.program_words.proofs.Ports.{no_path, no_port}
use Rattle.program_words.proofs.place.read.Goals as goal

pub returns-in_default : goal.returns-in_default
returns-in_default c =
    let word = c.args.word.now in
    (no_path word c.contains.result c.contains.ensures.cases c.if-contains.false, no_port c.args.least word c.parse.result c.in_default.field-0 c.parse.ensures.value.0 c.in_default.is)
