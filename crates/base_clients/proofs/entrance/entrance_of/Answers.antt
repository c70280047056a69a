-- A word without a slash that is no number of 16 bits is an address with its port, or nothing.
use Rattle.base_clients.proofs.Ports.{no_path, no_port, spelled, unspelled}
use Rattle.base_clients.proofs.entrance.entrance_of.Goals as goal

pub returns-in-Ok-parse : goal.returns-in-Ok-parse
returns-in-Ok-parse c =
    let word = c.args.word.now in (
      no_path word c.contains.result c.contains.ensures.cases c.if-contains.false,
      spelled word c.parse-2.result c.in-Ok-parse.address (no_port word c.parse.result c.in_default.field-0 c.parse.ensures.value.0 c.in_default.is) c.parse-2.ensures.value c.in-Ok-parse.is,
    )

pub returns-in-Err : goal.returns-in-Err
returns-in-Err c =
    let word = c.args.word.now in (
      no_path word c.contains.result c.contains.ensures.cases c.if-contains.false,
      unspelled word c.parse-2.result c.in-Err.field-0 (no_port word c.parse.result c.in_default.field-0 c.parse.ensures.value.0 c.in_default.is) c.parse-2.ensures.value c.in-Err.is,
    )
