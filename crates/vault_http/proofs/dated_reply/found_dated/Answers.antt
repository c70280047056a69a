-- The date of a head that was found is that of every input which goes on from it.
use Rattle.std.proofs.Common.{List, ℕ, subst}
use Rattle.vault_http.specs.Dates.{IsDateOfHead}
use Rattle.vault_http.proofs.Dated.{dated_headed}
use Rattle.vault_http.proofs.dated_reply.found_dated.Goals as goal

pub returns-in-Found : goal.returns-in-Found
returns-in-Found c =
    let told = subst (λ (bs : List ℕ). IsDateOfHead bs c.date_of-date.result) c.front_of.ensures c.date_of-date.ensures in
    dated_headed c.args.max c.args.bytes.now c.args.len c.args.status c.args.framing c.date_of-date.result c.requires.found told c.in-Found.size c.in-Found.reply c.in-Found.framing c.in-Found.ensures
