-- What was read may not be served.
use Rattle.std.proofs.Common.{Option, subst, sym}
use Rattle.agent_words.specs.{Outcomes.Whys, Noting.SaysFaults, Noting.SaysIfFaulty}
use Rattle.agent_ledger.specs.Rereading.{AreBytesOf, IsWhyNotReread}
use Rattle.agent_ledger.proofs.WhyUnserved.{unserved_why}
use Rattle.agent_ledger.proofs.ledger.Ledger.judged.Goals as goal

pub returns-in-Ok-Some-clause-refused : goal.returns-in-Ok-Some-clause-refused
returns-in-Ok-Some-clause-refused g c =
    let old = c.args.self.now in
    let told = c.in-Ok.ensures in
    let bytes = c.list.result.now in
    let whys = c.in-Ok-Some.whys in
    let known = g.D.Disk.is_known in
    let seen = g.D.Disk.state in
    let says = subst (λ (w : Option Whys). SaysIfFaulty c.read.new.self.demands bytes w) c.in-Ok-Some.field-0-is c.in-Ok-Some.ensures in
    let by_old = subst (λ l. SaysFaults l.demands bytes whys.items) told.rest says in
    subst (λ (w : Whys). IsWhyNotReread known seen old.demands old.state w.items) (sym c.in-Ok-Some.whys-is)
    (unserved_why known seen old.demands old.state bytes whys.items (subst (AreBytesOf known seen old.state) (sym c.list.ensures) told.stand) by_old)
