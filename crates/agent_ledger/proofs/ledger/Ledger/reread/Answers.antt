-- The file may be served, and is read with every change; or it is none with them.
use Rattle.std.proofs.Common.{ℕ, List, subst, sym}
use Rattle.agent_words.specs.Reading.{IsWellWritten}
use Rattle.agent_ledger.specs.Rereading.{AreBytesOf}
use Rattle.agent_ledger.proofs.WhyUnserved.{none_as, reread_as, touched}
use Rattle.agent_ledger.proofs.ledger.Ledger.reread.Goals as goal

pub returns-in-Ok : goal.returns-in-Ok
returns-in-Ok g c =
    let known = g.D.Disk.is_known in
    let demands = c.args.self.now.demands in
    let old = c.args.self.now.state in
    let told = c.in_ok-bytes.ensures in
    let is = c.list.ensures in
    let did = c.in-Ok.ensures in (
      reread_as known g.D.Disk.state demands c.args.now c.list.result.now c.in-Ok.reread old c.judged.new.self.state c.reloaded.new.self.state
          (subst (λ (b : List ℕ). AreBytesOf known g.D.Disk.state old b) (sym is) told.stand)
          (subst (λ (b : List ℕ). AreBytesOf known g.D.Disk.state c.judged.new.self.state b) (sym is) told.left) (subst (λ (b : List ℕ). IsWellWritten demands b) (sym is) told.written)
          told.keeper told.places did.reloaded did.copied did.lines did.file did.waiting,
      touched c.args.self.now c.judged.new.self c.reloaded.new.self told.rest did.rest,
    )

pub returns : goal.returns
returns g c =
    let known = g.D.Disk.is_known in
    let old = c.args.self.now.state in
    let told = c.in_ok-bytes.ensures in
    let did = c.in-Err.ensures in (
      none_as known g.D.Disk.state c.args.self.now.demands c.args.now c.list.result.now c.in-Err.why c.one_why.result old c.judged.new.self.state c.reloaded.new.self.state
          (subst (λ (b : List ℕ). AreBytesOf known g.D.Disk.state old b) (sym c.list.ensures) told.stand) told.keeper did.why c.one_why.ensures did.refused,
      touched c.args.self.now c.judged.new.self c.reloaded.new.self told.rest did.rest,
    )
