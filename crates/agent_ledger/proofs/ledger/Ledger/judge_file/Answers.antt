-- The entry still names the file, and what that holds is taken or refused by the verdict.
use Rattle.std.proofs.Common.{◌≡◌, ◌∙◌, ℕ, List, Result, true, ap, inr, subst, sym}
use Rattle.vault_asking.specs.Sending.{lanes_of}
use Rattle.state_changes.specs.{Rows.named, declared.row.Row.Row}
use Rattle.state_secrets.specs.{Outcomes.names_file, declared.looking.SecretTrouble.SecretTrouble}
use Rattle.state_keeping.specs.States.{book_in}
use Rattle.agent_ledger.specs.Takings.{TakesBeside}
use Rattle.agent_ledger.proofs.ledger.Ledger.judge_file.Goals as goal

pub returns : goal.returns
returns g c =
    let rows = (book_in c.args.self.now.state).rows in
    let due = c.args.asked.due in
    let names : names_file (named rows due.name) due.file ≡ true =
    sym (c.names_file.ensures ∙ ap (λ (r : List Row). names_file (named r c.list.result.now) c.list-2.result.now) c.rows.ensures
    ∙ ap (λ (n : List ℕ). names_file (named rows n) c.list-2.result.now) c.list.ensures ∙ ap (λ (f : List ℕ). names_file (named rows due.name) f) c.list-2.ensures)
    ∙ c.if-not-names_file.false in
    inr (
      names,
      subst (λ (h : Result (List ℕ) SecretTrouble).
          TakesBeside g.I.SecretFiles.calls (λ lanes. lanes_of (g.L.Lanes.behind lanes) (g.L.Lanes.out lanes) (g.L.Lanes.seconds lanes)) g.L.Lanes.host_port c.args.now c.take_beside.result due h c.args.self.now c.take_beside.new.self) c.judged.ensures c.take_beside.ensures,
    )
