-- A record that is refused is gone, unless its gate may be open.
use Rattle.std.proofs.Common.{List, ℕ, sym, subst, ◌∙◌}
use Rattle.std.proofs.lemmas.Bool.{true≢false}
use Rattle.base_disk.specs.State.{LeavesOnly}
use Rattle.base_journal.specs.{Records.StandsFor, Journals.CrashLeaves, Journals.path_of_journal}
use Rattle.base_journal.proofs.Steps.{on_refused}
use Rattle.base_journal.proofs.journal.Journal.put.Goals as goal

pub returns-in_err-write-clause-gone : goal.returns-in_err-write-clause-gone
returns-in_err-write-clause-gone g c = on_refused c.from_residual-in_err-write.result (λ closed known.
    let s = g.D.Disk.state in
    subst (λ (l : List (List ℕ)). LeavesOnly (s c.args.disk.now) (s c.write.new.disk) (CrashLeaves (path_of_journal c.args.self.now) (λ file. StandsFor file l) (s c.args.disk.now)))
    c.reserve.ensures.items (c.in_err-write.ensures.gone closed known))

pub returns-in_err-push-clause-gone : goal.returns-in_err-push-clause-gone
returns-in_err-push-clause-gone g c = on_refused c.from_residual-in_err-push.result (λ closed. absurd (true≢false (sym c.in_ok-write.ensures.opened ∙ closed)))
