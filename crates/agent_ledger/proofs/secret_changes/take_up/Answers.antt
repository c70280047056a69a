-- What was read is taken, kept and told.
use Rattle.std.proofs.Common.{◌≡◌, ◌∙◌, ℕ, List, ap}
use Rattle.state_secrets.specs.{Looking.is_held, Looking.seen_of, Outcomes.news_about, declared.looking.FileMark.FileMark}
use Rattle.state_keeping.specs.States.{book_in}
use Rattle.state_changes.specs.declared.secret.Secret.{Secret}
use Rattle.agent_ledger.proofs.TakenUp.{taken_up}
use Rattle.agent_ledger.proofs.secret_changes.take_up.Goals as goal

pub returns : goal.returns
returns g c =
    let due = c.args.due in
    let marks = c.args.looking.now.marks.items in
    let secrets = (book_in c.args.state.now).secrets in
    let seen : c.seen_of-before.result ≡ seen_of marks due.name due.file =
    c.seen_of-before.ensures ∙ ap (λ (m : List FileMark). seen_of m c.list.result.now c.list-2.result.now) c.deref.ensures.value
    ∙ ap (λ (n : List ℕ). seen_of marks n c.list-2.result.now) c.list.ensures ∙ ap (λ (f : List ℕ). seen_of marks due.name f) c.list-2.ensures in
    let held : c.is_held-was_held.result ≡ is_held secrets due.name due.file =
    c.is_held-was_held.ensures ∙ ap (λ (s : List Secret). is_held s c.list-3.result.now c.list-4.result.now) c.secrets.ensures
    ∙ ap (λ (n : List ℕ). is_held secrets n c.list-4.result.now) c.list-3.ensures ∙ ap (λ (f : List ℕ). is_held secrets due.name f) c.list-4.ensures in
    taken_up c.args.now due c.args.held c.args.looking.now c.note.new.self c.args.state.now c.take_held.new.state
    c.seen_of-before.result c.is_held-was_held.result c.in-Ok-take_held.became c.seen_after-seen.result c.news_of-what.result c.news_about.result
    seen held c.in-Ok-take_held.ensures.taken c.news_of-what.ensures c.seen_after-seen.ensures c.note.ensures
    (c.news_about.ensures ∙ ap (λ (n : List ℕ). news_about n c.news_of-what.result) c.in-Ok.ensures.cases) c.take_held.ensures.disk
