-- Where no byte may be read, the answer stands before any is.
use Rattle.std.proofs.Common.{◌≡◌, ℕ, List, [], ◌++◌, false, IsTrue, ◌∙◌, refl, subst}
use Rattle.std.proofs.KnownBytes.{Consumes-nil}
use Rattle.vault_http.specs.Messages.{UnlessMemory}
use Rattle.vault_http.proofs.MessageLemmas.{not_failed, settled}
use Rattle.vault_http.proofs.receive.read_message.Goals as goal

pub returns-in-Done-clause-answer : goal.returns-in-Done-clause-answer
returns-in-Done-clause-answer g c =
    let IsAnswer = g.M.Message.is_answer c.args.max in
    let first = (g.R.Device.seen c.args.reader.now).input.remaining in
    let left = (g.R.Device.seen c.args.reader.now).input.reads_left in
    let judged = subst (λ t. (more : List ℕ) → (IsTrue false → more ≡ []) → UnlessMemory c.in-Done.answer (IsAnswer (t ++ more) c.in-Done.answer))
    (c.deref.ensures.value ∙ c.new-bytes.ensures.items) c.in-Done.ensures.answer in
    settled g.M.Message.has_no_head IsAnswer first first [] false c.in-Done.answer left left (Consumes-nil first) (λ e. absurd (cc e)) judged

pub returns-in-Done-clause-prompt : goal.returns-in-Done-clause-prompt
returns-in-Done-clause-prompt g c = λ e.
    let bytes = c.deref.result.now ++ [] in
    absurd (not_failed g.M.Message.has_no_head (g.M.Message.is_answer c.args.max) c.in-Done.answer bytes (c.laws.ensures.never c.args.max bytes) (c.in-Done.ensures.answer [] (λ f. refl)) e)
