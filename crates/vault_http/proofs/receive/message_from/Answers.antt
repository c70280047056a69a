-- An answer that stands for every input that goes on is that of the whole input; and where there is none, more is rightly
-- waited for.
use Rattle.std.proofs.Common.{◌≡◌, ℕ, List, [], ◌++◌, arith, IsTrue, not, refl, sym, ◌∙◌, subst, rules}
use Rattle.std.proofs.lemmas.Bool.{not-true}
use Rattle.std.specs.Io.KnownBytes.{Keeps}
use Rattle.vault_http.specs.{Holding.HandedNone, Known.StaysKnown, Messages.UnlessMemory}
use Rattle.vault_http.proofs.{MessageLemmas.settled, MessageLemmas.counted, Waiting.handed_none, Waiting.known_on, Waiting.late, Waiting.waited}
use Rattle.vault_http.proofs.receive.message_from.Goals as goal

pub go_on-requires : goal.go_on-requires
go_on-requires g c =
    let max = c.args.max in
    let grown = c.in_ok-some.ensures.grown in record {
      known = subst (λ t. StaysKnown g.M.Message.has_no_head (g.M.Message.is_answer max) g.M.Message.with_body max t c.loop.known) (sym (c.deref.ensures.value ∙ grown.1))
          (known_on g.M.Message.has_no_head (g.M.Message.is_answer max) g.M.Message.with_body max c.loop.bytes.items grown.0 c.loop.known c.loop.invariant.known);
    }

pub returns-in-Done-clause-answer : goal.returns-in-Done-clause-answer
returns-in-Done-clause-answer g c =
    let IsAnswer = g.M.Message.is_answer c.args.max in
    let first = (g.R.Device.seen c.args.reader.now).input.remaining in
    let judged = subst (λ t. (more : List ℕ) → (IsTrue (not c.in_ok-some.some) → more ≡ []) → UnlessMemory c.in-Done.answer (IsAnswer (t ++ more) c.in-Done.answer))
    c.deref.ensures.value c.in-Done.ensures.answer in
    settled g.M.Message.has_no_head IsAnswer first (g.R.Device.seen c.read_more.new.source).input.remaining c.read_more.new.bytes.items (not c.in_ok-some.some) c.in-Done.answer
    (g.R.Device.seen c.args.reader.now).input.reads_left (g.R.Device.seen c.read_more.new.source).input.reads_left
    (c.in_ok-some.ensures.given first c.loop.invariant.given) (λ e. (c.in_ok-some.ensures.end (not-true c.in_ok-some.some e)).0) judged

pub returns-in-Done-clause-count : goal.returns-in-Done-clause-count
returns-in-Done-clause-count g c =
    let bytes = c.deref.result.now ++ [] in
    counted g.M.Message.has_no_head (g.M.Message.is_answer c.args.max) c.in-Done.answer bytes (g.R.Device.seen c.args.reader.now).failed_calls (g.R.Device.seen c.read_more.new.source).failed_calls
    (c.laws.ensures.never c.args.max bytes) (c.in-Done.ensures.answer [] (λ e. refl)) (c.in_ok-some.ensures.count ∙ c.loop.invariant.count)

pub returns-in_err-some-clause-prompt : goal.returns-in_err-some-clause-prompt
returns-in_err-some-clause-prompt g c =
    let max = c.args.max in
    let IsAnswer = g.M.Message.is_answer max in
    let wait = waited g.M.Message.has_no_head IsAnswer g.M.Message.with_body max c.loop.bytes.items c.loop.known (λ m. c.laws.ensures.message max c.loop.bytes.items m)
    c.loop.invariant.known c.loop.invariant.current in
    let given : Keeps (g.R.Device.seen c.loop.reader).input.remaining (g.R.Device.seen c.read_more.new.source).input.remaining
    → HandedNone g.M.Message.has_no_head IsAnswer (g.R.Device.seen c.args.reader.now).input.remaining (g.R.Device.seen c.read_more.new.source).input.remaining =
    λ kept. handed_none g.M.Message.has_no_head IsAnswer (g.R.Device.seen c.args.reader.now).input.remaining (g.R.Device.seen c.loop.reader).input.remaining (g.R.Device.seen c.read_more.new.source).input.remaining
    c.loop.bytes.items c.loop.invariant.given kept wait in
    search rules

pub returns-clause-answer : goal.returns-clause-answer
returns-clause-answer g c =
    let max = c.args.max in
    let IsAnswer = g.M.Message.is_answer max in
    let wait = waited g.M.Message.has_no_head IsAnswer g.M.Message.with_body max c.loop.bytes.items c.loop.known (λ m. c.laws.ensures.message max c.loop.bytes.items m)
    c.loop.invariant.known c.loop.invariant.current in
    late g.M.Message.has_no_head IsAnswer (g.R.Device.seen c.args.reader.now).input.remaining (g.R.Device.seen c.loop.reader).input.remaining c.loop.bytes.items
    c.loop.counter (g.R.Device.seen c.args.reader.now).input.reads_left (g.R.Device.seen c.loop.reader).input.reads_left (omega (arith, c.loop-test.false)) c.loop.invariant.given wait c.loop.invariant.pace c.loop.invariant.last
