-- The flag of an entry says whether the round waits for it, and past the flags nobody is waited for.
use Rattle.std.proofs.Common.{◌≡◌, ◌∙◌, ◌<◌, ◌≤◌, ap, arith, false, length, nat_lt, sym}
use Rattle.std.proofs.lemmas.{Bool.Decides.nat_tests, List.get_or_past, List.get_or_read}
use Rattle.tick_keeper.specs.{code.Keeping.flag_of, code.Keeping.seen_round, Refusal.waits_for, State.CoreState}
use Rattle.tick_keeper.proofs.Waiting.{waits_flag}
use Rattle.tick_keeper.proofs.keeper.Keeper.waits_for.Goals as goal

pub returns-then-i-len : goal.returns-then-i-len
returns-then-i-len c =
    let i = c.args.i in
    let flags = c.in-Some.round.waiting.items in
    let count = (c.self.invariant.open_round c.in-Some.round c.in-Some.is).count in
    let within : i < length flags = omega (arith, c.if-i-len.true, c.len.ensures.value) in
    let round = sym (ap seen_round c.in-Some.is) ∙ ap (λ (s : CoreState). s.round) c.self.view_is in
    get_or_read flags i c.index.result.now within c.index.ensures false ∙ sym (waits_flag flags i) ∙ ap (λ o. waits_for o i) round

pub returns-else-i-len : goal.returns-else-i-len
returns-else-i-len c =
    let i = c.args.i in
    let flags = c.in-Some.round.waiting.items in
    let count = (c.self.invariant.open_round c.in-Some.round c.in-Some.is).count in
    let past : length flags ≤ i = omega (arith, c.if-i-len.false, c.len.ensures.value) in
    let none : flag_of flags i ≡ false = get_or_past flags i false past in
    let round = sym (ap seen_round c.in-Some.is) ∙ ap (λ (s : CoreState). s.round) c.self.view_is in
    let last : c.len.result ≤ i = c.if-i-len.false in
    let test : nat_lt i c.len.result ≡ false = grind (arith, nat_tests) in
    test ∙ sym none ∙ sym (waits_flag flags i) ∙ ap (λ o. waits_for o i) round
