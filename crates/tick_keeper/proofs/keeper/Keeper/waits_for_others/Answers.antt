-- Others are waited for exactly where more than one answer is left.
use Rattle.std.proofs.Common.{◌∙◌, ◌<◌, ap, arith, length, nat_lt, refl, sym}
use Rattle.tick_keeper.specs.{code.Keeping.seen_round, code.Keeping.waited_for, State.CoreState, Step.without_index}
use Rattle.tick_keeper.proofs.Hearing.{waited_less, waited_set}
use Rattle.tick_keeper.proofs.Heard.{flag_waits, one_more, others_are}
use Rattle.tick_keeper.proofs.keeper.Keeper.waits_for_others.Goals as goal

pub returns-in-Some : goal.returns-in-Some
returns-in-Some c =
    let i = c.args.i in
    let r = c.in-Some.round in
    let flags = r.waiting.items in
    let opened = c.self.invariant.open_round r c.in-Some.is in
    let same = ap (λ (s : CoreState). length s.forest.entries) c.self.view_is in
    let within = c.requires.within in
    let there : i < length flags = (let count = opened.count in omega arith) in
    let is = sym (ap (λ (s : CoreState). s.round) c.self.view_is) ∙ ap seen_round c.in-Some.is in
    let waits = flag_waits flags c.args.self.now.round r.at i there is c.requires.asked in
    let less = waited_less flags i there waits in
    let fewer = ap length (waited_set flags i there) in
    let left = opened.left in
    one_more r.left (length (without_index i (waited_for flags))) (omega arith) ∙ ap (nat_lt 0) (sym (others_are c.args.self.now.round r i i is refl))
