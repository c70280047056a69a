-- Those that a wake-up asks are entries, and each gets its end by what lasted before the wake-up.
use Rattle.std.proofs.Common.{◌<◌, ◌+◌, ℕ, ap, arith, get_or, length, refl, set, subst, sym}
use Rattle.std.proofs.lemmas.List.{take_all}
use Rattle.plan_rule.specs.code.Replay.{shown_ends}
use Rattle.plan_rule.proofs.{Lists.read_within, Rounds.ServedTo, Rounds.served_all, Rounds.served_more}
use Rattle.plan_rule.proofs.replay.renew.Goals as goal

pub loop-index-init : goal.loop-index-init
unfolding shown_ends
loop-index-init c = λ k. refl

pub bounds-lasts-i : goal.bounds-lasts-i
bounds-lasts-i c =
    let h = read_within (length c.args.forest.now.entries) c.args.wake.now.asked c.list-index-items.result.now c.loop-index.index-index c.list-index-items.ensures c.requires.asked (omega arith) in
    omega (arith, c.requires.lasts.count)

pub bounds-ends-i : goal.bounds-ends-i
bounds-ends-i c =
    let h = read_within (length c.args.forest.now.entries) c.args.wake.now.asked c.list-index-items.result.now c.loop-index.index-index c.list-index-items.ensures c.requires.asked (omega arith) in
    omega arith

pub renewed_end-requires : goal.renewed_end-requires
renewed_end-requires c = read_within (length c.args.forest.now.entries) c.args.wake.now.asked c.list-index-items.result.now c.loop-index.index-index c.list-index-items.ensures c.requires.asked (omega arith)

pub bounds-ends-i-in-loop-index : goal.bounds-ends-i-in-loop-index
bounds-ends-i-in-loop-index c =
    let h = read_within (length c.args.forest.now.entries) c.args.wake.now.asked c.list-index-items.result.now c.loop-index.index-index c.list-index-items.ensures c.requires.asked (omega arith) in
    omega arith

pub loop-index-preserved : goal.loop-index-preserved
loop-index-preserved c =
    let es = c.args.forest.now.entries in
    let margin = c.args.forest.now.margin in
    let asked = c.args.wake.now.asked in
    let items = c.list-index-items.result.now in
    let now = c.loop-index.ends in
    let i = c.loop-index.index-index in
    let j = get_or items i 0 in
    let entry : j < length es = read_within (length es) asked items i c.list-index-items.ensures c.requires.asked (omega arith) in
    let l = ap length c.list-index-items.ensures in
    let served = served_more es margin c.args.ends.now c.args.lasts.now c.args.wake.now.at asked now i j (omega arith) (ap (λ xs. get_or xs i 0) c.list-index-items.ensures) (omega arith) entry c.requires.lasts c.loop-index.invariant in
    let Goal : ℕ → Type 0 = λ v. ServedTo es margin c.args.ends.now c.args.wake.now.at asked (set now j v) (i + 1) in
    subst Goal (sym c.renewed_end.ensures) served

pub returns : goal.returns
returns c =
    let es = c.args.forest.now.entries in
    let w = c.args.wake.now in
    let now = c.loop-index.ends in
    served_all es c.args.forest.now.margin c.args.ends.now w now c.loop-index.index-index (take_all c.loop-index.index-index w.asked (let l = ap length c.list-index-items.ensures in omega arith)) c.loop-index.invariant
