-- The law of keeping entry by entry: an entry is kept with the Asks exactly where each entry over it, asked by itself,
-- lasts until its need.
use Rattle.std.proofs.Common.{ℕ, ◌+◌, ◌<◌, ◌≤◌, List, arith}
use Rattle.plan_forest.specs.{declared.entry.Entry.Entry, Forest.Forest, Forest.entry_at, Over.Over, Push.IsForest}
use Rattle.plan_forest.proofs.{Carrying.carried_at_least, Carrying.over_up, Chains.ParentsFirst, Placed.parents_first}
use Rattle.plan_rule.specs.Asks.{with_asks}
use Rattle.plan_rule.proofs.{Keeping.IsRising, Covering.IsNeeded, Schedule.rising_strictly, Timely.timely_lasts}
use Rattle.plan_check.specs.Laws.{KeptToLaw}
use Rattle.plan_check.specs.Kept.{KeptTo, own, own_end}
use Rattle.plan_check.proofs.{OwnEnds.own_timely_first, Bounded.kept_lasts}

-- the entries over i, each with the need of i
over_needed : (es : List Entry) → ParentsFirst es → (s i : ℕ) → s < (entry_at es i).need → IsNeeded es s (λ a. Over es a i) (λ a. (entry_at es i).need)
over_needed es first s i later = record {
  up = λ b a over up. over_up es first (i + 1) b a i (omega arith) up over;
  more = λ b a over up. omega arith;
  carries = λ a over. carried_at_least es s a i over later;
}

lasts_kept :
    (g : Forest) → IsForest g → (s i : ℕ) → s < (entry_at g.entries i).need → (ends : ℕ → ℕ) (ts : List ℕ) → IsRising s ts →
    ((a : ℕ) → Over g.entries a i → (entry_at g.entries i).need ≤ own_end (entry_at g.entries a) g.margin (ends a) ts) →
    KeptTo g.entries g.margin s ends (with_asks g.entries g.margin s ends ts) i (entry_at g.entries i).need
lasts_kept g forest s i later ends ts rising lasts m start before a over =
    let es = g.entries in
    let n = (entry_at es i).need in
    timely_lasts es g.margin s forest.margin_above (λ b. Over es b i) (λ b. n) (over_needed es (parents_first g forest) s i later) ends ts rising
    (λ b there. own_timely_first (entry_at es b) g.margin (ends b) n s ts rising (lasts b there)) a m over start before

pub kept_law : KeptToLaw
unfolding own
kept_law g s ends ts forest rises i later =
    let rising = rising_strictly s ts rises in
    (λ kept. kept_lasts g.entries g.margin s ends ts rising i (entry_at g.entries i).need later kept, λ lasts. lasts_kept g forest s i later ends ts rising lasts)
