-- An entry is alive until a moment and its need exactly where it lasts until the sooner of the two.
use Rattle.std.proofs.Common.{◌≡◌, ◌∙◌, ◌+◌, ◌-◌, ◌<◌, ◌≤◌, ap, arith, get_or, inl, inr, length, nat_le, refl, subst, sym, true}
use Rattle.std.proofs.lemmas.{Bool.cases_eq, Bool.cases_lt, Bool.Decides.nat_tests}
use Rattle.plan_forest.specs.{declared.entry.Entry.Entry, Forest.entry_at, Renewal.all_last}
use Rattle.plan_forest.proofs.Entries.{entry_at_past}
use Rattle.plan_rule.specs.Keeps.{Alive}
use Rattle.plan_rule.proofs.Alive.{alive_from_last, last_from_alive}
use Rattle.plan_rule.proofs.replay.lasts_between.Goals as goal
use Rattle.plan_rule.proofs.replay.lasts_between.Goals.{else-from-until-via-then-from-until+else-lasts-index, else-from-until-via-else-from-until}

pub returns-then-lasts-index-clause-between : goal.returns-then-lasts-index-clause-between
returns-then-lasts-index-clause-between c = λ ends carried.
    let es = c.args.forest.now.entries in
    let i = c.loop-index.index in
    let m = c.min-until.result - 1 in
    let need : c.get.result.now.need ≡ (entry_at es i).need = ap (λ (e : Entry). e.need) c.get.ensures.value in
    let within : i < length es = omega (arith, c.len-index-end.ensures.value) in (
      λ t. absurd cc,
      λ kept. absurd (
          let last : all_last es ends (m + 1) i ≡ true = last_from_alive es ends m i (kept i m (omega (arith, c.min-until.ensures)) (omega (arith, c.min-until.ensures)) (omega (arith, c.min-until.ensures))) in
          let lasts : nat_le (m + 1) (get_or c.args.lasts.now i 0) ≡ true = carried.least i (m + 1) within ∙ last in
          let le : m + 1 ≤ get_or c.args.lasts.now i 0 = grind (arith, nat_tests) in
          omega (arith, c.min-until.ensures)),
    )

pub loop-index-preserved : goal.loop-index-preserved
loop-index-preserved c = λ ends carried k m below from to needed.
    let es = c.args.forest.now.entries in
    let i = c.loop-index.index in
    let need : c.get.result.now.need ≡ (entry_at es i).need = ap (λ (e : Entry). e.need) c.get.ensures.value in
    let within : i < length es = omega (arith, c.len-index-end.ensures.value) in
    elim (cases_eq k i) [
      | inl same ↦
          let here : m < (entry_at es i).need = subst (λ n. m < (entry_at es n).need) same needed in
          let lasts : m + 1 ≤ get_or c.args.lasts.now i 0 = elim c.else-from-until.branch [
            | else-from-until-via-then-from-until+else-lasts-index w ↦ omega (arith, c.min-until.ensures)
            | else-from-until-via-else-from-until w ↦ omega (arith, c.min-until.ensures)
          ] in
          let test : nat_le (m + 1) (get_or c.args.lasts.now i 0) ≡ true = grind (arith, nat_tests) in
          subst (λ n. Alive es ends m n) (sym same) (alive_from_last es ends m i (sym (carried.least i (m + 1) within) ∙ test))
      | inr other ↦ c.loop-index.invariant ends carried k m (omega arith) from to needed
    ]

pub returns-clause-between : goal.returns-clause-between
returns-clause-between c = λ ends carried.
    let es = c.args.forest.now.entries in (
      λ t i m from to need.
          elim (cases_lt i (length es)) [
            | inl within ↦ c.loop-index.invariant ends carried i m (omega (arith, c.len-index-end.ensures.value)) from to need
            | inr past ↦ absurd (let none : (entry_at es i).need ≡ 0 = ap (λ (e : Entry). e.need) (entry_at_past es i past) in omega arith)
          ],
      λ kept. refl,
    )
