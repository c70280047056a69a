-- All over an entry last until a moment where the entry itself does and, if it has a parent, all over that do.
use Rattle.std.proofs.Common.{◌≡◌, ◌&&◌, ◌∙◌, Some, None, true, false, ap, arith, nat_le, sym}
use Rattle.std.proofs.lemmas.Bool.Decides.{nat_tests}
use Rattle.plan_forest.specs.{declared.entry.Entry.Entry, Forest.end_of, Forest.entry_at, Renewal.all_last}
use Rattle.plan_forest.proofs.{Chains.all_last_child, Chains.all_last_head, Chains.all_last_root, Placed.parents_first}
use Rattle.plan_rule.proofs.rule.+all_last.Goals as goal

pub returns-then-entry-moment : goal.returns-then-entry-moment
unfolding end_of
returns-then-entry-moment t c =
    let es = c.args.forest.now.entries in
    let end : c.get-entry.result.now.end ≡ (entry_at es c.args.index).end = ap (λ (e : Entry). e.end) c.get-entry.ensures.value in
    let short : nat_le c.args.moment (entry_at es c.args.index).end ≡ false = grind (arith, nat_tests, c.if-entry-moment.true) in
    sym (all_last_head es (end_of es) c.args.moment c.args.index short)

pub returns-in-None : goal.returns-in-None
unfolding end_of
returns-in-None t c =
    let es = c.args.forest.now.entries in
    let end : c.get-entry.result.now.end ≡ (entry_at es c.args.index).end = ap (λ (e : Entry). e.end) c.get-entry.ensures.value in
    let last : nat_le c.args.moment (entry_at es c.args.index).end ≡ true = grind (arith, nat_tests, c.if-entry-moment.false) in
    let root : (entry_at es c.args.index).parent ≡ None = sym (ap (λ (e : Entry). e.parent) c.get-entry.ensures.value) ∙ c.in-None.is in
    sym (all_last_root es (end_of es) c.args.moment c.args.index root ∙ last)

pub returns-in-Some : goal.returns-in-Some
unfolding end_of
returns-in-Some t c =
    let es = c.args.forest.now.entries in
    let end : c.get-entry.result.now.end ≡ (entry_at es c.args.index).end = ap (λ (e : Entry). e.end) c.get-entry.ensures.value in
    let last : nat_le c.args.moment (entry_at es c.args.index).end ≡ true = grind (arith, nat_tests, c.if-entry-moment.false) in
    let child : (entry_at es c.args.index).parent ≡ Some c.in-Some.parent = sym (ap (λ (e : Entry). e.parent) c.get-entry.ensures.value) ∙ c.in-Some.is in
    c.all_last.ensures ∙ sym (all_last_child es (end_of es) c.args.moment c.args.index c.in-Some.parent (parents_first c.args.forest.now c.get-entry.ensures.sound) child
    ∙ ap (λ b. b && all_last es (end_of es) c.args.moment c.in-Some.parent) last)
