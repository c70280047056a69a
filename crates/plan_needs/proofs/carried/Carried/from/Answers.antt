-- A carried need of 0 comes from no entry, and every other from the entry that the load names.
use Rattle.std.proofs.Common.{◌≡◌, ◌==◌, ◌∙◌, Some, None, true, false, cond, ap, arith, sym}
use Rattle.std.proofs.lemmas.Bool.Decides.{nat_tests}
use Rattle.plan_needs.specs.Carried.{CarriedNeed}
use Rattle.plan_needs.proofs.Loads.{seen_read}
use Rattle.plan_needs.proofs.carried.Carried.from.Goals as goal

pub returns-then-load-eq0 : goal.returns-then-load-eq0
returns-then-load-eq0 c =
    let l = c.index-load.result.now in
    let none : (l.need == 0) ≡ true = grind (arith, nat_tests, c.if-load-eq0.true) in
    ap (λ b. cond b None (Some l.from)) (sym none)
    ∙ ap (λ (n : CarriedNeed). n.from) (seen_read c.self.inside.loads.items c.args.self.now c.args.index l c.self.view_is c.requires c.index-load.ensures)

pub returns-else-load-eq0 : goal.returns-else-load-eq0
returns-else-load-eq0 c =
    let l = c.index-load.result.now in
    let some : (l.need == 0) ≡ false = grind (arith, nat_tests, c.if-load-eq0.false) in
    ap (λ b. cond b None (Some l.from)) (sym some)
    ∙ ap (λ (n : CarriedNeed). n.from) (seen_read c.self.inside.loads.items c.args.self.now c.args.index l c.self.view_is c.requires c.index-load.ensures)
