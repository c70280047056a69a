-- Where no token is told to be an orphan, the forest stays.
use Rattle.std.proofs.Common.{◌≡◌, ◌∙◌, ◌&&◌, true, false, not, ap, set, sym}
use Rattle.plan_forest.specs.{Forest.entry_at, Push.is_lease}
use Rattle.watch_machine.proofs.{Tests.not_false, Tests.not_true, View.not_orphaned, View.now_orphaned}
use Rattle.watch_machine.proofs.new_terms.take_orphan.Goals as goal

pub returns-then-not-terms : goal.returns-then-not-terms
returns-then-not-terms c =
    let g = c.args.forest.now in
    let h : c.args.terms.orphan ≡ false = not_true c.args.terms.orphan c.if-not-terms.true in
    let kept : (c.args.terms.orphan && not (is_lease (entry_at g.entries c.args.index).kind)) ≡ false = ap (λ b. b && not (is_lease (entry_at g.entries c.args.index).kind)) h in
    ap (λ es. record { entries = es; margin = g.margin }) (not_orphaned c.args.terms g.entries c.args.index kept)

pub returns-then-is_lease : goal.returns-then-is_lease
returns-then-is_lease c =
    let g = c.args.forest.now in
    let asked : c.args.terms.orphan ≡ true = not_false c.args.terms.orphan c.if-not-terms.false in
    let lease : is_lease (entry_at g.entries c.args.index).kind ≡ true = sym (c.is_lease.ensures ∙ ap (λ e. is_lease e.kind) c.get.ensures.value) ∙ c.if-is_lease.true in
    let kept : (c.args.terms.orphan && not (is_lease (entry_at g.entries c.args.index).kind)) ≡ false =
    ap (λ b. b && not (is_lease (entry_at g.entries c.args.index).kind)) asked ∙ ap not lease in
    ap (λ es. record { entries = es; margin = g.margin }) (not_orphaned c.args.terms g.entries c.args.index kept)

pub returns : goal.returns
returns c =
    let g = c.args.forest.now in
    let asked : c.args.terms.orphan ≡ true = not_false c.args.terms.orphan c.if-not-terms.false in
    let lease : is_lease (entry_at g.entries c.args.index).kind ≡ false = sym (c.is_lease.ensures ∙ ap (λ e. is_lease e.kind) c.get.ensures.value) ∙ c.if-is_lease.false in
    let lost : (c.args.terms.orphan && not (is_lease (entry_at g.entries c.args.index).kind)) ≡ true =
    ap (λ b. b && not (is_lease (entry_at g.entries c.args.index).kind)) asked ∙ ap not lease in
    c.orphan.ensures ∙ ap (λ e. record { entries = set g.entries c.args.index e; margin = g.margin }) (now_orphaned c.args.terms g.entries c.args.index lost)
