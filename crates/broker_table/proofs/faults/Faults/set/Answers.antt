-- A fault that is given is found at its number, and stands after those that were given before.
use Rattle.std.proofs.Common.{◌≡◌, ◌∙◌, ◌++◌, ◌∷◌, [], ◌+◌, ◌≤◌, List, ap, arith, is_ok, sym, true, vec_capacity, vec_len}
use Rattle.std.proofs.lemmas.Bool.{cond-true}
use Rattle.broker_rule.specs.declared.fault.NumberedFault.{NumberedFault}
use Rattle.broker_table.proofs.Pending.{pushed_faults, pushed_numbered}
use Rattle.broker_table.proofs.faults.Faults.set.Goals as goal

pub invariant_of-self-2 : goal.invariant_of-self-2
invariant_of-self-2 c =
    let fields = c.self.inside in
    let f : NumberedFault = record { number = c.args.number; fault = c.args.fault } in
    let room : vec_len c.reserve.new.self + 1 ≤ vec_capacity c.reserve.new.self = c.in_ok-reserve.ensures.ok in
    let pushed : is_ok c.push.result ≡ true = c.push.ensures.succeeds (omega (arith, room)) in
    let items : c.push.new.self.items ≡ fields.given.items ++ f ∷ [] =
    c.push.ensures.items ∙ cond-true (is_ok c.push.result) _ _ pushed ∙ ap (λ (fs : List NumberedFault). fs ++ f ∷ []) c.in_ok-reserve.ensures.items in
    pushed_numbered fields.given.items c.push.new.self.items fields.count f c.args.self.now fields.by_number c.insert.new.self items (sym c.in_default.ensures) c.self.view_is c.self.invariant c.in_ok-insert.ensures.updates

pub returns-clause-taken : goal.returns-clause-taken
returns-clause-taken c =
    let fields = c.self.inside in
    let f : NumberedFault = record { number = c.args.number; fault = c.args.fault } in
    let room : vec_len c.reserve.new.self + 1 ≤ vec_capacity c.reserve.new.self = c.in_ok-reserve.ensures.ok in
    let pushed : is_ok c.push.result ≡ true = c.push.ensures.succeeds (omega (arith, room)) in
    let items : c.push.new.self.items ≡ fields.given.items ++ f ∷ [] =
    c.push.ensures.items ∙ cond-true (is_ok c.push.result) _ _ pushed ∙ ap (λ (fs : List NumberedFault). fs ++ f ∷ []) c.in_ok-reserve.ensures.items in
    pushed_faults fields.given.items c.push.new.self.items fields.count f c.args.self.now items (sym c.in_default.ensures) c.self.view_is
