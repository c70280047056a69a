-- The need that is given again is among those that come later.
use Rattle.std.proofs.Common.{rules, ◌≡◌, true, refl}
use Rattle.state_changes.specs.{declared.compaction.Needed.Needed, Compaction.is_need}
use Rattle.state_changes.proofs.Later.{given_again}
use Rattle.state_changes.proofs.compaction.is_given_again.Goals as goal

pub returns : goal.returns
returns c =
    let change = c.args.change.now in
    let key : Needed = record { name = c.in_ok-clone.field-0; was = c.in_ok-clone-2.field-0 } in
    let need : is_need change.what ≡ true = search rules in
    let named : key.name ≡ change.name = search rules in
    let worded : key.was ≡ change.was = search rules in
    λ records are.
    given_again c.args.later.now c.insert.new.self change key records _ c.in_ok-is_new.is_new need named worded c.in_ok-is_new.ensures.added refl c.in_ok-is_new.ensures.updates are
