-- The entry stands where the first is that was there.
use Rattle.std.proofs.Common.{◌≡◌, ◌∙◌, ◌+◌, ◌<◌, false, true, ap, arith, drop, get_or, length, option_map, sym}
use Rattle.std.proofs.lemmas.List.{drop_all, drop_more}
use Rattle.watch_machine.specs.declared.change.Was.TheVariants.{New}
use Rattle.watch_machine.specs.Change.{former, is_former, place_now}
use Rattle.watch_machine.proofs.Changing.{place_all, place_further, place_here}
use Rattle.watch_machine.proofs.change.place_now.Goals as goal

pub loop-index-init : goal.loop-index-init
loop-index-init c = sym (place_all (place_now c.args.was.now c.args.entry))

pub loop-index-preserved : goal.loop-index-preserved
loop-index-preserved c =
    let was = c.args.was.now in
    let i = c.args.entry in
    let k = c.loop-index.index in
    let within : k < length was = omega (arith, c.requires) in
    let other : is_former i (former (get_or was k New)) ≡ false =
    sym (c.is_former.ensures ∙ ap (is_former i) (c.former.ensures ∙ ap former c.was_at.ensures)) ∙ c.if-is_former.false in
    c.loop-index.invariant ∙ ap (λ ws. option_map (λ j. k + j) (place_now ws i)) (drop_more was k New within) ∙ place_further k (get_or was k New) (drop (k + 1) was) i other

pub returns-then-is_former : goal.returns-then-is_former
returns-then-is_former c =
    let was = c.args.was.now in
    let i = c.args.entry in
    let k = c.loop-index.index in
    let within : k < length was = omega (arith, c.requires) in
    let here : is_former i (former (get_or was k New)) ≡ true =
    sym (c.is_former.ensures ∙ ap (is_former i) (c.former.ensures ∙ ap former c.was_at.ensures)) ∙ c.if-is_former.true in
    sym (c.loop-index.invariant ∙ ap (λ ws. option_map (λ j. k + j) (place_now ws i)) (drop_more was k New within) ∙ place_here k (get_or was k New) (drop (k + 1) was) i here)

pub returns : goal.returns
unfolding place_now
returns c =
    let was = c.args.was.now in
    let k = c.loop-index.index in
    sym (c.loop-index.invariant ∙ ap (λ ws. option_map (λ j. k + j) (place_now ws c.args.entry)) (drop_all k was (omega (arith, c.requires))))
