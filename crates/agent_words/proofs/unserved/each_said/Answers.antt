-- The words of the first of those to come are said.
use Rattle.std.proofs.Common.{◌≡◌, ◌∙◌, ◌++◌, ◌∷◌, ◌+◌, List, ℕ, [], ap, append-nil, append_assoc, arith, drop, get_or, map, sym}
use Rattle.std.proofs.lemmas.{Grind.common_steps, List.drop_more}
use Rattle.vault_inventory.specs.declared.fault.InvFault.TheVariants.{NotToml}
use Rattle.agent_words.specs.{Reasons.file_words, declared.fault.StartFault.StartFault, declared.fault.StartFault.TheVariants.Inventory}
use Rattle.agent_words.proofs.unserved.each_said.Goals as goal

pub loop-place-preserved : goal.loop-place-preserved
loop-place-preserved c =
    let at = c.loop-place.place in
    let faults = c.args.faults.now in
    let said = c.loop-place.whys.items in
    let words = file_words c.args.demands c.args.forest.now in
    let fault = get_or faults at (Inventory NotToml) in
    let later = map words (drop (at + 1) faults) in
    let e = drop_more faults at (Inventory NotToml) c.loop-place-test.true in
    ap (λ (l : List (List ℕ)). l ++ later) (c.in_ok-push.ensures.items ∙ ap (λ (w : List ℕ). said ++ w ∷ []) c.in_ok-words_of_one.ensures)
    ∙ append_assoc said (words fault ∷ []) later
    ∙ sym (ap (λ (fs : List StartFault). said ++ map words fs) e)
    ∙ c.loop-place.invariant

pub returns : goal.returns
returns c =
    let e : drop c.loop-place.place c.args.faults.now ≡ [] = grind (arith, common_steps) in
    sym (append-nil c.loop-place.whys.items) ∙ sym (ap (λ (fs : List StartFault). c.loop-place.whys.items ++ map (file_words c.args.demands c.args.forest.now) fs) e) ∙ c.loop-place.invariant
