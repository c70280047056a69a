-- The line about the copy.
use Rattle.std.proofs.Common.{◌≡◌, ◌∙◌, ◌++◌, List, ℕ, [], ◌∷◌, OnOk, ap, codes, subst}
use Rattle.agent_words.specs.declared.said.About.TheVariants as abouts
use Rattle.base_log.specs.declared.level.Level.TheVariants as levels
use Rattle.agent_system.specs.Saying.{said_as}
use Rattle.agent_start.proofs.folder.say_copy.Goals as goal

pub returns-in_ok-text : goal.returns-in_ok-text
returns-in_ok-text c =
    rw c.in-Some.is (rw c.if-is_good.true
    (subst (λ (t : List ℕ). OnOk c.push.result (c.push.new.said.items ≡ c.args.said.now.items ++ said_as levels.Warning abouts.Copy t ∷ []))
    (c.in_ok-text.ensures ∙ ap (λ (w : List ℕ). codes "of the file could not be kept: " ++ w) c.disk_words-words.ensures) c.push.ensures))

pub returns-in_ok-text-2 : goal.returns-in_ok-text-2
returns-in_ok-text-2 c =
    rw c.in-Some.is (rw c.if-is_good.false
    (subst (λ (t : List ℕ). OnOk c.push-else-is_good.result (c.push-else-is_good.new.said.items ≡ c.args.said.now.items ++ said_as levels.Alert abouts.Copy t ∷ []))
    (c.in_ok-text-2.ensures ∙ ap (λ (w : List ℕ). codes "could not be synced, and no change is taken: " ++ w) c.disk_words-words-else-is_good.ensures) c.push-else-is_good.ensures))
