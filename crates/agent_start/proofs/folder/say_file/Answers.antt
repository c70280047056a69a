-- The line about the file.
use Rattle.std.proofs.Common.{◌≡◌, ◌++◌, List, ℕ, [], ◌∷◌, OnOk, subst}
use Rattle.agent_words.specs.declared.said.About.TheVariants as abouts
use Rattle.base_log.specs.declared.level.Level.TheVariants as levels
use Rattle.agent_system.specs.Saying.{said_as}
use Rattle.agent_start.proofs.folder.say_file.Goals as goal

pub returns : goal.returns
returns c =
    rw c.if-is_good.false
    (subst (λ (t : List ℕ). OnOk c.push.result (c.push.new.said.items ≡ c.args.said.now.items ++ said_as levels.Alert abouts.File t ∷ [])) c.in_ok-text.ensures c.push.ensures)
