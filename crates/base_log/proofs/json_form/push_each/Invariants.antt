-- What was written, and any text of the words to come, are a text of all of them.
use Rattle.std.proofs.Common.{◌≡◌, ◌++◌, ℕ, List, drop}
use Rattle.base_log.specs.Forms.{SayEach}
use Rattle.base_log.proofs.json_form.push_each.Given as goal

abbrev pub invariant-loop-word : goal.invariant-loop-word
invariant-loop-word l = (rest : List ℕ) → SayEach l.between (drop l.word-index l.words) rest
    → (said : List ℕ) × SayEach l.between l.words said × (l.text.items ++ rest ≡ l.initial.text.items ++ said)
