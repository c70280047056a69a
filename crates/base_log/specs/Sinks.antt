-- Sinks: what a try at one comes to, and one in memory.
-- Source: this project's own.
use Rattle.std.specs.Prelude.{◌≡◌, ℕ, ◌∷◌, [], List, length, min, max, Option, Some, None}
use Rattle.base_device.specs.{Failures.one_more, declared.tried.Tried.Tried}
use Rattle.base_device.specs.declared.tried.Tried.TheVariants as tries
use Rattle.base_log.specs.declared.memory.SinkAnswer.{SinkAnswer}
use Rattle.base_log.specs.declared.memory.SinkAnswer.TheVariants as answers

-- one failure more where the sink has failed
abbrev pub CountsFailure : Tried → ℕ → ℕ → Type 0
CountsFailure (tries.Done n) before now = now ≡ before
CountsFailure tries.Waits before now = now ≡ before
CountsFailure tries.Failed before now = now ≡ one_more before

-- the answers to come, what it took, what its tries came to, where all of that is kept, and its tries and failures, up to the
-- greatest `u64`
pub record SinkScript : Type 0 where
  pub to_come : List SinkAnswer
  pub written : List ℕ
  pub tried : Option (List Tried)
  pub tries : ℕ
  pub failures : ℕ

-- the next answer: past the last one it takes all
abbrev pub next_answer : List SinkAnswer → Option SinkAnswer
next_answer [] = None
next_answer (answer ∷ answers) = Some answer

-- what an answer is at a piece of so many bytes: a sink takes one at least where there is one
abbrev pub tried_of : Option SinkAnswer → ℕ → Tried
tried_of None length = tries.Done length
tried_of (Some (answers.Takes n)) length = tries.Done (min (max n 1) length)
tried_of (Some answers.Waits) length = tries.Waits
tried_of (Some answers.Fails) length = tries.Failed
