-- Resting: how the pages of onlookers are spread over time, in milliseconds.
-- Source: this project's own.
use Rattle.std.specs.Prelude.{ℕ, ◌+◌, ◌-◌, ◌*◌, ◌^◌, min, Option, Some, None}
use Rattle.agent_answers.specs.{declared.rest.Rest.Rest, declared.rest.TheConstants.MOST_REST}

-- nine times as long as the page took, which was begun then; a part of a millisecond counts as one
abbrev pub rest_length : ℕ → ℕ → ℕ
rest_length begun now = min (9 * (now - begun + 1)) MOST_REST

abbrev pub rest_after : ℕ → Option ℕ → Rest → Rest
rest_after now None rest = rest
rest_after now (Some begun) rest = record { until = min (now + rest_length begun now) (2 ^ 64 - 1); begun = None }

-- before a call makes a page: where the last one did, the rest after it begins
abbrev pub rest_before : ℕ → Rest → Rest
rest_before now rest = rest_after now rest.begun rest
