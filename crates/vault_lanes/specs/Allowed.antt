-- How long a request may take, in milliseconds.
-- Source: this project's own.
use Rattle.std.specs.Prelude.{ℕ, ◌+◌, ◌*◌, ◌-◌, ◌^◌, min, nat_lt, if◌then◌else◌}
use Rattle.vault_lanes.specs.{declared.allowance.Allowance.Allowance, declared.stage.RequestStage.RequestStage}
use Rattle.vault_lanes.specs.declared.stage.RequestStage.TheVariants.{Connecting, Sending, Silent, Coming}

-- so many milliseconds after a moment; no moment is later than the greatest u64
abbrev pub millis_after : ℕ → ℕ → ℕ
millis_after moment millis = min (moment + millis) (2 ^ 64 - 1)

-- connect, write and first read take the patience together
abbrev pub first_by : Allowance → ℕ
first_by a = millis_after a.asked a.patience

-- all of it takes twice the patience where that is shorter than S seconds, and else 2 S + 2 seconds
abbrev pub whole_by : Allowance → ℕ
whole_by a = millis_after a.asked (if nat_lt a.patience (1000 * a.seconds) then a.patience * 2 else 2 * (1000 * a.seconds) + 2000)

-- the moment by which a request that has come so far has to come further: after the first bytes of the reply, a quarter of a
-- second after the last
abbrev pub deadline : Allowance → RequestStage → ℕ
deadline a Connecting = first_by a
deadline a Sending = first_by a
deadline a Silent = first_by a
deadline a (Coming reads since) = min (millis_after since 250) (whole_by a)

-- in how many reads a reply may come
abbrev pub most_reads : Allowance → ℕ
most_reads a = 8 + 4 * a.seconds
