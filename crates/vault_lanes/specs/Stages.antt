-- How far a request has come, and what a try at its connection makes of it.
-- Source: this project's own.
use Rattle.std.specs.Prelude.{ℕ, suc, zero, ◌+◌, ◌-◌, ◌^◌, min, nat_lt, Result, Ok, Err, if◌then◌else◌}
use Rattle.vault_lanes.specs.{Allowed.deadline, Allowed.most_reads, declared.allowance.Allowance.Allowance, declared.loss.Loss.Loss, declared.reason.ConnectReason.ConnectReason, declared.stage.RequestStage.RequestStage}
use Rattle.vault_lanes.specs.declared.loss.Loss.TheVariants.{Connect, Timeout, Closed}
use Rattle.vault_lanes.specs.declared.stage.RequestStage.TheVariants.{Connecting, Sending, Silent, Coming}

-- so many bytes of the request were taken, and so many are left
abbrev pub wrote : ℕ → ℕ → RequestStage → RequestStage
wrote taken zero stage = Silent
wrote zero (suc left) stage = stage
wrote (suc taken) (suc left) stage = Sending

-- all of the request was taken
abbrev pub stage_once_sent : RequestStage → RequestStage
stage_once_sent Connecting = Silent
stage_once_sent Sending = Silent
stage_once_sent Silent = Silent
stage_once_sent (Coming reads since) = Coming reads since

-- the reads with the one that just handed out bytes
abbrev pub reads_with : RequestStage → ℕ
reads_with Connecting = 1
reads_with Sending = 1
reads_with Silent = 1
reads_with (Coming reads since) = min (reads + 1) (2 ^ 64 - 1)

-- bytes of the reply came now, and more have to come: in as many reads as it may come in, it took too long
abbrev pub came : Allowance → ℕ → RequestStage → Result RequestStage Loss
came a now stage = if nat_lt (reads_with stage) (most_reads a) then Ok (Coming (reads_with stage) now) else Err Timeout

-- nothing came: it waits on before its deadline
abbrev pub waits : Allowance → ℕ → RequestStage → Result Unit Loss
waits a now stage = if nat_lt now (deadline a stage) then Ok tt else Err Timeout

-- the connection failed: before the first byte was taken there was none
abbrev pub failed : ConnectReason → RequestStage → Loss
failed reason Connecting = Connect reason
failed reason Sending = Closed
failed reason Silent = Closed
failed reason (Coming reads since) = Closed
