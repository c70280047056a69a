-- Reading: what is wanted by a line, and by one that was not read. For `wanted_by_line` and `wanted_of`.
use Rattle.std.proofs.Common.{◌≡◌, ◌≢◌, ◌∙◌, ℕ, List, Ok, Err, IfOk, Result, ap, refl, sym, take}
use Rattle.agent_control.specs.{Answer.FailsWithRequestFault, Front.IsLineFront, Requests.request_in_line, declared.fault.RequestFault.RequestFault, declared.request.ControlRequest.ControlRequest}
use Rattle.agent_control.specs.declared.fault.RequestFault.TheVariants as faults
use Rattle.agent_control.specs.declared.front.Front.TheVariants as fronts
use Rattle.agent_answers.specs.{Wanting.ClientWants, Wanting.wanted_if, declared.wanted.Wanted.Wanted}
use Rattle.agent_answers.specs.declared.wanted.Wanted.TheVariants as wanted
use Rattle.agent_answers.specs.declared.wanted.ClientRefusal.TheVariants as whys

refused_by : (now : ℕ) (fault : RequestFault) (read : Result ControlRequest RequestFault) → FailsWithRequestFault fault read → fault ≢ faults.OutOfMemory → wanted.Refused (whys.Fault fault) ≡ wanted_if now read
refused_by now faults.OutOfMemory read fails not = absurd (not refl)
refused_by now faults.TooLong read fails not = ap (wanted_if now) (sym fails)
refused_by now faults.NotWords read fails not = ap (wanted_if now) (sym fails)
refused_by now faults.NoCommand read fails not = ap (wanted_if now) (sym fails)
refused_by now faults.BadName read fails not = ap (wanted_if now) (sym fails)
refused_by now faults.BadWhen read fails not = ap (wanted_if now) (sym fails)
refused_by now faults.BadCredential read fails not = ap (wanted_if now) (sym fails)

-- one that was not read is refused, unless memory was wanting
pub not_read : {E : Type 0} (now : ℕ) (fault : RequestFault) (read : Result ControlRequest RequestFault) (result : Result Wanted E) → FailsWithRequestFault fault read →
    IfOk result (λ it. (fault ≢ faults.OutOfMemory) × (it ≡ wanted.Refused (whys.Fault fault))) → IfOk result (λ it. it ≡ wanted_if now read)
not_read now fault read (Ok it) fails is = is.1 ∙ refused_by now fault read fails is.0
not_read now fault read (Err e) fails is = tt

-- what is wanted by the first line is wanted
pub by_line : {E : Type 0} (now n : ℕ) (bytes : List ℕ) (result : Result Wanted E) → IsLineFront bytes (fronts.Whole n) →
    IfOk result (λ it. it ≡ wanted_if now (request_in_line (take n bytes))) → IfOk result (λ it. ClientWants now bytes it)
by_line now n bytes (Ok it) front is = (fronts.Whole n, (front, is))
by_line now n bytes (Err e) front is = tt
