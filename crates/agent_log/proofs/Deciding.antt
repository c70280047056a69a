-- Deciding: what is said where something decides it that is the same. For `give`.
use Rattle.std.proofs.Common.{◌≡◌, ℕ, Bool, subst}
use Rattle.base_log.specs.{Waiting.Waiting, declared.form.Form.Form}
use Rattle.agent_log.specs.LogDesk.{TellsIf}

pub tells_by : (a b : Bool) (form : Form) (moment : ℕ) (old new : Waiting) → a ≡ b → TellsIf a form moment old new → TellsIf b form moment old new
tells_by a b form moment old new same told = subst (λ c. TellsIf c form moment old new) same told
