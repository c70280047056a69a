-- Wanting: what a client of the control socket wants, by what it has sent.
-- Source: this project's own; what a line asks for is agent_control's.
use Rattle.std.specs.Prelude.{◌≡◌, ℕ, List, Bool, true, false, Option, Some, None, Result, Ok, Err, codes, take}
use Rattle.agent_control.specs.{Front.IsLineFront, Replies.request_fault_text, Requests.request_in_line, When.need_at, declared.fault.RequestFault.RequestFault, declared.front.Front.Front, declared.request.ControlRequest.ControlRequest}
use Rattle.agent_control.specs.declared.fault.RequestFault.TheVariants as faults
use Rattle.agent_control.specs.declared.front.Front.TheVariants as fronts
use Rattle.agent_control.specs.declared.request.ControlRequest.TheVariants as requests
use Rattle.vault_inventory.specs.declared.need.Need.{Need}
use Rattle.agent_pages.specs.declared.asked.Page.TheVariants as pages
use Rattle.agent_answers.specs.declared.asked.ClientOrder.TheVariants as asked
use Rattle.agent_answers.specs.{declared.wanted.Wanted.Wanted, declared.wanted.ClientRefusal.ClientRefusal}
use Rattle.agent_answers.specs.declared.wanted.Wanted.TheVariants as wanted
use Rattle.agent_answers.specs.declared.wanted.ClientRefusal.TheVariants as whys

abbrev pub is_front_over : Front → Bool
is_front_over fronts.Open = false
is_front_over (fronts.Whole n) = true
is_front_over fronts.TooLong = true

-- all has come that is needed: a line with its end, or too much of one
abbrev pub TellsRequestLine : List ℕ → Bool → Type 0
TellsRequestLine bytes whole = (front : Front) × (IsLineFront bytes front × (whole ≡ is_front_over front))

unfoldable pub refusal_text : ClientRefusal → List ℕ
refusal_text (whys.Fault fault) = request_fault_text fault
refusal_text whys.TooLate = codes "WHEN is after 9999-12-31T23:59:59Z"

-- a need of the entry of that name, of which nobody has looked whether there is one
abbrev pub needed : List ℕ → Option Need → Wanted
needed name None = wanted.Refused whys.TooLate
needed name (Some need) = wanted.Do (asked.Need name need)

-- what a request wants
abbrev pub wanted_now : ℕ → ControlRequest → Wanted
wanted_now now (requests.Need name when) = needed name (need_at now when)
wanted_now now (requests.Replace name credential) = wanted.Do (asked.Replace name credential)
wanted_now now (requests.Add table) = wanted.Do (asked.Add table)
wanted_now now (requests.Drop name) = wanted.Do (asked.Drop name)
wanted_now now requests.Settle = wanted.Do asked.Settle
wanted_now now requests.Reload = wanted.Do asked.Reload
wanted_now now requests.Status = wanted.Show pages.Listing
wanted_now now requests.Health = wanted.Show pages.Health
wanted_now now (requests.Follow alerts) = wanted.Do (asked.Follow alerts)

abbrev pub wanted_if : ℕ → Result ControlRequest RequestFault → Wanted
wanted_if now (Ok request) = wanted_now now request
wanted_if now (Err fault) = wanted.Refused (whys.Fault fault)

-- by the first line that has come: a front of one, of which no more comes, is no request
abbrev pub wanted_by : ℕ → List ℕ → Front → Wanted
wanted_by now bytes fronts.Open = wanted.Refused (whys.Fault faults.NotWords)
wanted_by now bytes (fronts.Whole n) = wanted_if now (request_in_line (take n bytes))
wanted_by now bytes fronts.TooLong = wanted.Refused (whys.Fault faults.TooLong)

-- what a client wants that has sent these bytes
abbrev pub ClientWants : ℕ → List ℕ → Wanted → Type 0
ClientWants now bytes it = (front : Front) × (IsLineFront bytes front × (it ≡ wanted_by now bytes front))
