-- Replies: the event that a reply to a renewal gives.
-- Source: Vault, HTTP API, for what a body tells (vault_exchange's). Which status means what is this project's own.
use Rattle.std.specs.Prelude.{◌≡◌, ℕ, ◌==◌, ◌&&◌, not, List, Option, Some, None, nat_le, nat_lt, if◌then◌else◌}
use Rattle.plan_forest.specs.{declared.entry.Kind.Kind, Forest.Forest, Forest.entry_at}
use Rattle.vault_inventory.specs.Inventories.{credential_at}
use Rattle.tick_keeper.specs.{declared.event.Event.Event, LawsOfHistories.IsAnswerEvent, Step.entry_of_event}
use Rattle.tick_keeper.specs.declared.event.Event.TheVariants.{Told, Refused, Lost}
use Rattle.vault_exchange.specs.Heard.{renewed_in}
use Rattle.vault_http.specs.declared.reply.Reply.{Reply}
use Rattle.vault_json.specs.declared.renewed.Renewed.{Renewed}

-- what the body tells, if it is read and is of the entry that was asked for
abbrev pub told_of_body : ℕ → Option Renewed → Event
told_of_body i None = Lost i
told_of_body i (Some r) = Told i r.seconds r.renewable

abbrev pub told_by_body : Kind → List ℕ → ℕ → List ℕ → Event
told_by_body kind id i body = told_of_body i (renewed_in kind id body)

-- 400 to 499 but 429
abbrev pub event_if_refused : ℕ → Event → Event → Event
event_if_refused status yes' no' = if nat_le 400 status && (nat_lt status 500 && not (status == 429)) then yes' else no'

-- what the reply to the request for an entry of that kind and credential means; None: no reply came, or none that could be read
unfoldable pub event_of : Kind → List ℕ → ℕ → Option Reply → Event
event_of kind id i None = Lost i
event_of kind id i (Some r) = if r.status == 200 then told_by_body kind id i r.body else event_if_refused r.status (Refused i) (Lost i)

-- the same for the entry i of a forest
abbrev pub event_for : List (List ℕ) → Forest → ℕ → Option Reply → Event
event_for cs g i reply = event_of (entry_at g.entries i).kind (credential_at cs i) i reply

-- an answer of the entry i
abbrev pub IsAnswerOf : ℕ → Event → Type 0
IsAnswerOf i event = IsAnswerEvent event × (entry_of_event event ≡ i)
