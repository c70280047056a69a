-- Laws: the requests on lanes stay those that the machine has out. The contract of a public function without a body.
-- Source: this project's own.
use Rattle.std.specs.Prelude.{◌≡◌, ◌+◌, ◌<◌, ◌≤◌, ℕ, All, List, [], Ok, length}
use Rattle.vault_inventory.specs.Inventories.{Inventory}
use Rattle.vault_lanes.specs.Out as lanes
use Rattle.vault_lanes.specs.{Out.IsParted, Out.renamed, declared.lanes.Answered.Answered}
use Rattle.plan_forest.specs.Forest.{Forest}
use Rattle.watch_machine.specs.{declared.command.WatchCommand.TheVariants.Go, declared.command.WatchOutput.WatchOutput, declared.command.WatchRequest.WatchRequest, declared.event.WatchEvent.WatchEvent, State.WatchState, State.opened}
use Rattle.watch_machine.specs.declared.event.WatchEvent.TheVariants.{Clock, Looked, Renewed, Need, Begin, Known}
use Rattle.watch_machine.specs.History.{Changed, IsChanged, Turn}
use Rattle.vault_asking.specs.{Handing.AreHandedIn, Sending.GoOut, Sending.Lanes}
use Rattle.vault_asking.specs.InStep.{AreOut, IsAbreast, entries_out}

-- a new machine, over as many lanes as it may have requests out, of which none is taken
abbrev pub NewLaw : Type 0
NewLaw = (g : Forest) (width : ℕ) → IsAbreast (opened g width) width []

-- the requests of a clock are of entries, as many lanes are free, and when they have gone out the lanes are in step again
abbrev pub ClockLaw : Type 0
ClockLaw =
    (old new : WatchState) (wall elapsed : ℕ) (output : WatchOutput) (requests : List WatchRequest) (until width : ℕ) (before : Lanes) → Turn old (Clock wall elapsed) (Ok output) new → output.command ≡ Go requests until →
    IsAbreast old width before.out → All (λ r. r.entry < length new.forest.entries) requests × ((length before.out + length requests ≤ width)
    × ((port : ℕ) (s : Inventory) (t now : ℕ) (after : Lanes) → GoOut port s new t now requests before after → IsAbreast new width after.out))

-- answers that are handed back are to requests that are out, and when they have been handed in the lanes are in step again
abbrev pub AnswersLaw : Type 0
AnswersLaw =
    (old : WatchState) (width : ℕ) (out left : List lanes.Out) (answers : List Answered) → IsAbreast old width out → IsParted out answers left →
    AreOut old answers × ((s : Inventory) (new : WatchState) → AreHandedIn s answers old new → IsAbreast new width left)

-- an event that is no clock and no answer
abbrev pub IsOtherEvent : WatchEvent → Type 0
IsOtherEvent (Clock wall elapsed) = ⊥
IsOtherEvent (Looked i reply terms) = ⊥
IsOtherEvent (Renewed i reply) = ⊥
IsOtherEvent (Need i until) = Unit {0}
IsOtherEvent Begin = Unit {0}
IsOtherEvent (Known i end renewable) = Unit {0}

-- such an event leaves them in step
abbrev pub OtherLaw : Type 0
OtherLaw = (old new : WatchState) (event : WatchEvent) (output : WatchOutput) (width : ℕ) (out : List lanes.Out) → IsOtherEvent event → Turn old event (Ok output) new → IsAbreast old width out → IsAbreast new width out

-- where another forest is watched, each request that is out goes on, on its lane, under the index that the machine has it under then
abbrev pub ChangeLaw : Type 0
ChangeLaw =
    (old : WatchState) (c : Changed) (width : ℕ) (out : List lanes.Out) → IsChanged old c → IsAbreast old width out → IsAbreast c.state width (renamed (entries_out old) (entries_out c.state) out)
