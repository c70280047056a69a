-- Handing: an answer is handed in to the machine, as the event of the request that it answers.
-- Source: this project's own.
use Rattle.std.specs.Prelude.{◌≡◌, ◌==◌, ℕ, List, [], ◌∷◌, Option, Some, Ok, find}
use Rattle.vault_inventory.specs.Inventories.{Inventory}
use Rattle.vault_lanes.specs.declared.lanes.Answered.{Answered}
use Rattle.watch_machine.specs.{declared.command.WatchOutput.WatchOutput, declared.lanes.Out.Out, History.Turn, State.WatchState}
use Rattle.vault_asking.specs.{Told.event_as, Told.said_to, declared.told.Said.Said}

-- the request that is out of an entry
abbrev pub out_of : List Out → ℕ → Option Out
out_of out i = find (λ r. r.entry == i) out

-- the answer is handed to the machine as the event of the request that is out of its entry: which that is, what the answer says to
-- it, and what the machine makes of the event
pub record IsHandedIn (s : Inventory) (a : Answered) (old new : WatchState) : Type 0 where
  pub request : Out
  pub is_out : out_of old.out a.index ≡ Some request
  pub said : Said
  pub said_is : said ≡ said_to s request.operation a.index a.answer
  pub output : WatchOutput
  pub turn : Turn old (event_as request.operation a.index said.reply said.terms) (Ok output) new

-- answers are handed in, one after another
abbrev pub AreHandedIn : Inventory → List Answered → WatchState → WatchState → Type 0
AreHandedIn s [] old new = new ≡ old
AreHandedIn s (a ∷ rest) old new = (mid : WatchState) × (IsHandedIn s a old mid × AreHandedIn s rest mid new)
