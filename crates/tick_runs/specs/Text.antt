-- Text: the lines that a Closed run is written as.
-- Source: this project's own.
use Rattle.std.specs.Prelude.{ℕ, List, [], ◌∷◌, ◌++◌, Option, Some, None, codes, decimal, length}
use Rattle.std.specs.List.{flat_map}
use Rattle.program_lines.specs.Text.{line, name_of, names_of}
use Rattle.plan_forest.specs.Forest.{Forest}
use Rattle.vault_inventory.specs.Inventories.{Inventory}
use Rattle.vault_http.specs.declared.reply.Reply.{Reply}
use Rattle.tick_keeper.specs.{declared.event.Event.Event, declared.event.Output.Output, declared.shortened.ShortNeed.ShortNeed}
use Rattle.tick_keeper.specs.declared.event.Event.TheVariants.{Tick, Told, Refused, Lost, Need}
use Rattle.tick_keeper.specs.declared.event.Output.TheVariants as out
use Rattle.tick_runs.specs.Closed.{Beat, Exchanged, RunCourse, event_in, request_count, rounds}

-- an inventory of these credentials and this forest
abbrev pub inventory_with : List (List ℕ) → Forest → Inventory
inventory_with cs g = record { forest = g; credentials = cs; terms = [] }

-- each need that was shortened
abbrev pub short_need_line : Forest → ShortNeed → List ℕ
short_need_line g p = line (codes "short" ∷ name_of g p.entry ∷ decimal p.need ∷ [])

unfoldable pub short_need_lines : Forest → List ShortNeed → List ℕ
short_need_lines g ps = flat_map (short_need_line g) ps

abbrev pub status_in : Option Reply → ℕ
status_in None = 0
status_in (Some r) = r.status

-- an answer
abbrev pub answer_line : Forest → Event → Option Reply → List ℕ
answer_line g (Told i seconds renewable) reply = line (codes "told" ∷ name_of g i ∷ decimal seconds ∷ [])
answer_line g (Refused i) reply = line (codes "refused" ∷ name_of g i ∷ decimal (status_in reply) ∷ [])
answer_line g (Lost i) reply = line (codes "lost" ∷ name_of g i ∷ [])
answer_line g (Tick t) reply = []
answer_line g (Need i until) reply = []

unfoldable pub answer_text : Inventory → Exchanged → List ℕ
answer_text s x = answer_line s.forest (event_in s.credentials s.forest x) x.reply ++ short_need_lines s.forest x.short

-- a round opens
abbrev pub wake_line_of_output : Forest → ℕ → Output → List ℕ
wake_line_of_output g at (out.Ask asked) = line (codes "wake" ∷ decimal at ∷ names_of g asked)
wake_line_of_output g at output = []

unfoldable pub beat_text : Inventory → Beat → List ℕ
beat_text s b = short_need_lines s.forest b.short ++ (wake_line_of_output s.forest b.at b.output ++ flat_map (answer_text s) b.answers)

-- how many wake-ups and how many requests
unfoldable pub done_text : ℕ → ℕ → List ℕ
done_text wakes asked = line (codes "done" ∷ decimal wakes ∷ decimal asked ∷ [])

-- the text of a run that has come to its end
unfoldable pub course_text : Inventory → RunCourse → List ℕ
course_text s c = short_need_lines s.forest c.short ++ (flat_map (beat_text s) c.beats ++ done_text (length (rounds c.beats)) (request_count c.beats))
