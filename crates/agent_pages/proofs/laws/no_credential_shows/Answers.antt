-- A board follows from the machine, the forest, the standings and the beginnings, from what is around the agent, and from what is told of the
-- entries that are named.
use Rattle.std.proofs.Common.{◌∙◌, ℕ, List, [], ap, map}
use Rattle.agent_standing.specs.{Agent.Agent, declared.standing.EntryStanding.EntryStanding}
use Rattle.plan_forest.specs.Forest.{Forest}
use Rattle.watch_machine.specs.{Outlook.broker_now, State.WatchState}
use Rattle.agent_pages.specs.{Naming.Named, Naming.named_by, declared.board.Board.Board, declared.board.Surroundings.Surroundings}
use Rattle.agent_pages.specs.Board.{row_of, rows_of, served_rows}
use Rattle.agent_pages.proofs.laws.no_credential_shows.Goals as goal

pub returns : goal.returns
unfolding rows_of served_rows row_of
returns c = λ a b s t machine forest standings beginnings around named.
    let shown : WatchState → Forest → List EntryStanding → ℕ → Surroundings → List Named → Board =
    λ m f xs n u ns. let g : Agent = record { machine = m; inventory = record { forest = f; credentials = []; terms = [] }; standings = xs; beginnings = n } in
    record { surroundings = u; broker_now = broker_now m; beginnings = n; margin = f.margin; rows = rows_of g ns } in
    ap (λ m. shown m a.inventory.forest a.standings a.beginnings s.surroundings (map named_by s.named)) machine
    ∙ ap (λ f. shown b.machine f a.standings a.beginnings s.surroundings (map named_by s.named)) forest
    ∙ ap (λ xs. shown b.machine b.inventory.forest xs a.beginnings s.surroundings (map named_by s.named)) standings
    ∙ ap (λ n. shown b.machine b.inventory.forest b.standings n s.surroundings (map named_by s.named)) beginnings
    ∙ ap (λ u. shown b.machine b.inventory.forest b.standings b.beginnings u (map named_by s.named)) around
    ∙ ap (λ ns. shown b.machine b.inventory.forest b.standings b.beginnings t.surroundings ns) named
