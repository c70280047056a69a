-- A place that is entered is found by its credential, and every other credential finds what it found before.
use Rattle.std.proofs.Common.{List, ℕ, Some, cond, bytes_eq, ap, ◌∙◌}
use Rattle.broker_table.specs.Index.{place_in}
use Rattle.plan_forest.proofs.Names.{at_bytes-insert}
use Rattle.broker_table.proofs.index.enter.Goals as goal

pub returns : goal.returns
returns c =
    λ q. at_bytes-insert c.args.places.now c.insert.new.self c.in_ok-key.key (Some c.args.place) c.in_ok-insert.ensures.updates q
    ∙ ap (λ (bs : List ℕ). cond (bytes_eq bs q) (Some c.args.place) (place_in c.args.places.now q)) c.in_ok-key.ensures.items
