-- The news of the entries before the index.
use Rattle.std.proofs.Common.{◌≡◌, flat_map}
use Rattle.std.specs.List.{range_with_len}
use Rattle.vault_inventory.specs.Inventories.{terms_at}
use Rattle.agent_standing.specs.{Shorts.news_of_entry, Shorts.short_at, Standings.standing_in}
use Rattle.agent_standing.proofs.shorts.shorts_of.Given as goal

abbrev pub invariant-loop-entry : goal.invariant-loop-entry
invariant-loop-entry l = l.shorts.items ≡ flat_map (λ i. short_at i (terms_at l.inventory.terms i).reissued (news_of_entry l.watch l.inventory.terms i (standing_in l.standings i))) (range_with_len 0 l.entry)
