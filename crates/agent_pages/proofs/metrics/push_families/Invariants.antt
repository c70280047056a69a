-- What was written, and the families to come, are all of them.
use Rattle.std.proofs.Common.{◌≡◌, ◌++◌, drop, map}
use Rattle.agent_pages.specs.Metrics.{families_text}
use Rattle.agent_pages.proofs.metrics.push_families.Given as goal

abbrev pub invariant-loop-name : goal.invariant-loop-name
invariant-loop-name l =
    l.text.items ++ families_text l.format l.board (map (λ f. (f.0.now, f.1, f.2, f.3.now)) (drop l.name-index l.families))
    ≡ l.initial.text.items ++ families_text l.format l.board (map (λ f. (f.0.now, f.1, f.2, f.3.now)) l.families)
