-- The texts that were passed, and those to come, are all of them.
use Rattle.std.proofs.Common.{◌≡◌, ◌++◌, drop, map, option_map, string_bytes}
use Rattle.serde_json.specs.View.{items_view}
use Rattle.agent_control.specs.Words.{texts_of}
use Rattle.agent_control.proofs.words.texts.Given as goal

abbrev pub invariant-loop-item : goal.invariant-loop-item
invariant-loop-item l = texts_of (items_view l.items) ≡ option_map (λ ws. map string_bytes l.words.items ++ ws) (texts_of (items_view (drop l.item-index l.items)))
