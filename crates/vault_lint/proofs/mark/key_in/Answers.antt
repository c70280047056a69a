-- What is found is the first key with that text.
use Rattle.std.proofs.Common.{◌≡◌, ◌∙◌, Bool, Bor, Option, Some, None, bytes_eq, option_map, refl, rules, tests}
use Rattle.std.proofs.lemmas.{Iterator.YieldsList-from_slice, Iterator.Search.find_from_yields_List}
use Rattle.std.specs.Option.{option_copied}
use Rattle.vault_inventory.specs.{Keys.key_text, declared.key.Key.Key}
use Rattle.vault_lint.proofs.mark.key_in.Goals as goal

copied_is : (o : Option (Bor Key)) → option_copied o ≡ option_map (λ (r : Bor Key). r.now) o
copied_is None = refl
copied_is (Some r) = refl

pub returns : goal.returns
returns c =
    let test : Key → Bool = λ key. bytes_eq (key_text key) c.args.word.now in
    c.copied.ensures ∙ copied_is c.find.result
    ∙ find_from_yields_List test _ _ c.find.result c.find.ensures.ran (YieldsList-from_slice c.args.keys.now c.iter.ensures.rest) (λ x b q k. search (rules, tests))
