-- What is found is the request that is out of the entry.
use Rattle.std.proofs.Common.{◌≡◌, ◌∙◌, ◌==◌, Bool, Bor, Option, Some, None, option_map, refl, rules, tests}
use Rattle.std.proofs.lemmas.{Iterator.YieldsList-from_slice, Iterator.Search.find_from_yields_List}
use Rattle.std.specs.Option.{option_copied}
use Rattle.watch_machine.specs.declared.lanes.Out.{Out}
use Rattle.vault_asking.proofs.handing.out_of.Goals as goal

copied_is : (o : Option (Bor Out)) → option_copied o ≡ option_map (λ (r : Bor Out). r.now) o
copied_is None = refl
copied_is (Some r) = refl

pub returns : goal.returns
returns c =
    let test : Out → Bool = λ r. r.entry == c.args.entry in
    c.copied.ensures ∙ copied_is c.find.result
    ∙ find_from_yields_List test _ _ c.find.result c.find.ensures.ran (YieldsList-from_slice c.args.out.now c.iter.ensures.rest) (λ x b q k. search (rules, tests))
