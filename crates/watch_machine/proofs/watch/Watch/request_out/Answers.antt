-- What is found is the request that is out of the entry, and it went out at a reading, as all that are out did.
use Rattle.std.proofs.Common.{◌≡◌, ◌∙◌, ◌==◌, ◌&&◌, Bool, Bor, Option, Some, None, IfSome, option_map, ap, refl, rules, subst, sym, tests}
use Rattle.std.proofs.lemmas.{Iterator.YieldsList-from_slice, Iterator.Search.find_from_yields_List}
use Rattle.std.specs.Option.{option_copied}
use Rattle.watch_machine.specs.{declared.lanes.Out.Out, Refusal.is_same, Refusal.request_out, State.WatchState, code.Bounds.WentOutAtReading}
use Rattle.watch_machine.proofs.Within.{out_all}
use Rattle.watch_machine.proofs.watch.Watch.request_out.Goals as goal

copied_is : (o : Option (Bor Out)) → option_copied o ≡ option_map (λ (r : Bor Out). r.now) o
copied_is None = refl
copied_is (Some r) = refl

found : (c : goal.After-copied) → c.copied.result ≡ request_out c.self.inside.out.items c.args.entry c.args.operation
unfolding request_out
found c =
    let test : Out → Bool = λ r. r.entry == c.args.entry && is_same r.operation c.args.operation in
    c.copied.ensures ∙ copied_is c.find.result
    ∙ find_from_yields_List test _ _ c.find.result c.find.ensures.ran (YieldsList-from_slice c.self.inside.out.items (c.iter.ensures.rest ∙ c.deref.ensures.value)) (λ x b q k. search (rules, tests))

pub returns-clause-value : goal.returns-clause-value
returns-clause-value c = found c ∙ ap (λ (s : WatchState). request_out s.out c.args.entry c.args.operation) c.self.view_is

pub returns-clause-bounds : goal.returns-clause-bounds
returns-clause-bounds c = subst (λ o. IfSome o WentOutAtReading) (sym (found c)) (out_all WentOutAtReading c.self.inside.out.items c.args.entry c.args.operation c.self.invariant.out)
