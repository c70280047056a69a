-- When every entry has handed its load up, each has the need that it carries.
use Rattle.std.proofs.Common.{◌≡◌, ◌++◌, List, drop, length, map, ap, arith, subst, sym, take}
use Rattle.std.proofs.lemmas.List.{take_at}
use Rattle.plan_forest.proofs.Placed.{parents_first}
use Rattle.plan_needs.specs.{declared.load.Load.Load, Carried.IsCarried, code.Loads.AllOwn, code.Loads.seen_load}
use Rattle.plan_needs.proofs.HandedUp.{handed_is_carried}
use Rattle.plan_needs.proofs.carried.carry.Goals as goal

pub returns : goal.returns
returns c =
    let g = c.args.forest.now in
    let old = c.in_ok-loads.loads.items in
    let new = c.hand_up.new.loads in
    let own : AllOwn g.entries c.args.start c.deref_mut.result.now = subst (AllOwn g.entries c.args.start) (sym c.deref_mut.ensures.value) c.in_ok-loads.ensures in
    let up = c.hand_up.ensures.handed c.args.start own in
    let all : take c.in_ok-loads.loads.len (new ++ drop (length new) old) ≡ new = take_at new (drop (length new) old) c.in_ok-loads.loads.len (omega (arith, c.hand_up.auto.loads, ap length c.deref_mut.ensures.value, c.in_ok-loads.loads.ok.0)) in
    subst (λ (ls : List Load). IsCarried g c.args.start (map seen_load ls)) (sym all) (handed_is_carried g c.args.start new (parents_first g c.hand_up.ensures.sound) up)
