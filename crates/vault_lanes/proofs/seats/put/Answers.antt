-- It stands between those of no greater index and the others.
use Rattle.std.proofs.Common.{◌≡◌, true, drop, sym, take, take-append-drop}
use Rattle.std.specs.Prelude.{is_ok}
use Rattle.vault_lanes.proofs.Seated.{is_put}
use Rattle.vault_lanes.proofs.seats.put.Goals as goal

pub returns-clause-put : goal.returns-clause-put
returns-clause-put g c =
    let well : is_ok c.insert.result ≡ true = c.insert.ensures.succeeds c.requires in
    is_put g.T.Standing.comes _ c.args.out.now.items c.insert.new.self.items c.args.seat c.place_for-place.result
    (rw c.deref.ensures.value at c.place_for-place.ensures.lower) (rw c.deref.ensures.value at c.place_for-place.ensures.higher) (rw well at c.insert.ensures.items)

pub returns-clause-seat : goal.returns-clause-seat
returns-clause-seat g c =
    let well : is_ok c.insert.result ≡ true = c.insert.ensures.succeeds c.requires in record {
      before = take c.place_for-place.result c.args.out.now.items;
      behind = drop c.place_for-place.result c.args.out.now.items;
      old_is = sym (take-append-drop c.place_for-place.result c.args.out.now.items);
      new_is = rw well at c.insert.ensures.items;
    }
