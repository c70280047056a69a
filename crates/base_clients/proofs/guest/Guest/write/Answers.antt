-- A front of what is left is written.
use Rattle.std.proofs.Common.{refl, arith}
use Rattle.base_clients.proofs.Wrote.{appended, made, within}
use Rattle.base_clients.proofs.guest.Guest.write.Goals as goal

pub take-requires : goal.take-requires
take-requires g c =
    let bounds = within c.give-tried.result c.args.left.now c.piece.result.now c.piece.ensures c.give-tried.ensures.bound in
    let few = bounds.1 in
    let same = c.count.ensures in
    omega arith

pub returns-clause-written : goal.returns-clause-written
returns-clause-written g c =
    let bounds = within c.give-tried.result c.args.left.now c.piece.result.now c.piece.ensures c.give-tried.ensures.bound in record {
      logged = c.give-tried.ensures.logged;
      unread = c.give-tried.ensures.remaining;
      few = bounds.0;
      appended = appended c.give-tried.result c.args.left.now c.piece.result.now _ _ c.piece.ensures bounds.0 c.give-tried.ensures.bytes;
      same = made c.args.self.now c.give-tried.new.self _ _ _ _ _ _ refl c.moved_by-self.ensures c.has_waited-self.ensures;
    }
