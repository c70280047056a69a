-- What was synced is on the disk as it is seen; where there is nothing, nothing is said of it.
use Rattle.std.proofs.Common.{inl, inr, ⊎_elim}
use Rattle.std.proofs.lemmas.Bool.{cases_Bool}
use Rattle.state_store.specs.declared.store.Store.{Store}
use Rattle.state_store.proofs.Kept.{synced_holds}
use Rattle.state_store.proofs.store.Store.keep_file.Goals as goal

pub returns-in-Ok-clause-file : goal.returns-in-Ok-clause-file
returns-in-Ok-clause-file g c known there sound =
    let s = g.D.Disk.state in
    let old = c.args.self.now in
    let new : Store = record { alloc = old.alloc; journal = old.journal; book = old.book; is_sure = old.is_sure; is_kept = c.in-Ok.is_there } in
    synced_holds g.D.Disk.is_known new c.args.target.now (s c.args.disk.now) (s c.sync_there.new.disk) (c.in-Ok.ensures.durable there) c.in-Ok.ensures.same c.sync_there.ensures.seen known there sound

pub returns-in-Ok-clause-kept : goal.returns-in-Ok-clause-kept
returns-in-Ok-clause-kept g c = ⊎_elim (λ yes. inl yes) (λ no. inr (c.in-Ok.ensures.none no)) (cases_Bool c.in-Ok.is_there)
