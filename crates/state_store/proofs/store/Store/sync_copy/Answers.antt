-- The copy is on the disk as it is seen, and the journal is left alone.
use Rattle.base_journal.specs.Journals.{path_of_journal}
use Rattle.state_store.proofs.{Copied.apart_back, Kept.held_synced, Kept.synced_keeps}
use Rattle.state_store.proofs.store.Store.sync_copy.Goals as goal

pub returns-in-Ok-clause-durable : goal.returns-in-Ok-clause-durable
returns-in-Ok-clause-durable g c known sound =
    let s = g.D.Disk.state in
    synced_keeps c.args.copy.now (s c.args.disk.now) (s c.sync.new.self) (c.in-Ok.ensures.durable known) (c.in-Ok.ensures.sound known) (c.sync.ensures.seen known) sound

pub returns-in-Ok-clause-held : goal.returns-in-Ok-clause-held
returns-in-Ok-clause-held g c =
    let s = g.D.Disk.state in
    let journal = c.args.self.now.journal in
    held_synced g.D.Disk.is_known journal c.args.copy.now (s c.args.disk.now) (s c.sync.new.self) (apart_back (path_of_journal journal) c.args.copy.now c.requires.apart)
    c.sync.ensures.seen (λ known. (c.sync.ensures.touches known).sound) c.sync.ensures.crash c.requires.held

pub returns-in-Err-clause-held : goal.returns-in-Err-clause-held
returns-in-Err-clause-held g c =
    let s = g.D.Disk.state in
    let journal = c.args.self.now.journal in
    held_synced g.D.Disk.is_known journal c.args.copy.now (s c.args.disk.now) (s c.sync.new.self) (apart_back (path_of_journal journal) c.args.copy.now c.requires.apart)
    c.sync.ensures.seen (λ known. (c.sync.ensures.touches known).sound) c.sync.ensures.crash c.requires.held
