-- A change as it was given, and a start on the same file.
use Rattle.std.proofs.Common.{sym, ap, ◌∙◌}
use Rattle.state_changes.specs.{declared.replaying.File.File, declared.change.Change.Change, declared.change.Record.TheVariants.Made, Replay.ReplayState, Replay.replayed, Said.said}
use Rattle.state_changes.proofs.ReadBack.{written_is_read}
use Rattle.state_store.specs.{Entering.line_for_change, Entering.record_for, Laws.AsGivenLaw, Laws.RestartLaw, Records.records_in, Stores.lines_in}
use Rattle.state_store.proofs.Entered.{same_change, same_record}

pub as_given : AsGivenLaw
unfolding line_for_change
as_given f name w c is read =
    let d : Change = record { name = name; was = said f.rows name w; what = w } in
    sym (same_change d c (same_record (Made d) (Made c) (sym (written_is_read (record_for f name w) is) ∙ read)))

pub restarted : RestartLaw
restarted store replays bytes secrets b notes is same =
    ap (λ (s : ReplayState). s.rows) (sym is.rows) ∙ ap (λ (f : File). (replayed f (records_in (lines_in store))).rows) same ∙ replays
