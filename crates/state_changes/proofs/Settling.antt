-- The last record of a list is that a file is to hold all before it: there, that file alone counts, and elsewhere, nothing changes.
use Rattle.std.proofs.Common.{◌≡◌, ℕ, ◌+◌, cond, false, List, [], ◌∷◌, ◌++◌, bytes_eq, refl, ◌∙◌}
use Rattle.std.proofs.lemmas.Bool.{cond-true, cond-false}
use Rattle.std.specs.Cmp.Lexicographic.{bytes_decides}
use Rattle.state_changes.specs.{declared.change.Record.Record, declared.change.Record.TheVariants.Settling, Laws.SettledLaw, Laws.UnsettledLaw, declared.replaying.File.File}
use Rattle.state_changes.specs.Replay.{ReplayState, replay_begun, replay_from, replay_step, replayed}

settling_last : (f : File) (mark : List ℕ) (rs : List Record) (at : ℕ) (s : ReplayState) → replay_from f at s (rs ++ Settling mark ∷ []) ≡ cond (bytes_eq mark f.mark) (replay_begun f) (replay_from f at s rs)
settling_last f mark [] at s = refl
settling_last f mark (r ∷ rs) at s = settling_last f mark rs (at + 1) (replay_step f at s r)

pub settled : SettledLaw
unfolding replayed
settled f rs = settling_last f f.mark rs 0 (replay_begun f) ∙ cond-true (bytes_eq f.mark f.mark) (replay_begun f) (replay_from f 0 (replay_begun f) rs) ((bytes_decides f.mark f.mark).1 refl)

pub unsettled : UnsettledLaw
unfolding replayed
unsettled f rs mark other = settling_last f mark rs 0 (replay_begun f) ∙ cond-false (bytes_eq mark f.mark) (replay_begun f) (replay_from f 0 (replay_begun f) rs) other
