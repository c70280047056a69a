-- One record more of a journal.
use Rattle.std.proofs.Common.{◌≡◌, ℕ, ◌+◌, true, List, [], ◌∷◌, ◌++◌, Option, Some, option_to_list, Result, Ok, length, ap, ◌∙◌, arith}
use Rattle.std.proofs.lemmas.Bool.{cond-true}
use Rattle.state_changes.specs.{declared.change.Change.Change, declared.change.Record.Record, declared.change.Record.TheVariants.Made, declared.fault.ChangeFault.ChangeFault, declared.replaying.File.File, declared.row.Row.Row}
use Rattle.state_changes.specs.{Changes.rows_changed, Records.record_of}
use Rattle.state_changes.specs.Replay.{ReplayState, is_as_then, made, made_with, overruled, replay_begun, replay_from, replay_step, replayed}
use Rattle.state_store.specs.Records.{records_in}
use Rattle.state_store.proofs.Lists.{records_push}

-- the last record comes after all others
from_last : (f : File) (rs : List Record) (r : Record) (at : ℕ) (s : ReplayState) → replay_from f at s (rs ++ r ∷ []) ≡ replay_step f (at + length rs) (replay_from f at s rs) r
from_last f [] r at s = let same : at ≡ at + 0 = omega arith in ap (λ (k : ℕ). replay_step f k s r) same
from_last f (first ∷ rs) r at s =
    let same : (at + 1) + length rs ≡ at + length (first ∷ rs) = omega arith in
    from_last f rs r (at + 1) (replay_step f at s first) ∙ ap (λ (k : ℕ). replay_step f k (replay_from f (at + 1) (replay_step f at s first) rs) r) same

pub replayed_last : (f : File) (rs : List Record) (r : Record) → replayed f (rs ++ r ∷ []) ≡ replay_step f (0 + length rs) (replayed f rs) r
unfolding replayed
replayed_last f rs r = from_last f rs r 0 (replay_begun f)

-- a change that is made
made_rows : (margin at : ℕ) (s : ReplayState) (c : Change) (rows : List Row) → rows_changed margin s.rows c.name c.what ≡ Ok rows → (made margin at s c).rows ≡ rows
unfolding made
made_rows margin at s c rows e = ap (λ (r : Result (List Row) ChangeFault). (made_with at s r).rows) e

step_rows : (f : File) (at : ℕ) (s : ReplayState) (c : Change) (rows : List Row) → is_as_then f.rows c ≡ true → rows_changed f.margin s.rows c.name c.what ≡ Ok rows → (replay_step f at s (Made c)).rows ≡ rows
step_rows f at s c rows same e =
    ap (λ (t : ReplayState). t.rows) (cond-true (is_as_then f.rows c) (made f.margin at s c) (overruled at s c) same) ∙ made_rows f.margin at s c rows e

-- the rows after one line more, which keeps a change that can be made
pub taken_rows : (f : File) (lines : List (List ℕ)) (line : List ℕ) (c : Change) (old rows : List Row) → (replayed f (records_in lines)).rows ≡ old
    → record_of line ≡ Some (Made c) → is_as_then f.rows c ≡ true → rows_changed f.margin old c.name c.what ≡ Ok rows → (replayed f (records_in (lines ++ line ∷ []))).rows ≡ rows
taken_rows f lines line c old rows so is same e =
    let one : records_in (lines ++ line ∷ []) ≡ records_in lines ++ Made c ∷ [] = records_push lines line ∙ ap (λ (o : Option Record). records_in lines ++ option_to_list o) is in
    ap (λ (rs : List Record). (replayed f rs).rows) one
    ∙ ap (λ (t : ReplayState). t.rows) (replayed_last f (records_in lines) (Made c))
    ∙ step_rows f (0 + length (records_in lines)) (replayed f (records_in lines)) c rows same (ap (λ (r : List Row). rows_changed f.margin r c.name c.what) so ∙ e)
