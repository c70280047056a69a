-- Said: lines that are said one after another.
use Rattle.std.proofs.Common.{◌≡◌, List, [], ◌∷◌, ◌++◌, ℕ, inl, inr, refl, subst}
use Rattle.agent_log.specs.Rooms.{Rooms, missing_in}
use Rattle.agent_log.specs.Lines.{ArePut, AreSaid, Line, LineIsSaid, LineIsWritten}
use Rattle.base_log.specs.declared.form.Form.{Form}

-- a line whose text is put
pub put_said : (form : Form) (moment : ℕ) (l : Line) (text : List ℕ) (old new : Rooms) → LineIsWritten form moment l text → ArePut form moment l.level text old new → LineIsSaid form moment l old new
unfolding LineIsSaid
put_said form moment l text old new written put = inl (text, (written, put))

-- a line for which memory was wanting
pub missed : (form : Form) (moment : ℕ) (l : Line) (old new : Rooms) → new ≡ missing_in l.level old → LineIsSaid form moment l old new
unfolding LineIsSaid
missed form moment l old new is = inr is

-- one line
pub one_said : (form : Form) (moment : ℕ) (l : Line) (old new : Rooms) → LineIsSaid form moment l old new → AreSaid form moment (l ∷ []) old new
one_said form moment l old new said = (new, (said, refl))

-- some, and then others
pub both_said : (form : Form) (moment : ℕ) (first later : List Line) (old mid new : Rooms) → AreSaid form moment first old mid → AreSaid form moment later mid new → AreSaid form moment (first ++ later) old new
both_said form moment [] later old mid new is said = subst (λ (w : Rooms). AreSaid form moment later w new) is said
both_said form moment (l ∷ first) later old mid new said then = (said.0, (said.1.0, both_said form moment first later said.0 mid new said.1.1 then))
