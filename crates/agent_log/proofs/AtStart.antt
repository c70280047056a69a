-- AtStart: lines are said one after another. For `say_at_start`.
use Rattle.std.proofs.Common.{◌≡◌, ◌∙◌, ℕ, ◌+◌, ◌<◌, List, [], ◌∷◌, ◌++◌, ap, get_or, length, take, refl, sym, subst}
use Rattle.std.proofs.lemmas.List.{take_more}
use Rattle.agent_words.specs.declared.said.SaidLine.{SaidLine}
use Rattle.base_clock.specs.declared.reading.Reading.{Reading}
use Rattle.agent_log.specs.{AtStart.AreSaidAtStart, AtStart.IsSaidAtStart, LogDesk.Desk}

said_join : (now : Reading) (ss : List SaidLine) (s : SaidLine) (old mid new : Desk) → AreSaidAtStart now ss old mid → IsSaidAtStart now s mid new → AreSaidAtStart now (ss ++ s ∷ []) old new
said_join now [] s old mid new h one = (new, (subst (λ (d : Desk). IsSaidAtStart now s d new) h one, refl))
said_join now (x ∷ xs) s old mid new h one = (h.0, (h.1.0, said_join now xs s h.0 mid new h.1.1 one))

-- one more of a list
pub said_on :
    (now : Reading) (ss : List SaidLine) (i : ℕ) (s : SaidLine) (old mid new : Desk) → i < length ss → s ≡ get_or ss i s → AreSaidAtStart now (take i ss) old mid → IsSaidAtStart now s mid new →
    AreSaidAtStart now (take (i + 1) ss) old new
said_on now ss i s old mid new within is h one =
    let more : take (i + 1) ss ≡ take i ss ++ s ∷ [] = take_more ss i s within ∙ ap (λ y. take i ss ++ y ∷ []) (sym is) in
    subst (λ (l : List SaidLine). AreSaidAtStart now l old new) (sym more) (said_join now (take i ss) s old mid new h one)
