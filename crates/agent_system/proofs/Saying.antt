-- Saying: what is to be said at a start is put in a list, and what words memory may be wanting for. For `push_each`, `say_behind` and `warn`.
use Rattle.std.proofs.Common.{◌≡◌, ◌∙◌, ℕ, List, [], ◌∷◌, ◌++◌, ap, append_assoc, inl, inr, map, sym, subst}
use Rattle.std.proofs.lemmas.List.{map-append}
use Rattle.agent_log.specs.LogDesk.{Desk, HearsAtStart}
use Rattle.base_clock.specs.declared.reading.Reading.{Reading}
use Rattle.base_log.specs.declared.level.Level.{Level}
use Rattle.agent_system.specs.Saying.{SaysOrWants}

-- one more of them
pub adds_on : {A B : Type 0} → (f : A → B) (old mid new : List B) (ys : List A) (y : A) → mid ≡ old ++ map f ys → new ≡ mid ++ f y ∷ [] → new ≡ old ++ map f (ys ++ y ∷ [])
adds_on f old mid new ys y h is = is ∙ (ap (λ l. l ++ f y ∷ []) h ∙ (append_assoc old (map f ys) (f y ∷ []) ∙ ap (λ l. old ++ l) (sym (map-append f ys (y ∷ [])))))

-- ---- words for which memory may be wanting

pub wants_words : (now : Reading) (level : Level) (event text : List ℕ) (old new : Desk) → new ≡ old → SaysOrWants now level event text old new
wants_words now level event text old new same = record { either = inl same }

pub says_words : (now : Reading) (level : Level) (event said text : List ℕ) (old new : Desk) → said ≡ text → HearsAtStart now level event said old new → SaysOrWants now level event text old new
says_words now level event said text old new is hears = record { either = inr (subst (λ t. HearsAtStart now level event t old new) is hears) }
