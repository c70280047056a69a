-- Run: one turn more. For `run`.
use Rattle.std.proofs.Common.{◌≡◌, ◌∙◌, ℕ, ◌+◌, List, [], ◌∷◌, ◌++◌, Option, append_assoc, length, refl, sym, ap, subst, arith}
use Rattle.std.proofs.lemmas.List.{length-append}
use Rattle.base_clock.specs.Seen.{AllMade, ClockSeen}
use Rattle.base_clock.proofs.Joined.{joined_law}
use Rattle.agent_turns.specs.{Changes.AllGiven, Changes.given_by, Runs.all_calls, Runs.all_changes, Turns.ServingTurn, Turns.calls_of_turn, declared.change.AgentChange.AgentChange}
use Rattle.agent_turns.proofs.Changed.{given_join}

append_none : {T : Type 0} → (xs : List T) → xs ++ [] ≡ xs
append_none [] = refl
append_none (x ∷ xs) = ap (λ ys. x ∷ ys) (append_none xs)

calls_append : (ts : List ServingTurn) (t : ServingTurn) → all_calls (ts ++ t ∷ []) ≡ all_calls ts ++ calls_of_turn t
calls_append [] t = append_none (calls_of_turn t)
calls_append (x ∷ xs) t = ap (λ cs. calls_of_turn x ++ cs) (calls_append xs t) ∙ sym (append_assoc (calls_of_turn x) (all_calls xs) (calls_of_turn t))

changes_append : (ts : List ServingTurn) (t : ServingTurn) → all_changes (ts ++ t ∷ []) ≡ all_changes ts ++ given_by t.made
changes_append [] t = append_none (given_by t.made)
changes_append (x ∷ xs) t = ap (λ cs. given_by x.made ++ cs) (changes_append xs t) ∙ sym (append_assoc (given_by x.made) (all_changes xs) (given_by t.made))

pub calls_on : (ts : List ServingTurn) (t : ServingTurn) (a b c : ClockSeen) → AllMade (all_calls ts) a b → AllMade (calls_of_turn t) b c → AllMade (all_calls (ts ++ t ∷ [])) a c
calls_on ts t a b c h one = subst (λ cs. AllMade cs a c) (sym (calls_append ts t)) (joined_law (all_calls ts) (calls_of_turn t) a b c h one)

pub changes_run : (ts : List ServingTurn) (t : ServingTurn) (a b c : Option (List AgentChange)) → AllGiven (all_changes ts) a b → AllGiven (given_by t.made) b c → AllGiven (all_changes (ts ++ t ∷ [])) a c
changes_run ts t a b c h one = subst (λ cs. AllGiven cs a c) (sym (changes_append ts t)) (given_join (all_changes ts) (given_by t.made) a b c h one)

pub one_more : (ts : List ServingTurn) (t : ServingTurn) (n : ℕ) → length ts ≡ n → length (ts ++ t ∷ []) ≡ n + 1
one_more ts t n is = (let more = length-append ts (t ∷ []) in omega (arith, more, is))
