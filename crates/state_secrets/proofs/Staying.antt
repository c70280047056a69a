-- Staying: one more of a list that stays, or goes. For `others`.
use Rattle.std.proofs.Common.{◌≡◌, ◌∙◌, ℕ, ◌+◌, ◌<◌, ◌≤◌, true, false, List, [], ◌∷◌, ◌++◌, append-nil, ap, get_or, length, sym, take}
use Rattle.std.proofs.lemmas.{Bool.cond-true, Bool.cond-false, List.take_all, List.take_more, List.Elements.filter-append}
use Rattle.std.specs.List.{filter}
use Rattle.state_changes.specs.{declared.row.Row.Row, declared.secret.Secret.Secret}
use Rattle.state_secrets.specs.Outcomes.{stays}

module _ (rows : List Row) (name : List ℕ) (secrets : List Secret) (i : ℕ) where
  more : (x : Secret) → i < length secrets → x ≡ get_or secrets i x → filter (stays rows name) (take (i + 1) secrets) ≡ filter (stays rows name) (take i secrets) ++ filter (stays rows name) (x ∷ [])
  more x h read = ap (filter (stays rows name)) (take_more secrets i x h ∙ ap (λ (r : Secret). take i secrets ++ r ∷ []) (sym read)) ∙ filter-append (stays rows name) (take i secrets) (x ∷ [])

  pub one_in : (x : Secret) → i < length secrets → x ≡ get_or secrets i x → stays rows name x ≡ true → filter (stays rows name) (take (i + 1) secrets) ≡ filter (stays rows name) (take i secrets) ++ x ∷ []
  one_in x h read is = more x h read ∙ ap (λ (l : List Secret). filter (stays rows name) (take i secrets) ++ l) (cond-true (stays rows name x) (x ∷ []) [] is)

  pub one_out : (x : Secret) → i < length secrets → x ≡ get_or secrets i x → stays rows name x ≡ false → filter (stays rows name) (take (i + 1) secrets) ≡ filter (stays rows name) (take i secrets)
  one_out x h read is = more x h read ∙ ap (λ (l : List Secret). filter (stays rows name) (take i secrets) ++ l) (cond-false (stays rows name x) (x ∷ []) [] is) ∙ append-nil (filter (stays rows name) (take i secrets))

  pub all_in : length secrets ≤ i → filter (stays rows name) (take i secrets) ≡ filter (stays rows name) secrets
  all_in past = ap (filter (stays rows name)) (take_all i secrets past)
