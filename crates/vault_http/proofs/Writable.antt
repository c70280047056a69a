-- Writable: the parts of what may be written pass the tests that the code makes, and methods are short.
use Rattle.std.proofs.Common.{ℕ, ◌≤◌, false, All, List, Some, IsTrue, arith, codes, inl, inr, length, refl, subst, sym}
use Rattle.std.proofs.lemmas.{Bool.both_ways, Bool.or_cases, List.Sums.list_all-from_AllPass}
use Rattle.std.specs.{Cmp.Lexicographic.bytes_decides, List.list_all}
use Rattle.vault_http.specs.RoundTripRequest.{IsSentToken, is_path_byte, is_sent_method, is_token_value_byte}

pub path_passes : (path : List ℕ) → All (λ b. IsTrue (is_path_byte b)) path → IsTrue (list_all is_path_byte path)
path_passes path all = list_all-from_AllPass is_path_byte path all

pub token_passes : (token : List ℕ) → IsSentToken (Some token) → IsTrue (list_all is_token_value_byte token)
token_passes token sent = list_all-from_AllPass is_token_value_byte token sent.2

pub method_short : (m : List ℕ) → IsTrue (is_sent_method m) → length m ≤ 4
method_short m h =
    elim (or_cases _ _ h) [
      | inl e ↦ subst (λ x. length x ≤ 4) (sym ((bytes_decides m (codes "GET")).0 e)) (omega arith)
      | inr h1 ↦ elim (or_cases _ _ h1) [
        | inl e ↦ subst (λ x. length x ≤ 4) (sym ((bytes_decides m (codes "POST")).0 e)) (omega arith)
        | inr h2 ↦ elim (or_cases _ _ h2) [
          | inl e ↦ subst (λ x. length x ≤ 4) (sym ((bytes_decides m (codes "PUT")).0 e)) (omega arith)
          | inr h3 ↦ absurd (both_ways false refl h3)
        ]
      ]
    ]
