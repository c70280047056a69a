-- A fingerprint is a word: 64 hexadecimal digits.
use Rattle.std.proofs.Common.{◌≡◌, ℕ, zero, suc, ◌*◌, ◌<◌, ◌/◌, ◌%◌, Bool, true, ◌&&◌, inl, inr, List, [], ◌∷◌, ◌++◌, length, nat_le, nat_lt, refl, ap, ◌∙◌, arith}
use Rattle.std.specs.Prelude.{slice_index}
use Rattle.std.proofs.lemmas.Bool.{and_from, and_parts, cases_lt}
use Rattle.std.specs.List.{list_all}
use Rattle.std.specs.Int.{is_in_range, to_be_bytes, w32}
use Rattle.hex.specs.Hex.{encode_lower, encode_with, lower_digits}
use Rattle.hex.proofs.HexLemmas.{length-encode_with}
use Rattle.sha2.specs.Sha256.{digest_bytes, final_hash, initial_hash_256, sha256}
use Rattle.sha2.proofs.Facts256.{length-sha256}
use Rattle.vault_inventory.specs.declared.limits.TheConstants.{CREDENTIAL_MAX}
use Rattle.state_changes.specs.{RowText.is_word, Words.fingerprint}

-- ---- a digest is bytes

abbrev AreBytes : List ℕ → Type 0
AreBytes [] = Unit {0}
AreBytes (b ∷ bs) = (b < 256) × AreBytes bs

bytes_join : (xs ys : List ℕ) → AreBytes xs → AreBytes ys → AreBytes (xs ++ ys)
bytes_join [] ys a b = b
bytes_join (x ∷ xs) ys a b = (a.0, bytes_join xs ys a.1 b)

four_bytes : (n : ℕ) → AreBytes (to_be_bytes w32 n)
four_bytes n = (omega arith, (omega arith, (omega arith, (omega arith, tt))))

digest_is_bytes : (h : List ℕ) (n : ℕ) → AreBytes (digest_bytes h n)
unfolding digest_bytes
digest_is_bytes h zero = tt
digest_is_bytes h (suc n) = bytes_join (digest_bytes h n) (to_be_bytes w32 (slice_index h n)) (digest_is_bytes h n) (four_bytes (slice_index h n))

-- ---- a digit is printable

abbrev is_digit_at : ℕ → Bool
is_digit_at d = is_in_range 0x21 0x7E (slice_index lower_digits d)

-- the first n digits are
abbrev are_digits : ℕ → Bool
are_digits zero = true
are_digits (suc n) = is_digit_at n && are_digits n

digit_below : (n k : ℕ) → are_digits n ≡ true → k < n → is_digit_at k ≡ true
digit_below zero k all below = absurd (omega arith)
digit_below (suc n) k all below =
    let parts = and_parts (is_digit_at n) (are_digits n) all in
    elim (cases_lt k n) [
      | inl less ↦ digit_below n k parts.1 less
      | inr top ↦ let same : k ≡ n = omega arith in ap is_digit_at same ∙ parts.0
    ]

encoded : (bytes : List ℕ) → AreBytes bytes → list_all (is_in_range 0x21 0x7E) (encode_lower bytes) ≡ true
unfolding encode_with
encoded [] are = refl
encoded (b ∷ bytes) are =
    let high : b / 16 < 16 = omega (arith, are.0) in
    let low : b % 16 < 16 = omega arith in
    and_from _ _ (digit_below 16 (b / 16) refl high) (and_from _ _ (digit_below 16 (b % 16) refl low) (encoded bytes are.1))

-- ---- so a fingerprint is a word

fingerprint_length : (bytes : List ℕ) → length (fingerprint bytes) ≡ 64
unfolding fingerprint
fingerprint_length bytes = length-encode_with lower_digits (sha256 bytes) ∙ ap (λ (n : ℕ). 2 * n) (length-sha256 bytes)

fingerprint_digits : (bytes : List ℕ) → list_all (is_in_range 0x21 0x7E) (fingerprint bytes) ≡ true
unfolding fingerprint sha256
fingerprint_digits bytes = encoded (sha256 bytes) (digest_is_bytes (final_hash initial_hash_256 bytes) 8)

pub mark_is_word : (bytes : List ℕ) → is_word (fingerprint bytes) ≡ true
mark_is_word bytes =
    let long = fingerprint_length bytes in
    and_from _ _ (ap (nat_lt 0) long) (and_from _ _ (ap (λ (n : ℕ). nat_le n CREDENTIAL_MAX) long) (fingerprint_digits bytes))
