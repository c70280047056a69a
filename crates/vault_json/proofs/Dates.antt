-- The text of a date is ASCII, and so UTF-8: JSON can hold it.
use Rattle.std.proofs.Common.{ℕ, ◌+◌, ◌/◌, ◌%◌, ◌<◌, List, [], ◌∷◌, IsUtf8, refl, sym, subst, arith, lt-ltb}
use Rattle.std.proofs.lemmas.{Int.ints, Str.IsUtf8-append, Bool.Decides.nat_tests}
use Rattle.json.proofs.Printed.Utf8.{IsUtf8-are_ascii}
use Rattle.base_moment.specs.{Rfc3339.IsDateText, Rfc3339.IsDateTime, Rfc3339.two_digits_of, Rfc3339.four_digits_of, Rfc3339.face, declared.stamp.Stamp.Stamp}

two_utf8 : (n : ℕ) → n < 100 → IsUtf8 (two_digits_of n)
two_utf8 n small =
    let tens : 48 + n / 10 < 128 = omega arith in
    let ones : 48 + n % 10 < 128 = omega arith in
    IsUtf8-are_ascii (two_digits_of n) (rw (lt-ltb _ _ tens, lt-ltb _ _ ones) refl)

-- a dash, a colon, a `T` or a `Z` before what follows
mark : (byte : ℕ) (rest : List ℕ) → IsUtf8 (byte ∷ []) → IsUtf8 rest → IsUtf8 (byte ∷ rest)
mark byte rest one more = IsUtf8-append (byte ∷ []) rest one more

face_utf8 : (s : Stamp) → IsDateTime s → IsUtf8 (face s 84)
face_utf8 s h =
    let year : s.year < 10000 = omega (arith, ints, h.date.0) in
    let high : s.year / 100 < 100 = omega arith in
    let low : s.year % 100 < 100 = omega arith in
    let month : s.month < 100 = omega (arith, h.date.1) in
    let day : s.day < 100 = grind (arith, nat_tests, h.date.2.1) in
    let hour : s.hour < 100 = omega (arith, h.hour) in
    let minute : s.minute < 100 = omega (arith, h.minute) in
    let second : s.second < 100 = omega (arith, h.second) in
    IsUtf8-append (four_digits_of s.year) _ (IsUtf8-append (two_digits_of (s.year / 100)) _ (two_utf8 _ high) (two_utf8 _ low))
    (mark 45 _ (IsUtf8-are_ascii _ refl) (IsUtf8-append (two_digits_of s.month) _ (two_utf8 _ month)
    (mark 45 _ (IsUtf8-are_ascii _ refl) (IsUtf8-append (two_digits_of s.day) _ (two_utf8 _ day)
    (mark 84 _ (IsUtf8-are_ascii _ refl) (IsUtf8-append (two_digits_of s.hour) _ (two_utf8 _ hour)
    (mark 58 _ (IsUtf8-are_ascii _ refl) (IsUtf8-append (two_digits_of s.minute) _ (two_utf8 _ minute)
    (mark 58 _ (IsUtf8-are_ascii _ refl) (two_utf8 _ second))))))))))

pub date_utf8 : (text : List ℕ) (moment : ℕ) → IsDateText text moment → IsUtf8 text
date_utf8 text moment is = subst IsUtf8 (sym is.4) (IsUtf8-append (face is.0 84) _ (face_utf8 is.0 is.1) (IsUtf8-are_ascii (90 ∷ []) refl))
