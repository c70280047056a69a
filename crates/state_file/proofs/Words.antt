-- What is written at a key, and what is left out.
use Rattle.std.proofs.Common.{◌≡◌, ℕ, pos, ◌+◌, ◌/◌, ◌%◌, ◌<◌, ◌≤◌, true, false, nat_le, le-leb, List, [], ◌∷◌, ◌++◌, sym, subst, arith}
use Rattle.std.proofs.lemmas.{Int.ints, Str.Ascii.IsAscii-cons, Str.Ascii.IsAscii-nil}
use Rattle.std.proofs.lemmas.Bool.{cond-true, cond-false, false_from_ne_true, leb-true}
use Rattle.std.proofs.lemmas.Str.{IsUtf8-from_ascii, IsUtf8-from_is_utf8, is_utf8-from_IsUtf8}
use Rattle.std.specs.Str.{IsAscii, IsUtf8, is_utf8}
use Rattle.base_moment.specs.{declared.moment.TheConstants.LAST, declared.stamp.Stamp.Stamp}
use Rattle.base_moment.specs.Rfc3339.{IsDateText, IsDateTime, face, two_digits_of}
use Rattle.toml.specs.Data.{integer}
use Rattle.vault_inventory.specs.declared.key.Key.{Key}
use Rattle.state_file.specs.declared.text.Form.{Form}
use Rattle.state_file.specs.declared.text.Form.TheVariants.{Words, Seconds}
use Rattle.state_file.specs.FileText.{field, dated, quoted, number, Adds, AddsField, moment_lines, number_lines, text_lines}
use Rattle.state_file.proofs.Printing.{adds_dated, adds_number}

pub text_in : (key : Key) (t old new : List ℕ) → IsUtf8 t → Adds (field key (quoted t) ∷ []) old new → Adds (text_lines key t) old new
unfolding text_lines
text_in key t old new utf8 h =
    subst (λ ls. Adds ls old new) (sym (cond-true (is_utf8 t) (field key (quoted t) ∷ []) [] (is_utf8-from_IsUtf8 t utf8))) h

pub text_out : (key : Key) (t old new : List ℕ) → (IsUtf8 t → ⊥) → new ≡ old → Adds (text_lines key t) old new
unfolding text_lines Adds
text_out key t old new h same =
    subst (λ ls. Adds ls old new) (sym (cond-false (is_utf8 t) (field key (quoted t) ∷ []) [] (false_from_ne_true _ (λ e. h (IsUtf8-from_is_utf8 t e))))) same

pub number_in : (key : Key) (n : ℕ) (old new : List ℕ) → n ≤ 9223372036854775807 → AddsField key (integer (pos n)) old new → Adds (number_lines key n) old new
unfolding number_lines
number_in key n old new few h =
    subst (λ ls. Adds ls old new) (sym (cond-true (nat_le n 9223372036854775807) (field key (number n) ∷ []) [] (le-leb n 9223372036854775807 few))) (adds_number key n old new h)

pub number_out : (key : Key) (n : ℕ) (old new : List ℕ) → 9223372036854775807 < n → new ≡ old → Adds (number_lines key n) old new
unfolding number_lines Adds
number_out key n old new many same =
    subst (λ ls. Adds ls old new) (sym (cond-false (nat_le n 9223372036854775807) (field key (number n) ∷ []) [] (false_from_ne_true _ (λ e. omega (arith, many, leb-true n 9223372036854775807 e))))) same

pub moment_in : (key : Key) (m : ℕ) (old new : List ℕ) → m ≤ LAST → Adds (dated key m ∷ []) old new → Adds (moment_lines Words key m) old new
unfolding moment_lines
moment_in key m old new last h =
    subst (λ ls. Adds ls old new) (sym (cond-true (nat_le m LAST) (dated key m ∷ []) (number_lines key m) (le-leb m LAST last))) h

pub moment_seconds : (key : Key) (m : ℕ) (old new : List ℕ) → Adds (number_lines key m) old new → Adds (moment_lines Seconds key m) old new
unfolding moment_lines
moment_seconds key m old new h = h

pub moment_past : (form : Form) (key : Key) (m : ℕ) (old new : List ℕ) → (m ≤ LAST → ⊥) → Adds (number_lines key m) old new → Adds (moment_lines form key m) old new
unfolding moment_lines
moment_past Words key m old new past h =
    subst (λ ls. Adds ls old new) (sym (cond-false (nat_le m LAST) (dated key m ∷ []) (number_lines key m) (false_from_ne_true _ (λ e. past (leb-true m LAST e))))) h
moment_past Seconds key m old new past h = h

-- ---- a date is ASCII

two_ascii : (n : ℕ) (bs : List ℕ) → n < 100 → IsAscii bs → IsAscii (two_digits_of n ++ bs)
two_ascii n bs small h =
    let tens : 48 + n / 10 < 128 = omega (arith, small) in
    let ones : 48 + n % 10 < 128 = omega (arith, small) in
    IsAscii-cons (48 + n / 10) ((48 + n % 10) ∷ bs) tens (IsAscii-cons (48 + n % 10) bs ones h)

mark_ascii : (b : ℕ) (bs : List ℕ) → b < 128 → IsAscii bs → IsAscii (b ∷ bs)
mark_ascii b bs small h = IsAscii-cons b bs small h

-- a calendar has years below 10000, and months and days below 100
numbers_below : (s : Stamp) → IsDateTime s → (s.year < 10000) × (s.month < 100) × (s.day < 100)
numbers_below s h = (omega (arith, ints, h.date.0), omega (arith, h.date.1), grind (arith, h.date.2))

face_ascii : (s : Stamp) (between : ℕ) (bs : List ℕ) → s.year < 10000 → s.month < 100 → s.day < 100 → s.hour < 100 → s.minute < 100 → s.second < 100 → between < 128 → IsAscii bs → IsAscii (face s between ++ bs)
face_ascii s between bs year month day hour minute second small h =
    let from_11 : IsAscii (two_digits_of s.second ++ bs) = two_ascii s.second bs second h in
    let from_10 : IsAscii (58 ∷ (two_digits_of s.second ++ bs)) = mark_ascii 58 (two_digits_of s.second ++ bs) (omega arith) from_11 in
    let from_9 : IsAscii (two_digits_of s.minute ++ (58 ∷ (two_digits_of s.second ++ bs))) = two_ascii s.minute (58 ∷ (two_digits_of s.second ++ bs)) minute from_10 in
    let from_8 : IsAscii (58 ∷ (two_digits_of s.minute ++ (58 ∷ (two_digits_of s.second ++ bs)))) = mark_ascii 58 (two_digits_of s.minute ++ (58 ∷ (two_digits_of s.second ++ bs))) (omega arith) from_9 in
    let from_7 : IsAscii (two_digits_of s.hour ++ (58 ∷ (two_digits_of s.minute ++ (58 ∷ (two_digits_of s.second ++ bs))))) = two_ascii s.hour (58 ∷ (two_digits_of s.minute ++ (58 ∷ (two_digits_of s.second ++ bs)))) hour from_8 in
    let from_6 : IsAscii (between ∷ (two_digits_of s.hour ++ (58 ∷ (two_digits_of s.minute ++ (58 ∷ (two_digits_of s.second ++ bs)))))) = mark_ascii between (two_digits_of s.hour ++ (58 ∷ (two_digits_of s.minute ++ (58 ∷ (two_digits_of s.second ++ bs))))) small from_7 in
    let from_5 : IsAscii (two_digits_of s.day ++ (between ∷ (two_digits_of s.hour ++ (58 ∷ (two_digits_of s.minute ++ (58 ∷ (two_digits_of s.second ++ bs))))))) = two_ascii s.day (between ∷ (two_digits_of s.hour ++ (58 ∷ (two_digits_of s.minute ++ (58 ∷ (two_digits_of s.second ++ bs)))))) day from_6 in
    let from_4 : IsAscii (45 ∷ (two_digits_of s.day ++ (between ∷ (two_digits_of s.hour ++ (58 ∷ (two_digits_of s.minute ++ (58 ∷ (two_digits_of s.second ++ bs)))))))) = mark_ascii 45 (two_digits_of s.day ++ (between ∷ (two_digits_of s.hour ++ (58 ∷ (two_digits_of s.minute ++ (58 ∷ (two_digits_of s.second ++ bs))))))) (omega arith) from_5 in
    let from_3 : IsAscii (two_digits_of s.month ++ (45 ∷ (two_digits_of s.day ++ (between ∷ (two_digits_of s.hour ++ (58 ∷ (two_digits_of s.minute ++ (58 ∷ (two_digits_of s.second ++ bs))))))))) = two_ascii s.month (45 ∷ (two_digits_of s.day ++ (between ∷ (two_digits_of s.hour ++ (58 ∷ (two_digits_of s.minute ++ (58 ∷ (two_digits_of s.second ++ bs)))))))) month from_4 in
    let from_2 : IsAscii (45 ∷ (two_digits_of s.month ++ (45 ∷ (two_digits_of s.day ++ (between ∷ (two_digits_of s.hour ++ (58 ∷ (two_digits_of s.minute ++ (58 ∷ (two_digits_of s.second ++ bs)))))))))) = mark_ascii 45 (two_digits_of s.month ++ (45 ∷ (two_digits_of s.day ++ (between ∷ (two_digits_of s.hour ++ (58 ∷ (two_digits_of s.minute ++ (58 ∷ (two_digits_of s.second ++ bs))))))))) (omega arith) from_3 in
    let from_1 : IsAscii (two_digits_of (s.year % 100) ++ (45 ∷ (two_digits_of s.month ++ (45 ∷ (two_digits_of s.day ++ (between ∷ (two_digits_of s.hour ++ (58 ∷ (two_digits_of s.minute ++ (58 ∷ (two_digits_of s.second ++ bs))))))))))) = two_ascii (s.year % 100) (45 ∷ (two_digits_of s.month ++ (45 ∷ (two_digits_of s.day ++ (between ∷ (two_digits_of s.hour ++ (58 ∷ (two_digits_of s.minute ++ (58 ∷ (two_digits_of s.second ++ bs)))))))))) (omega (arith, year)) from_2 in
    two_ascii (s.year / 100) (two_digits_of (s.year % 100) ++ (45 ∷ (two_digits_of s.month ++ (45 ∷ (two_digits_of s.day ++ (between ∷ (two_digits_of s.hour ++ (58 ∷ (two_digits_of s.minute ++ (58 ∷ (two_digits_of s.second ++ bs))))))))))) (omega (arith, year)) from_1

date_ascii : (text : List ℕ) (m : ℕ) → IsDateText text m → IsAscii text
date_ascii text m (s, h, utc, seconds, is) =
    let (year, month, day) = numbers_below s h in
    subst IsAscii (sym is) (face_ascii s 84 (90 ∷ []) year month day
    (omega (arith, h.hour)) (omega (arith, h.minute)) (omega (arith, h.second)) (omega arith) (IsAscii-cons 90 [] (omega arith) IsAscii-nil))

pub date_in : (key : Key) (m : ℕ) (date old new : List ℕ) → IsDateText date m → Adds (text_lines key date) old new → Adds (dated key m ∷ []) old new
unfolding text_lines
date_in key m date old new is h =
    adds_dated key m date old new is
    (subst (λ ls. Adds ls old new) (cond-true (is_utf8 date) (field key (quoted date) ∷ []) [] (is_utf8-from_IsUtf8 date (IsUtf8-from_ascii date (date_ascii date m is)))) h)
