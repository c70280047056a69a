-- How long a body is, by the fields of its head (RFC 9112, section 6.3), in this profile: one field or none, and never
-- both; the one coding is `chunked`, a length has 1 to 15 digits.
use Rattle.std.specs.Prelude.{ℕ, ◌==◌, List, [], ◌∷◌, length, Bool, ◌&&◌, ◌||◌, nat_lt, nat_le, if◌then◌else◌, codes, Option, Some, None, Result, Ok, Err}
use Rattle.std.specs.{List.list_all, Char.digit_value, Str.Parse.digits_value}
use Rattle.vault_http.specs.{declared.framing.Framing.Framing, declared.framing.Framing.TheVariants.Empty, declared.framing.Framing.TheVariants.Counted, declared.framing.Framing.TheVariants.Chunked, declared.framing.LengthFault.LengthFault}
use Rattle.vault_http.specs.{declared.framing.LengthFault.TheVariants.BadLength, declared.framing.LengthFault.TheVariants.TwoLengths, Fields.is_field_named, Fields.values_of}

-- the names of the two fields, and of the coding
unfoldable pub transfer_encoding : List ℕ
transfer_encoding = codes "transfer-encoding"

unfoldable pub content_length : List ℕ
content_length = codes "content-length"

unfoldable pub chunked_coding : List ℕ
chunked_coding = codes "chunked"

-- whether a byte is a digit to the base
abbrev pub is_digit : ℕ → ℕ → Bool
is_digit radix b = nat_lt (digit_value b) radix

-- the number that digits give, where there are only digits
abbrev pub number_in_digits : ℕ → List ℕ → Option ℕ
number_in_digits radix bytes = if list_all (is_digit radix) bytes then Some (digits_value radix bytes) else None

-- the length that the value of a field `Content-Length` gives: 1 to 15 decimal digits
unfoldable pub length_in : List ℕ → Option ℕ
length_in value = if nat_lt 0 (length value) && nat_le (length value) 15 then number_in_digits 10 value else None

-- a length that was given, or none that can be read
abbrev pub counted_framing : Option ℕ → Result Framing LengthFault
counted_framing (Some n) = Ok (Counted n)
counted_framing None = Err BadLength

-- the framing by the values of `Transfer-Encoding`, those of `Content-Length`, and what neither of them means
abbrev pub framing_by : Framing → List (List ℕ) → List (List ℕ) → Result Framing LengthFault
framing_by neither [] [] = Ok neither
framing_by neither [] (value ∷ []) = counted_framing (length_in value)
framing_by neither [] (value ∷ other ∷ values) = Err BadLength
framing_by neither (coding ∷ []) [] = if is_field_named chunked_coding coding then Ok Chunked else Err BadLength
framing_by neither (coding ∷ other ∷ codings) [] = Err BadLength
framing_by neither (coding ∷ codings) (value ∷ values) = Err TwoLengths

-- the framing by the fields of a head
unfoldable pub framing : Framing → List (List ℕ × List ℕ) → Result Framing LengthFault
framing neither fields = framing_by neither (values_of transfer_encoding fields) (values_of content_length fields)

-- a reply with the status 204 or 304 has no body, whatever its fields say
abbrev pub bodiless : ℕ → Framing → Framing
bodiless status f = if status == 204 || status == 304 then Empty else f

-- the framing of a reply: all to the end of the input where no field says it
abbrev pub reply_framing : ℕ → Result Framing LengthFault → Result Framing LengthFault
reply_framing status (Ok f) = Ok (bodiless status f)
reply_framing status (Err fault) = Err fault
