-- Trees of texts in UTF-8, flags and whole numbers: their compact text is UTF-8, and is read back.
use Rattle.std.proofs.Common.{◌≡◌, ◌<◌, ◌≤◌, ◌^◌, Bool, true, false, List, [], ◌∷◌, ◌++◌, Option, Some, option_and_then, decimal, IsUtf8, refl, sym, ap, ◌∙◌, append-nil}
use Rattle.std.specs.Prelude.{⊤}
use Rattle.std.proofs.lemmas.{Fmt.IsAscii-decimal, Str.IsUtf8-append, Str.IsUtf8-nil, Str.IsUtf8-from_ascii}
use Rattle.json.specs.{Token.Token, Lex.tokens, Print.quoted, Tree.json_tokens, Tree.HasNumbers, Tree.ItemsHaveNumbers, Tree.MembersHaveNumbers}
use Rattle.json.specs.Json as json
use Rattle.json.specs.Tree as tree
use Rattle.json.proofs.{Printed.Decimals.IsNumber-decimal, Printed.Tokens.tokens-print, Printed.Trees.value-json_tokens, Printed.Trees.ArePrintable-json_tokens}
use Rattle.json.proofs.{Printed.Utf8.IsUtf8-are_ascii, Printed.Utf8.IsUtf8-quoted, Printed.Utf8.IsUtf8-boolean}
use Rattle.serde_json.specs.{Data.Num, Data.unsigned, Data.negative, Data.float, Data.Data, Data.null, Data.boolean, Data.number, Data.string, Data.array, Data.object, Data.Items, Data.no_items, Data.item, Data.Members, Data.no_members, Data.member}
use Rattle.serde_json.specs.{Read.read, Read.of_json, Read.max_depth, Written.outline, Written.items_outline, Written.members_outline, Written.comma_if, Written.compact_text, Written.items_text, Written.members_text}
use Rattle.serde_json.proofs.Texts.{print-outline}

abbrev IsPlainNumber : Num → Type 0
IsPlainNumber (unsigned n) = n < 2 ^ 64
IsPlainNumber (negative z) = ⊥
IsPlainNumber (float x) = ⊥

abbrev mutual
  pub IsPlain : Data → Type 0
  IsPlain null = ⊤
  IsPlain (boolean b) = ⊤
  IsPlain (number n) = IsPlainNumber n
  IsPlain (string s) = IsUtf8 s
  IsPlain (array ds) = ItemsArePlain ds
  IsPlain (object ms) = MembersArePlain ms

  ItemsArePlain : Items → Type 0
  ItemsArePlain no_items = ⊤
  ItemsArePlain (item d ds) = IsPlain d × ItemsArePlain ds

  MembersArePlain : Members → Type 0
  MembersArePlain no_members = ⊤
  MembersArePlain (member k d ms) = IsUtf8 k × IsPlain d × MembersArePlain ms

-- ---- the text is UTF-8

comma : (later : Bool) → IsUtf8 (comma_if later)
comma true = IsUtf8-are_ascii (44 ∷ []) refl
comma false = IsUtf8-nil

number_utf8 : (n : Num) → IsPlainNumber n → IsUtf8 (compact_text (number n))
number_utf8 (unsigned n) small = IsUtf8-from_ascii (decimal n) (IsAscii-decimal n small)
number_utf8 (negative z) h = absurd h
number_utf8 (float x) h = absurd h

mutual
  pub compact_utf8 : (d : Data) → IsPlain d → IsUtf8 (compact_text d)
  compact_utf8 null h = IsUtf8-are_ascii _ refl
  compact_utf8 (boolean b) h = IsUtf8-boolean b
  compact_utf8 (number n) h = number_utf8 n h
  compact_utf8 (string s) h = IsUtf8-quoted s h
  compact_utf8 (array ds) h = IsUtf8-append (91 ∷ []) _ (IsUtf8-are_ascii (91 ∷ []) refl) (items_utf8 false ds h)
  compact_utf8 (object ms) h = IsUtf8-append (123 ∷ []) _ (IsUtf8-are_ascii (123 ∷ []) refl) (members_utf8 false ms h)

  items_utf8 : (later : Bool) (ds : Items) → ItemsArePlain ds → IsUtf8 (items_text later ds)
  items_utf8 later no_items h = IsUtf8-are_ascii (93 ∷ []) refl
  items_utf8 later (item d ds) h = IsUtf8-append (comma_if later) _ (comma later) (IsUtf8-append (compact_text d) _ (compact_utf8 d h.0) (items_utf8 true ds h.1))

  members_utf8 : (later : Bool) (ms : Members) → MembersArePlain ms → IsUtf8 (members_text later ms)
  members_utf8 later no_members h = IsUtf8-are_ascii (125 ∷ []) refl
  members_utf8 later (member k d ms) h =
      IsUtf8-append (comma_if later) _ (comma later) (IsUtf8-append (quoted k) _ (IsUtf8-quoted k h.0)
      (IsUtf8-append (58 ∷ []) _ (IsUtf8-are_ascii (58 ∷ []) refl) (IsUtf8-append (compact_text d) _ (compact_utf8 d h.1) (members_utf8 true ms h.2))))

-- ---- the text is read back

number_spelled : (n : Num) → IsPlainNumber n → HasNumbers (outline (number n))
number_spelled (unsigned n) small = IsNumber-decimal n small
number_spelled (negative z) h = absurd h
number_spelled (float x) h = absurd h

mutual
  spelled : (d : Data) → IsPlain d → HasNumbers (outline d)
  spelled null h = tt
  spelled (boolean b) h = tt
  spelled (number n) h = number_spelled n h
  spelled (string s) h = tt
  spelled (array ds) h = items_spelled ds h
  spelled (object ms) h = members_spelled ms h

  items_spelled : (ds : Items) → ItemsArePlain ds → ItemsHaveNumbers (items_outline ds)
  items_spelled no_items h = tt
  items_spelled (item d ds) h = (spelled d h.0, items_spelled ds h.1)

  members_spelled : (ms : Members) → MembersArePlain ms → MembersHaveNumbers (members_outline ms)
  members_spelled no_members h = tt
  members_spelled (member k d ms) h = (spelled d h.1, members_spelled ms h.2)

of_tokens : Option (json.Json × List Token) → Option Data
of_tokens r = option_and_then of_json (option_and_then (λ p. json.if_last p.0 p.1) r)

-- Its objects have their keys in order, each once, where the outline's tree is the tree.
pub read_compact : (d : Data) → IsPlain d → tree.depth (outline d) ≤ max_depth → of_json (outline d) ≡ Some d → read (compact_text d) ≡ Some d
unfolding of_tokens
read_compact d plain shallow same =
    let seen : tokens (compact_text d) ≡ json_tokens (outline d) ++ [] =
    ap tokens (sym (print-outline d)) ∙ tokens-print (json_tokens (outline d)) (ArePrintable-json_tokens (outline d) (spelled d plain)) ∙ sym (append-nil _) in
    ap (λ ts. of_tokens (json.value max_depth ts)) seen ∙ ap of_tokens (value-json_tokens (outline d) max_depth [] shallow) ∙ same
