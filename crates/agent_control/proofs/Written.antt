-- What is written of a request is one line, and is read as that request.
use Rattle.std.proofs.Common.{◌≡◌, ℕ, ◌^◌, ◌<◌, ◌≤◌, true, false, List, [], ◌∷◌, ◌++◌, length, nat_lt, decimal, Ok, IsUtf8, refl, sym, ap, ◌∙◌, subst, arith, inl, ltb-false}
use Rattle.std.proofs.lemmas.{Bool.and_parts, List.append-nil}
use Rattle.std.proofs.lemmas.Fmt.{IsAscii-decimal, decimal_nonempty, digits_decimal, digits_value-decimal, length-decimal-le}
use Rattle.std.proofs.lemmas.Str.{IsUtf8-append, IsUtf8-from_ascii, IsUtf8-from_is_utf8}
use Rattle.std.specs.Str.{is_utf8}
use Rattle.serde_json.specs.Written.{compact_text}
use Rattle.json.proofs.Printed.Utf8.{IsUtf8-are_ascii}
use Rattle.base_moment.specs.declared.moment.TheConstants.{LAST}
use Rattle.base_words.specs.Laws.{Lacks}
use Rattle.base_words.proofs.Digits.{own}
use Rattle.vault_inventory.specs.{declared.need.Need.Need, Needs.IsNeed, Needs.need_word}
use Rattle.vault_inventory.specs.declared.need.Need.TheVariants.{Until, Always}
use Rattle.agent_control.specs.{Front.IsLineFront, declared.front.Front.TheVariants.Whole, When.IsWhen, When.when_word, Words.tree_of_words, declared.limits.TheConstants.LINE_MAX, declared.request.ControlRequest.ControlRequest}
use Rattle.agent_control.specs.{declared.when.When.When}
use Rattle.agent_control.specs.Laws.{AreDigits, LineAsks, RequestWrittenIsRead, SaysNeed, SaysWhen, WordsAskFor}
use Rattle.agent_control.specs.Requests.{IsControlRequest, ended, is_request_text, line_for, request_line_text, tree_for, words_for}
use Rattle.agent_control.specs.declared.fault.RequestFault.TheVariants.{TooLong, NotWords}
use Rattle.agent_control.specs.declared.when.When.TheVariants.{Fixed, FromNow}
use Rattle.agent_control.specs.declared.request.ControlRequest.TheVariants as asks
use Rattle.agent_control.proofs.{Commands.request_only, OneLine.front_is, OneLine.line_lacks}
use Rattle.agent_control.proofs.Chosen.{granted, ok_same, refused, then_ok}
use Rattle.agent_control.proofs.WordTrees.{AllUtf8, line_read, line_text}

-- ---- WHEN

decimal_digits : (n : ℕ) → n ≤ LAST → AreDigits (decimal n) n
decimal_digits n few =
    let small : n < 2 ^ 64 = omega (arith, few) in
    (decimal_nonempty n small, length-decimal-le 12 n (omega arith) (omega (arith, few)) small, digits_decimal own n small, digits_value-decimal own n small)

decimal_utf8 : (n : ℕ) → n ≤ LAST → IsUtf8 (decimal n)
decimal_utf8 n few = IsUtf8-from_ascii (decimal n) (IsAscii-decimal n (omega (arith, few)))

need_says : (need : Need) → IsNeed need → SaysNeed need (need_word need)
need_says (Until t) few = inl (decimal_digits t few)
need_says Always is = refl

when_says : (when : When) → IsWhen when → SaysWhen when (when_word when)
when_says (Fixed need) is = need_says need is
when_says (FromNow n) few = record {
  digits = decimal n;
  count = n;
  are_digits = decimal_digits n few;
  unit = [];
  size = 1;
  is_unit = inl (refl, refl);
  parts = ap (λ l. 43 ∷ l) (sym (append-nil (decimal n)));
  product = omega arith;
}

need_utf8 : (need : Need) → IsNeed need → IsUtf8 (need_word need)
need_utf8 (Until t) few = decimal_utf8 t few
need_utf8 Always is = IsUtf8-are_ascii _ refl

when_utf8 : (when : When) → IsWhen when → IsUtf8 (when_word when)
when_utf8 (Fixed need) is = need_utf8 need is
when_utf8 (FromNow n) few = IsUtf8-append (43 ∷ []) (decimal n) (IsUtf8-are_ascii (43 ∷ []) refl) (decimal_utf8 n few)

-- ---- the words

says_it : (r : ControlRequest) → IsControlRequest r → WordsAskFor r (words_for r)
says_it (asks.Need name when) is = (when_word when, when_says when is.1, refl)
says_it (asks.Replace name credential) is = refl
says_it (asks.Add table) is = refl
says_it (asks.Drop name) is = refl
says_it asks.Status is = refl
says_it asks.Health is = refl
says_it asks.Settle is = refl
says_it asks.Reload is = refl
says_it (asks.Follow false) is = refl
says_it (asks.Follow true) is = refl

all_utf8 : (r : ControlRequest) → IsControlRequest r → is_request_text r ≡ true → AllUtf8 (words_for r)
all_utf8 (asks.Need name when) is text = (IsUtf8-are_ascii _ refl, (IsUtf8-from_is_utf8 name text, (when_utf8 when is.1, tt)))
all_utf8 (asks.Replace name credential) is text =
    let p = and_parts (is_utf8 name) (is_utf8 credential) text in
    (IsUtf8-are_ascii _ refl, (IsUtf8-from_is_utf8 name p.0, (IsUtf8-from_is_utf8 credential p.1, tt)))
all_utf8 (asks.Add table) is text = (IsUtf8-are_ascii _ refl, (IsUtf8-from_is_utf8 table text, tt))
all_utf8 (asks.Drop name) is text = (IsUtf8-are_ascii _ refl, (IsUtf8-from_is_utf8 name text, tt))
all_utf8 asks.Status is text = (IsUtf8-are_ascii _ refl, tt)
all_utf8 asks.Health is text = (IsUtf8-are_ascii _ refl, tt)
all_utf8 asks.Settle is text = (IsUtf8-are_ascii _ refl, tt)
all_utf8 asks.Reload is text = (IsUtf8-are_ascii _ refl, tt)
all_utf8 (asks.Follow false) is text = (IsUtf8-are_ascii _ refl, tt)
all_utf8 (asks.Follow true) is text = (IsUtf8-are_ascii _ refl, (IsUtf8-are_ascii _ refl, tt))

-- ---- the line

ended_is : (line text : List ℕ) → ended line ≡ Ok text → (length line ≤ LINE_MAX) × (text ≡ line ++ 10 ∷ [])
unfolding ended
ended_is line text e =
    let p = refused (nat_lt LINE_MAX (length line)) (Ok (line ++ 10 ∷ [])) TooLong text e in
    (ltb-false _ _ p.0, sym (ok_same _ _ p.1))

line_is : (r : ControlRequest) (line : List ℕ) → line_for r ≡ Ok line → (is_request_text r ≡ true) × (line ≡ compact_text (tree_of_words (words_for r)))
unfolding line_for tree_for
line_is r line e =
    let t = then_ok (tree_for r) (λ d. Ok (compact_text d)) line e in
    let p = granted (is_request_text r) (Ok (tree_of_words (words_for r))) NotWords t.0 t.1 in
    (p.0, sym (ok_same _ _ t.2) ∙ ap compact_text (sym (ok_same _ _ p.1)))

pub written_is_read : RequestWrittenIsRead
unfolding request_line_text
written_is_read r text more is e =
    let ws = words_for r in
    let line = compact_text (tree_of_words ws) in
    let t = then_ok (line_for r) ended text e in
    let p = line_is r t.0 t.1 in
    let q = ended_is line text (ap ended (sym p.1) ∙ t.2) in
    let lacks : Lacks 10 line = subst (Lacks 10) (sym (line_text ws)) (line_lacks ws) in
    let it : LineAsks line r = record { short = q.0; is_request = is; words = ws; tree = line_read ws (all_utf8 r is p.0); says = says_it r is } in
    (line, q.1, subst (λ l. IsLineFront (l ++ more) (Whole (length line))) (sym q.1) (front_is line more lacks q.0), request_only line r it)
