-- Asked: what a call sends is read as what its words ask for, and nothing is sent of words that are refused.
use Rattle.std.proofs.Common.{◌≡◌, ◌⊎◌, inl, inr, ℕ, ◌≤◌, Bool, true, false, cond, List, [], ◌∷◌, ◌++◌, Some, option_and_then, Result, Ok, Err, length, nat_lt, refl, sym, ap, ◌∙◌, subst, ltb-false, ⊎_elim}
use Rattle.std.proofs.lemmas.Str.{IsUtf8-from_is_utf8}
use Rattle.std.proofs.lemmas.Bool.{cond-false, cond-true, ltb-true}
use Rattle.serde_json.specs.{Data.Data, Written.compact_text}
use Rattle.json.proofs.Printed.Utf8.{IsUtf8-are_ascii}
use Rattle.base_words.specs.{Laws.Lacks, Texts.stripped}
use Rattle.agent_control.specs.Answer.{◌>>=◌}
use Rattle.agent_control.specs.{Front.IsLineFront, declared.fault.RequestFault.RequestFault, declared.front.Front.TheVariants.Whole, declared.limits.TheConstants.LINE_MAX, declared.request.ControlRequest.ControlRequest}
use Rattle.agent_control.specs.Requests.{asked_by_line, command_of, request_in_line}
use Rattle.agent_control.specs.Words.{or_not_words, tree_of_words, words_in_tree, words_of}
use Rattle.agent_control.specs.declared.fault.RequestFault.TheVariants.{TooLong, NotWords}
use Rattle.agent_control.proofs.OneLine.{front_is, line_lacks}
use Rattle.agent_control.proofs.Chosen.{granted, ok_same, refused, then_ok}
use Rattle.agent_control.proofs.WordTrees.{AllUtf8, line_read, line_text, words_back}
use Rattle.program_calls.specs.declared.ask.CallWords.{CallWords}
use Rattle.program_calls.specs.Asking.{is_ask_text, line_for_ask, tree_for_ask, words_for_ask, words_line}
use Rattle.program_calls.specs.Laws.{AreText, LineIsTooLong, SaysOnly, SentIsAsked, UnsentIsRefused}
use Rattle.program_calls.specs.declared.ask.CallWords.TheVariants.{Need, Replace, Add, Drop, Status, Health, Settle, Reload, Follow}

-- ---- the words

all_utf8 : (ask : CallWords) (input : List ℕ) → AreText ask → is_ask_text ask input ≡ true → AllUtf8 (words_for_ask ask input)
all_utf8 (Need name when) input is text = (IsUtf8-are_ascii _ refl, (is.0, (is.1, tt)))
all_utf8 (Replace name) input is text = (IsUtf8-are_ascii _ refl, (is, (IsUtf8-from_is_utf8 (stripped input) text, tt)))
all_utf8 Add input is text = (IsUtf8-are_ascii _ refl, (IsUtf8-from_is_utf8 input text, tt))
all_utf8 (Drop name) input is text = (IsUtf8-are_ascii _ refl, (is, tt))
all_utf8 Status input is text = (IsUtf8-are_ascii _ refl, tt)
all_utf8 Health input is text = (IsUtf8-are_ascii _ refl, tt)
all_utf8 Settle input is text = (IsUtf8-are_ascii _ refl, tt)
all_utf8 Reload input is text = (IsUtf8-are_ascii _ refl, tt)
all_utf8 (Follow false) input is text = (IsUtf8-are_ascii _ refl, tt)
all_utf8 (Follow true) input is text = (IsUtf8-are_ascii _ refl, (IsUtf8-are_ascii _ refl, tt))

are_words : (ask : CallWords) (input : List ℕ) → words_in_tree (tree_of_words (words_for_ask ask input)) ≡ Some (words_for_ask ask input)
are_words (Need name when) input = words_back _ _
are_words (Replace name) input = words_back _ _
are_words Add input = words_back _ _
are_words (Drop name) input = words_back _ _
are_words Status input = words_back _ _
are_words Health input = words_back _ _
are_words Settle input = words_back _ _
are_words Reload input = words_back _ _
are_words (Follow false) input = words_back _ _
are_words (Follow true) input = words_back _ _

line_is : (ask : CallWords) (input line : List ℕ) → words_line ask input ≡ Ok line → (is_ask_text ask input ≡ true) × (line ≡ compact_text (tree_of_words (words_for_ask ask input)))
unfolding words_line tree_for_ask
line_is ask input line e =
    let t = then_ok (tree_for_ask ask input) (λ d. Ok (compact_text d)) line e in
    let p = granted (is_ask_text ask input) (Ok (tree_of_words (words_for_ask ask input))) NotWords t.0 t.1 in
    (p.0, sym (ok_same _ _ t.2) ∙ ap compact_text (sym (ok_same _ _ p.1)))

-- ---- a line is read as what its words ask for

asked_is : (ask : CallWords) (input : List ℕ) → AreText ask → is_ask_text ask input ≡ true → asked_by_line (compact_text (tree_of_words (words_for_ask ask input))) ≡ command_of (words_for_ask ask input)
unfolding asked_by_line words_of
asked_is ask input is text =
    let ws = words_for_ask ask input in
    ap (λ o. or_not_words (option_and_then words_in_tree o) >>= command_of) (line_read ws (all_utf8 ask input is text))
    ∙ ap (λ o. or_not_words o >>= command_of) (are_words ask input)

read_is : (ask : CallWords) (input line : List ℕ) → AreText ask → words_line ask input ≡ Ok line → nat_lt LINE_MAX (length line) ≡ false → request_in_line line ≡ command_of (words_for_ask ask input)
unfolding request_in_line
read_is ask input line is e short =
    let l = line_is ask input line e in
    cond-false (nat_lt LINE_MAX (length line)) _ _ short ∙ ap asked_by_line l.1 ∙ asked_is ask input is l.0

is_short : (line : List ℕ) (r : ControlRequest) → request_in_line line ≡ Ok r → nat_lt LINE_MAX (length line) ≡ false
unfolding request_in_line
is_short line r e = (refused (nat_lt LINE_MAX (length line)) (asked_by_line line) TooLong r e).0

-- ---- what is sent

says_only : (ask : CallWords) (input line text : List ℕ) (r : ControlRequest) → words_line ask input ≡ Ok line → request_in_line line ≡ Ok r → text ≡ line ++ 10 ∷ [] → SaysOnly text r
says_only ask input line text r e read parts =
    let lacks : Lacks 10 line = subst (Lacks 10) (sym ((line_is ask input line e).1 ∙ line_text (words_for_ask ask input))) (line_lacks (words_for_ask ask input)) in
    let short : length line ≤ LINE_MAX = ltb-false _ _ (is_short line r read) in
    record {
      line = line;
      parts = parts;
      front = λ more. subst (λ l. IsLineFront (l ++ more) (Whole (length line))) (sym parts) (front_is line more lacks short);
      read = read;
    }

pub sent_is_asked : SentIsAsked
unfolding line_for_ask
sent_is_asked ask input text is e =
    let w = then_ok (words_line ask input) (λ line. request_in_line line >>= (λ request. Ok (line ++ 10 ∷ []))) text e in
    let r = then_ok (request_in_line w.0) (λ request. Ok (w.0 ++ 10 ∷ [])) text w.2 in
    (r.0, (sym (read_is ask input w.0 is w.1 (is_short w.0 r.0 r.1)) ∙ r.1, says_only ask input w.0 text r.0 w.1 r.1 (sym (ok_same _ _ r.2))))

-- ---- what is not

err_same : {A : Type 0} (x y : RequestFault) → ◌≡◌ {A = Result A RequestFault} (Err x) (Err y) → x ≡ y
err_same x y e = cc

-- the first of two steps failed, or the second did
then_err : {A B : Type 0} (a : Result A RequestFault) (f : A → Result B RequestFault) (fault : RequestFault) → a >>= f ≡ Err fault → (a ≡ Err fault) ⊎ ((x : A) × ((a ≡ Ok x) × (f x ≡ Err fault)))
then_err (Ok x) f fault e = inr (x, (refl, e))
then_err (Err why) f fault e = inl (ap Err (err_same _ _ e))

not_granted : {A : Type 0} (b : Bool) (x : A) (why fault : RequestFault) → ◌≡◌ {A = Result A RequestFault} (cond b (Ok x) (Err why)) (Err fault) → (fault ≡ why) × (b ≡ false)
not_granted true x why fault e = cc
not_granted false x why fault e = (sym (err_same _ _ e), refl)

is_no_text : (ask : CallWords) (input : List ℕ) (fault : RequestFault) → words_line ask input ≡ Err fault → (fault ≡ NotWords) × (is_ask_text ask input ≡ false)
unfolding words_line tree_for_ask
is_no_text ask input fault e =
    ⊎_elim
    (λ (fails : tree_for_ask ask input ≡ Err fault). not_granted (is_ask_text ask input) (tree_of_words (words_for_ask ask input)) NotWords fault fails)
    (λ (goes : (d : Data) × ((tree_for_ask ask input ≡ Ok d) × (◌≡◌ {A = Result (List ℕ) RequestFault} (Ok (compact_text d)) (Err fault)))). absurd (let no = goes.1.1 in cc))
    (then_err (tree_for_ask ask input) (λ d. Ok (compact_text d)) fault e)

too_long_is : (line : List ℕ) (fault : RequestFault) → nat_lt LINE_MAX (length line) ≡ true → request_in_line line ≡ Err fault → fault ≡ TooLong
unfolding request_in_line
too_long_is line fault long fails = err_same _ _ (sym fails ∙ cond-true (nat_lt LINE_MAX (length line)) (Err TooLong) (asked_by_line line) long)

unread_by : (b : Bool) (ask : CallWords) (input line : List ℕ) (fault : RequestFault) → nat_lt LINE_MAX (length line) ≡ b → AreText ask → words_line ask input ≡ Ok line → request_in_line line ≡ Err fault
    → ((fault ≡ TooLong) × LineIsTooLong ask input) ⊎ (command_of (words_for_ask ask input) ≡ Err fault)
unread_by true ask input line fault long is e fails = inl (too_long_is line fault long fails, (line, (e, ltb-true _ _ long)))
unread_by false ask input line fault short is e fails = inr (sym (read_is ask input line is e short) ∙ fails)

unread : (ask : CallWords) (input line : List ℕ) (fault : RequestFault) → AreText ask → words_line ask input ≡ Ok line → request_in_line line >>= (λ request. Ok (line ++ 10 ∷ [])) ≡ Err fault
    → ((fault ≡ TooLong) × LineIsTooLong ask input) ⊎ (command_of (words_for_ask ask input) ≡ Err fault)
unread ask input line fault is e fails =
    ⊎_elim
    (λ (first : request_in_line line ≡ Err fault). unread_by (nat_lt LINE_MAX (length line)) ask input line fault refl is e first)
    (λ (second : (r : ControlRequest) × ((request_in_line line ≡ Ok r) × (◌≡◌ {A = Result (List ℕ) RequestFault} (Ok (line ++ 10 ∷ [])) (Err fault)))). absurd (let no = second.1.1 in cc))
    (then_err (request_in_line line) (λ request. Ok (line ++ 10 ∷ [])) fault fails)

pub unsent_is_refused : UnsentIsRefused
unfolding line_for_ask
unsent_is_refused ask input fault is e =
    ⊎_elim
    (λ (first : words_line ask input ≡ Err fault). inl (is_no_text ask input fault first))
    (λ (second : (line : List ℕ) × ((words_line ask input ≡ Ok line) × (request_in_line line >>= (λ request. Ok (line ++ 10 ∷ [])) ≡ Err fault))). inr (unread ask input second.0 fault is second.1.0 second.1.1))
    (then_err (words_line ask input) (λ line. request_in_line line >>= (λ request. Ok (line ++ 10 ∷ []))) fault e)
