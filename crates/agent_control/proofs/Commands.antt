-- Requests: what is read of a line is what it asks for, and each line that asks for something is read so.
use Rattle.std.proofs.Common.{◌≡◌, inl, inr, ℕ, true, false, cond, ◌==◌, List, [], ◌∷◌, length, nat_lt, bytes_eq, codes, Option, Some, None, option_and_then, Result, Ok, Err, refl, sym, ap, ◌∙◌, subst, arith, ltb-false}
use Rattle.std.proofs.lemmas.Bool.{and_parts, cond-true, cond-false, eqb-true, le-ltb}
use Rattle.std.specs.Cmp.Lexicographic.{bytes_decides}
use Rattle.vault_json.specs.Body.{json_tree}
use Rattle.plan_forest.specs.Push.{is_name}
use Rattle.vault_inventory.specs.Values.{is_credential}
use Rattle.agent_control.specs.Answer.{◌>>=◌}
use Rattle.agent_control.specs.{When.when_of, declared.fault.RequestFault.RequestFault, declared.limits.TheConstants.LINE_MAX, declared.request.ControlRequest.ControlRequest, declared.when.When.When}
use Rattle.agent_control.specs.Laws.{RequestFound, RequestOnly, WordsAskFor}
use Rattle.agent_control.specs.Requests.{IsControlRequest, asked_by_line, command_of, if_named, is_command, is_command_with, need_request, plain_of, replace_of, request_in_line}
use Rattle.agent_control.specs.Words.{or_not_words, tree_of_words, word_at, words_in_tree, words_of}
use Rattle.agent_control.specs.declared.fault.RequestFault.TheVariants.{TooLong, NoCommand, BadName, BadCredential}
use Rattle.agent_control.specs.declared.request.ControlRequest.TheVariants.{Need, Replace, Add, Drop, Status, Health, Settle, Reload, Follow}
use Rattle.agent_control.proofs.{Whens.when_found, Whens.when_only, WordTrees.words_back, WordTrees.words_only}
use Rattle.agent_control.proofs.Chosen.{branch, granted, ok_same, refused, then_ok, then_some}

-- ---- so many words

one_word : (ws : List (List ℕ)) → length ws ≡ 1 → ws ≡ word_at ws 0 ∷ []
one_word [] e = absurd (omega (arith, e))
one_word (a ∷ []) e = refl
one_word (a ∷ b ∷ ws) e = absurd (omega (arith, e))

two_words : (ws : List (List ℕ)) → length ws ≡ 2 → ws ≡ word_at ws 0 ∷ word_at ws 1 ∷ []
two_words [] e = absurd (omega (arith, e))
two_words (a ∷ []) e = absurd (omega (arith, e))
two_words (a ∷ b ∷ []) e = refl
two_words (a ∷ b ∷ c ∷ ws) e = absurd (omega (arith, e))

three_words : (ws : List (List ℕ)) → length ws ≡ 3 → ws ≡ word_at ws 0 ∷ word_at ws 1 ∷ word_at ws 2 ∷ []
three_words [] e = absurd (omega (arith, e))
three_words (a ∷ []) e = absurd (omega (arith, e))
three_words (a ∷ b ∷ []) e = absurd (omega (arith, e))
three_words (a ∷ b ∷ c ∷ []) e = refl
three_words (a ∷ b ∷ c ∷ d ∷ ws) e = absurd (omega (arith, e))

command_parts : (word : List ℕ) (count : ℕ) (ws : List (List ℕ)) → is_command word count ws ≡ true → (word_at ws 0 ≡ word) × (length ws ≡ count)
unfolding is_command
command_parts word count ws h =
    let p = and_parts (bytes_eq (word_at ws 0) word) (length ws == count) h in
    ((bytes_decides (word_at ws 0) word).0 p.0, eqb-true _ _ p.1)

alone : (word : List ℕ) (ws : List (List ℕ)) → is_command word 1 ws ≡ true → ws ≡ word ∷ []
alone word ws h = let p = command_parts word 1 ws h in one_word ws p.1 ∙ ap (λ w. w ∷ []) p.0

with_one : (word : List ℕ) (ws : List (List ℕ)) → is_command word 2 ws ≡ true → ws ≡ word ∷ word_at ws 1 ∷ []
with_one word ws h = let p = command_parts word 2 ws h in two_words ws p.1 ∙ ap (λ w. w ∷ word_at ws 1 ∷ []) p.0

with_two : (word : List ℕ) (ws : List (List ℕ)) → is_command word 3 ws ≡ true → ws ≡ word ∷ word_at ws 1 ∷ word_at ws 2 ∷ []
with_two word ws h = let p = command_parts word 3 ws h in three_words ws p.1 ∙ ap (λ w. w ∷ word_at ws 1 ∷ word_at ws 2 ∷ []) p.0

with_this : (word more : List ℕ) (ws : List (List ℕ)) → is_command_with word more ws ≡ true → ws ≡ word ∷ more ∷ []
unfolding is_command_with
with_this word more ws h =
    let p = and_parts (is_command word 2 ws) (bytes_eq (word_at ws 1) more) h in
    with_one word ws p.0 ∙ ap (λ w. word ∷ w ∷ []) ((bytes_decides (word_at ws 1) more).0 p.1)

-- ---- found

abbrev Said : List (List ℕ) → ControlRequest → Type 0
Said ws r = WordsAskFor r ws × IsControlRequest r

need_found : (name word : List ℕ) (ws : List (List ℕ)) (o : Option When) (r : ControlRequest) → when_of word ≡ o → is_name name ≡ true → ws ≡ codes "need" ∷ name ∷ word ∷ [] → need_request name o ≡ Ok r → Said ws r
need_found name word ws None r is named words e = cc
need_found name word ws (Some when) r is named words e =
    let w = when_found word when is in
    rw (sym (ok_same _ _ e)) ((word, w.0, words), (named, w.1))

replace_found : (name credential : List ℕ) (ws : List (List ℕ)) (r : ControlRequest) → is_name name ≡ true → ws ≡ codes "replace" ∷ name ∷ credential ∷ [] → replace_of name credential ≡ Ok r → Said ws r
replace_found name credential ws r named words e =
    let p = granted (is_credential credential) (Ok (Replace name credential)) BadCredential r e in
    rw (sym (ok_same _ _ p.1)) (words, (named, p.0))

plain_is : (ws : List (List ℕ)) (q r : ControlRequest) → ◌≡◌ {A = Result ControlRequest RequestFault} (Ok q) (Ok r) → Said ws q → Said ws r
plain_is ws q r e h = subst (Said ws) (ok_same q r e) h

last_found : (ws : List (List ℕ)) (r : ControlRequest) → cond (is_command_with (codes "follow") (codes "alerts") ws) (Ok (Follow true)) (Err NoCommand) ≡ Ok r → Said ws r
last_found ws r e =
    let p = granted (is_command_with (codes "follow") (codes "alerts") ws) (Ok (Follow true)) NoCommand r e in
    plain_is ws (Follow true) r p.1 (with_this (codes "follow") (codes "alerts") ws p.0, tt)

plain_found : (ws : List (List ℕ)) (r : ControlRequest) → plain_of ws ≡ Ok r → Said ws r
unfolding plain_of
plain_found ws r e =
    elim (branch (is_command (codes "add") 2 ws) _ _ r e) [
      | inl p ↦ plain_is ws (Add (word_at ws 1)) r p.1 (with_one (codes "add") ws p.0, tt)
      | inr e2 ↦ elim (branch (is_command (codes "status") 1 ws) _ _ r e2) [
        | inl p ↦ plain_is ws Status r p.1 (alone (codes "status") ws p.0, tt)
        | inr e3 ↦ elim (branch (is_command (codes "health") 1 ws) _ _ r e3) [
          | inl p ↦ plain_is ws Health r p.1 (alone (codes "health") ws p.0, tt)
          | inr e4 ↦ elim (branch (is_command (codes "settle") 1 ws) _ _ r e4) [
            | inl p ↦ plain_is ws Settle r p.1 (alone (codes "settle") ws p.0, tt)
            | inr e5 ↦ elim (branch (is_command (codes "reload") 1 ws) _ _ r e5) [
              | inl p ↦ plain_is ws Reload r p.1 (alone (codes "reload") ws p.0, tt)
              | inr e6 ↦ elim (branch (is_command (codes "follow") 1 ws) _ _ r e6) [
                | inl p ↦ plain_is ws (Follow false) r p.1 (alone (codes "follow") ws p.0, tt)
                | inr e7 ↦ last_found ws r e7
              ]
            ]
          ]
        ]
      ]
    ]

pub command_found : (ws : List (List ℕ)) (r : ControlRequest) → command_of ws ≡ Ok r → Said ws r
unfolding command_of
command_found ws r e =
    elim (branch (is_command (codes "need") 3 ws) _ _ r e) [
      | inl p ↦
          let n = granted (is_name (word_at ws 1)) _ BadName r p.1 in
          need_found (word_at ws 1) (word_at ws 2) ws (when_of (word_at ws 2)) r refl n.0 (with_two (codes "need") ws p.0) n.1
      | inr e2 ↦ elim (branch (is_command (codes "replace") 3 ws) _ _ r e2) [
        | inl p ↦
            let n = granted (is_name (word_at ws 1)) _ BadName r p.1 in
            replace_found (word_at ws 1) (word_at ws 2) ws r n.0 (with_two (codes "replace") ws p.0) n.1
        | inr e3 ↦ elim (branch (is_command (codes "drop") 2 ws) _ _ r e3) [
          | inl p ↦
              let n = granted (is_name (word_at ws 1)) _ BadName r p.1 in
              plain_is ws (Drop (word_at ws 1)) r n.1 (with_one (codes "drop") ws p.0, n.0)
          | inr e4 ↦ plain_found ws r e4
        ]
      ]
    ]

there : {A : Type 0} (o : Option A) (z : A) → or_not_words o ≡ Ok z → o ≡ Some z
there None z e = cc
there (Some x) z e = ap (λ y. Some y) (ok_same x z e)

words_found : (line : List ℕ) (ws : List (List ℕ)) → words_of line ≡ Ok ws → json_tree line ≡ Some (tree_of_words ws)
unfolding words_of
words_found line ws e =
    let t = then_some words_in_tree (json_tree line) ws (there _ ws e) in
    t.1 ∙ ap (λ d. Some d) (words_only t.0 ws t.2)

pub request_found : RequestFound
unfolding request_in_line asked_by_line
request_found line r e =
    let p = refused (nat_lt LINE_MAX (length line)) _ TooLong r e in
    let t = then_ok (words_of line) command_of r p.1 in
    let c = command_found t.0 r t.2 in
    record { short = ltb-false _ _ p.0; is_request = c.1; words = t.0; tree = words_found line t.0 t.1; says = c.0 }

-- ---- only

named_is : (name : List ℕ) (answer : Result ControlRequest RequestFault) → is_name name ≡ true → if_named name answer ≡ answer
named_is name answer h = cond-true (is_name name) _ _ h

command_only : (r : ControlRequest) (ws : List (List ℕ)) → WordsAskFor r ws → IsControlRequest r → command_of ws ≡ Ok r
unfolding command_of plain_of is_command is_command_with
command_only (Need name when) ws s is =
    rw s.2 (named_is name _ is.0 ∙ ap (need_request name) (when_only s.0 when s.1 is.1))
command_only (Replace name credential) ws s is = rw s (named_is name _ is.0 ∙ cond-true (is_credential credential) _ _ is.1)
command_only (Add table) ws s is = rw s refl
command_only (Drop name) ws s is = rw s (named_is name _ is)
command_only Status ws s is = rw s refl
command_only Health ws s is = rw s refl
command_only Settle ws s is = rw s refl
command_only Reload ws s is = rw s refl
command_only (Follow false) ws s is = rw s refl
command_only (Follow true) ws s is = rw s refl

-- the words of a request are one at least
some_words : (r : ControlRequest) (ws : List (List ℕ)) → WordsAskFor r ws → words_in_tree (tree_of_words ws) ≡ Some ws
some_words (Need name when) ws s = rw s.2 (words_back _ _)
some_words (Replace name credential) ws s = rw s (words_back _ _)
some_words (Add table) ws s = rw s (words_back _ _)
some_words (Drop name) ws s = rw s (words_back _ _)
some_words Status ws s = rw s (words_back _ _)
some_words Health ws s = rw s (words_back _ _)
some_words Settle ws s = rw s (words_back _ _)
some_words Reload ws s = rw s (words_back _ _)
some_words (Follow false) ws s = rw s (words_back _ _)
some_words (Follow true) ws s = rw s (words_back _ _)

pub request_only : RequestOnly
unfolding request_in_line asked_by_line words_of
request_only line r a =
    let words : words_of line ≡ Ok a.words = ap or_not_words (ap (option_and_then words_in_tree) a.tree ∙ some_words r a.words a.says) in
    cond-false (nat_lt LINE_MAX (length line)) _ _ (le-ltb _ _ a.short) ∙ ap (λ answer. answer >>= command_of) words ∙ command_only r a.words a.says a.is_request
