-- Words and the arrays that they are: what is read of an array is its words, and the text of an array is read back.
use Rattle.std.proofs.Common.{◌≡◌, ℕ, ◌≤◌, true, false, max, List, [], ◌∷◌, ◌++◌, map, Some, option_map, option_and_then, refl, sym, ap, ◌∙◌, append_assoc, arith, IsUtf8}
use Rattle.std.specs.List.{join_with_byte}
use Rattle.json.specs.Print.{quoted}
use Rattle.json.specs.Tree as tree
use Rattle.serde_json.specs.Read.{of_items, max_depth}
use Rattle.serde_json.specs.Data.{Data, null, string, array, Items, no_items, item}
use Rattle.serde_json.specs.Written.{compact_text, has_float, items_have_float, items_outline, items_text, outline}
use Rattle.vault_json.specs.Body.{json_tree}
use Rattle.vault_json.proofs.Bodies.{tree_of_text}
use Rattle.vault_json.proofs.Plain.{IsPlain, compact_utf8, read_compact}
use Rattle.agent_control.specs.Words.{items_of, one_or_more, texts_of, tree_of_words, words_in_tree}
use Rattle.agent_control.proofs.Chosen.{mapped, some_same, then_some}

-- ---- arrays and words

pub texts_back : (ws : List (List ℕ)) → texts_of (items_of ws) ≡ Some ws
texts_back [] = refl
texts_back (w ∷ ws) = ap (option_map (λ us. w ∷ us)) (texts_back ws)

texts_only : (ds : Items) (ws : List (List ℕ)) → texts_of ds ≡ Some ws → ds ≡ items_of ws
texts_only no_items ws e = ap items_of (some_same [] ws e)
texts_only (item null ds) ws e = cc
texts_only (item (string s) ds) ws e =
    let m = mapped (λ us. s ∷ us) (texts_of ds) ws e in
    ap (λ rest. item (string s) rest) (texts_only ds m.0 m.1) ∙ ap items_of (sym m.2)
texts_only (item _ ds) ws e = cc

one_more_is : (us ws : List (List ℕ)) → one_or_more us ≡ Some ws → us ≡ ws
one_more_is [] ws e = cc
one_more_is (u ∷ us) ws e = some_same _ _ e

array_only : (ds : Items) (ws : List (List ℕ)) → option_and_then one_or_more (texts_of ds) ≡ Some ws → array ds ≡ tree_of_words ws
array_only ds ws e =
    let t = then_some one_or_more (texts_of ds) ws e in
    ap array (texts_only ds t.0 t.1) ∙ ap tree_of_words (one_more_is t.0 ws t.2)

pub words_only : (d : Data) (ws : List (List ℕ)) → words_in_tree d ≡ Some ws → d ≡ tree_of_words ws
unfolding words_in_tree
words_only null ws e = cc
words_only (array ds) ws e = array_only ds ws e
words_only _ ws e = cc

pub words_back : (w : List ℕ) (ws : List (List ℕ)) → words_in_tree (tree_of_words (w ∷ ws)) ≡ Some (w ∷ ws)
unfolding words_in_tree
words_back w ws = ap (option_and_then one_or_more) (texts_back (w ∷ ws))

-- ---- their text

-- each word between quotation marks, with its escapes; commas part them
unfoldable pub line_of : List (List ℕ) → List ℕ
line_of ws = 91 ∷ (join_with_byte 44 (map quoted ws) ++ 93 ∷ [])

rest_text : (w : List ℕ) (ws : List (List ℕ)) → quoted w ++ items_text true (items_of ws) ≡ join_with_byte 44 (map quoted (w ∷ ws)) ++ 93 ∷ []
rest_text w [] = refl
rest_text w (x ∷ ws) =
    ap (λ t. quoted w ++ 44 ∷ t) (rest_text x ws) ∙ sym (append_assoc (quoted w) (44 ∷ join_with_byte 44 (map quoted (x ∷ ws))) (93 ∷ []))

pub line_text : (ws : List (List ℕ)) → compact_text (tree_of_words ws) ≡ line_of ws
unfolding line_of
line_text [] = refl
line_text (w ∷ ws) = ap (λ t. 91 ∷ t) (rest_text w ws)

no_float : (ws : List (List ℕ)) → items_have_float (items_of ws) ≡ false
no_float [] = refl
no_float (w ∷ ws) = no_float ws

-- there is no float in such an array
pub without_floats : (ws : List (List ℕ)) (d : Data) → tree_of_words ws ≡ d → has_float d ≡ false
without_floats ws d is = ap has_float (sym is) ∙ no_float ws

-- ---- their text is read back

abbrev pub AllUtf8 : List (List ℕ) → Type 0
AllUtf8 [] = Unit {0}
AllUtf8 (w ∷ ws) = IsUtf8 w × AllUtf8 ws

words_plain : (ws : List (List ℕ)) → AllUtf8 ws → IsPlain (tree_of_words ws)
words_plain [] h = tt
words_plain (w ∷ ws) h = (h.0, words_plain ws h.1)

flat : (ws : List (List ℕ)) → tree.items_depth (items_outline (items_of ws)) ≡ 0
flat [] = refl
flat (w ∷ ws) = ap (λ n. max 0 n) (flat ws)

same_items : (ws : List (List ℕ)) → of_items (items_outline (items_of ws)) ≡ Some (items_of ws)
same_items [] = refl
same_items (w ∷ ws) = ap (option_map (item (string w))) (same_items ws)

pub line_read : (ws : List (List ℕ)) → AllUtf8 ws → json_tree (compact_text (tree_of_words ws)) ≡ Some (tree_of_words ws)
line_read ws h =
    let plain : IsPlain (tree_of_words ws) = words_plain ws h in
    let shallow : tree.depth (outline (tree_of_words ws)) ≤ max_depth = let f = flat ws in omega (arith, f) in
    tree_of_text (compact_text (tree_of_words ws)) (compact_utf8 (tree_of_words ws) plain)
    ∙ read_compact (tree_of_words ws) plain shallow (ap (option_map array) (same_items ws))
