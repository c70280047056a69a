-- The compact text of each tree that this crate writes is the text of `specs/Written.antt`.
use Rattle.std.proofs.Common.{◌≡◌, ◌≢◌, ne_eqb, ℕ, Bool, true, false, List, ◌++◌, Result, Ok, Err, IfOk, codes, decimal, refl, sym, ap, ◌∙◌, append_assoc, append-nil}
use Rattle.json.specs.Print.{escape_byte, quoted}
use Rattle.serde_json.specs.{Data.Data, Written.has_float, Written.compact_text}
use Rattle.vault_json.specs.Trees.{renew_tree, lease_tree, lookup_tree, renewed_self_tree, renewed_lease_tree, looked_plain_tree, looked_periodic_tree, looked_lease_tree, errors_tree}
use Rattle.vault_json.specs.Written.{flag_text, period_text, renew_text, lease_text, lookup_text, renewed_self_text, renewed_lease_text, looked_self_text, looked_lease_text, errors_text}

-- what `written` gives of a value that is this tree
pub spelled : {E : Type 0} (r : Result (List ℕ) E) (d tree : Data) (text : List ℕ) → d ≡ tree → has_float tree ≡ false → compact_text tree ≡ text
    → IfOk r (λ t. has_float d ≡ false → t ≡ compact_text d) → IfOk r (λ t. t ≡ text)
spelled (Ok t) d tree text same whole is h = h (ap has_float same ∙ whole) ∙ ap compact_text same ∙ is
spelled (Err e) d tree text same whole is h = tt

-- what stands to the left of each text is put to its right
regroup_5 : (a b c d e : List ℕ) → (((a ++ b) ++ c) ++ d) ++ e ≡ a ++ (b ++ (c ++ (d ++ e)))
regroup_5 a b c d e = simp append_assoc

regroup_7 : (a b c d e f g : List ℕ) → (((((a ++ b) ++ c) ++ d) ++ e) ++ f) ++ g ≡ a ++ (b ++ (c ++ (d ++ (e ++ (f ++ g)))))
regroup_7 a b c d e f g = simp append_assoc

pub renew_text_is : (step : ℕ) → compact_text (renew_tree step) ≡ renew_text step
unfolding renew_text escape_byte
renew_text_is step = refl

pub lease_text_is : (id : List ℕ) (step : ℕ) → compact_text (lease_tree id step) ≡ lease_text id step
unfolding lease_text escape_byte
lease_text_is id step = sym (regroup_5 (codes "{\"increment\":") (decimal step) (codes ",\"lease_id\":") (quoted id) (codes "}"))

pub lookup_text_is : (id : List ℕ) → compact_text (lookup_tree id) ≡ lookup_text id
unfolding lookup_text escape_byte
lookup_text_is id = refl

pub renewed_self_text_is : (seconds : ℕ) (renewable : Bool) → compact_text (renewed_self_tree seconds renewable) ≡ renewed_self_text seconds renewable
unfolding renewed_self_text escape_byte
renewed_self_text_is seconds true = simp append_assoc
renewed_self_text_is seconds false = simp append_assoc

renewed_lease_pieces : (id : List ℕ) (seconds : ℕ) (renewable : Bool)
    → codes "{\"lease_duration\":" ++ (decimal seconds ++ (codes ",\"lease_id\":" ++ (quoted id ++ (codes ",\"renewable\":" ++ (flag_text renewable ++ codes "}"))))) ≡ renewed_lease_text id seconds renewable
unfolding renewed_lease_text
renewed_lease_pieces id seconds renewable =
    sym (regroup_7 (codes "{\"lease_duration\":") (decimal seconds) (codes ",\"lease_id\":") (quoted id) (codes ",\"renewable\":") (flag_text renewable) (codes "}"))

pub renewed_lease_text_is : (id : List ℕ) (seconds : ℕ) (renewable : Bool) → compact_text (renewed_lease_tree id seconds renewable) ≡ renewed_lease_text id seconds renewable
unfolding renewed_lease_text escape_byte
renewed_lease_text_is id seconds true = renewed_lease_pieces id seconds true
renewed_lease_text_is id seconds false = renewed_lease_pieces id seconds false

-- ---- a token's lookup: flags between the numbers, and an object within an object

flags : Bool → Bool → List ℕ
flags orphan renewable = codes ",\"orphan\":" ++ (flag_text orphan ++ (codes ",\"renewable\":" ++ (flag_text renewable ++ codes ",\"ttl\":")))

plain_pieces : (ttl created explicit_max : ℕ) (orphan renewable : Bool) → compact_text (looked_plain_tree ttl created explicit_max orphan renewable)
    ≡ codes "{\"data\":{\"creation_time\":" ++ ((decimal created ++ (codes ",\"explicit_max_ttl\":" ++ (decimal explicit_max ++ (flags orphan renewable ++ (decimal ttl ++ codes "}"))))) ++ codes "}")
unfolding flags escape_byte
plain_pieces ttl created explicit_max true true = refl
plain_pieces ttl created explicit_max true false = refl
plain_pieces ttl created explicit_max false true = refl
plain_pieces ttl created explicit_max false false = refl

regroup_plain : (x c a e f o g r h t w z : List ℕ)
    → x ++ ((c ++ (a ++ (e ++ ((f ++ (o ++ (g ++ (r ++ h)))) ++ (t ++ w))))) ++ z) ≡ (((((((((x ++ c) ++ a) ++ e) ++ f) ++ o) ++ g) ++ r) ++ h) ++ t) ++ (w ++ z)
regroup_plain x c a e f o g r h t w z = simp append_assoc

pub looked_plain_text_is : (ttl created explicit_max : ℕ) (orphan renewable : Bool)
    → compact_text (looked_plain_tree ttl created explicit_max orphan renewable) ≡ looked_self_text ttl created explicit_max orphan renewable 0
unfolding flags looked_self_text
looked_plain_text_is ttl created explicit_max orphan renewable =
    let front = (((((codes "{\"data\":{\"creation_time\":" ++ decimal created) ++ codes ",\"explicit_max_ttl\":") ++ decimal explicit_max) ++ codes ",\"orphan\":") ++ flag_text orphan) in
    plain_pieces ttl created explicit_max orphan renewable
    ∙ regroup_plain (codes "{\"data\":{\"creation_time\":") (decimal created) (codes ",\"explicit_max_ttl\":") (decimal explicit_max) (codes ",\"orphan\":") (flag_text orphan)
    (codes ",\"renewable\":") (flag_text renewable) (codes ",\"ttl\":") (decimal ttl) (codes "}") (codes "}")
    ∙ ap (λ s. ((((s ++ codes ",\"renewable\":") ++ flag_text renewable) ++ codes ",\"ttl\":") ++ decimal ttl) ++ codes "}}") (sym (append-nil front))

orphan_and_period : Bool → List ℕ
orphan_and_period orphan = codes ",\"orphan\":" ++ (flag_text orphan ++ codes ",\"period\":")

renewable_and_ttl : Bool → List ℕ
renewable_and_ttl renewable = codes ",\"renewable\":" ++ (flag_text renewable ++ codes ",\"ttl\":")

periodic_pieces : (ttl created explicit_max : ℕ) (orphan renewable : Bool) (period : ℕ) → compact_text (looked_periodic_tree ttl created explicit_max orphan renewable period)
    ≡ codes "{\"data\":{\"creation_time\":" ++ ((decimal created ++ (codes ",\"explicit_max_ttl\":" ++ (decimal explicit_max ++ (orphan_and_period orphan ++ (decimal period
    ++ (renewable_and_ttl renewable ++ (decimal ttl ++ codes "}"))))))) ++ codes "}")
unfolding orphan_and_period renewable_and_ttl escape_byte
periodic_pieces ttl created explicit_max true true period = refl
periodic_pieces ttl created explicit_max true false period = refl
periodic_pieces ttl created explicit_max false true period = refl
periodic_pieces ttl created explicit_max false false period = refl

regroup_periodic : (x c a e f o q p g r h t w z : List ℕ)
    → x ++ ((c ++ (a ++ (e ++ ((f ++ (o ++ q)) ++ (p ++ ((g ++ (r ++ h)) ++ (t ++ w))))))) ++ z) ≡ ((((((((((x ++ c) ++ a) ++ e) ++ f) ++ o) ++ (q ++ p)) ++ g) ++ r) ++ h) ++ t) ++ (w ++ z)
regroup_periodic x c a e f o q p g r h t w z = simp append_assoc

pub looked_periodic_text_is : (ttl created explicit_max : ℕ) (orphan renewable : Bool) (period : ℕ) → period ≢ 0
    → compact_text (looked_periodic_tree ttl created explicit_max orphan renewable period) ≡ looked_self_text ttl created explicit_max orphan renewable period
unfolding orphan_and_period renewable_and_ttl looked_self_text
looked_periodic_text_is ttl created explicit_max orphan renewable period some =
    let is : period_text period ≡ codes ",\"period\":" ++ decimal period = rw (ne_eqb period 0 some) refl in
    let front = (((((codes "{\"data\":{\"creation_time\":" ++ decimal created) ++ codes ",\"explicit_max_ttl\":") ++ decimal explicit_max) ++ codes ",\"orphan\":") ++ flag_text orphan) in
    periodic_pieces ttl created explicit_max orphan renewable period
    ∙ regroup_periodic (codes "{\"data\":{\"creation_time\":") (decimal created) (codes ",\"explicit_max_ttl\":") (decimal explicit_max) (codes ",\"orphan\":") (flag_text orphan)
    (codes ",\"period\":") (decimal period) (codes ",\"renewable\":") (flag_text renewable) (codes ",\"ttl\":") (decimal ttl) (codes "}") (codes "}")
    ∙ ap (λ p. (((((front ++ p) ++ codes ",\"renewable\":") ++ flag_text renewable) ++ codes ",\"ttl\":") ++ decimal ttl) ++ codes "}}") (sym is)

-- ---- a lease's lookup

lease_pieces : (id date : List ℕ) (renewable : Bool) (ttl : ℕ) → compact_text (looked_lease_tree id date renewable ttl)
    ≡ codes "{\"data\":{\"id\":" ++ ((quoted id ++ (codes ",\"issue_time\":" ++ (quoted date ++ ((codes ",\"renewable\":" ++ (flag_text renewable ++ codes ",\"ttl\":")) ++ (decimal ttl ++ codes "}"))))) ++ codes "}")
unfolding escape_byte
lease_pieces id date true ttl = refl
lease_pieces id date false ttl = refl

regroup_lease : (x i a d g r h t w z : List ℕ)
    → x ++ ((i ++ (a ++ (d ++ ((g ++ (r ++ h)) ++ (t ++ w))))) ++ z) ≡ (((((((x ++ i) ++ a) ++ d) ++ g) ++ r) ++ h) ++ t) ++ (w ++ z)
regroup_lease x i a d g r h t w z = simp append_assoc

pub looked_lease_text_is : (id date : List ℕ) (renewable : Bool) (ttl : ℕ) → compact_text (looked_lease_tree id date renewable ttl) ≡ looked_lease_text id date renewable ttl
unfolding looked_lease_text
looked_lease_text_is id date renewable ttl =
    lease_pieces id date renewable ttl
    ∙ regroup_lease (codes "{\"data\":{\"id\":") (quoted id) (codes ",\"issue_time\":") (quoted date) (codes ",\"renewable\":") (flag_text renewable) (codes ",\"ttl\":") (decimal ttl) (codes "}") (codes "}")

pub errors_text_is : (text : List ℕ) → compact_text (errors_tree text) ≡ errors_text text
unfolding errors_text escape_byte
errors_text_is text = simp append_assoc
