-- Ports: a word that is no path has no slash, one that is no number of 16 bits is no port, and an address is what its text says.
use Rattle.std.proofs.Common.{◌≡◌, ℕ, ◌^◌, ◌<◌, ◌≤◌, ◌∙◌, inl, inr, Bool, true, false, List, None, Some, Result, Ok, Err, MatchBool, arith, length, subst, sym}
use Rattle.std.proofs.lemmas.{List.get_or_default, Str.Pattern.contains_char}
use Rattle.std.specs.{Net.Grammar.IsSocketText, Net.Grammar.Parses, Str.Pattern.FindsChar, declared.net.socket_addr.SocketAddr.SocketAddr}
use Rattle.std.specs.Str.Parse.{IsNumeral, ParsesUnsigned, digits_value, without_leading_plus}
use Rattle.base_device.specs.Places.{IsPath}
use Rattle.base_clients.specs.Entrances.{IsAddress, IsPort}

pub no_path : (word : List ℕ) (has : Bool) → MatchBool has ((i : ℕ) × (j : ℕ) × FindsChar 47 word (Some (i, j)) × (i ≤ j) × (j ≤ length word)) (FindsChar 47 word None) → has ≡ false → IsPath word → ⊥
no_path word has cases none path =
    let found = contains_char 47 word has cases (omega arith) in
    let yes : has ≡ true = found.1 path.0 path.1 (get_or_default word path.0 0 47 path.1 ∙ path.2) in
    absurd (let bad : false ≡ true = sym none ∙ yes in cc)

unread : {E : Type 0} (word : List ℕ) (read : Result ℕ E) (e : E) → ParsesUnsigned 16 10 word read → read ≡ Err e → IsNumeral 10 (without_leading_plus word) × (digits_value 10 (without_leading_plus word) < 2 ^ 16) → ⊥
unread {E} word read e parses is = subst (λ (r : Result ℕ E). ParsesUnsigned 16 10 word r) is parses

pub no_port : {E : Type 0} (word : List ℕ) (read : Result ℕ E) (e : E) → ParsesUnsigned 16 10 word read → read ≡ Err e → (port : ℕ) → IsPort word port → ⊥
no_port word read e parses is port said = unread word read e parses is (said.digits, omega (arith, sym said.number, said.high))

-- the address that a word spells, where it is no port
pub spelled : {E : Type 0} (word : List ℕ) (read : Result SocketAddr E) (address : SocketAddr) → ((port : ℕ) → IsPort word port → ⊥) → Parses IsSocketText word read → read ≡ Ok address → IsAddress word address
spelled {E} word read address none parses is = inr (none, subst (λ (r : Result SocketAddr E). Parses IsSocketText word r) is parses)

-- none, where it is no port and spells none
pub unspelled : {E : Type 0} (word : List ℕ) (read : Result SocketAddr E) (e : E) → ((port : ℕ) → IsPort word port → ⊥) → Parses IsSocketText word read → read ≡ Err e → (address : SocketAddr) → IsAddress word address → ⊥
unspelled {E} word read e none parses is address (inl here) = none here.0 here.1.0
unspelled {E} word read e none parses is address (inr text) = subst (λ (r : Result SocketAddr E). Parses IsSocketText word r) is parses address text.1
