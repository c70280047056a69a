-- Places: what a word of a command line says of a place, and the address of a port on this machine.
-- Source: this project's own; addresses are as std reads them.
use Rattle.std.specs.Prelude.{◌≡◌, ℕ, ◌∷◌, [], List}
use Rattle.std.specs.{List.Contains, Net.Addr.ipv4_octets, Net.Addr.MatchIp, Net.Socket.socket_ip, Net.Socket.socket_port, declared.net.socket_addr.SocketAddr.SocketAddr}

-- a word with a slash in it is a path
abbrev pub IsPath : List ℕ → Type 0
IsPath word = Contains word 47

-- the port of 127.0.0.1
abbrev pub IsHere : ℕ → SocketAddr → Type 0
IsHere port address = (socket_port address ≡ port) × MatchIp (socket_ip address) (λ ip. ipv4_octets ip ≡ 127 ∷ 0 ∷ 0 ∷ 1 ∷ []) (λ ip. ⊥)
