-- The URL of a server (OpenAPI 3.1.1, section 4.8.5; RFC 9110, section 4.2.1): `http://HOST`, and behind it `:PORT` and
-- a path, where they are written.
use Rattle.std.specs.Prelude.{ℕ, ◌+◌, ◌-◌, ◌*◌, ◌==◌, ◌&&◌, ◌||◌, not, nat_le, nat_lt, nat_eq, Bool, false, List, [], ◌∷◌, length, take, drop, codes, if◌then◌else◌, Option, Some, None, option_map, option_and_then}
use Rattle.std.specs.List.{starts_with, ends_with, list_all, before_first}
use Rattle.std.specs.Char.{is_ascii_alphanumeric, is_ascii_digit}
use Rattle.arz_json.specs.Texts.{split_once}

-- what a server URL names: a host, a TCP port, and the path with which each target begins
pub record Address : Type 0 where
  pub host : List ℕ
  pub port : ℕ
  pub base : List ℕ

-- ---- the host: 1 to 253 letters, digits, `.` and `-`

abbrev pub is_host_byte : ℕ → Bool
is_host_byte b = is_ascii_alphanumeric b || b == 46 || b == 45

abbrev pub is_host : List ℕ → Bool
is_host text = nat_le 1 (length text) && nat_le (length text) 253 && list_all is_host_byte text

-- ---- the port: 1 to 65535, without a leading zero; 80 where none is written

-- the number that decimal digits write behind those of n
abbrev pub number_after : ℕ → List ℕ → ℕ
number_after n [] = n
number_after n (digit ∷ rest) = number_after (n * 10 + (digit - 48)) rest

abbrev pub is_port : List ℕ → Bool
is_port [] = false
is_port (first ∷ rest) = nat_le (length rest) 4 && not (first == 48) && list_all is_ascii_digit (first ∷ rest)

abbrev pub port_in : ℕ → Option ℕ
port_in n = if nat_le n 65535 then Some n else None

abbrev pub port_of : List ℕ → Option ℕ
port_of digits = if is_port digits then port_in (number_after 0 digits) else None

-- ---- the base path: printable ASCII without space, `?` and `#`; a `/` at its end is dropped

abbrev pub is_base_byte : ℕ → Bool
is_base_byte b = nat_lt 32 b && nat_lt b 127 && not (b == 63 || b == 35)

abbrev pub without_slash : List ℕ → List ℕ
without_slash path = if ends_with nat_eq path (codes "/") then take (length path - 1) path else path

abbrev pub base_of : List ℕ → Option (List ℕ)
base_of path = if list_all is_base_byte path then Some (without_slash path) else None

-- ---- the whole

abbrev pub address : (host : List ℕ) → (port : ℕ) → (base : List ℕ) → Address
address host port base = record { host = host; port = port; base = base }

abbrev pub address_with : List ℕ → Option ℕ → Option (List ℕ) → Option Address
address_with host port base = if is_host host then option_and_then (λ p. option_map (address host p) base) port else None

-- `HOST`, or what stands before and after the colon
abbrev pub authority_in : (authority : List ℕ) → (cut : Option (List ℕ × List ℕ)) → Option (List ℕ) → Option Address
authority_in authority None base = address_with authority (Some 80) base
authority_in authority (Some cut) base = address_with cut.0 (port_of cut.1) base

-- the authority ends at the first `/` (RFC 3986, section 3.2)
abbrev pub authority_of : List ℕ → List ℕ
authority_of text = before_first (λ b. b == 47) text

abbrev pub path_of : List ℕ → List ℕ
path_of text = drop (length (authority_of text)) text

abbrev pub address_in : List ℕ → Option Address
address_in text = authority_in (authority_of text) (split_once 58 (authority_of text)) (base_of (path_of text))

abbrev pub scheme : List ℕ
scheme = codes "http://"

-- what a server URL names; None where the text is none
unfoldable pub address_of : List ℕ → Option Address
address_of url = if starts_with nat_eq url scheme then address_in (drop 7 url) else None
