-- The grammar of runtime expressions (Arazzo 1.0.1, section 4.7), as the printing of their syntax
-- trees, with a fact that says which trees have the grammar's form.
use Rattle.std.specs.Prelude.{◌≡◌, ℕ, ◌^◌, Bool, true, false, ◌&&◌, ◌||◌, not, List, [], ◌∷◌, ◌++◌, length, ◌==◌, nat_lt, IsTrue, Option, Some, None, codes}
use Rattle.std.specs.List.{list_all, list_any}
use Rattle.std.specs.Char.{is_ascii_alphanumeric}
use Rattle.std.specs.Fmt.{decimal}
use Rattle.arz_expr.specs.declared.syntax.Base.{Base}
use Rattle.arz_expr.specs.declared.syntax.Base.TheVariants as base
use Rattle.arz_expr.specs.declared.syntax.Tail.{Tail}
use Rattle.arz_expr.specs.declared.syntax.Tail.TheVariants.{Member, Index}
use Rattle.arz_expr.specs.declared.syntax.Expr.{Expr}

-- A-Z a-z 0-9 _ -
abbrev pub is_name_byte : ℕ → Bool
is_name_byte b = is_ascii_alphanumeric b || b == 95 || b == 45

-- NAME = one or more of those
abbrev pub is_name : List ℕ → Bool
is_name text = nat_lt 0 (length text) && list_all is_name_byte text

-- every byte of a character but U+0000 to U+0020, U+007F and { } ( ) ! = < > & | '
abbrev pub is_pointer_byte : ℕ → Bool
is_pointer_byte b = nat_lt 32 b && not (b == 127) && not (list_any (λ c. c == b) (codes "{}()!=<>&|'"))

abbrev pub begins_with_digit_of_escape : List ℕ → Bool
begins_with_digit_of_escape [] = false
begins_with_digit_of_escape (b ∷ rest) = b == 48 || b == 49

-- after each `~` stands `0` or `1` (RFC 6901, section 3)
abbrev pub escapes_tildes : List ℕ → Bool
escapes_tildes [] = true
escapes_tildes (b ∷ rest) = (not (b == 126) || begins_with_digit_of_escape rest) && escapes_tildes rest

-- empty, or begun by `/`
abbrev pub is_rooted : List ℕ → Bool
is_rooted [] = true
is_rooted (b ∷ rest) = b == 47

-- POINTER = a JSON Pointer (RFC 6901, section 3) of such bytes
abbrev pub is_pointer : List ℕ → Bool
is_pointer text = is_rooted text && list_all is_pointer_byte text && escapes_tildes text

-- the alternatives for the base
abbrev pub print_base : Base → List ℕ
print_base base.Url = codes "$url"
print_base base.Method = codes "$method"
print_base base.StatusCode = codes "$statusCode"
print_base (base.RequestHeader name) = codes "$request.header." ++ name
print_base (base.RequestQuery name) = codes "$request.query." ++ name
print_base (base.RequestPath name) = codes "$request.path." ++ name
print_base base.RequestBody = codes "$request.body"
print_base (base.ResponseHeader name) = codes "$response.header." ++ name
print_base base.ResponseBody = codes "$response.body"
print_base (base.Input name) = codes "$inputs." ++ name
print_base (base.Output name) = codes "$outputs." ++ name
print_base (base.StepOutput step name) = codes "$steps." ++ (step ++ (codes ".outputs." ++ name))
print_base (base.WorkflowInput workflow name) = codes "$workflows." ++ (workflow ++ (codes ".inputs." ++ name))
print_base (base.WorkflowOutput workflow name) = codes "$workflows." ++ (workflow ++ (codes ".outputs." ++ name))
print_base (base.SourceUrl name) = codes "$sourceDescriptions." ++ (name ++ codes ".url")
print_base (base.SourceName name) = codes "$sourceDescriptions." ++ (name ++ codes ".name")
print_base (base.SourceKind name) = codes "$sourceDescriptions." ++ (name ++ codes ".type")

-- the names in a base
abbrev pub names_in : Base → List (List ℕ)
names_in base.Url = []
names_in base.Method = []
names_in base.StatusCode = []
names_in (base.RequestHeader name) = name ∷ []
names_in (base.RequestQuery name) = name ∷ []
names_in (base.RequestPath name) = name ∷ []
names_in base.RequestBody = []
names_in (base.ResponseHeader name) = name ∷ []
names_in base.ResponseBody = []
names_in (base.Input name) = name ∷ []
names_in (base.Output name) = name ∷ []
names_in (base.StepOutput step name) = step ∷ name ∷ []
names_in (base.WorkflowInput workflow name) = workflow ∷ name ∷ []
names_in (base.WorkflowOutput workflow name) = workflow ∷ name ∷ []
names_in (base.SourceUrl name) = name ∷ []
names_in (base.SourceName name) = name ∷ []
names_in (base.SourceKind name) = name ∷ []

-- the bases that a tail may follow: those that may hold a list or an object
abbrev pub takes_tail : Base → Bool
takes_tail base.Url = false
takes_tail base.Method = false
takes_tail base.StatusCode = false
takes_tail (base.RequestHeader name) = false
takes_tail (base.RequestQuery name) = false
takes_tail (base.RequestPath name) = false
takes_tail base.RequestBody = true
takes_tail (base.ResponseHeader name) = false
takes_tail base.ResponseBody = true
takes_tail (base.Input name) = true
takes_tail (base.Output name) = true
takes_tail (base.StepOutput step name) = true
takes_tail (base.WorkflowInput workflow name) = true
takes_tail (base.WorkflowOutput workflow name) = true
takes_tail (base.SourceUrl name) = false
takes_tail (base.SourceName name) = false
takes_tail (base.SourceKind name) = false

-- "." NAME, or "[" INDEX "]" with the index in decimal
abbrev pub print_tail : Tail → List ℕ
print_tail (Member name) = codes "." ++ name
print_tail (Index i) = codes "[" ++ (decimal i ++ codes "]")

-- INDEX = 0 to 10^18 - 1
abbrev pub is_tail : Tail → Bool
is_tail (Member name) = is_name name
is_tail (Index i) = nat_lt i (10 ^ 18)

-- { tail }
abbrev pub print_tails : List Tail → List ℕ
print_tails [] = []
print_tails (t ∷ ts) = print_tail t ++ print_tails ts

-- [ "#" POINTER ]
abbrev pub print_pointer : Option (List ℕ) → List ℕ
print_pointer None = []
print_pointer (Some pointer) = codes "#" ++ pointer

abbrev pub has_pointer : Option (List ℕ) → Bool
has_pointer None = true
has_pointer (Some pointer) = is_pointer pointer

-- expression = base { tail } [ "#" POINTER ]
unfoldable pub printed : Expr → List ℕ
printed e = print_base e.base ++ (print_tails e.tail ++ print_pointer e.pointer)

-- each part has its form, and nothing follows a base that takes no tail
pub record IsExpr (e : Expr) : Type 0 where
  pub names : IsTrue (list_all is_name (names_in e.base))
  pub tail : IsTrue (list_all is_tail e.tail)
  pub pointer : IsTrue (has_pointer e.pointer)
  pub alone : takes_tail e.base ≡ false → (e.tail ≡ []) × (e.pointer ≡ None)

-- the text is an expression, and e is its syntax tree
abbrev pub Reads : List ℕ → Expr → Type 0
Reads text e = IsExpr e × (text ≡ printed e)
