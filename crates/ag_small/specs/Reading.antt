-- Reading from left to right: the private functions' contracts say what these give, and the laws of
-- proofs/ say that they give exactly what the grammar has.
use Rattle.std.specs.Prelude.{◌≡◌, ℕ, zero, suc, Bool, true, false, not, List, [], ◌∷◌, length, take, drop, Option, Some, None, option_and_then, is_some, Result, Ok, Err, nat_lt, nat_le, ◌+◌, ◌-◌, ◌&&◌, codes, if◌then◌else◌}
use Rattle.std.specs.List.{prefix_len, list_all, flat_map}
use Rattle.std.specs.Char.{is_ascii_alphabetic}
use Rattle.ag_small.specs.declared.class.Class.{Class}
use Rattle.ag_small.specs.declared.class.Class.TheVariants as class
use Rattle.ag_small.specs.declared.package.Package.{Package}
use Rattle.ag_small.specs.declared.package.Port.{Port}
use Rattle.ag_small.specs.declared.package.Claim.{Claim}
use Rattle.ag_small.specs.declared.package.ClaimKind.{ClaimKind}
use Rattle.ag_small.specs.declared.package.ClaimKind.TheVariants.{Assume, Guarantee}
use Rattle.ag_small.specs.declared.package.Assign.{Assign}
use Rattle.ag_small.specs.declared.package.Formula.{Formula}
use Rattle.ag_small.specs.declared.formulas.Operand.{Operand}
use Rattle.ag_small.specs.declared.formulas.Operator.{Operator}
use Rattle.ag_small.specs.declared.formulas.Operator.TheVariants as operator
use Rattle.ag_small.specs.Expressions.{Expression, Truth, Named, Group, Not, And, Or, Implies}
use Rattle.ag_small.specs.Nodes.{expression_of}
use Rattle.ag_small.specs.declared.package.ReadFault.{ReadFault}
use Rattle.ag_small.specs.declared.package.ReadFault.TheVariants.{NotBuilt, OutOfMemory}
use Rattle.ag_small.specs.Characters.{is_space, is_word_byte, is_label_byte, is_quote, begins, same, is_name}
use Rattle.ag_small.specs.Grammar.{annex_words_at_head, end_texts, claim_text, assign_text}
use Rattle.ag_small.specs.Rules.{ports_differ, names_port, all_names, all_follow}

infixl 10 ◌>>=◌
abbrev pub ◌>>=◌ : {A B : Type 0} → Option A → (A → Option B) → Option B
o >>= f = option_and_then f o

-- What a function returned, seen by view, is what reading gives, unless memory ran out.
abbrev pub Fails : {Y : Type 0} → ReadFault → Option Y → Type 0
Fails NotBuilt read = read ≡ None
Fails OutOfMemory read = Unit {0}

abbrev pub Gives : {X Y : Type 0} → (X → Y) → Result X ReadFault → Option Y → Type 0
Gives view (Ok x) read = read ≡ Some (view x)
Gives view (Err e) read = Fails e read

-- the first that reads
abbrev pub or_else : {A : Type 0} → Option A → Option A → Option A
or_else (Some x) other = Some x
or_else None other = other

abbrev pub has : Class → ℕ → Bool
has class.Space b = is_space b
has class.Letter b = is_ascii_alphabetic b
has class.Word b = is_word_byte b
has class.Label b = is_label_byte b
has class.Quote b = is_quote b

-- the bytes behind white space
unfoldable pub after_space : List ℕ → List ℕ
after_space bytes = drop (prefix_len is_space bytes) bytes

-- what follows a fixed text
unfoldable pub fixed_at : List ℕ → List ℕ → Option (List ℕ)
fixed_at text bytes =
    let here = after_space bytes in
    let own = take (length text) here in
    let rest = drop (length text) here in
    if nat_lt (length here) (length text) then None
    else (if same own text && not (begins is_ascii_alphabetic own && begins is_word_byte rest) then Some rest else None)

-- what follows fixed texts one behind the other
abbrev pub all_fixed_at : List (List ℕ) → List ℕ → Option (List ℕ)
all_fixed_at [] bytes = Some bytes
all_fixed_at (t ∷ ts) bytes = fixed_at t bytes >>= λ rest. all_fixed_at ts rest

-- a name and what follows it
unfoldable pub name_at : List ℕ → Option (List ℕ × List ℕ)
name_at bytes =
    let here = after_space bytes in
    let len = prefix_len is_word_byte here in
    if is_name (take len here) then Some (take len here, drop len here) else None

unfoldable pub label_at : List ℕ → Option (List ℕ × List ℕ)
label_at bytes = do
  here ← fixed_at (codes "\"") bytes
  let len = prefix_len is_label_byte here
  if begins is_quote (drop len here) then Some (take len here, drop 1 (drop len here)) else None

-- one of two fixed texts, with its value
abbrev pub either_at : {A : Type 0} → List ℕ → A → List ℕ → A → List ℕ → Option (A × List ℕ)
either_at text x other y bytes = or_else (fixed_at text bytes >>= λ rest. Some (x, rest)) (fixed_at other bytes >>= λ rest. Some (y, rest))

-- ---- formulas: readers for some levels are made from those for one level less

-- what is found, or else another
abbrev pub where_found : {A B : Type 0} → Option A → (A → Option B) → Option B → Option B
where_found (Some x) f other = f x
where_found None f other = other

-- a formula and the number of its tokens
abbrev pub Counted : Type 0
Counted = Expression × ℕ

-- what an operand of the program stands for
abbrev pub counted : Operand → Counted
counted o = (expression_of o.node, o.tokens)

-- what a reader of formulas gives: a formula and what follows it
abbrev pub Reader : Type 0
Reader = List ℕ → Option (Counted × List ℕ)

-- a number of tokens, where it is at most what the annexes may hold
unfoldable pub few : ℕ → Option ℕ
few n = if nat_le n 1000 then Some n else None

-- an operator with its operands
abbrev pub applied : Operator → Expression → Expression → Expression
applied operator.And f g = And f g
applied operator.Or f g = Or f g
applied operator.Implies f g = Implies f g

-- two operands with an operator's token between them
unfoldable pub joined_of : Operator → Counted → Counted → Option Counted
joined_of o f g = few (f.1 + g.1 + 1) >>= λ n. Some (applied o f.0 g.0, n)

-- `not` before an operand
unfoldable pub negated_of : Counted → Option Counted
negated_of f = few (f.1 + 1) >>= λ n. Some (Not f.0, n)

-- an operand between two parentheses
unfoldable pub grouped_of : Counted → Option Counted
grouped_of f = few (f.1 + 2) >>= λ n. Some (Group f.0, n)

-- "true" | "false" | name
unfoldable pub atom_at : Reader
atom_at bytes =
    where_found (fixed_at (codes "true") bytes) (λ rest. Some ((Truth true, 1), rest))
    (where_found (fixed_at (codes "false") bytes) (λ rest. Some ((Truth false, 1), rest))
    (name_at bytes >>= λ n. Some ((Named n.0, 1), n.1)))

-- the readers for some levels; those of chains are passed what the chain has so far
pub record Readers : Type 0 where
  pub unary : Reader
  pub conjunction : Reader
  pub and_rest : Counted → Reader
  pub or_rest : Counted → Reader
  pub expression : Reader

-- "not" unary | "(" expression ")" | atom
unfoldable pub unary_with : Option Readers → Reader
unary_with lower bytes =
    where_found (fixed_at (codes "not") bytes) (λ rest. lower >>= λ readers. readers.unary rest >>= λ x. negated_of x.0 >>= λ f. Some (f, x.1))
    (where_found (fixed_at (codes "(") bytes) (λ rest. lower >>= λ readers. readers.expression rest >>= λ x. fixed_at (codes ")") x.1 >>= λ end. grouped_of x.0 >>= λ f. Some (f, end))
    (atom_at bytes))

-- { "and" unary }
unfoldable pub and_rest_with : Option Readers → Counted → Reader
and_rest_with lower left bytes =
    where_found (fixed_at (codes "and") bytes) (λ next. lower >>= λ readers. readers.unary next >>= λ x. joined_of operator.And left x.0 >>= λ f. readers.and_rest f x.1)
    (Some (left, bytes))

-- unary { "and" unary }
unfoldable pub conjunction_with : Option Readers → Reader
conjunction_with lower bytes = unary_with lower bytes >>= λ x. and_rest_with lower x.0 x.1

-- { "or" conjunction }
unfoldable pub or_rest_with : Option Readers → Counted → Reader
or_rest_with lower left bytes =
    where_found (fixed_at (codes "or") bytes) (λ next. lower >>= λ readers. readers.conjunction next >>= λ x. joined_of operator.Or left x.0 >>= λ f. readers.or_rest f x.1)
    (Some (left, bytes))

-- conjunction { "or" conjunction }
unfoldable pub disjunction_with : Option Readers → Reader
disjunction_with lower bytes = conjunction_with lower bytes >>= λ x. or_rest_with lower x.0 x.1

-- disjunction [ "=>" expression ]
unfoldable pub expression_with : Option Readers → Reader
expression_with lower bytes =
    disjunction_with lower bytes >>= λ x. where_found (fixed_at (codes "=>") x.1)
    (λ next. lower >>= λ readers. readers.expression next >>= λ y. joined_of operator.Implies x.0 y.0 >>= λ f. Some (f, y.1))
    (Some x)

-- the readers where so many levels are left, by those one level deeper
abbrev pub readers_above : Option Readers → Readers
readers_above lower = record {
  unary = unary_with lower;
  conjunction = conjunction_with lower;
  and_rest = and_rest_with lower;
  or_rest = or_rest_with lower;
  expression = expression_with lower;
}

-- the readers one level deeper, where so many levels are left
unfoldable pub below : ℕ → Option Readers
below zero = None
below (suc n) = Some (readers_above (below n))

-- a formula in which no level passes 200, and what follows it
unfoldable pub formula_at : List ℕ → Option (Formula × List ℕ)
formula_at bytes = expression_with (below 200) bytes >>= λ x. Some (x.0.0, x.1)

-- ---- ports, claims, assigns

unfoldable pub direction_at : List ℕ → Option (Bool × List ℕ)
direction_at bytes = either_at (codes "in") false (codes "out") true bytes

unfoldable pub kind_at : List ℕ → Option (ClaimKind × List ℕ)
kind_at bytes = either_at (codes "assume") Assume (codes "guarantee") Guarantee bytes

unfoldable pub port_at : List ℕ → Option (Port × List ℕ)
port_at bytes = do
  name ← name_at bytes
  rest ← fixed_at (codes ":") name.1
  direction ← direction_at rest
  end ← all_fixed_at (codes "data" ∷ codes "port" ∷ codes "Base_Types" ∷ codes "::" ∷ codes "Boolean" ∷ codes ";" ∷ []) direction.1
  Some (record { name = name.0; outward = direction.0 }, end)

unfoldable pub claim_at : List ℕ → Option (Claim × List ℕ)
claim_at bytes = do
  kind ← kind_at bytes
  label ← label_at kind.1
  rest ← fixed_at (codes ":") label.1
  formula ← formula_at rest
  end ← fixed_at (codes ";") formula.1
  Some (record { kind = kind.0; label = label.0; formula = formula.0 }, end)

unfoldable pub assign_at : List ℕ → Option (Assign × List ℕ)
assign_at bytes = do
  rest ← fixed_at (codes "assign") bytes
  name ← name_at rest
  equals ← fixed_at (codes "=") name.1
  value ← formula_at equals
  end ← fixed_at (codes ";") value.1
  Some (record { name = name.0; value = value.0 }, end)

-- items up to a fixed text, at most n of them
unfoldable pub items_at : {A : Type 0} → (List ℕ → Option (A × List ℕ)) → List ℕ → ℕ → List ℕ → Option (List A × List ℕ)
items_at item_at stop zero bytes = Some ([], bytes)
items_at item_at stop (suc n) bytes =
    if is_some (fixed_at stop bytes) then Some ([], bytes)
    else (item_at bytes >>= λ first. items_at item_at stop n first.1 >>= λ others. Some (first.0 ∷ others.0, others.1))

-- the package's name and the system's
unfoldable pub head_at : List ℕ → Option (List ℕ × List ℕ × List ℕ)
head_at bytes = do
  start ← fixed_at (codes "package") bytes
  name ← name_at start
  middle ← all_fixed_at (codes "public" ∷ codes "with" ∷ codes "Base_Types" ∷ codes ";" ∷ codes "system" ∷ []) name.1
  frame ← name_at middle
  end ← fixed_at (codes "features") frame.1
  Some (name.0, frame.0, end)

-- the implementation's name
unfoldable pub middle_at : List ℕ → List ℕ → Option (List ℕ × List ℕ)
middle_at frame bytes = do
  start ← all_fixed_at (codes "**}" ∷ codes ";" ∷ codes "end" ∷ frame ∷ codes ";" ∷ codes "system" ∷ codes "implementation" ∷ frame ∷ codes "." ∷ []) bytes
  body ← name_at start
  end ← all_fixed_at annex_words_at_head body.1
  Some (body.0, end)

-- what is left of a number of tokens where so many are taken
unfoldable pub left_of : ℕ → ℕ → Option ℕ
left_of tokens taken = if nat_le taken tokens then Some (tokens - taken) else None

-- the rules beyond the form of formulas, as one test
abbrev pub is_well_formed : Package → Bool
is_well_formed p =
    ports_differ p.ports && list_all (λ c. all_names (names_port p.ports) c.formula) p.claims
    && all_follow p.ports [] p.assigns && nat_le (length (flat_map claim_text p.claims) + length (flat_map assign_text p.assigns)) 1000

-- a package in bytes of which nothing but white space is left
unfoldable pub package_at : List ℕ → Option Package
package_at bytes = do
  head ← head_at bytes
  ports ← items_at port_at (codes "annex") 12 head.2
  annex ← all_fixed_at annex_words_at_head ports.1
  claims ← items_at claim_at (codes "**}") 200 annex
  middle ← middle_at head.1 claims.1
  assigns ← items_at assign_at (codes "**}") 200 middle.1
  end ← all_fixed_at (end_texts head.0 head.1 middle.0) assigns.1
  if list_all is_space end then Some (record { name = head.0; frame = head.1; body = middle.0; ports = ports.0; claims = claims.0; assigns = assigns.0 }) else None

unfoldable pub read_of : List ℕ → Option Package
read_of bytes = package_at bytes >>= λ p. if is_well_formed p then Some p else None
