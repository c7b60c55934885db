-- Words that symbols of the grammar derive, each under its mark.
use Rattle.std.proofs.Common.{◌≡◌, ℕ, zero, suc, ◌+◌, true, List, [], ◌∷◌, ◌++◌, map, Some, refl, sym, ap, ap₂, subst, ◌∙◌, append_assoc, arith}
use Rattle.std.specs.Prelude.{slice_get, slice_index_or, ◌&&◌, length, nat_le, ◌==◌}
use Rattle.std.specs.Option.{option_map}
use Rattle.std.proofs.lemmas.Bool.{and_parts, eqb-true}
use Rattle.std.proofs.lemmas.List.{append-nil, map-append}
use Rattle.std.proofs.lemmas.Option.{slice_get-map}
use Rattle.ag_grammar.specs.declared.grammar.Symbol.{Symbol}
use Rattle.ag_grammar.specs.declared.grammar.Symbol.TheVariants.{Terminal, Nonterminal}
use Rattle.ag_grammar.specs.declared.grammar.Step.{Step}
use Rattle.ag_grammar.specs.declared.grammar.Step.TheVariants.{Expand, Shift}
use Rattle.ag_grammar.specs.Grammar.{PlainProduction, PlainGrammar, IsProductionOf, Derives}
use Rattle.ag_grammar.specs.Deterministic.{Certificate, follow_of, starts}
use Rattle.ag_lex.specs.declared.token.TokenKind.{TokenKind}
use Rattle.ag_lex.specs.declared.token.TokenKind.TheVariants.{Name, Symbol as SymbolKind}
use Rattle.ag_lex.specs.Spelling.{is_name}
use Rattle.ag_aadl.specs.Certificate.{certificate}
use Rattle.ag_aadl.specs.Grammar.{with_ahead, aadl}
use Rattle.ag_aadl.specs.Page.{Line, lines}
use Rattle.ag_aadl.specs.Terminals.{name}
use Rattle.ag_aadl.specs.Words.{terminal_of}
use Rattle.ag_print.specs.Canonical.{Spelled, name_at, sign_at}
use Rattle.ag_print.specs.Printable.{is_plain_name}
use Rattle.ag_grammar.specs.Texts.{marks_of}
use Rattle.ag_print.specs.Spelling.{terminal_of_word, terminals_of_words, marks_of_words}

-- the symbols derive the words
pub record Spells (symbols : List Symbol) (ws : List Spelled) : Type 0 where
  pub steps : List Step
  pub derives : Derives aadl steps symbols (terminals_of_words ws)
  pub marks : marks_of steps ≡ marks_of_words ws

-- ---- the lines of the grammar

-- the production that a line of the grammar stands for
abbrev production_of : Certificate → ℕ → Line → PlainProduction
production_of c n l = record { name = l.name; ahead = starts c (follow_of c n) l.right; right = l.right }

line_within : (c : Certificate) (k : ℕ) (ls : List (List Line)) (n : ℕ) → slice_index_or (with_ahead c k ls) n [] ≡ map (production_of c (k + n)) (slice_index_or ls n [])
line_within c k [] n = refl
line_within c k (l ∷ ls) zero =
    let same : k ≡ k + 0 = omega arith in
    ap (λ (z : ℕ). map (production_of c z) l) same
line_within c k (l ∷ ls) (suc n) =
    let same : suc k + n ≡ k + suc n = omega arith in
    line_within c (suc k) ls n ∙ ap (λ (z : ℕ). map (production_of c z) (slice_index_or ls n [])) same

line_at : (c : Certificate) (ls : List (List Line)) (start n i : ℕ) (l : Line) → slice_get (slice_index_or ls n []) i ≡ Some l
    → IsProductionOf (record { nonterminals = with_ahead c 0 ls; start = start }) n (production_of c n l)
line_at c ls start n i l h =
    let there : slice_index_or (with_ahead c 0 ls) n [] ≡ map (production_of c n) (slice_index_or ls n []) =
    let same : 0 + n ≡ n = omega arith in
    line_within c 0 ls n ∙ ap (λ (z : ℕ). map (production_of c z) (slice_index_or ls n [])) same in
    (i, ap (λ (z : List PlainProduction). slice_get z i) there ∙ slice_get-map (production_of c n) (slice_index_or ls n []) i ∙ ap (option_map (production_of c n)) h)

-- ---- derivations

pub nothing : Spells [] []
nothing = record { steps = []; derives = tt; marks = refl }

join_derived : (g : PlainGrammar) (steps : List Step) (symbols : List Symbol) (xs : List ℕ) (more : List Step) (others : List Symbol) (ys : List ℕ)
    → Derives g steps symbols xs → Derives g more others ys → Derives g (steps ++ more) (symbols ++ others) (xs ++ ys)
join_derived g [] [] [] more others ys d e = e
join_derived g (Shift mark ∷ steps) (Terminal t m ∷ symbols) (x ∷ xs) more others ys d e = (d.0, d.1, join_derived g steps symbols xs more others ys d.2 e)
join_derived g (Expand label ∷ steps) (Nonterminal n ∷ symbols) xs more others ys d e = (
  d.0,
  d.1,
  d.2,
  subst (λ (ss : List Symbol). Derives g (steps ++ more) ss (xs ++ ys)) (append_assoc d.0.right symbols others) (join_derived g steps (d.0.right ++ symbols) xs more others ys d.3 e),
)
join_derived g _ _ _ more others ys d e = absurd d

marks_joined : (steps more : List Step) → marks_of (steps ++ more) ≡ marks_of steps ++ marks_of more
marks_joined [] more = refl
marks_joined (Shift mark ∷ steps) more = ap (λ (z : List ℕ). mark ∷ z) (marks_joined steps more)
marks_joined (Expand label ∷ steps) more = marks_joined steps more

-- words behind words
pub join : {symbols others : List Symbol} {ws vs : List Spelled} → Spells symbols ws → Spells others vs → Spells (symbols ++ others) (ws ++ vs)
join {symbols} {others} {ws} {vs} a b =
    record {
      steps = a.steps ++ b.steps;
      derives = subst (λ (xs : List ℕ). Derives aadl (a.steps ++ b.steps) (symbols ++ others) xs) (sym (map-append terminal_of_word ws vs)) (join_derived aadl a.steps symbols (terminals_of_words ws) b.steps others (terminals_of_words vs) a.derives b.derives);
      marks = marks_joined a.steps b.steps ∙ ap₂ (λ (x y : List ℕ). x ++ y) a.marks b.marks ∙ sym (map-append (λ (w : Spelled). w.mark) ws vs);
    }

-- a nonterminal by one of its lines
pub by_line : (n i : ℕ) {l : Line} {ws : List Spelled} → slice_get (slice_index_or lines n []) i ≡ Some l → Spells l.right ws → Spells (Nonterminal n ∷ []) ws
by_line n i {l} {ws} h right =
    record {
      steps = Expand l.name ∷ right.steps;
      derives = (production_of certificate n l, line_at certificate lines aadl.start n i l h, refl, subst (λ (ss : List Symbol). Derives aadl right.steps ss (terminals_of_words ws)) (sym (append-nil l.right)) right.derives);
      marks = right.marks;
    }

-- a terminal by its word
pub by_word : (t mark : ℕ) (kind : TokenKind) (own : List ℕ) {symbols : List Symbol} {ws : List Spelled} → terminal_of kind own ≡ t → Spells symbols ws
    → Spells (Terminal t mark ∷ symbols) (record { mark = mark; word = record { kind = kind; own = own } } ∷ ws)
by_word t mark kind own h rest =
    record {
      steps = Shift mark ∷ rest.steps;
      derives = (h, refl, rest.derives);
      marks = ap (λ (z : List ℕ). mark ∷ z) rest.marks;
    }

name_is : (own : List ℕ) → is_plain_name own ≡ true → terminal_of Name own ≡ name
name_is own h =
    let parts = and_parts (is_name own) (nat_le (length own) 255 && terminal_of Name own == name) h in
    let last = and_parts (nat_le (length own) 255) (terminal_of Name own == name) parts.1 in
    eqb-true (terminal_of Name own) name last.1

pub by_name : (mark : ℕ) (own : List ℕ) {symbols : List Symbol} {ws : List Spelled} → is_plain_name own ≡ true → Spells symbols ws → Spells (Terminal name mark ∷ symbols) (name_at mark own ∷ ws)
by_name mark own h rest = by_word name mark Name own (name_is own h) rest

pub by_sign : (t mark : ℕ) (own : List ℕ) {symbols : List Symbol} {ws : List Spelled} → terminal_of SymbolKind own ≡ t → Spells symbols ws → Spells (Terminal t mark ∷ symbols) (sign_at mark own ∷ ws)
by_sign t mark own h rest = by_word t mark SymbolKind own h rest

-- a symbol's words before those of others
pub beside : {s : Symbol} {others : List Symbol} {ws vs : List Spelled} → Spells (s ∷ []) ws → Spells others vs → Spells (s ∷ others) (ws ++ vs)
beside a b = join a b
