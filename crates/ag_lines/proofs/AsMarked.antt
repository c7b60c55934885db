-- Each token of a derivation is the terminal that its mark stands for.
use Rattle.std.proofs.Common.{◌≡◌, ◌<◌, inl, inr, ℕ, zero, suc, Bool, true, ◌==◌, ◌&&◌, List, [], ◌∷◌, ◌++◌, Option, Some, None, refl, sym, ap, subst, ◌∙◌, arith}
use Rattle.std.proofs.lemmas.Bool.{and_parts, and_from, eqb-true}
use Rattle.ag_grammar.specs.declared.grammar.Symbol.{Symbol}
use Rattle.ag_grammar.specs.declared.grammar.Symbol.TheVariants.{Terminal, Nonterminal}
use Rattle.ag_aadl.specs.declared.marked.Marked.{Marked}
use Rattle.ag_aadl.specs.Page.{Line}
use Rattle.ag_annex.specs.Page.{lines}
use Rattle.ag_lines.specs.Lines.{IsAsMarked, AreAsMarked, terminal_beside, terminals_by_mark}
use Rattle.ag_lines.proofs.Parsing.{IsOneOf, rights_in, rights_of, At, left, size, shift, expand, nothing-left}

-- ---- tokens

-- of some tokens and those behind them
pub meant-apart : (a b : List Marked) → AreAsMarked (a ++ b) → AreAsMarked a × AreAsMarked b
meant-apart [] b x = (tt, x)
meant-apart (m ∷ a) b x = let p = meant-apart a b x.1 in ((x.0, p.0), p.1)

-- the terminal of a token, by its mark
pub meant : (m : Marked) (k t : ℕ) → IsAsMarked m → m.mark ≡ k → terminal_beside k terminals_by_mark ≡ Some t → m.terminal ≡ t
meant m k t is e f = is t (ap (λ (z : ℕ). terminal_beside z terminals_by_mark) e ∙ f)

-- ---- symbols

-- a terminal that its mark stands for, if it stands for any
abbrev fits : Option ℕ → ℕ → Bool
fits None t = true
fits (Some u) t = t == u

fits-one : (o : Option ℕ) (t u : ℕ) → fits o t ≡ true → o ≡ Some u → t ≡ u
fits-one None t u h e = absurd cc
fits-one (Some v) t u h e = let same : v ≡ u = cc in eqb-true t v h ∙ same

-- each of some symbols is so
abbrev are_fit : List Symbol → Bool
are_fit [] = true
are_fit (Terminal t k ∷ symbols) = fits (terminal_beside k terminals_by_mark) t && are_fit symbols
are_fit (Nonterminal n ∷ symbols) = are_fit symbols

fit-append : (a b : List Symbol) → are_fit a ≡ true → are_fit b ≡ true → are_fit (a ++ b) ≡ true
fit-append [] b x y = y
fit-append (Terminal t k ∷ a) b x y =
    let p = and_parts (fits (terminal_beside k terminals_by_mark) t) (are_fit a) x in
    and_from (fits (terminal_beside k terminals_by_mark) t) (are_fit (a ++ b)) p.0 (fit-append a b p.1 y)
fit-append (Nonterminal n ∷ a) b x y = fit-append a b x y

-- each production of a line, and of all lines
abbrev is_fit_line : List Line → Bool
is_fit_line [] = true
is_fit_line (l ∷ ls) = are_fit l.right && is_fit_line ls

abbrev are_fit_lines : List (List Line) → Bool
are_fit_lines [] = true
are_fit_lines (ls ∷ more) = is_fit_line ls && are_fit_lines more

-- what a nonterminal may be replaced by
fit-line : (ls : List Line) (right : List Symbol) → is_fit_line ls ≡ true → IsOneOf (rights_in ls) right → are_fit right ≡ true
fit-line [] right h is = absurd is
fit-line (l ∷ ls) right h (inl e) = ap are_fit e ∙ (and_parts (are_fit l.right) (is_fit_line ls) h).0
fit-line (l ∷ ls) right h (inr is) = fit-line ls right (and_parts (are_fit l.right) (is_fit_line ls) h).1 is

fit-lines : (ls : List (List Line)) (n : ℕ) (right : List Symbol) → are_fit_lines ls ≡ true → IsOneOf (rights_of ls n) right → are_fit right ≡ true
fit-lines [] n right h is = absurd is
fit-lines (l ∷ ls) zero right h is = fit-line l right (and_parts (is_fit_line l) (are_fit_lines ls) h).0 is
fit-lines (l ∷ ls) (suc n) right h is = fit-lines ls n right (and_parts (is_fit_line l) (are_fit_lines ls) h).1 is

-- the grammar has each mark at its terminal
page-fits : are_fit_lines lines ≡ true
page-fits = refl

-- ---- derivations

-- each token that the symbols derive is such
pub derived-meant : (bound : ℕ) (symbols : List Symbol) (a : At symbols) → size a < bound → are_fit symbols ≡ true → AreAsMarked (left a)
derived-meant zero symbols a h k = absurd (omega arith)
derived-meant (suc bound) [] a h k = subst AreAsMarked (sym (nothing-left a)) tt
derived-meant (suc bound) (Terminal t m ∷ symbols) a h k =
    let p = and_parts (fits (terminal_beside m terminals_by_mark) t) (are_fit symbols) k in
    let s = shift t m symbols a in
    subst AreAsMarked (sym s.parts) (
      λ u e. s.terminal ∙ fits-one (terminal_beside m terminals_by_mark) t u p.0 (sym (ap (λ (z : ℕ). terminal_beside z terminals_by_mark) s.mark) ∙ e),
      derived-meant bound symbols s.to (omega arith) p.1,
    )
derived-meant (suc bound) (Nonterminal n ∷ symbols) a h k =
    let x = expand n symbols a in
    subst AreAsMarked (sym x.parts) (derived-meant bound (x.right ++ symbols) x.to (omega arith) (fit-append x.right symbols (fit-lines lines n x.right page-fits x.among) k))
