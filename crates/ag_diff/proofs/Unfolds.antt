-- Lines that are added to a kernel one by one.
use Rattle.std.proofs.Common.{◌≡◌, ℕ, ◌+◌, ◌<◌, ◌≤◌, ℤ, pos, List, [], ◌∷◌, ◌++◌, length, map, take, get_or, refl, sym, ap, subst, ◌∙◌, arith, All, None}
use Rattle.std.proofs.lemmas.List.{length-take, length_push, take-append-le, map_push, map_more, get_or_append_left, get_or_push}
use Rattle.std.proofs.lemmas.List.Elements.{All-head, All-tail, All-push, All-weaker}
use Rattle.ag_query.specs.declared.rows.Atom.{Atom}
use Rattle.ag_kernel.specs.declared.line.Line.{Line}
use Rattle.ag_kernel.specs.State.{State}
use Rattle.ag_kernel.specs.Rules.{Adds, line_at, unfolded}
use Rattle.ag_kernel.specs.Theories.{HasGrown}
use Rattle.ag_diff.specs.declared.edges.Edge.{Edge}
use Rattle.ag_diff.specs.Unfolding.{named, unfolded_once}

no_less : {X : Type 0} (xs ys : List X) → take (length xs) ys ≡ xs → length xs ≤ length ys
no_less xs ys e = omega (arith, ap (λ (zs : List _). length zs) e, length-take (length xs) ys)

pub grown_more : (old s now : State) (n : ℕ) (line : Line) → HasGrown old s → Adds s now n line → HasGrown old now
grown_more old s now n line h add =
    let G : State → Type 0 = HasGrown old in
    subst G (sym add.1) record {
      query = h.query;
      atoms = h.atoms;
      lines = take-append-le (length old.lines) s.lines (line ∷ []) (no_less old.lines s.lines h.lines) ∙ h.lines;
    }

pub there_more : (s now : State) (n : ℕ) (line : Line) (parts : List (ℕ × ℤ)) (by' : ℤ) → Adds s now n line → All (λ p. p.0 < length s.lines) parts → All (λ p. p.0 < length now.lines) (parts ++ (n, by') ∷ [])
there_more s now n line parts by' add there =
    let count : length now.lines ≡ length s.lines + 1 = ap (λ (t : State). length t.lines) add.1 ∙ length_push s.lines line in
    All-push (λ (p : ℕ × ℤ). p.0 < length now.lines) parts (n, by')
    (All-weaker (λ (p : ℕ × ℤ). p.0 < length s.lines) (λ (p : ℕ × ℤ). p.0 < length now.lines) (λ p lt. omega (arith, lt, count)) parts there)
    (omega (arith, add.0, count))

-- the lines that were there keep their numbers
named_same : (lines : List Line) (line : Line) (parts : List (ℕ × ℤ)) → All (λ p. p.0 < length lines) parts → map (named (lines ++ line ∷ [])) parts ≡ map (named lines) parts
named_same lines line [] there = refl
named_same lines line (p ∷ ps) there =
    let P : ℕ × ℤ → Type 0 = λ q. q.0 < length lines in
    let here : line_at (lines ++ line ∷ []) p.0 ≡ line_at lines p.0 = get_or_append_left lines (line ∷ []) (record { lits = []; row = None }) p.0 (All-head P p ps there) in
    let rest = named_same lines line ps (All-tail P p ps there) in
    ap (λ (x : Line). (x, p.1) ∷ map (named (lines ++ line ∷ [])) ps) here ∙ ap (λ (xs : List (Line × ℤ)). (line_at lines p.0, p.1) ∷ xs) rest

pub lines_more : (old : List Atom) (s now : State) (n : ℕ) (parts : List (ℕ × ℤ)) (cycle : List Edge) (i : ℕ) (d : Edge) → i < length cycle → s.atoms ≡ old → Adds s now n (unfolded s.atoms (get_or cycle i d).lit) → All (λ p. p.0 < length s.lines) parts → map (named s.lines) parts ≡ map (unfolded_once old) (take i cycle) → map (named now.lines) (parts ++ (n, pos 1) ∷ []) ≡ map (unfolded_once old) (take (i + 1) cycle)
lines_more old s now n parts cycle i d lt atoms add there lines =
    let e : Edge = get_or cycle i d in
    let line : Line = unfolded s.atoms e.lit in
    let is : now.lines ≡ s.lines ++ line ∷ [] = ap (λ (t : State). t.lines) add.1 in
    let last : line_at (s.lines ++ line ∷ []) n ≡ line = get_or_push s.lines line (record { lits = []; row = None }) n (sym add.0) in
    let new : named (s.lines ++ line ∷ []) (n, pos 1) ≡ unfolded_once old e = ap (λ (x : Line). (x, pos 1)) (last ∙ ap (λ (as' : List Atom). unfolded as' e.lit) atoms) in
    let front : map (named (s.lines ++ line ∷ [])) parts ≡ map (unfolded_once old) (take i cycle) = named_same s.lines line parts there ∙ lines in
    ap (λ (ls : List Line). map (named ls) (parts ++ (n, pos 1) ∷ [])) is
    ∙ map_push (named (s.lines ++ line ∷ [])) parts (n, pos 1)
    ∙ ap (λ (x : Line × ℤ). map (named (s.lines ++ line ∷ [])) parts ++ x ∷ []) new
    ∙ ap (λ (xs : List (Line × ℤ)). xs ++ unfolded_once old e ∷ []) front
    ∙ sym (map_more (unfolded_once old) cycle i d lt)
