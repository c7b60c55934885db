-- Tokens under the marks of the words that they stand for.
use Rattle.std.proofs.Common.{◌≡◌, ℕ, Bool, true, List, [], ◌∷◌, ◌++◌, refl, ap, ap₂}
use Rattle.std.specs.Prelude.{slice_range}
use Rattle.std.specs.List.{list_all}
use Rattle.std.proofs.lemmas.Bool.{and_parts, and_from}
use Rattle.ag_grammar.specs.declared.grammar.Step.{Step}
use Rattle.ag_grammar.specs.declared.grammar.Step.TheVariants.{Expand, Shift}
use Rattle.ag_grammar.specs.Texts.{marks_of}
use Rattle.ag_lex.specs.declared.token.Token.{Token}
use Rattle.ag_aadl.specs.declared.marked.Marked.{Marked}
use Rattle.ag_aadl.specs.Marked.{marked}
use Rattle.ag_annex.specs.Words.{terminal_of, terminals_of}
use Rattle.ag_unparse.specs.Layout.{Spelled}
use Rattle.ag_unparse.specs.Spelling.{StandAs, marks_of_words}

-- the tokens, each under the mark of its word
abbrev pub placed : List ℕ → List Spelled → List Token → List Marked
placed bytes [] ts = []
placed bytes (w ∷ ws) [] = []
placed bytes (w ∷ ws) (t ∷ ts) = record { mark = w.mark; terminal = terminal_of t.kind (slice_range bytes t.start t.end); token = t } ∷ placed bytes ws ts

-- steps that shift tokens under the marks of their words
pub marked_placed : (bytes : List ℕ) (steps : List Step) (ws : List Spelled) (ts : List Token) → StandAs bytes ts ws → marks_of steps ≡ marks_of_words ws
    → marked (terminals_of bytes ts) ts steps ≡ placed bytes ws ts
marked_placed bytes [] [] [] h e = refl
marked_placed bytes [] [] (t ∷ ts) h e = absurd h
marked_placed bytes [] (w ∷ ws) ts h e = absurd cc
marked_placed bytes (Expand name ∷ steps) ws ts h e = marked_placed bytes steps ws ts h e
marked_placed bytes (Shift mark ∷ steps) [] ts h e = absurd cc
marked_placed bytes (Shift mark ∷ steps) (w ∷ ws) [] h e = absurd h
marked_placed bytes (Shift mark ∷ steps) (w ∷ ws) (t ∷ ts) h e =
    let head : mark ≡ w.mark = cc in
    let tail : marks_of steps ≡ marks_of_words ws = cc in
    ap₂ (λ (k : ℕ) (z : List Marked). record { mark = k; terminal = terminal_of t.kind (slice_range bytes t.start t.end); token = t } ∷ z) head (marked_placed bytes steps ws ts h.2 tail)

-- tokens that stand as words and further words, taken apart
pub record Split (bytes : List ℕ) (ts : List Token) (ws vs : List Spelled) : Type 0 where
  pub front : List Token
  pub rest : List Token
  pub whole : ts ≡ front ++ rest
  pub first : StandAs bytes front ws
  pub second : StandAs bytes rest vs

pub split : (bytes : List ℕ) (ws vs : List Spelled) (ts : List Token) → StandAs bytes ts (ws ++ vs) → Split bytes ts ws vs
split bytes [] vs ts h = record { front = []; rest = ts; whole = refl; first = tt; second = h }
split bytes (w ∷ ws) vs [] h = absurd h
split bytes (w ∷ ws) vs (t ∷ ts) h =
    let more = split bytes ws vs ts h.2 in
    record { front = t ∷ more.front; rest = more.rest; whole = ap (λ (z : List Token). t ∷ z) more.whole; first = (h.0, h.1, more.first); second = more.second }

pub placed_join : (bytes : List ℕ) (ws vs : List Spelled) (front rest : List Token) → StandAs bytes front ws → placed bytes (ws ++ vs) (front ++ rest) ≡ placed bytes ws front ++ placed bytes vs rest
placed_join bytes [] vs [] rest h = refl
placed_join bytes [] vs (t ∷ front) rest h = absurd h
placed_join bytes (w ∷ ws) vs [] rest h = absurd h
placed_join bytes (w ∷ ws) vs (t ∷ front) rest h =
    ap (λ (z : List Marked). record { mark = w.mark; terminal = terminal_of t.kind (slice_range bytes t.start t.end); token = t } ∷ z) (placed_join bytes ws vs front rest h.2)

-- what holds of the marks of words
pub placed_all : (bytes : List ℕ) (p : ℕ → Bool) (ws : List Spelled) (ts : List Token) → list_all (λ w. p w.mark) ws ≡ true → list_all (λ m. p m.mark) (placed bytes ws ts) ≡ true
placed_all bytes p [] ts h = refl
placed_all bytes p (w ∷ ws) [] h = refl
placed_all bytes p (w ∷ ws) (t ∷ ts) h =
    let parts = and_parts (p w.mark) (list_all (λ v. p v.mark) ws) h in
    and_from (p w.mark) (list_all (λ (m : Marked). p m.mark) (placed bytes ws ts)) parts.0 (placed_all bytes p ws ts parts.1)
