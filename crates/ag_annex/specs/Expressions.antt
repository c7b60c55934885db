-- The expression that marked tokens state. From the left to the right, each token ends the operands that it has to end:
-- what binds tighter than an operator is its left operand, and the operand behind an `else` reaches as far as it can.
use Rattle.std.specs.Prelude.{◌≡◌, ◌≤◌, ℕ, pos, ◌^◌, ◌==◌, ◌&&◌, ◌||◌, nat_lt, Bool, true, false, List, [], ◌∷◌, ◌++◌, Option, Some, None, if◌then◌else◌}
use Rattle.ag_base.specs.declared.place.Place.{Place}
use Rattle.ag_lex.specs.declared.token.Token.{Token}
use Rattle.ag_lex.specs.Rules.{decimal}
use Rattle.ag_aadl.specs.declared.marked.Marked.{Marked}
use Rattle.ag_terms.specs.declared.names.Path.{Path}
use Rattle.ag_aadl.specs.Marked.{own}
use Rattle.ag_aadl.specs.Meaning.{path_of}
use Rattle.ag_annex.specs.declared.frames.Frame.{Frame}
use Rattle.ag_annex.specs.declared.frames.Frame.TheVariants as frame
use Rattle.ag_annex.specs.declared.frames.Operand.{Operand}
use Rattle.ag_annex.specs.declared.frames.Operand.TheVariants.{Nothing, Name, Whole}
use Rattle.ag_annex.specs.declared.frames.Reading.{Reading}
use Rattle.ag_terms.specs.declared.terms.Binary.{Binary}
use Rattle.ag_terms.specs.declared.terms.Binary.TheVariants.{Arrow}
use Rattle.ag_terms.specs.declared.terms.Term.{Term, Number, Truth, Named}
use Rattle.ag_terms.specs.declared.terms.Term.TheViews as term
use Rattle.ag_terms.specs.declared.terms.Unary.TheVariants as unary
use Rattle.ag_annex.specs.Marks.{negative_mark, not_mark, pre_mark, prev_mark, if_mark, then_mark, else_mark, number_mark, true_mark, false_mark, group_mark, call_mark, argument_mark, close_mark, path_mark, part_mark, path_body_mark}
use Rattle.ag_annex.specs.Operators.{binary_of, rank, comparison, last_right}

-- ---- operands

-- what stands for an operand where there is none; the grammar sees to it that it is never asked for
abbrev pub no_place : Place
no_place = record { file = 0; line = 0; column = 0 }

abbrev pub no_term : Term
no_term = Truth false no_place

-- a name as an operand
abbrev pub named : Option Path → Term
named None = no_term
named (Some path) = Named path

-- the operand as an expression
abbrev pub operand_term : List ℕ → Operand → Term
operand_term bytes Nothing = no_term
operand_term bytes (Name parts bodies) = named (path_of bytes parts bodies)
operand_term bytes (Whole t) = t

-- there is no operand
abbrev pub is_nothing : Operand → Bool
is_nothing Nothing = true
is_nothing _ = false

-- ---- operators

-- whether an operator with its right operand whole ends before an operator of this rank
abbrev pub ends_before : Binary → ℕ → Bool
ends_before op r = nat_lt r (rank op) || (rank op == r && nat_lt last_right r)

-- What ends before an operator of this rank, with `t` as its last operand: what binds tighter, and what binds as tight
-- unless it associates to the right. Before a second comparison the operand behind the innermost `else` ends too, and that choice
-- is compared; where a comparison waits for the choice as well, the same goes for the next `else` outwards.
abbrev mutual
  pub close_before : ℕ → List Frame → Term → List Frame × Term
  close_before r (frame.Prefix op place ∷ frames) t = close_before r frames (term.Unary op place t)
  close_before r (frame.Infix op place left ∷ frames) t =
      if ends_before op r then (if r == comparison && rank op == comparison then close_choice r frames (term.Binary op place left t) else close_before r frames (term.Binary op place left t))
      else (frame.Infix op place left ∷ frames, t)
  close_before r frames t = (frames, t)

  pub close_choice : ℕ → List Frame → Term → List Frame × Term
  close_choice r (frame.Prefix op place ∷ frames) t = close_choice r frames (term.Unary op place t)
  close_choice r (frame.Infix op place left ∷ frames) t = close_choice r frames (term.Binary op place left t)
  close_choice r (frame.No place test chosen ∷ frames) t = close_before r frames (term.Choice place test chosen t)
  close_choice r frames t = (frames, t)

-- what waits behind an operator: it, with what stands before it
abbrev pub behind_infix : Binary → Place → List Frame × Term → Reading
behind_infix op place closed = record { frames = frame.Infix op place closed.1 ∷ closed.0; operand = Nothing }

-- all that ends with `t` as its last operand, before a `)`, a `,`, a `then`, an `else`, or the expression's end
abbrev pub close_all : List Frame → Term → List Frame × Term
close_all (frame.Prefix op place ∷ frames) t = close_all frames (term.Unary op place t)
close_all (frame.Infix op place left ∷ frames) t = close_all frames (term.Binary op place left t)
close_all (frame.No place test chosen ∷ frames) t = close_all frames (term.Choice place test chosen t)
close_all frames t = (frames, t)

-- ---- brackets, `pre`, `prev`, calls and `if`

-- the arguments of a call with the last one, if there is one
abbrev pub with_last : List Term → Operand → Term → List Term
with_last args Nothing t = args
with_last args _ t = args ++ t ∷ []

-- behind a `)`: `t` is the last operand in the bracket, if there was one
abbrev pub behind_close : Operand → List Frame × Term → Reading
behind_close o (frame.Group ∷ frames, t) = record { frames = frames; operand = Whole t }
behind_close o (frame.Pre place ∷ frames, t) = record { frames = frames; operand = Whole (term.Unary unary.Pre place t) }
behind_close o (frame.Start place arg ∷ frames, t) = record { frames = frames; operand = Whole (term.Binary Arrow place t (term.Unary unary.Pre place arg)) }
behind_close o (frame.Call path args ∷ frames, t) = record { frames = frames; operand = Whole (term.Call path (with_last args o t)) }
behind_close o (frames, t) = record { frames = frames; operand = Whole t }

-- behind a `,`: `t` is the operand before it
abbrev pub behind_comma : List Frame × Term → Reading
behind_comma (frame.Prev place ∷ frames, t) = record { frames = frame.Start place t ∷ frames; operand = Nothing }
behind_comma (frame.Call path args ∷ frames, t) = record { frames = frame.Call path (args ++ t ∷ []) ∷ frames; operand = Nothing }
behind_comma (frames, t) = record { frames = frames; operand = Nothing }

-- behind a `then`: `t` is what is tested
abbrev pub behind_test : List Frame × Term → Reading
behind_test (frame.Test place ∷ frames, t) = record { frames = frame.Yes place t ∷ frames; operand = Nothing }
behind_test (frames, t) = record { frames = frames; operand = Nothing }

-- behind an `else`: `t` is the operand behind `then`
abbrev pub behind_yes : List Frame × Term → Reading
behind_yes (frame.Yes place test ∷ frames, t) = record { frames = frame.No place test t ∷ frames; operand = Nothing }
behind_yes (frames, t) = record { frames = frames; operand = Nothing }

-- the name of a node before the `(` of a call
abbrev pub called : List ℕ → Operand → Option Path
called bytes Nothing = None
called bytes (Name parts bodies) = path_of bytes parts bodies
called bytes (Whole t) = None

-- behind the `(` of a call: the name before it is that of the node
abbrev pub behind_name : List ℕ → List Frame → Operand → Reading
behind_name bytes frames o = elim (called bytes o) [
  | None ↦ record { frames = frames; operand = Nothing }
  | Some path ↦ record { frames = frame.Call path [] ∷ frames; operand = Nothing }
]

-- behind a name's further part, and behind the name after its dot
abbrev pub with_part : Operand → Token → Operand
with_part (Name parts bodies) t = Name (parts ++ t ∷ []) bodies
with_part o t = o

abbrev pub with_body : Operand → Token → Operand
with_body (Name parts bodies) t = Name parts (bodies ++ t ∷ [])
with_body o t = o

-- ---- all tokens

-- behind a token that begins or goes on an operand
abbrev pub behind_operand : List ℕ → Reading → Marked → Reading
behind_operand bytes r m =
    if m.mark == number_mark then record { frames = r.frames; operand = Whole (Number (pos (decimal (own bytes m.token))) m.token.place) }
    else (if m.mark == true_mark then record { frames = r.frames; operand = Whole (Truth true m.token.place) }
    else (if m.mark == false_mark then record { frames = r.frames; operand = Whole (Truth false m.token.place) }
    else (if m.mark == path_mark then record { frames = r.frames; operand = Name (m.token ∷ []) [] }
    else (if m.mark == part_mark then record { frames = r.frames; operand = with_part r.operand m.token }
    else (if m.mark == path_body_mark then record { frames = r.frames; operand = with_body r.operand m.token }
    else r)))))

-- behind a token that something waits for operands with
abbrev pub behind_opening : List ℕ → Reading → Marked → Reading
behind_opening bytes r m =
    if m.mark == negative_mark then record { frames = frame.Prefix unary.Minus m.token.place ∷ r.frames; operand = Nothing }
    else (if m.mark == not_mark then record { frames = frame.Prefix unary.Not m.token.place ∷ r.frames; operand = Nothing }
    else (if m.mark == group_mark then record { frames = frame.Group ∷ r.frames; operand = Nothing }
    else (if m.mark == pre_mark then record { frames = frame.Pre m.token.place ∷ r.frames; operand = Nothing }
    else (if m.mark == prev_mark then record { frames = frame.Prev m.token.place ∷ r.frames; operand = Nothing }
    else (if m.mark == call_mark then behind_name bytes r.frames r.operand
    else (if m.mark == if_mark then record { frames = frame.Test m.token.place ∷ r.frames; operand = Nothing }
    else behind_operand bytes r m))))))

-- behind a token that isn't an operator between two operands; the `(` of `pre` and `prev` changes nothing
abbrev pub behind_other : List ℕ → Reading → Marked → Reading
behind_other bytes r m =
    if m.mark == close_mark then behind_close r.operand (close_all r.frames (operand_term bytes r.operand))
    else (if m.mark == argument_mark then behind_comma (close_all r.frames (operand_term bytes r.operand))
    else (if m.mark == then_mark then behind_test (close_all r.frames (operand_term bytes r.operand))
    else (if m.mark == else_mark then behind_yes (close_all r.frames (operand_term bytes r.operand))
    else behind_opening bytes r m)))

-- what is known behind a token
abbrev pub read_token : List ℕ → Reading → Marked → Reading
read_token bytes r m = elim (binary_of m.mark) [
  | None ↦ behind_other bytes r m
  | Some op ↦ behind_infix op m.token.place (close_before (rank op) r.frames (operand_term bytes r.operand))
]

-- what is known before the first token
abbrev pub unread : Reading
unread = record { frames = []; operand = Nothing }

abbrev pub read_tokens : List ℕ → Reading → List Marked → Reading
read_tokens bytes r [] = r
read_tokens bytes r (m ∷ ms) = read_tokens bytes (read_token bytes r m) ms

-- the expression at the end of its tokens
abbrev pub finished : List ℕ → Reading → Term
finished bytes r = (close_all r.frames (operand_term bytes r.operand)).1

-- the expression that these tokens state
abbrev pub term_of : List ℕ → List Marked → Term
term_of bytes ms = finished bytes (read_tokens bytes unread ms)

-- ---- numbers

-- a token under the mark of numbers is at most 2^47
abbrev pub IsNumberFit : List ℕ → Marked → Type 0
IsNumberFit bytes m = m.mark ≡ number_mark → decimal (own bytes m.token) ≤ 2 ^ 47

-- each of some marked tokens is so
abbrev pub AreNumbersFit : List ℕ → List Marked → Type 0
AreNumbersFit bytes [] = Unit {0}
AreNumbersFit bytes (m ∷ ms) = IsNumberFit bytes m × AreNumbersFit bytes ms
