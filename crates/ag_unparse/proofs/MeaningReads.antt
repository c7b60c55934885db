-- What the words of each kind of expression are read as, from what those of its operands are.
use Rattle.std.proofs.Common.{◌≡◌, ℕ, List, [], ◌∷◌, ◌++◌, map, Option, Some, None, refl, sym, ap, ap₂, ◌∙◌, codes}
use Rattle.std.specs.Prelude.{slice_range}
use Rattle.std.proofs.lemmas.List.{append_assoc, append-nil, map-append}
use Rattle.ag_lex.specs.declared.token.Token.{Token}
use Rattle.ag_aadl.specs.declared.marked.Marked.{Marked}
use Rattle.ag_terms.specs.declared.names.Path.{Path}
use Rattle.ag_aadl.specs.Meaning.{path_of}
use Rattle.ag_annex.specs.declared.frames.Frame.{Frame}
use Rattle.ag_annex.specs.declared.frames.Frame.TheVariants as frame
use Rattle.ag_annex.specs.declared.frames.Operand.{Operand}
use Rattle.ag_annex.specs.declared.frames.Operand.TheVariants.{Nothing, Name, Whole}
use Rattle.ag_annex.specs.declared.frames.Reading.{Reading}
use Rattle.ag_terms.specs.declared.terms.Binary.{Binary}
use Rattle.ag_terms.specs.declared.terms.Binary.TheVariants.{Arrow, Implies, Iff, Or, And, Less, AtMost, More, AtLeast, Same, Differs, Plus, Minus, Times, Div, Mod}
use Rattle.ag_terms.specs.declared.terms.Term.{Term, Named}
use Rattle.ag_terms.specs.declared.terms.Term.TheViews as term
use Rattle.ag_terms.specs.declared.terms.Unary.TheVariants as unary
use Rattle.ag_annex.specs.Expressions.{named, operand_term, close_all, with_last, behind_close, behind_name, read_token, read_tokens}
use Rattle.ag_annex.specs.Marks.{negative_mark, not_mark, pre_mark, if_mark, then_mark, else_mark, operand_mark, call_mark, argument_mark}
use Rattle.ag_annex.specs.Operators.{binary_of}
use Rattle.ag_annex.specs.Words.{terminal_of}
use Rattle.ag_unparse.specs.Canonical.{name_at, sign_at, binary_word, open_word, close_word}
use Rattle.ag_unparse.specs.Layout.{Spelled}
use Rattle.ag_unparse.specs.Same.{bare_term, bare_path, nowhere}
use Rattle.ag_unparse.specs.Spelling.{StandAs}
use Rattle.ag_unparse.proofs.MeaningPlaced.{placed, Split, split, placed_join}
use Rattle.ag_unparse.proofs.MeaningTerms.{bare_unary, bare_binary, bare_choice, bare_call}

abbrev pub reading : List Frame → Operand → Reading
reading frames o = record { frames = frames; operand = o }

abbrev pub at_word : List ℕ → Spelled → Token → Marked
at_word bytes w t = record { mark = w.mark; terminal = terminal_of t.kind (slice_range bytes t.start t.end); token = t }

-- ---- tokens behind tokens

read_join : (bytes : List ℕ) (r : Reading) (a b : List Marked) → read_tokens bytes r (a ++ b) ≡ read_tokens bytes (read_tokens bytes r a) b
read_join bytes r [] b = refl
read_join bytes r (m ∷ a) b = read_join bytes (read_token bytes r m) a b

-- the words before and then those behind
pub read_split : (bytes : List ℕ) (ws vs : List Spelled) (ts : List Token) (s : Split bytes ts ws vs) (r q : Reading) → read_tokens bytes r (placed bytes ws s.front) ≡ q
    → read_tokens bytes r (placed bytes (ws ++ vs) ts) ≡ read_tokens bytes q (placed bytes vs s.rest)
read_split bytes ws vs ts s r q e =
    ap (λ (z : List Token). read_tokens bytes r (placed bytes (ws ++ vs) z)) s.whole
    ∙ ap (read_tokens bytes r) (placed_join bytes ws vs s.front s.rest s.first)
    ∙ read_join bytes r (placed bytes ws s.front) (placed bytes vs s.rest)
    ∙ ap (λ (z : Reading). read_tokens bytes z (placed bytes vs s.rest)) e

-- the first word and then those behind
pub record First (bytes : List ℕ) (w : Spelled) (vs : List Spelled) (ts : List Token) : Type 0 where
  pub token : Token
  pub rest : List Token
  pub whole : ts ≡ token ∷ rest
  pub stands : StandAs bytes rest vs

pub first : (bytes : List ℕ) (w : Spelled) (vs : List Spelled) (ts : List Token) → StandAs bytes ts (w ∷ vs) → First bytes w vs ts
first bytes w vs [] h = absurd h
first bytes w vs (t ∷ ts) h = record { token = t; rest = ts; whole = refl; stands = h.2 }

pub read_first : (bytes : List ℕ) (w : Spelled) (vs : List Spelled) (ts : List Token) (f : First bytes w vs ts) (r q : Reading) → read_token bytes r (at_word bytes w f.token) ≡ q
    → read_tokens bytes r (placed bytes (w ∷ vs) ts) ≡ read_tokens bytes q (placed bytes vs f.rest)
read_first bytes w vs ts f r q e =
    ap (λ (z : List Token). read_tokens bytes r (placed bytes (w ∷ vs) z)) f.whole ∙ ap (λ (z : Reading). read_tokens bytes z (placed bytes vs f.rest)) e

-- ---- words that an operand is read from

pub record ReadTo (bytes : List ℕ) (ws : List Spelled) (ts : List Token) (Known : Operand → Type 0) : Type 0 where
  pub operand : Operand
  pub known : Known operand
  pub read : (frames : List Frame) → read_tokens bytes (reading frames Nothing) (placed bytes ws ts) ≡ reading frames operand

-- the operand is this expression but for places
pub record IsTerm (bytes : List ℕ) (bare : Term) (o : Operand) : Type 0 where
  pub counts : (args : List Term) (t : Term) → with_last args o t ≡ args ++ t ∷ []
  pub same : bare_term (operand_term bytes o) ≡ bare

abbrev pub Reads : List ℕ → List Spelled → Term → Type 0
Reads bytes ws bare = (ts : List Token) → StandAs bytes ts ws → ReadTo bytes ws ts (IsTerm bytes bare)

-- the operand is this name but for places
pub record IsPath (bytes : List ℕ) (bare : Path) (o : Operand) : Type 0 where
  pub parts : List Token
  pub bodies : List Token
  pub path : Path
  pub whole : o ≡ Name parts bodies
  pub told : path_of bytes parts bodies ≡ Some path
  pub same : bare_path path ≡ bare

abbrev pub ReadsPath : List ℕ → List Spelled → Path → Type 0
ReadsPath bytes ws bare = (ts : List Token) → StandAs bytes ts ws → ReadTo bytes ws ts (IsPath bytes bare)

-- an operand's words before others
pub record Through (bytes : List ℕ) (ws vs : List Spelled) (ts : List Token) (Known : Operand → Type 0) : Type 0 where
  pub operand : Operand
  pub known : Known operand
  pub rest : List Token
  pub stands : StandAs bytes rest vs
  pub read : (frames : List Frame) → read_tokens bytes (reading frames Nothing) (placed bytes (ws ++ vs) ts) ≡ read_tokens bytes (reading frames operand) (placed bytes vs rest)

pub through : (bytes : List ℕ) (ws vs : List Spelled) (ts : List Token) (Known : Operand → Type 0) → ((us : List Token) → StandAs bytes us ws → ReadTo bytes ws us Known) → StandAs bytes ts (ws ++ vs)
    → Through bytes ws vs ts Known
through bytes ws vs ts Known r h =
    let s = split bytes ws vs ts h in
    let t = r s.front s.first in
    record {
      operand = t.operand;
      known = t.known;
      rest = s.rest;
      stands = s.second;
      read = λ frames. read_split bytes ws vs ts s (reading frames Nothing) (reading frames t.operand) (t.read frames);
    }

-- ---- brackets

closing : (bytes : List ℕ) (frames : List Frame) (o : Operand) (ts : List Token) → StandAs bytes ts (close_word ∷ [])
    → read_tokens bytes (reading frames o) (placed bytes (close_word ∷ []) ts) ≡ behind_close o (close_all frames (operand_term bytes o))
closing bytes frames o [] h = absurd h
closing bytes frames o (t ∷ []) h = refl
closing bytes frames o (t ∷ u ∷ ts) h = absurd h.2

-- a name by itself
pub named_reads : (bytes : List ℕ) (ws : List Spelled) (bare : Path) → ReadsPath bytes ws bare → Reads bytes ws (Named bare)
named_reads bytes ws bare r ts h =
    let p = r ts h in
    record {
      operand = p.operand;
      known = record {
        counts = λ args t. ap (λ (z : Operand). with_last args z t) p.known.whole;
        same = ap (λ (z : Operand). bare_term (operand_term bytes z)) p.known.whole ∙ ap (λ (z : Option Path). bare_term (named z)) p.known.told ∙ ap Named p.known.same;
      };
      read = p.read;
    }

pub negative_reads : (bytes : List ℕ) (ws : List Spelled) (bare : Term) → Reads bytes ws bare
    → Reads bytes (open_word ∷ sign_at negative_mark (codes "-") ∷ (ws ++ close_word ∷ [])) (term.Unary unary.Minus nowhere bare)
negative_reads bytes ws bare r [] h = absurd h
negative_reads bytes ws bare r (a ∷ []) h = absurd h.2
negative_reads bytes ws bare r (a ∷ b ∷ ts) h =
    let t = through bytes ws (close_word ∷ []) ts (IsTerm bytes bare) r h.2.2 in
    record {
      operand = Whole (term.Unary unary.Minus b.place (operand_term bytes t.operand));
      known = record { counts = λ args u. refl; same = bare_unary unary.Minus b.place (operand_term bytes t.operand) ∙ ap (term.Unary unary.Minus nowhere) t.known.same };
      read = λ frames. t.read (frame.Prefix unary.Minus b.place ∷ frame.Group ∷ frames) ∙ closing bytes (frame.Prefix unary.Minus b.place ∷ frame.Group ∷ frames) t.operand t.rest t.stands;
    }

pub not_reads : (bytes : List ℕ) (ws : List Spelled) (bare : Term) → Reads bytes ws bare
    → Reads bytes (open_word ∷ name_at not_mark (codes "not") ∷ (ws ++ close_word ∷ [])) (term.Unary unary.Not nowhere bare)
not_reads bytes ws bare r [] h = absurd h
not_reads bytes ws bare r (a ∷ []) h = absurd h.2
not_reads bytes ws bare r (a ∷ b ∷ ts) h =
    let t = through bytes ws (close_word ∷ []) ts (IsTerm bytes bare) r h.2.2 in
    record {
      operand = Whole (term.Unary unary.Not b.place (operand_term bytes t.operand));
      known = record { counts = λ args u. refl; same = bare_unary unary.Not b.place (operand_term bytes t.operand) ∙ ap (term.Unary unary.Not nowhere) t.known.same };
      read = λ frames. t.read (frame.Prefix unary.Not b.place ∷ frame.Group ∷ frames) ∙ closing bytes (frame.Prefix unary.Not b.place ∷ frame.Group ∷ frames) t.operand t.rest t.stands;
    }

pub pre_reads : (bytes : List ℕ) (ws : List Spelled) (bare : Term) → Reads bytes ws bare
    → Reads bytes (name_at pre_mark (codes "pre") ∷ sign_at operand_mark (codes "(") ∷ (ws ++ close_word ∷ [])) (term.Unary unary.Pre nowhere bare)
pre_reads bytes ws bare r [] h = absurd h
pre_reads bytes ws bare r (a ∷ []) h = absurd h.2
pre_reads bytes ws bare r (a ∷ b ∷ ts) h =
    let t = through bytes ws (close_word ∷ []) ts (IsTerm bytes bare) r h.2.2 in
    record {
      operand = Whole (term.Unary unary.Pre a.place (operand_term bytes t.operand));
      known = record { counts = λ args u. refl; same = bare_unary unary.Pre a.place (operand_term bytes t.operand) ∙ ap (term.Unary unary.Pre nowhere) t.known.same };
      read = λ frames. t.read (frame.Pre a.place ∷ frames) ∙ closing bytes (frame.Pre a.place ∷ frames) t.operand t.rest t.stands;
    }

-- ---- operators between two operands

pub binary_mark : (op : Binary) → binary_of (binary_word op).mark ≡ Some op
binary_mark Arrow = refl
binary_mark Implies = refl
binary_mark Iff = refl
binary_mark Or = refl
binary_mark And = refl
binary_mark Less = refl
binary_mark AtMost = refl
binary_mark More = refl
binary_mark AtLeast = refl
binary_mark Same = refl
binary_mark Differs = refl
binary_mark Plus = refl
binary_mark Minus = refl
binary_mark Times = refl
binary_mark Div = refl
binary_mark Mod = refl

operator_read : (bytes : List ℕ) (op : Binary) (t : Token) (frames : List Frame) (o : Operand)
    → read_token bytes (reading (frame.Group ∷ frames) o) (at_word bytes (binary_word op) t) ≡ reading (frame.Infix op t.place (operand_term bytes o) ∷ frame.Group ∷ frames) Nothing
operator_read bytes op t frames o = rw (binary_mark op, read_token)

pub binary_reads : (bytes : List ℕ) (op : Binary) (ws vs : List Spelled) (left right : Term) → Reads bytes ws left → Reads bytes vs right
    → Reads bytes (open_word ∷ (ws ++ binary_word op ∷ (vs ++ close_word ∷ []))) (term.Binary op nowhere left right)
binary_reads bytes op ws vs left right l r [] h = absurd h
binary_reads bytes op ws vs left right l r (a ∷ ts) h =
    let t = through bytes ws (binary_word op ∷ (vs ++ close_word ∷ [])) ts (IsTerm bytes left) l h.2 in
    let f = first bytes (binary_word op) (vs ++ close_word ∷ []) t.rest t.stands in
    let u = through bytes vs (close_word ∷ []) f.rest (IsTerm bytes right) r f.stands in
    let one = operand_term bytes t.operand in
    let two = operand_term bytes u.operand in
    record {
      operand = Whole (term.Binary op f.token.place one two);
      known = record { counts = λ args z. refl; same = bare_binary op f.token.place one two ∙ ap₂ (term.Binary op nowhere) t.known.same u.known.same };
      read = λ frames.
          t.read (frame.Group ∷ frames)
          ∙ read_first bytes (binary_word op) (vs ++ close_word ∷ []) t.rest f (reading (frame.Group ∷ frames) t.operand) (reading (frame.Infix op f.token.place one ∷ frame.Group ∷ frames) Nothing) (operator_read bytes op f.token frames t.operand)
          ∙ u.read (frame.Infix op f.token.place one ∷ frame.Group ∷ frames)
          ∙ closing bytes (frame.Infix op f.token.place one ∷ frame.Group ∷ frames) u.operand u.rest u.stands;
    }

-- ---- `if`

three_ways : {t t' u u' v v' : Term} → t ≡ t' → u ≡ u' → v ≡ v' → term.Choice nowhere t u v ≡ term.Choice nowhere t' u' v'
three_ways {t' = t'} {u = u} {v = v} d e f = ap (λ (z : Term). term.Choice nowhere z u v) d ∙ ap₂ (term.Choice nowhere t') e f

pub choice_reads : (bytes : List ℕ) (ws vs us : List Spelled) (test chosen other : Term) → Reads bytes ws test → Reads bytes vs chosen → Reads bytes us other
    → Reads bytes (open_word ∷ name_at if_mark (codes "if") ∷ (ws ++ name_at then_mark (codes "then") ∷ (vs ++ name_at else_mark (codes "else") ∷ (us ++ close_word ∷ [])))) (term.Choice nowhere test chosen other)
choice_reads bytes ws vs us test chosen other q r s [] h = absurd h
choice_reads bytes ws vs us test chosen other q r s (a ∷ []) h = absurd h.2
choice_reads bytes ws vs us test chosen other q r s (a ∷ b ∷ ts) h =
    let then_word = name_at then_mark (codes "then") in
    let else_word = name_at else_mark (codes "else") in
    let last = us ++ close_word ∷ [] in
    let more = vs ++ else_word ∷ last in
    let t = through bytes ws (then_word ∷ more) ts (IsTerm bytes test) q h.2.2 in
    let f = first bytes then_word more t.rest t.stands in
    let u = through bytes vs (else_word ∷ last) f.rest (IsTerm bytes chosen) r f.stands in
    let g = first bytes else_word last u.rest u.stands in
    let v = through bytes us (close_word ∷ []) g.rest (IsTerm bytes other) s g.stands in
    let one = operand_term bytes t.operand in
    let two = operand_term bytes u.operand in
    let three = operand_term bytes v.operand in
    record {
      operand = Whole (term.Choice b.place one two three);
      known = record { counts = λ args z. refl; same = bare_choice b.place one two three ∙ three_ways t.known.same u.known.same v.known.same };
      read = λ frames.
          t.read (frame.Test b.place ∷ frame.Group ∷ frames)
          ∙ read_first bytes then_word more t.rest f (reading (frame.Test b.place ∷ frame.Group ∷ frames) t.operand) (reading (frame.Yes b.place one ∷ frame.Group ∷ frames) Nothing) refl
          ∙ u.read (frame.Yes b.place one ∷ frame.Group ∷ frames)
          ∙ read_first bytes else_word last u.rest g (reading (frame.Yes b.place one ∷ frame.Group ∷ frames) u.operand) (reading (frame.No b.place one two ∷ frame.Group ∷ frames) Nothing) refl
          ∙ v.read (frame.No b.place one two ∷ frame.Group ∷ frames)
          ∙ closing bytes (frame.No b.place one two ∷ frame.Group ∷ frames) v.operand v.rest v.stands;
    }

-- ---- calls

abbrev pub comma_word : Spelled
comma_word = sign_at argument_mark (codes ",")

-- the arguments so far, with the last one
abbrev pub arguments_at : List ℕ → List Term → Operand → List Term
arguments_at bytes args o = with_last args o (operand_term bytes o)

-- further arguments of a call
pub record MoreRead (bytes : List ℕ) (ws : List Spelled) (ts : List Token) (before : List Term) (o : Operand) (bares : List Term) : Type 0 where
  pub args : List Term
  pub operand : Operand
  pub same : map bare_term (arguments_at bytes args operand) ≡ map bare_term (before ++ operand_term bytes o ∷ []) ++ bares
  pub read : (path : Path) (frames : List Frame) → read_tokens bytes (reading (frame.Call path before ∷ frames) o) (placed bytes ws ts) ≡ reading (frame.Call path args ∷ frames) operand

abbrev pub ReadsMore : List ℕ → List Spelled → List Term → Type 0
ReadsMore bytes ws bares = (ts : List Token) → StandAs bytes ts ws → (before : List Term) (o : Operand) → ((args : List Term) (t : Term) → with_last args o t ≡ args ++ t ∷ []) → MoreRead bytes ws ts before o bares

pub none_more : (bytes : List ℕ) → ReadsMore bytes [] []
none_more bytes ts h before o counts = record {
  args = before;
  operand = o;
  same = ap (map bare_term) (counts before (operand_term bytes o)) ∙ sym (append-nil (map bare_term (before ++ operand_term bytes o ∷ [])));
  read = λ path frames. refl;
}

arguments_shift : (before : List Term) (t u : Term) (bare : Term) (bares : List Term) → bare_term u ≡ bare
    → map bare_term ((before ++ t ∷ []) ++ u ∷ []) ++ bares ≡ map bare_term (before ++ t ∷ []) ++ bare ∷ bares
arguments_shift before t u bare bares e =
    ap (λ (z : List Term). z ++ bares) (map-append bare_term (before ++ t ∷ []) (u ∷ []))
    ∙ append_assoc (map bare_term (before ++ t ∷ [])) (bare_term u ∷ []) bares
    ∙ ap (λ (z : Term). map bare_term (before ++ t ∷ []) ++ z ∷ bares) e

pub one_more : (bytes : List ℕ) (ws vs : List Spelled) (bare : Term) (bares : List Term) → Reads bytes ws bare → ReadsMore bytes vs bares → ReadsMore bytes (comma_word ∷ (ws ++ vs)) (bare ∷ bares)
one_more bytes ws vs bare bares q r [] h before o counts = absurd h
one_more bytes ws vs bare bares q r (a ∷ ts) h before o counts =
    let t = through bytes ws vs ts (IsTerm bytes bare) q h.2 in
    let now = operand_term bytes o in
    let m = r t.rest t.stands (before ++ now ∷ []) t.operand t.known.counts in
    record {
      args = m.args;
      operand = m.operand;
      same = m.same ∙ arguments_shift before now (operand_term bytes t.operand) bare bares t.known.same;
      read = λ path frames. t.read (frame.Call path (before ++ now ∷ []) ∷ frames) ∙ m.read path frames;
    }

-- the arguments of a call
pub record AllRead (bytes : List ℕ) (ws : List Spelled) (ts : List Token) (bares : List Term) : Type 0 where
  pub args : List Term
  pub operand : Operand
  pub same : map bare_term (arguments_at bytes args operand) ≡ bares
  pub read : (path : Path) (frames : List Frame) → read_tokens bytes (reading (frame.Call path [] ∷ frames) Nothing) (placed bytes ws ts) ≡ reading (frame.Call path args ∷ frames) operand

abbrev pub ReadsAll : List ℕ → List Spelled → List Term → Type 0
ReadsAll bytes ws bares = (ts : List Token) → StandAs bytes ts ws → AllRead bytes ws ts bares

pub none_at_all : (bytes : List ℕ) → ReadsAll bytes [] []
none_at_all bytes ts h = record { args = []; operand = Nothing; same = refl; read = λ path frames. refl }

pub some_arguments : (bytes : List ℕ) (ws vs : List Spelled) (bare : Term) (bares : List Term) → Reads bytes ws bare → ReadsMore bytes vs bares → ReadsAll bytes (ws ++ vs) (bare ∷ bares)
some_arguments bytes ws vs bare bares q r ts h =
    let t = through bytes ws vs ts (IsTerm bytes bare) q h in
    let m = r t.rest t.stands [] t.operand t.known.counts in
    record {
      args = m.args;
      operand = m.operand;
      same = m.same ∙ ap (λ (z : Term). z ∷ bares) t.known.same;
      read = λ path frames. t.read (frame.Call path [] ∷ frames) ∙ m.read path frames;
    }

call_begins : (bytes : List ℕ) (bare : Path) (o : Operand) (p : IsPath bytes bare o) (t : Token) (frames : List Frame)
    → read_token bytes (reading frames o) (at_word bytes (sign_at call_mark (codes "(")) t) ≡ reading (frame.Call p.path [] ∷ frames) Nothing
call_begins bytes bare o p t frames =
    ap (behind_name bytes frames) p.whole
    ∙ ap (λ (z : Option Path). elim z [ None ↦ reading frames Nothing | Some path ↦ reading (frame.Call path [] ∷ frames) Nothing ]) p.told

pub call_reads : (bytes : List ℕ) (ws vs : List Spelled) (path : Path) (bares : List Term) → ReadsPath bytes ws path → ReadsAll bytes vs bares
    → Reads bytes (ws ++ sign_at call_mark (codes "(") ∷ (vs ++ close_word ∷ [])) (term.Call path bares)
call_reads bytes ws vs path bares p r ts h =
    let call_word = sign_at call_mark (codes "(") in
    let t = through bytes ws (call_word ∷ (vs ++ close_word ∷ [])) ts (IsPath bytes path) p h in
    let f = first bytes call_word (vs ++ close_word ∷ []) t.rest t.stands in
    let s = split bytes vs (close_word ∷ []) f.rest f.stands in
    let a = r s.front s.first in
    let args = arguments_at bytes a.args a.operand in
    record {
      operand = Whole (term.Call t.known.path args);
      known = record { counts = λ before z. refl; same = bare_call t.known.path args ∙ ap₂ term.Call t.known.same a.same };
      read = λ frames.
          t.read frames
          ∙ read_first bytes call_word (vs ++ close_word ∷ []) t.rest f (reading frames t.operand) (reading (frame.Call t.known.path [] ∷ frames) Nothing) (call_begins bytes path t.operand t.known f.token frames)
          ∙ read_split bytes vs (close_word ∷ []) f.rest s (reading (frame.Call t.known.path [] ∷ frames) Nothing) (reading (frame.Call t.known.path a.args ∷ frames) a.operand) (a.read t.known.path frames)
          ∙ closing bytes (frame.Call t.known.path a.args ∷ frames) a.operand s.rest s.second;
    }
