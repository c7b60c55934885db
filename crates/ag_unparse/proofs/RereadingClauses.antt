-- The canonical text of clauses is read as the same clauses.
use Rattle.std.proofs.Common.{◌≡◌, ◌≤◌, ℕ, ◌+◌, List, [], ◌∷◌, ◌++◌, length, refl, sym, ap, ap₂, subst, ◌∙◌, IsTrue, arith}
use Rattle.std.proofs.lemmas.List.{append_assoc, length-append}
use Rattle.ag_grammar.specs.Texts.{IsText}
use Rattle.ag_lex.specs.declared.token.Language.TheVariants.{Agree}
use Rattle.ag_lex.specs.declared.token.Token.{Token}
use Rattle.ag_lex.specs.declared.token.TokenKind.{TokenKind}
use Rattle.ag_lex.specs.Answers.{AreKept}
use Rattle.ag_lex.specs.Tokens.{Piece, Space, Comment, Lexeme, piece_bytes, AreRead, tokens_of}
use Rattle.ag_aadl.specs.Marked.{marked}
use Rattle.ag_terms.specs.declared.clauses.Clause.{Clause}
use Rattle.ag_terms.specs.declared.clauses.Site.{Site}
use Rattle.ag_annex.specs.Clauses.{clauses_of}
use Rattle.ag_annex.specs.Grammar.{annex}
use Rattle.ag_annex.specs.Words.{terminal_of, terminals_of}
use Rattle.ag_unparse.specs.Canonical.{inside_text}
use Rattle.ag_unparse.specs.Depth.{AreShallow}
use Rattle.ag_unparse.specs.Layout.{Spelled}
use Rattle.ag_unparse.specs.Printable.{are_printable_clauses}
use Rattle.ag_unparse.specs.Rereading.{MayBePrinted, around, AreReread, AreWithin, State}
use Rattle.ag_unparse.specs.Rereading as rereading
use Rattle.ag_unparse.specs.Spelling.{StandAs, clauses_words, terminals_of_words}
use Rattle.ag_unparse.proofs.MeaningWhole.{states}
use Rattle.ag_unparse.proofs.SpellsClauses.{spells}

-- ---- tokens within the text

within_from : (file : ℕ) (bytes before here rest : List ℕ) (ps : List Piece) → bytes ≡ before ++ (here ++ rest) → AreRead Agree ps here [] → AreWithin bytes (tokens_of file before ps)
within_from file bytes before here rest [] e r = tt
within_from file bytes before here rest (p ∷ ps) e r =
    let own = piece_bytes p in
    let next : bytes ≡ (before ++ own) ++ (r.0 ++ rest) =
    e ∙ ap (λ (z : List ℕ). before ++ (z ++ rest)) r.1 ∙ ap (λ (z : List ℕ). before ++ z) (append_assoc own r.0 rest) ∙ sym (append_assoc before own (r.0 ++ rest)) in
    one p next (within_from file bytes (before ++ own) r.0 rest ps next r.3)
  where
    fits : (own more : List ℕ) → bytes ≡ (before ++ own) ++ more → length before + length own ≤ length bytes
    fits own more h = omega (arith, ap length h, length-append (before ++ own) more, length-append before own)

    one : (q : Piece) → bytes ≡ (before ++ piece_bytes q) ++ (r.0 ++ rest) → AreWithin bytes (tokens_of file (before ++ piece_bytes q) ps) → AreWithin bytes (tokens_of file before (q ∷ ps))
    one (Space b) h more = more
    one (Comment text) h more = more
    one (Lexeme kind own) h more = (fits own (r.0 ++ rest) h, more)

kept_within : (file : ℕ) (before text after : List ℕ) (tokens : List Token) → AreKept Agree file before text tokens → AreWithin (before ++ (text ++ after)) tokens
kept_within file before text after tokens k =
    subst (AreWithin (before ++ (text ++ after))) (sym k.read.told) (within_from file (before ++ (text ++ after)) before text after k.read.pieces refl k.read.read)

-- ---- the terminals of tokens

pub terminals_are : (bytes : List ℕ) (ts : List Token) (ws : List Spelled) → StandAs bytes ts ws → terminals_of bytes ts ≡ terminals_of_words ws
terminals_are bytes [] [] h = refl
terminals_are bytes [] (w ∷ ws) h = absurd h
terminals_are bytes (t ∷ ts) [] h = absurd h
terminals_are bytes (t ∷ ts) (w ∷ ws) h =
    ap₂ (λ (x : ℕ) (xs : List ℕ). x ∷ xs) (ap₂ (λ (k : TokenKind) (own : List ℕ). terminal_of k own) h.0 h.1) (terminals_are bytes ts ws h.2)

-- ---- the law

abbrev pub AreAllRead : Type 0
AreAllRead = (file : ℕ) (before after : List ℕ) (clauses : List Clause) → IsTrue (are_printable_clauses clauses) → (tokens : List Token) × rereading.AreRead file before after clauses tokens

pub rereads : AreAllRead → (site : Site) (file : ℕ) (before after : List ℕ) (clauses : List Clause) → MayBePrinted site clauses → AreShallow clauses → (tokens : List Token) × (found : List Clause) × AreReread site file before after clauses tokens found
rereads law site file before after clauses may shallow =
    let r = law file before after clauses may.printable in
    let tokens = r.0 in
    let bytes = around before clauses after in
    let s = spells clauses may.printable in
    let steps = s.0 in
    let ms = marked (terminals_of bytes tokens) tokens steps in
    let stated = states site clauses may shallow bytes tokens steps r.1.words (kept_within file before (inside_text clauses) after tokens r.1.kept) s.1.1 in
    let text : IsText annex (terminals_of bytes tokens) steps = subst (λ (xs : List ℕ). IsText annex xs steps) (sym (terminals_are bytes tokens (clauses_words clauses) r.1.words)) s.1.0 in (
      tokens,
      clauses_of bytes ms,
      record {
        kept = r.1.kept;
        read = record { steps = steps; text = text; obeyed = stated.0; told = refl };
        same = stated.1;
      },
    )
