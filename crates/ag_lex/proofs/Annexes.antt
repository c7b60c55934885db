-- An annex among a file's tokens, and the text between its marks.
use Rattle.std.proofs.Common.{◌≡◌, ℕ, zero, suc, ◌+◌, ◌-◌, ◌<◌, ◌≤◌, List, [], ◌∷◌, ◌++◌, length, take, drop, refl, sym, ap, subst, ◌∙◌, append_assoc, arith}
use Rattle.std.specs.Prelude.{codes, slice_index_or, Contains}
use Rattle.std.proofs.lemmas.List.{length-append, take_at, take-take, drop-take, append-nil}
use Rattle.std.proofs.lemmas.Bool.{eqb-false}
use Rattle.ag_base.specs.declared.place.Place.{Place}
use Rattle.ag_lex.specs.declared.token.Language.{Language}
use Rattle.ag_lex.specs.declared.token.Language.TheVariants.{Aadl}
use Rattle.ag_lex.specs.declared.token.Token.{Token}
use Rattle.ag_lex.specs.declared.token.TokenKind.{TokenKind}
use Rattle.ag_lex.specs.declared.token.TokenKind.TheVariants.{Annex}
use Rattle.ag_lex.specs.Places.{place_of}
use Rattle.ag_lex.specs.Spelling.{Spells, IsToken}
use Rattle.ag_lex.specs.Tokens.{Piece, Space, Comment, Lexeme, AreRead, AreTokens, StandsIn, tokens_of, token_of}
use Rattle.ag_lex.specs.Answers.{IsAnnexOf, bytes_before, bytes_inside}
use Rattle.ag_lex.proofs.Placing.{behind_other, file_is}

further : (l : Language) (file : ℕ) (before bytes text after : List ℕ) (token : Token) → text ≡ bytes ++ after → StandsIn l file (before ++ bytes) after token → StandsIn l file before text token
further l file before bytes text after token e s =
    record {
      front = bytes ++ s.front;
      own = s.own;
      after = s.after;
      parts = e ∙ ap (λ (z : List ℕ). bytes ++ z) s.parts ∙ sym (append_assoc bytes s.front (s.own ++ s.after));
      stands = s.stands;
      is = s.is ∙ ap (λ (z : List ℕ). token_of file z token.kind s.own) (append_assoc before bytes s.front);
    }

stands_in : (l : Language) (file : ℕ) (before text : List ℕ) (ps : List Piece) (token : Token) (k : ℕ) → AreRead l ps text [] → k < length (tokens_of file before ps) → slice_index_or (tokens_of file before ps) k token ≡ token → StandsIn l file before text token
stands_in l file before text [] token k r lt e = absurd (omega arith)
stands_in l file before text (Space b ∷ ps) token k r lt e = further l file before (b ∷ []) text r.0 token r.1 (stands_in l file (before ++ b ∷ []) r.0 ps token k r.3 lt e)
stands_in l file before text (Comment c ∷ ps) token k r lt e = further l file before (codes "--" ++ c) text r.0 token r.1 (stands_in l file (before ++ (codes "--" ++ c)) r.0 ps token k r.3 lt e)
stands_in l file before text (Lexeme kind own ∷ ps) token zero r lt e =
    let kinds : kind ≡ token.kind = ap (λ (t : Token). t.kind) e in
    record {
      front = [];
      own = own;
      after = r.0;
      parts = r.1;
      stands = subst (λ (k : TokenKind). IsToken l k own r.0) kinds r.2;
      is = sym e ∙ ap (λ (z : List ℕ). token_of file z kind own) (sym (append-nil before)) ∙ ap (λ (k : TokenKind). token_of file (before ++ []) k own) kinds;
    }
stands_in l file before text (Lexeme kind own ∷ ps) token (suc k) r lt e = further l file before own text r.0 token r.1 (stands_in l file (before ++ own) r.0 ps token k r.3 (omega arith) e)

pub tokens_stand : (l : Language) (file : ℕ) (before text : List ℕ) (tokens : List Token) (token : Token) → AreTokens l file before text tokens → Contains tokens token → StandsIn l file before text token
tokens_stand l file before text tokens token a at =
    let told : Contains (tokens_of file before a.pieces) token = subst (λ (ts : List Token). Contains ts token) a.told at in
    stands_in l file before text a.pieces token told.0 a.read told.1 told.2

-- the marks of an annex, and the place behind the first
pub record Marks (bytes : List ℕ) (annex : Token) : Type 0 where
  pub room : annex.start + 6 ≤ annex.end
  pub within : annex.end ≤ length bytes
  pub placed : record { file = annex.place.file; line = annex.place.line; column = annex.place.column + 3 } ≡ place_of annex.place.file (take (annex.start + 3) bytes)
  pub column : annex.place ≡ place_of annex.place.file (take annex.start bytes)

three_on : (file : ℕ) (before : List ℕ) (place : Place) → place ≡ place_of file before → record { file = place.file; line = place.line; column = place.column + 3 } ≡ place_of file (before ++ codes "{**")
three_on file before place e =
    let one = behind_other file before 123 place (eqb-false 123 10 refl) e in
    let two = behind_other file (before ++ 123 ∷ []) 42 (record { file = place.file; line = place.line; column = place.column + 1 }) (eqb-false 42 10 refl) one in
    let three = behind_other file ((before ++ 123 ∷ []) ++ 42 ∷ []) 42 (record { file = place.file; line = place.line; column = place.column + 1 + 1 }) (eqb-false 42 10 refl) two in
    let count : place.column + 3 ≡ place.column + 1 + 1 + 1 = omega arith in
    let bytes : ((before ++ 123 ∷ []) ++ 42 ∷ []) ++ 42 ∷ [] ≡ before ++ codes "{**" = simp append_assoc in
    ap (λ (n : ℕ). record { file = place.file; line = place.line; column = n }) count ∙ three ∙ ap (place_of file) bytes

pub marks : (bytes : List ℕ) (annex : Token) → IsAnnexOf bytes annex → Marks bytes annex
marks bytes annex a =
    let file = a.file in
    let s = tokens_stand Aadl file [] bytes a.tokens annex a.read a.among in
    let spelled : Spells Aadl Annex s.own = subst (λ (k : TokenKind). Spells Aadl k s.own) a.kind s.stands.spelled in
    let start : annex.start ≡ length s.front = ap (λ (t : Token). t.start) s.is in
    let end : annex.end ≡ length s.front + length s.own = ap (λ (t : Token). t.end) s.is in
    let own_len : length s.own ≡ 3 + (length spelled.0 + 3) = ap length spelled.1 ∙ rw (length-append spelled.0 (codes "**}")) (omega arith) in
    let opened : bytes ≡ (s.front ++ codes "{**") ++ ((spelled.0 ++ codes "**}") ++ s.after) = s.parts ∙ ap (λ (z : List ℕ). s.front ++ (z ++ s.after)) spelled.1 ∙ sym (append_assoc s.front (codes "{**") ((spelled.0 ++ codes "**}") ++ s.after)) in
    let place : annex.place ≡ place_of file s.front = ap (λ (t : Token). t.place) s.is in
    let before : take annex.start bytes ≡ s.front = ap (take annex.start) s.parts ∙ take_at s.front (s.own ++ s.after) annex.start (sym start) in
    let before_inside : take (annex.start + 3) bytes ≡ s.front ++ codes "{**" = ap (take (annex.start + 3)) opened ∙ take_at (s.front ++ codes "{**") ((spelled.0 ++ codes "**}") ++ s.after) (annex.start + 3) (length-append s.front (codes "{**") ∙ omega arith) in
    let same_file : file ≡ annex.place.file = sym (file_is file s.front annex.place place) in
    record {
      room = omega arith;
      within = omega (arith, ap length s.parts, length-append s.front (s.own ++ s.after), length-append s.own s.after);
      placed = three_on file s.front annex.place place ∙ ap (place_of file) (sym before_inside) ∙ ap (λ (f : ℕ). place_of f (take (annex.start + 3) bytes)) same_file;
      column = place ∙ ap (place_of file) (sym before) ∙ ap (λ (f : ℕ). place_of f (take annex.start bytes)) same_file;
    }

-- the text and the bytes before it, in the bytes up to the closing mark
pub before_is : (bytes : List ℕ) (annex : Token) → Marks bytes annex → take (annex.start + 3) (take (annex.end - 3) bytes) ≡ bytes_before bytes annex
before_is bytes annex m = let room = m.room in take-take (annex.start + 3) (annex.end - 3) bytes (omega arith)

pub inside_is : (bytes : List ℕ) (annex : Token) → Marks bytes annex → drop (annex.start + 3) (take (annex.end - 3) bytes) ≡ bytes_inside bytes annex
inside_is bytes annex m =
    let room = m.room in
    let sum : annex.end - 3 ≡ (annex.start + 3) + ((annex.end - 3) - (annex.start + 3)) = omega arith in
    ap (λ (n : ℕ). drop (annex.start + 3) (take n bytes)) sum ∙ drop-take (annex.start + 3) ((annex.end - 3) - (annex.start + 3)) bytes
