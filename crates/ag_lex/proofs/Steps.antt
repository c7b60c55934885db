-- One piece on, and how far a scan has come.
use Rattle.std.proofs.Common.{◌≡◌, ℕ, ◌+◌, ◌-◌, ◌≤◌, List, [], ◌∷◌, ◌++◌, length, take, drop, Option, Some, None, refl, sym, ap, subst, ◌∙◌, append_assoc, inl, inr, arith}
use Rattle.std.specs.List.{flat_map}
use Rattle.std.proofs.lemmas.List.{take-append-drop, take_at, drop_at, drop-drop, drop_all, length-append, length-drop, length-take-le, append-nil}
use Rattle.std.proofs.lemmas.Bool.{cases_order}
use Rattle.ag_base.specs.declared.place.Place.{Place}
use Rattle.ag_lex.specs.declared.cursor.Cursor.{Cursor}
use Rattle.ag_lex.specs.declared.found.Found.{Found}
use Rattle.ag_lex.specs.declared.scan.Fault.{Fault}
use Rattle.ag_lex.specs.declared.scan.Stop.{Stop}
use Rattle.ag_lex.specs.declared.scan.Stop.TheVariants.{Broken, OutOfMemory}
use Rattle.ag_lex.specs.declared.token.Language.{Language}
use Rattle.ag_lex.specs.declared.token.Token.{Token}
use Rattle.ag_lex.specs.declared.token.TokenKind.{TokenKind}
use Rattle.ag_lex.specs.Places.{place_of}
use Rattle.ag_lex.specs.Tokens.{Piece, Space, Comment, Lexeme, piece_bytes, IsPiece, AreRead, tokens_in, tokens_of}
use Rattle.ag_lex.specs.Rules.{Breaks, IsFine, AreFine}
use Rattle.ag_lex.specs.Scanning.{IsFound, IsNext, IsFaultAt, IsFirstFault, IsScanned, IsStop, StopsFirst, kind_in}
use Rattle.ag_lex.proofs.OnePiece.{some_bytes}
use Rattle.ag_lex.proofs.Placing.{file_is}
use Rattle.ag_lex.proofs.Reaching.{reach_before, one_rule, breaks_some}

pub untold : (file : ℕ) (before : List ℕ) (p : Piece) (old : List Token) → None ≡ kind_in p → old ≡ old ++ tokens_in file before p
untold file before (Space b) old e = sym (append-nil old)
untold file before (Comment text) old e = sym (append-nil old)
untold file before (Lexeme kind own) old e = absurd cc

abbrev some : TokenKind → Option TokenKind
some kind = Some kind

pub told : (file : ℕ) (before : List ℕ) (p : Piece) (kind : TokenKind) → Some kind ≡ kind_in p
    → tokens_in file before p ≡ record { kind = kind; start = length before; end = length before + length (piece_bytes p); place = place_of file before } ∷ []
told file before (Space b) kind e = absurd cc
told file before (Comment text) kind e = absurd cc
told file before (Lexeme found own) kind e =
    let same : found ≡ kind = kinds found kind e in
    ap (λ (k : TokenKind). record { kind = k; start = length before; end = length before + length own; place = place_of file before } ∷ []) same
  where
    kinds : (found kind : TokenKind) → some kind ≡ some found → found ≡ kind
    kinds found kind e = cc

pub told_so : (file : ℕ) (before : List ℕ) (p : Piece) (kind : TokenKind) (start end : ℕ) (place : Place) → Some kind ≡ kind_in p → start ≡ length before → end ≡ length before + length (piece_bytes p) → place ≡ place_of file before
    → record { kind = kind; start = start; end = end; place = place } ∷ [] ≡ tokens_in file before p
told_so file before p kind start end place e starts ends places = rw (starts, ends, places) (sym (told file before p kind e))

-- what was found at the cursor, as bytes
pub record Behind (bytes own : List ℕ) (at : ℕ) (p : Piece) (after : List ℕ) : Type 0 where
  pub own_is : own ≡ piece_bytes p
  pub after_is : drop (at + length own) bytes ≡ after
  pub before_is : take (at + length own) bytes ≡ take at bytes ++ own
  pub fits : at + length own ≤ length bytes

pub behind : (l : Language) (bytes own : List ℕ) (at : ℕ) (found : Found) (f : IsFound l found (drop at bytes)) → own ≡ take found.len (drop at bytes) → at ≤ length bytes → Behind bytes own at f.piece f.after
behind l bytes own at found f e within =
    let same : own ≡ piece_bytes f.piece = e ∙ ap (λ (z : List ℕ). take found.len z) f.parts ∙ take_at (piece_bytes f.piece) f.after found.len (sym f.len) in
    let len_at = length-take-le at bytes within in
    let whole : bytes ≡ (take at bytes ++ own) ++ f.after =
    sym (take-append-drop at bytes) ∙ ap (λ (z : List ℕ). take at bytes ++ z) (f.parts ∙ ap (λ (z : List ℕ). z ++ f.after) (sym same)) ∙ sym (append_assoc (take at bytes) own f.after) in
    let len : length (take at bytes ++ own) ≡ at + length own = length-append (take at bytes) own ∙ omega arith in
    record {
      own_is = same;
      after_is = ap (drop (at + length own)) whole ∙ drop_at (take at bytes ++ own) f.after (at + length own) len;
      before_is = ap (take (at + length own)) whole ∙ take_at (take at bytes ++ own) f.after (at + length own) len;
      fits = omega (arith, ap length whole, length-append (take at bytes ++ own) f.after);
    }

pub next_is : (l : Language) (bytes own : List ℕ) (cursor next : Cursor) (found : Found) (old new : List Token) (f : IsFound l found (drop cursor.at bytes)) → own ≡ take found.len (drop cursor.at bytes) → cursor.at ≤ length bytes
    → next.at ≡ cursor.at + length own → next.place ≡ place_of cursor.place.file (take cursor.at bytes ++ own) → new ≡ old ++ tokens_in cursor.place.file (take cursor.at bytes) f.piece
    → IsNext l bytes cursor next old new
next_is l bytes own cursor next found old new f e within at placed news =
    let b = behind l bytes own cursor.at found f e within in
    let after : drop next.at bytes ≡ f.after = ap (λ (n : ℕ). drop n bytes) at ∙ b.after_is in
    let some = some_bytes l f.piece f.after f.stands in
    let len : length own ≡ length (piece_bytes f.piece) = ap length b.own_is in
    let fits = b.fits in
    record {
      piece = f.piece;
      parts = f.parts ∙ ap (λ (z : List ℕ). piece_bytes f.piece ++ z) (sym after);
      stands = subst (IsPiece l f.piece) (sym after) f.stands;
      fine = f.fine;
      len = omega arith;
      forward = omega arith;
      within = omega arith;
      placed = placed ∙ ap (place_of cursor.place.file) (sym b.before_is ∙ ap (λ (n : ℕ). take n bytes) (sym at));
      told = news;
    }

-- ---- pieces so far

abbrev pub bytes_of : List Piece → List ℕ
bytes_of ps = flat_map piece_bytes ps

read_more : (l : Language) (ps : List Piece) (p : Piece) (text here rest : List ℕ) → AreRead l ps text here → here ≡ piece_bytes p ++ rest → IsPiece l p rest → AreRead l (ps ++ p ∷ []) text rest
read_more l [] p text here rest a e is = (rest, a ∙ e, is, refl)
read_more l (q ∷ qs) p text here rest a e is = (a.0, a.1, a.2, read_more l qs p a.0 here rest a.3 e is)

fine_more : (l : Language) (ps : List Piece) (p : Piece) → AreFine l ps → IsFine l p → AreFine l (ps ++ p ∷ [])
fine_more l [] p a f = (f, tt)
fine_more l (q ∷ qs) p a f = (a.0, fine_more l qs p a.1 f)

bytes_more : (ps : List Piece) (p : Piece) → bytes_of (ps ++ p ∷ []) ≡ bytes_of ps ++ piece_bytes p
bytes_more [] p = append-nil (piece_bytes p)
bytes_more (q ∷ qs) p = ap (λ (z : List ℕ). piece_bytes q ++ z) (bytes_more qs p) ∙ sym (append_assoc (piece_bytes q) (bytes_of qs) (piece_bytes p))

tokens_more : (file : ℕ) (before : List ℕ) (ps : List Piece) (p : Piece) → tokens_of file before (ps ++ p ∷ []) ≡ tokens_of file before ps ++ tokens_in file (before ++ bytes_of ps) p
tokens_more file before [] p = append-nil (tokens_in file before p) ∙ ap (λ (z : List ℕ). tokens_in file z p) (sym (append-nil before))
tokens_more file before (q ∷ qs) p =
    ap (λ (z : List Token). tokens_in file before q ++ z) (tokens_more file (before ++ piece_bytes q) qs p)
    ∙ sym (append_assoc (tokens_in file before q) (tokens_of file (before ++ piece_bytes q) qs) (tokens_in file ((before ++ piece_bytes q) ++ bytes_of qs) p))
    ∙ ap (λ (z : List ℕ). (tokens_in file before q ++ tokens_of file (before ++ piece_bytes q) qs) ++ tokens_in file z p) (append_assoc before (piece_bytes q) (bytes_of qs))

-- the scan has come to the cursor
pub record IsDone (l : Language) (start : Cursor) (bytes : List ℕ) (cursor : Cursor) (tokens : List Token) : Type 0 where
  pub pieces : List Piece
  pub read : AreRead l pieces (drop start.at bytes) (drop cursor.at bytes)
  pub fine : AreFine l pieces
  pub told : tokens ≡ tokens_of start.place.file (take start.at bytes) pieces
  pub behind : take cursor.at bytes ≡ take start.at bytes ++ bytes_of pieces
  pub forward : start.at ≤ cursor.at
  pub within : cursor.at ≤ length bytes
  pub placed : cursor.place ≡ place_of start.place.file (take cursor.at bytes)

pub done_more : (l : Language) (start : Cursor) (bytes : List ℕ) (cursor next : Cursor) (old new : List Token) → IsDone l start bytes cursor old → IsNext l bytes cursor next old new → IsDone l start bytes next new
done_more l start bytes cursor next old new d n =
    let file = file_is start.place.file (take cursor.at bytes) cursor.place d.placed in
    let before : take next.at bytes ≡ take cursor.at bytes ++ piece_bytes n.piece = next_before bytes (piece_bytes n.piece) cursor.at next.at n.parts n.len d.within in
    let forward = n.forward in
    let so_far = d.forward in
    record {
      pieces = d.pieces ++ n.piece ∷ [];
      read = read_more l d.pieces n.piece (drop start.at bytes) (drop cursor.at bytes) (drop next.at bytes) d.read n.parts n.stands;
      fine = fine_more l d.pieces n.piece d.fine n.fine;
      told = n.told ∙ ap (λ (z : List Token). z ++ tokens_in cursor.place.file (take cursor.at bytes) n.piece) d.told
          ∙ ap (λ (f : ℕ). tokens_of start.place.file (take start.at bytes) d.pieces ++ tokens_in f (take cursor.at bytes) n.piece) file
          ∙ ap (λ (z : List ℕ). tokens_of start.place.file (take start.at bytes) d.pieces ++ tokens_in start.place.file z n.piece) d.behind
          ∙ sym (tokens_more start.place.file (take start.at bytes) d.pieces n.piece);
      behind = before ∙ ap (λ (z : List ℕ). z ++ piece_bytes n.piece) d.behind ∙ append_assoc (take start.at bytes) (bytes_of d.pieces) (piece_bytes n.piece)
          ∙ ap (λ (z : List ℕ). take start.at bytes ++ z) (sym (bytes_more d.pieces n.piece));
      forward = omega arith;
      within = n.within;
      placed = n.placed ∙ ap (λ (f : ℕ). place_of f (take next.at bytes)) file;
    }
  where
    next_before : (bytes own : List ℕ) (at next : ℕ) → drop at bytes ≡ own ++ drop next bytes → next ≡ at + length own → at ≤ length bytes → take next bytes ≡ take at bytes ++ own
    next_before bytes own at next parts len within =
        let len_at = length-take-le at bytes within in
        let whole : bytes ≡ (take at bytes ++ own) ++ drop next bytes = sym (take-append-drop at bytes) ∙ ap (λ (z : List ℕ). take at bytes ++ z) parts ∙ sym (append_assoc (take at bytes) own (drop next bytes)) in
        ap (take next) whole ∙ take_at (take at bytes ++ own) (drop next bytes) next (length-append (take at bytes) own ∙ omega arith)

pub done_all : (l : Language) (start : Cursor) (bytes : List ℕ) (cursor : Cursor) (tokens : List Token) → IsDone l start bytes cursor tokens → length bytes ≤ cursor.at → IsScanned l start bytes tokens
done_all l start bytes cursor tokens d end =
    let none : drop cursor.at bytes ≡ [] = drop_all cursor.at bytes end in
    let read = subst (AreRead l d.pieces (drop start.at bytes)) none d.read in
    record {
      are_tokens = record { pieces = d.pieces; read = read; told = d.told };
      kept = λ n rule b.
          let some = breaks_some l rule (drop n (drop start.at bytes)) b.broken in
          let reach = reach_before l d.pieces b.pieces (drop start.at bytes) [] (drop n (drop start.at bytes)) rule read d.fine b.before b.broken in
          absurd (omega arith);
    }

pub done_fault : (l : Language) (start : Cursor) (bytes : List ℕ) (cursor : Cursor) (tokens : List Token) (fault : Fault) → IsDone l start bytes cursor tokens → IsFaultAt l bytes cursor fault → IsFirstFault l start bytes fault
done_fault l start bytes cursor tokens fault d f =
    let text = drop start.at bytes in
    let n = cursor.at - start.at in
    let forward = d.forward in
    let within = d.within in
    let sum : cursor.at ≡ start.at + n = omega arith in
    let here : drop n text ≡ drop cursor.at bytes = drop-drop n start.at bytes ∙ ap (λ (k : ℕ). drop k bytes) (sym sum) in
    let len = length-drop start.at bytes in
    record {
      n = n;
      at = f.at ∙ sum;
      broken = record {
        within = omega arith;
        pieces = d.pieces;
        before = subst (AreRead l d.pieces text) (sym here) d.read;
        broken = subst (Breaks l fault.refusal.rule) (sym here) f.broken;
      };
      placed = f.placed ∙ d.placed ∙ ap (λ (k : ℕ). place_of start.place.file (take k bytes)) (sym f.at);
      first = λ m rule b.
          let reach = reach_before l d.pieces b.pieces text (drop cursor.at bytes) (drop m text) rule d.read d.fine b.before b.broken in
          let len_m = length-drop m text in
          let len_here = length-drop cursor.at bytes in
          let inside = b.within in
          let some = breaks_some l rule (drop m text) b.broken in
          elim (cases_order n m) [
            | inl same ↦ inr (same, one_rule l fault.refusal.rule rule (drop n text) (subst (Breaks l fault.refusal.rule) (sym here) f.broken) (subst (λ (k : ℕ). Breaks l rule (drop k text)) (sym same) b.broken))
            | inr differ ↦ elim differ [ inl before ↦ inl before | inr behind ↦ absurd (omega arith) ]
          ];
    }

pub stops_first : (l : Language) (start : Cursor) (bytes : List ℕ) (cursor : Cursor) (tokens : List Token) (stop : Stop) → IsDone l start bytes cursor tokens → IsStop l bytes cursor stop → StopsFirst l start bytes stop
stops_first l start bytes cursor tokens OutOfMemory d s = tt
stops_first l start bytes cursor tokens (Broken fault) d s = done_fault l start bytes cursor tokens fault d s
