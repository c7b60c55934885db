-- Names as operands, and single tokens.
use Rattle.std.proofs.Common.{◌≡◌, ℕ, List, [], ◌∷◌, ◌++◌, Some, refl, sym, ap, ap₂, ◌∙◌, append_assoc}
use Rattle.std.proofs.lemmas.List.{append-nil}
use Rattle.ag_lex.specs.declared.token.Token.{Token}
use Rattle.ag_aadl.specs.declared.marked.Marked.{Marked}
use Rattle.ag_terms.specs.declared.names.Path.{Path}
use Rattle.ag_aadl.specs.Marked.{under}
use Rattle.ag_aadl.specs.Marks.{unmarked}
use Rattle.ag_aadl.specs.Meaning.{path_of}
use Rattle.ag_annex.specs.declared.frames.Frame.{Frame}
use Rattle.ag_annex.specs.declared.frames.Operand.TheVariants.{Nothing, Name}
use Rattle.ag_annex.specs.declared.frames.Reading.{Reading}
use Rattle.ag_annex.specs.declared.nesting.Open.{Open}
use Rattle.ag_annex.specs.Expressions.{read_token, read_tokens}
use Rattle.ag_lines.specs.Lines.{IsName, GoesOn, name_ends, next_part, a_body, name_parts_in}
use Rattle.ag_annex.specs.Marks.{path_mark, part_mark, path_body_mark}
use Rattle.ag_lines.proofs.Flat.{Opens, opens-next}
use Rattle.ag_lines.proofs.Reaching.{marked-as, read-as}

-- a name so far
abbrev so_far : List Frame → List Token → List Token → Reading
so_far frames parts bodies = record { frames = frames; operand = Name parts bodies }

-- one token of a name
read-one : (bytes : List ℕ) (frames : List Frame) (parts bodies : List Token) (m : Marked) (k : ℕ) (ms : List Marked) (r : Reading) → m.mark ≡ k → read_token bytes (so_far frames parts bodies) (record { mark = k; terminal = m.terminal; token = m.token }) ≡ r
    → read_tokens bytes (so_far frames parts bodies) (m ∷ ms) ≡ read_tokens bytes r ms
read-one bytes frames parts bodies m k ms r e f = ap (λ z. read_tokens bytes z ms) (read-as bytes (so_far frames parts bodies) m k e ∙ f)

-- its further parts and bodies by their marks
parts-as : (m : Marked) (k : ℕ) (ms : List Marked) → m.mark ≡ k → name_parts_in (m ∷ ms) ≡ name_parts_in (record { mark = k; terminal = m.terminal; token = m.token } ∷ ms)
parts-as m k ms e = ap (λ (z : Marked). name_parts_in (z ∷ ms)) (marked-as m k e)

bodies-as : (m : Marked) (k : ℕ) (ms : List Marked) → m.mark ≡ k → under path_body_mark (m ∷ ms) ≡ under path_body_mark (record { mark = k; terminal = m.terminal; token = m.token } ∷ ms)
bodies-as m k ms e = ap (λ (z : Marked). under path_body_mark (z ∷ ms)) (marked-as m k e)

-- what goes on a name is read as its further parts and bodies
read-more : (bytes : List ℕ) (frames : List Frame) (parts bodies : List Token) {ms : List Marked} → GoesOn ms → read_tokens bytes (so_far frames parts bodies) ms ≡ so_far frames (parts ++ name_parts_in ms) (bodies ++ under path_body_mark ms)
read-more bytes frames parts bodies name_ends = ap₂ (so_far frames) (sym (append-nil parts)) (sym (append-nil bodies))
read-more bytes frames parts bodies (next_part c m ms x y z g) =
    read-one bytes frames parts bodies c unmarked (m ∷ ms) (so_far frames parts bodies) x refl
    ∙ read-one bytes frames parts bodies m part_mark ms (so_far frames (parts ++ m.token ∷ []) bodies) z refl
    ∙ read-more bytes frames (parts ++ m.token ∷ []) bodies g
    ∙ ap₂ (so_far frames)
    (append_assoc parts (m.token ∷ []) (name_parts_in ms) ∙ ap (λ q. parts ++ q) (sym (parts-as c unmarked (m ∷ ms) x ∙ parts-as m part_mark ms z)))
    (ap (λ q. bodies ++ q) (sym (bodies-as c unmarked (m ∷ ms) x ∙ bodies-as m part_mark ms z)))
read-more bytes frames parts bodies (a_body d m x y z) =
    read-one bytes frames parts bodies d unmarked (m ∷ []) (so_far frames parts bodies) x refl
    ∙ read-one bytes frames parts bodies m path_body_mark [] (so_far frames parts (bodies ++ m.token ∷ [])) z refl
    ∙ ap₂ (so_far frames)
    (sym (append-nil parts) ∙ ap (λ q. parts ++ q) (sym (parts-as d unmarked (m ∷ []) x ∙ parts-as m path_body_mark [] z)))
    (ap (λ q. bodies ++ q) (sym (bodies-as d unmarked (m ∷ []) x ∙ bodies-as m path_body_mark [] z)))

-- a whole name behind an operator or a bracket
pub read-name : (bytes : List ℕ) (frames : List Frame) (m : Marked) (ms : List Marked) → m.mark ≡ path_mark → GoesOn ms
    → read_tokens bytes (record { frames = frames; operand = Nothing }) (m ∷ ms) ≡ record { frames = frames; operand = Name (m.token ∷ name_parts_in ms) (under path_body_mark ms) }
read-name bytes frames m ms e g = ap (λ z. read_tokens bytes z ms) (read-as bytes (record { frames = frames; operand = Nothing }) m path_mark e) ∙ read-more bytes frames (m.token ∷ []) [] g

-- what goes on a name opens nothing
more-open : (opens : List Open) {ms : List Marked} (opened : List Open) → GoesOn ms → Opens opens ms opened → opens ≡ opened
more-open opens opened name_ends o = o
more-open opens opened (next_part c m ms x y z g) o = more-open opens opened g (opens-next opens m ms opened part_mark opens z refl (opens-next opens c (m ∷ ms) opened unmarked opens x refl o))
more-open opens opened (a_body d m x y z) o = opens-next opens m [] opened path_body_mark opens z refl (opens-next opens d (m ∷ []) opened unmarked opens x refl o)

-- a name opens nothing
pub name-open : (opens : List Open) (m : Marked) (ms : List Marked) (opened : List Open) → m.mark ≡ path_mark → GoesOn ms → Opens opens (m ∷ ms) opened → opens ≡ opened
name-open opens m ms opened e g o = more-open opens opened g (opens-next opens m ms opened path_mark opens e refl o)

-- the tokens of a name, and what it is
pub record Told (bytes : List ℕ) (m : Marked) (ms : List Marked) : Type 0 where
  pub path : Path
  pub named : IsName bytes (m ∷ ms) path
  pub told : path_of bytes (m.token ∷ name_parts_in ms) (under path_body_mark ms) ≡ Some path

-- the first token of a name is its first part
pub told-as : (bytes : List ℕ) (m : Marked) (ms : List Marked) → m.mark ≡ path_mark → path_of bytes (name_parts_in (m ∷ ms)) (under path_body_mark (m ∷ ms)) ≡ path_of bytes (m.token ∷ name_parts_in ms) (under path_body_mark ms)
told-as bytes m ms e =
    ap (λ (z : Marked). path_of bytes (name_parts_in (z ∷ ms)) (under path_body_mark (z ∷ ms))) (marked-as m path_mark e)

-- some parts are always a path
path-told : (bytes : List ℕ) (t : Token) (ts bodies : List Token) → (path : Path) × (path_of bytes (t ∷ ts) bodies ≡ Some path)
path-told bytes t ts bodies = (_, refl)

-- each name is a path
pub name-told : (bytes : List ℕ) (m : Marked) (ms : List Marked) → m.mark ≡ path_mark → GoesOn ms → Told bytes m ms
name-told bytes m ms e g =
    let p = path-told bytes m.token (name_parts_in ms) (under path_body_mark ms) in
    record {
      path = p.0;
      named = record { first = m; more = ms; tokens = refl; begins = e; goes = g; told = told-as bytes m ms e ∙ p.1 };
      told = p.1;
    }
