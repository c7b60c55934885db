-- Names and numbers read back from their words.
use Rattle.std.proofs.Common.{◌≡◌, ◌≤◌, ◌<◌, ℕ, ◌+◌, ◌-◌, ◌*◌, Bool, true, false, cond, ◌&&◌, ◌==◌, List, [], ◌∷◌, ◌++◌, take, length, map, Option, Some, None, refl, sym, ap, ap₂, ◌∙◌, codes, arith}
use Rattle.std.specs.Prelude.{slice_index_or, fold, ◌^◌, ◌/◌, ◌%◌}
use Rattle.std.specs.Prelude as std
use Rattle.std.proofs.lemmas.Bool.{and_parts, eqb-true}
use Rattle.std.proofs.lemmas.Fmt.{decimal_by_steps}
use Rattle.std.proofs.lemmas.List.{append_assoc, append-nil}
use Rattle.ag_lex.specs.declared.token.Token.{Token}
use Rattle.ag_lex.specs.Rules.{decimal}
use Rattle.ag_terms.specs.declared.names.Ident.{Ident}
use Rattle.ag_terms.specs.declared.names.Path.{Path}
use Rattle.ag_aadl.specs.Marked.{own}
use Rattle.ag_aadl.specs.Meaning.{ident, joined, some_ident, path_of}
use Rattle.ag_aadl.specs.Names.{put_before, name_parts}
use Rattle.ag_annex.specs.declared.frames.Frame.{Frame}
use Rattle.ag_annex.specs.declared.frames.Operand.{Operand}
use Rattle.ag_annex.specs.declared.frames.Operand.TheVariants.{Nothing, Name}
use Rattle.ag_annex.specs.Expressions.{read_tokens}
use Rattle.ag_unparse.specs.Canonical.{more_part_words, part_words, package_parts, body_words, path_words}
use Rattle.ag_unparse.specs.Layout.{Spelled}
use Rattle.ag_unparse.specs.Same.{bare_ident, bare_option, bare_path, nowhere}
use Rattle.ag_unparse.specs.Spelling.{StandAs}
use Rattle.ag_unparse.proofs.MeaningPlaced.{placed, split}
use Rattle.ag_unparse.proofs.MeaningReads.{reading, read_split, ReadsPath}

-- ---- the parts of a name

abbrev filled : List (List ℕ) → Bool
filled [] = false
filled (p ∷ ps) = true

put_filled : (b : ℕ) (ps : List (List ℕ)) → filled (put_before b ps) ≡ true
put_filled b [] = refl
put_filled b (p ∷ ps) = refl

parts_filled : (text : List ℕ) → filled (name_parts text) ≡ true
parts_filled [] = refl
parts_filled (b ∷ []) = refl
parts_filled (b ∷ c ∷ bs) = step (b == 58 && c == 58)
  where
    step : (x : Bool) → filled (cond x ([] ∷ name_parts bs) (put_before b (name_parts (c ∷ bs)))) ≡ true
    step true = refl
    step false = put_filled b (name_parts (c ∷ bs))

-- the parts, apart by `::`
abbrev join : List (List ℕ) → List ℕ
join [] = []
join (t ∷ []) = t
join (t ∷ u ∷ ts) = t ++ (codes "::" ++ join (u ∷ ts))

join_cons : (t : List ℕ) (ps : List (List ℕ)) → filled ps ≡ true → join (t ∷ ps) ≡ t ++ (codes "::" ++ join ps)
join_cons t [] h = absurd cc
join_cons t (p ∷ ps) h = refl

join_put : (b : ℕ) (ps : List (List ℕ)) → filled ps ≡ true → join (put_before b ps) ≡ b ∷ join ps
join_put b [] h = absurd cc
join_put b (p ∷ []) h = refl
join_put b (p ∷ q ∷ ps) h = refl

-- a name's parts, joined, are the name
join_parts : (text : List ℕ) → join (name_parts text) ≡ text
join_parts [] = refl
join_parts (b ∷ []) = refl
join_parts (b ∷ c ∷ bs) = step (b == 58 && c == 58) refl (join_parts bs) (join_parts (c ∷ bs))
  where
    step : (x : Bool) → (b == 58 && c == 58) ≡ x → join (name_parts bs) ≡ bs → join (name_parts (c ∷ bs)) ≡ c ∷ bs
        → join (cond x ([] ∷ name_parts bs) (put_before b (name_parts (c ∷ bs)))) ≡ b ∷ c ∷ bs
    step true e short long =
        let parts = and_parts (b == 58) (c == 58) e in
        join_cons [] (name_parts bs) (parts_filled bs) ∙ ap (λ (z : List ℕ). codes "::" ++ z) short ∙ ap₂ (λ (y z : ℕ). y ∷ z ∷ bs) (sym (eqb-true b 58 parts.0)) (sym (eqb-true c 58 parts.1))
    step false e short long = join_put b (name_parts (c ∷ bs)) (parts_filled (c ∷ bs)) ∙ ap (λ (z : List ℕ). b ∷ z) long

joined_texts : (bytes : List ℕ) (ts : List Token) → joined bytes ts ≡ join (map (own bytes) ts)
joined_texts bytes [] = refl
joined_texts bytes (t ∷ []) = refl
joined_texts bytes (t ∷ u ∷ ts) = ap (λ (z : List ℕ). own bytes t ++ (codes "::" ++ z)) (joined_texts bytes (u ∷ ts))

-- ---- the tokens of a path

-- all but the last token, and the last
record Parted (bytes : List ℕ) (xs : List Token) (qs : List (List ℕ)) (n : List ℕ) : Type 0 where
  front : List Token
  last : Token
  whole : xs ≡ front ++ last ∷ []
  fronts : map (own bytes) front ≡ qs
  lasts : own bytes last ≡ n

parted : (bytes : List ℕ) (xs : List Token) (qs : List (List ℕ)) (n : List ℕ) → map (own bytes) xs ≡ qs ++ n ∷ [] → Parted bytes xs qs n
parted bytes [] [] n e = absurd cc
parted bytes [] (q ∷ qs) n e = absurd cc
parted bytes (x ∷ []) [] n e = record { front = []; last = x; whole = refl; fronts = refl; lasts = cc }
parted bytes (x ∷ y ∷ xs) [] n e = absurd cc
parted bytes (x ∷ xs) (q ∷ qs) n e =
    let head : own bytes x ≡ q = cc in
    let tail : map (own bytes) xs ≡ qs ++ n ∷ [] = cc in
    let more = parted bytes xs qs n tail in
    record { front = x ∷ more.front; last = more.last; whole = ap (λ (z : List Token). x ∷ z) more.whole; fronts = ap₂ (λ (y : List ℕ) (z : List (List ℕ)). y ∷ z) head more.fronts; lasts = more.lasts }

front_taken : (f : Token) (fs : List Token) (l : Token) → take (length (fs ++ l ∷ [])) (f ∷ (fs ++ l ∷ [])) ≡ f ∷ fs
front_taken f [] l = refl
front_taken f (g ∷ gs) l = ap (λ (z : List Token). f ∷ z) (front_taken g gs l)

last_found : (f : Token) (fs : List Token) (l d : Token) → slice_index_or (f ∷ (fs ++ l ∷ [])) (length (fs ++ l ∷ [])) d ≡ l
last_found f [] l d = refl
last_found f (g ∷ gs) l d = last_found g gs l d

abbrev path_at : List ℕ → List Token → Token → List Token → Path
path_at bytes front last bodies = record { «package» = some_ident bytes front; name = ident bytes last; body = some_ident bytes (take 1 bodies) }

path_told : (bytes : List ℕ) (front : List Token) (last : Token) (bodies : List Token) → path_of bytes (front ++ last ∷ []) bodies ≡ Some (path_at bytes front last bodies)
path_told bytes [] last bodies = refl
path_told bytes (f ∷ fs) last bodies =
    ap₂ (λ (x : List Token) (y : Token). Some (record { «package» = some_ident bytes x; name = ident bytes y; body = some_ident bytes (take 1 bodies) })) (front_taken f fs last) (last_found f fs last f)

owner_back : (bytes : List ℕ) (o : Option Ident) (front : List Token) → map (own bytes) front ≡ package_parts o → bare_option (some_ident bytes front) ≡ bare_option o
owner_back bytes None [] e = refl
owner_back bytes None (f ∷ fs) e = absurd cc
owner_back bytes (Some i) [] e =
    let f : filled [] ≡ true = ap filled e ∙ parts_filled i.text in
    absurd cc
owner_back bytes (Some i) (f ∷ fs) e = ap (λ (z : List ℕ). Some (record { text = z; place = nowhere })) (joined_texts bytes (f ∷ fs) ∙ ap join e ∙ join_parts i.text)

-- ---- the words of a path

-- further parts
record PartsRead (bytes : List ℕ) (ws : List Spelled) (ts : List Token) (parts : List (List ℕ)) : Type 0 where
  news : List Token
  texts : map (own bytes) news ≡ parts
  read : (frames : List Frame) (before : List Token) → read_tokens bytes (reading frames (Name before [])) (placed bytes ws ts) ≡ reading frames (Name (before ++ news) [])

more_parts_read : (bytes : List ℕ) (ps : List (List ℕ)) (ts : List Token) → StandAs bytes ts (more_part_words ps) → PartsRead bytes (more_part_words ps) ts ps
more_parts_read bytes [] ts h = record { news = []; texts = refl; read = λ frames before. ap (λ (z : List Token). reading frames (Name z [])) (sym (append-nil before)) }
more_parts_read bytes (p ∷ ps) [] h = absurd h
more_parts_read bytes (p ∷ ps) (a ∷ []) h = absurd h.2
more_parts_read bytes (p ∷ ps) (a ∷ b ∷ ts) h =
    let more = more_parts_read bytes ps ts h.2.2 in
    record {
      news = b ∷ more.news;
      texts = ap₂ (λ (y : List ℕ) (z : List (List ℕ)). y ∷ z) h.2.1 more.texts;
      read = λ frames before. more.read frames (before ++ b ∷ []) ∙ ap (λ (z : List Token). reading frames (Name z [])) (append_assoc before (b ∷ []) more.news);
    }

-- all parts
record NameRead (bytes : List ℕ) (ws : List Spelled) (ts : List Token) (parts : List (List ℕ)) : Type 0 where
  names : List Token
  texts : map (own bytes) names ≡ parts
  read : (frames : List Frame) (o : Operand) → read_tokens bytes (reading frames o) (placed bytes ws ts) ≡ reading frames (Name names [])

parts_read : (bytes : List ℕ) (qs : List (List ℕ)) (n : List ℕ) (ts : List Token) → StandAs bytes ts (part_words (qs ++ n ∷ [])) → NameRead bytes (part_words (qs ++ n ∷ [])) ts (qs ++ n ∷ [])
parts_read bytes [] n [] h = absurd h
parts_read bytes [] n (a ∷ ts) h =
    let more = more_parts_read bytes [] ts h.2 in
    record { names = a ∷ more.news; texts = ap₂ (λ (y : List ℕ) (z : List (List ℕ)). y ∷ z) h.1 more.texts; read = λ frames o. more.read frames (a ∷ []) }
parts_read bytes (q ∷ qs) n [] h = absurd h
parts_read bytes (q ∷ qs) n (a ∷ ts) h =
    let more = more_parts_read bytes (qs ++ n ∷ []) ts h.2 in
    record { names = a ∷ more.news; texts = ap₂ (λ (y : List ℕ) (z : List (List ℕ)). y ∷ z) h.1 more.texts; read = λ frames o. more.read frames (a ∷ []) }

-- what stands behind the dot
record BodyRead (bytes : List ℕ) (ws : List Spelled) (ts : List Token) (body : Option Ident) : Type 0 where
  bodies : List Token
  same : bare_option (some_ident bytes (take 1 bodies)) ≡ bare_option body
  read : (frames : List Frame) (names : List Token) → read_tokens bytes (reading frames (Name names [])) (placed bytes ws ts) ≡ reading frames (Name names bodies)

body_read : (bytes : List ℕ) (o : Option Ident) (ts : List Token) → StandAs bytes ts (body_words o) → BodyRead bytes (body_words o) ts o
body_read bytes None ts h = record { bodies = []; same = refl; read = λ frames names. refl }
body_read bytes (Some i) [] h = absurd h
body_read bytes (Some i) (a ∷ []) h = absurd h.2
body_read bytes (Some i) (a ∷ b ∷ []) h = record { bodies = b ∷ []; same = ap (λ (z : List ℕ). Some (record { text = z; place = nowhere })) h.2.1; read = λ frames names. refl }
body_read bytes (Some i) (a ∷ b ∷ c ∷ ts) h = absurd h.2.2

path_same : (bytes : List ℕ) (p : Path) (front : List Token) (last : Token) (bodies : List Token) → map (own bytes) front ≡ package_parts p.«package» → own bytes last ≡ p.name.text
    → bare_option (some_ident bytes (take 1 bodies)) ≡ bare_option p.body → bare_path (path_at bytes front last bodies) ≡ bare_path p
path_same bytes p front last bodies d e f =
    ap (λ (z : Option Ident). record { «package» = z; name = bare_ident (ident bytes last); body = bare_option (some_ident bytes (take 1 bodies)) }) (owner_back bytes p.«package» front d)
    ∙ ap₂ (λ (y : List ℕ) (z : Option Ident). record { «package» = bare_option p.«package»; name = record { text = y; place = nowhere }; body = z }) e f

pub path_reads : (bytes : List ℕ) (p : Path) → ReadsPath bytes (path_words p) (bare_path p)
path_reads bytes p ts h =
    let qs = package_parts p.«package» in
    let ws = part_words (qs ++ p.name.text ∷ []) in
    let s = split bytes ws (body_words p.body) ts h in
    let r = parts_read bytes qs p.name.text s.front s.first in
    let b = body_read bytes p.body s.rest s.second in
    let c = parted bytes r.names qs p.name.text r.texts in
    record {
      operand = Name r.names b.bodies;
      known = record {
        parts = r.names;
        bodies = b.bodies;
        path = path_at bytes c.front c.last b.bodies;
        whole = refl;
        told = ap (λ (z : List Token). path_of bytes z b.bodies) c.whole ∙ path_told bytes c.front c.last b.bodies;
        same = path_same bytes p c.front c.last b.bodies c.fronts c.lasts b.same;
      };
      read = λ frames. read_split bytes ws (body_words p.body) ts s (reading frames Nothing) (reading frames (Name r.names [])) (r.read frames Nothing) ∙ b.read frames r.names;
    }

-- ---- numbers

fold_last : (f : ℕ → ℕ → ℕ) (a : ℕ) (xs : List ℕ) (x : ℕ) → fold f a (xs ++ x ∷ []) ≡ f (fold f a xs) x
fold_last f a [] x = refl
fold_last f a (y ∷ xs) x = fold_last f (f a y) xs x

-- a number's digits write it
pub digits_back : (n : ℕ) → n < 2 ^ 64 → decimal (std.decimal n) ≡ n
digits_back n h = decimal_by_steps (λ (k : ℕ) (ds : List ℕ). decimal ds ≡ k) one more n h
  where
    one : (k : ℕ) → k < 10 → decimal ((48 + k) ∷ []) ≡ k
    one k small = omega arith

    more : (k : ℕ) (ds : List ℕ) → 10 ≤ k → decimal ds ≡ k / 10 → decimal (ds ++ (48 + k % 10) ∷ []) ≡ k
    more k ds large e =
        let last = fold_last (λ (value digit : ℕ). value * 10 + (digit - 48)) 0 ds (48 + k % 10) in
        last ∙ ap (λ (z : ℕ). z * 10 + ((48 + k % 10) - 48)) e ∙ whole
      where
        whole : (k / 10) * 10 + ((48 + k % 10) - 48) ≡ k
        whole = omega arith
