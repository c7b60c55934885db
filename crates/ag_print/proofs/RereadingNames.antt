-- Names of packages and classifiers read back from their words.
use Rattle.std.proofs.Common.{◌≡◌, ℕ, Bool, true, false, cond, ◌&&◌, List, [], ◌∷◌, ◌++◌, take, map, refl, sym, ap, ◌∙◌}
use Rattle.std.specs.Prelude.{◌==◌, Option, Some, None, codes}
use Rattle.std.proofs.lemmas.Bool.{and_parts}
use Rattle.std.proofs.lemmas.Bool.Decides.{Decides-eqb}
use Rattle.std.proofs.lemmas.List.{append_assoc, append-nil, map-append}
use Rattle.ag_terms.specs.declared.names.Path.{Path}
use Rattle.ag_terms.specs.declared.names.Ident.{Ident}
use Rattle.ag_aadl.specs.Marks.{part_mark, class_body_mark}
use Rattle.ag_aadl.specs.Names.{put_before, name_parts}
use Rattle.ag_print.specs.Canonical.{Spelled, more_parts, parts_words, body_words, package_parts, class_words, semicolon}
use Rattle.ag_unparse.specs.Same.{bare_ident, bare_option}
use Rattle.ag_print.specs.Same.{bare_class}
use Rattle.ag_print.proofs.RereadingSeen.{Seen, texts, named, join, some_name, front, last, path_in, class_in, two}
use Rattle.ag_print.proofs.RereadingPieces.{texts-append}
use Rattle.ag_print.proofs.RereadingLines.{seen}

-- ---- the parts of a name

abbrev filled : List (List ℕ) → Bool
filled [] = false
filled (p ∷ ps) = true

put_filled : (b : ℕ) (ps : List (List ℕ)) → filled (put_before b ps) ≡ true
put_filled b [] = refl
put_filled b (p ∷ ps) = refl

pub parts_filled : (text : List ℕ) → filled (name_parts text) ≡ true
parts_filled [] = refl
parts_filled (b ∷ []) = refl
parts_filled (b ∷ c ∷ bs) = step (b == 58 && c == 58)
  where
    step : (x : Bool) → filled (cond x ([] ∷ name_parts bs) (put_before b (name_parts (c ∷ bs)))) ≡ true
    step true = refl
    step false = put_filled b (name_parts (c ∷ bs))

join_cons : (t : List ℕ) (ps : List (List ℕ)) → filled ps ≡ true → join (t ∷ ps) ≡ t ++ (codes "::" ++ join ps)
join_cons t [] h = absurd cc
join_cons t (p ∷ ps) h = refl

join_put : (b : ℕ) (ps : List (List ℕ)) → filled ps ≡ true → join (put_before b ps) ≡ b ∷ join ps
join_put b [] h = absurd cc
join_put b (p ∷ []) h = refl
join_put b (p ∷ q ∷ ps) h = refl

-- a name's parts, joined, are the name
pub join_parts : (text : List ℕ) → join (name_parts text) ≡ text
join_parts [] = refl
join_parts (b ∷ []) = refl
join_parts (b ∷ c ∷ bs) = step (b == 58 && c == 58) refl (join_parts bs) (join_parts (c ∷ bs))
  where
    step : (x : Bool) → (b == 58 && c == 58) ≡ x → join (name_parts bs) ≡ bs → join (name_parts (c ∷ bs)) ≡ c ∷ bs
        → join (cond x ([] ∷ name_parts bs) (put_before b (name_parts (c ∷ bs)))) ≡ b ∷ c ∷ bs
    step true e short long =
        let parts = and_parts (b == 58) (c == 58) e in
        let first : b ≡ 58 = (Decides-eqb b 58).0 parts.0 in
        let second : c ≡ 58 = (Decides-eqb c 58).0 parts.1 in
        join_cons [] (name_parts bs) (parts_filled bs) ∙ ap (λ (z : List ℕ). codes "::" ++ z) short ∙ two (λ (y z : ℕ). y ∷ z ∷ bs) (sym first) (sym second)
    step false e short long = join_put b (name_parts (c ∷ bs)) (parts_filled (c ∷ bs)) ∙ ap (λ (z : List ℕ). b ∷ z) long

some_parts : (ps : List (List ℕ)) → filled ps ≡ true → some_name ps ≡ Some (named (join ps))
some_parts [] h = absurd cc
some_parts (p ∷ ps) h = refl

-- ---- under the marks of names

texts_more : (ps : List (List ℕ)) → texts part_mark (map seen (more_parts ps)) ≡ ps
texts_more [] = refl
texts_more (p ∷ ps) = ap (λ (z : List (List ℕ)). p ∷ z) (texts_more ps)

pub texts_parts : (ps : List (List ℕ)) → texts part_mark (map seen (parts_words ps)) ≡ ps
texts_parts [] = refl
texts_parts (p ∷ ps) = ap (λ (z : List (List ℕ)). p ∷ z) (texts_more ps)

no_body_more : (ps : List (List ℕ)) → texts class_body_mark (map seen (more_parts ps)) ≡ []
no_body_more [] = refl
no_body_more (p ∷ ps) = no_body_more ps

no_body_parts : (ps : List (List ℕ)) → texts class_body_mark (map seen (parts_words ps)) ≡ []
no_body_parts [] = refl
no_body_parts (p ∷ ps) = no_body_more ps

-- words with more behind them that have none under the mark
pub texts_before : (k : ℕ) (a b : List Spelled) → texts k (map seen b) ≡ [] → texts k (map seen (a ++ b)) ≡ texts k (map seen a)
texts_before k a b none =
    ap (texts k) (map-append seen a b) ∙ texts-append k (map seen a) (map seen b) ∙ ap (λ (z : List (List ℕ)). texts k (map seen a) ++ z) none ∙ append-nil (texts k (map seen a))

texts_behind : (k : ℕ) (ws : List Spelled) (t : List Seen) → texts k t ≡ [] → texts k (map seen ws ++ t) ≡ texts k (map seen ws)
texts_behind k ws t none = texts-append k (map seen ws) t ∙ ap (λ (z : List (List ℕ)). texts k (map seen ws) ++ z) none ∙ append-nil (texts k (map seen ws))

-- ---- classifiers

abbrev option_text : Option Ident → List (List ℕ)
option_text None = []
option_text (Some i) = i.text ∷ []

front_more : (t n : List ℕ) (ts : List (List ℕ)) → front t (ts ++ n ∷ []) ≡ t ∷ ts
front_more t n [] = refl
front_more t n (u ∷ us) = ap (λ (z : List (List ℕ)). t ∷ z) (front_more u n us)

last_more : (t n : List ℕ) (ts : List (List ℕ)) → last t (ts ++ n ∷ []) ≡ n
last_more t n [] = refl
last_more t n (u ∷ us) = last_more u n us

path_more : (ps : List (List ℕ)) (n : List ℕ) (bs : List (List ℕ)) → filled ps ≡ true
    → path_in (ps ++ n ∷ []) bs ≡ Some (record { «package» = some_name ps; name = named n; body = some_name (take 1 bs) })
path_more [] n bs h = absurd cc
path_more (p ∷ ps) n bs h =
    two (λ (f : List (List ℕ)) (l : List ℕ). Some (record { «package» = some_name f; name = named l; body = some_name (take 1 bs) })) (front_more p n ps) (last_more p n ps)

body_back : (b : Option Ident) → some_name (take 1 (option_text b)) ≡ bare_option b
body_back None = refl
body_back (Some i) = refl

path_back : (owner : Option Ident) (n : Ident) (b : Option Ident)
    → path_in (package_parts owner ++ n.text ∷ []) (option_text b) ≡ Some (record { «package» = bare_option owner; name = bare_ident n; body = bare_option b })
path_back None n b = ap (λ (z : Option Ident). Some (record { «package» = None; name = bare_ident n; body = z })) (body_back b)
path_back (Some i) n b =
    path_more (name_parts i.text) n.text (option_text b) (parts_filled i.text)
    ∙ two (λ (y z : Option Ident). Some (record { «package» = y; name = bare_ident n; body = z }))
    (some_parts (name_parts i.text) (parts_filled i.text) ∙ ap (λ (z : List ℕ). Some (named z)) (join_parts i.text)) (body_back b)

no_part_body : (b : Option Ident) → texts part_mark (map seen (body_words b ++ semicolon)) ≡ []
no_part_body None = refl
no_part_body (Some i) = refl

some_body : (b : Option Ident) → texts class_body_mark (map seen (body_words b ++ semicolon)) ≡ option_text b
some_body None = refl
some_body (Some i) = refl

path_words : (p : Path) → class_in (map seen (class_words (Some p) ++ semicolon)) ≡ bare_class (Some p)
path_words p =
    let parts = package_parts p.«package» ++ p.name.text ∷ [] in
    let more = body_words p.body ++ semicolon in
    let split : class_words (Some p) ++ semicolon ≡ parts_words parts ++ more = append_assoc (parts_words parts) (body_words p.body) semicolon in
    let bodies : texts class_body_mark (map seen (parts_words parts ++ more)) ≡ option_text p.body =
    ap (texts class_body_mark) (map-append seen (parts_words parts) more) ∙ texts-append class_body_mark (map seen (parts_words parts)) (map seen more)
    ∙ two (λ (y z : List (List ℕ)). y ++ z) (no_body_parts parts) (some_body p.body) in
    ap (λ (z : List Spelled). class_in (map seen z)) split
    ∙ two path_in (texts_before part_mark (parts_words parts) more (no_part_body p.body) ∙ texts_parts parts) bodies
    ∙ path_back p.«package» p.name p.body

class_words_back : (c : Option Path) → class_in (map seen (class_words c ++ semicolon)) ≡ bare_class c
class_words_back None = refl
class_words_back (Some p) = path_words p

-- the classifier that words name, whatever stands behind them without the marks of names
pub class_back : (c : Option Path) (t : List Seen) → texts part_mark t ≡ [] → texts class_body_mark t ≡ [] → class_in (map seen (class_words c ++ semicolon) ++ t) ≡ bare_class c
class_back c t parts bodies =
    two path_in (texts_behind part_mark (class_words c ++ semicolon) t parts) (texts_behind class_body_mark (class_words c ++ semicolon) t bodies) ∙ class_words_back c
