-- The steps of reading annexes, one behind the other.
use Rattle.std.proofs.Common.{◌≡◌, ℕ, ◌+◌, ◌<◌, List, [], ◌∷◌, ◌++◌, length, get_or, take, drop, map, sym, ap, subst, ◌∙◌}
use Rattle.std.specs.List.{All, AllByRecursion, AllZip}
use Rattle.std.proofs.lemmas.List.{take-append-drop, drop_more, take_more, map-append}
use Rattle.std.proofs.lemmas.List.Elements.{All-map, All-weaker, All-push, All-get_or, All-from_recursion}
use Rattle.ag_base.specs.declared.place.Refusal.{Refusal}
use Rattle.ag_lex.specs.declared.token.Language.TheVariants.{Agree}
use Rattle.ag_lex.specs.declared.token.Token.{Token}
use Rattle.ag_lex.specs.Answers.{AreKept, bytes_before, bytes_inside}
use Rattle.ag_lex.specs.Rules.{IsFirstBroken}
use Rattle.ag_terms.specs.declared.clauses.Clause.{Clause}
use Rattle.ag_terms.specs.declared.clauses.Site.{Site}
use Rattle.ag_annex.specs.Annexes.{AreAnnexTokens, IsAnnex, IsFirstWrong}
use Rattle.ag_print.specs.declared.annexes.Annex.{Annex}
use Rattle.ag_print.specs.Annexes.{HasTokens, StatesClauses, IsTokenRefused, IsClauseRefused}
use Rattle.ag_print.specs.Shares.{IsOneOf, placed, IsRead, StatesThese}

-- the item at an index, those before and those behind
split : {X : Type 0} (xs : List X) (i : ℕ) (d : X) → i < length xs → xs ≡ take i xs ++ (get_or xs i d ∷ drop (i + 1) xs)
split xs i d lt = sym (take-append-drop i xs) ∙ ap (λ ys. take i xs ++ ys) (drop_more xs i d lt)

-- ---- tokens

read_tokens : (bytes : List ℕ) (annexes : List Annex) → All (IsRead bytes) annexes → All (HasTokens bytes) (map placed annexes)
read_tokens bytes annexes read = All-map (HasTokens bytes) placed annexes (All-weaker (IsRead bytes) (λ a. HasTokens bytes (placed a)) (λ a r. (a.tokens, r.kept)) annexes read)

pub token_refused : (bytes : List ℕ) (places : List (Token × Site)) (i : ℕ) (d : Token × Site) (annexes : List Annex) (r : Refusal) → i < length places → map placed annexes ≡ take i places → All (IsRead bytes) annexes
    → IsFirstBroken Agree (get_or places i d).0.place.file (bytes_before bytes (get_or places i d).0) (bytes_inside bytes (get_or places i d).0) r → IsTokenRefused bytes places r
token_refused bytes places i d annexes r lt same read broken = record {
  before = take i places;
  annex = get_or places i d;
  behind = drop (i + 1) places;
  order = split places i d lt;
  fine = subst (λ (z : List (Token × Site)). All (HasTokens bytes) z) same (read_tokens bytes annexes read);
  broken = broken;
}

pub placed_more : (places : List (Token × Site)) (i : ℕ) (d : Token × Site) (annexes : List Annex) (tokens : List Token) → i < length places → map placed annexes ≡ take i places
    → map placed (annexes ++ record { text = (get_or places i d).0; site = (get_or places i d).1; tokens = tokens } ∷ []) ≡ take (i + 1) places
placed_more places i d annexes tokens lt same =
    map-append placed annexes _ ∙ ap (λ (z : List (Token × Site)). z ++ get_or places i d ∷ []) same ∙ sym (take_more places i d lt)

pub read_more : (bytes : List ℕ) (places : List (Token × Site)) (i : ℕ) (d : Token × Site) (annexes : List Annex) (tokens : List Token) → i < length places → All (IsOneOf bytes) places → All (IsRead bytes) annexes
    → AreKept Agree (get_or places i d).0.place.file (bytes_before bytes (get_or places i d).0) (bytes_inside bytes (get_or places i d).0) tokens
    → All (IsRead bytes) (annexes ++ record { text = (get_or places i d).0; site = (get_or places i d).1; tokens = tokens } ∷ [])
read_more bytes places i d annexes tokens lt among read kept =
    All-push (IsRead bytes) annexes _ read (record { among = All-get_or (IsOneOf bytes) places i d lt among; kept = kept })

-- ---- clauses

pub annex_tokens : (bytes : List ℕ) (annexes : List Annex) (i : ℕ) (a : Annex) (tokens : List Token) → i < length annexes → a ≡ get_or annexes i a → All (IsRead bytes) annexes → tokens ≡ a.tokens → AreAnnexTokens bytes tokens
annex_tokens bytes annexes i a tokens lt is read e =
    let one = subst (λ (z : Annex). IsRead bytes z) (sym is) (All-get_or (IsRead bytes) annexes i a lt read) in
    subst (λ (z : List Token). AreAnnexTokens bytes z) (sym e) (record { annex = a.text; among = one.among; kept = one.kept })

clauses_each : (bytes : List ℕ) (places : List (Token × Site)) (clauses : List (List Clause)) → AllZip (StatesThese bytes) places clauses → All (StatesClauses bytes) places
clauses_each bytes places clauses all = All-from_recursion (StatesClauses bytes) places (each places clauses all)
  where
    each : (ps : List (Token × Site)) (cs : List (List Clause)) → AllZip (StatesThese bytes) ps cs → AllByRecursion (StatesClauses bytes) ps
    each [] [] z = tt
    each [] (c ∷ cs) z = absurd z
    each (p ∷ ps) [] z = absurd z
    each (p ∷ ps) (c ∷ cs) z = ((c, z.0), each ps cs z.1)

pub clause_refused : (bytes : List ℕ) (annexes : List Annex) (i : ℕ) (a : Annex) (tokens : List Token) (clauses : List (List Clause)) (r : Refusal) → i < length annexes → a ≡ get_or annexes i a → All (IsRead bytes) annexes
    → AllZip (StatesThese bytes) (map placed (take i annexes)) clauses → tokens ≡ a.tokens → IsFirstWrong bytes tokens a.site r → IsClauseRefused bytes (map placed annexes) r
clause_refused bytes annexes i a tokens clauses r lt is read stated e wrong =
    let one = subst (λ (z : Annex). IsRead bytes z) (sym is) (All-get_or (IsRead bytes) annexes i a lt read) in
    let parts : annexes ≡ take i annexes ++ (a ∷ drop (i + 1) annexes) = split annexes i a lt ∙ ap (λ z. take i annexes ++ (z ∷ drop (i + 1) annexes)) (sym is) in
    record {
      fine = read_tokens bytes annexes read;
      before = map placed (take i annexes);
      annex = placed a;
      behind = map placed (drop (i + 1) annexes);
      order = ap (map placed) parts ∙ map-append placed (take i annexes) (a ∷ drop (i + 1) annexes);
      stated = clauses_each bytes (map placed (take i annexes)) clauses stated;
      tokens = a.tokens;
      kept = one.kept;
      wrong = subst (λ (z : List Token). IsFirstWrong bytes z a.site r) e wrong;
    }

pub clauses_more : (bytes : List ℕ) (annexes : List Annex) (i : ℕ) (a : Annex) (tokens : List Token) (clauses : List (List Clause)) (own : List Clause) → i < length annexes → a ≡ get_or annexes i a → All (IsRead bytes) annexes
    → AllZip (StatesThese bytes) (map placed (take i annexes)) clauses → tokens ≡ a.tokens → IsAnnex bytes tokens a.site own → AllZip (StatesThese bytes) (map placed (take (i + 1) annexes)) (clauses ++ own ∷ [])
clauses_more bytes annexes i a tokens clauses own lt is read stated e states =
    let one = subst (λ (z : Annex). IsRead bytes z) (sym is) (All-get_or (IsRead bytes) annexes i a lt read) in
    let more : map placed (take (i + 1) annexes) ≡ map placed (take i annexes) ++ placed a ∷ [] =
    ap (map placed) (take_more annexes i a lt ∙ ap (λ z. take i annexes ++ z ∷ []) (sym is)) ∙ map-append placed (take i annexes) (a ∷ []) in
    let these : StatesThese bytes (placed a) own = record { tokens = a.tokens; kept = one.kept; read = subst (λ (z : List Token). IsAnnex bytes z a.site own) e states } in
    subst (λ (z : List (Token × Site)). AllZip (StatesThese bytes) z (clauses ++ own ∷ [])) (sym more) (push (map placed (take i annexes)) clauses stated these)
  where
    push : (ps : List (Token × Site)) (cs : List (List Clause)) → AllZip (StatesThese bytes) ps cs → StatesThese bytes (placed a) own → AllZip (StatesThese bytes) (ps ++ placed a ∷ []) (cs ++ own ∷ [])
    push [] [] z this = (this, tt)
    push [] (c ∷ cs) z this = absurd z
    push (p ∷ ps) [] z this = absurd z
    push (p ∷ ps) (c ∷ cs) z this = (z.0, push ps cs z.1 this)
