-- The names behind `end`, where a declaration or a package is written out.
use Rattle.std.proofs.Common.{◌≡◌, ℕ, Bool, true, false, ◌==◌, ◌||◌, List, [], ◌∷◌, ◌++◌, if◌then◌else◌, refl, sym, ap, subst, ◌∙◌, append_assoc, inl, inr}
use Rattle.std.specs.List.{list_any, list_all}
use Rattle.std.proofs.lemmas.Bool.{or_cases, or_right, or_parts, or_from, and_parts, eqb-true}
use Rattle.std.proofs.lemmas.List.{append-nil}
use Rattle.std.proofs.lemmas.List.Folds.{list_any-append}
use Rattle.ag_lex.specs.declared.token.Token.{Token}
use Rattle.ag_aadl.specs.declared.marked.Marked.{Marked}
use Rattle.ag_aadl.specs.Marked.{has_mark}
use Rattle.ag_aadl.specs.Marks.{package_mark, item_mark, end_mark, end_name_mark, close_mark}
use Rattle.ag_aadl.specs.Plainly.{from_last, having, is_in_name, name_at, name_behind, is_declared, is_ending, package_name, declared_name, end_name}
use Rattle.ag_aadl.specs.Rules.{same_names, run, start, Obeys}
use Rattle.ag_aadl.proofs.Ends.{declarations-named, packages-named}

-- the last token that passes, where one does and none behind it
from-at : (test : ℕ → Bool) (before : List Marked) (m : Marked) (rest : List Marked) → test m.mark ≡ true → list_any (λ n. test n.mark) rest ≡ false → from_last test (before ++ m ∷ rest) ≡ m ∷ rest
from-at test [] m rest is none = ap (λ (b : Bool). if b then from_last test rest else m ∷ rest) none
from-at test (k ∷ before) m rest is none =
    let some : list_any (λ n. test n.mark) (before ++ m ∷ rest) ≡ true =
    list_any-append (λ (n : Marked). test n.mark) before (m ∷ rest) ∙ or_right (list_any (λ n. test n.mark) before) (list_any (λ n. test n.mark) (m ∷ rest)) (ap (λ b. b || list_any (λ n. test n.mark) rest) is) in
    ap (λ (b : Bool). if b then from_last test (before ++ m ∷ rest) else k ∷ (before ++ m ∷ rest)) some ∙ from-at test before m rest is none

having-append : (test : ℕ → Bool) (a b : List Marked) → having test (a ++ b) ≡ having test a ++ having test b
having-append test [] b = refl
having-append test (m ∷ a) b = either (test m.mark) (having test (a ++ b)) (having-append test a b)
  where
    either : (c : Bool) (q : List Token) → q ≡ having test a ++ having test b → (if c then m.token ∷ q else q) ≡ (if c then m.token ∷ having test a else having test a) ++ having test b
    either true q e = ap (λ x. m.token ∷ x) e
    either false q e = e

having-one : (test : ℕ → Bool) (m : Marked) (ms : List Marked) (b : Bool) → test m.mark ≡ b → having test (m ∷ ms) ≡ (if b then m.token ∷ having test ms else having test ms)
having-one test m ms b e = ap (λ (c : Bool). if c then m.token ∷ having test ms else having test ms) e

having-none : (test : ℕ → Bool) (ms : List Marked) → list_any (λ m. test m.mark) ms ≡ false → having test ms ≡ []
having-none test [] e = refl
having-none test (m ∷ ms) e = let p = or_parts (test m.mark) (list_any (λ n. test n.mark) ms) e in having-one test m ms false p.0 ∙ having-none test ms p.1

-- a test at a mark that is known
at : (test : ℕ → Bool) (b : Bool) (j k : ℕ) → k ≡ j → test j ≡ b → test k ≡ b
at test b j k e h = subst (λ i. test i ≡ b) (sym e) h

neither : (ms : List Marked) → has_mark item_mark ms ≡ false → has_mark end_mark ms ≡ false → list_any (λ m. m.mark == 5 || m.mark == 20) ms ≡ false
neither [] a b = refl
neither (m ∷ ms) a b =
    let p = or_parts (m.mark == 5) (has_mark item_mark ms) a in
    let q = or_parts (m.mark == 20) (has_mark end_mark ms) b in
    or_from (m.mark == 5 || m.mark == 20) (list_any (λ m. m.mark == 5 || m.mark == 20) ms) (or_from (m.mark == 5) (m.mark == 20) p.0 q.0) (neither ms p.1 q.1)

none-more : (test : ℕ → Bool) (ms : List Marked) (m : Marked) → list_any (λ n. test n.mark) ms ≡ false → test m.mark ≡ false → list_any (λ n. test n.mark) (ms ++ m ∷ []) ≡ false
none-more test ms m e h = list_any-append (λ (n : Marked). test n.mark) ms (m ∷ []) ∙ or_from (list_any (λ n. test n.mark) ms) (list_any (λ n. test n.mark) (m ∷ [])) e (or_from (test m.mark) false h refl)

pub declaration-parts : (bytes : List ℕ) (before inner behind : List Marked) (word last : Marked) → Obeys bytes (before ++ word ∷ (inner ++ last ∷ behind)) → word.mark ≡ item_mark → last.mark ≡ end_name_mark → has_mark item_mark inner ≡ false → has_mark end_mark inner ≡ false →
    same_names bytes (having is_declared inner) (having is_ending inner ++ last.token ∷ []) ≡ true
declaration-parts bytes before inner behind word last o begins closes items ends =
    let front = before ++ word ∷ inner in
    let whole : Obeys bytes (front ++ last ∷ behind) = (o.0, ap (run bytes start) (append_assoc before (word ∷ inner) (last ∷ behind)) ∙ o.1) in
    let rest = inner ++ last ∷ [] in
    let ms : front ++ last ∷ [] ≡ before ++ word ∷ rest = append_assoc before (word ∷ inner) (last ∷ []) in
    let declared : declared_name (front ++ last ∷ []) ≡ having is_declared inner =
    ap declared_name ms
    ∙ ap (having is_declared) (from-at (λ k. k == 5) before word rest (at (λ k. k == 5) true 5 word.mark begins refl) (none-more (λ k. k == 5) inner last items (at (λ k. k == 5) false 22 last.mark closes refl)))
    ∙ having-one is_declared word rest false (at is_declared false 5 word.mark begins refl)
    ∙ having-append is_declared inner (last ∷ [])
    ∙ ap (λ q. having is_declared inner ++ q) (having-one is_declared last [] false (at is_declared false 22 last.mark closes refl))
    ∙ append-nil (having is_declared inner) in
    let ended : end_name (front ++ last ∷ []) ≡ having is_ending inner ++ last.token ∷ [] =
    ap end_name ms
    ∙ ap (λ q. name_behind end_mark q ++ having is_ending q)
    (from-at (λ k. k == 5 || k == 20) before word rest (at (λ k. k == 5 || k == 20) true 5 word.mark begins refl) (none-more (λ k. k == 5 || k == 20) inner last (neither inner items ends) (at (λ k. k == 5 || k == 20) false 22 last.mark closes refl)))
    ∙ ap (λ (b : Bool). (if b then name_at rest else []) ++ having is_ending (word ∷ rest)) (at (λ k. k == 20) false 5 word.mark begins refl)
    ∙ having-one is_ending word rest false (at is_ending false 5 word.mark begins refl)
    ∙ having-append is_ending inner (last ∷ [])
    ∙ ap (λ q. having is_ending inner ++ q) (having-one is_ending last [] true (at is_ending true 22 last.mark closes refl)) in
    ap (λ q. same_names bytes q (having is_ending inner ++ last.token ∷ [])) (sym declared) ∙ ap (same_names bytes (declared_name (front ++ last ∷ []))) (sym ended) ∙ declarations-named bytes front behind last whole closes

-- a name ends at a mark that stands in none
name-ends : (ms : List Marked) (m : Marked) (rest : List Marked) → (m.mark == 2) ≡ false → is_in_name m.mark ≡ false → name_at (ms ++ m ∷ rest) ≡ name_at ms
name-ends [] m rest part out = ap (λ (b : Bool). if b then m.token ∷ name_at rest else (if is_in_name m.mark then name_at rest else [])) part ∙ ap (λ (b : Bool). if b then name_at rest else []) out
name-ends (k ∷ ms) m rest part out = ap (λ q. if k.mark == 2 then k.token ∷ q else (if is_in_name k.mark then q else [])) (name-ends ms m rest part out)

-- what fails at each mark of a name fails throughout it
throughout : (test : ℕ → Bool) → test 0 ≡ false → test 2 ≡ false → test 3 ≡ false → (ms : List Marked) → list_all (λ m. is_in_name m.mark) ms ≡ true → list_any (λ m. test m.mark) ms ≡ false
throughout test a b c [] h = refl
throughout test a b c (m ∷ ms) h =
    let p = and_parts (is_in_name m.mark) (list_all (λ n. is_in_name n.mark) ms) h in
    let here : test m.mark ≡ false =
    elim (or_cases (m.mark == 0) (m.mark == 2 || m.mark == 3) p.0) [
      | inl x ↦ at test false 0 m.mark (eqb-true m.mark 0 x) a
      | inr x ↦ elim (or_cases (m.mark == 2) (m.mark == 3) x) [
        | inl y ↦ at test false 2 m.mark (eqb-true m.mark 2 y) b
        | inr y ↦ at test false 3 m.mark (eqb-true m.mark 3 y) c
      ]
    ] in
    or_from (test m.mark) (list_any (λ n. test n.mark) ms) here (throughout test a b c ms p.1)

pub package-parts : (bytes : List ℕ) (before inner tail behind : List Marked) (word ends last : Marked) → Obeys bytes (before ++ word ∷ (inner ++ ends ∷ (tail ++ last ∷ behind))) → word.mark ≡ package_mark → ends.mark ≡ end_mark → last.mark ≡ close_mark →
    has_mark package_mark inner ≡ false → list_all (λ m. is_in_name m.mark) tail ≡ true → same_names bytes (name_at inner) (name_at tail) ≡ true
package-parts bytes before inner tail behind word ends last o begins ending closes packages named =
    let front = before ++ word ∷ (inner ++ ends ∷ tail) in
    let regroup : (more : List Marked) → front ++ last ∷ more ≡ before ++ word ∷ (inner ++ ends ∷ (tail ++ last ∷ more)) =
    λ more. append_assoc before (word ∷ (inner ++ ends ∷ tail)) (last ∷ more) ∙ ap (λ q. before ++ word ∷ q) (append_assoc inner (ends ∷ tail) (last ∷ more)) in
    let whole : Obeys bytes (front ++ last ∷ behind) = (o.0, ap (run bytes start) (regroup behind) ∙ o.1) in
    let close = tail ++ last ∷ [] in
    let rest = inner ++ ends ∷ close in
    let none : list_any (λ m. m.mark == 1) rest ≡ false =
    list_any-append (λ (m : Marked). m.mark == 1) inner (ends ∷ close)
    ∙ or_from (has_mark package_mark inner) (has_mark package_mark (ends ∷ close)) packages
    (or_from (ends.mark == 1) (has_mark package_mark close) (at (λ k. k == 1) false 20 ends.mark ending refl) (none-more (λ k. k == 1) tail last (throughout (λ k. k == 1) refl refl refl tail named) (at (λ k. k == 1) false 23 last.mark closes refl))) in
    let name : package_name (front ++ last ∷ []) ≡ name_at inner =
    ap package_name (regroup [])
    ∙ ap (name_behind package_mark) (from-at (λ k. k == 1) before word rest (at (λ k. k == 1) true 1 word.mark begins refl) none)
    ∙ ap (λ (b : Bool). if b then name_at rest else []) (at (λ k. k == 1) true 1 word.mark begins refl)
    ∙ name-ends inner ends close (at (λ k. k == 2) false 20 ends.mark ending refl) (at is_in_name false 20 ends.mark ending refl) in
    let border : ℕ → Bool = λ k. k == 5 || k == 20 in
    let open-end : front ++ last ∷ [] ≡ (before ++ word ∷ inner) ++ ends ∷ close = regroup [] ∙ sym (append_assoc before (word ∷ inner) (ends ∷ close)) in
    let ended : end_name (front ++ last ∷ []) ≡ name_at tail =
    ap end_name open-end
    ∙ ap (λ q. name_behind end_mark q ++ having is_ending q)
    (from-at (λ k. k == 5 || k == 20) (before ++ word ∷ inner) ends close (at (λ k. k == 5 || k == 20) true 20 ends.mark ending refl)
    (none-more (λ k. k == 5 || k == 20) tail last (throughout (λ k. k == 5 || k == 20) refl refl refl tail named) (at (λ k. k == 5 || k == 20) false 23 last.mark closes refl)))
    ∙ ap (λ (b : Bool). (if b then name_at close else []) ++ having is_ending (ends ∷ close)) (at (λ k. k == 20) true 20 ends.mark ending refl)
    ∙ ap (λ q. name_at close ++ q)
    (having-one is_ending ends close false (at is_ending false 20 ends.mark ending refl) ∙ having-none is_ending close (none-more is_ending tail last (throughout is_ending refl refl refl tail named) (at is_ending false 23 last.mark closes refl)))
    ∙ append-nil (name_at close)
    ∙ name-ends tail last [] (at (λ k. k == 2) false 23 last.mark closes refl) (at is_in_name false 23 last.mark closes refl) in
    ap (λ q. same_names bytes q (name_at tail)) (sym name) ∙ ap (same_names bytes (package_name (front ++ last ∷ []))) (sym ended) ∙ packages-named bytes front behind last whole closes
