-- The rule on the names behind `end`, by what stands where.
use Rattle.std.proofs.Common.{◌≡◌, inl, inr, ℕ, Bool, true, false, not, ◌==◌, ◌&&◌, ◌||◌, List, [], ◌∷◌, ◌++◌, Result, Ok, Err, if◌then◌else◌, refl, sym, ap, subst, ◌∙◌, append_assoc}
use Rattle.std.specs.List.{list_any}
use Rattle.std.proofs.lemmas.Bool.{both_ways, or_cases, or_left, or_right, or_parts, or_from, and_parts, and_from, not_from_false, eqb-true, eq-eqb, not-true, true_from_ne_false}
use Rattle.std.proofs.lemmas.List.{append-nil}
use Rattle.ag_base.specs.declared.place.Refusal.{Refusal}
use Rattle.ag_base.specs.declared.place.Rule.TheVariants.{EndName, Twice, Unsupported}
use Rattle.ag_lex.specs.declared.token.Token.{Token}
use Rattle.ag_aadl.specs.declared.marked.Marked.{Marked}
use Rattle.ag_aadl.specs.declared.names.Names.{Names}
use Rattle.ag_aadl.specs.declared.names.Naming.{Naming}
use Rattle.ag_aadl.specs.declared.names.Naming.TheVariants as naming
use Rattle.ag_aadl.specs.declared.rules.Context.{Context}
use Rattle.ag_aadl.specs.Marked.{first_of}
use Rattle.ag_aadl.specs.Marks.{end_name_mark, close_mark}
use Rattle.ag_aadl.specs.Plainly.{from_last, having, is_in_name, name_at, name_behind, package_name, declared_name, end_name, EndsWrongly, IsFirstMisnamed}
use Rattle.ag_aadl.specs.Rules.{refused_at, same_names, is_head, is_end, package_after, end_after, names_after, is_misnamed, misnamed, obey_names, obey_sections, obey_timing, all_obeyed, obey, run, run_from, start, Obeys}
use Rattle.ag_aadl.specs.Unsupported.{delayed}
use Rattle.ag_aadl.proofs.Broken.{broken, breaks, front-obeys, all-ok, all-err, name-said, section-rule, timing-rule}

-- what is known of names behind some tokens
abbrev names-over : Names → List Marked → Names
names-over n [] = n
names-over n (m ∷ ms) = names-over (names_after n m) ms

names-push : (n : Names) (ms : List Marked) (m : Marked) → names-over n (ms ++ m ∷ []) ≡ names_after (names-over n ms) m
names-push n [] m = refl
names-push n (k ∷ ms) m = names-push (names_after n k) ms m

known : (n new : Names) (b : Bool) → (if b then Err (misnamed n) else Ok n) ≡ Ok new → (b ≡ false) × (new ≡ n)
known n new true e = absurd cc
known n new false e = let f : new ≡ n = cc in (refl, f)

names-further : (bytes : List ℕ) (c d : Context) (m : Marked) (ms : List Marked) (o : Result Context Refusal) → ((e : Context) → run bytes e ms ≡ Ok d → d.names ≡ names-over e.names ms) → obey bytes c m ≡ o → run_from bytes o ms ≡ Ok d → d.names ≡ names-over c.names (m ∷ ms)
names-further bytes c d m ms (Err r) rest o e = absurd cc
names-further bytes c d m ms (Ok next) rest o e =
    let n : obey_names bytes c.names m ≡ Ok next.names = (all-ok (obey_names bytes c.names m) (obey_sections c.sections m) (obey_timing bytes c.timing m) next o).0 in
    rest next e ∙ ap (λ q. names-over q ms) (known (names_after c.names m) next.names (is_misnamed bytes (names_after c.names m) m.mark) n).1

pub names-behind : (bytes : List ℕ) (c d : Context) (ms : List Marked) → run bytes c ms ≡ Ok d → d.names ≡ names-over c.names ms
names-behind bytes c d [] e = let f : c ≡ d = cc in ap (λ (q : Context). q.names) (sym f)
names-behind bytes c d (m ∷ ms) e = names-further bytes c d m ms (obey bytes c m) (λ n q. names-behind bytes n d ms q) refl e

-- what the marks exclude
item-declares : (k : ℕ) → (k == 5) ≡ true → (k == 6 || k == 7) ≡ false
item-declares k e = subst (λ j. (j == 6 || j == 7) ≡ false) (sym (eqb-true k 5 e)) refl

-- the names of the open declaration
declared-step : (m : Marked) (d : List Token) (h : List Token) (f ms : List Marked) (item says any : Bool) → (item ≡ true → says ≡ false) → (m.mark == 6 || m.mark == 7) ≡ says → having (λ k. k == 6 || k == 7) ms ≡ h →
    (if any then having (λ k. k == 6 || k == 7) f else (if item then [] else (if says then d ++ m.token ∷ [] else d)) ++ h)
    ≡ (if item || any then having (λ k. k == 6 || k == 7) (if any then f else m ∷ ms) else d ++ (if says then m.token ∷ h else h))
declared-step m d h f ms true says true apart e k = refl
declared-step m d h f ms false says true apart e k = refl
declared-step m d h f ms true says false apart e k =
    sym (ap (λ (b : Bool). if b then m.token ∷ having (λ k. k == 6 || k == 7) ms else having (λ k. k == 6 || k == 7) ms) (e ∙ apart refl) ∙ k)
declared-step m d h f ms false true false apart e k = append_assoc d (m.token ∷ []) h
declared-step m d h f ms false false false apart e k = refl

declared-over : (n : Names) (ms : List Marked) → (names-over n ms).declaration ≡ (if list_any (λ m. m.mark == 5) ms then having (λ k. k == 6 || k == 7) (from_last (λ k. k == 5) ms) else n.declaration ++ having (λ k. k == 6 || k == 7) ms)
declared-over n [] = sym (append-nil n.declaration)
declared-over n (m ∷ ms) =
    declared-over (names_after n m) ms
    ∙ declared-step m n.declaration (having (λ k. k == 6 || k == 7) ms) (from_last (λ k. k == 5) ms) ms (m.mark == 5) (m.mark == 6 || m.mark == 7) (list_any (λ j. j.mark == 5) ms) (item-declares m.mark) refl refl

-- where no mark passes the last that does is looked for in vain
from-none : (test : ℕ → Bool) (ms : List Marked) → list_any (λ m. test m.mark) ms ≡ false → from_last test ms ≡ ms
from-none test [] e = refl
from-none test (m ∷ ms) e = ap (λ (b : Bool). if b then from_last test ms else m ∷ ms) (or_parts (test m.mark) (list_any (λ n. test n.mark) ms) e).1

declared-is : (n : Names) (ms : List Marked) → n.declaration ≡ [] → (names-over n ms).declaration ≡ declared_name ms
declared-is n ms e = declared-over n ms ∙ either (list_any (λ m. m.mark == 5) ms) refl
  where
    either : (b : Bool) → list_any (λ m. m.mark == 5) ms ≡ b → (if b then having (λ k. k == 6 || k == 7) (from_last (λ k. k == 5) ms) else n.declaration ++ having (λ k. k == 6 || k == 7) ms) ≡ declared_name ms
    either true f = refl
    either false f = ap (λ q. q ++ having (λ k. k == 6 || k == 7) ms) e ∙ ap (having (λ k. k == 6 || k == 7)) (sym (from-none (λ k. k == 5) ms f))

-- what a package's name belongs to, by the last token
head-next : (n : Naming) (b e i : Bool) → (e ≡ true → i ≡ false) → is_head (if b then naming.Head else (if e then naming.End else (if i then n else naming.Nothing))) ≡ (if b then true else (if i then is_head n else false))
head-next n true e i apart = refl
head-next n false true i apart = ap (λ (q : Bool). if q then is_head n else false) (sym (apart refl))
head-next n false false true apart = refl
head-next n false false false apart = refl

end-next : (n : Naming) (b e i : Bool) → (b ≡ true → e ≡ false) → (b ≡ true → i ≡ false) → is_end (if b then naming.Head else (if e then naming.End else (if i then n else naming.Nothing))) ≡ (if e then true else (if i then is_end n else false))
end-next n true e i apart off = sym (ap (λ (q : Bool). if q then true else (if i then is_end n else false)) (apart refl) ∙ ap (λ (q : Bool). if q then is_end n else false) (off refl))
end-next n false true i apart off = refl
end-next n false false true apart off = refl
end-next n false false false apart off = refl

at-mark : (test : ℕ → Bool) (j : ℕ) → test j ≡ false → (k : ℕ) → (k == j) ≡ true → test k ≡ false
at-mark test j e k h = subst (λ i. test i ≡ false) (sym (eqb-true k j h)) e

in-name : (k : ℕ) → (k == 2) ≡ true → is_in_name k ≡ true
in-name k h = subst (λ i. is_in_name i ≡ true) (sym (eqb-true k 2 h)) refl

-- the name of the open package
package-step : (m : Marked) (p h : List Token) (f ms : List Marked) (begins part inner head any : Bool) → (begins ≡ true → part ≡ false) → (part ≡ true → inner ≡ true) → (m.mark == 1) ≡ begins → name_at ms ≡ h →
    (if any then name_behind 1 f else (if (if begins then true else (if inner then head else false)) then (if begins then [] else (if part && head then p ++ m.token ∷ [] else p)) ++ h else (if begins then [] else (if part && head then p ++ m.token ∷ [] else p))))
    ≡ (if begins || any then name_behind 1 (if any then f else m ∷ ms) else (if head then p ++ (if part then m.token ∷ h else (if inner then h else [])) else p))
package-step m p h f ms true part inner head true apart within e k = refl
package-step m p h f ms false part inner head true apart within e k = refl
package-step m p h f ms true part inner head false apart within e k = sym (ap (λ (b : Bool). if b then name_at ms else []) e ∙ k)
package-step m p h f ms false true true true false apart within e k = append_assoc p (m.token ∷ []) h
package-step m p h f ms false true true false false apart within e k = refl
package-step m p h f ms false true false head false apart within e k = absurd (both_ways false refl (within refl))
package-step m p h f ms false false true true false apart within e k = refl
package-step m p h f ms false false true false false apart within e k = refl
package-step m p h f ms false false false true false apart within e k = sym (append-nil p)
package-step m p h f ms false false false false false apart within e k = refl

package-over : (n : Names) (ms : List Marked) → (names-over n ms).package_name ≡ (if list_any (λ m. m.mark == 1) ms then name_behind 1 (from_last (λ k. k == 1) ms) else (if is_head n.naming then n.package_name ++ name_at ms else n.package_name))
package-over n [] = nothing (is_head n.naming)
  where
    nothing : (b : Bool) → n.package_name ≡ (if b then n.package_name ++ [] else n.package_name)
    nothing true = sym (append-nil n.package_name)
    nothing false = refl
package-over n (m ∷ ms) =
    let any = list_any (λ j. j.mark == 1) ms in
    let from = name_behind 1 (from_last (λ k. k == 1) ms) in
    let new = package_after n m in
    package-over (names_after n m) ms
    ∙ ap (λ (b : Bool). if any then from else (if b then new ++ name_at ms else new)) (head-next n.naming (m.mark == 1) (m.mark == 20) (is_in_name m.mark) (at-mark is_in_name 20 refl m.mark))
    ∙ package-step m n.package_name (name_at ms) (from_last (λ k. k == 1) ms) ms (m.mark == 1) (m.mark == 2) (is_in_name m.mark) (is_head n.naming) any (at-mark (λ k. k == 2) 1 refl m.mark) (in-name m.mark) refl refl

-- no name stands behind a token that isn't there
behind-none : (mark : ℕ) (ms : List Marked) → list_any (λ m. m.mark == mark) ms ≡ false → name_behind mark ms ≡ []
behind-none mark [] e = refl
behind-none mark (m ∷ ms) e = ap (λ (b : Bool). if b then name_at ms else []) (or_parts (m.mark == mark) (list_any (λ n. n.mark == mark) ms) e).0

package-is : (ms : List Marked) → (names-over start.names ms).package_name ≡ package_name ms
package-is ms = package-over start.names ms ∙ either (list_any (λ m. m.mark == 1) ms) refl
  where
    either : (b : Bool) → list_any (λ m. m.mark == 1) ms ≡ b → (if b then name_behind 1 (from_last (λ k. k == 1) ms) else []) ≡ package_name ms
    either true f = refl
    either false f = sym (ap (name_behind 1) (from-none (λ k. k == 1) ms f) ∙ behind-none 1 ms f)

-- the name behind the last `end`
abbrev is-last : ℕ → Bool
is-last k = k == 21 || k == 22

abbrev whole : List Marked → List Token
whole ms = name_behind 20 ms ++ having is-last ms

end-here : (m : Marked) (ms : List Marked) (ends inner on : Bool) → (m.mark == 20) ≡ ends → is-last m.mark ≡ false → (ends ≡ false → inner ≡ false) →
    (if (if ends then true else (if inner then on else false)) then name_at ms else []) ++ having is-last ms ≡ whole (m ∷ ms)
end-here m ms true inner on e g off =
    ap (λ (b : Bool). (if b then name_at ms else []) ++ having is-last ms) (sym e) ∙ ap (λ (b : Bool). name_behind 20 (m ∷ ms) ++ (if b then m.token ∷ having is-last ms else having is-last ms)) (sym g)
end-here m ms false true on e g off = absurd (both_ways true (off refl) refl)
end-here m ms false false on e g off =
    ap (λ (b : Bool). (if b then name_at ms else []) ++ having is-last ms) (sym e) ∙ ap (λ (b : Bool). name_behind 20 (m ∷ ms) ++ (if b then m.token ∷ having is-last ms else having is-last ms)) (sym g)

nothing-on : (on : Bool) (x : List Token) → (if on then [] else []) ++ x ≡ x
nothing-on true x = refl
nothing-on false x = refl

end-further : (m : Marked) (p h g : List Token) (owner last part inner on : Bool) → (part ≡ true → inner ≡ true) → ((owner || last) ≡ true → inner ≡ false) →
    (if owner || (last || (part && on)) then p ++ m.token ∷ [] else p) ++ ((if (if inner then on else false) then h else []) ++ g)
    ≡ p ++ ((if on then (if part then m.token ∷ h else (if inner then h else [])) else []) ++ (if owner || last then m.token ∷ g else g))
end-further m p h g true last part true on within off = absurd (both_ways true (off refl) refl)
end-further m p h g true last true false on within off = absurd (both_ways false refl (within refl))
end-further m p h g true last false false on within off = append_assoc p (m.token ∷ []) g ∙ ap (λ q. p ++ q) (sym (nothing-on on (m.token ∷ g)))
end-further m p h g false true part true on within off = absurd (both_ways true (off refl) refl)
end-further m p h g false true true false on within off = absurd (both_ways false refl (within refl))
end-further m p h g false true false false on within off = append_assoc p (m.token ∷ []) g ∙ ap (λ q. p ++ q) (sym (nothing-on on (m.token ∷ g)))
end-further m p h g false false true true true within off = append_assoc p (m.token ∷ []) (h ++ g)
end-further m p h g false false true true false within off = refl
end-further m p h g false false true false on within off = absurd (both_ways false refl (within refl))
end-further m p h g false false false true true within off = refl
end-further m p h g false false false true false within off = refl
end-further m p h g false false false false on within off = ap (λ q. p ++ q) (sym (nothing-on on g))

end-step : (m : Marked) (p : List Token) (f ms : List Marked) (item ends on any : Bool) → (m.mark == 5) ≡ item → (m.mark == 20) ≡ ends →
    (if any then whole f else (if item || ends then [] else (if m.mark == 21 || (m.mark == 22 || (m.mark == 2 && on)) then p ++ m.token ∷ [] else p)) ++ ((if (if ends then true else (if is_in_name m.mark then on else false)) then name_at ms else []) ++ having is-last ms))
    ≡ (if (item || ends) || any then whole (if any then f else m ∷ ms) else p ++ ((if on then name_at (m ∷ ms) else []) ++ having is-last (m ∷ ms)))
end-step m p f ms true ends on true e k = refl
end-step m p f ms false true on true e k = refl
end-step m p f ms false false on true e k = refl
end-step m p f ms true ends on false e k = end-here m ms ends (is_in_name m.mark) on k (at-mark is-last 5 refl m.mark e) (λ x. at-mark is_in_name 5 refl m.mark e)
end-step m p f ms false true on false e k = end-here m ms true (is_in_name m.mark) on k (at-mark is-last 20 refl m.mark k) (λ x. at-mark is_in_name 20 refl m.mark k)
end-step m p f ms false false on false e k = end-further m p (name_at ms) (having is-last ms) (m.mark == 21) (m.mark == 22) (m.mark == 2) (is_in_name m.mark) on (in-name m.mark) (outside m.mark)
  where
    outside : (j : ℕ) → (j == 21 || j == 22) ≡ true → is_in_name j ≡ false
    outside j h =
        elim (or_cases (j == 21) (j == 22) h) [
          | inl x ↦ at-mark is_in_name 21 refl j x
          | inr x ↦ at-mark is_in_name 22 refl j x
        ]

end-over : (n : Names) (ms : List Marked) → (names-over n ms).end ≡ (if list_any (λ m. m.mark == 5 || m.mark == 20) ms then whole (from_last (λ k. k == 5 || k == 20) ms) else n.end ++ ((if is_end n.naming then name_at ms else []) ++ having is-last ms))
end-over n [] = nothing (is_end n.naming)
  where
    nothing : (b : Bool) → n.end ≡ n.end ++ ((if b then [] else []) ++ [])
    nothing true = sym (append-nil n.end)
    nothing false = sym (append-nil n.end)
end-over n (m ∷ ms) =
    let any = list_any (λ j. j.mark == 5 || j.mark == 20) ms in
    let from = from_last (λ k. k == 5 || k == 20) ms in
    let new = end_after n m in
    end-over (names_after n m) ms
    ∙ ap (λ (b : Bool). if any then whole from else new ++ ((if b then name_at ms else []) ++ having is-last ms))
    (end-next n.naming (m.mark == 1) (m.mark == 20) (is_in_name m.mark) (at-mark (λ k. k == 20) 1 refl m.mark) (at-mark is_in_name 1 refl m.mark))
    ∙ end-step m n.end from ms (m.mark == 5) (m.mark == 20) (is_end n.naming) any refl refl

no-end : (ms : List Marked) → list_any (λ m. m.mark == 5 || m.mark == 20) ms ≡ false → list_any (λ m. m.mark == 20) ms ≡ false
no-end [] e = refl
no-end (m ∷ ms) e =
    let p = or_parts (m.mark == 5 || m.mark == 20) (list_any (λ m. m.mark == 5 || m.mark == 20) ms) e in
    or_from (m.mark == 20) (list_any (λ m. m.mark == 20) ms) (or_parts (m.mark == 5) (m.mark == 20) p.0).1 (no-end ms p.1)

end-is : (ms : List Marked) → (names-over start.names ms).end ≡ end_name ms
end-is ms = end-over start.names ms ∙ either (list_any (λ m. m.mark == 5 || m.mark == 20) ms) refl
  where
    either : (b : Bool) → list_any (λ m. m.mark == 5 || m.mark == 20) ms ≡ b → (if b then whole (from_last (λ k. k == 5 || k == 20) ms) else having is-last ms) ≡ end_name ms
    either true f = refl
    either false f = ap (λ q. q ++ having is-last ms) (sym (behind-none 20 ms (no-end ms f))) ∙ ap whole (sym (from-none (λ k. k == 5 || k == 20) ms f))

-- so this is compared at a token behind some that break no rule
new-is : (bytes : List ℕ) (c : Context) (front : List Marked) (m : Marked) → run bytes start front ≡ Ok c → names_after c.names m ≡ names-over start.names (front ++ m ∷ [])
new-is bytes c front m e = ap (λ n. names_after n m) (names-behind bytes start c front e) ∙ sym (names-push start.names front m)

compared : List ℕ → List Marked → ℕ → Bool
compared bytes ms mark =
    (mark == end_name_mark && not (same_names bytes (declared_name ms) (end_name ms)))
    || (mark == close_mark && not (same_names bytes (package_name ms) (end_name ms)))

compared-is : (bytes : List ℕ) (c : Context) (front : List Marked) (m : Marked) → run bytes start front ≡ Ok c → is_misnamed bytes (names_after c.names m) m.mark ≡ compared bytes (front ++ m ∷ []) m.mark
unfolding compared
compared-is bytes c front m e =
    let ms = front ++ m ∷ [] in
    let n = names-over start.names ms in
    ap (λ q. is_misnamed bytes q m.mark) (new-is bytes c front m e)
    ∙ ap (λ q. (m.mark == end_name_mark && not (same_names bytes q n.end)) || (m.mark == close_mark && not (same_names bytes n.package_name n.end))) (declared-is start.names ms refl)
    ∙ ap (λ q. (m.mark == end_name_mark && not (same_names bytes (declared_name ms) n.end)) || (m.mark == close_mark && not (same_names bytes q n.end))) (package-is ms)
    ∙ ap (λ q. (m.mark == end_name_mark && not (same_names bytes (declared_name ms) q)) || (m.mark == close_mark && not (same_names bytes (package_name ms) q))) (end-is ms)

wrong-then : (bytes : List ℕ) (ms : List Marked) (m : Marked) → compared bytes ms m.mark ≡ true → EndsWrongly bytes ms m
unfolding compared
wrong-then bytes ms m h =
    let a = same_names bytes (declared_name ms) (end_name ms) in
    let b = same_names bytes (package_name ms) (end_name ms) in
    elim (or_cases (m.mark == end_name_mark && not a) (m.mark == close_mark && not b) h) [
      | inl x ↦ let p = and_parts (m.mark == end_name_mark) (not a) x in inl (eqb-true m.mark end_name_mark p.0, not-true a p.1)
      | inr x ↦ let p = and_parts (m.mark == close_mark) (not b) x in inr (eqb-true m.mark close_mark p.0, not-true b p.1)
    ]

then-wrong : (bytes : List ℕ) (ms : List Marked) (m : Marked) → EndsWrongly bytes ms m → compared bytes ms m.mark ≡ true
unfolding compared
then-wrong bytes ms m (inl (is, e)) =
    let a = same_names bytes (declared_name ms) (end_name ms) in
    let b = same_names bytes (package_name ms) (end_name ms) in
    or_left (m.mark == end_name_mark && not a) (m.mark == close_mark && not b) (and_from (m.mark == end_name_mark) (not a) (eq-eqb m.mark end_name_mark is) (not_from_false a e))
then-wrong bytes ms m (inr (is, e)) =
    let a = same_names bytes (declared_name ms) (end_name ms) in
    let b = same_names bytes (package_name ms) (end_name ms) in
    or_right (m.mark == end_name_mark && not a) (m.mark == close_mark && not b) (and_from (m.mark == close_mark) (not b) (eq-eqb m.mark close_mark is) (not_from_false b e))

told-is : (bytes : List ℕ) (c : Context) (front : List Marked) (m : Marked) → run bytes start front ≡ Ok c → misnamed (names_after c.names m) ≡ refused_at EndName (first_of (end_name (front ++ m ∷ [])))
told-is bytes c front m e = ap misnamed (new-is bytes c front m e) ∙ ap (λ q. refused_at EndName (first_of q)) (end-is (front ++ m ∷ []))

pub first-misnamed : (bytes : List ℕ) (ms : List Marked) (r : Refusal) → run bytes start ms ≡ Err r → r.rule ≡ EndName → IsFirstMisnamed bytes ms r
first-misnamed bytes ms r e rule =
    let b = broken bytes start ms r e in
    elim (all-err (obey_names bytes b.last.names b.at) (obey_sections b.last.sections b.at) (obey_timing bytes b.last.timing b.at) r b.broken) [
      | inl h ↦
          let s = name-said bytes b.last.names b.at r h in
          record {
            front = b.front;
            last = b.at;
            behind = b.behind;
            parts = b.parts;
            obeyed = (b.last, b.obeyed);
            wrong = wrong-then bytes (b.front ++ b.at ∷ []) b.at (sym (compared-is bytes b.last b.front b.at b.obeyed) ∙ s.0);
            told = s.1 ∙ told-is bytes b.last b.front b.at b.obeyed;
          }
      | inr h ↦ elim h [
        | inl k ↦ let f : Twice ≡ EndName = sym (section-rule b.last.sections b.at r k) ∙ rule in absurd cc
        | inr k ↦ let f : Unsupported (record { number = delayed }) ≡ EndName = sym (timing-rule bytes b.last.timing b.at r k) ∙ rule in absurd cc
      ]
    ]

pub misnamed-refused : (bytes : List ℕ) (ms : List Marked) (r : Refusal) → IsFirstMisnamed bytes ms r → run bytes start ms ≡ Err r
misnamed-refused bytes ms r h =
    let c = h.obeyed.0 in
    let m = h.last in
    let new = names_after c.names m in
    let wrong : is_misnamed bytes new m.mark ≡ true = compared-is bytes c h.front m h.obeyed.1 ∙ then-wrong bytes (h.front ++ m ∷ []) m h.wrong in
    let names : obey_names bytes c.names m ≡ Err (misnamed new) = ap (λ (b : Bool). if b then Err (misnamed new) else Ok new) wrong in
    let refused : obey bytes c m ≡ Err (misnamed new) = ap (λ n. all_obeyed n (obey_sections c.sections m) (obey_timing bytes c.timing m)) names in
    ap (run bytes start) h.parts
    ∙ breaks bytes start c h.front m h.behind (misnamed new) h.obeyed.1 refused
    ∙ ap (λ x. Err x) (told-is bytes c h.front m h.obeyed.1 ∙ sym h.told)

-- where no rule is broken no name is wrong
not-wrong : (bytes : List ℕ) (front behind : List Marked) (m : Marked) → Obeys bytes (front ++ m ∷ behind) → EndsWrongly bytes (front ++ m ∷ []) m → ⊥
not-wrong bytes front behind m o wrong =
    let r = refused_at EndName (first_of (end_name (front ++ m ∷ []))) in
    let h : IsFirstMisnamed bytes (front ++ m ∷ behind) r =
    record { front = front; last = m; behind = behind; parts = refl; obeyed = front-obeys bytes start o.0 front (m ∷ behind) o.1; wrong = wrong; told = refl } in
    let f : Err r ≡ Ok o.0 = sym (misnamed-refused bytes (front ++ m ∷ behind) r h) ∙ o.1 in
    absurd cc

pub declarations-named : (bytes : List ℕ) (front behind : List Marked) (last : Marked) → Obeys bytes (front ++ last ∷ behind) → last.mark ≡ end_name_mark → same_names bytes (declared_name (front ++ last ∷ [])) (end_name (front ++ last ∷ [])) ≡ true
declarations-named bytes front behind last o is = true_from_ne_false (same_names bytes (declared_name (front ++ last ∷ [])) (end_name (front ++ last ∷ []))) (λ e. not-wrong bytes front behind last o (inl (is, e)))

pub packages-named : (bytes : List ℕ) (front behind : List Marked) (last : Marked) → Obeys bytes (front ++ last ∷ behind) → last.mark ≡ close_mark → same_names bytes (package_name (front ++ last ∷ [])) (end_name (front ++ last ∷ [])) ≡ true
packages-named bytes front behind last o is = true_from_ne_false (same_names bytes (package_name (front ++ last ∷ [])) (end_name (front ++ last ∷ []))) (λ e. not-wrong bytes front behind last o (inr (is, e)))
