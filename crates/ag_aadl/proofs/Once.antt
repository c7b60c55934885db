-- The rule on sections, by what stands where.
use Rattle.std.proofs.Common.{◌≡◌, ◌⊎◌, inl, inr, ℕ, Bool, true, false, ◌==◌, ◌||◌, List, [], ◌∷◌, ◌++◌, Result, Ok, Err, if◌then◌else◌, refl, sym, ap, subst, ◌∙◌, append_assoc}
use Rattle.std.specs.List.{list_any}
use Rattle.std.proofs.lemmas.Bool.{both_ways, or_cases, or_right, or_parts, or_from, eqb-true, eq-eqb, true_from_ne_false}
use Rattle.ag_base.specs.declared.place.Refusal.{Refusal}
use Rattle.ag_base.specs.declared.place.Rule.TheVariants.{EndName, Twice, Unsupported}
use Rattle.ag_aadl.specs.declared.marked.Marked.{Marked}
use Rattle.ag_aadl.specs.declared.names.Names.{Names}
use Rattle.ag_aadl.specs.declared.rules.Context.{Context}
use Rattle.ag_aadl.specs.Plainly.{is_border, has_border, HasBegun, IsFirstTwice}
use Rattle.ag_aadl.specs.Rules.{refused_at, is_misnamed, misnamed, names_after, obey_names, is_section, obey_sections, obey_timing, all_obeyed, obey, run, run_from, start, Obeys}
use Rattle.ag_aadl.specs.Unsupported.{delayed}
use Rattle.ag_aadl.proofs.Broken.{Broken, broken, breaks, front-obeys, all-ok, all-err, section-said, name-rule, timing-rule}

-- what holds at each section's mark holds where a section begins
pub at-section : (P : ℕ → Type 0) → P 24 → P 25 → P 26 → P 27 → P 28 → (k : ℕ) → is_section k ≡ true → P k
at-section P a b c d e k h =
    elim (or_cases (k == 24) (k == 25 || (k == 26 || (k == 27 || k == 28))) h) [
      | inl x ↦ subst P (sym (eqb-true k 24 x)) a
      | inr x ↦ elim (or_cases (k == 25) (k == 26 || (k == 27 || k == 28)) x) [
        | inl y ↦ subst P (sym (eqb-true k 25 y)) b
        | inr y ↦ elim (or_cases (k == 26) (k == 27 || k == 28) y) [
          | inl z ↦ subst P (sym (eqb-true k 26 z)) c
          | inr z ↦ elim (or_cases (k == 27) (k == 28) z) [
            | inl w ↦ subst P (sym (eqb-true k 27 w)) d
            | inr w ↦ subst P (sym (eqb-true k 28 w)) e
          ]
        ]
      ]
    ]

no-border : (k : ℕ) → is_section k ≡ true → is_border k ≡ false
no-border = at-section (λ k. is_border k ≡ false) refl refl refl refl refl

no-name : (bytes : List ℕ) (n : Names) (k : ℕ) → is_section k ≡ true → is_misnamed bytes n k ≡ false
no-name bytes n = at-section (λ k. is_misnamed bytes n k ≡ false) refl refl refl refl refl

-- whether a section of this mark has begun in the open declaration, behind one token and behind some
abbrev has-next : ℕ → Bool → ℕ → Bool
has-next mark b k = if is_section k then b || k == mark else (if is_border k then false else b)

abbrev has-begun : ℕ → Bool → List Marked → Bool
has-begun mark b [] = b
has-begun mark b (m ∷ ms) = has-begun mark (has-next mark b m.mark) ms

any-push : (mark : ℕ) (ks : List ℕ) (j : ℕ) → list_any (λ k. k == mark) (ks ++ j ∷ []) ≡ (list_any (λ k. k == mark) ks || j == mark)
any-push mark [] j = or-nothing (j == mark)
  where
    or-nothing : (b : Bool) → (b || false) ≡ b
    or-nothing true = refl
    or-nothing false = refl
any-push mark (k ∷ ks) j = push (k == mark) (list_any (λ i. i == mark) (ks ++ j ∷ [])) (list_any (λ i. i == mark) ks) (j == mark) (any-push mark ks j)
  where
    push : (a b c d : Bool) → b ≡ (c || d) → (a || b) ≡ ((a || c) || d)
    push true b c d e = refl
    push false b c d e = e

seen-next : (mark : ℕ) (seen s : List ℕ) (m : Marked) (section twice border : Bool) →
    (if section then (if twice then Err (refused_at Twice m.token) else Ok (seen ++ m.mark ∷ [])) else (if border then Ok [] else Ok seen)) ≡ Ok s →
    list_any (λ k. k == mark) s ≡ (if section then list_any (λ k. k == mark) seen || m.mark == mark else (if border then false else list_any (λ k. k == mark) seen))
seen-next mark seen s m true true border e = absurd cc
seen-next mark seen s m true false border e = let f : seen ++ m.mark ∷ [] ≡ s = cc in ap (list_any (λ k. k == mark)) (sym f) ∙ any-push mark seen m.mark
seen-next mark seen s m false twice true e = let f : [] ≡ s = cc in ap (list_any (λ k. k == mark)) (sym f)
seen-next mark seen s m false twice false e = let f : seen ≡ s = cc in ap (list_any (λ k. k == mark)) (sym f)

seen-further : (bytes : List ℕ) (mark : ℕ) (c d : Context) (m : Marked) (ms : List Marked) (o : Result Context Refusal) →
    ((e : Context) → run bytes e ms ≡ Ok d → list_any (λ k. k == mark) d.sections ≡ has-begun mark (list_any (λ k. k == mark) e.sections) ms) →
    obey bytes c m ≡ o → run_from bytes o ms ≡ Ok d → list_any (λ k. k == mark) d.sections ≡ has-begun mark (list_any (λ k. k == mark) c.sections) (m ∷ ms)
seen-further bytes mark c d m ms (Err r) rest o e = absurd cc
seen-further bytes mark c d m ms (Ok next) rest o e =
    let s : obey_sections c.sections m ≡ Ok next.sections = (all-ok (obey_names bytes c.names m) (obey_sections c.sections m) (obey_timing bytes c.timing m) next o).1 in
    rest next e ∙ ap (λ b. has-begun mark b ms) (seen-next mark c.sections next.sections m (is_section m.mark) (list_any (λ k. k == m.mark) c.sections) (is_border m.mark) s)

seen-after : (bytes : List ℕ) (mark : ℕ) (c d : Context) (ms : List Marked) → run bytes c ms ≡ Ok d → list_any (λ k. k == mark) d.sections ≡ has-begun mark (list_any (λ k. k == mark) c.sections) ms
seen-after bytes mark c d [] e = let f : c ≡ d = cc in ap (λ (q : Context). list_any (λ k. k == mark) q.sections) (sym f)
seen-after bytes mark c d (m ∷ ms) e = seen-further bytes mark c d m ms (obey bytes c m) (λ n q. seen-after bytes mark n d ms q) refl e

-- where it has, it has at a token with no border behind it
begun-here : (m : Marked) (ms : List Marked) (second : Marked) (b section border : Bool) → is_section second.mark ≡ true → is_section m.mark ≡ section → is_border m.mark ≡ border → has_border ms ≡ false →
    (if section then b || m.mark == second.mark else (if border then false else b)) ≡ true → ((b ≡ true) × (has_border (m ∷ ms) ≡ false)) ⊎ HasBegun (m ∷ ms) second
begun-here m ms second b true border is section edge none e =
    elim (or_cases b (m.mark == second.mark) e) [
      | inl h ↦ inl (h, or_from (is_border m.mark) (has_border ms) (no-border m.mark section) none)
      | inr h ↦ inr (record { before = []; first = m; between = ms; parts = refl; section = section; same = eqb-true m.mark second.mark h; joined = none })
    ]
begun-here m ms second b false true is section edge none e = absurd cc
begun-here m ms second b false false is section edge none e = inl (e, or_from (is_border m.mark) (has_border ms) edge none)

begun-at : (ms : List Marked) (second : Marked) (b : Bool) → is_section second.mark ≡ true → has-begun second.mark b ms ≡ true → ((b ≡ true) × (has_border ms ≡ false)) ⊎ HasBegun ms second
begun-at [] second b is e = inl (e, refl)
begun-at (m ∷ ms) second b is e =
    elim (begun-at ms second (has-next second.mark b m.mark) is e) [
      | inl h ↦ begun-here m ms second b (is_section m.mark) (is_border m.mark) is refl refl h.1 h.0
      | inr h ↦ inr (record { before = m ∷ h.before; first = h.first; between = h.between; parts = ap (λ q. m ∷ q) h.parts; section = h.section; same = h.same; joined = h.joined })
    ]

-- and the other way round
still : (mark : ℕ) (section border : Bool) (k : ℕ) → border ≡ false → (if section then true || k == mark else (if border then false else true)) ≡ true
still mark true border k e = refl
still mark false true k e = absurd cc
still mark false false k e = refl

begun-on : (mark : ℕ) (b : Bool) (ms : List Marked) → b ≡ true → has_border ms ≡ false → has-begun mark b ms ≡ true
begun-on mark b [] e none = e
begun-on mark b (m ∷ ms) e none =
    let p = or_parts (is_border m.mark) (has_border ms) none in
    begun-on mark (has-next mark b m.mark) ms (ap (λ q. has-next mark q m.mark) e ∙ still mark (is_section m.mark) (is_border m.mark) m.mark p.0) p.1

begun-behind : (mark : ℕ) (b : Bool) (before : List Marked) (first : Marked) (between : List Marked) → is_section first.mark ≡ true → first.mark ≡ mark → has_border between ≡ false → has-begun mark b (before ++ first ∷ between) ≡ true
begun-behind mark b [] first between is same none =
    begun-on mark (has-next mark b first.mark) between (ap (λ (q : Bool). if q then b || first.mark == mark else (if is_border first.mark then false else b)) is ∙ or_right b (first.mark == mark) (eq-eqb first.mark mark same)) none
begun-behind mark b (m ∷ before) first between is same none = begun-behind mark (has-next mark b m.mark) before first between is same none

-- so a token at which a section begins that has begun before it is refused
section-refused : (bytes : List ℕ) (c : Context) (m : Marked) → is_section m.mark ≡ true → list_any (λ k. k == m.mark) c.sections ≡ true → obey bytes c m ≡ Err (refused_at Twice m.token)
section-refused bytes c m is seen =
    let new = names_after c.names m in
    let names : obey_names bytes c.names m ≡ Ok new = ap (λ (b : Bool). if b then Err (misnamed new) else Ok new) (no-name bytes new m.mark is) in
    let sections : obey_sections c.sections m ≡ Err (refused_at Twice m.token) =
    ap (λ (b : Bool). if b then (if list_any (λ k. k == m.mark) c.sections then Err (refused_at Twice m.token) else Ok (c.sections ++ m.mark ∷ [])) else (if is_border m.mark then Ok [] else Ok c.sections)) is
    ∙ ap (λ (b : Bool). if b then Err (refused_at Twice m.token) else Ok (c.sections ++ m.mark ∷ [])) seen in
    ap (λ n. all_obeyed n (obey_sections c.sections m) (obey_timing bytes c.timing m)) names ∙ ap (λ s. all_obeyed (Ok new) s (obey_timing bytes c.timing m)) sections

pub begun-refused : (bytes : List ℕ) (c last : Context) (front : List Marked) (second : Marked) (behind : List Marked) → run bytes c front ≡ Ok last → HasBegun front second → run bytes c (front ++ second ∷ behind) ≡ Err (refused_at Twice second.token)
begun-refused bytes c last front second behind obeyed h =
    let mark = second.mark in
    let seen : list_any (λ k. k == mark) last.sections ≡ true =
    seen-after bytes mark c last front obeyed ∙ ap (has-begun mark (list_any (λ k. k == mark) c.sections)) h.parts
    ∙ begun-behind mark (list_any (λ k. k == mark) c.sections) h.before h.first h.between h.section h.same h.joined in
    breaks bytes c last front second behind (refused_at Twice second.token) obeyed (section-refused bytes last second (subst (λ k. is_section k ≡ true) h.same h.section) seen)

-- between two sections of one kind a border stands
pub sections-apart : (bytes : List ℕ) (before between behind : List Marked) (first second : Marked) → Obeys bytes (before ++ first ∷ (between ++ second ∷ behind)) → is_section first.mark ≡ true → first.mark ≡ second.mark → has_border between ≡ true
sections-apart bytes before between behind first second o is same =
    true_from_ne_false (has_border between) (λ none.
    let front = before ++ first ∷ between in
    let e : run bytes start (front ++ second ∷ behind) ≡ Ok o.0 = ap (run bytes start) (append_assoc before (first ∷ between) (second ∷ behind)) ∙ o.1 in
    let f = front-obeys bytes start o.0 front (second ∷ behind) e in
    let h : HasBegun front second = record { before = before; first = first; between = between; parts = refl; section = is; same = same; joined = none } in
    let g : Err (refused_at Twice second.token) ≡ Ok o.0 = sym (begun-refused bytes start f.0 front second behind f.1 h) ∙ e in
    absurd cc)

twice-here : (bytes : List ℕ) (ms : List Marked) (r : Refusal) (b : Broken bytes start ms r) → is_section b.at.mark ≡ true → list_any (λ k. k == b.at.mark) b.last.sections ≡ true → r ≡ refused_at Twice b.at.token → IsFirstTwice bytes ms r
twice-here bytes ms r b is seen told =
    let mark = b.at.mark in
    elim (begun-at b.front b.at false is (sym (seen-after bytes mark start b.last b.front b.obeyed) ∙ seen)) [
      | inl h ↦ absurd (both_ways false refl h.0)
      | inr h ↦ record { front = b.front; second = b.at; behind = b.behind; parts = b.parts; obeyed = (b.last, b.obeyed); twice = h; told = told }
    ]

pub first-twice : (bytes : List ℕ) (ms : List Marked) (r : Refusal) → run bytes start ms ≡ Err r → r.rule ≡ Twice → IsFirstTwice bytes ms r
first-twice bytes ms r e rule =
    let b = broken bytes start ms r e in
    elim (all-err (obey_names bytes b.last.names b.at) (obey_sections b.last.sections b.at) (obey_timing bytes b.last.timing b.at) r b.broken) [
      | inl h ↦ let f : EndName ≡ Twice = sym (name-rule bytes b.last.names b.at r h) ∙ rule in absurd cc
      | inr h ↦ elim h [
        | inl k ↦ let s = section-said b.last.sections b.at r k in twice-here bytes ms r b s.0 s.1 s.2
        | inr k ↦ let f : Unsupported (record { number = delayed }) ≡ Twice = sym (timing-rule bytes b.last.timing b.at r k) ∙ rule in absurd cc
      ]
    ]

pub twice-refused : (bytes : List ℕ) (ms : List Marked) (r : Refusal) → IsFirstTwice bytes ms r → run bytes start ms ≡ Err r
twice-refused bytes ms r h = ap (run bytes start) h.parts ∙ begun-refused bytes start h.obeyed.0 h.front h.second h.behind h.obeyed.1 h.twice ∙ ap (λ x. Err x) (sym h.told)
