-- The words of canonical lines break no rule.
use Rattle.std.proofs.Common.{◌≡◌, ℕ, Bool, true, false, not, cond, ◌&&◌, ◌||◌, List, [], ◌∷◌, ◌++◌, map, refl, ap, ◌∙◌, inl, inr}
use Rattle.std.specs.Prelude.{◌==◌, Result, Ok, Err, if◌then◌else◌}
use Rattle.std.specs.List.{list_any, list_all}
use Rattle.std.specs.Char.{to_ascii_lowercase}
use Rattle.std.proofs.lemmas.Bool.{or_cases, and_parts, not-true}
use Rattle.std.proofs.lemmas.Bool.Decides.{Decides-eqb}
use Rattle.std.proofs.lemmas.List.{map-append}
use Rattle.std.proofs.lemmas.Slice.Eq.{bytes_eq-Decides}
use Rattle.ag_base.specs.declared.place.Refusal.{Refusal}
use Rattle.ag_base.specs.declared.place.Rule.TheVariants.{Twice}
use Rattle.ag_lex.specs.declared.token.Token.{Token}
use Rattle.ag_aadl.specs.declared.marked.Marked.{Marked}
use Rattle.ag_aadl.specs.declared.names.Names.{Names}
use Rattle.ag_aadl.specs.declared.names.Naming.{Naming}
use Rattle.ag_aadl.specs.declared.names.Naming.TheVariants as naming
use Rattle.ag_aadl.specs.declared.rules.Context.{Context}
use Rattle.ag_aadl.specs.declared.timing.Timing.{Timing}
use Rattle.ag_aadl.specs.declared.timing.Watched.TheVariants as watched
use Rattle.ag_aadl.specs.Marked.{own}
use Rattle.ag_aadl.specs.Marks.{unmarked, package_mark, part_mark, join_mark, import_mark, item_mark, owner_mark, declared_mark, feature_mark, direction_mark, event_mark, data_mark, class_body_mark, sub_mark, kind_mark, connection_mark, spot_mark, spot_port_mark, annex_name_mark, annex_text_mark, end_mark, end_owner_mark, end_name_mark, close_mark, features_mark, subcomponents_mark, connections_mark}
use Rattle.ag_aadl.specs.Rules.{refused_at, same_names, is_head, is_end, naming_after, package_after, declaration_after, end_after, names_after, is_misnamed, misnamed, obey_names, is_section, obey_sections, region_of, is_nowhere, watched_after, value_after, timing_inside, obey_timing, all_obeyed, obey, run_from, run}
use Rattle.ag_aadl.specs.Terminals.{gives}
use Rattle.ag_terms.specs.Names.{same}
use Rattle.ag_print.proofs.RereadingSeen.{Seen, seen_of, cond_both, two, three}
use Rattle.ag_print.proofs.RereadingPieces.{among, both}

-- ---- names

-- the names so far, without their places
pub record Told : Type 0 where
  pub naming : Naming
  pub package_name : List (List ℕ)
  pub declaration : List (List ℕ)
  pub end : List (List ℕ)

abbrev pub told : List ℕ → Names → Told
told bytes n = record { naming = n.naming; package_name = map (own bytes) n.package_name; declaration = map (own bytes) n.declaration; end = map (own bytes) n.end }

abbrev pub same_texts : List (List ℕ) → List (List ℕ) → Bool
same_texts [] [] = true
same_texts (t ∷ ts) (u ∷ us) = same t u && same_texts ts us
same_texts _ _ = false

abbrev told_package : Told → Seen → List (List ℕ)
told_package n s =
    if s.mark == package_mark then []
    else (if s.mark == part_mark && is_head n.naming then n.package_name ++ s.text ∷ [] else n.package_name)

abbrev told_declaration : Told → Seen → List (List ℕ)
told_declaration n s =
    if s.mark == item_mark then []
    else (if s.mark == owner_mark || s.mark == declared_mark then n.declaration ++ s.text ∷ [] else n.declaration)

abbrev told_end : Told → Seen → List (List ℕ)
told_end n s =
    if s.mark == item_mark || s.mark == end_mark then []
    else (if s.mark == end_owner_mark || (s.mark == end_name_mark || (s.mark == part_mark && is_end n.naming)) then n.end ++ s.text ∷ [] else n.end)

abbrev pub told_after : Told → Seen → Told
told_after n s = record { naming = naming_after n.naming s.mark; package_name = told_package n s; declaration = told_declaration n s; end = told_end n s }

abbrev pub ends_wrongly : Told → ℕ → Bool
ends_wrongly n k = (k == end_name_mark && not (same_texts n.declaration n.end)) || (k == close_mark && not (same_texts n.package_name n.end))

abbrev pub names_hold : Told → List Seen → Bool
names_hold n [] = true
names_hold n (s ∷ ss) = not (ends_wrongly (told_after n s) s.mark) && names_hold (told_after n s) ss

same_told : (bytes : List ℕ) (ts us : List Token) → same_names bytes ts us ≡ same_texts (map (own bytes) ts) (map (own bytes) us)
same_told bytes [] [] = refl
same_told bytes [] (u ∷ us) = refl
same_told bytes (t ∷ ts) [] = refl
same_told bytes (t ∷ ts) (u ∷ us) = ap (λ (z : Bool). same (own bytes t) (own bytes u) && z) (same_told bytes ts us)

one_more : (bytes : List ℕ) (ts : List Token) (t : Token) → map (own bytes) (ts ++ t ∷ []) ≡ map (own bytes) ts ++ own bytes t ∷ []
one_more bytes ts t = map-append (own bytes) ts (t ∷ [])

package_told : (bytes : List ℕ) (n : Names) (m : Marked) → map (own bytes) (package_after n m) ≡ told_package (told bytes n) (seen_of bytes m)
package_told bytes n m =
    cond_both (map (own bytes)) [] (if m.mark == part_mark && is_head n.naming then n.package_name ++ m.token ∷ [] else n.package_name) refl refl
    (cond_both (map (own bytes)) (n.package_name ++ m.token ∷ []) n.package_name refl (one_more bytes n.package_name m.token) refl)

declaration_told : (bytes : List ℕ) (n : Names) (m : Marked) → map (own bytes) (declaration_after n m) ≡ told_declaration (told bytes n) (seen_of bytes m)
declaration_told bytes n m =
    cond_both (map (own bytes)) [] (if m.mark == owner_mark || m.mark == declared_mark then n.declaration ++ m.token ∷ [] else n.declaration) refl refl
    (cond_both (map (own bytes)) (n.declaration ++ m.token ∷ []) n.declaration refl (one_more bytes n.declaration m.token) refl)

end_told : (bytes : List ℕ) (n : Names) (m : Marked) → map (own bytes) (end_after n m) ≡ told_end (told bytes n) (seen_of bytes m)
end_told bytes n m =
    cond_both (map (own bytes)) [] (if m.mark == end_owner_mark || (m.mark == end_name_mark || (m.mark == part_mark && is_end n.naming)) then n.end ++ m.token ∷ [] else n.end) refl refl
    (cond_both (map (own bytes)) (n.end ++ m.token ∷ []) n.end refl (one_more bytes n.end m.token) refl)

after_told : (bytes : List ℕ) (n : Names) (m : Marked) → told bytes (names_after n m) ≡ told_after (told bytes n) (seen_of bytes m)
after_told bytes n m =
    three (λ (p d e : List (List ℕ)). record { naming = naming_after n.naming m.mark; package_name = p; declaration = d; end = e }) (package_told bytes n m) (declaration_told bytes n m) (end_told bytes n m)

wrong_told : (bytes : List ℕ) (n : Names) (k : ℕ) → is_misnamed bytes n k ≡ ends_wrongly (told bytes n) k
wrong_told bytes n k =
    two (λ (x y : Bool). (k == end_name_mark && not x) || (k == close_mark && not y)) (same_told bytes n.declaration n.end) (same_told bytes n.package_name n.end)

names_step : (bytes : List ℕ) (n : Names) (m : Marked) → ends_wrongly (told_after (told bytes n) (seen_of bytes m)) m.mark ≡ false → obey_names bytes n m ≡ Ok (names_after n m)
names_step bytes n m h =
    ap (λ (c : Bool). if c then Err (misnamed (names_after n m)) else Ok (names_after n m))
    (wrong_told bytes (names_after n m) m.mark ∙ ap (λ (z : Told). ends_wrongly z m.mark) (after_told bytes n m) ∙ h)

-- ---- sections

abbrev pub sections_after : List ℕ → ℕ → List ℕ
sections_after before k = if is_section k then before ++ k ∷ [] else (if k == package_mark || (k == item_mark || k == end_name_mark) then [] else before)

abbrev pub repeats : List ℕ → ℕ → Bool
repeats before k = is_section k && list_any (λ j. j == k) before

abbrev pub sections_hold : List ℕ → List Seen → Bool
sections_hold before [] = true
sections_hold before (s ∷ ss) = not (repeats before s.mark) && sections_hold (sections_after before s.mark) ss

sections_step : (before : List ℕ) (m : Marked) → repeats before m.mark ≡ false → obey_sections before m ≡ Ok (sections_after before m.mark)
sections_step before m h = step (is_section m.mark) (list_any (λ k. k == m.mark) before) (m.mark == package_mark || (m.mark == item_mark || m.mark == end_name_mark)) h
  where
    step : (x y z : Bool) → (x && y) ≡ false
        → cond x (cond y (Err (refused_at Twice m.token)) (Ok (before ++ m.mark ∷ []))) (cond z (Ok []) (Ok before)) ≡ Ok (cond x (before ++ m.mark ∷ []) (cond z [] before))
    step true true z h = absurd cc
    step true false z h = refl
    step false y true h = refl
    step false y false h = refl

-- ---- timing

-- an unmarked token isn't `=>`
abbrev pub is_quiet : Seen → Bool
is_quiet s = not (s.mark == unmarked) || not (s.terminal == gives)

abbrev NoValue : List ℕ → Timing → Marked → Type 0
NoValue bytes t m = (new : Timing) × (obey_timing bytes t m ≡ Ok new) × (new.value ≡ false)

timing_step : (bytes : List ℕ) (t : Timing) (m : Marked) → t.value ≡ false → is_quiet (seen_of bytes m) ≡ true → NoValue bytes t m
timing_step bytes t m e q = step (m.mark == unmarked) (is_nowhere t.region) q
  where
    step : (x y : Bool) → (not x || not (m.terminal == gives)) ≡ true
        → (new : Timing)
        × (cond (not x) (Ok (record { region = region_of m.mark; watched = watched.Nothing; value = false })) (cond y (Ok t) (timing_inside (own bytes m.token) t m)) ≡ Ok new)
        × (new.value ≡ false)
    step false y q = (record { region = region_of m.mark; watched = watched.Nothing; value = false }, refl, refl)
    step true true q = (t, refl, e)
    step true false q =
        let other : (m.terminal == gives) ≡ false = not-true (m.terminal == gives) q in
        (record { region = t.region; watched = watched_after t.watched m.terminal (own bytes m.token); value = value_after t m.terminal }, rw e, rw (other, e))

-- ---- all three

pub obeys : (bytes : List ℕ) (ms : List Marked) (c : Context) → names_hold (told bytes c.names) (map (seen_of bytes) ms) ≡ true → sections_hold c.sections (map (seen_of bytes) ms) ≡ true
    → c.timing.value ≡ false → list_all is_quiet (map (seen_of bytes) ms) ≡ true → (d : Context) × (run bytes c ms ≡ Ok d)
obeys bytes [] c n s t q = (c, refl)
obeys bytes (m ∷ ms) c n s t q =
    let see = seen_of bytes m in
    let rest = map (seen_of bytes) ms in
    let names = and_parts (not (ends_wrongly (told_after (told bytes c.names) see) m.mark)) (names_hold (told_after (told bytes c.names) see) rest) n in
    let sections = and_parts (not (repeats c.sections m.mark)) (sections_hold (sections_after c.sections m.mark) rest) s in
    let quiet = and_parts (is_quiet see) (list_all is_quiet rest) q in
    let timing = timing_step bytes c.timing m t quiet.0 in
    let new : Context = record { names = names_after c.names m; sections = sections_after c.sections m.mark; timing = timing.0 } in
    let one : obey bytes c m ≡ Ok new =
    three all_obeyed (names_step bytes c.names m (not-true (ends_wrongly (told_after (told bytes c.names) see) m.mark) names.0))
    (sections_step c.sections m (not-true (repeats c.sections m.mark) sections.0)) timing.1 in
    let more = obeys bytes ms new (ap (λ (z : Told). names_hold z rest) (after_told bytes c.names m) ∙ names.1) sections.1 timing.2 quiet.1 in
    (more.0, ap (λ (z : Result Context Refusal). run_from bytes z ms) one ∙ more.1)

-- ---- marks that a rule passes by

abbrev pub Each : (ℕ → Type 0) → List ℕ → Type 0
Each P [] = Unit {0}
Each P (k ∷ ks) = P k × Each P ks

pub each_among : (P : ℕ → Type 0) (ks : List ℕ) (k : ℕ) → Each P ks → among ks k ≡ true → P k
each_among P [] k e h = absurd cc
each_among P (j ∷ ks) k e h =
    elim (or_cases (j == k) (among ks k) h) [
      | inl this ↦ let same_mark : j ≡ k = (Decides-eqb j k).0 this in rw (← same_mark) e.0
      | inr later ↦ each_among P ks k e.1 later
    ]

abbrev pub with_names : Naming → List (List ℕ) → List (List ℕ) → List (List ℕ) → Told
with_names x p d e = record { naming = x; package_name = p; declaration = d; end = e }

-- the marks that change no name where no package's name is read
abbrev pub calm_set : List ℕ
calm_set =
    unmarked ∷ part_mark ∷ join_mark ∷ import_mark ∷ feature_mark ∷ direction_mark ∷ event_mark ∷ data_mark ∷ class_body_mark ∷ sub_mark ∷ kind_mark ∷ connection_mark ∷ spot_mark ∷ spot_port_mark
    ∷ annex_name_mark ∷ annex_text_mark ∷ features_mark ∷ subcomponents_mark ∷ connections_mark ∷ []

pub calm_names : (p d e : List (List ℕ)) (a b : List Seen) → list_all (λ s. among calm_set s.mark) a ≡ true
    → names_hold (with_names naming.Nothing p d e) (a ++ b) ≡ names_hold (with_names naming.Nothing p d e) b
calm_names p d e [] b h = refl
calm_names p d e (s ∷ a) b h =
    let parts = and_parts (among calm_set s.mark) (list_all (λ (s : Seen). among calm_set s.mark) a) h in
    let state = with_names naming.Nothing p d e in
    each_among (λ k. names_hold state (record { mark = k; terminal = s.terminal; text = s.text } ∷ (a ++ b)) ≡ names_hold state (a ++ b)) calm_set s.mark
    (refl, (refl, (refl, (refl, (refl, (refl, (refl, (refl, (refl, (refl, (refl, (refl, (refl, (refl, (refl, (refl, (refl, (refl, (refl, tt))))))))))))))))))) parts.0
    ∙ calm_names p d e a b parts.1

-- the marks that neither begin a section nor a declaration or a package
abbrev pub silent_set : List ℕ
silent_set =
    unmarked ∷ part_mark ∷ join_mark ∷ import_mark ∷ owner_mark ∷ declared_mark ∷ feature_mark ∷ direction_mark ∷ event_mark ∷ data_mark ∷ class_body_mark ∷ sub_mark ∷ kind_mark ∷ connection_mark
    ∷ spot_mark ∷ spot_port_mark ∷ annex_name_mark ∷ annex_text_mark ∷ end_mark ∷ end_owner_mark ∷ close_mark ∷ []

pub silent_sections : (before : List ℕ) (a b : List Seen) → list_all (λ s. among silent_set s.mark) a ≡ true → sections_hold before (a ++ b) ≡ sections_hold before b
silent_sections before [] b h = refl
silent_sections before (s ∷ a) b h =
    let parts = and_parts (among silent_set s.mark) (list_all (λ (s : Seen). among silent_set s.mark) a) h in
    each_among (λ k. sections_hold before (record { mark = k; terminal = s.terminal; text = s.text } ∷ (a ++ b)) ≡ sections_hold before (a ++ b)) silent_set s.mark
    (refl, (refl, (refl, (refl, (refl, (refl, (refl, (refl, (refl, (refl, (refl, (refl, (refl, (refl, (refl, (refl, (refl, (refl, (refl, (refl, (refl, tt))))))))))))))))))))) parts.0
    ∙ silent_sections before a b parts.1

-- ---- texts that are the same

same_self : (t : List ℕ) → same t t ≡ true
unfolding same
same_self t = (bytes_eq-Decides (map to_ascii_lowercase t) (map to_ascii_lowercase t)).1 refl

pub same_selves : (ts : List (List ℕ)) → same_texts ts ts ≡ true
same_selves [] = refl
same_selves (t ∷ ts) = both (same_self t) (same_selves ts)
