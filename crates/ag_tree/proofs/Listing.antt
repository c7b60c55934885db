-- Lists of line numbers by literal.
use Rattle.std.proofs.Common.{◌≡◌, ◌⊎◌, inl, inr, ℕ, ◌+◌, ◌<◌, List, [], ◌∷◌, ◌++◌, length, get_or, set, sym, ap, subst, ◌∙◌, All, Contains}
use Rattle.std.specs.List.{AllWithin}
use Rattle.std.proofs.lemmas.List.{get_or-set_same, get_or-set_other, get_or_default, length-set}
use Rattle.std.proofs.lemmas.List.Elements.{AllWithin-more, Contains-append_left, Contains-push, Contains-push_cases}
use Rattle.std.proofs.lemmas.Bool.{cases_eq}
use Rattle.ag_query.specs.declared.clauses.Lit.{Lit}
use Rattle.ag_query.specs.Meaning.{contrary}
use Rattle.ag_tree.specs.Listing.{AddsNone, StaysBut, slot, listed}

-- the line was listed under the contraries of the first literals, and nothing else was
pub record AreListed (before now : List (List ℕ)) (lits : List Lit) (upto line : ℕ) : Type 0 where
  pub slots : length now ≡ length before
  pub kept : (l : Lit) (n : ℕ) → Contains (listed before l) n → Contains (listed now l) n
  pub under : AllWithin (λ l. Contains (listed now (contrary l)) line) lits 0 upto
  pub only : (l : Lit) (n : ℕ) → Contains (listed now l) n → Contains (listed before l) n ⊎ (n ≡ line)

-- the occurrences have the new line besides
pub record IsAdded (before now : List (List ℕ)) (lits : List Lit) (line : ℕ) : Type 0 where
  pub slots : length now ≡ length before
  pub kept : (l : Lit) (n : ℕ) → Contains (listed before l) n → Contains (listed now l) n
  pub under : All (λ l. Contains (listed now (contrary l)) line) lits
  pub only : (l : Lit) (n : ℕ) → Contains (listed now l) n → Contains (listed before l) n ⊎ (n ≡ line)

here : (lists : List (List ℕ)) (i : ℕ) (ys : List ℕ) (l : Lit) → i < length lists → slot l ≡ i → listed (set lists i ys) l ≡ ys
here lists i ys l lt e = ap (λ (k : ℕ). get_or (set lists i ys) k []) e ∙ get_or-set_same lists i ys [] lt

past : (lists : List (List ℕ)) (i : ℕ) (ys : List ℕ) (l : Lit) → (slot l ≡ i → ⊥) → listed (set lists i ys) l ≡ listed lists l
past lists i ys l ne = get_or-set_other lists i (slot l) ys [] ne

more : (lists : List (List ℕ)) (i line : ℕ) (ys : List ℕ) (l : Lit) (n : ℕ) → i < length lists → ys ≡ get_or lists i [] ++ line ∷ [] → Contains (listed lists l) n → Contains (listed (set lists i ys) l) n
more lists i line ys l n lt is h =
    let C : List ℕ → Type 0 = λ xs. Contains xs n in
    elim (cases_eq (slot l) i) [
      | inl e ↦
          let old : C (get_or lists i []) = subst (λ (k : ℕ). C (get_or lists k [])) e h in
          subst C (sym (here lists i ys l lt e ∙ is)) (Contains-append_left (get_or lists i []) (line ∷ []) n old)
      | inr ne ↦ subst C (sym (past lists i ys l ne)) h
    ]

pub list_more : (before lists : List (List ℕ)) (lits : List Lit) (k line : ℕ) (d : Lit) (ys : List ℕ) (i : ℕ) → AreListed before lists lits k line → k < length lits → i ≡ slot (contrary (get_or lits k d)) → i < length lists → ys ≡ get_or lists i [] ++ line ∷ [] → AreListed before (set lists i ys) lits (k + 1) line
list_more before lists lits k line d ys i so lt at inside is =
    let now : List (List ℕ) = set lists i ys in
    let P : Lit → Type 0 = λ l. Contains (listed now (contrary l)) line in
    let C : List ℕ → Type 0 = λ xs. Contains xs line in
    let new : P (get_or lits k d) = subst C (sym (here lists i ys (contrary (get_or lits k d)) inside (sym at) ∙ is)) (Contains-push (get_or lists i []) line) in
    record {
      slots = length-set lists i ys ∙ so.slots;
      kept = λ l n h. more lists i line ys l n inside is (so.kept l n h);
      under = AllWithin-more P lits 0 k (λ j e low below. more lists i line ys (contrary (get_or lits j e)) line inside is (so.under j e low below)) (λ e. subst P (get_or_default lits k d e lt) new);
      only = λ l n h.
          elim (cases_eq (slot l) i) [
            | inl e ↦
                let D : List ℕ → Type 0 = λ xs. Contains xs n in
                let within : D (get_or lists i [] ++ line ∷ []) = subst D (here lists i ys l inside e ∙ is) h in
                elim (Contains-push_cases (get_or lists i []) line n within) [
                  | inl old ↦ so.only l n (subst (λ (j : ℕ). D (get_or lists j [])) (sym e) old)
                  | inr same ↦ inr (sym same)
                ]
            | inr ne ↦ so.only l n (subst (λ (xs : List ℕ). Contains xs n) (past lists i ys l ne) h)
          ];
    }

-- ---- lines that leave the lists

-- the line left some lists, and nothing else did
pub record AreUnlisted (before now : List (List ℕ)) (line : ℕ) : Type 0 where
  pub slots : length now ≡ length before
  pub kept : StaysBut (λ n. n ≡ line) before now
  pub only : AddsNone before now

-- the line left the end of a list, or none did
abbrev pub IsTakenOff : List ℕ → List ℕ → ℕ → Type 0
IsTakenOff before now line = (now ≡ before) ⊎ (before ≡ now ++ line ∷ [])

still : (before now : List ℕ) (line n : ℕ) → IsTakenOff before now line → Contains before n → Contains now n ⊎ (n ≡ line)
still before now line n (inl e) h = inl (subst (λ (xs : List ℕ). Contains xs n) (sym e) h)
still before now line n (inr e) h =
    elim (Contains-push_cases now line n (subst (λ (xs : List ℕ). Contains xs n) e h)) [
      | inl old ↦ inl old
      | inr same ↦ inr (sym same)
    ]

stood : (before now : List ℕ) (line n : ℕ) → IsTakenOff before now line → Contains now n → Contains before n
stood before now line n (inl e) h = subst (λ (xs : List ℕ). Contains xs n) e h
stood before now line n (inr e) h = subst (λ (xs : List ℕ). Contains xs n) (sym e) (Contains-append_left now (line ∷ []) n h)

pub unlist_more : (before lists : List (List ℕ)) (line i : ℕ) (ys : List ℕ) → AreUnlisted before lists line → i < length lists → IsTakenOff (get_or lists i []) ys line → AreUnlisted before (set lists i ys) line
unlist_more before lists line i ys so inside off =
    record {
      slots = length-set lists i ys ∙ so.slots;
      kept = λ l n h.
          let C : List ℕ → Type 0 = λ xs. Contains xs n in
          elim (so.kept l n h) [
            | inr e ↦ inr e
            | inl old ↦
                elim (cases_eq (slot l) i) [
                  | inr ne ↦ inl (subst C (sym (past lists i ys l ne)) old)
                  | inl e ↦
                      elim (still (get_or lists i []) ys line n off (subst (λ (k : ℕ). C (get_or lists k [])) e old)) [
                        | inl k ↦ inl (subst C (sym (here lists i ys l inside e)) k)
                        | inr same ↦ inr same
                      ]
                ]
          ];
      only = λ l n h.
          let C : List ℕ → Type 0 = λ xs. Contains xs n in
          so.only l n (elim (cases_eq (slot l) i) [
            | inr ne ↦ subst C (past lists i ys l ne) h
            | inl e ↦ subst (λ (k : ℕ). C (get_or lists k [])) (sym e) (stood (get_or lists i []) ys line n off (subst C (here lists i ys l inside e) h))
          ]);
    }
