-- Which marked streams a part names, by its operands.
use Rattle.std.proofs.Common.{◌≡◌, ℕ, ◌+◌, zero, suc, Bool, List, [], ◌∷◌, Option, Some, None, sym, refl, ap, subst, ◌∙◌, arith, Contains, inl, inr, ◌⊎◌, MatchOption}
use Rattle.std.specs.List.{slice_get}
use Rattle.std.proofs.lemmas.Option.{same_Some}
use Rattle.ag_stream.specs.declared.problem.Part.{Part}
use Rattle.ag_stream.specs.declared.problem.Part.TheVariants as parts
use Rattle.ag_stream.specs.declared.problem.ProblemDraft.{ProblemDraft}
use Rattle.ag_stream.specs.Forms.{operands, IsPlainPart}
use Rattle.ag_stream.specs.Dependence.{Names, PartNames, itself, operand}
use Rattle.ag_stream.specs.Work.{IsPartAt, IsMarked, NamesMarked}

pub contains_cons : (a m : ℕ) (ns : List ℕ) → Contains (a ∷ ns) m → (a ≡ m) ⊎ Contains ns m
contains_cons a m ns (zero, lt, e) = inl e
contains_cons a m ns (suc k, lt, e) = inr (k, omega (arith, lt), e)

contains_nil : (m : ℕ) → Contains [] m → ⊥
contains_nil m (k, lt, e) = absurd (omega (arith, lt))

-- what none of the numbers has no number of the list has
not_none : (P : ℕ → Type 0) (m : ℕ) → Contains [] m → P m → ⊥
not_none P m c x = contains_nil m c

not_more : (P : ℕ → Type 0) (a : ℕ) (ns : List ℕ) → (P a → ⊥) → ((m : ℕ) → Contains ns m → P m → ⊥) → (m : ℕ) → Contains (a ∷ ns) m → P m → ⊥
not_more P a ns here rest m c x =
    elim (contains_cons a m ns c) [ inl e ↦ here (subst P (sym e) x) | inr more ↦ rest m more x ]

-- a part names what it names itself, and what its operands name
pub PartNames-cases : (d : ProblemDraft) (s n : ℕ) (p : Part) → slice_get d.parts n ≡ Some p → PartNames d s n → Names d.ints p s ⊎ ((m : ℕ) × Contains (operands p) m × PartNames d s m)
PartNames-cases d s n p is (itself k q there names) =
    let N : Part → Type 0 = λ x. Names d.ints x s in
    inl (subst N (same_Some q p (sym there ∙ is)) names)
PartNames-cases d s n p is (operand k m q there has names) =
    let C : Part → Type 0 = λ x. Contains (operands x) m in
    inr (m, subst C (same_Some q p (sym there ∙ is)) has, names)

none_named : (d : ProblemDraft) (marks : List Bool) (n : ℕ) (p : Part) → slice_get d.parts n ≡ Some p → ((s : ℕ) → Names d.ints p s → ⊥) → ((m : ℕ) → Contains (operands p) m → NamesMarked d marks m → ⊥) → NamesMarked d marks n → ⊥
none_named d marks n p there apart none named =
    elim (PartNames-cases d (d.ints + named.0) n p there named.2) [
      | inl names ↦ apart (d.ints + named.0) names
      | inr sub ↦ none sub.0 sub.1 (named.0, named.1, sub.2)
    ]

-- the part is made of the operands alone
pub record IsMadeOf (d : ProblemDraft) (n : ℕ) (ns : List ℕ) : Type 0 where
  pub part : Part
  pub there : slice_get d.parts n ≡ Some part
  pub made : operands part ≡ ns
  pub apart : (s : ℕ) → Names d.ints part s → ⊥

none_of : (d : ProblemDraft) (marks : List Bool) (n : ℕ) (ns : List ℕ) → IsMadeOf d n ns → ((m : ℕ) → Contains ns m → NamesMarked d marks m → ⊥) → NamesMarked d marks n → ⊥
none_of d marks n ns made none =
    let O : List ℕ → Type 0 = λ xs. (m : ℕ) → Contains xs m → NamesMarked d marks m → ⊥ in
    none_named d marks n made.part made.there made.apart (subst O (sym made.made) none)

pub some_of : (d : ProblemDraft) (marks : List Bool) (n m s : ℕ) (ns : List ℕ) → IsMadeOf d n ns → Contains ns m → IsMarked marks s × PartNames d (d.ints + s) m → IsMarked marks s × PartNames d (d.ints + s) n
some_of d marks n m s ns made has found =
    let C : List ℕ → Type 0 = λ xs. Contains xs m in
    (found.0, operand n m made.part made.there (subst C (sym made.made) has) found.1)

-- the answer for one operand is the answer for the whole, once no other operand names a marked stream
abbrev pub Finds : ProblemDraft → List Bool → ℕ → Option ℕ → Type 0
Finds d marks n o = MatchOption o (NamesMarked d marks n → ⊥) (λ s. IsMarked marks s × PartNames d (d.ints + s) n)

pub finds_last : (d : ProblemDraft) (marks : List Bool) (n m : ℕ) (ns : List ℕ) (o : Option ℕ) → IsMadeOf d n ns → Contains ns m → ((NamesMarked d marks m → ⊥) → (k : ℕ) → Contains ns k → NamesMarked d marks k → ⊥) → Finds d marks m o → Finds d marks n o
finds_last d marks n m ns None made has others found = none_of d marks n ns made (others found)
finds_last d marks n m ns (Some s) made has others found = some_of d marks n m s ns made has found

pub finds_one : (d : ProblemDraft) (marks : List Bool) (n a : ℕ) (o : Option ℕ) → IsMadeOf d n (a ∷ []) → Finds d marks a o → Finds d marks n o
finds_one d marks n a o made found =
    finds_last d marks n a (a ∷ []) o made (0, omega arith, refl) (λ none. not_more (NamesMarked d marks) a [] none (not_none (NamesMarked d marks))) found

pub finds_two : (d : ProblemDraft) (marks : List Bool) (n a b : ℕ) (o : Option ℕ) → IsMadeOf d n (a ∷ b ∷ []) → (NamesMarked d marks a → ⊥) → Finds d marks b o → Finds d marks n o
finds_two d marks n a b o made first found =
    let N : ℕ → Type 0 = NamesMarked d marks in
    finds_last d marks n b (a ∷ b ∷ []) o made (1, omega arith, refl) (λ none. not_more N a (b ∷ []) first (not_more N b [] none (not_none N))) found

pub finds_three : (d : ProblemDraft) (marks : List Bool) (n a b c : ℕ) (o : Option ℕ) → IsMadeOf d n (a ∷ b ∷ c ∷ []) → (NamesMarked d marks a → ⊥) → (NamesMarked d marks b → ⊥) → Finds d marks c o → Finds d marks n o
finds_three d marks n a b c o made first second found =
    let N : ℕ → Type 0 = NamesMarked d marks in
    finds_last d marks n c (a ∷ b ∷ c ∷ []) o made (2, omega arith, refl) (λ none. not_more N a (b ∷ c ∷ []) first (not_more N b (c ∷ []) second (not_more N c [] none (not_none N)))) found

pub made_of : (d : ProblemDraft) (n : ℕ) (p q : Part) → IsPartAt d n p → p ≡ q → ((s : ℕ) → Names d.ints q s → ⊥) → IsMadeOf d n (operands q)
made_of d n p q at is apart = record {
  part = q;
  there = at.there ∙ ap (λ (x : Part). Some x) is;
  made = refl;
  apart = apart;
}

pub flag_names : (d : ProblemDraft) (n s : ℕ) (before : Bool) (p : Part) → IsPartAt d n p → p ≡ parts.Flag s before → PartNames d (d.ints + s) n
flag_names d n s before p at is =
    let P : Part → Type 0 = IsPlainPart in
    itself n (parts.Flag s before) (at.there ∙ ap (λ (x : Part). Some x) is) (subst P is at.plain, refl)

pub made_of_two : (d : ProblemDraft) (n a b : ℕ) (p : Part) → IsPartAt d n p → (p ≡ parts.And a b) ⊎ ((p ≡ parts.Or a b) ⊎ (p ≡ parts.Same a b)) → IsMadeOf d n (a ∷ b ∷ [])
made_of_two d n a b p at (inl is) = made_of d n p (parts.And a b) at is (λ s x. x)
made_of_two d n a b p at (inr (inl is)) = made_of d n p (parts.Or a b) at is (λ s x. x)
made_of_two d n a b p at (inr (inr is)) = made_of d n p (parts.Same a b) at is (λ s x. x)
