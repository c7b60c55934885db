-- Names that are declared twice, by what stands among them at an earlier place.
use Rattle.std.proofs.Common.{◌≡◌, Bool, List, [], ◌∷◌, ◌++◌, ◌&&◌, ◌||◌, refl, ap, sym, ◌∙◌}
use Rattle.std.specs.Prelude.{if◌then◌else◌}
use Rattle.std.specs.List.Sorted.{IsPermutation}
use Rattle.std.proofs.lemmas.List.Folds.{list_any-append}
use Rattle.std.proofs.lemmas.List.Sorted.{list_any-IsPermutation}
use Rattle.ag_base.specs.declared.place.Refusal.{Refusal}
use Rattle.ag_base.specs.declared.place.Rule.TheVariants.{Twice}
use Rattle.ag_terms.specs.declared.names.Ident.{Ident}
use Rattle.ag_terms.specs.Names.{same}
use Rattle.ag_terms.specs.declared.clauses.NodeDef.{NodeDef}
use Rattle.ag_symbols.specs.Seen.{Names, node_vars}
use Rattle.ag_types.specs.ClauseFaults.{is_declared_before, node_sees, node_twice, twice, twice_among, var_names}
use Rattle.ag_types.specs.Firsts.{either}
use Rattle.ag_base.specs.Rules.{is_before}
use Rattle.ag_types.specs.Places.{first_broken}
use Rattle.ag_types.proofs.Breaking.{first_broken-append}
use Rattle.ag_types.proofs.NextNames.{twice_permuted}

-- among the ones or among the others
pub before_of_two : (ones others : List Ident) (i : Ident) → is_declared_before (ones ++ others) i ≡ (is_declared_before ones i || is_declared_before others i)
before_of_two ones others i = list_any-append (λ j. same j.text i.text && is_before j.place i.place) ones others

-- the same stand before a name
abbrev pub Agree : List Ident → List Ident → Type 0
Agree names others = (i : Ident) → is_declared_before names i ≡ is_declared_before others i

-- then the same are declared twice
pub twice_agree : (names others : List Ident) → Agree names others → (is : List Ident) → twice_among names is ≡ twice_among others is
twice_agree names others h [] = refl
twice_agree names others h (i ∷ is) =
    ap (λ (z : Bool). (if z then record { place = i.place; rule = Twice } ∷ [] else []) ++ twice_among names is) (h i)
    ∙ ap (λ (z : List Refusal). twice others i ++ z) (twice_agree names others h is)

pub agree_of_two : (a b c d : List Ident) → Agree a b → Agree c d → Agree (a ++ c) (b ++ d)
agree_of_two a b c d g h i =
    before_of_two a c i ∙ ap (λ (z : Bool). z || is_declared_before c i) (g i) ∙ ap (λ (z : Bool). is_declared_before b i || z) (h i) ∙ sym (before_of_two b d i)

-- names in another order agree
pub agree_permuted : (names others : List Ident) → IsPermutation others names → Agree names others
agree_permuted names others permutation i = sym (list_any-IsPermutation (λ j. same j.text i.text && is_before j.place i.place) others names permutation)

-- what a node breaks, by its own names and by those that it sees, each in another order
pub node_by_parts : (names : Names) (n : NodeDef) (own of_own of_seen : List Ident) → own ≡ var_names (node_vars n) → IsPermutation own of_own → IsPermutation (node_sees names) of_seen →
    either (first_broken (twice_among (of_own ++ of_seen) own)) (first_broken (twice_among own of_seen)) ≡ first_broken (node_twice names n)
node_by_parts names n own of_own of_seen e g h =
    let seen : List Ident = node_sees names in
    ap (λ (z : List Refusal). either (first_broken z) (first_broken (twice_among own of_seen)))
    (twice_agree (of_own ++ of_seen) (own ++ seen) (agree_of_two of_own own of_seen seen (agree_permuted of_own own g) (agree_permuted of_seen seen h)) own)
    ∙ ap (either (first_broken (twice_among (own ++ seen) own))) (sym (twice_permuted own seen of_seen h))
    ∙ sym (first_broken-append (twice_among (own ++ seen) own) (twice_among own seen))
    ∙ ap (λ (z : List Ident). first_broken (twice_among (z ++ seen) z ++ twice_among z seen)) e
