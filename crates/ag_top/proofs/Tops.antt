-- The ends of a text, and which words ask for what.
use Rattle.std.proofs.Common.{◌≡◌, ◌⊎◌, ◌∙◌, ◌-◌, ◌<◌, ◌≤◌, ◌∷◌, [], ℕ, List, length, take, drop, Option, sym, ap, subst, arith, get_or, inl, inr}
use Rattle.std.proofs.lemmas.Bool.{cases_eq}
use Rattle.std.proofs.lemmas.List.{take_all}
use Rattle.ag_base.specs.declared.status.Status.{Status}
use Rattle.ag_base.specs.declared.status.Status.TheVariants as statuses
use Rattle.ag_base.specs.declared.limits.Limits.{Limits}
use Rattle.ag_board.specs.Entries.{PlainEntry}
use Rattle.ag_top.specs.Commands.{IsUsual}
use Rattle.ag_top.specs.Files.{Outside}
use Rattle.ag_top.specs.Outcome.{IsFileCut, IsNothing, IsUnfinished}
use Rattle.ag_top.specs.Stages.{IsEndOfCheck, IsEndOfText}
use Rattle.ag_top.specs.Words.{IsCheck, source_name}

-- a list of two
pub two_items : (ws : List (List ℕ)) (a b : List ℕ) → 2 ≤ length ws → length ws < 3 → a ≡ get_or ws 0 a → b ≡ get_or ws 1 b → ws ≡ a ∷ b ∷ []
two_items [] a b l u e f = absurd (omega (arith, l))
two_items (x ∷ []) a b l u e f = absurd (omega (arith, l))
two_items (x ∷ y ∷ []) a b l u e f = let p = sym e in let q = sym f in cc
two_items (x ∷ y ∷ z ∷ ws) a b l u e f = absurd (omega (arith, u))

-- what is left of a list without its first item
pub rest_is : (ws : List (List ℕ)) (w : List ℕ) (r : List (List ℕ)) → ws ≡ w ∷ r → take (length ws - 1) (drop 1 ws) ≡ r
rest_is ws w r e = subst (λ (xs : List (List ℕ)). take (length xs - 1) (drop 1 xs) ≡ r) (sym e) (take_all (length (w ∷ r) - 1) r (omega arith))

-- an end of a check is an end of a text
pub end_of_text : (s : Status) → IsEndOfCheck s → IsEndOfText s
end_of_text statuses.AllGood e = tt
end_of_text statuses.Refuted e = tt
end_of_text statuses.Unknown e = tt
end_of_text statuses.Usage e = absurd e
end_of_text statuses.ModelRefused e = tt
end_of_text statuses.ReadFault e = absurd e
end_of_text statuses.WriteFault e = tt
end_of_text statuses.OutOfMemory e = tt
end_of_text statuses.SessionRefused e = absurd e

-- a refusal that came to its end
pub is_no_fault : (s : Status) → s ≡ statuses.ModelRefused → s ≡ statuses.WriteFault → ⊥
is_no_fault s e f = let x = sym e ∙ f in cc

-- a refusal is no fault
pub is_no_write_fault : statuses.ModelRefused ≡ statuses.WriteFault → ⊥
is_no_write_fault e = cc

-- nor is a usage
pub usage_is_no_write_fault : statuses.Usage ≡ statuses.WriteFault → ⊥
usage_is_no_write_fault e = cc

one_byte : (b : ℕ) → (b ≡ 45) ⊎ (b ≡ 45 → ⊥) → (b ∷ [] ≡ source_name) ⊎ (b ∷ [] ≡ source_name → ⊥)
one_byte b (inl e) = inl (ap (λ (x : ℕ). x ∷ []) e)
one_byte b (inr other) = inr (λ e. other (ap (λ (xs : List ℕ). get_or xs 0 b) e))

-- a name is the source's, or it isn't
pub is_source : (name : List ℕ) → (name ≡ source_name) ⊎ (name ≡ source_name → ⊥)
is_source [] = inr (λ e. cc)
is_source (b ∷ []) = one_byte b (cases_eq b 45)
is_source (b ∷ c ∷ cs) = inr (λ e. let l = ap (λ (xs : List ℕ). length xs) e in omega (arith, l))

unless_other : {A : Type 0} (name : List ℕ) → (name ≡ source_name) ⊎ (name ≡ source_name → ⊥) → ((name ≡ source_name → ⊥) → ⊥) → (name ≡ source_name → A) → A
unless_other name (inl e) asked h = h e
unless_other name (inr other) asked h = absurd (asked other)

-- where no other file is asked for, the name is the source's
pub unless_source : {A : Type 0} (name : List ℕ) → ((name ≡ source_name → ⊥) → ⊥) → (name ≡ source_name → A) → A
unless_source name asked h = unless_other name (is_source name) asked h

-- nothing came of it, or the check of the file that the words name was cut short
pub unfinished_of : (l : Limits) → IsUsual l → (words : List (List ℕ)) (o : Outside) (name : List ℕ) (history : List PlainEntry) (before now : Option (List ℕ)) → IsCheck words name
    → IsNothing history before now ⊎ IsFileCut l o name history before now → IsNothing history before now ⊎ IsUnfinished words o history before now
unfinished_of l u words o name history before now w (inl h) = inl h
unfinished_of l u words o name history before now w (inr h) = inr record { name = name; command = w; limits = l; usual = u; file = h }
