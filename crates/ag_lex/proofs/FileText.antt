-- A file that breaks no rule is UTF-8.
use Rattle.std.proofs.Common.{◌<◌, ℕ, zero, suc, List, length, take, refl, sym, subst, inl, inr, arith}
use Rattle.std.specs.Str.{IsUtf8, IsValidUpTo, is_utf8}
use Rattle.std.proofs.lemmas.Bool.{both_ways, cases_Bool, cases_lt, cases_order}
use Rattle.std.proofs.lemmas.List.{nil_from_length, take_all}
use Rattle.std.proofs.lemmas.Str.{IsUtf8-nil, IsUtf8-from_is_utf8, is_utf8-from_IsUtf8}
use Rattle.ag_base.specs.declared.place.Rule.TheVariants.{NotUtf8}
use Rattle.ag_lex.specs.declared.token.Language.TheVariants.{Aadl}
use Rattle.ag_lex.specs.Rules.{KeepsRules}

-- where the front that is UTF-8 ends, if not all is
front_end : (bytes : List ℕ) (n : ℕ) → (IsUtf8 bytes → ⊥) → ((m : ℕ) → n < m → IsUtf8 (take m bytes) → ⊥) → (k : ℕ) × IsValidUpTo bytes k
front_end bytes zero not_text longest =
    let some : 0 < length bytes = elim (cases_lt 0 (length bytes)) [ inl lt ↦ lt | inr none ↦ absurd (not_text (subst IsUtf8 (sym (nil_from_length bytes (omega arith))) IsUtf8-nil)) ] in
    (0, record { short = some; front = IsUtf8-nil; longest = longest })
front_end bytes (suc n) not_text longest =
    elim (cases_Bool (is_utf8 (take (suc n) bytes))) [
      | inl is ↦
          let front = IsUtf8-from_is_utf8 (take (suc n) bytes) is in
          let short : suc n < length bytes = elim (cases_lt (suc n) (length bytes)) [ inl lt ↦ lt | inr all ↦ absurd (not_text (subst IsUtf8 (take_all (suc n) bytes all) front)) ] in
          (suc n, record { short = short; front = front; longest = longest })
      | inr is_not ↦ front_end bytes n not_text (λ m lt u. elim (cases_order m (suc n)) [
        | inl same ↦ both_ways (is_utf8 (take (suc n) bytes)) is_not (is_utf8-from_IsUtf8 (take (suc n) bytes) (subst (λ (k : ℕ). IsUtf8 (take k bytes)) same u))
        | inr differ ↦ elim differ [ inl below ↦ absurd (omega arith) | inr above ↦ longest m above u ]
      ])
    ]

pub file_is_text : (bytes : List ℕ) → KeepsRules Aadl bytes → IsUtf8 bytes
file_is_text bytes kept =
    elim (cases_Bool (is_utf8 bytes)) [
      | inl is ↦ IsUtf8-from_is_utf8 bytes is
      | inr is_not ↦
          let not_text : IsUtf8 bytes → ⊥ = λ u. both_ways (is_utf8 bytes) is_not (is_utf8-from_IsUtf8 bytes u) in
          let end = front_end bytes (length bytes) not_text (λ m lt u. not_text (subst IsUtf8 (take_all m bytes (omega arith)) u)) in
          absurd (kept end.0 NotUtf8 (inl (refl, refl, end.1)))
    ]
