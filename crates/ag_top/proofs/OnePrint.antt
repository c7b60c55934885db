-- The print of a text has one answer.
use Rattle.std.proofs.Common.{◌≡◌, ℕ, List, [], sym, subst, ap, ◌∙◌, inl, inr}
use Rattle.ag_base.specs.declared.place.Refusal.{Refusal}
use Rattle.ag_lex.specs.declared.token.Language.{Language}
use Rattle.ag_lex.specs.declared.token.Language.TheVariants.{Aadl}
use Rattle.ag_lex.specs.declared.token.Token.{Token}
use Rattle.ag_lex.specs.Answers.{AreKept}
use Rattle.ag_lex.specs.Rules.{IsFirstBroken}
use Rattle.ag_lex.specs.Tokens.{AreTokens}
use Rattle.ag_aadl.specs.declared.packages.Package.{Package}
use Rattle.ag_aadl.specs.Files.{IsFile, IsFirstWrong}
use Rattle.ag_print.specs.Annexes.{Stated, PackagesState, IsAnnexRefused}
use Rattle.ag_print.specs.Canonical.{canonical_text}
use Rattle.ag_top.specs.Printing.{Declares, IsPrinted, IsNoFile, IsPrintRefused}

-- what the laws of reading say
pub record Laws : Type 0 where
  pub tokens : (l : Language) (file : ℕ) (before text : List ℕ) (tokens others : List Token) → AreTokens l file before text tokens → AreTokens l file before text others → tokens ≡ others
  pub broken : (l : Language) (file : ℕ) (before text : List ℕ) (r s : Refusal) → IsFirstBroken l file before text r → IsFirstBroken l file before text s → r ≡ s
  pub packages : (bytes : List ℕ) (tokens : List Token) (packages others : List Package) → IsFile bytes tokens packages → IsFile bytes tokens others → packages ≡ others
  pub wrong : (bytes : List ℕ) (tokens : List Token) (r s : Refusal) → IsFirstWrong bytes tokens r → IsFirstWrong bytes tokens s → r ≡ s
  pub no_file : (bytes : List ℕ) (tokens : List Token) (r : Refusal) (packages : List Package) → IsFirstWrong bytes tokens r → IsFile bytes tokens packages → ⊥
  pub stated : (bytes : List ℕ) (packages : List Package) (a b : Stated) → PackagesState bytes packages a → PackagesState bytes packages b → a ≡ b
  pub refused : (bytes : List ℕ) (packages : List Package) (r s : Refusal) → IsAnnexRefused bytes packages r → IsAnnexRefused bytes packages s → r ≡ s
  pub not_both : (bytes : List ℕ) (packages : List Package) (a : Stated) (r : Refusal) → PackagesState bytes packages a → IsAnnexRefused bytes packages r → ⊥

same_tokens : Laws → (text : List ℕ) (tokens others : List Token) → AreKept Aadl 0 [] text tokens → AreKept Aadl 0 [] text others → tokens ≡ others
same_tokens laws text tokens others a b = laws.tokens Aadl 0 [] text tokens others a.read b.read

same_declared : Laws → (text : List ℕ) (packages others : List Package) → Declares text packages → Declares text others → packages ≡ others
same_declared laws text packages others x y =
    laws.packages text x.tokens packages others x.file (subst (λ (z : List Token). IsFile text z others) (same_tokens laws text y.tokens x.tokens y.kept x.kept) y.file)

not_broken : (text : List ℕ) (tokens : List Token) (r : Refusal) → AreKept Aadl 0 [] text tokens → IsFirstBroken Aadl 0 [] text r → ⊥
not_broken text tokens r kept b = kept.kept b.at r.rule b.broken

not_wrong : Laws → (text : List ℕ) (packages : List Package) (r : Refusal) → Declares text packages → IsNoFile text r → ⊥
not_wrong laws text packages r x y =
    laws.no_file text x.tokens r packages (subst (λ (z : List Token). IsFirstWrong text z r) (same_tokens laws text y.tokens x.tokens y.kept x.kept) y.wrong) x.file

pub printed_once : Laws → (text a b : List ℕ) → IsPrinted text a → IsPrinted text b → a ≡ b
printed_once laws text a b x y =
    let same = same_declared laws text x.packages y.packages x.declared y.declared in
    let states = subst (λ (z : List Package). PackagesState text z x.stated) same x.states in
    x.canonical.told ∙ ap (λ (z : List Package). canonical_text z x.stated) same ∙ ap (canonical_text y.packages) (laws.stated text y.packages x.stated y.stated states y.states) ∙ sym y.canonical.told

pub refused_once : Laws → (text : List ℕ) (r s : Refusal) → IsPrintRefused text r → IsPrintRefused text s → r ≡ s
refused_once laws text r s (inl x) (inl y) = laws.broken Aadl 0 [] text r s x y
refused_once laws text r s (inl x) (inr (inl y)) = absurd (not_broken text y.tokens r y.kept x)
refused_once laws text r s (inl x) (inr (inr y)) = absurd (not_broken text y.declared.tokens r y.declared.kept x)
refused_once laws text r s (inr (inl x)) (inl y) = absurd (not_broken text x.tokens s x.kept y)
refused_once laws text r s (inr (inl x)) (inr (inl y)) =
    laws.wrong text x.tokens r s x.wrong (subst (λ (z : List Token). IsFirstWrong text z s) (same_tokens laws text y.tokens x.tokens y.kept x.kept) y.wrong)
refused_once laws text r s (inr (inl x)) (inr (inr y)) = absurd (not_wrong laws text y.packages r y.declared x)
refused_once laws text r s (inr (inr x)) (inl y) = absurd (not_broken text x.declared.tokens s x.declared.kept y)
refused_once laws text r s (inr (inr x)) (inr (inl y)) = absurd (not_wrong laws text x.packages s x.declared y)
refused_once laws text r s (inr (inr x)) (inr (inr y)) =
    laws.refused text y.packages r s (subst (λ (z : List Package). IsAnnexRefused text z r) (same_declared laws text x.packages y.packages x.declared y.declared) x.refused) y.refused

pub not_both : Laws → (text a : List ℕ) (r : Refusal) → IsPrinted text a → IsPrintRefused text r → ⊥
not_both laws text a r x (inl y) = not_broken text x.declared.tokens r x.declared.kept y
not_both laws text a r x (inr (inl y)) = not_wrong laws text x.packages r x.declared y
not_both laws text a r x (inr (inr y)) =
    laws.not_both text y.packages x.stated r (subst (λ (z : List Package). PackagesState text z x.stated) (same_declared laws text x.packages y.packages x.declared y.declared) x.states) y.refused
