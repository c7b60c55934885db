use Rattle.std.proofs.Common.{Option, sym, ◌∙◌}
use Rattle.std.proofs.lemmas.Bool.{false≢true}
use Rattle.std.proofs.lemmas.Result.{IfOk-weaker}
use Rattle.ag_base.specs.declared.place.Refusal.{Refusal}
use Rattle.ag_names.specs.Broken.{PackageBreaks}
use Rattle.ag_names.specs.Order.{IsFirst}
use Rattle.ag_names.specs.Passes.{DeclarationsBreak}
use Rattle.ag_names.proofs.First.{first_same}
use Rattle.ag_names.proofs.broken.first_in_declarations.Goals as goal

pub returns-then-is_set_aside : goal.returns-then-is_set_aside
returns-then-is_set_aside c = λ q m. absurd (false≢true (sym m.0 ∙ sym c.is_set_aside.ensures ∙ c.if-is_set_aside.true))

pub returns : goal.returns
returns c =
    let p = c.args.«package».now in
    let all = c.args.index.now in
    let read = sym c.is_set_aside.ensures ∙ c.if-is_set_aside.false in
    IfOk-weaker c.first_in_package.result (IsFirst (PackageBreaks p)) (IsFirst (DeclarationsBreak all p))
    (λ (a : Option Refusal). λ h. first_same (PackageBreaks p) (DeclarationsBreak all p) a (λ r b. (read, b)) (λ r b. b.1) h) c.first_in_package.ensures
