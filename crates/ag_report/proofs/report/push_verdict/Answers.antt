use Rattle.std.proofs.Common.{◌++◌, ◌∙◌, sym, ap, decimal, codes}
use Rattle.std.specs.String.{string_bytes}
use Rattle.ag_report.specs.Texts.{verdict_text, why_text}
use Rattle.ag_report.proofs.Steps.{two_more}
use Rattle.ag_report.proofs.report.push_verdict.Goals as goal

pub returns-in_ok-push_why-in-Unknown : goal.returns-in_ok-push_why-in-Unknown
returns-in_ok-push_why-in-Unknown c =
    two_more (codes "unknown depth=" ++ decimal c.in-Unknown.depth ++ codes " limit=") (why_text c.args.ports.now c.in-Unknown.why) _ _ _ c.in_ok-push_depth-in-Unknown.ensures c.in_ok-push_why-in-Unknown.ensures
    ∙ sym (ap (λ v. string_bytes c.args.text.now ++ verdict_text c.args.ports.now c.args.sought v) c.in-Unknown.is)
