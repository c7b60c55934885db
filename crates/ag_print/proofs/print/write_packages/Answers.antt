use Rattle.std.proofs.Common.{◌≡◌, ap, sym, ◌∙◌}
use Rattle.std.proofs.lemmas.List.{drop_all}
use Rattle.ag_print.specs.Written.{nothing, with_lines}
use Rattle.ag_print.specs.Canonical.{canonical_lines}
use Rattle.ag_print.specs.Shares.{shares}
use Rattle.ag_print.proofs.Sharing.{packages_written}
use Rattle.ag_print.proofs.Writing.{all_written}
use Rattle.ag_print.proofs.print.write_packages.Goals as goal

pub loop-package-preserved : goal.loop-package-preserved
loop-package-preserved c =
    packages_written c.args.packages.now c.loop-package.package-index c.package-item.result c.loop-package.rest.now _ c.loop-package.writer c.write_package.new.writer _ c.loop-package-test.true c.package-item.is
    c.in_ok-rest.ensures.rest c.in_ok-rest.ensures.written c.loop-package.invariant

pub returns : goal.returns
returns c =
    let packages = c.args.packages.now in
    let none = drop_all c.loop-package.package-index packages c.loop-package-test.false in
    let lines = canonical_lines packages (shares packages c.args.clauses.now) in
    let whole : c.loop-package.writer ≡ with_lines nothing lines =
    sym (ap (λ ps. with_lines c.loop-package.writer (canonical_lines ps (shares ps c.loop-package.rest.now))) none) ∙ c.loop-package.invariant in
    c.into_bytes.ensures ∙ all_written c.loop-package.writer lines whole
