use Rattle.std.proofs.Common.{◌≡◌, drop}
use Rattle.ag_print.specs.Canonical.{canonical_lines}
use Rattle.ag_print.specs.Shares.{shares}
use Rattle.ag_print.specs.Written.{nothing, with_lines}
use Rattle.ag_print.proofs.print.write_packages.Given as goal

abbrev pub invariant-loop-package : goal.invariant-loop-package
invariant-loop-package l = with_lines l.writer (canonical_lines (drop l.package-index l.packages) (shares (drop l.package-index l.packages) l.rest)) ≡ with_lines nothing (canonical_lines l.packages (shares l.packages l.clauses))
