use Rattle.ag_aadl.proofs.Ends.{first-misnamed, misnamed-refused, declarations-named, packages-named}
use Rattle.ag_aadl.proofs.Shapes.{declaration-parts, package-parts}
use Rattle.ag_aadl.proofs.laws.ends_named.Goals as goal

pub returns-clause-declaration : goal.returns-clause-declaration
returns-clause-declaration c = declarations-named

pub returns-clause-package : goal.returns-clause-package
returns-clause-package c = packages-named

pub returns-clause-refused : goal.returns-clause-refused
returns-clause-refused c = first-misnamed

pub returns-clause-broken : goal.returns-clause-broken
returns-clause-broken c = misnamed-refused

pub returns-clause-declaration_parts : goal.returns-clause-declaration_parts
returns-clause-declaration_parts c = declaration-parts

pub returns-clause-package_parts : goal.returns-clause-package_parts
returns-clause-package_parts c = package-parts
