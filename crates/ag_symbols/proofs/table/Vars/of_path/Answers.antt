use Rattle.ag_symbols.specs.Seen.{sought}
use Rattle.ag_symbols.proofs.Placing.{path_missed, path_found}
use Rattle.ag_symbols.proofs.table.Vars.of_path.Goals as goal

pub returns-in-None : goal.returns-in-None
returns-in-None c = path_missed (sought c.args.path.now c.args.path.now.«package») c.args.self.now c.in-None.ensures

pub returns-in-Some : goal.returns-in-Some
returns-in-Some c = path_found (sought c.args.path.now c.args.path.now.«package») c.args.self.now c.in-Some.at _ c.in-Some.ensures c.get.ensures
