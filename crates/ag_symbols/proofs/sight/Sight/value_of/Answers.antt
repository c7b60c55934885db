use Rattle.std.proofs.Common.{ap, ◌∙◌}
use Rattle.ag_symbols.specs.Seen.{Names, sought, value_of}
use Rattle.ag_symbols.proofs.Placing.{among_streams, among_constants}
use Rattle.ag_symbols.proofs.sight.Sight.value_of.Goals as goal

pub returns-in-Some : goal.returns-in-Some
returns-in-Some c =
    among_streams (sought c.args.path.now c.args.path.now.«package») c.self.inside.streams.now c.self.inside.constants.now c.in-Some.stream.now c.in-Some.ensures
    ∙ ap (λ (s : Names). value_of s c.args.path.now) c.self.view_is

pub returns-in-None : goal.returns-in-None
returns-in-None c =
    among_constants (sought c.args.path.now c.args.path.now.«package») c.self.inside.streams.now c.self.inside.constants.now _ c.in-None.ensures c.of_path-in-None.ensures
    ∙ ap (λ (s : Names). value_of s c.args.path.now) c.self.view_is
