use Rattle.std.proofs.Common.{ap, ◌∙◌}
use Rattle.ag_symbols.specs.Seen.{Names, sought, node_of}
use Rattle.ag_symbols.proofs.Placing.{node_at}
use Rattle.ag_symbols.proofs.sight.Sight.node_of.Goals as goal

pub returns : goal.returns
returns c =
    c.of_path.ensures ∙ node_at (sought c.args.path.now c.args.path.now.«package») c.self.inside.nodes.now
    ∙ ap (λ (s : Names). node_of s c.args.path.now) c.self.view_is
