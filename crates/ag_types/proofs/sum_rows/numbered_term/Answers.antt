-- A stream's number fits, and so does a factor that keeps its limit.
use Rattle.std.proofs.Common.{◌<◌, length, arith}
use Rattle.ag_symbols.specs.Seen.{names_seen}
use Rattle.ag_types.proofs.FormedRows.{number_within}
use Rattle.ag_types.proofs.NumberedRows.{stream_within, factor_back}
use Rattle.ag_types.proofs.sum_rows.numbered_term.Goals as goal

pub integers_before-requires : goal.integers_before-requires
integers_before-requires c =
    let streams = (names_seen c.args.scope.now).streams in
    let within : c.args.factor.now.stream < length streams = stream_within streams c.args.factor.now.stream c.requires.is_term.stream in
    omega arith

pub overflow_cast-result : goal.overflow_cast-result
overflow_cast-result c =
    let below = number_within (names_seen c.args.scope.now).streams c.args.factor.now.stream c.requires.is_term.stream in
    omega arith

pub returns : goal.returns
returns c =
    let factor = factor_back c.args.factor.now.factor c.requires.is_term.kept in
    cc
